use Rattle.std.proofs.Common.{rules, arith, ◌≡◌, ◌<◌, ◌-◌, ◌+◌, ◌||◌, suc, Bool, false, List, ◌∷◌, map, eqb, length, drop, refl, sym, ap, subst, ◌∙◌}
use Rattle.mid_code.specs.Code.{Stop}
use Rattle.mid_code.specs.Live.{Label, label, is_live}
use Rattle.mid_code.specs.Spans.{places}
use Rattle.mid_code.specs.Functions.{node, nodes, listed, before, joined, NoN, ChooseN, BlockN, LoopN}
use Rattle.mid_code.specs.declared.node.Node.{the_lemmas}
use Rattle.mid_live.specs.Sets.{on, room}
use Rattle.mid_live.specs.Heads.{list_loops, ListTold}
use Rattle.mid_live.specs.Labels.{labels_of}
use Rattle.reg_choose.specs.inner.Trails.{stood}
use Rattle.reg_choose.specs.inner.Sparse.{ceases, sparse}
use Rattle.reg_choose.specs.inner.Seen.{seen}
use Rattle.mid_live.proofs.Facts.{nodes_drop, live_node}
use Rattle.reg_choose.proofs.Trailed.{no_nodes, choose_live, places_node}
use Rattle.reg_choose.proofs.Walked.{seen_stood, seen_step, choose_seen, block_seen, loop_seen}
use Rattle.mid_live.proofs.Learned.{loops_turn}
use Rattle.mid_live.proofs.Turned.{head_again}
use Rattle.reg_choose.proofs.spans.+walk.Goals as goal

pub walk_node-returns-in_ok-first-in-Choose-clause-trails : goal.walk_node-returns-in_ok-first-in-Choose-clause-trails
walk_node-returns-in_ok-first-in-Choose-clause-trails t c = λ y h.
    let ls : List Label = labels_of y c.args.m.now in
    let j : Bool = on c.args.sets.now.live y in
    let a = listed (map node c.as_slice-in-Choose-2.result.now) in
    let b = listed (map node c.as_slice-in-Choose.result.now) in
    let p = c.in-Choose.p in
    let e : node c.args.x.now ≡ ChooseN p a b = search (rules, the_lemmas) in
    let l0 = c.requires.sizes in
    let g : y < room c.args.sets.now.live = omega (arith, h, l0) in
    let other : c.in_ok-other-in-Choose.other ≡ c.walk_nodes-in-Choose.new.sets.live = search rules in
    let again : c.restore.new.self ≡ c.args.sets.now.live = search rules in
    let k : y < room c.restore.new.self = (let q = ap length again in omega (arith, g, q)) in
    let sa : on c.walk_nodes-in-Choose-2.new.sets.live y ≡ is_live y ls (joined a) j = c.in_ok-inside-in-Choose.ensures.live y k ∙ ap (λ z. is_live y ls (joined a) (on z y)) again in
    let so : on c.in_ok-other-in-Choose.other y ≡ is_live y ls (joined b) j = ap (λ z. on z y) other ∙ c.in_ok-between-in-Choose.ensures.live y g in
    let l1 = c.in_ok-inside-in-Choose.ensures.len in
    let w : on c.join-in-Choose.new.self y ≡ (on c.walk_nodes-in-Choose-2.new.sets.live y || on c.in_ok-other-in-Choose.other y) = c.join-in-Choose.ensures.is y (omega (arith, k, l1)) in
    let l2 = c.join-in-Choose.ensures.len in
    let v : on c.put-in-Choose.new.self y ≡ (eqb p y || on c.join-in-Choose.new.self y) = c.put-in-Choose.ensures.is y (omega (arith, k, l1, l2)) in
    let live = choose_live y ls (node c.args.x.now) p a b j (on c.walk_nodes-in-Choose-2.new.sets.live y) (on c.in_ok-other-in-Choose.other y) (on c.join-in-Choose.new.self y) (on c.put-in-Choose.new.self y) e sa so w v in
    let n = c.in_ok-first-in-Choose.first in
    let inside = c.in_ok-inside-in-Choose.inside in
    let between = c.in_ok-between-in-Choose.between in
    let more = c.args.at.more in
    let r = seen c.args.trails.now c.args.sets.now.crossed y in
    let cs = c.walk_nodes-in-Choose-2.new.sets.crossed in
    let s1 = seen c.walk_nodes-in-Choose.new.trails c.walk_nodes-in-Choose.new.sets.crossed y in
    let t1 = seen c.walk_nodes-in-Choose-2.new.trails cs y in
    let u1 = seen c.cease_before-in-Choose.new.trails cs y in
    let m1 = c.in_ok-between-in-Choose.ensures.trails_len in
    let m2 = c.in_ok-inside-in-Choose.ensures.trails_len in
    let m3 = c.in_ok-first-in-Choose.ensures.len in
    let behind : c.in_ok-behind-in-Choose.behind ≡ c.args.sets.now.live = search rules in
    let one : s1 ≡ sparse y ls (joined b) j false between r = c.in_ok-between-in-Choose.ensures.trails y h in
    let two : t1 ≡ sparse y ls (joined a) j false inside s1 = c.in_ok-inside-in-Choose.ensures.trails y (omega (arith, h, m1)) ∙ ap (λ z. sparse y ls (joined a) (on z y) false inside s1) again in
    let three : u1 ≡ stood (ceases (on c.put-in-Choose.new.self y) j more) c.args.at.place t1 = seen_stood c.walk_nodes-in-Choose-2.new.trails c.cease_before-in-Choose.new.trails cs y (ceases (on c.put-in-Choose.new.self y) (on c.in_ok-behind-in-Choose.behind y) more) c.args.at.place (c.in_ok-first-in-Choose.ensures.is y (omega (arith, h, m1, m2))) ∙ ap (λ z. stood (ceases (on c.put-in-Choose.new.self y) (on z y) more) c.args.at.place t1) behind in
    let four : seen c.stand_one-in-Choose.new.trails cs y ≡ stood (eqb p y || false) n u1 = seen_stood c.cease_before-in-Choose.new.trails c.stand_one-in-Choose.new.trails cs y (eqb p y || false) n (c.stand_one-in-Choose.ensures.is y (omega (arith, h, m1, m2, m3))) in
    choose_seen (node c.args.x.now) y ls p a b j (on c.put-in-Choose.new.self y) more n inside between c.args.at.place r s1 t1 u1 (seen c.stand_one-in-Choose.new.trails cs y) e live c.in_ok-first-in-Choose.ensures.place c.in_ok-inside-in-Choose.ensures.place c.in_ok-between-in-Choose.ensures.place one two three four

pub walk_node-returns-in_default-clause-trails : goal.walk_node-returns-in_default-clause-trails
walk_node-returns-in_default-clause-trails t c = λ y h.
    let ls : List Label = labels_of y c.args.m.now in
    let j : Bool = on c.args.sets.now.live y in
    let a = listed (map node c.as_slice-in_default.result.now) in
    let b = listed (map node c.as_slice.result.now) in
    let p = c.in-Choose.p in
    let whole : node c.args.x.now ≡ ChooseN p a b = search (rules, the_lemmas) in
    let none : length c.as_slice.result.now ≡ 0 = search rules in
    let e : node c.args.x.now ≡ ChooseN p a NoN = whole ∙ ap (ChooseN p a) (no_nodes c.as_slice.result.now none) in
    let l0 = c.requires.sizes in
    let g : y < room c.args.sets.now.live = omega (arith, h, l0) in
    let behind : c.in_ok-behind-in-Choose.behind ≡ c.args.sets.now.live = search rules in
    let l1 = c.in_ok-one-in-Choose.ensures.len in
    let l2 = c.join.ensures.len in
    let sa = c.in_ok-one-in-Choose.ensures.live y g in
    let so : on c.in_ok-behind-in-Choose.behind y ≡ j = ap (λ z. on z y) behind in
    let w : on c.join.new.self y ≡ (on c.walk_nodes.new.sets.live y || on c.in_ok-behind-in-Choose.behind y) = c.join.ensures.is y (omega (arith, g, l1)) in
    let v : on c.put.new.self y ≡ (eqb p y || on c.join.new.self y) = c.put.ensures.is y (omega (arith, g, l1, l2)) in
    let live = choose_live y ls (node c.args.x.now) p a NoN j (on c.walk_nodes.new.sets.live y) (on c.in_ok-behind-in-Choose.behind y) (on c.join.new.self y) (on c.put.new.self y) e sa so w v in
    let n = c.in_ok-begun-in-Choose.begun in
    let inside = c.in_ok-one-in-Choose.one in
    let place = c.args.at.place in
    let more = c.args.at.more in
    let r = seen c.args.trails.now c.args.sets.now.crossed y in
    let cs = c.walk_nodes.new.sets.crossed in
    let t1 = seen c.walk_nodes.new.trails cs y in
    let u1 = seen c.cease_before.new.trails cs y in
    let m1 = c.in_ok-one-in-Choose.ensures.trails_len in
    let m2 = c.in_ok-begun-in-Choose.ensures.len in
    let one : t1 ≡ sparse y ls (joined a) j false inside r = c.in_ok-one-in-Choose.ensures.trails y h in
    let two : u1 ≡ stood (ceases (on c.put.new.self y) j more) place t1 = seen_stood c.walk_nodes.new.trails c.cease_before.new.trails cs y (ceases (on c.put.new.self y) (on c.in_ok-behind-in-Choose.behind y) more) place (c.in_ok-begun-in-Choose.ensures.is y (omega (arith, h, m1))) ∙ ap (λ z. stood (ceases (on c.put.new.self y) (on z y) more) place t1) behind in
    let three : seen c.stand_one.new.trails cs y ≡ stood (eqb p y || false) n u1 = seen_stood c.cease_before.new.trails c.stand_one.new.trails cs y (eqb p y || false) n (c.stand_one.ensures.is y (omega (arith, h, m1, m2))) in
    choose_seen (node c.args.x.now) y ls p a NoN j (on c.put.new.self y) more n inside place place r r t1 u1 (seen c.stand_one.new.trails cs y) e live c.in_ok-begun-in-Choose.ensures.place c.in_ok-one-in-Choose.ensures.place (omega arith) refl one two three

pub walk_node-returns-in_ok-first-in-Block-clause-trails : goal.walk_node-returns-in_ok-first-in-Block-clause-trails
walk_node-returns-in_ok-first-in-Block-clause-trails t c = λ y h.
    let ls : List Label = labels_of y c.args.m.now in
    let j : Bool = on c.args.sets.now.live y in
    let b = listed (map node c.as_slice-in-Block.result.now) in
    let e : node c.args.x.now ≡ BlockN b = search (rules, the_lemmas) in
    let l0 = c.requires.sizes in
    let g : y < room c.args.sets.now.live = omega (arith, h, l0) in
    let more = c.args.at.more in
    let ends : c.in_ok-ends-in-Block.ends ≡ c.args.sets.now.live = search rules in
    let i1 : labels_of y c.nested-around.result ≡ label false j ∷ ls = c.nested-around.ensures y ∙ ap (λ z. label z (on c.in_ok-ends-in-Block.ends y) ∷ ls) (c.none-begins.ensures y) ∙ ap (λ z. label false (on z y) ∷ ls) ends in
    let v = on c.walk_nodes-in-Block.new.sets.live y in
    let live = c.in_ok-inside-in-Block.ensures.live y g ∙ ap (λ z. is_live y z (joined b) j) i1 ∙ ap (λ z. is_live y ls (before z Stop) j) (sym e) in
    let n = c.in_ok-first-in-Block.first in
    let inside = c.in_ok-inside-in-Block.inside in
    let r = seen c.args.trails.now c.args.sets.now.crossed y in
    let cs = c.walk_nodes-in-Block.new.sets.crossed in
    let s1 = seen c.walk_nodes-in-Block.new.trails cs y in
    let u1 = seen c.cease_before-in-Block.new.trails cs y in
    let m1 = c.in_ok-inside-in-Block.ensures.trails_len in
    let one : s1 ≡ sparse y (label false j ∷ ls) (joined b) j false inside r = c.in_ok-inside-in-Block.ensures.trails y h ∙ ap (λ z. sparse y z (joined b) j false inside r) i1 in
    let two : u1 ≡ stood (ceases v j more) c.args.at.place s1 = seen_stood c.walk_nodes-in-Block.new.trails c.cease_before-in-Block.new.trails cs y (ceases v (on c.in_ok-ends-in-Block.ends y) more) c.args.at.place (c.in_ok-first-in-Block.ensures.is y (omega (arith, h, m1))) ∙ ap (λ z. stood (ceases v (on z y) more) c.args.at.place s1) ends in
    block_seen (node c.args.x.now) y ls b j v more n inside c.args.at.place r s1 u1 e live c.in_ok-first-in-Block.ensures.place c.in_ok-inside-in-Block.ensures.place one two

pub walk_node-returns-in_ok-first-in-Loop-clause-trails : goal.walk_node-returns-in_ok-first-in-Loop-clause-trails
walk_node-returns-in_ok-first-in-Loop-clause-trails t c = λ y h.
    let ls : List Label = labels_of y c.args.m.now in
    let j : Bool = on c.args.sets.now.live y in
    let b = listed (map node c.as_slice-in-Loop-2.result.now) in
    let e : node c.args.x.now ≡ LoopN b = search (rules, the_lemmas) in
    let l0 = c.requires.sizes in
    let g : y < room c.args.sets.now.live = omega (arith, h, l0) in
    let more = c.args.at.more in
    let same : nodes c.as_slice-in-Loop.result.now ≡ nodes c.as_slice-in-Loop-2.result.now = search rules in
    let ends : c.in_ok-ends-in-Loop.ends ≡ c.args.sets.now.live = search rules in
    let again : c.head_of.new.s ≡ c.args.sets.now.live = search rules in
    let v = on c.walk_nodes-in-Loop.new.sets.live y in
    let head = c.in_ok-head-in-Loop.ensures.is y g ∙ ap (λ z. is_live y (label false j ∷ ls) z j) same in
    let labels = c.nested-around-in-Loop.ensures y ∙ ap (λ z. label (on c.in_ok-head-in-Loop.head y) (on z y) ∷ ls) ends in
    let turn = c.in_ok-inside-in-Loop.ensures.live y (let l = ap length again in omega (arith, g, l)) ∙ ap (λ z. is_live y (labels_of y c.nested-around-in-Loop.result) (joined b) (on z y)) again in
    let is : v ≡ on c.in_ok-head-in-Loop.head y = head_again y ls (labels_of y c.nested-around-in-Loop.result) (joined b) j (on c.in_ok-head-in-Loop.head y) v head labels turn in
    let live = is ∙ head ∙ ap (λ z. is_live y ls (before z Stop) j) (sym e) in
    let i1 : labels_of y c.nested-around-in-Loop.result ≡ label v j ∷ ls = c.nested-around-in-Loop.ensures y ∙ ap (λ z. label z (on c.in_ok-ends-in-Loop.ends y) ∷ ls) (sym is) ∙ ap (λ z. label v (on z y) ∷ ls) ends in
    let n = c.in_ok-first-in-Loop.first in
    let inside = c.in_ok-inside-in-Loop.inside in
    let r = seen c.args.trails.now c.args.sets.now.crossed y in
    let cs = c.walk_nodes-in-Loop.new.sets.crossed in
    let s1 = seen c.walk_nodes-in-Loop.new.trails cs y in
    let u1 = seen c.cease_before-in-Loop.new.trails cs y in
    let m1 = c.in_ok-inside-in-Loop.ensures.trails_len in
    let one : s1 ≡ sparse y (label v j ∷ ls) (joined b) j false inside r = c.in_ok-inside-in-Loop.ensures.trails y h ∙ ap (λ z. sparse y (labels_of y c.nested-around-in-Loop.result) (joined b) (on z y) false inside r) again ∙ ap (λ z. sparse y z (joined b) j false inside r) i1 in
    let two : u1 ≡ stood (ceases v j more) c.args.at.place s1 = seen_stood c.walk_nodes-in-Loop.new.trails c.cease_before-in-Loop.new.trails cs y (ceases v (on c.in_ok-ends-in-Loop.ends y) more) c.args.at.place (c.in_ok-first-in-Loop.ensures.is y (omega (arith, h, m1))) ∙ ap (λ z. stood (ceases v (on z y) more) c.args.at.place s1) ends in
    loop_seen (node c.args.x.now) y ls b j v more n inside c.args.at.place r s1 u1 e live c.in_ok-first-in-Loop.ensures.place c.in_ok-inside-in-Loop.ensures.place one two

pub walk_node-returns-in_ok-first-in-Loop-clause-live : goal.walk_node-returns-in_ok-first-in-Loop-clause-live
walk_node-returns-in_ok-first-in-Loop-clause-live t c = λ y g.
    let ls : List Label = labels_of y c.args.m.now in
    let j : Bool = on c.args.sets.now.live y in
    let b = listed (map node c.as_slice-in-Loop-2.result.now) in
    let e : node c.args.x.now ≡ LoopN b = search (rules, the_lemmas) in
    let same : nodes c.as_slice-in-Loop.result.now ≡ nodes c.as_slice-in-Loop-2.result.now = search rules in
    let ends : c.in_ok-ends-in-Loop.ends ≡ c.args.sets.now.live = search rules in
    let again : c.head_of.new.s ≡ c.args.sets.now.live = search rules in
    let h : Bool = on c.in_ok-head-in-Loop.head y in
    let ms : List Label = labels_of y c.nested-around-in-Loop.result in
    let head = c.in_ok-head-in-Loop.ensures.is y g ∙ ap (λ z. is_live y (label false j ∷ ls) z j) same in
    let labels = c.nested-around-in-Loop.ensures y ∙ ap (λ z. label h (on z y) ∷ ls) ends in
    let turn = c.in_ok-inside-in-Loop.ensures.live y (let l = ap length again in omega (arith, g, l)) ∙ ap (λ z. is_live y ms (joined b) (on z y)) again in
    head_again y ls ms (joined b) j h (on c.walk_nodes-in-Loop.new.sets.live y) head labels turn ∙ head ∙ ap (λ z. is_live y ls (before z Stop) j) (sym e)

pub walk_nodes-loop-i-preserved : goal.walk_nodes-loop-i-preserved
walk_nodes-loop-i-preserved t c =
    let i = c.loop-i.invariant in
    let e = c.in_ok-first.ensures in
    let x = node c.index-ns-i.result in
    let d = nodes (drop c.loop-i.i c.args.ns.now) in
    let j : nodes (drop (c.loop-i.i - 1) c.args.ns.now) ≡ before x d = ap joined (nodes_drop c.args.ns.now c.loop-i.i c.index-ns-i.result (omega (arith, c.loop-i-test.true)) (let p = c.loop-i-test.true in let r = i.bound in omega (arith, p, r)) c.index-ns-i.is) in
    let k = ap places j in
    let m = places_node x d in
    record {
      bound = (let p = i.bound in omega (arith, p));
      len = e.len ∙ i.len;
      trails_len = e.trails_len ∙ i.trails_len;
      crossed_len = e.crossed_len ∙ i.crossed_len;
      live = λ y h. (let l = e.len in e.live y (omega (arith, h, l)) ∙ ap (λ z. is_live y (labels_of y c.args.m.now) (before x Stop) z) (i.live y (omega (arith, h, l))) ∙ sym (live_node x y (labels_of y c.args.m.now) d (on c.args.sets.now.live y)) ∙ ap (λ z. is_live y (labels_of y c.args.m.now) z (on c.args.sets.now.live y)) (sym j));
      next = loops_turn c.args.ns.now c.loop-i.i c.args.next.now c.loop-i.next c.walk_node.new.next c.index-ns-i.result (nodes_drop c.args.ns.now c.loop-i.i c.index-ns-i.result (omega (arith, c.loop-i-test.true)) (let p = c.loop-i-test.true in let r = i.bound in omega (arith, p, r)) c.index-ns-i.is) i.next e.next;
      place = (let p = e.place in let q = i.place in omega (arith, k, m, p, q));
      trails = λ y h. (
          let l = e.trails_len in
          let h' : y < length c.loop-i.trails = omega (arith, h, l) in
          let a = i.trails_len in
          let b = i.len in
          let q = c.requires.sizes in
          let g = i.live y (omega (arith, h', a, b, q)) in
          seen_step x y (labels_of y c.args.m.now) d (nodes (drop (c.loop-i.i - 1) c.args.ns.now)) (on c.args.sets.now.live y) (on c.loop-i.sets.live y) c.more_from-more.result c.in_ok-first.first c.loop-i.first (seen c.args.trails.now c.args.sets.now.crossed y) (seen c.loop-i.trails c.loop-i.sets.crossed y) (seen c.walk_node.new.trails c.walk_node.new.sets.crossed y) j e.place g c.more_from-more.ensures (i.trails y h') (e.trails y h'));
    }

pub walk_nodes-told_each-requires-clause-told : goal.walk_nodes-told_each-requires-clause-told
walk_nodes-told_each-requires-clause-told t c = λ w e. subst (λ z. ListTold z c.args.by.now.heads.now c.args.next.now (listed (map node c.args.ns.now))) (sym (e ∙ c.loop-i.invariant.len)) c.requires.told

pub walk_nodes-told_each-requires-clause-after : goal.walk_nodes-told_each-requires-clause-after
walk_nodes-told_each-requires-clause-after t c =
    let h = c.loop-i-test.true in
    let j : c.loop-i.i ≡ suc (c.loop-i.i - 1) = omega (arith, h) in
    c.loop-i.invariant.next ∙ ap (λ z. list_loops (listed (map node (drop z c.args.ns.now))) + c.args.next.now) j
