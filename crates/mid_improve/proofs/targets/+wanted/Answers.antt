use Rattle.std.proofs.Common.{rules, arith, ◌≡◌, ℕ, Bool, true, false, List, length, suc, ◌+◌, ◌<◌, ◌≤◌, nat_lt, ltb-true, ◌-◌, ◌∷◌, drop, map, sym, ap, subst, ◌∙◌}
use Rattle.mid_code.specs.Code.{Stop}
use Rattle.mid_code.specs.Live.{Label, label, is_live}
use Rattle.mid_code.specs.Functions.{LoopN, MoreN, node, nodes, listed, before, joined}
use Rattle.mid_code.specs.declared.node.Node.{the_lemmas}
use Rattle.mid_live.specs.Sets.{on, room}
use Rattle.mid_live.specs.Labels.{labels_of}
use Rattle.mid_live.specs.Heads.{list_loops, ListTold}
use Rattle.mid_improve.specs.inner.Wanted.{Labels, live_set, list_wanted}
use Rattle.mid_live.proofs.Facts.{nodes_drop, live_node}
use Rattle.mid_live.proofs.Learned.{loops_turn}
use Rattle.mid_live.proofs.Turned.{head_again}
use Rattle.mid_improve.proofs.Wanting.{list_step, loop_wanted}
use Rattle.mid_improve.proofs.targets.+wanted.Goals as goal

pub walk_node-returns-in_ok-fine-in-Loop-clause-wanted : goal.walk_node-returns-in_ok-fine-in-Loop-clause-wanted
walk_node-returns-in_ok-fine-in-Loop-clause-wanted t c =
    let n : ℕ = c.args.count in
    let s = c.args.s.now in
    let ls : Labels = λ y. labels_of y c.args.m.now in
    let ms : Labels = λ y. labels_of y c.nested-around-in-Loop.result in
    let x = node c.args.n.now in
    let b = listed (map node c.as_slice-in-Loop-2.result.now) in
    let e : x ≡ LoopN b = search (rules, the_lemmas) in
    let same : nodes c.as_slice-in-Loop.result.now ≡ nodes c.as_slice-in-Loop-2.result.now = search rules in
    let ends : c.in_ok-ends-in-Loop.ends ≡ s = search rules in
    let again : c.head_of.new.s ≡ s = search rules in
    let g = c.in_ok-head-in-Loop.head in
    let w : n ≤ room s = c.requires.fits in
    let k : (y : ℕ) → nat_lt y n ≡ true → ms y ≡ label (live_set ls (before (LoopN b) Stop) (on s) y) (on s y) ∷ ls y = λ y h.
    let lt : y < n = ltb-true y n h in
    let at : on g y ≡ is_live y (label false (on s y) ∷ ls y) (joined b) (on s y) = c.in_ok-head-in-Loop.ensures.is y (omega (arith, lt, w)) ∙ ap (λ z. is_live y (label false (on s y) ∷ ls y) z (on s y)) same in
    c.nested-around-in-Loop.ensures y ∙ ap (λ z. label z (on c.in_ok-ends-in-Loop.ends y) ∷ ls y) at ∙ ap (λ z. label (live_set ls (before (LoopN b) Stop) (on s) y) (on z y) ∷ ls y) ends in
    loop_wanted n ls ms x b (on s) (on c.head_of.new.s) c.in_ok-fine-in-Loop.fine e k (ap on again) c.in_ok-fine-in-Loop.ensures.wanted

pub walk_node-returns-in_ok-fine-in-Loop-clause-is : goal.walk_node-returns-in_ok-fine-in-Loop-clause-is
walk_node-returns-in_ok-fine-in-Loop-clause-is t c = λ y g.
    let s = c.args.s.now in
    let ls : List Label = labels_of y c.args.m.now in
    let ms : List Label = labels_of y c.nested-around-in-Loop.result in
    let j : Bool = on s y in
    let b = listed (map node c.as_slice-in-Loop-2.result.now) in
    let e : node c.args.n.now ≡ LoopN b = search (rules, the_lemmas) in
    let same : nodes c.as_slice-in-Loop.result.now ≡ nodes c.as_slice-in-Loop-2.result.now = search rules in
    let ends : c.in_ok-ends-in-Loop.ends ≡ s = search rules in
    let again : c.head_of.new.s ≡ s = search rules in
    let h : Bool = on c.in_ok-head-in-Loop.head y in
    let head = c.in_ok-head-in-Loop.ensures.is y g ∙ ap (λ z. is_live y (label false j ∷ ls) z j) same in
    let labels = c.nested-around-in-Loop.ensures y ∙ ap (λ z. label h (on z y) ∷ ls) ends in
    let turn = c.in_ok-fine-in-Loop.ensures.is y (let l = ap length again in omega (arith, g, l)) ∙ ap (λ z. is_live y ms (joined b) (on z y)) again in
    head_again y ls ms (joined b) j h (on c.walk_nodes-in-Loop.new.s y) head labels turn ∙ head ∙ ap (λ z. is_live y ls (before z Stop) j) (sym e)

pub walk_nodes-loop-i-preserved : goal.walk_nodes-loop-i-preserved
walk_nodes-loop-i-preserved t c =
    let n : ℕ = c.args.count in
    let s = c.args.s.now in
    let ns = c.args.ns.now in
    let ls : Labels = λ y. labels_of y c.args.m.now in
    let i = c.loop-i.invariant in
    let e = c.in_ok-here.ensures in
    let x = c.index-ns-i.result in
    let rest = listed (map node (drop c.loop-i.i ns)) in
    let w : n ≤ room s = c.requires.fits in
    let j : listed (map node (drop (c.loop-i.i - 1) ns)) ≡ MoreN (node x) rest = nodes_drop ns c.loop-i.i x (omega (arith, c.loop-i-test.true)) (let p = c.loop-i-test.true in let r = i.bound in omega (arith, p, r)) c.index-ns-i.is in
    record {
      bound = (let r = i.bound in omega (arith, r));
      len = e.len ∙ i.len;
      next = loops_turn ns c.loop-i.i c.args.next.now c.loop-i.next c.walk_node.new.next x j i.next e.next;
      is = λ y h.
          e.is y (omega (arith, h, e.len)) ∙ ap (λ z. is_live y (ls y) (before (node x) Stop) z) (i.is y (omega (arith, h, e.len))) ∙ sym (live_node (node x) y (ls y) (joined rest) (on s y)) ∙ ap (λ z. is_live y (ls y) (joined z) (on s y)) (sym j);
      wanted = c.both-fine.ensures ∙ list_step n ls (node x) rest (on s) (on c.loop-i.s) c.in_ok-here.here c.loop-i.fine (λ y h. let lt : y < n = ltb-true y n h in i.is y (let l = i.len in omega (arith, lt, w, l))) e.wanted i.wanted ∙ ap (λ z. list_wanted n ls z (on s)) (sym j);
    }

pub walk_nodes-told_each-requires-clause-told : goal.walk_nodes-told_each-requires-clause-told
walk_nodes-told_each-requires-clause-told t c = λ w e. subst (λ z. ListTold z c.args.heads.now c.args.next.now (listed (map node c.args.ns.now))) (sym (e ∙ c.loop-i.invariant.len)) c.requires.told

pub walk_nodes-told_each-requires-clause-after : goal.walk_nodes-told_each-requires-clause-after
walk_nodes-told_each-requires-clause-after t c =
    let h = c.loop-i-test.true in
    let j : c.loop-i.i ≡ suc (c.loop-i.i - 1) = omega (arith, h) in
    c.loop-i.invariant.next ∙ ap (λ z. list_loops (listed (map node (drop z c.args.ns.now))) + c.args.next.now) j
