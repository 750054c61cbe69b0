use Rattle.std.proofs.Common.{rules, arith, ◌≡◌, Some, None, ℕ, true, false, cond, suc, ◌+◌, ◌<◌, ◌≤◌, nat_lt, ltb-true, lt-ltb, ◌-◌, [], ◌∷◌, drop, map, length, set, get_or, refl, sym, ap, subst, ◌∙◌}
use Rattle.std.specs.List.{SwappedAt}
use Rattle.mid_code.specs.declared.node.Node.{Node, the_lemmas}
use Rattle.mid_code.specs.Live.{label, is_live}
use Rattle.mid_code.specs.Functions.{ChooseN, BlockN, LoopN, MoreN, node, nodes, listed, joined}
use Rattle.mid_live.specs.Sets.{on, room}
use Rattle.mid_live.specs.Labels.{labels_of}
use Rattle.mid_live.specs.Heads.{node_loops}
use Rattle.mid_improve.specs.inner.Wanted.{Labels, live_set, in_block, in_loop}
use Rattle.mid_improve.specs.inner.SweepListed.{node_left, list_left, node_swept, list_swept}
use Rattle.mid_live.proofs.Facts.{nodes_drop}
use Rattle.mid_live.proofs.Learned.{loops_turn, no_loops}
use Rattle.mid_improve.proofs.SweepJoined.{stays, choice_swept, loop_left, loop_swept, left_step, stays_step}
use Rattle.mid_improve.proofs.SweepPlaced.{no_nodes, none_left, told_first, told_next, kept_first, kept_others, gone_first, gone_others}
use Rattle.mid_improve.proofs.sweep.+sweep.Goals as goal

pub sweep_node-returns-in_default-clause-nodes : goal.sweep_node-returns-in_default-clause-nodes
sweep_node-returns-in_default-clause-nodes t c =
    let n : ℕ = c.args.by.now.count in
    let s = on c.args.s.now in
    let ls : Labels = λ y. labels_of y c.args.m.now in
    let a = listed (map node c.in-Choose.a) in
    let b = listed (map node c.in-Choose.b) in
    let e : node c.args.n.now ≡ ChooseN c.in-Choose.p a b = search (rules, the_lemmas) in
    let len : length c.as_slice.result.now ≡ 0 = search rules in
    let same : c.as_slice.result.now ≡ c.in-Choose.b = search rules in
    let none = sym same ∙ no_nodes c.as_slice.result.now len in
    choice_swept n ls (node c.args.n.now) _ c.in-Choose.p a b s s c.sweep_inside.new.b [] e (search (rules, the_lemmas)) refl (search rules) (ap (λ z. list_swept n ls (listed (map node z)) s) (sym none))

pub sweep_node-returns-in_ok-sweep_inside-in-Choose-3-clause-nodes : goal.sweep_node-returns-in_ok-sweep_inside-in-Choose-3-clause-nodes
sweep_node-returns-in_ok-sweep_inside-in-Choose-3-clause-nodes t c =
    let n : ℕ = c.args.by.now.count in
    let s = on c.args.s.now in
    let ls : Labels = λ y. labels_of y c.args.m.now in
    let a = listed (map node c.in-Choose.a) in
    let b = listed (map node c.in-Choose.b) in
    let e : node c.args.n.now ≡ ChooseN c.in-Choose.p a b = search (rules, the_lemmas) in
    choice_swept n ls (node c.args.n.now) _ c.in-Choose.p a b s s c.sweep_inside-in-Choose-2.new.b c.sweep_inside-in-Choose.new.b e (search (rules, the_lemmas)) refl (search rules) (search rules)

pub sweep_node-returns-in_ok-sweep_block-in-Block-clause-is : goal.sweep_node-returns-in_ok-sweep_block-in-Block-clause-is
sweep_node-returns-in_ok-sweep_block-in-Block-clause-is t c =
    let n : ℕ = c.args.by.now.count in
    let s = on c.args.s.now in
    let ls : Labels = λ y. labels_of y c.args.m.now in
    let e : node c.args.n.now ≡ BlockN (listed (map node c.in-Block.b)) = search (rules, the_lemmas) in
    λ y h. (let i : on c.sweep_block.new.s y ≡ node_left n ls (BlockN (listed (map node c.in-Block.b))) s y = search (rules, h) in i) ∙ sym (ap (λ z. node_left n ls z s y) e)

pub sweep_node-returns-in_ok-sweep_loop-in-Loop-clause-is : goal.sweep_node-returns-in_ok-sweep_loop-in-Loop-clause-is
sweep_node-returns-in_ok-sweep_loop-in-Loop-clause-is t c =
    let n : ℕ = c.args.by.now.count in
    let s = on c.args.s.now in
    let ls : Labels = λ y. labels_of y c.args.m.now in
    let e : node c.args.n.now ≡ LoopN (listed (map node c.in-Loop.b)) = search (rules, the_lemmas) in
    λ y h. (let i : on c.sweep_loop.new.s y ≡ node_left n ls (LoopN (listed (map node c.in-Loop.b))) s y = search (rules, h) in i) ∙ sym (ap (λ z. node_left n ls z s y) e)

pub sweep_node-returns-in_ok-sweep_loop-in-Loop-clause-nodes : goal.sweep_node-returns-in_ok-sweep_loop-in-Loop-clause-nodes
sweep_node-returns-in_ok-sweep_loop-in-Loop-clause-nodes t c =
    let n : ℕ = c.args.by.now.count in
    let s = on c.args.s.now in
    let ls : Labels = λ y. labels_of y c.args.m.now in
    let e : node c.args.n.now ≡ LoopN (listed (map node c.in-Loop.b)) = search (rules, the_lemmas) in
    let i : Some (LoopN (listed (map node c.sweep_loop.new.b))) ≡ node_swept n ls (LoopN (listed (map node c.in-Loop.b))) s = search rules in
    stays n ls (node c.args.n.now) _ _ (LoopN (listed (map node c.in-Loop.b))) s e (search (rules, the_lemmas)) i

pub sweep_loop-returns-clause-is : goal.sweep_loop-returns-clause-is
sweep_loop-returns-clause-is t c =
    let n : ℕ = c.args.by.now.count in
    let s = c.args.s.now in
    let ls : Labels = λ y. labels_of y c.args.m.now in
    let ms : Labels = λ y. labels_of y c.nested-around.result in
    let b = listed (map node c.args.b.now) in
    let same : nodes c.as_slice.result.now ≡ nodes c.args.b.now = search rules in
    let ends : c.in_ok-ends.ends ≡ s = search rules in
    let again : c.head_of.new.s ≡ s = search rules in
    let g = c.in_ok-head.head in
    let w : n ≤ room s = c.requires.fits in
    let k : (y : ℕ) → nat_lt y n ≡ true → ms y ≡ in_loop (live_set (in_block (on s) ls) (joined b) (on s)) (on s) ls y = λ y h.
    let lt : y < n = ltb-true y n h in
    let at : on g y ≡ is_live y (label false (on s y) ∷ ls y) (joined b) (on s y) = c.in_ok-head.ensures.is y (omega (arith, lt, w)) ∙ ap (λ z. is_live y (label false (on s y) ∷ ls y) z (on s y)) same in
    c.nested-around.ensures y ∙ ap (λ z. label z (on c.in_ok-ends.ends y) ∷ ls y) at ∙ ap (λ z. label (live_set (in_block (on s) ls) (joined b) (on s) y) (on z y) ∷ ls y) ends in
    loop_left n ls ms (LoopN b) b (on s) (on c.head_of.new.s) (on c.sweep_inside.new.s) refl k (ap on again) c.in_ok-sweep_inside.ensures.is

pub sweep_loop-returns-clause-nodes : goal.sweep_loop-returns-clause-nodes
sweep_loop-returns-clause-nodes t c =
    let n : ℕ = c.args.by.now.count in
    let s = c.args.s.now in
    let ls : Labels = λ y. labels_of y c.args.m.now in
    let ms : Labels = λ y. labels_of y c.nested-around.result in
    let b = listed (map node c.args.b.now) in
    let same : nodes c.as_slice.result.now ≡ nodes c.args.b.now = search rules in
    let ends : c.in_ok-ends.ends ≡ s = search rules in
    let again : c.head_of.new.s ≡ s = search rules in
    let g = c.in_ok-head.head in
    let w : n ≤ room s = c.requires.fits in
    let k : (y : ℕ) → nat_lt y n ≡ true → ms y ≡ in_loop (live_set (in_block (on s) ls) (joined b) (on s)) (on s) ls y = λ y h.
    let lt : y < n = ltb-true y n h in
    let at : on g y ≡ is_live y (label false (on s y) ∷ ls y) (joined b) (on s y) = c.in_ok-head.ensures.is y (omega (arith, lt, w)) ∙ ap (λ z. is_live y (label false (on s y) ∷ ls y) z (on s y)) same in
    c.nested-around.ensures y ∙ ap (λ z. label z (on c.in_ok-ends.ends y) ∷ ls y) at ∙ ap (λ z. label (live_set (in_block (on s) ls) (joined b) (on s) y) (on z y) ∷ ls y) ends in
    loop_swept n ls ms (LoopN b) (LoopN (listed (map node c.sweep_inside.new.b))) b (on s) (on c.head_of.new.s) c.sweep_inside.new.b refl k (ap on again) refl c.in_ok-sweep_inside.ensures.nodes

pub sweep_nodes-loop-i-init : goal.sweep_nodes-loop-i-init
sweep_nodes-loop-i-init t c =
    let n : ℕ = c.args.by.now.count in
    let s = c.args.s.now in
    let all = c.args.ns.now in
    let ls : Labels = λ y. labels_of y c.args.m.now in
    record {
      bound = omega arith;
      within = omega arith;
      same = refl;
      unvisited = λ k d lt. refl;
      len = refl;
      told = told_first (length s) c.args.next.now c.args.by.now.heads.now all c.requires.told;
      next = (let z = no_loops all in omega (arith, z));
      is = λ y h. ap (λ z. list_left n ls (listed (map node z)) (on s) y) (sym (none_left all));
      nodes = ap (map node) (none_left all) ∙ ap (λ z. list_swept n ls (listed (map node z)) (on s)) (sym (none_left all));
    }

pub sweep_nodes-loop-i-preserved-then-branch : goal.sweep_nodes-loop-i-preserved-then-branch
sweep_nodes-loop-i-preserved-then-branch t c =
    let n : ℕ = c.args.by.now.count in
    let s = c.args.s.now in
    let all = c.args.ns.now in
    let now = c.loop-i.ns in
    let ls : Labels = λ y. labels_of y c.args.m.now in
    let i = c.loop-i.invariant in
    let e = c.in_ok-sweep_node.ensures in
    let p : 0 < c.loop-i.i = omega (arith, c.loop-i-test.true) in
    let x = c.index-ns-i.result in
    let y = c.sweep_node.new.n in
    let least : c.loop-i.i ≤ length all = (let a = i.bound in let b = i.within in let f = i.same in omega (arith, a, b, f)) in
    let long : length c.swap.new.self ≡ length now = search rules in
    let swapped : SwappedAt (set now (c.loop-i.i - 1) y) c.swap.new.self (c.loop-i.i - 1) (c.loop-i.from - 1) = search rules in
    let old : get_or now (c.loop-i.i - 1) x ≡ x = sym c.index-ns-i.is in
    let here : x ≡ get_or all (c.loop-i.i - 1) x = sym old ∙ i.unvisited (c.loop-i.i - 1) x (omega (arith, p)) in
    let rest = listed (map node (drop c.loop-i.i all)) in
    let j : listed (map node (drop (c.loop-i.i - 1) all)) ≡ MoreN (node x) rest = nodes_drop all c.loop-i.i x p (omega (arith, p, least)) here in
    let agree : (y : ℕ) → nat_lt y n ≡ true → on c.loop-i.s y ≡ list_left n ls rest (on s) y = λ y h. i.is y (ltb-true y n h) in
    let others : (k : ℕ) (d : Node ℕ) → k < c.loop-i.i - 1 → get_or c.swap.new.self k d ≡ get_or all k d = λ k d lt. kept_others now c.swap.new.self y c.loop-i.i c.loop-i.from k d p i.bound swapped lt ∙ i.unvisited k d (omega (arith, lt)) in
    let next = loops_turn all c.loop-i.i c.args.next.now c.loop-i.next c.sweep_node.new.next x j i.next (e.next ∙ ap (λ z. node_loops (node z) + c.loop-i.next) old) in
    let len = e.len ∙ i.len in
    record {
      bound = (let r = i.bound in omega (arith, r));
      within = (let r = i.within in omega (arith, r, long));
      same = long ∙ i.same;
      unvisited = others;
      len = len;
      told = told_next (length s) (length c.sweep_node.new.s) c.args.next.now c.sweep_node.new.next (c.loop-i.i - 1) c.args.by.now.heads.now c.swap.new.self all len c.requires.told next (omega (arith, least)) others;
      next = next;
      is = λ y h. left_step n ls (node x) rest (on s) (on c.loop-i.s) (on c.sweep_node.new.s) agree (λ z g. e.is z (ltb-true z n g) ∙ ap (λ q. node_left n ls (node q) (on c.loop-i.s) z) old) y (lt-ltb y n h) ∙ ap (λ z. list_left n ls z (on s) y) (sym j);
      nodes = stays_step n ls (node x) rest (on s) (on c.loop-i.s) (Some (node y)) (map node (drop c.loop-i.from now)) _ agree
          (ap (λ b. cond b (Some (node y)) None) (sym c.if-branch.true) ∙ e.nodes ∙ ap (λ q. node_swept n ls (node q) (on c.loop-i.s)) old)
          (ap (map node) (kept_first now c.swap.new.self y c.loop-i.i c.loop-i.from p i.bound i.within long swapped)) i.nodes ∙ ap (λ z. list_swept n ls z (on s)) (sym j);
    }

pub sweep_nodes-loop-i-preserved : goal.sweep_nodes-loop-i-preserved
sweep_nodes-loop-i-preserved t c =
    let n : ℕ = c.args.by.now.count in
    let s = c.args.s.now in
    let all = c.args.ns.now in
    let now = c.loop-i.ns in
    let ls : Labels = λ y. labels_of y c.args.m.now in
    let i = c.loop-i.invariant in
    let e = c.in_ok-sweep_node.ensures in
    let p : 0 < c.loop-i.i = omega (arith, c.loop-i-test.true) in
    let x = c.index-ns-i.result in
    let y = c.sweep_node.new.n in
    let least : c.loop-i.i ≤ length all = (let a = i.bound in let b = i.within in let f = i.same in omega (arith, a, b, f)) in
    let long : length (set now (c.loop-i.i - 1) y) ≡ length now = search rules in
    let old : get_or now (c.loop-i.i - 1) x ≡ x = sym c.index-ns-i.is in
    let here : x ≡ get_or all (c.loop-i.i - 1) x = sym old ∙ i.unvisited (c.loop-i.i - 1) x (omega (arith, p)) in
    let rest = listed (map node (drop c.loop-i.i all)) in
    let j : listed (map node (drop (c.loop-i.i - 1) all)) ≡ MoreN (node x) rest = nodes_drop all c.loop-i.i x p (omega (arith, p, least)) here in
    let agree : (y : ℕ) → nat_lt y n ≡ true → on c.loop-i.s y ≡ list_left n ls rest (on s) y = λ y h. i.is y (ltb-true y n h) in
    let others : (k : ℕ) (d : Node ℕ) → k < c.loop-i.i - 1 → get_or (set now (c.loop-i.i - 1) y) k d ≡ get_or all k d = λ k d lt. gone_others now y c.loop-i.i k d lt ∙ i.unvisited k d (omega (arith, lt)) in
    let next = loops_turn all c.loop-i.i c.args.next.now c.loop-i.next c.sweep_node.new.next x j i.next (e.next ∙ ap (λ z. node_loops (node z) + c.loop-i.next) old) in
    let len = e.len ∙ i.len in
    record {
      bound = (let r = i.bound in omega (arith, r));
      within = (let r = i.within in omega (arith, r, long));
      same = long ∙ i.same;
      unvisited = others;
      len = len;
      told = told_next (length s) (length c.sweep_node.new.s) c.args.next.now c.sweep_node.new.next (c.loop-i.i - 1) c.args.by.now.heads.now (set now (c.loop-i.i - 1) y) all len c.requires.told next (omega (arith, least)) others;
      next = next;
      is = λ y h. left_step n ls (node x) rest (on s) (on c.loop-i.s) (on c.sweep_node.new.s) agree (λ z g. e.is z (ltb-true z n g) ∙ ap (λ q. node_left n ls (node q) (on c.loop-i.s) z) old) y (lt-ltb y n h) ∙ ap (λ z. list_left n ls z (on s) y) (sym j);
      nodes = stays_step n ls (node x) rest (on s) (on c.loop-i.s) None (map node (drop c.loop-i.from now)) _ agree
          (ap (λ b. cond b (Some (node y)) None) (sym c.if-branch.false) ∙ e.nodes ∙ ap (λ q. node_swept n ls (node q) (on c.loop-i.s)) old)
          (ap (map node) (gone_first now y c.loop-i.i c.loop-i.from p i.bound)) i.nodes ∙ ap (λ z. list_swept n ls z (on s)) (sym j);
    }
