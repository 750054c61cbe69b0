use Rattle.std.proofs.Common.{arith, ◌≡◌, ◌-◌, ◌+◌, ◌||◌, eqb, Bool, true, false, refl, suc, sym, ap, subst, ◌∙◌, drop, map, length}
use Rattle.mid_code.specs.Code.{Stop, Choose}
use Rattle.mid_code.specs.Live.{is_live, live_before, begins_of}
use Rattle.mid_code.specs.Functions.{node, nodes, listed, before, joined}
use Rattle.mid_live.specs.Sets.{on}
use Rattle.mid_live.specs.Heads.{list_loops, ListTold}
use Rattle.mid_live.specs.Labels.{labels_of}
use Rattle.mid_live.proofs.Facts.{nodes_drop, live_node}
use Rattle.mid_live.proofs.Learned.{loops_turn}
use Rattle.mid_live.proofs.walk.+walk.Goals as goal

pub before_one_way-returns-in-Some-clause-next : goal.before_one_way-returns-in-Some-clause-next
before_one_way-returns-in-Some-clause-next t c =
    let e = ap list_loops c.in-Some.ensures in
    omega (arith, e)

pub before_one_way-returns-in-Some-clause-is : goal.before_one_way-returns-in-Some-clause-is
before_one_way-returns-in-Some-clause-is t c = λ y h.
    let l = c.join_begin.ensures.len in
    let j = on c.args.s.now y in
    let ls = labels_of y c.args.m.now in
    let put = c.put.ensures.is y (omega (arith, h, l)) ∙ ap (λ z. eqb c.args.p y || z) (c.join_begin.ensures.is y h) in
    put ∙ either (eqb c.args.p y) j (begins_of ls c.in-Some.k) ∙ sym (ap (λ z. is_live y ls (Choose c.args.p (joined z) Stop Stop) j) c.in-Some.ensures)
  where
    either : (p j b : Bool) → (p || (j || b)) ≡ live_before (p || false) false (b || j)
    either true j b = refl
    either false true true = refl
    either false true false = refl
    either false false true = refl
    either false false false = refl

pub before_nodes-loop-i-preserved : goal.before_nodes-loop-i-preserved
before_nodes-loop-i-preserved t c =
    let i = c.loop-i.invariant in
    let e = c.in_ok-after.ensures in
    let q = c.index-ns-i.is in
    let a : length c.before_node.new.s ≡ length c.args.s.now = e.len ∙ i.1 in
    let j = ap joined (nodes_drop c.args.ns.now c.loop-i.i c.index-ns-i.result (omega (arith, c.loop-i-test.true)) (let p = c.loop-i-test.true in let r = i.0 in omega (arith, p, r)) q) in
    let m = nodes_drop c.args.ns.now c.loop-i.i c.index-ns-i.result (omega (arith, c.loop-i-test.true)) (let p = c.loop-i-test.true in let r = i.0 in omega (arith, p, r)) q in
    (omega (arith, i.0), a, loops_turn c.args.ns.now c.loop-i.i c.args.next c.loop-i.after c.in_ok-after.after c.index-ns-i.result m i.2 e.next, λ y h. e.is y (omega (arith, h, e.len)) ∙ ap (λ z. is_live y (labels_of y c.args.m.now) (before (node c.index-ns-i.result) Stop) z) (i.3 y (omega (arith, h, e.len))) ∙ sym (live_node (node c.index-ns-i.result) y (labels_of y c.args.m.now) (nodes (drop c.loop-i.i c.args.ns.now)) (on c.args.s.now y)) ∙ ap (λ z. is_live y (labels_of y c.args.m.now) z (on c.args.s.now y)) (sym j))

pub before_nodes-told_each-requires-clause-told : goal.before_nodes-told_each-requires-clause-told
before_nodes-told_each-requires-clause-told t c = λ w e. subst (λ z. ListTold z c.args.heads.now c.args.next (listed (map node c.args.ns.now))) (sym (e ∙ c.loop-i.invariant.1)) c.requires.told

pub before_nodes-told_each-requires-clause-after : goal.before_nodes-told_each-requires-clause-after
before_nodes-told_each-requires-clause-after t c =
    let h = c.loop-i-test.true in
    let j : c.loop-i.i ≡ suc (c.loop-i.i - 1) = omega (arith, h) in
    c.loop-i.invariant.2 ∙ ap (λ z. list_loops (listed (map node (drop z c.args.ns.now))) + c.args.next) j
