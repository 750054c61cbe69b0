use Rattle.std.proofs.Common.{rules, arith, ◌≡◌, ◌-◌, ◌+◌, suc, drop, map, sym, ap, subst, ◌∙◌}
use Rattle.mid_code.specs.Functions.{node, nodes, listed, joined, ChooseN}
use Rattle.mid_code.specs.declared.node.Node.{the_lemmas}
use Rattle.mid_live.specs.Sets.{on}
use Rattle.mid_live.specs.Heads.{list_loops, ListTold}
use Rattle.mid_live.proofs.Facts.{nodes_drop}
use Rattle.mid_live.proofs.Learned.{loops_turn}
use Rattle.mid_live.proofs.Named.{named_turn, choose_named}
use Rattle.mid_live.proofs.names.+names.Goals as goal

pub name_nodes-loop-i-preserved : goal.name_nodes-loop-i-preserved
name_nodes-loop-i-preserved t c =
    let i = c.loop-i.invariant in
    let e = c.in_ok-after.ensures in
    let x = node c.index-ns-i.result in
    let d = nodes (drop c.loop-i.i c.args.ns.now) in
    let m = nodes_drop c.args.ns.now c.loop-i.i c.index-ns-i.result (omega (arith, c.loop-i-test.true)) (let p = c.loop-i-test.true in let r = i.bound in omega (arith, p, r)) c.index-ns-i.is in
    record {
      bound = (let p = i.bound in omega (arith, p));
      len = e.len ∙ i.len;
      next = loops_turn c.args.ns.now c.loop-i.i c.args.next c.loop-i.after c.in_ok-after.after c.index-ns-i.result m i.next e.next;
      is = λ y h. (let l = e.len in named_turn x d (nodes (drop (c.loop-i.i - 1) c.args.ns.now)) y (on c.name_node.new.s y) (on c.loop-i.s y) (on c.args.s.now y) (ap joined m) (e.is y (omega (arith, h, l))) (i.is y (omega (arith, h, l))));
    }

pub name_node-returns-in_ok-after-in-Choose-clause-is : goal.name_node-returns-in_ok-after-in-Choose-clause-is
name_node-returns-in_ok-after-in-Choose-clause-is t c = λ y h.
    let a = listed (map node c.as_slice-in-Choose.result.now) in
    let b = listed (map node c.as_slice.result.now) in
    let p = c.in-Choose.p in
    let e : node c.args.n.now ≡ ChooseN p a b = search (rules, the_lemmas) in
    let l1 = c.in_ok-between-in-Choose.ensures.len in
    let l2 = c.in_ok-after-in-Choose.ensures.len in
    choose_named (node c.args.n.now) p a b y (on c.put.new.self y) (on c.name_nodes-in-Choose.new.s y) (on c.name_nodes.new.s y) (on c.args.s.now y) e (c.put.ensures.is y (omega (arith, h, l1, l2))) (c.in_ok-after-in-Choose.ensures.is y (omega (arith, h, l1))) (c.in_ok-between-in-Choose.ensures.is y h)

pub name_nodes-told_each-requires-clause-told : goal.name_nodes-told_each-requires-clause-told
name_nodes-told_each-requires-clause-told t c = λ w e. subst (λ z. ListTold z c.args.heads.now c.args.next (listed (map node c.args.ns.now))) (sym (e ∙ c.loop-i.invariant.len)) c.requires.told

pub name_nodes-told_each-requires-clause-after : goal.name_nodes-told_each-requires-clause-after
name_nodes-told_each-requires-clause-after t c =
    let h = c.loop-i-test.true in
    let j : c.loop-i.i ≡ suc (c.loop-i.i - 1) = omega (arith, h) in
    c.loop-i.invariant.next ∙ ap (λ z. list_loops (listed (map node (drop z c.args.ns.now))) + c.args.next) j
