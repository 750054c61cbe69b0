use Rattle.std.proofs.Common.{rules, arith, ◌≡◌, ◌≤◌, ◌-◌, max, suc, length, drop, map, set, sym, ap, subst, ◌∙◌}
use Rattle.std.specs.Bool.{OnTrue}
use Rattle.mid_code.specs.Code.{Stop}
use Rattle.mid_code.specs.Functions.{ChooseN, BlockN, LoopN, node, nodes, listed, before, joined}
use Rattle.mid_code.specs.declared.node.Node.{the_lemmas}
use Rattle.mid_live.specs.Heads.{IsHead, NodeTold, ListTold}
use Rattle.mid_live.specs.inner.Loops.{Inside}
use Rattle.mid_live.proofs.Facts.{nodes_drop}
use Rattle.mid_live.proofs.Learned.{longer, list_more, loop_told, choose_inside, body_inside, node_inside, loops_turn, wide}
use Rattle.mid_live.proofs.learn.+learn.Goals as goal

pub learn_node-returns-in_ok-first-in-Choose-clause-told : goal.learn_node-returns-in_ok-first-in-Choose-clause-told
learn_node-returns-in_ok-first-in-Choose-clause-told t c =
    let w = length c.args.s.now in
    let k = length c.args.heads.now.items in
    let a = listed (map node c.as_slice-in-Choose.result.now) in
    let b = listed (map node c.as_slice.result.now) in
    let e : node c.args.x.now ≡ ChooseN c.in-Choose.field-0 a b = search (rules, the_lemmas) in
    let t1 = c.learn_nodes.new.heads.items in
    let t2 = c.learn_nodes-in-Choose.new.heads.items in
    let one = c.in_ok-second-in-Choose.ensures in
    let two = c.in_ok-first-in-Choose.ensures in
    subst (NodeTold w t2 k) (sym e) (list_more w t1 t2 two.more k b one.told, subst (λ z. ListTold w t2 z a) one.count (subst (λ z. ListTold z t2 (length t1) a) one.len two.told))

pub learn_node-returns-in_ok-first-in-Choose-clause-inside : goal.learn_node-returns-in_ok-first-in-Choose-clause-inside
learn_node-returns-in_ok-first-in-Choose-clause-inside t c =
    let a = listed (map node c.as_slice-in-Choose.result.now) in
    let b = listed (map node c.as_slice.result.now) in
    let e : node c.args.x.now ≡ ChooseN c.in-Choose.field-0 a b = search (rules, the_lemmas) in
    let q : c.max.result ≡ max c.in_ok-first-in-Choose.first c.in_ok-second-in-Choose.second = search rules in
    subst (λ z. Inside c.max.result (before z Stop)) (sym e) (subst (λ r. Inside r (before (ChooseN c.in-Choose.field-0 a b) Stop)) (sym q) (choose_inside c.in-Choose.field-0 (joined a) (joined b) c.in_ok-first-in-Choose.first c.in_ok-second-in-Choose.second c.in_ok-first-in-Choose.ensures.inside c.in_ok-second-in-Choose.ensures.inside))

pub learn_node-returns-in_ok-inside-in-Block-clause-inside : goal.learn_node-returns-in_ok-inside-in-Block-clause-inside
learn_node-returns-in_ok-inside-in-Block-clause-inside t c =
    let b = listed (map node c.as_slice-in-Block.result.now) in
    let e : node c.args.x.now ≡ BlockN b = search (rules, the_lemmas) in
    let n = c.in_ok-inside-in-Block.inside in
    let q : c.saturating_sub.result ≡ n - 1 = search rules in
    subst (λ z. Inside c.saturating_sub.result (before z Stop)) (sym e) (subst (λ r. Inside (suc r) (joined b)) (sym q) (body_inside (joined b) n c.in_ok-inside-in-Block.ensures.inside), tt)

pub learn_node-returns-in_ok-head-in-Loop-clause-told : goal.learn_node-returns-in_ok-head-in-Loop-clause-told
learn_node-returns-in_ok-head-in-Loop-clause-told t c =
    let w = length c.args.s.now in
    let k = length c.args.heads.now.items in
    let b = listed (map node c.as_slice-in-Loop-2.result.now) in
    let e : node c.args.x.now ≡ LoopN b = search (rules, the_lemmas) in
    let same : listed (map node c.as_slice-in-Loop.result.now) ≡ b = search rules in
    let t1 = c.push_unknown.new.heads.items in
    let t2 = c.learn_nodes-in-Loop.new.heads.items in
    let first : length t1 ≡ suc k = c.in_ok-push_unknown-in-Loop.ensures.len in
    let all = c.in_ok-inside-in-Loop.ensures in
    let counted = all.count in
    let h = c.in_ok-head-in-Loop.head in
    let put : c.put_head.new.heads.items ≡ set t2 k h = search rules in
    let is : IsHead w h b = subst (λ z. IsHead z h b) all.len c.in_ok-head-in-Loop.ensures.is in
    subst (NodeTold w c.put_head.new.heads.items k) (sym e) (subst (λ z. NodeTold w z k (LoopN b)) (sym put) (loop_told w k t2 h b (omega (arith, counted, first)) is (subst (ListTold w t2 (suc k)) same (subst (λ z. ListTold w t2 z (listed (map node c.as_slice-in-Loop.result.now))) first all.told))))

pub learn_node-returns-in_ok-head-in-Loop-clause-inside : goal.learn_node-returns-in_ok-head-in-Loop-clause-inside
learn_node-returns-in_ok-head-in-Loop-clause-inside t c =
    let b = listed (map node c.as_slice-in-Loop.result.now) in
    let e : node c.args.x.now ≡ LoopN b = search (rules, the_lemmas) in
    let n = c.in_ok-inside-in-Loop.inside in
    let q : c.saturating_sub-in-Loop.result ≡ n - 1 = search rules in
    subst (λ z. Inside c.saturating_sub-in-Loop.result (before z Stop)) (sym e) (subst (λ r. Inside (suc r) (joined b)) (sym q) (body_inside (joined b) n c.in_ok-inside-in-Loop.ensures.inside), tt)

pub learn_nodes-loop-i-preserved : goal.learn_nodes-loop-i-preserved
learn_nodes-loop-i-preserved t c =
    let i = c.loop-i.invariant in
    let e = c.in_ok-reached.ensures in
    let w = length c.args.s.now in
    let k = length c.args.heads.now.items in
    let x = node c.index-ns-i.result in
    let rest = listed (map node (drop c.loop-i.i c.args.ns.now)) in
    let d = nodes (drop c.loop-i.i c.args.ns.now) in
    let m = nodes_drop c.args.ns.now c.loop-i.i c.index-ns-i.result (omega (arith, c.loop-i-test.true)) (let p = c.loop-i-test.true in let r = i.bound in omega (arith, p, r)) c.index-ns-i.is in
    let j : nodes (drop (c.loop-i.i - 1) c.args.ns.now) ≡ before x d = ap joined m in
    let t1 = c.loop-i.heads.items in
    let t2 = c.learn_node.new.heads.items in
    let r = c.max-far.result in
    let q : r ≡ max c.loop-i.far c.in_ok-reached.reached = search rules in
    record {
      bound = (let p = i.bound in omega (arith, p));
      len = e.len ∙ i.len;
      more = longer c.args.heads.now.items t1 t2 i.more e.more;
      count = loops_turn c.args.ns.now c.loop-i.i k (length t1) (length t2) c.index-ns-i.result m i.count e.count;
      told = subst (ListTold w t2 k) (sym m) (list_more w t1 t2 e.more k rest i.told, subst (λ z. NodeTold w t2 z x) i.count (subst (λ z. NodeTold z t2 (length t1) x) i.len e.told));
      inside = subst (Inside r) (sym j) (node_inside x d c.in_ok-reached.reached c.loop-i.far r (omega (arith, q)) (omega (arith, q)) e.inside i.inside);
    }

pub learn_node-head_in-requires-clause-few : goal.learn_node-head_in-requires-clause-few
learn_node-head_in-requires-clause-few t c =
    let b = listed (map node c.as_slice-in-Loop-2.result.now) in
    let same : listed (map node c.as_slice-in-Loop.result.now) ≡ b = search rules in
    let n = c.in_ok-inside-in-Loop.inside in
    λ q. wide (joined b) n 1 (subst (λ t. OnTrue t (n ≤ 1)) q c.is_asked-asked.ensures) (subst (λ z. Inside n (joined z)) same c.in_ok-inside-in-Loop.ensures.inside)
