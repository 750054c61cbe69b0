use Rattle.std.proofs.Common.{rules, arith, ◌≡◌, ◌+◌, ◌-◌, ◌*◌, ◌<◌, ◌≤◌, ℕ, List, ◌∷◌, drop, length, map, Option, Some, None, Result, Ok, Err, refl, sym, ap, ◌∙◌, subst}
use Rattle.mid_code.specs.Code.{NodesT}
use Rattle.mid_code.specs.Functions.{NodeT, node, nodes}
use Rattle.mid_code.specs.Meaning.{Did, On, Res, Next, Leaves, Repeats, Returns, below, called}
use Rattle.mid_code.specs.States.{function_at, spent}
use Rattle.mid_evaluate.specs.declared.flow.Flow.{Flow}
use Rattle.mid_evaluate.specs.inner.Answers.{S, Leads, Stop, Stops, went}
use Rattle.mid_evaluate.specs.inner.Once.{caller_of, looped, node_once, ran, returned, turn_left}
use Rattle.mid_evaluate.specs.View.{caller, code_of, state_of}
use Rattle.mid_evaluate.proofs.Sizes.{count, count_one, most, split, node_falls, called_falls}
use Rattle.mid_evaluate.proofs.Following.{entering, calling, call_stops, call_leads, turn_next, list_on, list_out, list_stops}
use Rattle.mid_evaluate.proofs.nodes.+nodes.Goals as goal

pub call-returns-in_err-flow : goal.call-returns-in_err-flow
call-returns-in_err-flow t c =
    let x = code_of c.args.s.now in
    let fs : List ℕ = c.args.s.now.frames.now in
    let s : S = state_of c.args.m.now in
    let v : S = state_of c.enter.new.m in
    let w : S = state_of c.run_nodes.new.m in
    let e : Stop = c.in_err-flow.field-0.0 in
    let z : c.args.n - 1 + 1 ≡ c.args.n = search rules in
    let h : Stops e w (ran x fs (c.args.n - 1) (nodes c.body.result.now) v) = c.in_err-flow.ensures in
    let r : c.from_residual-in_err-flow.result ≡ Err e = search rules in
    subst (λ y. Leads y w (calling x fs c.args.n c.args.t c.args.f c.args.args.now s)) (sym r)
    (call_stops x fs c.args.n (c.args.n - 1) c.args.t c.args.f c.args.args.now s v w (nodes c.body.result.now) e z c.in_ok-caller.ensures.enters c.body.ensures h)

pub call-returns : goal.call-returns
call-returns t c =
    let x = code_of c.args.s.now in
    let fs : List ℕ = c.args.s.now.frames.now in
    let s : S = state_of c.args.m.now in
    let v : S = state_of c.enter.new.m in
    let w : S = state_of c.run_nodes.new.m in
    let z : c.args.n - 1 + 1 ≡ c.args.n = search rules in
    let h : ran x fs (c.args.n - 1) (nodes c.body.result.now) v ≡ went c.in_ok-flow.flow w = c.in_ok-flow.ensures in
    call_leads x fs c.args.n (c.args.n - 1) c.args.t c.args.f c.args.args.now s v w (state_of c.leave.new.m) (nodes c.body.result.now) c.in_ok-flow.flow (caller c.in_ok-caller.caller) c.leave.result z c.in_ok-caller.ensures.enters c.body.ensures h c.in_ok-caller.ensures.caller c.leave.ensures

pub run_loop-turns-preserved : goal.run_loop-turns-preserved
run_loop-turns-preserved t c =
    let x = code_of c.args.s.now in
    let fs : List ℕ = c.args.s.now.frames.now in
    let b : NodesT ℕ = nodes c.args.body.now in
    let s : S = state_of c.turns.m in
    let w : S = state_of c.run_nodes.new.m in
    let fewer : c.turns.left ≤ c.args.n = c.turns.invariant.fewer in
    let z : c.turns.left - 1 + 1 ≡ c.turns.left = search rules in
    let h : ran x fs c.turns.left b (spent 8 s) ≡ went c.in_ok-flow.flow w = search rules in
    let l : turn_left c.in_ok-flow.flow ≡ None = search rules in
    record {
      fewer = omega (arith, fewer);
      same = turn_next x fs c.turns.left (c.turns.left - 1) b s w c.in_ok-flow.flow (looped x fs c.args.n b (state_of c.args.m.now)) z c.turns.invariant.same h l;
    }

pub run_nodes-run_node-requires : goal.run_nodes-run_node-requires
run_nodes-run_node-requires t c =
    let k : ℕ = c.args.n * most (code_of c.args.s.now) in
    let dec : k + (4 * count (nodes c.args.xs.now) + 1) ≡ t = c.decreases in
    (subst (λ u. k + 4 * count_one (node c.x-item.result) < u) dec (node_falls k c.args.xs.now c.loop-x.x-index c.x-item.result c.loop-x-test.true c.x-item.is), tt)

pub run_nodes-returns-in_err-run_node : goal.run_nodes-returns-in_err-run_node
run_nodes-returns-in_err-run_node t c =
    let x = code_of c.args.s.now in
    let fs : List ℕ = c.args.s.now.frames.now in
    let xs = c.args.xs.now in
    let i : ℕ = c.loop-x.x-index in
    let s : S = state_of c.loop-x.m in
    let w : S = state_of c.run_node.new.m in
    let due : Res S = ran x fs c.args.n (nodes xs) (state_of c.args.m.now) in
    let e : Stop = c.in_err-run_node.field-0.0 in
    let r : c.from_residual.result ≡ Err e = search rules in
    subst (λ y. Leads y w due) (sym r)
    (list_stops x fs c.args.n (map node (drop i xs)) (map node (drop (i + 1) xs)) (node c.x-item.result) s w due e (split xs i c.x-item.result c.loop-x-test.true c.x-item.is) c.loop-x.invariant c.in_err-run_node.ensures)

pub run_nodes-returns-in-Leaves : goal.run_nodes-returns-in-Leaves
run_nodes-returns-in-Leaves t c =
    let x = code_of c.args.s.now in
    let fs : List ℕ = c.args.s.now.frames.now in
    let xs = c.args.xs.now in
    let i : ℕ = c.loop-x.x-index in
    let s : S = state_of c.loop-x.m in
    let w : S = state_of c.run_node.new.m in
    let due : Res S = ran x fs c.args.n (nodes xs) (state_of c.args.m.now) in
    let h : node_once x fs c.args.n (node c.x-item.result) s ≡ Leaves c.in-Leaves.k w = search rules in
    list_out x fs c.args.n (map node (drop i xs)) (map node (drop (i + 1) xs)) (node c.x-item.result) s due (Leaves c.in-Leaves.k w) refl (split xs i c.x-item.result c.loop-x-test.true c.x-item.is) c.loop-x.invariant h

pub run_nodes-returns-in-Repeats : goal.run_nodes-returns-in-Repeats
run_nodes-returns-in-Repeats t c =
    let x = code_of c.args.s.now in
    let fs : List ℕ = c.args.s.now.frames.now in
    let xs = c.args.xs.now in
    let i : ℕ = c.loop-x.x-index in
    let s : S = state_of c.loop-x.m in
    let w : S = state_of c.run_node.new.m in
    let due : Res S = ran x fs c.args.n (nodes xs) (state_of c.args.m.now) in
    let h : node_once x fs c.args.n (node c.x-item.result) s ≡ Repeats c.in-Repeats.k w = search rules in
    list_out x fs c.args.n (map node (drop i xs)) (map node (drop (i + 1) xs)) (node c.x-item.result) s due (Repeats c.in-Repeats.k w) refl (split xs i c.x-item.result c.loop-x-test.true c.x-item.is) c.loop-x.invariant h

pub run_nodes-returns-in-Returns : goal.run_nodes-returns-in-Returns
run_nodes-returns-in-Returns t c =
    let x = code_of c.args.s.now in
    let fs : List ℕ = c.args.s.now.frames.now in
    let xs = c.args.xs.now in
    let i : ℕ = c.loop-x.x-index in
    let s : S = state_of c.loop-x.m in
    let w : S = state_of c.run_node.new.m in
    let due : Res S = ran x fs c.args.n (nodes xs) (state_of c.args.m.now) in
    let h : node_once x fs c.args.n (node c.x-item.result) s ≡ Returns w = search rules in
    list_out x fs c.args.n (map node (drop i xs)) (map node (drop (i + 1) xs)) (node c.x-item.result) s due (Returns w) refl (split xs i c.x-item.result c.loop-x-test.true c.x-item.is) c.loop-x.invariant h

pub run_nodes-loop-x-preserved : goal.run_nodes-loop-x-preserved
run_nodes-loop-x-preserved t c =
    let x = code_of c.args.s.now in
    let fs : List ℕ = c.args.s.now.frames.now in
    let xs = c.args.xs.now in
    let i : ℕ = c.loop-x.x-index in
    let s : S = state_of c.loop-x.m in
    let w : S = state_of c.run_node.new.m in
    let due : Res S = ran x fs c.args.n (nodes xs) (state_of c.args.m.now) in
    let h : node_once x fs c.args.n (node c.x-item.result) s ≡ Next w = search rules in
    list_on x fs c.args.n (map node (drop i xs)) (map node (drop (i + 1) xs)) (node c.x-item.result) s w due (split xs i c.x-item.result c.loop-x-test.true c.x-item.is) c.loop-x.invariant h

pub call-run_nodes-requires : goal.call-run_nodes-requires
call-run_nodes-requires t c =
    let x = code_of c.args.s.now in
    let dec : c.args.n * most x ≡ t = c.decreases in
    let lower : c.args.n - 1 < c.args.n = search rules in
    (subst (λ u. (c.args.n - 1) * most x + (4 * count (nodes c.body.result.now) + 1) < u) dec (called_falls x c.args.n (c.args.n - 1) c.args.f (nodes c.body.result.now) c.body.ensures lower), tt)
