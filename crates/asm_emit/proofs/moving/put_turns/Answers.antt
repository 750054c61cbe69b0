use Rattle.std.proofs.Common.{rules, arith, ◌≡◌, ◌<◌, ◌+◌, suc, ◌++◌, ◌∷◌, length, drop, ap, ◌∙◌, subst}
use Rattle.std.proofs.Math.Seq.{drop-cons}
use Rattle.std.proofs.Math.ListN.{get_or}
use Rattle.asm_laws.specs.Moves.{Move, next_of, turn, left, ordered}
use Rattle.asm_laws.specs.Operations.{moved_items}
use Rattle.asm_emit.specs.inner.View.{frame}
use Rattle.asm_emit.proofs.Ordered.{turns_done, turn_on}
use Rattle.asm_emit.proofs.moving.put_turns.Goals as goal

pub returns-in_default : goal.returns-in_default
returns-in_default c =
    let same : c.as_slice.result.now ≡ c.loop-turn.moves.items = search rules in
    turns_done (frame c.args.s.now) _ c.loop-turn.moves.items c.loop-turn.out.items _ (subst (λ xs. length xs ≡ 0) same c.in_default.ensures.cases) c.loop-turn.invariant

pub loop-turn-preserved : goal.loop-turn-preserved
loop-turn-preserved c =
    let F = frame c.args.s.now in
    let ts = c.args.turns.now in
    let i = c.loop-turn._turn-index in
    let ms = c.loop-turn.moves.items in
    let m : Move = c.in-Some.first.now in
    let r = c.next_of-r.result in
    let split : ms ≡ m ∷ c.in-Some.field-0-1.now = search rules in
    let next : r ≡ next_of ms ms m.0 = search rules in
    let put : c.put_turn.new.out.items ≡ c.loop-turn.out.items ++ moved_items F (turn r ms) = search rules in
    let rest : c.in_ok-moves.moves.items ≡ left r ms = search rules in
    let lt : i < length ts = omega arith in
    let after : suc i ≡ i + 1 = omega arith in
    let step : drop i ts ≡ get_or ts i m ∷ drop (i + 1) ts = drop-cons ts i m lt ∙ ap (λ n. get_or ts i m ∷ drop n ts) after in
    let before = subst (λ xs. c.loop-turn.out.items ++ moved_items F (ordered xs ms) ≡ c.args.out.now.items ++ moved_items F (ordered ts c.args.moves.items)) step c.loop-turn.invariant in
    turn_on F (get_or ts i m) (drop (i + 1) ts) m c.in-Some.field-0-1.now ms c.in_ok-moves.moves.items r c.loop-turn.out.items c.put_turn.new.out.items (c.args.out.now.items ++ moved_items F (ordered ts c.args.moves.items)) split next put rest before
