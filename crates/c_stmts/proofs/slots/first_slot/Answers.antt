use Rattle.std.proofs.Common.{◌∙◌, sym, arith}
use Rattle.c_stmts.proofs.Places.{next-first, no-second}
use Rattle.c_stmts.proofs.slots.first_slot.Goals as goal

pub returns-then-index-gt0 : goal.returns-then-index-gt0
returns-then-index-gt0 c = sym (no-second _ c.args.index c.if-index-gt0.true)

pub returns : goal.returns
returns c = c.member_at.ensures ∙ sym (next-first _ c.args.index (omega (arith, c.if-index-gt0.false)))
