use Rattle.std.proofs.Common.{◌∙◌, sym}
use Rattle.c_stmts.proofs.Places.{next-member}
use Rattle.c_stmts.proofs.slots.member_slot.Goals as goal

pub returns : goal.returns
returns c = c.member_at.ensures ∙ sym (next-member _ c.args.index)
