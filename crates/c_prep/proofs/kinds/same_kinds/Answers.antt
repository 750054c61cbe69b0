use Rattle.std.proofs.Common.{sym}
use Rattle.c_prep.proofs.Comparing.{differs}
use Rattle.c_prep.proofs.kinds.same_kinds.Goals as goal

pub returns-then-not-same_kind : goal.returns-then-not-same_kind
returns-then-not-same_kind c = differs c.each.left.now c.each.right.now _ c.each.invariant c.in-Some.kind.now c.in-Some.kinds_after.now c.in-Some-split_first.token.now c.in-Some-split_first.tokens_after.now c.in-Some.ensures.cases.0 c.in-Some-split_first.ensures.cases.0 (sym c.if-not-same_kind.ensures)
