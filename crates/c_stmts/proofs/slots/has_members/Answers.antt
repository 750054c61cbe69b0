use Rattle.std.proofs.Common.{ap, ℕ}
use Rattle.std.specs.Prelude.{nat_le}
use Rattle.c_stmts.proofs.slots.has_members.Goals as goal

pub returns : goal.returns
returns c = ap (λ (n : ℕ). nat_le c.args.count n) c.member_count.ensures
