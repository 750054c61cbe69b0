use Rattle.std.proofs.Common.{ℕ}
use Rattle.c_exprs.proofs.Maps.{inserted}
use Rattle.c_exprs.proofs.names.Globals.set_body.Goals as goal

pub returns-clause-numbered : goal.returns-clause-numbered
returns-clause-numbered c = rw c.in_ok-insert.ensures.entries (inserted c.args.name c.args.number (λ (n : ℕ). n) c.args.self.now.bodies.entries c.requires.new)
