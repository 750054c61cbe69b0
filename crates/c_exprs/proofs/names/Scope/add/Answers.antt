use Rattle.c_exprs.specs.View.{local}
use Rattle.c_exprs.proofs.Maps.{inserted}
use Rattle.c_exprs.proofs.names.Scope.add.Goals as goal

pub returns-clause-added : goal.returns-clause-added
returns-clause-added c = rw c.in_ok-insert.ensures.entries (inserted c.args.name c.args.object local c.args.self.now.names.entries c.requires.new)
