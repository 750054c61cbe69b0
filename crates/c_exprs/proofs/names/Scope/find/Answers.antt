use Rattle.c_exprs.specs.View.{local}
use Rattle.c_exprs.proofs.Maps.{lent}
use Rattle.c_exprs.proofs.names.Scope.find.Goals as goal

pub returns : goal.returns
returns c = record { found = lent c.args.name.now local c.args.self.now.names.entries c.get.result c.get.ensures.value }
