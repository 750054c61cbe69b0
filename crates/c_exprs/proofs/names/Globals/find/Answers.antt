use Rattle.c_exprs.specs.View.{decl}
use Rattle.c_exprs.proofs.Maps.{lent}
use Rattle.c_exprs.proofs.names.Globals.find.Goals as goal

pub returns : goal.returns
returns c = record { found = lent c.args.name.now decl c.args.self.now.names.entries c.get.result c.get.ensures.value }
