use Rattle.c_exprs.specs.View.{decl}
use Rattle.c_exprs.proofs.Maps.{inserted}
use Rattle.c_exprs.proofs.names.Globals.declare.Goals as goal

pub returns-clause-declared : goal.returns-clause-declared
returns-clause-declared c = rw c.in_ok-insert.ensures.entries (inserted c.args.name c.args.meaning decl c.args.self.now.names.entries c.requires.new)
