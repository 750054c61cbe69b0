use Rattle.c_prep.proofs.Unwinding.{entered}
use Rattle.c_prep.proofs.replace.enter.Goals as goal

pub returns-clause-names : goal.returns-clause-names
returns-clause-names c = entered c.args.inside.now.keys c.insert.new.self.keys c.args.name c.requires.new c.in_ok-insert.ensures.keys
