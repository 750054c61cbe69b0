use Rattle.std.proofs.Common.{◌∙◌}
use Rattle.c_exprs.proofs.Maps.{numbers-values}
use Rattle.c_exprs.proofs.names.Scope.numbers.Goals as goal

pub returns : goal.returns
returns c = record { numbers = c.in_ok-numbers.ensures ∙ numbers-values c.args.self.now.names.entries }
