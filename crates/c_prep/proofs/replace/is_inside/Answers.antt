use Rattle.std.proofs.Common.{◌∙◌}
use Rattle.c_prep.proofs.Unwinding.{any_key}
use Rattle.c_prep.proofs.replace.is_inside.Goals as goal

pub returns : goal.returns
returns c = c.contains.ensures ∙ any_key c.args.inside.now.keys c.args.name.now
