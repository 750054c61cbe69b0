use Rattle.std.proofs.Common.{◌∙◌}
use Rattle.c_exprs.proofs.Maps.{copied}
use Rattle.c_exprs.proofs.names.Globals.body.Goals as goal

pub returns : goal.returns
returns c = record { found = c.copied.ensures ∙ copied c.args.name.now c.args.self.now.bodies.entries c.get.result c.get.ensures.value }
