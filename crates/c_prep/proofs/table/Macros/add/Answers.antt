use Rattle.std.proofs.Common.{◌∙◌, ap}
use Rattle.std.specs.Prelude.{Ok}
use Rattle.c_prep.proofs.Lookups.{added}
use Rattle.c_prep.proofs.table.Macros.add.Goals as goal

pub returns : goal.returns
returns c = ap Ok (added c.in_ok-key.key c.args.name.now c.from_vec.result _ c.self.inside.table.entries c.insert.new.self.entries _ c.self.view_is c.in_ok-key.ensures (c.from_vec.ensures ∙ c.in_ok-kinds.ensures) c.requires c.in_ok-insert.ensures.entries)
