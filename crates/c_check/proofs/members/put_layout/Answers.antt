use Rattle.std.proofs.lemmas.List.{map-set}
use Rattle.c_types.specs.View.{layout}
use Rattle.c_check.proofs.members.put_layout.Goals as goal

pub returns-in-Some : goal.returns-in-Some
returns-in-Some c = map-set layout c.args.layouts.now.items c.args.number c.args.one
