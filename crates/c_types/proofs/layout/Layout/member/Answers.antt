use Rattle.c_types.proofs.Maps.{found}
use Rattle.c_types.proofs.layout.Layout.member.Goals as goal

pub returns : goal.returns
returns c = record { found = found c.args.name.now c.args.self.now.members.entries c.get.result c.get.ensures.value }
