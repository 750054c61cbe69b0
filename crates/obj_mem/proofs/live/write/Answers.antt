use Rattle.std.proofs.Common.{rules}
use Rattle.obj_mem.proofs.InMemory.{write_why}
use Rattle.obj_mem.proofs.live.write.Goals as goal

pub returns-in-Some-clause-why : goal.returns-in-Some-clause-why
returns-in-Some-clause-why c = write_why c.args.live.now.items c.args.number c.args.offset c.in-Some.at c.write_at.result (search rules) (search rules)
