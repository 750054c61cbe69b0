use Rattle.std.proofs.Common.{length}
use Rattle.mid_live.proofs.Learned.{told_each}
use Rattle.mid_live.proofs.heads.told_each.Goals as goal

pub returns : goal.returns
returns c = λ x e. told_each (length c.args.s.now) c.args.next c.args.after c.args.i c.args.heads.now c.args.ns.now x c.requires.told c.requires.after c.requires.inside e
