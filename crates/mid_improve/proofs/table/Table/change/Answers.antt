use Rattle.std.proofs.Common.{refl}
use Rattle.mid_improve.proofs.Tabled.{facts_changed}
use Rattle.mid_improve.proofs.table.Table.change.Goals as goal

pub returns : goal.returns
returns c = facts_changed c.args.self.now _ c.args.t refl c.in_ok-change.ensures.put
