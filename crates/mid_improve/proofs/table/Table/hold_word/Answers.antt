use Rattle.std.proofs.Common.{refl}
use Rattle.mid_improve.proofs.Tabled.{facts_word}
use Rattle.mid_improve.proofs.table.Table.hold_word.Goals as goal

pub returns : goal.returns
returns c = facts_word c.args.self.now _ c.args.t c.args.word refl c.in_ok-hold.ensures.put
