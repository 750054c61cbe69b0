use Rattle.std.proofs.Common.{rules, ◌≡◌, refl}
use Rattle.mid_improve.specs.inner.Slots.{slot_at}
use Rattle.mid_improve.proofs.Tabled.{facts_copy}
use Rattle.mid_improve.proofs.table.Table.hold_copy.Goals as goal

pub returns : goal.returns
returns c =
    let stamp : c.changes_of-stamp.result ≡ (slot_at c.args.self.now.slots.items c.args.a).changes = search rules in
    facts_copy c.args.self.now _ c.args.t c.args.a _ stamp refl c.in_ok-hold.ensures.put
