use Rattle.std.proofs.Common.{rules, ◌≡◌, ◌+◌, refl}
use Rattle.mid_improve.proofs.Tabled.{facts_later}
use Rattle.mid_improve.proofs.table.Table.clear.Goals as goal

pub returns : goal.returns
returns c =
    let later : c.in_ok-self.field-0 ≡ c.args.self.now.stretch + 1 = search rules in
    facts_later c.args.self.now _ later refl
