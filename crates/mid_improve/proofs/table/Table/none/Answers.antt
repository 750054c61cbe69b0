use Rattle.mid_improve.proofs.Tabled.{none_past, none_facts}
use Rattle.mid_improve.proofs.table.Table.none.Goals as goal

pub invariant_of-result : goal.invariant_of-result
invariant_of-result c = record { past = none_past c.new.result.items 0 c.new.ensures.items }

pub returns : goal.returns
returns c = none_facts _ c.new.ensures.items
