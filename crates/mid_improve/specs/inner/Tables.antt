-- What a table knows.
use Rattle.mid_improve.specs.declared.table.Table.{Table}
use Rattle.mid_improve.specs.inner.Facts.{Known}
use Rattle.mid_improve.specs.inner.Slots.{slot_at, facts_in}

unfoldable pub facts : Table → Known
facts t = facts_in (slot_at t.slots.items) t.stretch
