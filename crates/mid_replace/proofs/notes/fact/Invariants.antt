use Rattle.std.proofs.Common.{◌≡◌, drop}
use Rattle.mid_replace.specs.inner.Facts.{fact_at}
use Rattle.mid_replace.specs.inner.Tables.{plan_in}
use Rattle.mid_replace.proofs.notes.fact.Given as goal

abbrev pub invariant-loop-note : goal.invariant-loop-note
invariant-loop-note l = fact_at (plan_in l.table).base (drop l.note-index l.notes) l.temporary ≡ fact_at (plan_in l.table).base l.notes l.temporary
