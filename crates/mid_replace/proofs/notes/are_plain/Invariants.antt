use Rattle.std.proofs.Common.{◌≡◌, drop}
use Rattle.mid_replace.specs.inner.Facts.{fact_at}
use Rattle.mid_replace.specs.inner.Replaced.{are_plain}
use Rattle.mid_replace.specs.inner.Tables.{plan_in}
use Rattle.mid_replace.proofs.notes.are_plain.Given as goal

abbrev pub invariant-loop-t : goal.invariant-loop-t
invariant-loop-t l = are_plain (fact_at (plan_in l.table).base l.notes) (drop l.t-index l.temporaries) ≡ are_plain (fact_at (plan_in l.table).base l.notes) l.temporaries
