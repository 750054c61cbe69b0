-- Trails as a walk keeps them: what crosses a call is kept in a set.
use Rattle.std.specs.Prelude.{ℕ, List, Bool, true, false}
use Rattle.mid_code.specs.Code.{NodesT, Call}
use Rattle.reg_choose.specs.declared.trail.Trail.{Trail}
use Rattle.mid_live.specs.Sets.{on}
use Rattle.reg_choose.specs.inner.Trails.{crossing, trail_at}

abbrev pub seen : List Trail → (crossed : List ℕ) → ℕ → Trail
seen rs cs y = crossing (on cs y) (trail_at rs y)

abbrev pub calls : NodesT ℕ → Bool
calls (Call t f args c) = true
calls _ = false
