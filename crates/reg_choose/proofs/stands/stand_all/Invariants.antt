use Rattle.std.proofs.Common.{length, drop, ◌≡◌, ℕ, ◌<◌}
use Rattle.mid_code.specs.Live.{is_among}
use Rattle.reg_choose.specs.inner.Trails.{stood, trail_at}
use Rattle.reg_choose.proofs.stands.stand_all.Given as goal

abbrev pub invariant-loop-x : goal.invariant-loop-x
invariant-loop-x l = (length l.trails ≡ length l.initial.trails) × ((y : ℕ) → y < length l.trails → stood (is_among (drop l.x-index l.xs) y) l.place (trail_at l.trails y) ≡ stood (is_among l.xs y) l.place (trail_at l.initial.trails y))
