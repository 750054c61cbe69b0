use Rattle.std.proofs.Common.{◌≡◌, ◌++◌, map, drop}
use Rattle.reg_frames.specs.inner.Moved.{stands}
use Rattle.reg_frames.proofs.code.place_all.Given as goal

abbrev pub invariant-loop-x : goal.invariant-loop-x
invariant-loop-x l = l.placed.items ++ map (stands l.p) (drop l.x-index l.xs) ≡ map (stands l.p) l.xs
