-- That numbers rise is shown in one way.
use Rattle.std.specs.Prelude.{ℕ, ◌+◌, List, [], ◌∷◌}
use Rattle.std.specs.Coded.{Unit-prop}
use Rattle.std.proofs.Props.{props}
use Rattle.obj_mem.specs.Living.{LiveT, Rises}

pub rises_one : (first next : ℕ) (live : List LiveT) → IsProp (Rises first next live)
rises_one first next [] = Unit-prop
rises_one first next (x ∷ xs) = let tail : IsProp (Rises (x.number + 1) next xs) = rises_one (x.number + 1) next xs in hlevel (props, tail)
