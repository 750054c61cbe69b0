-- A step of the machine, where it goes on.
use Rattle.c_meaning.specs.Setting.{Setting}
use Rattle.c_evaluate.specs.inner.Machine.{FocusT, MadeF, Config, Going, Over}
use Rattle.c_evaluate.specs.inner.Steps.{step}

-- no port operation waits to be given
abbrev pub Works : FocusT → Type 0
Works (MadeF e v) = ⊥
Works _ = Unit {0}

-- a step is to be made: the run is not over either
abbrev pub GoesOn : Config → Type 0
GoesOn (Going f k u) = Works f
GoesOn (Over end) = ⊥

abbrev pub stepped : Setting → Config → Config
stepped s (Going f k u) = step s f k u
stepped s (Over end) = Over end
