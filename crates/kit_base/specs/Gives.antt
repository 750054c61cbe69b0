-- What a call gives that fails for want of memory or for a cause.
use Rattle.std.specs.Prelude.{◌≡◌, Result, Ok, Err}
use Rattle.kit_base.specs.declared.failure.Failure.{Failure}
use Rattle.kit_base.specs.declared.failure.Failure.TheVariants.{Memory, Cause}

-- This holds of the cause, unless memory ran out.
abbrev pub IfCause : {E : Type 0} → (E → Type 0) → Failure E → Type 0
IfCause Holds Memory = Unit {0}
IfCause Holds (Cause cause) = Holds cause

-- The cause is the one that is due, unless memory ran out.
abbrev pub Fails : {E Y : Type 0} → Failure E → Result Y E → Type 0
Fails Memory due = Unit {0}
Fails (Cause cause) due = due ≡ Err cause

-- What was given, as `seen` sees it, is what is due, unless memory ran out.
abbrev pub Gives : {E X Y : Type 0} → (X → Y) → Result X (Failure E) → Result Y E → Type 0
Gives seen (Ok x) due = due ≡ Ok (seen x)
Gives seen (Err failure) due = Fails failure due
