-- Faults with their places; the first one decides.
use Rattle.std.specs.Prelude.{Result, Ok, Err}
use Rattle.kit_base.specs.declared.failure.Failure.{Failure}
use Rattle.kit_base.specs.Gives as base
use Rattle.c_lex.specs.declared.token.Token.{Token}
use Rattle.c_prep.specs.declared.error.Fault.{Fault}
use Rattle.c_prep.specs.declared.error.FaultAt.{FaultAt}

infixl 10 ◌>>=◌
abbrev pub ◌>>=◌ : {A B E : Type 0} → Result A E → (A → Result B E) → Result B E
(Ok x) >>= f = f x
(Err e) >>= f = Err e

abbrev pub fault_at : Fault → Token → FaultAt
fault_at fault at = record { fault = fault; file = at.file; line = at.line }

-- The new state is what reading gives, or the fault is. Nothing is said where memory ran out.
abbrev pub Gives : {X S : Type 0} → S → Result X (Failure FaultAt) → Result S FaultAt → Type 0
Gives new given reading = base.Gives (λ x. new) given reading
