-- The numbers of files that an answer speaks of are below the count of the names, and lines count from 1.
use Rattle.std.specs.Prelude.{ℕ, ◌<◌, ◌≤◌, List, Result, Ok, Err, Vec}
use Rattle.std.specs.List.{AllByRecursion}
use Rattle.std.specs.declared.alloc.Global.{Global}
use Rattle.kit_base.specs.declared.failure.Failure.{Failure}
use Rattle.kit_base.specs.declared.failure.Failure.TheVariants.{Memory, Cause}
use Rattle.c_lex.specs.declared.token.Token.{Token}
use Rattle.c_prep.specs.declared.error.PrepFault.{PrepFault}
use Rattle.c_prep.specs.declared.error.PrepFault.TheVariants as e

abbrev pub AreBelow : ℕ → List Token → Type 0
AreBelow n tokens = AllByRecursion (λ t. t.file < n) tokens

abbrev pub HaveLines : List Token → Type 0
HaveLines tokens = AllByRecursion (λ t. 1 ≤ t.line) tokens

abbrev pub IsBelow : ℕ → Failure PrepFault → Type 0
IsBelow n Memory = Unit {0}
IsBelow n (Cause (e.At code file line)) = file < n
IsBelow n (Cause e.NoSource) = Unit {0}
IsBelow n (Cause (e.Failed file)) = file < n
IsBelow n (Cause (e.TooLong file)) = file < n

-- each token's file, or that of a refusal
abbrev pub Numbered : ℕ → Result (Vec Token Global) (Failure PrepFault) → Type 0
Numbered n (Ok v) = AreBelow n v.items
Numbered n (Err x) = IsBelow n x
