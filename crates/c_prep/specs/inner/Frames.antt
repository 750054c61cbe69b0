-- Expansions that are begun and not yet put, the outermost first.
use Rattle.std.specs.Prelude.{◌≡◌, ℕ, ◌+◌, ◌-◌, ◌*◌, List, [], ◌∷◌, ◌++◌, length, map, Result, Ok, Err}
use Rattle.kit_base.specs.declared.failure.Failure.{Failure}
use Rattle.kit_base.specs.Gives.{Fails}
use Rattle.c_lex.specs.declared.token.Kind.{Kind}
use Rattle.c_lex.specs.declared.token.Token.{Token}
use Rattle.c_prep.specs.declared.error.FaultAt.{FaultAt}
use Rattle.c_prep.specs.declared.replace.Frame.{Frame}
use Rattle.c_prep.specs.Faults.{◌>>=◌}
use Rattle.c_prep.specs.Macros.{Table, Put, each, stands, Macro}

abbrev pub names : List Frame → List (List ℕ)
names fs = map (λ f. f.name.now) fs

abbrev pub macro_in : Frame → Macro
macro_in f = record { name = f.name.now; body = f.rest.now }

abbrev pub at_place : Table → Token → List (List ℕ) → Kind → Put → Result Put FaultAt
at_place table at inside kind o = stands (1000000 - length inside) table at inside kind o

-- all that is begun, put
unfoldable pub unwound : Table → Token → List (List ℕ) → List Frame → Put → Result Put FaultAt
unwound table at inside [] o = Ok o
unwound table at inside (f ∷ fs) o = unwound table at (inside ++ f.name.now ∷ []) fs o >>= each (at_place table at (inside ++ f.name.now ∷ [])) f.rest.now

-- what a step gave, and then all that is begun, put
abbrev pub unwound_after : Table → Token → List Frame → Result Put FaultAt → Result Put FaultAt
unwound_after table at fs given = given >>= unwound table at [] fs

abbrev pub Goes : {X : Type 0} → Result X (Failure FaultAt) → Result Put FaultAt → Result Put FaultAt → Type 0
Goes (Ok x) before after = before ≡ after
Goes (Err failure) before after = Fails failure before

-- how many steps are left at most
abbrev pub work : Put → List Frame → ℕ
work o fs = 2 * (1000000 - o.replaced) + (200000 - length o.tokens) + length fs
