-- A source as a whole.
use Rattle.std.proofs.Common.{◌≡◌, ℕ, List, [], length, refl, sym, ap, ◌∙◌}
use Rattle.std.specs.Prelude.{Option, Some, None, Result, Ok, Err, IfSome}
use Rattle.std.proofs.lemmas.List.{nil_from_length}
use Rattle.kit_base.specs.Held.{Held}
use Rattle.kit_base.specs.declared.failure.Failure.{Failure}
use Rattle.kit_base.specs.declared.failure.Failure.TheVariants.{Memory, Cause}
use Rattle.c_prep.specs.declared.error.PrepFault.{PrepFault}
use Rattle.c_prep.specs.declared.error.PrepFault.TheVariants as e
use Rattle.c_prep.specs.Faults.{◌>>=◌}
use Rattle.c_prep.specs.Macros.{Table, Put}
use Rattle.c_prep.specs.Files.{Progress, Stop, Expansion, file_at, include_at, opening, expansion_of, Answers}
use Rattle.c_prep.specs.inner.Inner.{GivesOut}

pub where_told : (o : Option Held) (P : Held → Type 0) → ((m : Held) → o ≡ Some m → P m) → IfSome o P
where_told None P h = tt
where_told (Some m) P h = h m refl

pub begins : (macros : Table) (out : Put) (names : List (List ℕ)) → macros ≡ [] → out ≡ record { tokens = []; replaced = 0 } → length names ≡ 0 → record { work = record { macros = macros; out = out }; names = names } ≡ opening
begins macros out names a b n = rw (a, b, nil_from_length names n) refl

module _ (m : Held) (name : List ℕ) (p : Progress) (first : p ≡ opening) where
  abbrev shown : Result Progress Stop → Result Expansion Stop
  shown r = r >>= λ q. Ok (record { tokens = q.work.out.tokens; names = q.names })

  whole : expansion_of m name ≡ shown (file_at m (include_at m 16) e.NoSource name p)
  unfolding expansion_of
  whole = ap (λ (q : Progress). shown (file_at m (include_at m 16) e.NoSource name q)) (sym first)

  pub done : (q : Progress) → file_at m (include_at m 16) e.NoSource name p ≡ Ok q → expansion_of m name ≡ Ok (record { tokens = q.work.out.tokens; names = q.names })
  done q one = whole ∙ ap shown one

  stops : (stop : Stop) → file_at m (include_at m 16) e.NoSource name p ≡ Err stop → expansion_of m name ≡ Err stop
  stops stop one = whole ∙ ap shown one

  pub stopped : (new : Progress) (names : List (List ℕ)) (x : Failure PrepFault) → GivesOut {X = Unit {0}} new names (Err x) (file_at m (include_at m 16) e.NoSource name p) → Answers (Err x) names (expansion_of m name)
  stopped new names (Cause (e.At code at line)) one = stops _ one
  stopped new names (Cause e.NoSource) one = stops _ one
  stopped new names (Cause (e.Failed at)) one = tt
  stopped new names (Cause (e.TooLong at)) one = stops _ one
  stopped new names Memory one = tt
