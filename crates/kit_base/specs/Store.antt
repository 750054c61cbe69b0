-- What files and a sink in memory hold: their content, which of their calls fail, and their counts.
use Rattle.std.specs.Prelude.{ℕ, ◌≡◌, ◌+◌, ◌==◌, min, Bool, true, not, ◌&&◌, List, if◌then◌else◌, [], ◌∷◌}
use Rattle.std.specs.List.{list_any}
use Rattle.std.specs.Str.{bytes_eq}

pub record Store : Type 0 where
  pub files : List (List ℕ × List ℕ)
  pub failing : List ℕ
  pub calls : ℕ
  pub faults : ℕ
  pub misses : ℕ
  pub overs : ℕ

pub record Written : Type 0 where
  pub bytes : List ℕ
  pub failing : List ℕ
  pub calls : ℕ
  pub faults : ℕ

-- a count that goes up by one, and stands still at its last value
abbrev pub counted : ℕ → ℕ
counted n = min (n + 1) 18446744073709551615

-- whether the call of that number is one of those that fail
abbrev pub is_failing : List ℕ → ℕ → Bool
is_failing failing call = list_any (λ n. n == call) failing

-- A call of the files was numbered. It failed, and raised the faults, exactly where its number is
-- one of those that fail.
pub record CountsCall (old new : Store) (failed : Bool) : Type 0 where
  pub fails : failed ≡ is_failing old.failing old.calls
  pub calls : new.calls ≡ counted old.calls
  pub failing : new.failing ≡ old.failing
  pub faults : new.faults ≡ (if failed then counted old.faults else old.faults)

-- the same of a call of the sink
pub record CountsPut (old new : Written) (failed : Bool) : Type 0 where
  pub fails : failed ≡ is_failing old.failing old.calls
  pub calls : new.calls ≡ counted old.calls
  pub failing : new.failing ≡ old.failing
  pub faults : new.faults ≡ (if failed then counted old.faults else old.faults)

-- whether the names are pairwise different
abbrev pub has_name : List ℕ → List (List ℕ × List ℕ) → Bool
has_name name files = list_any (λ f. bytes_eq f.0 name) files

abbrev pub are_distinct : List (List ℕ × List ℕ) → Bool
are_distinct [] = true
are_distinct (f ∷ fs) = not (has_name f.0 fs) && are_distinct fs
