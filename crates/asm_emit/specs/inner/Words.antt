-- Numbers that are words.
use Rattle.std.specs.Prelude.{ℕ, ◌<◌, ◌^◌, List}
use Rattle.mid_code.specs.Invariants.{AllOf}

abbrev pub IsWord : ℕ → Type 0
IsWord n = n < 2 ^ 32

abbrev pub AreWords : List ℕ → Type 0
AreWords ns = AllOf IsWord ns

abbrev pub TextsAreWords : List (List ℕ) → Type 0
TextsAreWords texts = AllOf AreWords texts
