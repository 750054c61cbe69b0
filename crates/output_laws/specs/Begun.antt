-- What the files hold after effects that were begun: some of them are done, the last of these perhaps in part.
use Rattle.std.specs.Prelude.{ℕ, ◌≡◌, ◌⊎◌, Bool, true, false, ◌||◌, List, [], ◌∷◌, ◌++◌, Some, if◌then◌else◌}
use Rattle.std.specs.List.{list_any}
use Rattle.std.specs.Str.{bytes_eq}
use Rattle.std.specs.FinMap.{get}
use Rattle.kit_base.specs.Held.{Held}
use Rattle.kit_base.specs.Effects.{Effect, Creates, Appends, all_done, CutShort}
use Rattle.v32_console.specs.Setup.{Setup}
use Rattle.run_core.specs.Outputs.{Names, run_outputs}
use Rattle.output_laws.specs.Standing.{AreApart, FrontsStand, IsFrontOf}

abbrev pub is_among : List ℕ → List (List ℕ) → Bool
is_among name names = list_any (λ other. bytes_eq name other) names

-- no file is created that was created before, and what is added to was created
abbrev pub CreatesOnce : List (List ℕ) → List Effect → Type 0
CreatesOnce made [] = Unit {0}
CreatesOnce made (Creates name ∷ es) = (is_among name made ≡ false) × CreatesOnce (name ∷ made) es
CreatesOnce made (Appends name piece ∷ es) = (is_among name made ≡ true) × CreatesOnce made es

-- whether the file is created
abbrev pub creates : List ℕ → List Effect → Bool
creates name [] = false
creates name (Creates n ∷ es) = bytes_eq name n || creates name es
creates name (Appends n piece ∷ es) = creates name es

-- the bytes of the file that is created: all that is added to it, in order
abbrev pub bytes_in : List ℕ → List Effect → List ℕ
bytes_in name [] = []
bytes_in name (Creates n ∷ es) = bytes_in name es
bytes_in name (Appends n piece ∷ es) = if bytes_eq name n then piece ++ bytes_in name es else bytes_in name es

-- all are done, or they were cut short at a refused call on the file of some name
abbrev pub AreBegun : List Effect → (before after : Held) → Type 0
AreBegun es before after = (Some after ≡ all_done es (Some before)) ⊎ ((name : List ℕ) × CutShort name es (Some before) (Some after))

-- each file that they create is as before or holds a front of its bytes, and every other file is as before
pub record AreFronts (es : List Effect) (before after : Held) : Type 0 where
  pub created : (name : List ℕ) → creates name es ≡ true → IsFrontOf (bytes_in name es) (get before name) (get after name)
  pub others : (name : List ℕ) → creates name es ≡ false → get after name ≡ get before name

abbrev pub BegunEffectsAreFronts : Type 0
BegunEffectsAreFronts = (es : List Effect) (before after : Held) → CreatesOnce [] es → AreBegun es before after → AreFronts es before after

-- the same of the outputs of a run, by its own files
abbrev pub RunFrontsAreItsFiles : Type 0
RunFrontsAreItsFiles = (names : Names) (u : Setup) (count : ℕ) (before after : Held) → AreApart names
    → AreFronts (run_outputs names u count) before after → FrontsStand names u count before after
