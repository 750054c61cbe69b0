-- Words of bits that are mostly 0.
use Rattle.std.specs.Prelude.{◌≡◌, ◌≢◌, ℕ, ◌*◌, ◌/◌, ◌%◌, ◌<◌, ◌≤◌, List, [], ◌∷◌, Option, Some, None, Bool, true, false, ◌||◌, ◌&&◌, eqb, get_or, length, slice_set}
use Rattle.std.specs.Int.{bit_at}
use Rattle.mid_live.specs.declared.words.Held.{Held}
use Rattle.mid_live.specs.Sets.{on}

unfoldable pub bit : ℕ → ℕ → Bool
bit w k = eqb (bit_at w k) 1

-- of each word that is not 0 a bit is held
pub record IsHeld (ws hs : List ℕ) : Type 0 where
  pub few : length ws ≤ 0x4000000
  pub wide : length ws ≤ 64 * length hs
  pub held : (i : ℕ) → get_or ws i 0 ≢ 0 → on hs i ≡ true

-- the first word, where there is one, and the others
abbrev pub held_in : Option Held → List Held → List Held
held_in None es = es
held_in (Some e) es = e ∷ es

-- some of the words has the bit of a temporary
abbrev pub some : List Held → ℕ → Bool
some [] y = false
some (e ∷ es) y = (eqb e.at (y / 64) && bit e.word (y % 64)) || some es y

-- the words put in their places
abbrev pub spread : List ℕ → List Held → List ℕ
spread ws [] = ws
spread ws (e ∷ es) = spread (slice_set ws e.at e.word) es

-- each in a place of its own, where a 0 stood
abbrev pub FreshIn : List ℕ → List Held → Type 0
FreshIn ws [] = Unit {0}
FreshIn ws (e ∷ es) = (e.at < length ws) × (get_or ws e.at 0 ≡ 0) × FreshIn (slice_set ws e.at e.word) es
