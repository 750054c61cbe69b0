-- Which temporary of a set stands at each place, where no two stand at one.
use Rattle.std.specs.Prelude.{◌≡◌, ℕ, suc, ◌+◌, ◌<◌, ◌≤◌, List, [], ◌∷◌, length, get_or, Bool, true, false, ◌||◌, ltb}
use Rattle.mid_code.specs.declared.placed.Where.{Where}
use Rattle.mid_code.specs.declared.placed.Where.TheVariants.{Reg, Slot}
use Rattle.mid_code.specs.Code.{Stop}
use Rattle.mid_code.specs.Functions.{NodeT, ListT, before, joined}
use Rattle.mid_code.specs.Safe.{place_of}
use Rattle.reg_choose.specs.inner.Scan.{one}
use Rattle.mid_live.specs.Sets.{on, room}
use Rattle.reg_choose.specs.inner.Checked.{Labels, ApartIn, live_set, InsideChecked, ListChecked, NodeChecked}

-- ---- numbers of places

-- how many of the numbers are lower
abbrev pub below : ℕ → List ℕ → ℕ
below k [] = 0
below k (m ∷ ms) = one (ltb m k) + below k ms

abbrev pub slots_in : List Where → List ℕ
slots_in [] = []
slots_in (Reg r ∷ ws) = slots_in ws
slots_in (Slot k ∷ ws) = k ∷ slots_in ws

-- the registers have their own numbers, then come the slots
abbrev pub number_of : List ℕ → Where → ℕ
number_of ms (Reg r) = r
number_of ms (Slot k) = 9 + below k ms

-- the number of the place of a temporary; the slot 0 is counted, since it is that of temporaries that are none
unfoldable pub number_at : List Where → ℕ → ℕ
number_at at x = number_of (0 ∷ slots_in at) (place_of at x)

-- numbers of all temporaries, and one more for those that are none
pub record IsPlan (at : List Where) (numbers : List ℕ) : Type 0 where
  pub long : length numbers ≡ suc (length at)
  pub is : (x d : ℕ) → x < length at → get_or numbers x d ≡ number_at at x
  pub other : (x d : ℕ) → length at ≤ x → get_or numbers (length at) d ≡ number_at at x
  pub chosen : (x r : ℕ) → place_of at x ≡ Reg r → r < 9

-- ---- holders

-- at the number of each place stands 1 more than the temporary of the set that holds it, or 0
pub record Stands (at : List Where) (s hs : List ℕ) : Type 0 where
  pub wide : length at ≤ room s
  pub nine : 9 ≤ length hs
  pub numbers : (x : ℕ) → number_at at x < length hs
  pub holds : (x : ℕ) → x < length at → on s x ≡ true → get_or hs (number_at at x) 0 ≡ suc x
  pub held : (k x : ℕ) → get_or hs k 0 ≡ suc x → (x < length at) × (on s x ≡ true) × (number_at at x ≡ k)

-- what came of adding temporaries to a set: it has them, and no two share a place; or two would
abbrev pub Laid : List Where → (ℕ → Bool) → (old new hs : List ℕ) → Bool → Type 0
Laid at add old new hs true = ((y : ℕ) → y < length at → on new y ≡ (add y || on old y)) × Stands at new hs
Laid at add old new hs false = ApartIn (length at) at (λ y. add y || on old y) → ⊥

-- what came of making it another set
abbrev pub Made : List Where → (other new hs : List ℕ) → Bool → Type 0
Made at other new hs true = ((y : ℕ) → y < length at → on new y ≡ on other y) × Stands at new hs
Made at other new hs false = ApartIn (length at) at (on other) → ⊥

-- what came of the check of a node, and of nodes
abbrev pub NodeTried : List Where → Labels → NodeT ℕ → (old new hs : List ℕ) → Bool → Type 0
NodeTried at ls x old new hs true =
    ((y : ℕ) → y < length at → on new y ≡ live_set ls (before x Stop) (on old) y) × Stands at new hs
    × InsideChecked (length at) at ls x (on old)
NodeTried at ls x old new hs false = NodeChecked (length at) at ls x (on old) → ⊥

abbrev pub ListTried : List Where → Labels → ListT ℕ → (old new hs : List ℕ) → Bool → Type 0
ListTried at ls x old new hs true =
    ((y : ℕ) → y < length at → on new y ≡ live_set ls (joined x) (on old) y) × Stands at new hs
    × ListChecked (length at) at ls x (on old)
ListTried at ls x old new hs false = ListChecked (length at) at ls x (on old) → ⊥
