-- What is chosen for a function, the plan by it, and the function by that.
use Rattle.std.specs.Prelude.{◌≡◌, ℕ, zero, suc, ◌+◌, ◌≤◌, Bool, true, false, cond, List, [], ◌∷◌, length, get_or, ◌⊎◌, Some}
use Rattle.mid_code.specs.Code.{FunctionT}
use Rattle.mid_code.specs.Functions.{NodeT, ListT, listed, joined}
use Rattle.mid_replace.specs.inner.Facts.{Plain, Any, Plan}
use Rattle.mid_replace.specs.inner.Replaced.{replaced}

-- which locals are held, and which temporaries may at some point hold an address of one
pub record Choice : Type 0 where
  pub held : List Bool
  pub unsure : List Bool

-- the words of those that are held, and of those before one
abbrev pub held_words : List Bool → List ℕ → ℕ
held_words [] ns = 0
held_words (b ∷ bs) [] = 0
held_words (b ∷ bs) (n ∷ ns) = cond b n 0 + held_words bs ns

abbrev pub words_before : List Bool → List ℕ → ℕ → ℕ
words_before [] ns k = 0
words_before (b ∷ bs) [] k = 0
words_before (b ∷ bs) (n ∷ ns) zero = 0
words_before (b ∷ bs) (n ∷ ns) (suc k) = cond b n 0 + words_before bs ns k

-- their words get the temporaries behind those of the function
abbrev pub plan_by : FunctionT ℕ → Choice → Plan
plan_by f c = record {
  temps = f.temps;
  held = λ k. get_or c.held k false;
  variable = λ k w. f.temps + (words_before c.held f.locals k + w);
  size = λ k. get_or f.locals k 0;
  base = λ q. cond (get_or c.unsure q true) Any Plain;
}

-- how many words a function holds at most
abbrev pub most_words : ℕ
most_words = 16

-- A function by a choice: its body, as it stands in memory, with the words in temporaries.
pub record IsByChoice (f g : FunctionT ℕ) : Type 0 where
  pub choice : Choice
  pub before : ListT ℕ
  pub after : List (NodeT ℕ)
  pub few : length choice.held ≤ length f.locals
  pub words : held_words choice.held f.locals ≤ most_words
  pub count : f.temps + held_words choice.held f.locals + length f.locals ≤ 1000000
  pub body : f.body ≡ joined before
  pub done : replaced (plan_by f choice) [] before ≡ Some after
  pub is : g ≡ record { temps = f.temps + held_words choice.held f.locals; params = f.params; locals = f.locals; gives = f.gives; body = joined (listed after) }

-- or it stays
abbrev pub IsReplacedBy : (f g : FunctionT ℕ) → Type 0
IsReplacedBy f g = IsByChoice f g ⊎ (g ≡ f)

abbrev pub AllReplacedBy : List (FunctionT ℕ) → List (FunctionT ℕ) → Type 0
AllReplacedBy [] [] = Unit {0}
AllReplacedBy (f ∷ fs) (g ∷ gs) = IsReplacedBy f g × AllReplacedBy fs gs
AllReplacedBy _ _ = ⊥
