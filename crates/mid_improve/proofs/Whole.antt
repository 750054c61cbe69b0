-- The functions of mid code are named; a program is settled where its start and its functions are.
use Rattle.std.proofs.Common.{◌≡◌, ◌↔◌, ℕ, ◌+◌, ◌<◌, suc, add-one, Bool, true, false, List, [], ◌∷◌, map, drop, drop-cons, get_or, length, ap, sym, ◌∙◌, subst}
use Rattle.std.proofs.lemmas.Bool.{false≢true}
use Rattle.mid_code.specs.declared.function.Function.{Function}
use Rattle.mid_code.specs.Code.{FunctionT, CodeT}
use Rattle.mid_code.specs.Functions.{function}
use Rattle.mid_code.specs.Invariants.{AllOf, IsFunction, IsTemporary, IsMid}
use Rattle.mid_code.specs.Paths.{Each}
use Rattle.mid_improve.specs.Settled.{nodes_settled, IsWanted, IsSettledFunction, IsSettled}
use Rattle.mid_improve.specs.inner.Named.{IsNamed}
use Rattle.mid_improve.specs.inner.Rounds.{HasSettledRuns}

pub start_named : (x : CodeT ℕ) → IsMid x → IsNamed x.start
start_named x m = m.start.function.names

all_named : (x : CodeT ℕ) (fs : List (FunctionT ℕ)) → AllOf (IsFunction IsTemporary x) fs → AllOf IsNamed fs
all_named x [] a = tt
all_named x (f ∷ fs) a = (a.0.names, all_named x fs a.1)

pub functions_named : (x : CodeT ℕ) → IsMid x → AllOf IsNamed x.functions
functions_named x m = all_named x x.functions m.functions

-- ---- one function

pub runs_not : (f : FunctionT ℕ) (r : Bool) → r ≡ nodes_settled [] f.body → r ≡ false → (false ≡ true) ↔ IsSettledFunction f
runs_not f r e n = ((λ h. absurd (false≢true h)), (λ s. absurd (false≢true (sym n ∙ e ∙ s.runs))))

pub targets_then : (f : FunctionT ℕ) (r b : Bool) → r ≡ nodes_settled [] f.body → r ≡ true → (b ≡ true) ↔ Each IsWanted [] f.body → (b ≡ true) ↔ IsSettledFunction f
targets_then f r b e t w = ((λ h. record { runs = sym e ∙ t; targets = w.0 h }), (λ s. w.1 s.targets))

pub targets_only : (f : FunctionT ℕ) (b : Bool) → HasSettledRuns f → (b ≡ true) ↔ Each IsWanted [] f.body → (b ≡ true) ↔ IsSettledFunction f
targets_only f b r w = ((λ h. record { runs = r; targets = w.0 h }), (λ s. w.1 s.targets))

-- ---- a list of functions, from one of them on

abbrev pub from : List (Function ℕ) → ℕ → List (FunctionT ℕ)
from fs i = map function (drop i fs)

pub from_one : (fs : List (Function ℕ)) (i : ℕ) (f : Function ℕ) → i < length fs → f ≡ get_or fs i f → from fs i ≡ function f ∷ from fs (i + 1)
from_one fs i f l e = ap (map function) (drop-cons fs i f l) ∙ ap (λ g. function g ∷ map function (drop (suc i) fs)) (sym e) ∙ ap (λ k. function f ∷ from fs k) (sym (add-one i))

module _ (fs : List (Function ℕ)) (i : ℕ) where
  abbrev pub Stands : Type 0
  Stands = AllOf IsSettledFunction (from fs i) ↔ AllOf IsSettledFunction (map function fs)

  pub one_not : (f : Function ℕ) (b : Bool) → from fs i ≡ function f ∷ from fs (i + 1) → (b ≡ true) ↔ IsSettledFunction (function f) → b ≡ false → Stands → (false ≡ true) ↔ AllOf IsSettledFunction (map function fs)
  one_not f b e x n k = ((λ h. absurd (false≢true h)), (λ a. absurd (false≢true (sym n ∙ x.1 (subst (AllOf IsSettledFunction) e (k.1 a)).0))))

  pub one_then : (f : Function ℕ) (b : Bool) → from fs i ≡ function f ∷ from fs (i + 1) → (b ≡ true) ↔ IsSettledFunction (function f) → b ≡ true → Stands → AllOf IsSettledFunction (from fs (i + 1)) ↔ AllOf IsSettledFunction (map function fs)
  one_then f b e x t k = ((λ a. k.0 (subst (AllOf IsSettledFunction) (sym e) (x.0 t, a))), (λ a. (subst (AllOf IsSettledFunction) e (k.1 a)).1))

-- ---- a program

pub start_not : (x : CodeT ℕ) (b : Bool) → (b ≡ true) ↔ IsSettledFunction x.start → b ≡ false → (false ≡ true) ↔ IsSettled x
start_not x b w n = ((λ h. absurd (false≢true h)), (λ s. absurd (false≢true (sym n ∙ w.1 s.start))))

pub functions_then : (x : CodeT ℕ) (a b : Bool) → (a ≡ true) ↔ IsSettledFunction x.start → a ≡ true → (b ≡ true) ↔ AllOf IsSettledFunction x.functions → (b ≡ true) ↔ IsSettled x
functions_then x a b w t v = ((λ h. record { start = w.0 t; functions = v.0 h }), (λ s. v.1 s.functions))
