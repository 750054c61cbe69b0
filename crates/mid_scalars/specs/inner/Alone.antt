-- A function promoted by itself.
use Rattle.std.specs.Prelude.{ℕ, ◌+◌, ◌≤◌, List, [], ◌∷◌, length, Some}
use Rattle.mid_code.specs.Code.{FunctionT, CodeT}
use Rattle.mid_code.specs.States.{no_function}
use Rattle.mid_code.specs.Invariants.{Names, IsTemporary, AllOf}
use Rattle.mid_scalars.specs.inner.Table.{plan_of, promoted_function}

-- the program of one function alone
abbrev pub alone : FunctionT ℕ → CodeT ℕ
alone f = record { start = no_function; functions = f ∷ []; globals = []; literals = []; main = 0 }

abbrev pub promoted_alone : FunctionT ℕ → FunctionT ℕ
promoted_alone f = promoted_function (plan_of (alone f)) (Some 0) f

-- what the code of `promote` asks of a function
pub record IsPromotable (f : FunctionT ℕ) : Type 0 where
  pub names : Names (IsTemporary f) f.body
  pub count : f.temps + length f.locals ≤ 1000000

abbrev pub ArePromotable : List (FunctionT ℕ) → Type 0
ArePromotable fs = AllOf IsPromotable fs
