-- The table of a function.
use Rattle.std.specs.Prelude.{◌≡◌, ℕ, suc, ◌<◌, Bool, true, false, List, [], ◌∷◌, length}
use Rattle.mid_code.specs.Code.{FunctionT}
use Rattle.mid_scalars.specs.inner.Table.{flags}
use Rattle.mid_scalars.specs.inner.Purposes.{role_of, role_at}
use Rattle.mid_scalars.specs.declared.table.Table.{Table}

-- how many are not set
abbrev pub falses : List Bool → ℕ
falses [] = 0
falses (true ∷ bs) = falses bs
falses (false ∷ bs) = suc (falses bs)

-- plain locals are temporaries from a first one on, the others are numbered from one on
abbrev pub numbers_from : (temporary local : ℕ) → List Bool → List ℕ
numbers_from t k [] = []
numbers_from t k (true ∷ bs) = t ∷ numbers_from (suc t) k bs
numbers_from t k (false ∷ bs) = k ∷ numbers_from t (suc k) bs

pub record IsTableOf (f : FunctionT ℕ) (t : Table) : Type 0 where
  pub count : length t.roles.items ≡ f.temps
  pub roles : (y : ℕ) → y < f.temps → role_at t.roles.items y ≡ role_of f y
  pub plain : t.plain.items ≡ flags f
  pub numbers : t.numbers.items ≡ numbers_from f.temps 0 (flags f)
  pub kept : t.kept ≡ falses (flags f)
