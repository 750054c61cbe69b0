-- The plan of a table, and the table of a function.
use Rattle.std.specs.Prelude.{◌≡◌, ℕ, ◌+◌, ◌≤◌, Bool, true, false, cond, List, [], ◌∷◌, length, get_or}
use Rattle.mid_code.specs.Code.{FunctionT}
use Rattle.mid_code.specs.Invariants.{AllOf}
use Rattle.mid_replace.specs.declared.table.Table.{Table}
use Rattle.mid_replace.specs.inner.Facts.{Plain, Any, Plan}
use Rattle.mid_replace.specs.inner.Chosen.{held_words, most_words}

abbrev pub plan_in : Table → Plan
plan_in t = record {
  temps = t.temps;
  held = λ k. get_or t.held.items k false;
  variable = λ k w. get_or t.firsts.items k t.end + w;
  size = λ k. get_or t.sizes.items k 0;
  base = λ q. cond (get_or t.unsure.items q true) Any Plain;
}

-- the temporaries of a local that is held are few
abbrev pub HasRoom : Table → Type 0
HasRoom t = (k : ℕ) → get_or t.held.items k false ≡ true → get_or t.firsts.items k t.end + get_or t.sizes.items k 0 ≤ 1000000

-- the temporary of the first word of each local, where those that are held have theirs from one on
abbrev pub firsts_from : ℕ → List Bool → List ℕ → List ℕ
firsts_from n [] sizes = []
firsts_from n (b ∷ bs) [] = []
firsts_from n (b ∷ bs) (size ∷ sizes) = n ∷ firsts_from (n + cond b size 0) bs sizes

pub record IsTableOf (f : FunctionT ℕ) (t : Table) : Type 0 where
  pub temps : t.temps ≡ f.temps
  pub firsts : t.firsts.items ≡ firsts_from f.temps t.held.items f.locals
  pub end : t.end ≡ f.temps + held_words t.held.items f.locals
  pub sizes : t.sizes.items ≡ f.locals
  pub few : length t.held.items ≤ length f.locals
  pub words : held_words t.held.items f.locals ≤ most_words
  pub count : t.end + length f.locals ≤ 1000000

-- what is asked of functions
abbrev pub HasCount : FunctionT ℕ → Type 0
HasCount f = f.temps + length f.locals ≤ 1000000

abbrev pub HaveCounts : List (FunctionT ℕ) → Type 0
HaveCounts fs = AllOf HasCount fs
