-- The plan of a table is that of the choice, and its temporaries are few.
use Rattle.std.proofs.Common.{◌≡◌, ℕ, zero, suc, ◌+◌, ◌≤◌, Bool, true, false, cond, List, [], ◌∷◌, get_or, refl, ap, ◌∙◌, arith}
use Rattle.mid_code.specs.Code.{FunctionT}
use Rattle.mid_replace.specs.declared.table.Table.{Table}
use Rattle.mid_replace.specs.inner.Facts.{Plain, Any}
use Rattle.mid_replace.specs.inner.Chosen.{Choice, held_words, words_before, plan_by}
use Rattle.mid_replace.specs.inner.Tables.{plan_in, HasRoom, firsts_from, IsTableOf}

false_true : false ≡ true → ⊥
false_true e = cc

-- where the words of a local begin
pub first_at : (n : ℕ) (bs : List Bool) (ns : List ℕ) (k : ℕ) → get_or (firsts_from n bs ns) k (n + held_words bs ns) ≡ n + words_before bs ns k
first_at n [] ns k = refl
first_at n (b ∷ bs) [] k = refl
first_at n (b ∷ bs) (s ∷ ns) zero = omega arith
first_at n (b ∷ bs) (s ∷ ns) (suc k) =
    ap (get_or (firsts_from (n + cond b s 0) bs ns) k) (omega arith) ∙ first_at (n + cond b s 0) bs ns k ∙ omega arith

-- the words of a local that is held are among all
pub words_within : (bs : List Bool) (ns : List ℕ) (k : ℕ) → get_or bs k false ≡ true → words_before bs ns k + get_or ns k 0 ≤ held_words bs ns
words_within [] ns k e = absurd (false_true e)
words_within (b ∷ bs) [] k e = omega arith
words_within (true ∷ bs) (s ∷ ns) zero e = omega arith
words_within (false ∷ bs) (s ∷ ns) zero e = absurd (false_true e)
words_within (b ∷ bs) (s ∷ ns) (suc k) e = let a = words_within bs ns k e in omega (arith, a)

abbrev pub choice_in : Table → Choice
choice_in t = record { held = t.held.items; unsure = t.unsure.items }

module _ (f : FunctionT ℕ) (t : Table) (is : IsTableOf f t) where
  pub first_is : (k : ℕ) → get_or t.firsts.items k t.end ≡ f.temps + words_before t.held.items f.locals k
  first_is k = (λ i. get_or (is.firsts i) k (is.end i)) ∙ first_at f.temps t.held.items f.locals k

  variable_is : (k w : ℕ) → get_or t.firsts.items k t.end + w ≡ f.temps + (words_before t.held.items f.locals k + w)
  variable_is k w = let a = first_is k in omega (arith, a)

  pub plan_is : plan_in t ≡ plan_by f (choice_in t)
  plan_is = λ i. record {
    temps = is.temps i;
    held = λ k. get_or t.held.items k false;
    variable = λ k w. variable_is k w i;
    size = λ k. get_or (is.sizes i) k 0;
    base = λ q. cond (get_or t.unsure.items q true) Any Plain;
  }

  pub room_in : HasRoom t
  room_in k e =
      let a = first_is k in
      let b = words_within t.held.items f.locals k e in
      let c = ap (λ ns. get_or ns k 0) is.sizes in
      let d = is.end in
      let g = is.count in
      omega (arith, a, b, c, d, g)
