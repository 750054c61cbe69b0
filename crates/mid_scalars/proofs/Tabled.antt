-- The plan of a function's table is that of the function in its program.
use Rattle.std.proofs.Common.{◌≡◌, ℕ, zero, suc, ◌+◌, ◌-◌, ◌<◌, ◌≤◌, Bool, true, false, cond, ltb, List, [], ◌∷◌, length, get_or, Some, None, refl, sym, ap, ◌∙◌, subst, arith}
use Rattle.std.specs.Option.{option_map_or}
use Rattle.mid_code.specs.Code.{NodesT, FunctionT, CodeT}
use Rattle.mid_code.specs.States.{function_at}
use Rattle.mid_scalars.specs.declared.roles.Role.{Role}
use Rattle.mid_scalars.specs.declared.roles.Role.TheVariants.{Open, AddressOf, Spoilt}
use Rattle.mid_scalars.specs.declared.table.Table.{Table}
use Rattle.mid_scalars.specs.inner.Plan.{Kind, Own, Address, Variable, promoted_nodes}
use Rattle.mid_scalars.specs.inner.Table.{flags_from, flags, nth_true, address_in, address_kind, trues, trues_before, falses_before, kind_in, plan_of}
use Rattle.mid_scalars.specs.inner.Purposes.{role_of, role_at, kind_by}
use Rattle.mid_scalars.specs.inner.Rewriting.{addressed, number_in, plan_by}
use Rattle.mid_scalars.specs.inner.Tabled.{falses, numbers_from, IsTableOf}
use Rattle.mid_scalars.proofs.ByRole.{kind_is}
use Rattle.mid_scalars.proofs.Rewritten.{SamePlans, code_same}

flags_length : (f : FunctionT ℕ) (n : ℕ) (sizes : List ℕ) → length (flags_from f n sizes) ≡ length sizes
flags_length f n [] = refl
flags_length f n (s ∷ sizes) = ap suc (flags_length f (suc n) sizes)

pub flags_long : (f : FunctionT ℕ) (bs : List Bool) → bs ≡ flags f → length bs ≡ length f.locals
flags_long f bs e = ap length e ∙ flags_length f 0 f.locals

-- ---- numbers

pub numbers_length : (t k : ℕ) (bs : List Bool) → length (numbers_from t k bs) ≡ length bs
numbers_length t k [] = refl
numbers_length t k (true ∷ bs) = ap suc (numbers_length (suc t) k bs)
numbers_length t k (false ∷ bs) = ap suc (numbers_length t (suc k) bs)

pub falses_few : (bs : List Bool) → falses bs ≤ length bs
falses_few [] = omega arith
falses_few (true ∷ bs) = let h = falses_few bs in omega (arith, h)
falses_few (false ∷ bs) = let h = falses_few bs in omega (arith, h)

pub trues_and_falses : (bs : List Bool) → trues bs + falses bs ≡ length bs
trues_and_falses [] = refl
trues_and_falses (true ∷ bs) = let h = trues_and_falses bs in omega (arith, h)
trues_and_falses (false ∷ bs) = let h = trues_and_falses bs in omega (arith, h)

number_at : (t k : ℕ) (bs : List Bool) (j : ℕ) → j < length bs → get_or (numbers_from t k bs) j 0 ≡ cond (get_or bs j false) (t + trues_before bs j) (k + falses_before bs j)
number_at t k [] j lt = absurd (omega (arith, lt))
number_at t k (true ∷ bs) zero lt = omega arith
number_at t k (false ∷ bs) zero lt = omega arith
number_at t k (true ∷ bs) (suc j) lt = number_at (suc t) k bs j (omega (arith, lt)) ∙ ap (λ n. cond (get_or bs j false) n (k + falses_before bs j)) (omega arith)
number_at t k (false ∷ bs) (suc j) lt = number_at t (suc k) bs j (omega (arith, lt)) ∙ ap (λ n. cond (get_or bs j false) (t + trues_before bs j) n) (omega arith)

behind : (bs : List Bool) (j : ℕ) → length bs ≤ j → (get_or bs j false ≡ false) × (falses bs + (j - length bs) ≡ falses_before bs j)
behind [] j le = (refl, omega arith)
behind (b ∷ bs) zero le = absurd (omega (arith, le))
behind (true ∷ bs) (suc j) le = let h = behind bs j (omega (arith, le)) in (h.0, let e = h.1 in omega (arith, e))
behind (false ∷ bs) (suc j) le = let h = behind bs j (omega (arith, le)) in (h.0, let e = h.1 in omega (arith, e))

number_is : (t : ℕ) (bs : List Bool) (j : ℕ) → number_in (numbers_from t 0 bs) (falses bs) j ≡ cond (get_or bs j false) (t + trues_before bs j) (falses_before bs j)
number_is t bs j = go (ltb j (length (numbers_from t 0 bs))) refl
  where
    long : length (numbers_from t 0 bs) ≡ length bs
    long = numbers_length t 0 bs

    go : (b : Bool) → ltb j (length (numbers_from t 0 bs)) ≡ b → number_in (numbers_from t 0 bs) (falses bs) j ≡ cond (get_or bs j false) (t + trues_before bs j) (falses_before bs j)
    go true e =
        let lt : j < length bs = subst (λ n. j < n) long (grind (arith, e)) in
        ap (λ b. cond b (get_or (numbers_from t 0 bs) j 0) (falses bs + (j - length (numbers_from t 0 bs)))) e ∙ number_at t 0 bs j lt ∙ ap (λ n. cond (get_or bs j false) (t + trues_before bs j) n) (omega arith)
    go false e =
        let le : length bs ≤ j = subst (λ n. n ≤ j) long (grind (arith, e)) in
        let h = behind bs j le in
        ap (λ b. cond b (get_or (numbers_from t 0 bs) j 0) (falses bs + (j - length (numbers_from t 0 bs)))) e ∙ ap (λ n. falses bs + (j - n)) long ∙ h.1 ∙ sym (ap (λ b. cond b (t + trues_before bs j) (falses_before bs j)) h.0)

-- ---- the plan of a function

module _ (f : FunctionT ℕ) (t : Table) (is : IsTableOf f t) where
  bs : List Bool
  bs = flags f

  number : (k : ℕ) → number_in t.numbers.items t.kept k ≡ cond (get_or (flags f) k false) (f.temps + trues_before (flags f) k) (falses_before (flags f) k)
  number k = (let a = is.numbers in let b = is.kept in λ i. number_in (a i) (b i) k) ∙ number_is f.temps (flags f) k

  kind_below : (p : ℕ) → p < f.temps → kind_by t.plain.items (role_at t.roles.items p) ≡ kind_in f p
  kind_below p lt = (let a = is.plain in let b = is.roles p lt in λ i. kind_by (a i) (b i)) ∙ sym (kind_is f p lt)

  by_number : (q : Kind) → (r : Role) → q ≡ kind_by (flags f) r → option_map_or (λ k. Some (number_in t.numbers.items t.kept k)) (addressed q) None ≡ option_map_or (λ k. Some (f.temps + trues_before (flags f) k)) (addressed q) None
  by_number Own r e = refl
  by_number (Variable k) r e = refl
  by_number (Address k) r e = ap Some (number k ∙ ap (λ b. cond b (f.temps + trues_before (flags f) k) (falses_before (flags f) k)) (flag r e))
    where
      flag_of_cond : (j : ℕ) (b : Bool) → get_or (flags f) j false ≡ b → Address k ≡ cond b (Address j) Own → get_or (flags f) k false ≡ true
      flag_of_cond j true g h = ap (λ n. get_or (flags f) n false) (one h) ∙ g
        where
          one : Address k ≡ Address j → k ≡ j
          one z = cc
      flag_of_cond j false g h = absurd (no h)
        where
          no : Address k ≡ Own → ⊥
          no z = cc

      flag : (s : Role) → Address k ≡ kind_by (flags f) s → get_or (flags f) k false ≡ true
      flag Open h = absurd (no h)
        where
          no : Address k ≡ Own → ⊥
          no z = cc
      flag Spoilt h = absurd (no h)
        where
          no : Address k ≡ Own → ⊥
          no z = cc
      flag (AddressOf j) h = flag_of_cond j (get_or (flags f) j false) refl h

  above : (p : ℕ) → f.temps ≤ p → (kind_by t.plain.items (role_at t.roles.items p) ≡ Own) × (addressed (kind_in f p) ≡ None)
  above p le = (ap (kind_by t.plain.items) (far t.roles.items p (let c = is.count in omega (arith, c, le))), past (ltb p f.temps) refl)
    where
      far : (rs : List Role) (y : ℕ) → length rs ≤ y → get_or rs y Open ≡ Open
      far [] y h = refl
      far (r ∷ rs) zero h = absurd (omega (arith, h))
      far (r ∷ rs) (suc y) h = far rs y (omega (arith, h))

      past : (b : Bool) → ltb p f.temps ≡ b → addressed (kind_in f p) ≡ None
      past true e = absurd (let lt : p < f.temps = grind (arith, e) in omega (arith, lt, le))
      past false e = ap (λ b. addressed (cond b (address_kind (flags f) (address_in p f.body)) (Variable (nth_true (flags f) (p - f.temps))))) e

  variable : (p : ℕ) → option_map_or (λ k. Some (number_in t.numbers.items t.kept k)) (addressed (kind_by t.plain.items (role_at t.roles.items p))) None ≡ option_map_or (λ k. Some (f.temps + trues_before (flags f) k)) (addressed (kind_in f p)) None
  variable p = go (ltb p f.temps) refl
    where
      go : (b : Bool) → ltb p f.temps ≡ b → option_map_or (λ k. Some (number_in t.numbers.items t.kept k)) (addressed (kind_by t.plain.items (role_at t.roles.items p))) None ≡ option_map_or (λ k. Some (f.temps + trues_before (flags f) k)) (addressed (kind_in f p)) None
      go true e =
          let lt : p < f.temps = grind (arith, e) in
          ap (λ q. option_map_or (λ k. Some (number_in t.numbers.items t.kept k)) (addressed q) None) (kind_below p lt) ∙ by_number (kind_in f p) (role_of f p) (kind_is f p lt)
      go false e =
          let le : f.temps ≤ p = grind (arith, e) in
          ap (λ q. option_map_or (λ k. Some (number_in t.numbers.items t.kept k)) (addressed q) None) (above p le).0 ∙ sym (ap (λ o. option_map_or (λ k. Some (f.temps + trues_before (flags f) k)) o None) (above p le).1)

  same : (x : CodeT ℕ) (g : ℕ) → function_at x g ≡ f → SamePlans (plan_by t) None (plan_of x) (Some g)
  same x g e = record {
    promoted = λ k. ap (λ cs. get_or cs k false) (is.plain ∙ ap flags (sym e));
    moved = λ k no. number k ∙ (let z = sym e in λ i. cond (get_or (flags (z i)) k false) ((z i).temps + trues_before (flags (z i)) k) (falses_before (flags (z i)) k)) ∙ ap (λ b. cond b ((function_at x g).temps + trues_before (flags (function_at x g)) k) (falses_before (flags (function_at x g)) k)) no;
    variable = λ p. variable p ∙ (let z = sym e in λ i. option_map_or (λ k. Some ((z i).temps + trues_before (flags (z i)) k)) (addressed (kind_in (z i) p)) None);
  }

  pub body_is : (x : CodeT ℕ) (g : ℕ) → function_at x g ≡ f → (c : NodesT ℕ) → promoted_nodes (plan_by t) None c ≡ promoted_nodes (plan_of x) (Some g) c
  body_is x g e c = code_same (plan_by t) None (plan_of x) (Some g) (same x g e) c
