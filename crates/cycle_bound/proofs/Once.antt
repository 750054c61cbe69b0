-- In a program without a fault no label stands twice, so that what is behind it is what stands there.
use Rattle.std.proofs.Common.{◌≡◌, ℕ, ◌+◌, ◌⊎◌, inl, inr, Bool, true, false, cond, List, [], ◌∷◌, ◌++◌, Some, None, refl, sym, ap, subst, ◌∙◌}
use Rattle.std.specs.Prelude.{bytes_eq, ◌||◌, nat_lt, Option}
use Rattle.std.specs.List.{list_any}
use Rattle.std.proofs.lemmas.Slice.Eq.{bytes_eq-Decides}
use Rattle.asm_items.specs.declared.item.AsmItem.{AsmItem}
use Rattle.asm_items.specs.declared.item.AsmItem.TheVariants.{Label, Op, Integer, Pointer}
use Rattle.assembler.specs.Faults.{fault_at, twice_from, naming_fault, or_past, fault_of}
use Rattle.asm_laws.specs.Labelled.{HasLabel}
use Rattle.asm_laws.specs.Numbers.{behind}

same_label : (l : List ℕ) → bytes_eq l l ≡ true
same_label l = (bytes_eq-Decides l l).1 refl

any_more : (l m : List ℕ) (names : List (List ℕ)) → list_any (bytes_eq l) names ≡ true → list_any (bytes_eq l) (names ++ m ∷ []) ≡ true
any_more l m [] e = absurd cc
any_more l m (n ∷ names) e = elim (bytes_eq l n) as (λ b. b || list_any (bytes_eq l) names ≡ true → b || list_any (bytes_eq l) (names ++ m ∷ []) ≡ true) [
  | true ↦ λ h. refl
  | false ↦ λ h. any_more l m names h
] e

any_last : (l : List ℕ) (names : List (List ℕ)) → list_any (bytes_eq l) (names ++ l ∷ []) ≡ true
any_last l [] = ap (λ b. b || false) (same_label l)
any_last l (n ∷ names) = elim (bytes_eq l n) as (λ b. b || list_any (bytes_eq l) (names ++ l ∷ []) ≡ true) [
  | true ↦ refl
  | false ↦ any_last l names
]

module _ (l : List ℕ) (after : List AsmItem) where
  -- one of these names comes again
  again : (before : List AsmItem) (k : ℕ) (names : List (List ℕ)) → list_any (bytes_eq l) names ≡ true → twice_from k names (before ++ Label l ∷ after) ≡ None → ⊥
  unfolding twice_from
  again [] k names is e = absurd (let f : cond true (Some k) (twice_from (k + 1) (names ++ l ∷ []) after) ≡ None = subst (λ b. cond b (Some k) (twice_from (k + 1) (names ++ l ∷ []) after) ≡ None) is e in let g : Some k ≡ None = f in cc)
  again (Label m ∷ before) k names is e = elim (list_any (bytes_eq m) names) as (λ b. cond b (Some k) (twice_from (k + 1) (names ++ m ∷ []) (before ++ Label l ∷ after)) ≡ None → ⊥) [
    | true ↦ λ h. absurd (let g : Some k ≡ None = h in cc)
    | false ↦ λ h. again before (k + 1) (names ++ m ∷ []) (any_more l m names is) h
  ] e
  again (Op i ∷ before) k names is e = again before (k + 1) names is e
  again (Integer w ∷ before) k names is e = again before (k + 1) names is e
  again (Pointer m ∷ before) k names is e = again before (k + 1) names is e

  twice : (before : List AsmItem) (k : ℕ) (names : List (List ℕ)) → HasLabel before l → twice_from k names (before ++ Label l ∷ after) ≡ None → ⊥
  unfolding twice_from
  twice [] k names has e = absurd has
  twice (Label m ∷ before) k names has e = elim (list_any (bytes_eq m) names) as (λ b. cond b (Some k) (twice_from (k + 1) (names ++ m ∷ []) (before ++ Label l ∷ after)) ≡ None → ⊥) [
    | true ↦ λ h. absurd (let g : Some k ≡ None = h in cc)
    | false ↦ λ h. on (λ x. twice before (k + 1) (names ++ m ∷ []) x h) h has
  ] e
    where
      on : (HasLabel before l → ⊥) → twice_from (k + 1) (names ++ m ∷ []) (before ++ Label l ∷ after) ≡ None → (l ≡ m) ⊎ HasLabel before l → ⊥
      on rec h (inl is) = again before (k + 1) (names ++ m ∷ []) (subst (λ x. list_any (bytes_eq l) (names ++ x ∷ []) ≡ true) is (any_last l names)) h
      on rec h (inr x) = rec x
  twice (Op i ∷ before) k names has e = twice before (k + 1) names has e
  twice (Integer w ∷ before) k names has e = twice before (k + 1) names has e
  twice (Pointer m ∷ before) k names has e = twice before (k + 1) names has e

  -- what stands behind a label that does not stand before
  behind_is : (before : List AsmItem) → (HasLabel before l → ⊥) → behind (before ++ Label l ∷ after) l ≡ after
  behind_is [] free = ap (λ b. cond b after (behind after l)) (same_label l)
  behind_is (Label m ∷ before) free = go (bytes_eq l m) refl (behind_is before (λ x. free (inr x)))
    where
      go : (b : Bool) → bytes_eq l m ≡ b → behind (before ++ Label l ∷ after) l ≡ after → cond (bytes_eq l m) (before ++ Label l ∷ after) (behind (before ++ Label l ∷ after) l) ≡ after
      go true e r = absurd (free (inl ((bytes_eq-Decides l m).0 e)))
      go false e r = ap (λ b. cond b (before ++ Label l ∷ after) (behind (before ++ Label l ∷ after) l)) e ∙ r
  behind_is (Op i ∷ before) free = behind_is before free
  behind_is (Integer w ∷ before) free = behind_is before free
  behind_is (Pointer m ∷ before) free = behind_is before free

either_some : (t u : ℕ) (past : Option ℕ) (b : Bool) → or_past (cond b (Some (fault_at 64 t)) (Some (fault_at 65 u))) past ≡ None → ⊥
either_some t u past true e = absurd cc
either_some t u past false e = absurd cc

no_twice : (a b past : Option ℕ) → or_past (naming_fault a b) past ≡ None → a ≡ None
no_twice None b past e = refl
no_twice (Some t) None past e = absurd cc
no_twice (Some t) (Some u) past e = absurd (either_some t u past (nat_lt t u) e)

faultless : (items : List AsmItem) → fault_of items ≡ None → twice_from 1 [] items ≡ None
unfolding fault_of
faultless items ok = no_twice (twice_from 1 [] items) _ _ ok

pub behind_one : (items before after : List AsmItem) (l : List ℕ) → fault_of items ≡ None → items ≡ before ++ Label l ∷ after → behind items l ≡ after
behind_one items before after l ok is =
    let none = faultless (before ++ Label l ∷ after) (ap fault_of (sym is) ∙ ok) in
    ap (λ xs. behind xs l) is ∙ behind_is l after before (λ has. twice l after before 1 [] has none)
