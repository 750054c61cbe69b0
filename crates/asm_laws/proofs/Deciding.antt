-- A place has a number, or a path from it comes where none may come; the longest path has the number.
use Rattle.std.proofs.Common.{ℕ, zero, suc, ◌≡◌, ◌+◌, ◌<◌, ◌≤◌, ◌⊎◌, inl, inr, Bool, true, false, cond, List, [], ◌∷◌, ◌++◌, length, refl, sym, ap, ◌∙◌, subst, arith, append_assoc, length-append}
use Rattle.std.specs.Prelude.{◌||◌, leb, bytes_eq, drop}
use Rattle.std.specs.List.{AllByRecursion, list_any, IsDistinct}
use Rattle.std.proofs.lemmas.Map.Keys.{IsDistinct-cons}
use Rattle.std.proofs.lemmas.Bool.{eqb-true, leb-true}
use Rattle.std.proofs.lemmas.Bool.Decides.{nat_tests}
use Rattle.std.proofs.Math.Dec.{eqb}
use Rattle.std.proofs.Math.Seq.{drop-append_seam}
use Rattle.std.proofs.lemmas.Map.Steps.{length-le_from_distinct_below}
use Rattle.v32_isa.specs.declared.instruction.Instr.{Instr}
use Rattle.asm_items.specs.declared.item.AsmItem.{AsmItem}
use Rattle.asm_items.specs.declared.item.AsmItem.TheVariants.{Label, Op, Integer, Pointer}
use Rattle.asm_items.specs.Items.{Imm}
use Rattle.asm_laws.specs.Numbers.{Kind, kind_of, behind, Number}
use Rattle.asm_laws.specs.Numbers.Kind.{Goes, Jumps, Parts, Calls, Returns, Halts, Other}
use Rattle.asm_laws.specs.Numbers.Number.{at_mark, at_goes, at_jump, at_parts, at_call, at_return, at_halt}
use Rattle.asm_laws.specs.Longest.{Needs, Comes, IsBad, Forbids, Takes, IsLongest}
use Rattle.asm_laws.specs.Longest.Needs.{mark, goes, jumps, passes, parts, enters, follows}
use Rattle.asm_laws.specs.Longest.Comes.{once, more}
use Rattle.asm_laws.specs.Longest.Forbids.{bad, comes_bad, again, comes_again}
use Rattle.asm_laws.specs.Longest.Takes.{of_mark, of_goes, of_jump, of_pass, of_part, of_call, of_return, of_halt}

module _ (items : List AsmItem) where
  -- ---- no path takes more than the number

  abbrev OpView : Kind → List AsmItem → ℕ → Type 0
  OpView Goes rest m = (k : ℕ) × Takes items rest k × (m ≡ suc k)
  OpView (Jumps l) rest m = (k : ℕ) × Takes items (behind items l) k × (m ≡ suc k)
  OpView (Parts l) rest m = ((k : ℕ) × Takes items rest k × (m ≡ suc k)) ⊎ ((k : ℕ) × Takes items (behind items l) k × (m ≡ suc k))
  OpView (Calls l) rest m = (j : ℕ) × (k : ℕ) × Takes items (behind items l) j × Takes items rest k × (m ≡ suc (j + k))
  OpView Returns rest m = m ≡ 1
  OpView Halts rest m = m ≡ 1
  OpView Other rest m = ⊥

  abbrev View : List AsmItem → ℕ → Type 0
  View [] m = ⊥
  View (Label name ∷ rest) m = Takes items rest m
  View (Op i ∷ rest) m = OpView (kind_of i) rest m
  View (Integer w ∷ rest) m = ⊥
  View (Pointer name ∷ rest) m = ⊥

  view : (p : List AsmItem) (m : ℕ) → Takes items p m → View p m
  view _ _ (of_mark name rest n t) = t
  view _ _ (of_goes i rest n k t) = subst (λ K. OpView K rest (suc n)) (sym k) (n, t, refl)
  view _ _ (of_jump i l rest n k t) = subst (λ K. OpView K rest (suc n)) (sym k) (n, t, refl)
  view _ _ (of_pass i l rest n k t) = subst (λ K. OpView K rest (suc n)) (sym k) (inl (n, t, refl))
  view _ _ (of_part i l rest n k t) = subst (λ K. OpView K rest (suc n)) (sym k) (inr (n, t, refl))
  view _ _ (of_call i l rest m n k t u) = subst (λ K. OpView K rest (suc (m + n))) (sym k) (m, n, t, u, refl)
  view _ _ (of_return i rest k) = subst (λ K. OpView K rest 1) (sym k) refl
  view _ _ (of_halt i rest k) = subst (λ K. OpView K rest 1) (sym k) refl

  pub number_most : (p : List AsmItem) (n : ℕ) → Number items p n → (m : ℕ) → Takes items p m → m ≤ n
  number_most _ _ (at_mark name rest n h) m t = number_most rest n h m (view (Label name ∷ rest) m t)
  number_most _ _ (at_goes i rest n k h) m t = let v : OpView Goes rest m = subst (λ K. OpView K rest m) k (view (Op i ∷ rest) m t) in let r = number_most rest n h v.0 v.1 in let e = v.2 in omega (arith, r, e)
  number_most _ _ (at_jump i l rest n k h) m t = let v : OpView (Jumps l) rest m = subst (λ K. OpView K rest m) k (view (Op i ∷ rest) m t) in let r = number_most (behind items l) n h v.0 v.1 in let e = v.2 in omega (arith, r, e)
  number_most _ _ (at_parts i l rest x y n k h g a b c) m t =
      let v : OpView (Parts l) rest m = subst (λ K. OpView K rest m) k (view (Op i ∷ rest) m t) in
      elim v [
        | inl u ↦ let r = number_most rest x h u.0 u.1 in let e = u.2 in omega (arith, r, e, a)
        | inr u ↦ let r = number_most (behind items l) y g u.0 u.1 in let e = u.2 in omega (arith, r, e, b)
      ]
  number_most _ _ (at_call i l rest x y k h g) m t = let v : OpView (Calls l) rest m = subst (λ K. OpView K rest m) k (view (Op i ∷ rest) m t) in let r = number_most (behind items l) x h v.0 v.2 in let q = number_most rest y g v.1 v.3 in let e = v.4 in omega (arith, r, q, e)
  number_most _ _ (at_return i rest k) m t = let v : OpView Returns rest m = subst (λ K. OpView K rest m) k (view (Op i ∷ rest) m t) in omega (arith, v)
  number_most _ _ (at_halt i rest k) m t = let v : OpView Halts rest m = subst (λ K. OpView K rest m) k (view (Op i ∷ rest) m t) in omega (arith, v)

  -- ---- places

  abbrev pub Suffix : List AsmItem → Type 0
  Suffix p = (front : List AsmItem) × (items ≡ front ++ p)

  rest_suffix : (x : AsmItem) (p : List AsmItem) → Suffix (x ∷ p) → Suffix p
  rest_suffix x p s = (s.0 ++ x ∷ [], s.1 ∙ sym (append_assoc s.0 (x ∷ []) p))

  same_place : (p q : List AsmItem) → Suffix p → Suffix q → length p ≡ length q → p ≡ q
  same_place p q s t e =
      let a : length items ≡ length s.0 + length p = ap length s.1 ∙ length-append s.0 p in
      let b : length items ≡ length t.0 + length q = ap length t.1 ∙ length-append t.0 q in
      let c : length s.0 ≡ length t.0 = omega (arith, a, b, e) in
      sym (drop-append_seam s.0 p) ∙ ap (λ l. drop (length s.0) l) (sym s.1) ∙ ap (λ n. drop n items) c ∙ ap (λ l. drop (length t.0) l) t.1 ∙ drop-append_seam t.0 q

  short_place : (p : List AsmItem) → Suffix p → length p < length items + 1
  short_place p s = let a : length items ≡ length s.0 + length p = ap length s.1 ∙ length-append s.0 p in omega (arith, a)

  -- what is behind a label is a place
  behind_suffix : (all : List AsmItem) (l : List ℕ) → Suffix all → Suffix (behind all l)
  behind_suffix [] l s = s
  behind_suffix (Op i ∷ all) l s = behind_suffix all l (rest_suffix (Op i) all s)
  behind_suffix (Integer w ∷ all) l s = behind_suffix all l (rest_suffix (Integer w) all s)
  behind_suffix (Pointer w ∷ all) l s = behind_suffix all l (rest_suffix (Pointer w) all s)
  behind_suffix (Label name ∷ all) l s = go (bytes_eq l name) (behind_suffix all l (rest_suffix (Label name) all s))
    where
      go : (b : Bool) → Suffix (behind all l) → Suffix (cond b all (behind all l))
      go true found = rest_suffix (Label name) all s
      go false found = found

  label_suffix : (l : List ℕ) → Suffix (behind items l)
  label_suffix l = behind_suffix items l ([], refl)

  -- ---- a number, or a path that is forbidden

  abbrev pub Answer : List AsmItem → Type 0
  Answer p = ((n : ℕ) × Number items p n) ⊎ Forbids items p

  first_then : (p q r : List AsmItem) → Needs items p q → Comes items q r → Comes items p r
  first_then p _ _ nd (once q r n) = more p q r (once p q nd) n
  first_then p _ _ nd (more q x r c n) = more p x r (first_then p q x nd c) n

  forbids_on : (p q : List AsmItem) → Needs items p q → Forbids items q → Forbids items p
  forbids_on p q nd (bad b) = comes_bad q (once p q nd) b
  forbids_on p q nd (comes_bad r c b) = comes_bad r (first_then p q r nd c) b
  forbids_on p q nd (again c) = comes_again q (once p q nd) c
  forbids_on p q nd (comes_again r c d) = comes_again r (first_then p q r nd c) d

  -- from the answers of the places that it needs
  one_need : (p q : List AsmItem) → Needs items p q → Answer q → ((n : ℕ) → Number items q n → Answer p) → Answer p
  one_need p q nd a go = elim a [ inl n ↦ go n.0 n.1 | inr f ↦ inr (forbids_on p q nd f) ]

  larger : (m k : ℕ) → (n : ℕ) × (m ≤ n) × (k ≤ n) × ((n ≡ m) ⊎ (n ≡ k))
  larger m k = go (leb m k) refl
    where
      go : (b : Bool) → leb m k ≡ b → (n : ℕ) × (m ≤ n) × (k ≤ n) × ((n ≡ m) ⊎ (n ≡ k))
      go true e = let w = leb-true m k e in (k, w, omega arith, inr refl)
      go false e = let w : k ≤ m = grind (arith, nat_tests) in (m, omega arith, w, inl refl)

  at_place : (p : List AsmItem) → Suffix p → ((q : List AsmItem) → Suffix q → Needs items p q → Answer q) → Answer p
  at_place [] s rec = inr (bad tt)
  at_place (Integer w ∷ rest) s rec = inr (bad tt)
  at_place (Pointer w ∷ rest) s rec = inr (bad tt)
  at_place (Label name ∷ rest) s rec = one_need (Label name ∷ rest) rest (mark name rest) (rec rest (rest_suffix (Label name) rest s) (mark name rest)) (λ n h. inl (n, at_mark name rest n h))
  at_place (Op i ∷ rest) s rec = go (kind_of i) refl
    where
      on : Suffix rest
      on = rest_suffix (Op i) rest s

      go : (K : Kind) → kind_of i ≡ K → Answer (Op i ∷ rest)
      go Goes k = one_need (Op i ∷ rest) rest (goes i rest k) (rec rest on (goes i rest k)) (λ n h. inl (suc n, at_goes i rest n k h))
      go (Jumps l) k = one_need (Op i ∷ rest) (behind items l) (jumps i l rest k) (rec (behind items l) (label_suffix l) (jumps i l rest k)) (λ n h. inl (suc n, at_jump i l rest n k h))
      go (Parts l) k =
          one_need (Op i ∷ rest) rest (passes i l rest k) (rec rest on (passes i l rest k)) (λ m h.
          one_need (Op i ∷ rest) (behind items l) (parts i l rest k) (rec (behind items l) (label_suffix l) (parts i l rest k)) (λ n g.
          let z = larger m n in inl (suc z.0, at_parts i l rest m n z.0 k h g z.1 z.2 z.3)))
      go (Calls l) k =
          one_need (Op i ∷ rest) (behind items l) (enters i l rest k) (rec (behind items l) (label_suffix l) (enters i l rest k)) (λ m h.
          one_need (Op i ∷ rest) rest (follows i l rest k) (rec rest on (follows i l rest k)) (λ n g. inl (suc (m + n), at_call i l rest m n k h g)))
      go Returns k = inl (1, at_return i rest k)
      go Halts k = inl (1, at_halt i rest k)
      go Other k = inr (bad k)

  -- these are the lengths of places from which one has come to this one
  abbrev Passed : List ℕ → List AsmItem → Type 0
  Passed [] p = Unit {0}
  Passed (k ∷ ks) p = ((r : List AsmItem) × (length r ≡ k) × Suffix r × Comes items r p) × Passed ks p

  passed_on : (ks : List ℕ) (p q : List AsmItem) → Needs items p q → Passed ks p → Passed ks q
  passed_on [] p q nd h = tt
  passed_on (k ∷ ks) p q nd h = ((h.0.0, h.0.1, h.0.2, more h.0.0 p q h.0.3 nd), passed_on ks p q nd h.1)

  met : (ks : List ℕ) (p : List AsmItem) (n : ℕ) → Passed ks p → list_any (λ k. eqb n k) ks ≡ true → (r : List AsmItem) × (length r ≡ n) × Suffix r × Comes items r p
  met [] p n h e = absurd cc
  met (k ∷ ks) p n h e = go (eqb n k) refl e (met ks p n h.1)
    where
      go : (b : Bool) → eqb n k ≡ b → b || list_any (λ k. eqb n k) ks ≡ true → (list_any (λ k. eqb n k) ks ≡ true → (r : List AsmItem) × (length r ≡ n) × Suffix r × Comes items r p) → (r : List AsmItem) × (length r ≡ n) × Suffix r × Comes items r p
      go true is e later = (h.0.0, h.0.1 ∙ sym (eqb-true n k is), h.0.2, h.0.3)
      go false is e later = later e

  none_equal : (n : ℕ) (ks : List ℕ) → list_any (λ k. eqb n k) ks ≡ false → AllByRecursion (λ y. eqb n y ≡ false) ks
  none_equal n [] e = tt
  none_equal n (k ∷ ks) e = go (eqb n k) refl e (none_equal n ks)
    where
      go : (b : Bool) → eqb n k ≡ b → b || list_any (λ k. eqb n k) ks ≡ false → (list_any (λ k. eqb n k) ks ≡ false → AllByRecursion (λ y. eqb n y ≡ false) ks) → AllByRecursion (λ y. eqb n y ≡ false) (k ∷ ks)
      go true is e later = absurd cc
      go false is e later = (is, later e)

  distinct : (n : ℕ) (ks : List ℕ) → list_any (λ k. eqb n k) ks ≡ false → IsDistinct eqb ks → IsDistinct eqb (n ∷ ks)
  distinct n ks e d = IsDistinct-cons eqb n ks (none_equal n ks e) d

  decide : (fuel : ℕ) (ks : List ℕ) (p : List AsmItem) → Suffix p → Passed ks p → IsDistinct eqb ks → length items + 1 ≡ length ks + fuel → Answer p
  decide zero ks p s h d e = go (list_any (λ k. eqb (length p) k) ks) refl
    where
      go : (b : Bool) → list_any (λ k. eqb (length p) k) ks ≡ b → Answer p
      go true is = let m = met ks p (length p) h is in inr (again (subst (λ r. Comes items r p) (same_place m.0 p m.2 s m.1) m.3))
      go false is =
          let all = length-le_from_distinct_below (length p ∷ ks) (length items + 1) (distinct (length p) ks is d) (λ q a. below q a) in
          absurd (omega (arith, all, e))
        where
          below : (q : ℕ) → list_any (eqb q) (length p ∷ ks) ≡ true → q < length items + 1
          below q a = at (eqb q (length p)) refl a
            where
              at : (b : Bool) → eqb q (length p) ≡ b → b || list_any (eqb q) ks ≡ true → q < length items + 1
              at true e a = let z = eqb-true q (length p) e in let y = short_place p s in omega (arith, z, y)
              at false e a = let m = met ks p q h a in let y = short_place m.0 m.2 in let z = m.1 in omega (arith, y, z)
  decide (suc f) ks p s h d e = go (list_any (λ k. eqb (length p) k) ks) refl (λ is q sq nd. decide f (length p ∷ ks) q sq ((p, refl, s, once p q nd), passed_on ks p q nd h) (distinct (length p) ks is d) (omega (arith, e)))
    where
      go : (b : Bool) → list_any (λ k. eqb (length p) k) ks ≡ b → (list_any (λ k. eqb (length p) k) ks ≡ false → (q : List AsmItem) → Suffix q → Needs items p q → Answer q) → Answer p
      go true is rec = let m = met ks p (length p) h is in inr (again (subst (λ r. Comes items r p) (same_place m.0 p m.2 s m.1) m.3))
      go false is rec = at_place p s (rec is)

  -- each place has a number, or a path from it is forbidden
  pub number_or_forbids : (p : List AsmItem) → Suffix p → Answer p
  unfolding IsDistinct
  number_or_forbids p s = decide (length items + 1) [] p s tt tt (omega arith)

  -- ---- the longest path

  number_takes : (p : List AsmItem) (n : ℕ) → Number items p n → Takes items p n
  number_takes _ _ (at_mark name rest n h) = of_mark name rest n (number_takes rest n h)
  number_takes _ _ (at_goes i rest n k h) = of_goes i rest n k (number_takes rest n h)
  number_takes _ _ (at_jump i l rest n k h) = of_jump i l rest n k (number_takes (behind items l) n h)
  number_takes _ _ (at_parts i l rest m q n k h g a b c) = way (number_takes rest m h) (number_takes (behind items l) q g) c
    where
      way : Takes items rest m → Takes items (behind items l) q → (n ≡ m) ⊎ (n ≡ q) → Takes items (Op i ∷ rest) (suc n)
      way t u (inl e) = of_pass i l rest n k (subst (λ z. Takes items rest z) (sym e) t)
      way t u (inr e) = of_part i l rest n k (subst (λ z. Takes items (behind items l) z) (sym e) u)
  number_takes _ _ (at_call i l rest m n k h g) = of_call i l rest m n k (number_takes (behind items l) m h) (number_takes rest n g)
  number_takes _ _ (at_return i rest k) = of_return i rest k
  number_takes _ _ (at_halt i rest k) = of_halt i rest k

  pub longest_is_number : (p : List AsmItem) (n : ℕ) → Suffix p → IsLongest items p n → Number items p n
  longest_is_number p n s h = elim (number_or_forbids p s) [
    | inl k ↦
        let a = h.most k.0 (number_takes p k.0 k.1) in
        let b = number_most p k.0 k.1 n h.taken in
        subst (λ z. Number items p z) (let e : k.0 ≡ n = omega (arith, a, b) in e) k.1
    | inr f ↦ absurd (h.allowed f)
  ]

  pub longest_behind : (l : List ℕ) (n : ℕ) → IsLongest items (behind items l) n → Number items (behind items l) n
  longest_behind l n h = longest_is_number (behind items l) n (label_suffix l) h

  -- ---- and the number is that of the longest path

  abbrev ToView : Kind → (rest q : List AsmItem) → Type 0
  ToView Goes rest q = q ≡ rest
  ToView (Jumps l) rest q = q ≡ behind items l
  ToView (Parts l) rest q = (q ≡ rest) ⊎ (q ≡ behind items l)
  ToView (Calls l) rest q = (q ≡ behind items l) ⊎ (q ≡ rest)
  ToView Returns rest q = ⊥
  ToView Halts rest q = ⊥
  ToView Other rest q = ⊥

  abbrev NeedView : (p q : List AsmItem) → Type 0
  NeedView [] q = ⊥
  NeedView (Label name ∷ rest) q = q ≡ rest
  NeedView (Op i ∷ rest) q = ToView (kind_of i) rest q
  NeedView (Integer w ∷ rest) q = ⊥
  NeedView (Pointer name ∷ rest) q = ⊥

  need_view : (p q : List AsmItem) → Needs items p q → NeedView p q
  need_view _ _ (mark name rest) = refl
  need_view _ _ (goes i rest k) = subst (λ K. ToView K rest rest) (sym k) refl
  need_view _ _ (jumps i l rest k) = subst (λ K. ToView K rest (behind items l)) (sym k) refl
  need_view _ _ (passes i l rest k) = subst (λ K. ToView K rest rest) (sym k) (inl refl)
  need_view _ _ (parts i l rest k) = subst (λ K. ToView K rest (behind items l)) (sym k) (inr refl)
  need_view _ _ (enters i l rest k) = subst (λ K. ToView K rest (behind items l)) (sym k) (inl refl)
  need_view _ _ (follows i l rest k) = subst (λ K. ToView K rest rest) (sym k) (inr refl)

  op_view : (i : Instr Imm) (rest q : List AsmItem) (K : Kind) → kind_of i ≡ K → Needs items (Op i ∷ rest) q → ToView K rest q
  op_view i rest q K k nd = subst (λ K. ToView K rest q) k (need_view (Op i ∷ rest) q nd)

  -- a property of the places that a place with a number needs
  needed : (P : List AsmItem → Type 0) (p : List AsmItem) (n : ℕ) → Number items p n → ((q : List AsmItem) (k : ℕ) → Number items q k → P q) → (x : List AsmItem) → Needs items p x → P x
  needed P _ _ (at_mark name rest n h) go x nd = subst P (sym (need_view (Label name ∷ rest) x nd)) (go rest n h)
  needed P _ _ (at_goes i rest n k h) go x nd = subst P (sym (op_view i rest x Goes k nd)) (go rest n h)
  needed P _ _ (at_jump i l rest n k h) go x nd = subst P (sym (op_view i rest x (Jumps l) k nd)) (go (behind items l) n h)
  needed P _ _ (at_parts i l rest m q n k h g a b c) go x nd = elim (op_view i rest x (Parts l) k nd) [ inl e ↦ subst P (sym e) (go rest m h) | inr e ↦ subst P (sym e) (go (behind items l) q g) ]
  needed P _ _ (at_call i l rest m n k h g) go x nd = elim (op_view i rest x (Calls l) k nd) [ inl e ↦ subst P (sym e) (go (behind items l) m h) | inr e ↦ subst P (sym e) (go rest n g) ]
  needed P _ _ (at_return i rest k) go x nd = absurd (op_view i rest x Returns k nd)
  needed P _ _ (at_halt i rest k) go x nd = absurd (op_view i rest x Halts k nd)

  first_of_all : (p q : List AsmItem) → Comes items p q → (x : List AsmItem) × Needs items p x × ((x ≡ q) ⊎ Comes items x q)
  first_of_all _ _ (once p q nd) = (q, nd, inl refl)
  first_of_all _ _ (more p q r c nd) =
      let f = first_of_all p q c in (
        f.0,
        f.1,
        inr (elim f.2 [
          | inl e ↦ once f.0 r (subst (λ z. Needs items z r) (sym e) nd)
          | inr d ↦ more f.0 q r d nd
        ]),
      )

  -- a circle at a place is one at the next
  turned : (p : List AsmItem) → Comes items p p → (x : List AsmItem) × Needs items p x × Comes items x x
  turned p c =
      let f = first_of_all p p c in (
        f.0,
        f.1,
        elim f.2 [
          | inl e ↦ subst (λ z. Comes items z z) (sym e) c
          | inr d ↦ more f.0 p f.0 d f.1
        ],
      )

  no_circle : (p : List AsmItem) (n : ℕ) → Number items p n → Comes items p p → ⊥
  no_circle _ _ (at_mark name rest n h) c = let t = turned (Label name ∷ rest) c in no_circle rest n h (subst (λ z. Comes items z z) (need_view (Label name ∷ rest) t.0 t.1) t.2)
  no_circle _ _ (at_goes i rest n k h) c = let t = turned (Op i ∷ rest) c in no_circle rest n h (subst (λ z. Comes items z z) (op_view i rest t.0 Goes k t.1) t.2)
  no_circle _ _ (at_jump i l rest n k h) c = let t = turned (Op i ∷ rest) c in no_circle (behind items l) n h (subst (λ z. Comes items z z) (op_view i rest t.0 (Jumps l) k t.1) t.2)
  no_circle _ _ (at_parts i l rest m q n k h g a b w) c = let t = turned (Op i ∷ rest) c in elim (op_view i rest t.0 (Parts l) k t.1) [
    | inl e ↦ no_circle rest m h (subst (λ z. Comes items z z) e t.2)
    | inr e ↦ no_circle (behind items l) q g (subst (λ z. Comes items z z) e t.2)
  ]
  no_circle _ _ (at_call i l rest m n k h g) c = let t = turned (Op i ∷ rest) c in elim (op_view i rest t.0 (Calls l) k t.1) [
    | inl e ↦ no_circle (behind items l) m h (subst (λ z. Comes items z z) e t.2)
    | inr e ↦ no_circle rest n g (subst (λ z. Comes items z z) e t.2)
  ]
  no_circle _ _ (at_return i rest k) c = let t = turned (Op i ∷ rest) c in absurd (op_view i rest t.0 Returns k t.1)
  no_circle _ _ (at_halt i rest k) c = let t = turned (Op i ∷ rest) c in absurd (op_view i rest t.0 Halts k t.1)

  not_bad : (p : List AsmItem) (n : ℕ) → Number items p n → IsBad p → ⊥
  not_bad _ _ (at_mark name rest n h) b = b
  not_bad _ _ (at_goes i rest n k h) b = let e : Goes ≡ Other = sym k ∙ b in absurd cc
  not_bad _ _ (at_jump i l rest n k h) b = let e : Jumps l ≡ Other = sym k ∙ b in absurd cc
  not_bad _ _ (at_parts i l rest m q n k h g a c w) b = let e : Parts l ≡ Other = sym k ∙ b in absurd cc
  not_bad _ _ (at_call i l rest m n k h g) b = let e : Calls l ≡ Other = sym k ∙ b in absurd cc
  not_bad _ _ (at_return i rest k) b = let e : Returns ≡ Other = sym k ∙ b in absurd cc
  not_bad _ _ (at_halt i rest k) b = let e : Halts ≡ Other = sym k ∙ b in absurd cc

  abbrev Numbered : List AsmItem → Type 0
  Numbered q = (k : ℕ) × Number items q k

  number_on : (p q : List AsmItem) → Comes items p q → Numbered p → Numbered q
  number_on _ _ (once p q nd) h = needed Numbered p h.0 h.1 (λ x k g. (k, g)) q nd
  number_on _ _ (more p q r c nd) h = let m = number_on p q c h in needed Numbered q m.0 m.1 (λ x k g. (k, g)) r nd

  allowed : (p : List AsmItem) (n : ℕ) → Number items p n → Forbids items p → ⊥
  allowed p n h (bad b) = not_bad p n h b
  allowed p n h (comes_bad q c b) = let m = number_on p q c (n, h) in not_bad q m.0 m.1 b
  allowed p n h (again c) = no_circle p n h c
  allowed p n h (comes_again q c d) = let m = number_on p q c (n, h) in no_circle q m.0 m.1 d

  pub number_is_longest : (p : List AsmItem) (n : ℕ) → Number items p n → IsLongest items p n
  number_is_longest p n h = record { allowed = allowed p n h; taken = number_takes p n h; most = number_most p n h }
