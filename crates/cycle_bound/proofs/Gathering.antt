-- The table of labels has the places behind them.
use Rattle.std.proofs.Common.{◌≡◌, ℕ, suc, ◌+◌, Bool, true, false, cond, List, [], ◌∷◌, ◌++◌, length, map, refl, sym, ap, subst, ◌∙◌, arith}
use Rattle.std.specs.Prelude.{Option, Some, None, is_some, unwrap_or, bytes_eq}
use Rattle.std.proofs.lemmas.Slice.Eq.{bytes_eq-Decides}
use Rattle.asm_items.specs.declared.item.AsmItem.{AsmItem}
use Rattle.asm_items.specs.declared.item.AsmItem.TheVariants.{Label, Op, Integer, Pointer}
use Rattle.assembler.specs.Labels.{address_of, has_label, with_label}
use Rattle.cycle_bound.specs.declared.node.Node.{Node}
use Rattle.cycle_bound.specs.inner.Places.{place_of, place_in, node_of, nodes_of, gathered}

abbrev Labels : Type 0
Labels = List (List ℕ × ℕ)

-- ---- one label more

module _ (n l : List ℕ) (a : ℕ) where
  pushed_found : (labels : Labels) (t : ℕ) → address_of labels l ≡ Some t → address_of (labels ++ (n, a) ∷ []) l ≡ Some t
  pushed_found [] t e = absurd cc
  pushed_found (x ∷ labels) t e = elim (bytes_eq l x.0) as (λ b. cond b (Some x.1) (address_of labels l) ≡ Some t → cond b (Some x.1) (address_of (labels ++ (n, a) ∷ []) l) ≡ Some t) [
    | true ↦ λ h. h
    | false ↦ λ h. pushed_found labels t h
  ] e

  pushed_new : (labels : Labels) → address_of labels l ≡ None → address_of (labels ++ (n, a) ∷ []) l ≡ cond (bytes_eq l n) (Some a) None
  pushed_new [] e = refl
  pushed_new (x ∷ labels) e = elim (bytes_eq l x.0) as (λ b. cond b (Some x.1) (address_of labels l) ≡ None → cond b (Some x.1) (address_of (labels ++ (n, a) ∷ []) l) ≡ cond (bytes_eq l n) (Some a) None) [
    | true ↦ λ h. absurd cc
    | false ↦ λ h. pushed_new labels h
  ] e

  module _ (labels : Labels) where
    marked_found : (t : ℕ) → address_of labels l ≡ Some t → address_of (with_label labels n a) l ≡ Some t
    marked_found t e = elim (has_label labels n) as (λ b. address_of (cond b labels (labels ++ (n, a) ∷ [])) l ≡ Some t) [
      | true ↦ e
      | false ↦ pushed_found labels t e
    ]

    marked_here : bytes_eq l n ≡ true → address_of labels l ≡ None → address_of (with_label labels n a) l ≡ Some a
    marked_here is e =
        let same : l ≡ n = (bytes_eq-Decides l n).0 is in
        let absent : has_label labels n ≡ false = ap (λ m. is_some (address_of labels m)) (sym same) ∙ ap is_some e in
        let grown : address_of (labels ++ (n, a) ∷ []) l ≡ Some a = pushed_new labels e ∙ ap (λ b. cond b (Some a) None) is in
        subst (λ b. address_of (cond b labels (labels ++ (n, a) ∷ [])) l ≡ Some a) (sym absent) grown

    marked_there : bytes_eq l n ≡ false → address_of labels l ≡ None → address_of (with_label labels n a) l ≡ None
    marked_there apart e =
        let grown : address_of (labels ++ (n, a) ∷ []) l ≡ None = pushed_new labels e ∙ ap (λ b. cond b (Some a) None) apart in
        elim (has_label labels n) as (λ b. address_of (cond b labels (labels ++ (n, a) ∷ [])) l ≡ None) [
          | true ↦ e
          | false ↦ grown
        ]

-- ---- all labels

kept : (items : List AsmItem) (k : ℕ) (labels : Labels) (l : List ℕ) (t : ℕ) → address_of labels l ≡ Some t → address_of (gathered k labels items) l ≡ Some t
unfolding gathered
kept [] k labels l t e = e
kept (Label n ∷ items) k labels l t e = kept items (k + 1) (with_label labels n (k + 1)) l t (marked_found n l (k + 1) labels t e)
kept (Op i ∷ items) k labels l t e = kept items (k + 1) labels l t e
kept (Integer w ∷ items) k labels l t e = kept items (k + 1) labels l t e
kept (Pointer n ∷ items) k labels l t e = kept items (k + 1) labels l t e

shifted : (o : Option ℕ) (k m p q : ℕ) → unwrap_or o (k + 1 + m) ≡ k + 1 + p → q ≡ suc p → unwrap_or o (k + suc m) ≡ k + q
shifted o k m p q e f =
    let g : k + 1 + m ≡ k + suc m = omega arith in
    let h : k + 1 + p ≡ k + q = omega (arith, f) in
    ap (unwrap_or o) (sym g) ∙ e ∙ h

new : (items : List AsmItem) (k : ℕ) (labels : Labels) (l : List ℕ) → address_of labels l ≡ None → unwrap_or (address_of (gathered k labels items) l) (k + length items) ≡ k + place_of items l
unfolding gathered place_of
new [] k labels l e = ap (λ o. unwrap_or o (k + 0)) e
new (Label n ∷ items) k labels l e = go (bytes_eq l n) refl (kept items (k + 1) (with_label labels n (k + 1)) l (k + 1)) (new items (k + 1) (with_label labels n (k + 1)) l)
  where
    go : (b : Bool) → bytes_eq l n ≡ b →
        (address_of (with_label labels n (k + 1)) l ≡ Some (k + 1) → address_of (gathered (k + 1) (with_label labels n (k + 1)) items) l ≡ Some (k + 1)) →
        (address_of (with_label labels n (k + 1)) l ≡ None → unwrap_or (address_of (gathered (k + 1) (with_label labels n (k + 1)) items) l) (k + 1 + length items) ≡ k + 1 + place_of items l) →
        unwrap_or (address_of (gathered (k + 1) (with_label labels n (k + 1)) items) l) (k + suc (length items)) ≡ k + cond (bytes_eq l n) 1 (suc (place_of items l))
    go true is here there = ap (λ o. unwrap_or o (k + suc (length items))) (here (marked_here n l (k + 1) labels is e)) ∙ ap (λ b. k + cond b 1 (suc (place_of items l))) (sym is)
    go false apart here there = shifted (address_of (gathered (k + 1) (with_label labels n (k + 1)) items) l) k (length items) (place_of items l) (cond (bytes_eq l n) 1 (suc (place_of items l))) (there (marked_there n l (k + 1) labels apart e)) (ap (λ b. cond b 1 (suc (place_of items l))) apart)
new (Op i ∷ items) k labels l e = shifted (address_of (gathered (k + 1) labels items) l) k (length items) (place_of items l) (suc (place_of items l)) (new items (k + 1) labels l e) refl
new (Integer w ∷ items) k labels l e = shifted (address_of (gathered (k + 1) labels items) l) k (length items) (place_of items l) (suc (place_of items l)) (new items (k + 1) labels l e) refl
new (Pointer n ∷ items) k labels l e = shifted (address_of (gathered (k + 1) labels items) l) k (length items) (place_of items l) (suc (place_of items l)) (new items (k + 1) labels l e) refl

pub places_are : (items : List AsmItem) (l : List ℕ) → place_in (gathered 0 [] items) (length items) l ≡ place_of items l
places_are items l =
    let e : unwrap_or (address_of (gathered 0 [] items) l) (0 + length items) ≡ 0 + place_of items l = new items 0 [] l refl in
    let a : length items ≡ 0 + length items = omega arith in
    let b : 0 + place_of items l ≡ place_of items l = omega arith in
    ap (unwrap_or (address_of (gathered 0 [] items) l)) a ∙ e ∙ b

pub nodes_are : (items : List AsmItem) (labels : Labels) (nodes : List Node) → labels ≡ gathered 0 [] items → nodes ≡ map (node_of (place_in labels (length items))) items → nodes ≡ nodes_of items
nodes_are items labels nodes e f =
    let same : (l : List ℕ) → place_in labels (length items) l ≡ place_of items l = λ l. ap (λ ls. place_in ls (length items) l) e ∙ places_are items l in
    f ∙ ap (λ (p : List ℕ → ℕ). map (node_of p) items) (λ j l. same l j)
