-- Each number in a settled table is that of its place, cut at the limit.
use Rattle.std.proofs.Common.{◌≡◌, ℕ, suc, ◌+◌, ◌≤◌, ◌⊎◌, inl, inr, List, ◌∷◌, drop, refl, sym, ap, subst, ◌∙◌, arith}
use Rattle.std.specs.Prelude.{Option, Some, None, option_map, max, slice_index_or, set}
use Rattle.std.proofs.lemmas.Bool.{cases_eq, cases_lt}
use Rattle.std.proofs.lemmas.List.{get_or-set_same, get_or-set_other}
use Rattle.v32_isa.specs.declared.instruction.Instr.{Instr}
use Rattle.asm_items.specs.declared.item.AsmItem.{AsmItem}
use Rattle.asm_items.specs.declared.item.AsmItem.TheVariants.{Label, Op, Integer, Pointer}
use Rattle.asm_items.specs.Items.{Imm}
use Rattle.asm_laws.specs.Numbers.{Kind, kind_of, behind, Number}
use Rattle.asm_laws.specs.Numbers.Kind.{Goes, Jumps, Parts, Calls, Returns, Halts, Other}
use Rattle.asm_laws.specs.Numbers.Number.{at_mark, at_goes, at_jump, at_parts, at_call, at_return, at_halt}
use Rattle.cycle_bound.specs.declared.node.Node.TheVariants as node
use Rattle.cycle_bound.specs.inner.Places.{place_of, kind_node, node_of, nodes_of}
use Rattle.cycle_bound.specs.inner.Settled.{Table, capped, after, after_two, greater, known, ruled, node_at, Settled}
use Rattle.cycle_bound.specs.inner.Settled.Settled.{none, gives}
use Rattle.cycle_bound.proofs.Placed.{placed, At, at}
use Rattle.cycle_bound.proofs.Placed.At.{stands, ended}

-- ---- sums that are cut

cut_one : (n v w : ℕ) → v ≡ capped (w + 1) → w ≡ capped n → capped v ≡ capped (suc n)
cut_one n v w e f = omega (arith, e, f)

cut_two : (m n v a b : ℕ) → v ≡ capped (a + b + 1) → a ≡ capped m → b ≡ capped n → capped v ≡ capped (suc (m + n))
cut_two m n v a b e f g = omega (arith, e, f, g)

cut_max : (m n v a b : ℕ) → v ≡ capped (max a b + 1) → a ≡ capped m → b ≡ capped n → capped v ≡ capped (suc (max m n))
cut_max m n v a b e f g = omega (arith, e, f, g)

cut_again : (n v : ℕ) → v ≡ capped n → capped v ≡ capped n
cut_again n v e = omega (arith, e)

pub max_is : (m n : ℕ) → (max m n ≡ m) ⊎ (max m n ≡ n)
max_is m n = elim (cases_lt m n) [
  | inl lt ↦ inr (omega (arith, lt))
  | inr ge ↦ inl (omega (arith, ge))
]

pub first_most : (m n : ℕ) → m ≤ max m n
first_most m n = omega arith

pub second_most : (m n : ℕ) → n ≤ max m n
second_most m n = omega arith

-- ---- what the parts of a rule were

abbrev After : Option ℕ → ℕ → Type 0
After o v = (w : ℕ) × (o ≡ Some w) × (v ≡ capped (w + 1))

of_after : (o : Option ℕ) (v : ℕ) → after o ≡ Some v → After o v
of_after None v e = absurd cc
of_after (Some w) v e = (w, refl, (let f : capped (w + 1) ≡ v = cc in sym f))

abbrev Two : Option ℕ → Option ℕ → ℕ → Type 0
Two o p v = (a : ℕ) × (b : ℕ) × (o ≡ Some a) × (p ≡ Some b) × (v ≡ capped (a + b + 1))

of_two : (o p : Option ℕ) (v : ℕ) → after_two o p ≡ Some v → Two o p v
of_two None p v e = absurd cc
of_two (Some a) None v e = absurd cc
of_two (Some a) (Some b) v e = (a, b, refl, refl, (let f : capped (a + b + 1) ≡ v = cc in sym f))

abbrev Greater : Option ℕ → Option ℕ → ℕ → Type 0
Greater o p v = (a : ℕ) × (b : ℕ) × (o ≡ Some a) × (p ≡ Some b) × (v ≡ capped (max a b + 1))

of_greater : (o p : Option ℕ) (v : ℕ) → after (greater o p) ≡ Some v → Greater o p v
of_greater None p v e = absurd cc
of_greater (Some a) None v e = absurd cc
of_greater (Some a) (Some b) v e = (a, b, refl, refl, (let f : capped (max a b + 1) ≡ v = cc in sym f))

-- ---- a table

module _ (all : List AsmItem) where
  -- a number of the items, cut at the limit
  abbrev pub Numbered : List AsmItem → ℕ → Type 0
  Numbered p v = (n : ℕ) × Number all p n × (capped v ≡ capped n)

  abbrev pub Cut : List AsmItem → ℕ → Type 0
  Cut p v = (n : ℕ) × Number all p n × (v ≡ capped n)

  abbrev pub Sound : Table → Type 0
  Sound vs = (i v : ℕ) → slice_index_or vs i None ≡ Some v → Numbered (drop i all) v

  cut_of : (p : List AsmItem) (o : Option ℕ) (v : ℕ) → ((w : ℕ) → o ≡ Some w → Numbered p w) → option_map capped o ≡ Some v → Cut p v
  cut_of p None v h e = absurd cc
  cut_of p (Some w) v h e = let x = h w refl in let f : capped w ≡ v = cc in (x.0, x.1, sym f ∙ x.2)

  pub known_is : (vs : Table) → Sound vs → (i v : ℕ) → known vs i ≡ Some v → Cut (drop i all) v
  unfolding known
  known_is vs s i v e = cut_of (drop i all) (slice_index_or vs i None) v (s i) e

  module _ (vs : Table) (s : Sound vs) (i v : ℕ) (is : List AsmItem) (next : drop (i + 1) all ≡ is) where
    at_next : (w : ℕ) → known vs (i + 1) ≡ Some w → Cut is w
    at_next w e = subst (λ p. Cut p w) next (known_is vs s (i + 1) w e)

    at_label : (l : List ℕ) (w : ℕ) → known vs (place_of all l) ≡ Some w → Cut (behind all l) w
    at_label l w e = subst (λ p. Cut p w) (placed all l) (known_is vs s (place_of all l) w e)

    by_kind : (j : Instr Imm) (k : Kind) → kind_of j ≡ k → ruled vs (kind_node (place_of all) k) i ≡ Some v → Numbered (Op j ∷ is) v
    unfolding ruled
    by_kind j Goes k e =
        let a = of_after (known vs (i + 1)) v e in
        let x = at_next a.0 a.1 in
        (suc x.0, at_goes j is x.0 k x.1, cut_one x.0 v a.0 a.2 x.2)
    by_kind j (Jumps l) k e =
        let a = of_after (known vs (place_of all l)) v e in
        let x = at_label l a.0 a.1 in
        (suc x.0, at_jump j l is x.0 k x.1, cut_one x.0 v a.0 a.2 x.2)
    by_kind j (Parts l) k e =
        let a = of_greater (known vs (i + 1)) (known vs (place_of all l)) v e in
        let x = at_next a.0 a.2 in
        let y = at_label l a.1 a.3 in
        (suc (max x.0 y.0), at_parts j l is x.0 y.0 (max x.0 y.0) k x.1 y.1 (first_most x.0 y.0) (second_most x.0 y.0) (max_is x.0 y.0), cut_max x.0 y.0 v a.0 a.1 a.4 x.2 y.2)
    by_kind j (Calls l) k e =
        let a = of_two (known vs (i + 1)) (known vs (place_of all l)) v e in
        let x = at_next a.0 a.2 in
        let y = at_label l a.1 a.3 in
        let f : v ≡ capped (a.1 + a.0 + 1) = let g = a.4 in omega (arith, g) in
        (suc (y.0 + x.0), at_call j l is y.0 x.0 k y.1 x.1, cut_two y.0 x.0 v a.1 a.0 f y.2 x.2)
    by_kind j Returns k e = (1, at_return j is k, (let f : 1 ≡ v = cc in ap capped (sym f)))
    by_kind j Halts k e = (1, at_halt j is k, (let f : 1 ≡ v = cc in ap capped (sym f)))
    by_kind j Other k e = absurd cc

    by_item : (x : AsmItem) → ruled vs (node_of (place_of all) x) i ≡ Some v → Numbered (x ∷ is) v
    unfolding ruled
    by_item (Label name) e = let x = at_next v e in (x.0, at_mark name is x.0 x.1, cut_again x.0 v x.2)
    by_item (Op j) e = by_kind j (kind_of j) refl e
    by_item (Integer w) e = absurd cc
    by_item (Pointer name) e = absurd cc

  by_rule : (vs : Table) → Sound vs → (i v : ℕ) → At all i → ruled vs (node_at (nodes_of all) i) i ≡ Some v → Numbered (drop i all) v
  unfolding ruled
  by_rule vs s i v (stands x is here next lt n) e = subst (λ p. Numbered p v) (sym here) (by_item vs s i v is next x (subst (λ m. ruled vs m i ≡ Some v) n e))
  by_rule vs s i v (ended here n) e = absurd (let f : ruled vs node.Other i ≡ Some v = subst (λ m. ruled vs m i ≡ Some v) n e in let g : None ≡ Some v = f in cc)

  pub sound : (vs : Table) → Settled (nodes_of all) vs → Sound vs
  sound vs (none h) i v e = absurd (let f = h i in cc)
  sound vs (gives {vs = us} j w s lt r) i v e = elim (cases_eq i j) [
    | inl is ↦
        let here : slice_index_or (set us j (Some w)) i None ≡ Some w = subst (λ k. slice_index_or (set us j (Some w)) k None ≡ Some w) (sym is) (get_or-set_same us j (Some w) None lt) in
        let same : w ≡ v = cc in
        subst (λ x. Numbered (drop i all) x) same (subst (λ k. Numbered (drop k all) w) (sym is) (by_rule us (sound us s) j w (at all j) r))
    | inr ne ↦ sound us s i v (sym (get_or-set_other us j i (Some w) None ne) ∙ e)
  ]
