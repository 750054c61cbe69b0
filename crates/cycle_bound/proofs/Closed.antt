-- In a closed table a place that has a number has a value.
use Rattle.std.proofs.Common.{◌≡◌, ℕ, ◌+◌, ◌⊎◌, inl, inr, List, [], ◌∷◌, drop, refl, sym, subst, ◌∙◌}
use Rattle.std.specs.Prelude.{Option, Some, None, option_map, slice_index_or}
use Rattle.v32_isa.specs.declared.instruction.Instr.{Instr}
use Rattle.asm_items.specs.declared.item.AsmItem.{AsmItem}
use Rattle.asm_items.specs.declared.item.AsmItem.TheVariants.{Label, Op}
use Rattle.asm_items.specs.Items.{Imm}
use Rattle.asm_laws.specs.Numbers.{Kind, kind_of, behind, Number}
use Rattle.asm_laws.specs.Numbers.Kind.{Goes, Jumps, Parts, Calls, Returns, Halts}
use Rattle.asm_laws.specs.Numbers.Number.{at_mark, at_goes, at_jump, at_parts, at_call, at_return, at_halt}
use Rattle.cycle_bound.specs.inner.Places.{place_of, kind_node, node_of, nodes_of}
use Rattle.cycle_bound.specs.inner.Settled.{Table, capped, after, after_two, greater, known, ruled, Closed}
use Rattle.cycle_bound.proofs.Placed.{placed, At, at}
use Rattle.cycle_bound.proofs.Placed.At.{stands, ended}

no_after : (o : Option ℕ) → after o ≡ None → o ≡ None
no_after None e = refl
no_after (Some w) e = absurd cc

no_two : (o p : Option ℕ) → after_two o p ≡ None → (o ≡ None) ⊎ (p ≡ None)
no_two None p e = inl refl
no_two (Some a) None e = inr refl
no_two (Some a) (Some b) e = absurd cc

no_greater : (o p : Option ℕ) → after (greater o p) ≡ None → (o ≡ None) ⊎ (p ≡ None)
no_greater None p e = inl refl
no_greater (Some a) None e = inr refl
no_greater (Some a) (Some b) e = absurd cc

pub not_known : (o : Option ℕ) → option_map capped o ≡ None → o ≡ None
not_known None e = refl
not_known (Some w) e = absurd cc

module _ (all : List AsmItem) (vs : Table) (closed : Closed (nodes_of all) vs) where
  abbrev Empty : ℕ → Type 0
  Empty i = slice_index_or vs i None ≡ None

  empty_at : (i : ℕ) → known vs i ≡ None → Empty i
  unfolding known
  empty_at i e = not_known (slice_index_or vs i None) e

  -- the rule at a place, and the place behind it
  abbrev Rule : ℕ → AsmItem → List AsmItem → Type 0
  Rule i x rest = (ruled vs (node_of (place_of all) x) i ≡ None) × (drop (i + 1) all ≡ rest)

  rule_at : (i : ℕ) (x : AsmItem) (rest : List AsmItem) → At all i → drop i all ≡ x ∷ rest → Empty i → Rule i x rest
  rule_at i x rest (stands y is here next lt n) d e =
      let whole : y ∷ is ≡ x ∷ rest = sym here ∙ d in
      let first : y ≡ x = cc in
      let others : is ≡ rest = cc in
      (subst (λ z. ruled vs (node_of (place_of all) z) i ≡ None) first (subst (λ m. ruled vs m i ≡ None) n (closed i e)), next ∙ others)
  rule_at i x rest (ended here n) d e = absurd (let f : [] ≡ x ∷ rest = sym here ∙ d in cc)

  -- that of an instruction of a kind
  abbrev RuleOf : ℕ → Kind → List AsmItem → Type 0
  RuleOf i k rest = (ruled vs (kind_node (place_of all) k) i ≡ None) × (drop (i + 1) all ≡ rest)

  op_rule : (i : ℕ) (j : Instr Imm) (k : Kind) (rest : List AsmItem) → kind_of j ≡ k → drop i all ≡ Op j ∷ rest → Empty i → RuleOf i k rest
  op_rule i j k rest is d e =
      let r = rule_at i (Op j) rest (at all i) d e in
      (subst (λ z. ruled vs (kind_node (place_of all) z) i ≡ None) is r.0, r.1)

  -- no place with a number is empty
  pub kept : (p : List AsmItem) (n : ℕ) → Number all p n → (i : ℕ) → drop i all ≡ p → Empty i → ⊥
  unfolding ruled
  kept _ _ (at_mark name rest n h) i d e =
      let r = rule_at i (Label name) rest (at all i) d e in
      kept rest n h (i + 1) r.1 (empty_at (i + 1) r.0)
  kept _ _ (at_goes j rest n k h) i d e =
      let r = op_rule i j Goes rest k d e in
      kept rest n h (i + 1) r.1 (empty_at (i + 1) (no_after (known vs (i + 1)) r.0))
  kept _ _ (at_jump j l rest n k h) i d e =
      let r = op_rule i j (Jumps l) rest k d e in
      kept (behind all l) n h (place_of all l) (placed all l) (empty_at (place_of all l) (no_after (known vs (place_of all l)) r.0))
  kept _ _ (at_parts j l rest m q n k h g a b c) i d e =
      let r = op_rule i j (Parts l) rest k d e in
      elim (no_greater (known vs (i + 1)) (known vs (place_of all l)) r.0) [
        | inl f ↦ kept rest m h (i + 1) r.1 (empty_at (i + 1) f)
        | inr f ↦ kept (behind all l) q g (place_of all l) (placed all l) (empty_at (place_of all l) f)
      ]
  kept _ _ (at_call j l rest m n k h g) i d e =
      let r = op_rule i j (Calls l) rest k d e in
      elim (no_two (known vs (i + 1)) (known vs (place_of all l)) r.0) [
        | inl f ↦ kept rest n g (i + 1) r.1 (empty_at (i + 1) f)
        | inr f ↦ kept (behind all l) m h (place_of all l) (placed all l) (empty_at (place_of all l) f)
      ]
  kept _ _ (at_return j rest k) i d e = absurd (let r = (op_rule i j Returns rest k d e).0 in cc)
  kept _ _ (at_halt j rest k) i d e = absurd (let r = (op_rule i j Halts rest k d e).0 in cc)
