-- Comparisons of pointers are those of their words.
use Rattle.std.proofs.Common.{◌≡◌, ℕ, ◌+◌, ◌<◌, ◌≤◌, inl, inr, Bool, true, false, Some, refl, sym, ap, ◌∙◌, arith}
use Rattle.std.specs.Prelude.{not, ◌==◌, nat_lt, int_lt, pos}
use Rattle.std.specs.Int.{w32}
use Rattle.std.proofs.lemmas.Int.{to_z_pos}
use Rattle.std.proofs.lemmas.Bool.{eq-eqb}
use Rattle.std.proofs.lemmas.Bool.Decides.{nat_tests}
use Rattle.kit_base.specs.Word.{add, signed, below, bool_word}
use Rattle.v32_isa.specs.declared.instruction.Two.{Two}
use Rattle.v32_isa.specs.declared.instruction.Two.TheVariants.{IEQ, INE, IGT, IGE, ILT, ILE}
use Rattle.v32_isa.specs.Arithmetic.{two_of}
use Rattle.mid_code.specs.Invariants.{IsTest}
use Rattle.asm_laws.proofs.Stepping.{same_or_not}
use Rattle.asm_laws.proofs.Words.{add_small, add_same}

pub test_same : (a b c d : ℕ) → (a ≡ b → c ≡ d) → (c ≡ d → a ≡ b) → (a == b) ≡ (c == d)
test_same a b c d f g = elim (same_or_not a b) [
  | inl x ↦ x.1 ∙ sym (eq-eqb c d (f x.0))
  | inr x ↦ elim (same_or_not c d) [ inl y ↦ absurd (x.0 (g y.0)) | inr y ↦ x.1 ∙ sym y.1 ]
]

pub equal_alike : (p i j : ℕ) → i < 0x100000000 → j < 0x100000000 → (add p i == add p j) ≡ (i == j)
equal_alike p i j li lj = test_same (add p i) (add p j) i j (add_same p i j li lj) (ap (add p))

less_same : (a b c d : ℕ) → (a < b → c < d) → (c < d → a < b) → nat_lt a b ≡ nat_lt c d
less_same a b c d f g = go (nat_lt a b) refl (nat_lt c d) refl
  where
    go : (x : Bool) → nat_lt a b ≡ x → (y : Bool) → nat_lt c d ≡ y → nat_lt a b ≡ nat_lt c d
    go true e true q = e ∙ sym q
    go false e false q = e ∙ sym q
    go true e false q = let n : a < b = grind (arith, nat_tests) in let m = f n in absurd (grind (arith, nat_tests))
    go false e true q = let n : c < d = grind (arith, nat_tests) in let m = g n in absurd (grind (arith, nat_tests))

pub below_is : (a b : ℕ) → a < 0x80000000 → b < 0x80000000 → below a b ≡ nat_lt a b
unfolding below
below_is a b la lb = ap (λ z. int_lt z (signed b)) (to_z_pos w32 a la) ∙ ap (λ z. int_lt (pos a) z) (to_z_pos w32 b lb)

pub below_alike : (p i j : ℕ) → p + i ≤ 0x40000000 → p + j ≤ 0x40000000 → below (add p i) (add p j) ≡ below i j
below_alike p i j li lj =
    let ai : add p i ≡ p + i = add_small p i (omega (arith, li)) in
    let aj : add p j ≡ p + j = add_small p j (omega (arith, lj)) in
    ap (λ z. below z (add p j)) ai ∙ ap (below (p + i)) aj ∙ below_is (p + i) (p + j) (omega (arith, li)) (omega (arith, lj))
    ∙ less_same (p + i) (p + j) i j (λ l. omega (arith, l)) (λ l. omega (arith, l)) ∙ sym (below_is i j (omega (arith, li)) (omega (arith, lj)))

-- the comparisons of pointers of one object are those of their offsets
pub tested_alike : (o : Two) (p i j : ℕ) → IsTest o → p + i ≤ 0x40000000 → p + j ≤ 0x40000000 → two_of o (add p i) (add p j) ≡ two_of o i j
tested_alike IEQ p i j t li lj = ap (λ b. Some (bool_word b)) (equal_alike p i j (omega (arith, li)) (omega (arith, lj)))
tested_alike INE p i j t li lj = ap (λ b. Some (bool_word (not b))) (equal_alike p i j (omega (arith, li)) (omega (arith, lj)))
tested_alike IGT p i j t li lj = ap (λ b. Some (bool_word b)) (below_alike p j i lj li)
tested_alike IGE p i j t li lj = ap (λ b. Some (bool_word (not b))) (below_alike p i j li lj)
tested_alike ILT p i j t li lj = ap (λ b. Some (bool_word b)) (below_alike p i j li lj)
tested_alike ILE p i j t li lj = ap (λ b. Some (bool_word (not b))) (below_alike p j i lj li)
tested_alike _ p i j t li lj = absurd t
