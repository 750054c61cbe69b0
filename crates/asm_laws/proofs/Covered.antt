-- Which addresses live objects cover.
use Rattle.std.proofs.Common.{◌≡◌, ◌≢◌, ℕ, zero, suc, ◌+◌, ◌-◌, ◌<◌, ◌≤◌, ◌⊎◌, inl, inr, Bool, true, false, cond, List, length, refl, sym, ap, ◌∙◌, subst, arith}
use Rattle.std.specs.Prelude.{ltb, leb}
use Rattle.std.proofs.lemmas.Bool.{lt-ltb, ltb-true, le-leb, leb-true}
use Rattle.obj_mem.specs.Objects.{ObjectT, object_at}
use Rattle.asm_laws.specs.Holds.{Lives, wide}
use Rattle.asm_laws.proofs.Lists.{lives_below}

abbrev pub any : Bool → Bool → Bool → Bool → Bool
any a b c r = cond a (cond b (cond c true r) r) r

any_later : (a b c r : Bool) → r ≡ true → any a b c r ≡ true
any_later false b c r e = e
any_later true false c r e = e
any_later true true false r e = e
any_later true true true r e = refl

any_now : (a b c r : Bool) → a ≡ true → b ≡ true → c ≡ true → any a b c r ≡ true
any_now a b c r ea eb ec = ap (λ x. any x b c r) ea ∙ ap (λ x. any true x c r) eb ∙ ap (λ x. any true true x r) ec

any_which : (a b c r : Bool) → any a b c r ≡ true → ((a ≡ true) × (b ≡ true) × (c ≡ true)) ⊎ (r ≡ true)
any_which false b c r e = inr e
any_which true false c r e = inr e
any_which true true false r e = inr e
any_which true true true r e = inl (refl, refl, refl)

-- whether one of the first n objects lives and covers a
pub covered : ℕ → List ObjectT → (ℕ → ℕ) → ℕ → Bool
covered zero os place a = false
covered (suc n) os place a = any (object_at os n).lives (leb (place n) a) (ltb a (place n + wide os n)) (covered n os place a)

covered_yes : (n : ℕ) (os : List ObjectT) (place : ℕ → ℕ) (o i : ℕ) → o < n → Lives os o → i < wide os o → covered n os place (place o + i) ≡ true
unfolding covered
covered_yes zero os place o i b l lt = absurd (omega arith)
covered_yes (suc n) os place o i b l lt = elim (cases o n b) [
  | inl x ↦ any_later (object_at os n).lives (leb (place n) (place o + i)) (ltb (place o + i) (place n + wide os n)) (covered n os place (place o + i)) (covered_yes n os place o i x l lt)
  | inr e ↦ let ep = ap place e in let ex = ap (wide os) e in any_now (object_at os n).lives (leb (place n) (place o + i)) (ltb (place o + i) (place n + wide os n)) (covered n os place (place o + i)) (subst (λ q. Lives os q) e l) (le-leb (place n) (place o + i) (omega (arith, ep))) (lt-ltb (place o + i) (place n + wide os n) (omega (arith, ep, ex)))
]
  where
    cases : (o n : ℕ) → o < suc n → (o < n) ⊎ (o ≡ n)
    cases o n h = grind arith

covered_by : (n : ℕ) (os : List ObjectT) (place : ℕ → ℕ) (a : ℕ) → covered n os place a ≡ true → (o : ℕ) × (i : ℕ) × Lives os o × (i < wide os o) × (a ≡ place o + i)
unfolding covered
covered_by zero os place a e = cc
covered_by (suc n) os place a e = elim (any_which (object_at os n).lives (leb (place n) a) (ltb a (place n + wide os n)) (covered n os place a) e) [
  | inl x ↦ let le = leb-true (place n) a x.1 in let lt = ltb-true a (place n + wide os n) x.2 in (n, a - place n, x.0, omega (arith, le, lt), omega (arith, le))
  | inr r ↦ covered_by n os place a r
]

-- the words from b on that no live object covers
abbrev pub uncovered : ℕ → List ObjectT → (ℕ → ℕ) → ℕ → Bool
uncovered b os place a = cond (leb b a) (cond (covered (length os) os place a) false true) false

both_true : (x y : Bool) → cond x (cond y false true) false ≡ true → (x ≡ true) × (y ≡ false)
both_true true true e = cc
both_true true false e = (refl, refl)
both_true false y e = cc

pub uncovered_from : (b : ℕ) (os : List ObjectT) (place : ℕ → ℕ) (a : ℕ) → uncovered b os place a ≡ true → b ≤ a
uncovered_from b os place a e = leb-true b a (both_true (leb b a) (covered (length os) os place a) e).0

pub uncovered_not : (b : ℕ) (os : List ObjectT) (place : ℕ → ℕ) (o i : ℕ) → Lives os o → i < wide os o → uncovered b os place (place o + i) ≡ false
uncovered_not b os place o i l lt = go (leb b (place o + i)) (covered (length os) os place (place o + i)) (covered_yes (length os) os place o i (lives_below os o l) l lt)
  where
    go : (x y : Bool) → y ≡ true → cond x (cond y false true) false ≡ false
    go true true e = refl
    go true false e = sym e
    go false y e = refl

pub uncovered_yes : (b : ℕ) (os : List ObjectT) (place : ℕ → ℕ) (a : ℕ) → b ≤ a → ((o i : ℕ) → Lives os o → i < wide os o → a ≢ place o + i) → uncovered b os place a ≡ true
uncovered_yes b os place a le free = go (covered (length os) os place a) refl
  where
    go : (y : Bool) → covered (length os) os place a ≡ y → uncovered b os place a ≡ true
    go true e = let c = covered_by (length os) os place a e in absurd (free c.0 c.1 c.2 c.3 c.4)
    go false e = ap (λ x. cond x (cond (covered (length os) os place a) false true) false) (le-leb b a le) ∙ ap (λ y. cond y false true) e
