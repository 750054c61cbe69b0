-- Locals that are open before a point and behind it.
use Rattle.std.proofs.Common.{◌≡◌, ℕ, ◌||◌, eqb, inl, inr, ◌⊎◌, Bool, true, false, cond, List, [], ◌∷◌, refl, sym, ap, ◌∙◌, eqb-true, eq-eqb, true≢false}
use Rattle.mid_code.specs.Live.{is_among}
use Rattle.mid_code.specs.Paths.{Point, SomePoint}
use Rattle.mid_code.specs.Open.{without}

-- another one stays
pub without_other : (k j : ℕ) (made : List ℕ) → eqb k j ≡ false → is_among made j ≡ true → is_among (without k made) j ≡ true
without_other k j [] d e = absurd (true≢false (sym e))
without_other k j (i ∷ made) d e = go (without_other k j made d) (eqb i k) refl (eqb i j) refl e
  where
    go : (is_among made j ≡ true → is_among (without k made) j ≡ true) → (b : Bool) → eqb i k ≡ b → (c : Bool) → eqb i j ≡ c → (c || is_among made j) ≡ true → is_among (cond b (without k made) (i ∷ without k made)) j ≡ true
    go f true z true w e = absurd (true≢false (sym w ∙ ap (λ n. eqb n j) (eqb-true i k z) ∙ d))
    go f true z false w e = f e
    go f false z true w e = ap (λ c. c || is_among (without k made) j) w
    go f false z false w e = ap (λ c. c || is_among (without k made) j) w ∙ f e

-- what is left was there, and is another one
pub without_less : (k j : ℕ) (made : List ℕ) → is_among (without k made) j ≡ true → (eqb k j ≡ false) × (is_among made j ≡ true)
without_less k j [] e = absurd (true≢false (sym e))
without_less k j (i ∷ made) e = go (without_less k j made) (eqb i k) refl (eqb i j) refl e
  where
    other : (b : Bool) → eqb k j ≡ b → eqb i k ≡ false → eqb i j ≡ true → eqb k j ≡ false
    other true x z w = absurd (true≢false (sym (eq-eqb i k (eqb-true i j w ∙ sym (eqb-true k j x))) ∙ z))
    other false x z w = x

    go : (is_among (without k made) j ≡ true → (eqb k j ≡ false) × (is_among made j ≡ true)) → (b : Bool) → eqb i k ≡ b → (c : Bool) → eqb i j ≡ c → is_among (cond b (without k made) (i ∷ without k made)) j ≡ true → (eqb k j ≡ false) × ((eqb i j || is_among made j) ≡ true)
    go f true z true w e = let r = f e in (r.0, ap (λ c. c || is_among made j) w)
    go f true z false w e = let r = f e in (r.0, ap (λ c. c || is_among made j) w ∙ r.1)
    go f false z true w e = (other (eqb k j) refl z w, ap (λ c. c || is_among made j) w)
    go f false z false w e = let r = f (sym (ap (λ c. c || is_among (without k made) j) w) ∙ e) in (r.0, ap (λ c. c || is_among made j) w ∙ r.1)

-- a local that is made is open, and the others stay so
pub with_itself : (k : ℕ) (made : List ℕ) → is_among (k ∷ without k made) k ≡ true
with_itself k made = ap (λ b. b || is_among (without k made) k) (eq-eqb k k refl)

pub with_other : (k j : ℕ) (made : List ℕ) → is_among made j ≡ true → is_among (k ∷ without k made) j ≡ true
with_other k j made e = go (eqb k j) refl
  where
    go : (b : Bool) → eqb k j ≡ b → is_among (k ∷ without k made) j ≡ true
    go true z = ap (λ b. b || is_among (without k made) j) z
    go false z = ap (λ b. b || is_among (without k made) j) z ∙ without_other k j made z e

pub with_cases : (k j : ℕ) (made : List ℕ) → is_among (k ∷ without k made) j ≡ true → (k ≡ j) ⊎ ((eqb k j ≡ false) × (is_among made j ≡ true))
with_cases k j made e = go (eqb k j) refl e
  where
    go : (b : Bool) → eqb k j ≡ b → (b || is_among (without k made) j) ≡ true → (k ≡ j) ⊎ ((eqb k j ≡ false) × (is_among made j ≡ true))
    go true z e = inl (eqb-true k j z)
    go false z e = inr (without_less k j made e)

-- ---- points

module _ {P : Type 0} where
  pub some_long : (R : ℕ → Point P → Type 0) (ps : List (Point P)) → SomePoint (λ r. (m : ℕ) × R m r) ps → (m : ℕ) × SomePoint (R m) ps
  some_long R [] h = absurd h
  some_long R (p ∷ ps) h = elim h [ inl r ↦ (r.0, inl r.1) | inr r ↦ (let q = some_long R ps r in (q.0, inr q.1)) ]

  pub some_each : (Q R : Point P → Type 0) → ((r : Point P) → Q r → R r) → (ps : List (Point P)) → SomePoint Q ps → SomePoint R ps
  some_each Q R f [] h = absurd h
  some_each Q R f (p ∷ ps) h = elim h [ inl l ↦ inl (f p l) | inr l ↦ inr (some_each Q R f ps l) ]
