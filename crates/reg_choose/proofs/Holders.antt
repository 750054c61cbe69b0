-- Holders of places.
use Rattle.std.proofs.Common.{◌≡◌, ◌≢◌, ℕ, zero, suc, ◌<◌, ◌≤◌, ◌⊎◌, inl, inr, Bool, true, false, ◌||◌, ◌&&◌, not, eqb, ltb, cond, List, [], ◌∷◌, ◌↔◌, drop, drop-cons, length, get_or, set, refl, ap, sym, ◌∙◌, subst, arith}
use Rattle.std.proofs.lemmas.Bool.{eq-eqb, ne_eqb, eqb-true, eqb-false, ltb-true, ltb-false, false≢true, true≢false}
use Rattle.mid_code.specs.declared.placed.Where.{Where}
use Rattle.mid_code.specs.declared.placed.Where.TheVariants.{Reg, Slot}
use Rattle.mid_code.specs.Live.{is_among}
use Rattle.mid_code.specs.Safe.{place_of, IsSlot}
use Rattle.reg_choose.specs.inner.Scan.{one}
use Rattle.mid_live.specs.Sets.{on, room}
use Rattle.reg_choose.specs.inner.Checked.{ApartIn}
use Rattle.reg_choose.specs.inner.Holding.{below, slots_in, number_of, number_at, Stands, Laid, Made}
use Rattle.reg_choose.proofs.Tenants.{get_set}

eq_or : (a b : ℕ) → (a ≡ b) ⊎ (a ≢ b)
eq_or a b = turn (eqb a b) refl
  where
    turn : (t : Bool) → eqb a b ≡ t → (a ≡ b) ⊎ (a ≢ b)
    turn true e = inl (eqb-true a b e)
    turn false e = inr (eqb-false a b e)

lt_or : (a b : ℕ) → ((a < b) × (ltb a b ≡ true)) ⊎ ((b ≤ a) × (ltb a b ≡ false))
lt_or a b = turn (ltb a b) refl
  where
    turn : (t : Bool) → ltb a b ≡ t → ((a < b) × (ltb a b ≡ true)) ⊎ ((b ≤ a) × (ltb a b ≡ false))
    turn true e = inl (ltb-true a b e, e)
    turn false e = inr (ltb-false a b e, e)

-- ---- numbers of places

abbrev IsIn : ℕ → List ℕ → Type 0
IsIn k [] = ⊥
IsIn k (m ∷ ms) = (k ≡ m) ⊎ IsIn k ms

one_less : (m j k : ℕ) → j ≤ k → one (ltb m j) ≤ one (ltb m k)
one_less m j k h = elim (lt_or m j) [
  | inl a ↦ elim (lt_or m k) [ inl b ↦ (let p = ap one a.1 in let q = ap one b.1 in omega (arith, p, q)) | inr b ↦ absurd (let p = a.0 in let q = b.0 in omega (arith, h, p, q)) ]
  | inr a ↦ (let p = ap one a.1 in omega (arith, p))
]

below_less : (ms : List ℕ) (j k : ℕ) → j ≤ k → below j ms ≤ below k ms
below_less [] j k h = omega arith
below_less (m ∷ ms) j k h = (let a = one_less m j k h in let b = below_less ms j k h in omega (arith, a, b))

below_more : (ms : List ℕ) (j k : ℕ) → j < k → IsIn j ms → below j ms < below k ms
below_more [] j k h i = absurd i
below_more (m ∷ ms) j k h i = elim i [
  | inl e ↦ (
      let a : one (ltb m j) ≡ 0 = elim (lt_or m j) [ inl p ↦ absurd (let q = p.0 in omega (arith, q, e)) | inr p ↦ ap one p.1 ] in
      let b : one (ltb m k) ≡ 1 = elim (lt_or m k) [ inl p ↦ ap one p.1 | inr p ↦ absurd (let q = p.0 in omega (arith, q, e, h)) ] in
      let c = below_less ms j k (omega (arith, h)) in
      omega (arith, a, b, c))
  | inr r ↦ (let a = one_less m j k (omega (arith, h)) in let b = below_more ms j k h r in omega (arith, a, b))
]

below_same : (ms : List ℕ) (j k : ℕ) → IsIn j ms → IsIn k ms → below j ms ≡ below k ms → j ≡ k
below_same ms j k h i e = elim (lt_or j k) [
  | inl l ↦ absurd (let a = below_more ms j k l.0 h in omega (arith, a, e))
  | inr l ↦ elim (lt_or k j) [
    | inl m ↦ absurd (let a = below_more ms k j m.0 i in omega (arith, a, e))
    | inr m ↦ (let a = l.0 in let b = m.0 in omega (arith, a, b))
  ]
]

-- every place is a register or a slot that is counted
abbrev Counted : List ℕ → Where → Type 0
Counted ms (Reg r) = r < 9
Counted ms (Slot k) = IsIn k ms

same_place : (ms : List ℕ) (v w : Where) → Counted ms v → Counted ms w → number_of ms v ≡ number_of ms w → v ≡ w
same_place ms (Reg q) (Reg r) h i e = ap Reg e
same_place ms (Reg q) (Slot k) h i e = absurd (omega (arith, h, e))
same_place ms (Slot j) (Reg r) h i e = absurd (omega (arith, i, e))
same_place ms (Slot j) (Slot k) h i e = ap Slot (below_same ms j k h i (omega (arith, e)))

slot_in : (ws : List Where) (x k : ℕ) → place_of ws x ≡ Slot k → IsIn k (0 ∷ slots_in ws)
slot_in [] x k e = inl (sym (ap number e))
  where
    number : Where → ℕ
    number (Reg n) = n
    number (Slot n) = n
slot_in (Reg r ∷ ws) zero k e = absurd (true≢false (ap is_reg e))
  where
    is_reg : Where → Bool
    is_reg (Reg n) = true
    is_reg (Slot n) = false
slot_in (Reg r ∷ ws) (suc x) k e = slot_in ws x k e
slot_in (Slot j ∷ ws) zero k e = inr (inl (sym (ap number e)))
  where
    number : Where → ℕ
    number (Reg n) = n
    number (Slot n) = n
slot_in (Slot j ∷ ws) (suc x) k e = elim (slot_in ws x k e) [ inl a ↦ inl a | inr a ↦ inr (inr a) ]

module _ (at : List Where) (chosen : (x r : ℕ) → place_of at x ≡ Reg r → r < 9) where
  counted : (x : ℕ) (w : Where) → place_of at x ≡ w → Counted (0 ∷ slots_in at) w
  counted x (Reg r) e = chosen x r e
  counted x (Slot k) e = slot_in at x k e

  pub same_number : (x y : ℕ) → number_at at x ≡ number_at at y → place_of at x ≡ place_of at y
  unfolding number_at
  same_number x y e = same_place (0 ∷ slots_in at) (place_of at x) (place_of at y) (counted x (place_of at x) refl) (counted y (place_of at y) refl) e

  pub reg_number : (x r : ℕ) → place_of at x ≡ Reg r → number_at at x ≡ r
  unfolding number_at
  reg_number x r e = ap (number_of (0 ∷ slots_in at)) e

  -- a number below nine is that of a register
  pub number_slot : (x : ℕ) → number_at at x < 9 → IsSlot (place_of at x) → ⊥
  unfolding number_at
  number_slot x h i = go (place_of at x) h i
    where
      go : (w : Where) → number_of (0 ∷ slots_in at) w < 9 → IsSlot w → ⊥
      go (Reg r) h i = i
      go (Slot k) h i = omega (arith, h)

pub number_same : (at : List Where) (x y : ℕ) → place_of at x ≡ place_of at y → number_at at x ≡ number_at at y
unfolding number_at
number_same at x y e = ap (number_of (0 ∷ slots_in at)) e

pub set_long : {A : Type 0} (xs : List A) (i : ℕ) (v : A) → length (set xs i v) ≡ length xs
set_long [] i v = refl
set_long (x ∷ xs) zero v = refl
set_long (x ∷ xs) (suc i) v = ap suc (set_long xs i v)

-- ---- one temporary more, or less

module _ (at : List Where) (s hs : List ℕ) (g : Stands at s hs) where
  pub stands_apart : ApartIn (length at) at (on s)
  stands_apart x y h k p q e = (let a = g.holds x h p in let b = g.holds y k q in let c = ap (λ z. get_or hs z 0) (number_same at x y e) in omega (arith, a, b, c))

  -- x is taken out
  pub lift_stands : (x : ℕ) (new : List ℕ) → x < length at → on s x ≡ true → length new ≡ length s → ((y : ℕ) → y < length at → on new y ≡ cond (eqb x y) false (on s y)) → Stands at new (set hs (number_at at x) 0)
  lift_stands x new l o w is = record {
    wide = (let a = g.wide in omega (arith, a, w));
    nine = (let a = g.nine in omega (arith, a, long));
    numbers = λ y. (let a = g.numbers y in omega (arith, a, long));
    holds = λ y h q. (
        let d : x ≢ y = λ e. false≢true (sym (is y h ∙ ap (λ b. cond b false (on s y)) (eq-eqb x y e)) ∙ q) in
        let p : on s y ≡ true = sym (is y h ∙ ap (λ b. cond b false (on s y)) (ne_eqb x y d)) ∙ q in
        let n : number_at at y ≢ number_at at x = λ e. (let a = g.holds x l o in let b = g.holds y h p in let c = ap (λ z. get_or hs z 0) e in d (omega (arith, a, b, c))) in
        get_set hs (number_at at x) (number_at at y) 0 0 (g.numbers x) ∙ ap (λ b. cond b 0 (get_or hs (number_at at y) 0)) (ne_eqb (number_at at y) (number_at at x) n) ∙ g.holds y h p);
    held = λ k y e. (
        let i = get_set hs (number_at at x) k 0 0 (g.numbers x) in
        elim (eq_or k (number_at at x)) [
          | inl q ↦ absurd (let a = ap (λ b. cond b 0 (get_or hs k 0)) (eq-eqb k (number_at at x) q) in omega (arith, e, i, a))
          | inr q ↦ (
              let a = ap (λ b. cond b 0 (get_or hs k 0)) (ne_eqb k (number_at at x) q) in
              let u = g.held k y (sym a ∙ sym i ∙ e) in
              let d : x ≢ y = λ z. q (sym (ap (number_at at) z ∙ u.2)) in
              (u.0, is y u.0 ∙ ap (λ b. cond b false (on s y)) (ne_eqb x y d) ∙ u.1, u.2))
        ]);
  }
    where
      long : length (set hs (number_at at x) 0) ≡ length hs
      long = set_long hs (number_at at x) 0

  -- another set that is the same below the count
  pub same_stands : (new : List ℕ) → length new ≡ length s → ((y : ℕ) → y < length at → on new y ≡ on s y) → Stands at new hs
  same_stands new w is = record {
    wide = (let a = g.wide in omega (arith, a, w));
    nine = g.nine;
    numbers = g.numbers;
    holds = λ y h q. g.holds y h (sym (is y h) ∙ q);
    held = λ k y e. (let u = g.held k y e in (u.0, is y u.0 ∙ u.1, u.2));
  }

  -- x is put in, where its place is free
  pub lay_stands : (x : ℕ) (new : List ℕ) → x < length at → get_or hs (number_at at x) 0 ≡ 0 → length new ≡ length s → ((y : ℕ) → y < length at → on new y ≡ ((eqb x y || false) || on s y)) → Stands at new (set hs (number_at at x) (suc x))
  lay_stands x new l o w is = record {
    wide = (let a = g.wide in omega (arith, a, w));
    nine = (let a = g.nine in omega (arith, a, long));
    numbers = λ y. (let a = g.numbers y in omega (arith, a, long));
    holds = λ y h q. (
        let i = get_set hs (number_at at x) (number_at at y) (suc x) 0 (g.numbers x) in
        elim (eq_or x y) [
          | inl e ↦ i ∙ ap (λ b. cond b (suc x) (get_or hs (number_at at y) 0)) (eq-eqb (number_at at y) (number_at at x) (ap (number_at at) (sym e))) ∙ ap suc e
          | inr d ↦ (
              let p : on s y ≡ true = sym (is y h ∙ ap (λ b. (b || false) || on s y) (ne_eqb x y d)) ∙ q in
              let n : number_at at y ≢ number_at at x = λ e. (let b = g.holds y h p in let c = ap (λ z. get_or hs z 0) e in omega (arith, o, b, c)) in
              i ∙ ap (λ b. cond b (suc x) (get_or hs (number_at at y) 0)) (ne_eqb (number_at at y) (number_at at x) n) ∙ g.holds y h p)
        ]);
    held = λ k y e. (
        let i = get_set hs (number_at at x) k (suc x) 0 (g.numbers x) in
        elim (eq_or k (number_at at x)) [
          | inl q ↦ (
              let a = ap (λ b. cond b (suc x) (get_or hs k 0)) (eq-eqb k (number_at at x) q) in
              let z : x ≡ y = omega (arith, e, i, a) in
              (subst (λ v. v < length at) z l, is y (subst (λ v. v < length at) z l) ∙ ap (λ b. (b || false) || on s y) (eq-eqb x y z), ap (number_at at) (sym z) ∙ sym q))
          | inr q ↦ (
              let a = ap (λ b. cond b (suc x) (get_or hs k 0)) (ne_eqb k (number_at at x) q) in
              let u = g.held k y (sym a ∙ sym i ∙ e) in
              (u.0, is y u.0 ∙ or_on (eqb x y || false) (on s y) u.1, u.2))
        ]);
  }
    where
      long : length (set hs (number_at at x) (suc x)) ≡ length hs
      long = set_long hs (number_at at x) (suc x)

      or_on : (a b : Bool) → b ≡ true → (a || b) ≡ true
      or_on true b e = refl
      or_on false b e = e

  -- where it is not free, another one stands there
  pub lay_clash : (chosen : (x r : ℕ) → place_of at x ≡ Reg r → r < 9) (x z : ℕ) → x < length at → on s x ≡ false → get_or hs (number_at at x) 0 ≡ suc z → ApartIn (length at) at (λ y. (eqb x y || false) || on s y) → ⊥
  lay_clash chosen x z l o e a =
      let u = g.held (number_at at x) z e in
      let i : z ≡ x = a z x u.0 l (ap (λ b. (eqb x z || false) || b) u.1 ∙ or_true (eqb x z || false)) (ap (λ b. (b || false) || on s x) (eq-eqb x x refl)) (same_number at chosen z x u.2) in
      true≢false (sym u.1 ∙ ap (on s) i ∙ o)
    where
      or_true : (a : Bool) → (a || true) ≡ true
      or_true true = refl
      or_true false = refl

or_twice : (a b : Bool) → ((a || false) || b) ≡ (a || b)
or_twice true b = refl
or_twice false b = refl

or_in : (a b : Bool) → (a ≡ true → b ≡ true) → (a || b) ≡ b
or_in true b f = sym (f refl)
or_in false b f = refl

-- as code adds one
pub laid_same : (at : List Where) (s hs new : List ℕ) (x : ℕ) → Stands at s hs → (x < length at → on s x ≡ true) → length new ≡ length s → ((y : ℕ) → y < room s → on new y ≡ (eqb x y || on s y)) → Laid at (λ y. eqb x y || false) s new hs true
laid_same at s hs new x g o w is =
    let r = g.wide in
    ((λ y h. is y (omega (arith, h, r)) ∙ sym (or_twice (eqb x y) (on s y))), same_stands at s hs g new w (λ y h. is y (omega (arith, h, r)) ∙ or_in (eqb x y) (on s y) (λ e. (let q = eqb-true x y e in subst (λ z. on s z ≡ true) q (o (subst (λ z. z < length at) (sym q) h))))))

pub laid_new : (at : List Where) (s hs new : List ℕ) (x : ℕ) → Stands at s hs → x < length at → get_or hs (number_at at x) 0 ≡ 0 → length new ≡ length s → ((y : ℕ) → y < room s → on new y ≡ (eqb x y || on s y)) → Laid at (λ y. eqb x y || false) s new (set hs (number_at at x) (suc x)) true
laid_new at s hs new x g l o w is =
    let r = g.wide in
    let f : (y : ℕ) → y < length at → on new y ≡ ((eqb x y || false) || on s y) = λ y h. is y (omega (arith, h, r)) ∙ sym (or_twice (eqb x y) (on s y)) in
    (f, lay_stands at s hs g x new l o w f)

pub lifted : (at : List Where) (s hs new : List ℕ) (x : ℕ) → Stands at s hs → length new ≡ length s → ((y : ℕ) → y < room s → on new y ≡ cond (eqb x y) false (on s y)) → (y : ℕ) → y < length at → on new y ≡ cond (eqb x y) false (on s y)
lifted at s hs new x g w is y h = (let r = g.wide in is y (omega (arith, h, r)))

pub lifted_same : (at : List Where) (s hs new : List ℕ) (x : ℕ) → Stands at s hs → (x < length at → on s x ≡ false) → length new ≡ length s → ((y : ℕ) → y < length at → on new y ≡ cond (eqb x y) false (on s y)) → Stands at new hs
lifted_same at s hs new x g o w is = same_stands at s hs g new w (λ y h. is y h ∙ not_there (eqb x y) (on s y) (λ e. (let q = eqb-true x y e in subst (λ z. on s z ≡ false) q (o (subst (λ z. z < length at) (sym q) h)))))
  where
    not_there : (a b : Bool) → (a ≡ true → b ≡ false) → cond a false b ≡ b
    not_there true b f = sym (f refl)
    not_there false b f = refl

-- ---- one after another

or_join : (a b c : Bool) → (b || (a || c)) ≡ ((b || a) || c)
or_join a true c = refl
or_join a false c = refl

apart_less : (n : ℕ) (at : List Where) (f g : ℕ → Bool) → ((y : ℕ) → y < n → f y ≡ true → g y ≡ true) → ApartIn n at g → ApartIn n at f
apart_less n at f g i a x y h k p q e = a x y h k (i x h p) (i y k q) e

or_two : (a b : Bool) → a ≡ true → (b || a) ≡ true
or_two a true e = refl
or_two a false e = e

or_one : (a b c : Bool) → (a || c) ≡ true → ((b || a) || c) ≡ true
or_one a true c e = refl
or_one a false c e = e

-- after the first were added, the others are
pub laid_more : (at : List Where) (f g : ℕ → Bool) (old mid new hs : List ℕ) (b : Bool) → ((y : ℕ) → y < length at → on mid y ≡ (f y || on old y)) → Laid at g mid new hs b → Laid at (λ y. g y || f y) old new hs b
laid_more at f g old mid new hs true i l = ((λ y h. l.0 y h ∙ ap (λ z. g y || z) (i y h) ∙ or_join (f y) (g y) (on old y)), l.1)
laid_more at f g old mid new hs false i l = λ a. l (apart_less (length at) at (λ y. g y || on mid y) (λ y. (g y || f y) || on old y) (λ y h e. sym (or_join (f y) (g y) (on old y)) ∙ ap (λ z. g y || z) (sym (i y h)) ∙ e) a)

-- where the first clash, all do
pub laid_less : (at : List Where) (f g : ℕ → Bool) (old mid new hs ks : List ℕ) → Laid at f old mid ks false → Laid at (λ y. g y || f y) old new hs false
laid_less at f g old mid new hs ks l = λ a. l (apart_less (length at) at (λ y. f y || on old y) (λ y. (g y || f y) || on old y) (λ y h e. or_one (f y) (g y) (on old y) e) a)

pub laid_as : (at : List Where) (f g : ℕ → Bool) (old new hs : List ℕ) (b : Bool) → ((y : ℕ) → f y ≡ g y) → Laid at f old new hs b → Laid at g old new hs b
laid_as at f g old new hs b i l = subst (λ z. Laid at z old new hs b) (λ j y. i y j) l

pub laid_none : (at : List Where) (s hs : List ℕ) → Stands at s hs → Laid at (λ y. false) s s hs true
laid_none at s hs g = ((λ y h. refl), g)

-- ---- as code tells it

pub not_new : {A : Type 0} (r b : Bool) → ((r ≡ true) ↔ (A × (b ≡ false))) → r ≡ false → A → b ≡ true
not_new r true f e a = refl
not_new r false f e a = absurd (false≢true (sym e ∙ f.1 (a, refl)))

pub not_there : {A : Type 0} (r b : Bool) → ((r ≡ true) ↔ (A × (b ≡ true))) → r ≡ false → A → b ≡ false
not_there r true f e a = absurd (false≢true (sym e ∙ f.1 (a, refl)))
not_there r false f e a = refl

pub clash_more : (at : List Where) (f g m o : ℕ → Bool) → ((y : ℕ) → y < length at → (f y || m y) ≡ true → (g y || o y) ≡ true) → (ApartIn (length at) at (λ y. f y || m y) → ⊥) → ApartIn (length at) at (λ y. g y || o y) → ⊥
clash_more at f g m o i l a = l (apart_less (length at) at (λ y. f y || m y) (λ y. g y || o y) i a)

pub among_more : (xs : List ℕ) (i x d y : ℕ) (b : Bool) → i < length xs → x ≡ get_or xs i d → ((eqb x y || false) || b) ≡ true → (is_among (drop i xs) y || b) ≡ true
among_more xs i x d y b l e o =
    let q : drop i xs ≡ x ∷ drop (suc i) xs = drop-cons xs i d l ∙ ap (λ z. z ∷ drop (suc i) xs) (sym e) in
    ap (λ z. is_among z y || b) q ∙ more (eqb x y) (is_among (drop (suc i) xs) y) o
  where
    more : (a m : Bool) → ((a || false) || b) ≡ true → ((a || m) || b) ≡ true
    more true m o = refl
    more false true o = refl
    more false false o = o

pub nothing_more : (at : List Where) (f : ℕ → Bool) (old new hs : List ℕ) → ((y : ℕ) → y < length at → on new y ≡ (f y || on old y)) → Stands at new hs → Laid at f old new hs true
nothing_more at f old new hs i g = (i, g)

-- ---- sets

both_in : (t s : Bool) → (t || (s && t)) ≡ t
both_in true s = refl
both_in false true = refl
both_in false false = refl

pub made_of : (at : List Where) (s t mid new hs : List ℕ) (b : Bool) → ((y : ℕ) → y < length at → on mid y ≡ (on s y && on t y)) → Laid at (on t) mid new hs b → Made at t new hs b
made_of at s t mid new hs true i l = ((λ y h. l.0 y h ∙ ap (λ z. on t y || z) (i y h) ∙ both_in (on t y) (on s y)), l.1)
made_of at s t mid new hs false i l = λ a. l (apart_less (length at) at (λ y. on t y || on mid y) (on t) (λ y h e. sym (ap (λ z. on t y || z) (i y h) ∙ both_in (on t y) (on s y)) ∙ e) a)

pub lift_turn : (e b r : Bool) → (cond e false b && not r) ≡ (b && not (e || r))
lift_turn true true r = refl
lift_turn true false r = refl
lift_turn false b r = refl

-- what was there and is gone was taken out
pub both_left : (w t g : Bool) → g ≡ (w && not t) → (w && not g) ≡ (w && t)
both_left w t g e = ap (λ z. w && not z) e ∙ go w t
  where
    go : (w t : Bool) → (w && not (w && not t)) ≡ (w && t)
    go true true = refl
    go true false = refl
    go false t = refl

-- what is new put in
pub laid_fresh : (at : List Where) (f g : ℕ → Bool) (old new hs : List ℕ) (b : Bool) → ((y : ℕ) → f y ≡ (g y && not (on old y))) → Laid at f old new hs b → Laid at g old new hs b
laid_fresh at f g old new hs true e l = ((λ y h. l.0 y h ∙ ap (λ z. z || on old y) (e y) ∙ fresh_or (g y) (on old y)), l.1)
  where
    fresh_or : (a b : Bool) → ((a && not b) || b) ≡ (a || b)
    fresh_or true true = refl
    fresh_or true false = refl
    fresh_or false b = refl
laid_fresh at f g old new hs false e l = λ a. l (apart_less (length at) at (λ y. f y || on old y) (λ y. g y || on old y) (λ y h i. sym (fresh_or (g y) (on old y)) ∙ ap (λ z. z || on old y) (sym (e y)) ∙ i) a)
  where
    fresh_or : (a b : Bool) → ((a && not b) || b) ≡ (a || b)
    fresh_or true true = refl
    fresh_or true false = refl
    fresh_or false b = refl

-- from nothing: whether those that are added are apart
pub laid_apart : (at : List Where) (f : ℕ → Bool) (old new hs : List ℕ) (b : Bool) → ((y : ℕ) → on old y ≡ false) → Laid at f old new hs b → (b ≡ true) ↔ ApartIn (length at) at f
laid_apart at f old new hs true e l = ((λ q. apart_less (length at) at f (on new) (λ y h i. l.0 y h ∙ ap (λ z. f y || z) (e y) ∙ ap (λ z. z || false) i) (stands_apart at new hs l.1)), (λ a. refl))
laid_apart at f old new hs false e l = ((λ q. absurd (false≢true q)), (λ a. absurd (l (apart_less (length at) at (λ y. f y || on old y) f (λ y h i. sym (or_nothing (f y)) ∙ sym (ap (λ z. f y || z) (e y)) ∙ i) a))))
  where
    or_nothing : (b : Bool) → (b || false) ≡ b
    or_nothing true = refl
    or_nothing false = refl
