-- Places added to trails, in any order.
use Rattle.std.proofs.Common.{◌≡◌, ℕ, ◌≤◌, Bool, true, false, ◌||◌, min, max, refl, arith}
use Rattle.std.proofs.lemmas.Bool.{false≢true}
use Rattle.reg_choose.specs.declared.trail.Trail.{Trail}
use Rattle.reg_choose.specs.inner.Trails.{longer, stood, crossing}

abbrev made : (held : Bool) (first last : ℕ) (crosses : Bool) → Trail
made h f l c = record { held = h; first = f; last = l; crosses = c }

longer_swap : (p q : ℕ) (h : Bool) (f l : ℕ) (c : Bool) → longer p (longer q (made h f l c)) ≡ longer q (longer p (made h f l c))
longer_swap p q true f l c = (let e : min p (min q f) ≡ min q (min p f) = omega arith in let g : max p (max q l) ≡ max q (max p l) = omega arith in λ i. made true (e i) (g i) c)
longer_swap p q false f l c = (let e : min p q ≡ min q p = omega arith in let g : max p q ≡ max q p = omega arith in λ i. made true (e i) (g i) c)

longer_twice : (p : ℕ) (h : Bool) (f l : ℕ) (c : Bool) → longer p (longer p (made h f l c)) ≡ longer p (made h f l c)
longer_twice p true f l c = (let e : min p (min p f) ≡ min p f = omega arith in let g : max p (max p l) ≡ max p l = omega arith in λ i. made true (e i) (g i) c)
longer_twice p false f l c = (let e : min p p ≡ p = omega arith in let g : max p p ≡ p = omega arith in λ i. made true (e i) (g i) c)

-- the range reaches a place
abbrev pub Reach : Trail → ℕ → Type 0
Reach r q = (r.held ≡ true) × (q ≤ r.last)

longer_over : (p q : ℕ) (h : Bool) (f l : ℕ) (c : Bool) → h ≡ true → p ≤ q → q ≤ l → longer p (longer q (made h f l c)) ≡ longer p (made h f l c)
longer_over p q true f l c d a b = (let e : min p (min q f) ≡ min p f = omega (arith, a) in let g : max p (max q l) ≡ max p l = omega (arith, b) in λ i. made true (e i) (g i) c)
longer_over p q false f l c d a b = absurd (false≢true d)

pub swap : (b : Bool) (p : ℕ) (c : Bool) (q : ℕ) (r : Trail) → stood b p (stood c q r) ≡ stood c q (stood b p r)
swap true p true q r = longer_swap p q r.held r.first r.last r.crosses
swap true p false q r = refl
swap false p c q r = refl

pub twice : (p : ℕ) (r : Trail) → longer p (longer p r) ≡ longer p r
twice p r = longer_twice p r.held r.first r.last r.crosses

pub again : (b : Bool) (p : ℕ) (r : Trail) → longer p (stood b p r) ≡ longer p r
again true p r = twice p r
again false p r = refl

-- what lies in the range tells nothing
pub over : (p : ℕ) (c : Bool) (q : ℕ) (r : Trail) → (c ≡ true → Reach r q) → p ≤ q → longer p (stood c q r) ≡ longer p r
over p true q r h l = longer_over p q r.held r.first r.last r.crosses (h refl).0 l (h refl).1
over p false q r h l = refl

pub either : (b c : Bool) (p : ℕ) (r : Trail) → stood b p (stood c p r) ≡ stood (b || c) p r
either true c p r = again c p r
either false c p r = refl

pub crossing_stood : (b c : Bool) (p : ℕ) (r : Trail) → crossing b (stood c p r) ≡ stood c p (crossing b r)
crossing_stood b true p r = refl
crossing_stood b false p r = refl

longer_reach : (p q : ℕ) (h : Bool) (f l : ℕ) (c : Bool) → Reach (made h f l c) q → Reach (longer p (made h f l c)) q
longer_reach p q true f l c d = (refl, (let a = d.1 in omega (arith, a)))
longer_reach p q false f l c d = absurd (false≢true d.0)

pub stood_reach : (b : Bool) (p : ℕ) (r : Trail) (q : ℕ) → Reach r q → Reach (stood b p r) q
stood_reach true p r q h = longer_reach p q r.held r.first r.last r.crosses h
stood_reach false p r q h = h

new_reach : (p : ℕ) (h : Bool) (f l : ℕ) (c : Bool) → Reach (longer p (made h f l c)) p
new_reach p true f l c = (refl, omega arith)
new_reach p false f l c = (refl, omega arith)

pub reach_here : (b : Bool) (p : ℕ) (r : Trail) → b ≡ true → Reach (stood b p r) p
reach_here true p r e = new_reach p r.held r.first r.last r.crosses
reach_here false p r e = absurd (false≢true e)

pub reach_less : (r : Trail) (p q : ℕ) → Reach r q → p ≤ q → Reach r p
reach_less r p q h l = (h.0, (let a = h.1 in omega (arith, a, l)))
