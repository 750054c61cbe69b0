-- Registers and those that stand in them.
use Rattle.std.proofs.Common.{◌≡◌, ◌≢◌, ℕ, zero, suc, ◌-◌, ◌<◌, Bool, true, false, leb, cond, List, [], ◌∷◌, length, map, eqb, drop, drop-cons, get_or, set, replicate, Option, Some, None, refl, ap, sym, subst, ◌∙◌, arith}
use Rattle.std.specs.List.Sorted.{IsNonDecreasingBy}
use Rattle.std.proofs.lemmas.Bool.{eqb-true, eqb-false}
use Rattle.mid_code.specs.Spans.{Span}
use Rattle.reg_choose.specs.declared.interval.Interval.{Interval}
use Rattle.reg_choose.specs.inner.Scan.{put, free, taking, scan, AllG, Has}
use Rattle.reg_choose.specs.inner.Handing.{span, flag, kept, freed, freed_at, got, first_got, written, give}

pub free_turn : (f : ℕ → ℕ) (p n : ℕ) → 0 < n → free f p n ≡ cond (leb (f (n - 1)) p) (Some (n - 1)) (free f p (n - 1))
free_turn f p zero h = absurd (omega (arith, h))
free_turn f p (suc n) h = ap (λ k. cond (leb (f k) p) (Some k) (free f p k)) (omega arith)

abbrev pub nothing : Interval
nothing = record { temp = 0; first = 0; last = 0 }

first_at : (vs : List Interval) (i : ℕ) (d : Span) → i < length vs → (get_or (map span vs) i d).first ≡ (get_or vs i nothing).first
first_at [] i d h = absurd (omega (arith, h))
first_at (v ∷ vs) zero d h = refl
first_at (v ∷ vs) (suc i) d h = first_at vs i d (omega (arith, h))

long : (vs : List Interval) → length (map span vs) ≡ length vs
long [] = refl
long (v ∷ vs) = ap suc (long vs)

pub rises_spans : (vs : List Interval) → IsNonDecreasingBy (λ (s : Interval). s.first) vs → IsNonDecreasingBy (λ (s : Span). s.first) (map span vs)
rises_spans vs r i j d h l =
    let e = long vs in
    let k : j < length vs = omega (arith, l, e) in
    let a = first_at vs i d (omega (arith, h, k)) in
    let b = first_at vs j d k in
    let q = r i j nothing h k in
    omega (arith, a, b, q)

-- ---- a tenant more

set_same : {A : Type 0} (xs : List A) (r : ℕ) (v d : A) → r < length xs → get_or (set xs r v) r d ≡ v
set_same [] r v d h = absurd (omega (arith, h))
set_same (x ∷ xs) zero v d h = refl
set_same (x ∷ xs) (suc r) v d h = set_same xs r v d (omega (arith, h))

set_other : {A : Type 0} (xs : List A) (r q : ℕ) (v d : A) → q ≢ r → get_or (set xs r v) q d ≡ get_or xs q d
set_other [] r q v d n = refl
set_other (x ∷ xs) zero zero v d n = absurd (n refl)
set_other (x ∷ xs) zero (suc q) v d n = refl
set_other (x ∷ xs) (suc r) zero v d n = refl
set_other (x ∷ xs) (suc r) (suc q) v d n = set_other xs r q v d (λ e. n (ap suc e))

pub get_set : {A : Type 0} (xs : List A) (r q : ℕ) (v d : A) → r < length xs → get_or (set xs r v) q d ≡ cond (eqb q r) v (get_or xs q d)
get_set {A} xs r q v d h = turn (eqb q r) refl
  where
    turn : (b : Bool) → eqb q r ≡ b → get_or (set xs r v) q d ≡ cond (eqb q r) v (get_or xs q d)
    turn true e = ap (λ z. get_or (set xs r v) z d) (eqb-true q r e) ∙ set_same xs r v d h ∙ sym (ap (λ b. cond b v (get_or xs q d)) e)
    turn false e = set_other xs r q v d (eqb-false q r e) ∙ sym (ap (λ b. cond b v (get_or xs q d)) e)

freed_cond : (b : Bool) (t u : Option Interval) → freed (cond b t u) ≡ cond b (freed t) (freed u)
freed_cond true t u = refl
freed_cond false t u = refl

pub freed_set : (ts : List (Option Interval)) (r : ℕ) (s : Interval) → r < length ts → freed_at (set ts r (Some s)) ≡ put (freed_at ts) r (suc s.last)
freed_set ts r s h = λ i q. (ap freed (get_set ts r q (Some s) None h) ∙ freed_cond (eqb q r) (Some s) (get_or ts q None)) i

pub got_set : (os : List (Option ℕ)) (x : ℕ) (o : Option ℕ) → x < length os → got (set os x o) ≡ written (got os) x o
got_set os x o h = λ i y. (get_set os x y o None h) i

-- the scan goes on
pub handed_turn : (ss : List Interval) (i : ℕ) (s : Interval) (g h : ℕ → Option ℕ) (f e : ℕ → ℕ) (o : ℕ → Bool) → i < length ss → s ≡ get_or ss i s → h ≡ cond (o s.temp) g (written g s.temp (free f s.first 9)) → e ≡ cond (o s.temp) f (taking f (span s) (free f s.first 9)) → give h e (kept o (map span (drop (suc i) ss))) ≡ give g f (kept o (map span (drop i ss)))
handed_turn ss i s g h f e o l at p q =
    let d : drop i ss ≡ s ∷ drop (suc i) ss = drop-cons ss i s l ∙ ap (λ z. z ∷ drop (suc i) ss) (sym at) in
    turn (o s.temp) refl p q ∙ ap (λ z. give g f (kept o (map span z))) (sym d)
  where
    turn : (b : Bool) → o s.temp ≡ b → h ≡ cond (o s.temp) g (written g s.temp (free f s.first 9)) → e ≡ cond (o s.temp) f (taking f (span s) (free f s.first 9)) → give h e (kept o (map span (drop (suc i) ss))) ≡ give g f (kept o (span s ∷ map span (drop (suc i) ss)))
    turn true b p q =
        let rest = kept o (map span (drop (suc i) ss)) in
        ap (λ z. give z e rest) (p ∙ ap (λ z. cond z g (written g s.temp (free f s.first 9))) b)
        ∙ ap (λ z. give g z rest) (q ∙ ap (λ z. cond z f (taking f (span s) (free f s.first 9))) b)
        ∙ ap (λ z. give g f (cond z rest (span s ∷ rest))) (sym b)
    turn false b p q =
        let rest = kept o (map span (drop (suc i) ss)) in
        ap (λ z. give z e rest) (p ∙ ap (λ z. cond z g (written g s.temp (free f s.first 9))) b)
        ∙ ap (λ z. give (written g s.temp (free f s.first 9)) z rest) (q ∙ ap (λ z. cond z f (taking f (span s) (free f s.first 9))) b)
        ∙ ap (λ z. give g f (cond z rest (span s ∷ rest))) (sym b)

nones : (r n : ℕ) → freed (get_or (replicate n None) r None) ≡ 0
nones r zero = refl
nones zero (suc n) = refl
nones (suc r) (suc n) = nones r n

pub none_freed : (n : ℕ) → freed_at (replicate n None) ≡ (λ r. 0)
none_freed n = λ i r. nones r n i

pub flag_read : (s : List Bool) (x : ℕ) (b : Bool) → x < length s → b ≡ get_or s x b → flag s x ≡ b
flag_read [] x b h e = absurd (omega (arith, h))
flag_read (c ∷ s) zero b h e = sym e
flag_read (c ∷ s) (suc x) b h e = flag_read s x b (omega (arith, h)) e

-- where the scan has a register for each, so it goes on
pub met_turn : (ss : List Interval) (i : ℕ) (d : Interval) (f : ℕ → ℕ) → i < length ss → AllG Has (scan f (map span (drop i ss))) → Has (record { span = span (get_or ss i d); reg = free f (get_or ss i d).first 9 }) × AllG Has (scan (taking f (span (get_or ss i d)) (free f (get_or ss i d).first 9)) (map span (drop (suc i) ss)))
met_turn ss i d f l h = subst (λ z. AllG Has (scan f (map span z))) (drop-cons ss i d l) h

pub got_begun : (s : List Bool) (x : ℕ) → x < length s → got (map first_got s) x ≡ first_got (flag s x)
got_begun [] x h = absurd (omega (arith, h))
got_begun (b ∷ s) zero h = refl
got_begun (b ∷ s) (suc x) h = got_begun s x (omega (arith, h))
