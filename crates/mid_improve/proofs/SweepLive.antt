-- What is live where the sweep has been was live before it.
use Rattle.std.proofs.Common.{◌≡◌, ℕ, zero, suc, Bool, true, false, not, ◌||◌, cond, eqb, nat_lt, List, ◌∷◌, Option, Some, None, refl, sym, ap, ◌∙◌}
use Rattle.std.proofs.lemmas.Bool.{false≢true, true≢false, eqb-true}
use Rattle.mid_code.specs.Code.{target, maybe, NodesT, Stop, Do, Call, Choose, Block, Loop, Leave, Again, Return}
use Rattle.mid_code.specs.Live.{Label, label, ends_of, begins_of, live_before, is_among, is_used, is_target, is_live}
use Rattle.mid_code.proofs.Liveness.{before_through, one_turn}
use Rattle.mid_live.proofs.Turned.{or_more, before_more, grows_same, grows_in, live_more}
use Rattle.mid_improve.specs.Settled.{only_puts}
use Rattle.mid_improve.specs.inner.Wanted.{Labels, Set, live_set, in_block, in_loop, maybe_wanted}
use Rattle.mid_improve.specs.inner.Sweep.{left}

-- ---- what is taken out

abbrev some_or : ℕ → Option ℕ → ℕ
some_or d None = d
some_or d (Some q) = q

pub unwanted : (n : ℕ) (only : Bool) (t : Option ℕ) (s : Set) → maybe_wanted n only t s ≡ false → (only ≡ true) × ((q : ℕ) → t ≡ Some q → s q ≡ false)
unwanted n only None s e = absurd (true≢false e)
unwanted n false (Some t) s e = absurd (true≢false e)
unwanted n true (Some t) s e = (refl, λ q f. ap s (sym (ap (some_or 0) f)) ∙ go (not (nat_lt t n)) e)
  where
    go : (b : Bool) → (b || s t) ≡ false → s t ≡ false
    go true h = absurd (true≢false h)
    go false h = h

other_target : (t : Option ℕ) (s : Set) (y : ℕ) → ((q : ℕ) → t ≡ Some q → s q ≡ false) → s y ≡ true → is_among (maybe t) y ≡ false
other_target None s y h e = refl
other_target (Some t) s y h e = go (eqb t y) refl
  where
    go : (b : Bool) → eqb t y ≡ b → (b || false) ≡ false
    go true f = absurd (true≢false (sym e ∙ ap s (sym (eqb-true t y f)) ∙ h t refl))
    go false f = refl

-- ---- what is live before what is left

pub left_live : (n : ℕ) (ls : Labels) (c : NodesT ℕ) (s : Set) (y : ℕ) → left n ls c s y ≡ true → is_live y (ls y) c (s y) ≡ true
left_live n ls Stop s y e = e
left_live n ls (Do o c) s y e = go (maybe_wanted n (only_puts o) (target o) (left n ls c s)) refl e (left_live n ls c s y)
  where
    go : (b : Bool) → maybe_wanted n (only_puts o) (target o) (left n ls c s) ≡ b → cond b (live_before (is_used (Do o c) y) (is_target (Do o c) y) (left n ls c s y)) (left n ls c s y) ≡ true
        → (left n ls c s y ≡ true → is_live y (ls y) c (s y) ≡ true) → live_before (is_used (Do o c) y) (is_target (Do o c) y) (is_live y (ls y) c (s y)) ≡ true
    go true w h r = before_more (is_used (Do o c) y) (is_target (Do o c) y) (left n ls c s y) (is_live y (ls y) c (s y)) r h
    go false w h r = before_through (is_used (Do o c) y) (is_target (Do o c) y) (is_live y (ls y) c (s y)) (other_target (target o) (left n ls c s) y (unwanted n (only_puts o) (target o) (left n ls c s) w).1 h) (r h)
left_live n ls (Call t f args c) s y e = before_more (is_used (Call t f args c) y) (is_target (Call t f args c) y) (left n ls c s y) (is_live y (ls y) c (s y)) (left_live n ls c s y) e
left_live n ls (Choose p a b c) s y e =
    let k = left n ls c s in
    let l = is_live y (ls y) c (s y) in
    let m = left_live n ls c s y in
    before_more (is_used (Choose p a b c) y) false (left n ls a k y || left n ls b k y) (is_live y (ls y) a l || is_live y (ls y) b l)
    (or_more (left n ls a k y) (left n ls b k y) (is_live y (ls y) a l) (is_live y (ls y) b l) (λ h. live_more y (ls y) (ls y) a (k y) l (grows_same (ls y)) m (left_live n ls a k y h)) (λ h. live_more y (ls y) (ls y) b (k y) l (grows_same (ls y)) m (left_live n ls b k y h))) e
left_live n ls (Block b c) s y e =
    let k = left n ls c s in
    let l = is_live y (ls y) c (s y) in
    let m = left_live n ls c s y in
    live_more y (label false (k y) ∷ ls y) (label false l ∷ ls y) b (k y) l (grows_in (ls y) (ls y) false false (k y) l (grows_same (ls y)) (λ h. h) m) m (left_live n (in_block k ls) b k y e)
left_live n ls (Loop b c) s y e =
    let k = left n ls c s in
    let l = is_live y (ls y) c (s y) in
    let m = left_live n ls c s y in
    let turn = left_live n (in_loop (live_set (in_block k ls) b k) k ls) b k y e in
    live_more y (label false (k y) ∷ ls y) (label false l ∷ ls y) b (k y) l (grows_in (ls y) (ls y) false false (k y) l (grows_same (ls y)) (λ h. h) m) m (one_turn (λ h. is_live y (label h (k y) ∷ ls y) b (k y)) turn)
left_live n ls (Leave k c) s y e = e
left_live n ls (Again k c) s y e = e
left_live n ls (Return p c) s y e = e

-- at the head of a loop what is left asks no more than what was live there
pub head_covers : (n : ℕ) (ls : Labels) (b : NodesT ℕ) (k : Set) (y : ℕ) → left n (in_loop (live_set (in_block k ls) b k) k ls) b k y ≡ true → live_set (in_block k ls) b k y ≡ true
head_covers n ls b k y e = one_turn (λ h. is_live y (label h (k y) ∷ ls y) b (k y)) (left_live n (in_loop (live_set (in_block k ls) b k) k ls) b k y e)
