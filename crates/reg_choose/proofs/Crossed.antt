-- What is live across a call has a trail that says so.
use Rattle.std.proofs.Common.{◌≡◌, ◌≢◌, ℕ, suc, ◌+◌, Bool, true, false, ◌||◌, ◌&&◌, not, eqb, List, ◌∷◌, Option, Some, None, refl, ap, ◌∙◌}
use Rattle.std.proofs.lemmas.Bool.{false≢true, eqb-true, eq-eqb}
use Rattle.mid_code.specs.declared.placed.Where.{Where}
use Rattle.mid_code.specs.Code.{NodesT, Stop, Do, Call, Choose, Block, Loop, Leave, Again, Return, maybe}
use Rattle.mid_code.specs.Paths.{Frame, Branched, Blocked, Looped, Each}
use Rattle.mid_code.specs.Live.{is_among, is_target, labels, live_behind, is_live_at}
use Rattle.mid_code.specs.Spans.{places, NoneCrosses}
use Rattle.mid_code.specs.Safe.{place_of, IsSlot}
use Rattle.mid_code.proofs.Intervals.{Across}
use Rattle.mid_code.proofs.Liveness.{path_computed, computed_path}
use Rattle.reg_choose.specs.declared.trail.Trail.{Trail}
use Rattle.reg_choose.specs.inner.Trails.{stood, crossing, trailed}

pub stood_keeps : (b : Bool) (n : ℕ) (r : Trail) → r.crosses ≡ true → (stood b n r).crosses ≡ true
stood_keeps true n r e = e
stood_keeps false n r e = e

or_right : (a b : Bool) → b ≡ true → (a || b) ≡ true
or_right true b e = refl
or_right false b e = e

or_left : (a b : Bool) → a ≡ true → (a || b) ≡ true
or_left true b e = refl
or_left false b e = absurd (false≢true e)

both : (a b : Bool) → a ≡ true → b ≡ true → (a && b) ≡ true
both true b e f = f
both false b e f = absurd (false≢true e)

module _ (x : ℕ) where
  twice : (fs : List (Frame ℕ)) (c : NodesT ℕ) (n : ℕ) (r : Trail) → r.crosses ≡ true → (stood (is_target c x) n (stood (is_live_at x fs c) n r)).crosses ≡ true
  twice fs c n r e = stood_keeps (is_target c x) n (stood (is_live_at x fs c) n r) (stood_keeps (is_live_at x fs c) n r e)

  once : (fs : List (Frame ℕ)) (c : NodesT ℕ) (n : ℕ) (r : Trail) → r.crosses ≡ true → (stood (is_live_at x fs c) n r).crosses ≡ true
  once fs c n r e = stood_keeps (is_live_at x fs c) n r e

-- what crosses in r crosses in what nodes make of it
pub still_crosses : (x : ℕ) (fs : List (Frame ℕ)) (c : NodesT ℕ) (n : ℕ) (r : Trail) → r.crosses ≡ true → (trailed x (labels x fs) c (live_behind x fs) n r).crosses ≡ true
still_crosses x fs Stop n r e = e
still_crosses x fs (Do o c) n r e = twice x fs (Do o c) n (trailed x (labels x (fs)) c (live_behind x (fs)) (suc n) r) (still_crosses x fs c (suc n) r e)
still_crosses x fs (Call t f args c) n r e = twice x fs (Call t f args c) n (crossing (is_live_at x fs c && not (is_among (maybe t) x)) (trailed x (labels x (fs)) c (live_behind x (fs)) (suc n) r)) (or_right (is_live_at x fs c && not (is_among (maybe t) x)) (trailed x (labels x (fs)) c (live_behind x (fs)) (suc n) r).crosses (still_crosses x fs c (suc n) r e))
still_crosses x fs (Choose q a b c) n r e = once x fs (Choose q a b c) n (trailed x (labels x (Branched c ∷ fs)) a (live_behind x (Branched c ∷ fs)) (suc n) (trailed x (labels x (Branched c ∷ fs)) b (live_behind x (Branched c ∷ fs)) (suc (places a + n)) (trailed x (labels x (fs)) c (live_behind x (fs)) (suc (places a + (places b + n))) r))) (still_crosses x (Branched c ∷ fs) a (suc n) (trailed x (labels x (Branched c ∷ fs)) b (live_behind x (Branched c ∷ fs)) (suc (places a + n)) (trailed x (labels x (fs)) c (live_behind x (fs)) (suc (places a + (places b + n))) r)) (still_crosses x (Branched c ∷ fs) b (suc (places a + n)) (trailed x (labels x (fs)) c (live_behind x (fs)) (suc (places a + (places b + n))) r) (still_crosses x fs c (suc (places a + (places b + n))) r e)))
still_crosses x fs (Block b c) n r e = once x fs (Block b c) n (trailed x (labels x (Blocked c ∷ fs)) b (live_behind x (Blocked c ∷ fs)) (suc n) (trailed x (labels x (fs)) c (live_behind x (fs)) (suc (places b + n)) r)) (still_crosses x (Blocked c ∷ fs) b (suc n) (trailed x (labels x (fs)) c (live_behind x (fs)) (suc (places b + n)) r) (still_crosses x fs c (suc (places b + n)) r e))
still_crosses x fs (Loop b c) n r e = once x fs (Loop b c) n (trailed x (labels x (Looped b c ∷ fs)) b (live_behind x (Looped b c ∷ fs)) (suc n) (trailed x (labels x (fs)) c (live_behind x (fs)) (suc (places b + n)) r)) (still_crosses x (Looped b c ∷ fs) b (suc n) (trailed x (labels x (fs)) c (live_behind x (fs)) (suc (places b + n)) r) (still_crosses x fs c (suc (places b + n)) r e))
still_crosses x fs (Leave k c) n r e = once x fs (Leave k c) n (trailed x (labels x (fs)) c (live_behind x (fs)) (suc n) r) (still_crosses x fs c (suc n) r e)
still_crosses x fs (Again k c) n r e = once x fs (Again k c) n (trailed x (labels x (fs)) c (live_behind x (fs)) (suc n) r) (still_crosses x fs c (suc n) r e)
still_crosses x fs (Return p c) n r e = once x fs (Return p c) n (trailed x (labels x (fs)) c (live_behind x (fs)) (suc n) r) (still_crosses x fs c (suc n) r e)

no_target : (t : Option ℕ) (y : ℕ) → t ≢ Some y → not (is_among (maybe t) y) ≡ true
no_target None y h = refl
no_target (Some z) y h = go (eqb z y) refl
  where
    go : (b : Bool) → eqb z y ≡ b → not (b || false) ≡ true
    go true e = absurd (h (ap Some (eqb-true z y e)))
    go false e = refl

-- where what crosses has a slot, what is live across each call has one
pub crossed_across : (ws : List Where) (fs : List (Frame ℕ)) (c : NodesT ℕ) (n : ℕ) (s : ℕ → Trail) → ((x : ℕ) → (trailed x (labels x fs) c (live_behind x fs) n (s x)).crosses ≡ true → IsSlot (place_of ws x)) → Each (Across ws) fs c
crossed_across ws fs Stop n s h = tt
crossed_across ws fs (Do o c) n s h = (tt, crossed_across ws fs c (suc n) s (λ x e. h x (twice x fs (Do o c) n (trailed x (labels x (fs)) c (live_behind x (fs)) (suc n) (s x)) e)))
crossed_across ws fs (Call t f args c) n s h = (λ x l d. h x (twice x fs (Call t f args c) n (crossing (is_live_at x fs c && not (is_among (maybe t) x)) (trailed x (labels x (fs)) c (live_behind x (fs)) (suc n) (s x))) (or_left (is_live_at x fs c && not (is_among (maybe t) x)) (trailed x (labels x (fs)) c (live_behind x (fs)) (suc n) (s x)).crosses (both (is_live_at x fs c) (not (is_among (maybe t) x)) (path_computed x fs c l) (no_target t x d)))), crossed_across ws fs c (suc n) s (λ x e. h x (twice x fs (Call t f args c) n (crossing (is_live_at x fs c && not (is_among (maybe t) x)) (trailed x (labels x (fs)) c (live_behind x (fs)) (suc n) (s x))) (or_right (is_live_at x fs c && not (is_among (maybe t) x)) (trailed x (labels x (fs)) c (live_behind x (fs)) (suc n) (s x)).crosses e))))
crossed_across ws fs (Choose q a b c) n s h = (tt, crossed_across ws (Branched c ∷ fs) a (suc n) (λ x. (trailed x (labels x (Branched c ∷ fs)) b (live_behind x (Branched c ∷ fs)) (suc (places a + n)) (trailed x (labels x (fs)) c (live_behind x (fs)) (suc (places a + (places b + n))) (s x)))) (λ x e. h x (once x fs (Choose q a b c) n (trailed x (labels x (Branched c ∷ fs)) a (live_behind x (Branched c ∷ fs)) (suc n) (trailed x (labels x (Branched c ∷ fs)) b (live_behind x (Branched c ∷ fs)) (suc (places a + n)) (trailed x (labels x (fs)) c (live_behind x (fs)) (suc (places a + (places b + n))) (s x)))) e)), crossed_across ws (Branched c ∷ fs) b (suc (places a + n)) (λ x. (trailed x (labels x (fs)) c (live_behind x (fs)) (suc (places a + (places b + n))) (s x))) (λ x e. h x (once x fs (Choose q a b c) n (trailed x (labels x (Branched c ∷ fs)) a (live_behind x (Branched c ∷ fs)) (suc n) (trailed x (labels x (Branched c ∷ fs)) b (live_behind x (Branched c ∷ fs)) (suc (places a + n)) (trailed x (labels x (fs)) c (live_behind x (fs)) (suc (places a + (places b + n))) (s x)))) (still_crosses x (Branched c ∷ fs) a (suc n) (trailed x (labels x (Branched c ∷ fs)) b (live_behind x (Branched c ∷ fs)) (suc (places a + n)) (trailed x (labels x (fs)) c (live_behind x (fs)) (suc (places a + (places b + n))) (s x))) e))), crossed_across ws fs c (suc (places a + (places b + n))) s (λ x e. h x (once x fs (Choose q a b c) n (trailed x (labels x (Branched c ∷ fs)) a (live_behind x (Branched c ∷ fs)) (suc n) (trailed x (labels x (Branched c ∷ fs)) b (live_behind x (Branched c ∷ fs)) (suc (places a + n)) (trailed x (labels x (fs)) c (live_behind x (fs)) (suc (places a + (places b + n))) (s x)))) (still_crosses x (Branched c ∷ fs) a (suc n) (trailed x (labels x (Branched c ∷ fs)) b (live_behind x (Branched c ∷ fs)) (suc (places a + n)) (trailed x (labels x (fs)) c (live_behind x (fs)) (suc (places a + (places b + n))) (s x))) (still_crosses x (Branched c ∷ fs) b (suc (places a + n)) (trailed x (labels x (fs)) c (live_behind x (fs)) (suc (places a + (places b + n))) (s x)) e)))))
crossed_across ws fs (Block b c) n s h = (tt, crossed_across ws (Blocked c ∷ fs) b (suc n) (λ x. (trailed x (labels x (fs)) c (live_behind x (fs)) (suc (places b + n)) (s x))) (λ x e. h x (once x fs (Block b c) n (trailed x (labels x (Blocked c ∷ fs)) b (live_behind x (Blocked c ∷ fs)) (suc n) (trailed x (labels x (fs)) c (live_behind x (fs)) (suc (places b + n)) (s x))) e)), crossed_across ws fs c (suc (places b + n)) s (λ x e. h x (once x fs (Block b c) n (trailed x (labels x (Blocked c ∷ fs)) b (live_behind x (Blocked c ∷ fs)) (suc n) (trailed x (labels x (fs)) c (live_behind x (fs)) (suc (places b + n)) (s x))) (still_crosses x (Blocked c ∷ fs) b (suc n) (trailed x (labels x (fs)) c (live_behind x (fs)) (suc (places b + n)) (s x)) e))))
crossed_across ws fs (Loop b c) n s h = (tt, crossed_across ws (Looped b c ∷ fs) b (suc n) (λ x. (trailed x (labels x (fs)) c (live_behind x (fs)) (suc (places b + n)) (s x))) (λ x e. h x (once x fs (Loop b c) n (trailed x (labels x (Looped b c ∷ fs)) b (live_behind x (Looped b c ∷ fs)) (suc n) (trailed x (labels x (fs)) c (live_behind x (fs)) (suc (places b + n)) (s x))) e)), crossed_across ws fs c (suc (places b + n)) s (λ x e. h x (once x fs (Loop b c) n (trailed x (labels x (Looped b c ∷ fs)) b (live_behind x (Looped b c ∷ fs)) (suc n) (trailed x (labels x (fs)) c (live_behind x (fs)) (suc (places b + n)) (s x))) (still_crosses x (Looped b c ∷ fs) b (suc n) (trailed x (labels x (fs)) c (live_behind x (fs)) (suc (places b + n)) (s x)) e))))
crossed_across ws fs (Leave k c) n s h = (tt, crossed_across ws fs c (suc n) s (λ x e. h x (once x fs (Leave k c) n (trailed x (labels x (fs)) c (live_behind x (fs)) (suc n) (s x)) e)))
crossed_across ws fs (Again k c) n s h = (tt, crossed_across ws fs c (suc n) s (λ x e. h x (once x fs (Again k c) n (trailed x (labels x (fs)) c (live_behind x (fs)) (suc n) (s x)) e)))
crossed_across ws fs (Return p c) n s h = (tt, crossed_across ws fs c (suc n) s (λ x e. h x (once x fs (Return p c) n (trailed x (labels x (fs)) c (live_behind x (fs)) (suc n) (s x)) e)))

-- ---- where nothing is live across a call

pub none_stood : (b : Bool) (n : ℕ) (r : Trail) → r.crosses ≡ false → (stood b n r).crosses ≡ false
none_stood true n r e = e
none_stood false n r e = e

or_neither : (a b : Bool) → a ≡ false → b ≡ false → (a || b) ≡ false
or_neither true b e f = e
or_neither false b e f = f

some_target : (t : Option ℕ) (y : ℕ) → t ≡ Some y → not (is_among (maybe t) y) ≡ false
some_target t y e = ap (λ z. not (is_among (maybe z) y)) e ∙ ap (λ b. not (b || false)) (eq-eqb y y refl)

not_across : (b : Bool) (t : Option ℕ) (x : ℕ) → (b ≡ true → t ≡ Some x) → (b && not (is_among (maybe t) x)) ≡ false
not_across true t x f = some_target t x (f refl)
not_across false t x f = refl

pub none_crosses : (x : ℕ) (fs : List (Frame ℕ)) (c : NodesT ℕ) (n : ℕ) (r : Trail) → Each NoneCrosses fs c → r.crosses ≡ false → (trailed x (labels x fs) c (live_behind x fs) n r).crosses ≡ false
none_crosses x fs Stop n r h e = e
none_crosses x fs (Do o c) n r h e = none_stood (is_target (Do o c) x) n (stood (is_live_at x fs (Do o c)) n (trailed x (labels x (fs)) c (live_behind x (fs)) (suc n) r)) (none_stood (is_live_at x fs (Do o c)) n (trailed x (labels x (fs)) c (live_behind x (fs)) (suc n) r) (none_crosses x fs c (suc n) r h.1 e))
none_crosses x fs (Call t f args c) n r h e = none_stood (is_target (Call t f args c) x) n (stood (is_live_at x fs (Call t f args c)) n (crossing (is_live_at x fs c && not (is_among (maybe t) x)) (trailed x (labels x (fs)) c (live_behind x (fs)) (suc n) r))) (none_stood (is_live_at x fs (Call t f args c)) n (crossing (is_live_at x fs c && not (is_among (maybe t) x)) (trailed x (labels x (fs)) c (live_behind x (fs)) (suc n) r)) (or_neither (is_live_at x fs c && not (is_among (maybe t) x)) (trailed x (labels x (fs)) c (live_behind x (fs)) (suc n) r).crosses (not_across (is_live_at x fs c) t x (λ d. h.0 x (computed_path x fs c d))) (none_crosses x fs c (suc n) r h.1 e)))
none_crosses x fs (Choose q a b c) n r h e = none_stood (is_live_at x fs (Choose q a b c)) n (trailed x (labels x (Branched c ∷ fs)) a (live_behind x (Branched c ∷ fs)) (suc n) (trailed x (labels x (Branched c ∷ fs)) b (live_behind x (Branched c ∷ fs)) (suc (places a + n)) (trailed x (labels x (fs)) c (live_behind x (fs)) (suc (places a + (places b + n))) r))) (none_crosses x (Branched c ∷ fs) a (suc n) (trailed x (labels x (Branched c ∷ fs)) b (live_behind x (Branched c ∷ fs)) (suc (places a + n)) (trailed x (labels x (fs)) c (live_behind x (fs)) (suc (places a + (places b + n))) r)) h.1 (none_crosses x (Branched c ∷ fs) b (suc (places a + n)) (trailed x (labels x (fs)) c (live_behind x (fs)) (suc (places a + (places b + n))) r) h.2 (none_crosses x fs c (suc (places a + (places b + n))) r h.3 e)))
none_crosses x fs (Block b c) n r h e = none_stood (is_live_at x fs (Block b c)) n (trailed x (labels x (Blocked c ∷ fs)) b (live_behind x (Blocked c ∷ fs)) (suc n) (trailed x (labels x (fs)) c (live_behind x (fs)) (suc (places b + n)) r)) (none_crosses x (Blocked c ∷ fs) b (suc n) (trailed x (labels x (fs)) c (live_behind x (fs)) (suc (places b + n)) r) h.1 (none_crosses x fs c (suc (places b + n)) r h.2 e))
none_crosses x fs (Loop b c) n r h e = none_stood (is_live_at x fs (Loop b c)) n (trailed x (labels x (Looped b c ∷ fs)) b (live_behind x (Looped b c ∷ fs)) (suc n) (trailed x (labels x (fs)) c (live_behind x (fs)) (suc (places b + n)) r)) (none_crosses x (Looped b c ∷ fs) b (suc n) (trailed x (labels x (fs)) c (live_behind x (fs)) (suc (places b + n)) r) h.1 (none_crosses x fs c (suc (places b + n)) r h.2 e))
none_crosses x fs (Leave k c) n r h e = none_stood (is_live_at x fs (Leave k c)) n (trailed x (labels x (fs)) c (live_behind x (fs)) (suc n) r) (none_crosses x fs c (suc n) r h.1 e)
none_crosses x fs (Again k c) n r h e = none_stood (is_live_at x fs (Again k c)) n (trailed x (labels x (fs)) c (live_behind x (fs)) (suc n) r) (none_crosses x fs c (suc n) r h.1 e)
none_crosses x fs (Return p c) n r h e = none_stood (is_live_at x fs (Return p c)) n (trailed x (labels x (fs)) c (live_behind x (fs)) (suc n) r) (none_crosses x fs c (suc n) r h.1 e)
