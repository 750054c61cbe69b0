-- Code is like what the sweep leaves of it.
use Rattle.std.proofs.Common.{◌≡◌, ℕ, zero, suc, ◌<◌, Bool, true, false, ◌||◌, cond, eqb, List, [], ◌∷◌, length, Option, Some, None, refl, sym, ap, ◌∙◌, arith}
use Rattle.std.proofs.lemmas.Bool.{true≢false, eqb-true, eq-eqb}
use Rattle.mid_code.specs.Code.{target, maybe, uses, NodesT, Stop, Do, Call, Choose, Block, Loop, Leave, Again, Return, CodeT}
use Rattle.mid_code.specs.Invariants.{IsLoop, AreNodes, AllOf}
use Rattle.mid_code.specs.Live.{label, ends_of, begins_of, live_before, is_among, is_used, is_target}
use Rattle.mid_code.specs.States.{temporaries, over_worlds}
use Rattle.mid_code.specs.inner.Passing.{Pass, Points, end_at, begin_at, Like}
use Rattle.mid_code.proofs.Liveness.{before_used, before_through}
use Rattle.mid_improve.specs.Settled.{only_puts}
use Rattle.mid_improve.specs.inner.Wanted.{Labels, Set, live_set, in_block, in_loop, maybe_wanted}
use Rattle.mid_improve.specs.inner.Sweep.{left, swept}
use Rattle.mid_live.proofs.Turned.{left_of, right_of}
use Rattle.mid_improve.proofs.SweepLive.{unwanted, head_covers}
use Rattle.mid_improve.proofs.SweepPass.{hits, Through, Uses, stays, goes, sweeping}

pub all_among : (us : List ℕ) (Q : ℕ → Type 0) → ((q : ℕ) → is_among us q ≡ true → Q q) → AllOf Q us
all_among [] Q h = tt
all_among (u ∷ us) Q h = (h u (left_of (eqb u u) (is_among us u) (eq-eqb u u refl)), all_among us Q (λ q e. h q (right_of (eqb u q) (is_among us q) e)))

eqb_off : (a b : ℕ) → eqb a b ≡ false → eqb b a ≡ false
eqb_off a b e = go (eqb b a) refl
  where
    go : (x : Bool) → eqb b a ≡ x → eqb b a ≡ false
    go true f = absurd (true≢false (sym (eq-eqb a b (sym (eqb-true b a f))) ∙ e))
    go false f = f

not_hit : (t : Option ℕ) (r : ℕ) → hits t r ≡ false → is_among (maybe t) r ≡ false
not_hit None r h = refl
not_hit (Some t) r h = ap (λ x. x || false) (eqb_off r t h)

-- what a node uses and what its target is, of a node with this live behind it
before_uses : (us : List ℕ) (t : Set) (k : Set) → Uses (λ y. live_before (is_among us y) (t y) (k y)) us
before_uses us t k = all_among us (λ q. live_before (is_among us q) (t q) (k q) ≡ true) (λ q e. before_used (is_among us q) (t q) (k q) e)

before_target : (us : List ℕ) (t : Option ℕ) (k : Set) → Through (λ y. live_before (is_among us y) (is_among (maybe t) y) (k y)) t k
before_target us t k = λ r h e. before_through (is_among us r) (is_among (maybe t) r) (k r) (not_hit t r h) e

-- ---- the points of what encloses nodes

record Fits (bs : List Bool) (ls : Labels) (ps : List (Points Set)) : Type 0 where
  ends : (k : ℕ) → k < length bs → (e : Set) × end_at ps k e × ((r : ℕ) → e r ≡ true → ends_of (ls r) k ≡ true)
  begins : (k : ℕ) → IsLoop bs k → (e : Set) × begin_at ps k e × ((r : ℕ) → e r ≡ true → begins_of (ls r) k ≡ true)

fits_none : (ls : Labels) → Fits [] ls []
fits_none ls = record { ends = λ k l. absurd (omega (arith, l)); begins = λ k l. absurd l }

fits_in : (bs : List Bool) (ls : Labels) (ps : List (Points Set)) (b : Bool) (h g k : Set) → (b ≡ true → (r : ℕ) → h r ≡ true → g r ≡ true) → Fits bs ls ps
    → Fits (b ∷ bs) (λ y. label (g y) (k y) ∷ ls y) (record { begins = h; ends = k } ∷ ps)
fits_in bs ls ps b h g k covers F = record { ends = ends; begins = begins }
  where
    ends : (j : ℕ) → j < length (b ∷ bs) → (e : Set) × end_at (record { begins = h; ends = k } ∷ ps) j e × ((r : ℕ) → e r ≡ true → ends_of (label (g r) (k r) ∷ ls r) j ≡ true)
    ends zero l = (k, refl, λ r e. e)
    ends (suc j) l = F.ends j (omega (arith, l))

    begins : (j : ℕ) → IsLoop (b ∷ bs) j → (e : Set) × begin_at (record { begins = h; ends = k } ∷ ps) j e × ((r : ℕ) → e r ≡ true → begins_of (label (g r) (k r) ∷ ls r) j ≡ true)
    begins zero l = (h, refl, covers l)
    begins (suc j) l = F.begins j l

module _ (x y : CodeT ℕ) (frames : List ℕ) (m n : ℕ) (f : Option ℕ) where
  abbrev PP : Pass (over_worlds temporaries x frames) (over_worlds temporaries y frames)
  PP = sweeping x y frames

  like_in : (bs : List Bool) (ls : Labels) (ps : List (Points Set)) (c : NodesT ℕ) (s : Set) → Fits bs ls ps → AreNodes x m bs c → Like PP f ps (left n ls c s) c (swept n ls c s) s
  like_in bs ls ps Stop s F a = (refl, refl)
  like_in bs ls ps (Do o c) s F a = go (maybe_wanted n (only_puts o) (target o) k) refl (like_in bs ls ps c s F a.1)
    where
      k : Set
      k = left n ls c s

      go : (b : Bool) → maybe_wanted n (only_puts o) (target o) (left n ls c s) ≡ b → Like PP f ps (left n ls c s) c (swept n ls c s) s
          → Like PP f ps (λ r. cond b (live_before (is_used (Do o c) r) (is_target (Do o c) r) (left n ls c s r)) (left n ls c s r)) (Do o c) (cond b (Do o (swept n ls c s)) (swept n ls c s)) s
      go true w l = (o ∷ [], swept n ls c s, left n ls c s, refl, stays refl (before_uses (uses o) (λ r. is_among (maybe (target o)) r) (left n ls c s)) (before_target (uses o) (target o) (left n ls c s)), l)
      go false w l = let u = unwanted n (only_puts o) (target o) (left n ls c s) w in ([], swept n ls c s, left n ls c s, refl, goes refl u.0 (λ r e. e) u.1, l)
  like_in bs ls ps (Call t g args c) s F a =
      let k = left n ls c s in
      (t, args, swept n ls c s, k, refl, refl, (refl, refl, before_uses args (λ r. is_among (maybe t) r) k, before_target args t k), like_in bs ls ps c s F a.1)
  like_in bs ls ps (Choose p d e c) s F a =
      let k = left n ls c s in
      let i = left n ls d k in
      let j = left n ls e k in
      (p, swept n ls d k, swept n ls e k, swept n ls c s, k, refl, (refl, before_used (is_among (p ∷ []) p) false (i p || j p) (left_of (eqb p p) false (eq-eqb p p refl))), i, j, (λ r h. before_through (is_among (p ∷ []) r) false (i r || j r) refl (left_of (i r) (j r) h)), (λ r h. before_through (is_among (p ∷ []) r) false (i r || j r) refl (right_of (i r) (j r) h)), like_in bs ls ps d k F a.0, like_in bs ls ps e k F a.1, like_in bs ls ps c s F a.2)
  like_in bs ls ps (Block b c) s F a =
      let k = left n ls c s in
      let i = left n (in_block k ls) b k in
      (swept n (in_block k ls) b k, swept n ls c s, i, k, refl, like_in (false ∷ bs) (in_block k ls) (record { begins = i; ends = k } ∷ ps) b k (fits_in bs ls ps false i (λ r. false) k (λ h. absurd (true≢false (sym h))) F) a.0, like_in bs ls ps c s F a.1)
  like_in bs ls ps (Loop b c) s F a =
      let k = left n ls c s in
      let g = live_set (in_block k ls) b k in
      let i = left n (in_loop g k ls) b k in
      (swept n (in_loop g k ls) b k, swept n ls c s, i, k, refl, (λ r h. h), like_in (true ∷ bs) (in_loop g k ls) (record { begins = i; ends = k } ∷ ps) b k (fits_in bs ls ps true i g k (λ h r e. head_covers n ls b k r e) F) a.0, like_in bs ls ps c s F a.1)
  like_in bs ls ps (Leave j c) s F a = let h = F.ends j a.0 in (swept n ls c s, h.0, refl, h.1, h.2)
  like_in bs ls ps (Again j c) s F a = let h = F.begins j a.0 in (swept n ls c s, h.0, refl, h.1, h.2)
  like_in bs ls ps (Return p c) s F a = (p, swept n ls c s, refl, (refl, all_among (maybe p) (λ q. is_among (maybe p) q ≡ true) (λ q e. e)))

  pub like : (ls : Labels) (c : NodesT ℕ) (s : Set) → AreNodes x m [] c → Like PP f [] (left n ls c s) c (swept n ls c s) s
  like ls c s a = like_in [] ls [] c s (fits_none ls) a
