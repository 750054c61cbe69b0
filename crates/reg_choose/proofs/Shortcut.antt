-- Trails found with less are trails, but for the first place.
use Rattle.std.proofs.Common.{◌≡◌, ℕ, zero, suc, ◌+◌, ◌≤◌, ◌⊎◌, inl, inr, Bool, true, false, ◌||◌, ◌&&◌, not, List, [], ◌∷◌, refl, ap, sym, ◌∙◌, arith}
use Rattle.std.proofs.lemmas.Bool.{false≢true, true≢false}
use Rattle.mid_code.specs.Code.{NodesT, Stop, Do, Call, Choose, Block, Loop, Leave, Again, Return, FunctionT, maybe}
use Rattle.mid_code.specs.Paths.{Frame, Branched, Blocked, Looped, at}
use Rattle.mid_code.specs.Live.{ends_of, live_before, is_among, is_used, is_target, Reaches, Live, is_live, labels, live_behind, is_live_at}
use Rattle.mid_code.specs.Spans.{places}
use Rattle.mid_code.proofs.Liveness.{before_cases, computed_path, path_computed, found_turn}
use Rattle.reg_choose.specs.declared.trail.Trail.{Trail}
use Rattle.reg_choose.specs.inner.Trails.{no_trail, longer, stood, crossing, trailed, trail_of}
use Rattle.reg_choose.specs.inner.Sparse.{follows, ceases, sparse}
use Rattle.reg_choose.proofs.Ranges.{Reach, twice, again, over, crossing_stood, stood_reach, reach_here, reach_less}
use Rattle.reg_choose.proofs.Sparsely.{trailed_stood, sparse_reach}

or_of : (a b : Bool) → (a || b) ≡ true → (a ≡ true) ⊎ (b ≡ true)
or_of true b e = inl refl
or_of false b e = inr e

neither : (a b : Bool) → (a || b) ≡ false → (a ≡ false) × (b ≡ false)
neither true b e = absurd (true≢false e)
neither false b e = (refl, e)

and_left : (a b : Bool) → (a && b) ≡ true → a ≡ true
and_left true b e = refl
and_left false b e = absurd (false≢true e)

or_false : (w : Bool) → (w || false) ≡ w
or_false true = refl
or_false false = refl

-- ---- what is live at the first place reaches it

inside : (x : ℕ) (fs : List (Frame ℕ)) (b c : NodesT ℕ) → Live x fs (Loop b c) → Live x (Looped b c ∷ fs) b
inside x fs b c l = go l.0 l.1
  where
    go : (n : ℕ) → Reaches x n (at fs (Loop b c)) → Live x (Looped b c ∷ fs) b
    go zero r = absurd (false≢true r)
    go (suc n) r = elim r.1 [ inl s ↦ (n, s) | inr s ↦ absurd s ]

loop_inside : (x : ℕ) (fs : List (Frame ℕ)) (b c : NodesT ℕ) → is_live_at x fs (Loop b c) ≡ true → is_live_at x (Looped b c ∷ fs) b ≡ true
loop_inside x fs b c e = path_computed x (Looped b c ∷ fs) b (inside x fs b c (computed_path x fs (Loop b c) e))

module _ (x : ℕ) where
  -- what is live behind, and where what encloses ends, reaches the place behind
  abbrev pub Ready : List (Frame ℕ) → ℕ → Trail → Type 0
  Ready fs e r = (live_behind x fs ≡ true → Reach r e) × ((k : ℕ) → ends_of (labels x fs) k ≡ true → Reach r e)

  abbrev less_of : List (Frame ℕ) → NodesT ℕ → ℕ → Trail → Trail
  less_of fs c n r = sparse x (labels x fs) c (live_behind x fs) false n r

  ready_less : (fs : List (Frame ℕ)) (e d : ℕ) (r : Trail) → d ≤ e → Ready fs e r → Ready fs d r
  ready_less fs e d r l h = ((λ b. reach_less r d e (h.0 b) l), λ k b. reach_less r d e (h.1 k b) l)

  ready_branch : (fs : List (Frame ℕ)) (c : NodesT ℕ) (e m d : ℕ) (r s : Trail) → d ≤ m → d ≤ e → (is_live_at x fs c ≡ true → Reach s m) → Ready fs e r → ((q : ℕ) → Reach r q → Reach s q) → Ready (Branched c ∷ fs) d s
  ready_branch fs c e m d r s l o f h g = ((λ b. reach_less s d m (f b) l), λ k b. reach_less s d e (g e (h.1 k b)) o)

  ready_block : (fs : List (Frame ℕ)) (c : NodesT ℕ) (e m d : ℕ) (r s : Trail) → d ≤ m → d ≤ e → (is_live_at x fs c ≡ true → Reach s m) → Ready fs e r → ((q : ℕ) → Reach r q → Reach s q) → Ready (Blocked c ∷ fs) d s
  ready_block fs c e m d r s l o f h g = ((λ b. reach_less s d m (f b) l), ends)
    where
      ends : (k : ℕ) → ends_of (labels x (Blocked c ∷ fs)) k ≡ true → Reach s d
      ends zero b = reach_less s d m (f b) l
      ends (suc k) b = reach_less s d e (g e (h.1 k b)) o

  ready_loop : (fs : List (Frame ℕ)) (b c : NodesT ℕ) (e m d : ℕ) (r s : Trail) → d ≤ m → d ≤ e → (is_live_at x fs c ≡ true → Reach s m) → Ready fs e r → ((q : ℕ) → Reach r q → Reach s q) → Ready (Looped b c ∷ fs) d s
  ready_loop fs b c e m d r s l o f h g = ((λ b. reach_less s d m (f b) l), ends)
    where
      ends : (k : ℕ) → ends_of (labels x (Looped b c ∷ fs)) k ≡ true → Reach s d
      ends zero b = reach_less s d m (f b) l
      ends (suc k) b = reach_less s d e (g e (h.1 k b)) o

  pub reaches : (fs : List (Frame ℕ)) (c : NodesT ℕ) (n : ℕ) (r : Trail) → Ready fs (n + places c) r → is_live_at x fs c ≡ true → Reach (less_of fs c n r) n
  reaches fs Stop n r h e = reach_less r n (n + 0) (h.0 e) (omega arith)
  reaches fs (Do o c) n r h e =
      let s = less_of fs c (suc n) r in
      elim (before_cases (is_used (Do o c) x) (is_target (Do o c) x) (is_live_at x fs c) e) [
        | inl u ↦ stood_reach (is_target (Do o c) x) n (stood (is_used (Do o c) x) n s) n (reach_here (is_used (Do o c) x) n s u)
        | inr k ↦ stood_reach (is_target (Do o c) x) n (stood (is_used (Do o c) x) n s) n (stood_reach (is_used (Do o c) x) n s n (reach_less s n (suc n) (reaches fs c (suc n) r (ready_less fs (n + suc (places c)) (suc n + places c) r (omega arith) h) k.1) (omega arith)))
      ]
  reaches fs (Call t f args c) n r h e =
      let s = crossing (is_live_at x fs c && not (is_among (maybe t) x)) (less_of fs c (suc n) r) in
      elim (before_cases (is_used (Call t f args c) x) (is_target (Call t f args c) x) (is_live_at x fs c) e) [
        | inl u ↦ stood_reach (is_target (Call t f args c) x) n (stood (is_used (Call t f args c) x) n s) n (reach_here (is_used (Call t f args c) x) n s u)
        | inr k ↦ stood_reach (is_target (Call t f args c) x) n (stood (is_used (Call t f args c) x) n s) n (stood_reach (is_used (Call t f args c) x) n s n (reach_less s n (suc n) (reaches fs c (suc n) r (ready_less fs (n + suc (places c)) (suc n + places c) r (omega arith) h) k.1) (omega arith)))
      ]
  reaches fs (Choose p a b c) n r h e =
      let m = suc (places a + (places b + n)) in
      let nb = suc (places a + n) in
      let k = is_live_at x fs c in
      let z = n + suc (places a + (places b + places c)) in
      let rc = less_of fs c m r in
      let rb = less_of (Branched c ∷ fs) b nb rc in
      let ra = less_of (Branched c ∷ fs) a (suc n) rb in
      let fc = reaches fs c m r (ready_less fs z (m + places c) r (omega arith) h) in
      let keep_c : (q : ℕ) → Reach r q → Reach rc q = λ q g. sparse_reach x q (labels x fs) c (live_behind x fs) false m r g in
      let keep_b : (q : ℕ) → Reach rc q → Reach rb q = λ q g. sparse_reach x q (labels x fs) b k false nb rc g in
      let keep_a : (q : ℕ) → Reach rb q → Reach ra q = λ q g. sparse_reach x q (labels x fs) a k false (suc n) rb g in
      let hb = ready_branch fs c z m (nb + places b) r rc (omega arith) (omega arith) fc h keep_c in
      let ha = ready_branch fs c z m (suc n + places a) r rb (omega arith) (omega arith) (λ l. keep_b m (fc l)) h (λ q g. keep_b q (keep_c q g)) in
      let w = ceases (is_live_at x fs (Choose p a b c)) k (follows c || false) in
      let u = is_used (Choose p a b c) x in
      elim (before_cases u false (is_live_at x (Branched c ∷ fs) a || is_live_at x (Branched c ∷ fs) b) e) [
        | inl d ↦ reach_here u n (stood w m ra) d
        | inr s ↦ stood_reach u n (stood w m ra) n (stood_reach w m ra n (elim (or_of (is_live_at x (Branched c ∷ fs) a) (is_live_at x (Branched c ∷ fs) b) s.1) [
          | inl l ↦ reach_less ra n (suc n) (reaches (Branched c ∷ fs) a (suc n) rb ha l) (omega arith)
          | inr l ↦ reach_less ra n nb (keep_a nb (reaches (Branched c ∷ fs) b nb rc hb l)) (omega arith)
        ]))
      ]
  reaches fs (Block b c) n r h e =
      let m = suc (places b + n) in
      let z = n + suc (places b + places c) in
      let rc = less_of fs c m r in
      let rb = less_of (Blocked c ∷ fs) b (suc n) rc in
      let fc = reaches fs c m r (ready_less fs z (m + places c) r (omega arith) h) in
      let keep_c : (q : ℕ) → Reach r q → Reach rc q = λ q g. sparse_reach x q (labels x fs) c (live_behind x fs) false m r g in
      let hb = ready_block fs c z m (suc n + places b) r rc (omega arith) (omega arith) fc h keep_c in
      stood_reach (ceases (is_live_at x fs (Block b c)) (is_live_at x fs c) (follows c || false)) m rb n (reach_less rb n (suc n) (reaches (Blocked c ∷ fs) b (suc n) rc hb e) (omega arith))
  reaches fs (Loop b c) n r h e =
      let m = suc (places b + n) in
      let z = n + suc (places b + places c) in
      let rc = less_of fs c m r in
      let rb = less_of (Looped b c ∷ fs) b (suc n) rc in
      let fc = reaches fs c m r (ready_less fs z (m + places c) r (omega arith) h) in
      let keep_c : (q : ℕ) → Reach r q → Reach rc q = λ q g. sparse_reach x q (labels x fs) c (live_behind x fs) false m r g in
      let hb = ready_loop fs b c z m (suc n + places b) r rc (omega arith) (omega arith) fc h keep_c in
      stood_reach (ceases (is_live_at x fs (Loop b c)) (is_live_at x fs c) (follows c || false)) m rb n (reach_less rb n (suc n) (reaches (Looped b c ∷ fs) b (suc n) rc hb (loop_inside x fs b c e)) (omega arith))
  reaches fs (Leave k c) n r h e =
      let rc = less_of fs c (suc n) r in
      let z = n + suc (places c) in
      stood_reach (ceases (is_live_at x fs (Leave k c)) (is_live_at x fs c) (follows c || false)) (suc n) rc n (reach_less rc n z (sparse_reach x z (labels x fs) c (live_behind x fs) false (suc n) r (h.1 k e)) (omega arith))
  reaches fs (Again k c) n r h e =
      let rc = less_of fs c (suc n) r in
      let l = is_live_at x fs (Again k c) in
      let w = ceases l (is_live_at x fs c) (follows c || false) in
      newly (is_live_at x fs c) (λ d. reach_less rc n (suc n) (reaches fs c (suc n) r (ready_less fs (n + suc (places c)) (suc n + places c) r (omega arith) h) d) (omega arith)) l e w
    where
      newly : (j : Bool) → (j ≡ true → Reach (less_of fs c (suc n) r) n) → (l : Bool) → l ≡ true → (w : Bool) → Reach (stood (l && not j) n (stood w (suc n) (less_of fs c (suc n) r))) n
      newly true f l e w = stood_reach (l && false) n (stood w (suc n) (less_of fs c (suc n) r)) n (stood_reach w (suc n) (less_of fs c (suc n) r) n (f refl))
      newly false f l e w = reach_here (l && true) n (stood w (suc n) (less_of fs c (suc n) r)) (ap (λ z. z && true) e)
  reaches fs (Return p c) n r h e =
      let rc = less_of fs c (suc n) r in
      reach_here (is_used (Return p c) x) n (stood (ceases (is_live_at x fs (Return p c)) (is_live_at x fs c) (follows c || false)) (suc n) rc) e

  -- ---- the first place is all that is left out

  op_table : (t u j w : Bool) (n : ℕ) (r : Trail) → (j ≡ true → Reach r (suc n)) → stood t n (stood (live_before u t j) n (stood (j && w) (suc n) r)) ≡ stood (live_before u t j && true) n (stood t n (stood u n r))
  op_table t true j w n r h = ap (stood t n) (over n (j && w) (suc n) r (λ e. h (and_left j w e)) (omega arith)) ∙ once t ∙ sym (again t n (longer n r) ∙ twice n r)
    where
      once : (t : Bool) → stood t n (longer n r) ≡ longer n r
      once true = twice n r
      once false = refl
  op_table true false j w n r h = over n (j && w) (suc n) r (λ e. h (and_left j w e)) (omega arith)
  op_table false false true w n r h = over n w (suc n) r (λ e. h refl) (omega arith)
  op_table false false false w n r h = refl

  outer : (l u j w : Bool) (n m : ℕ) (r s : Trail) → (l ≡ true → longer n s ≡ longer n r) → (l ≡ false → (u ≡ false) × (s ≡ stood (j && w) m r)) → stood l n s ≡ stood (l && true) n (stood u n (stood (ceases l j (w || false)) m r))
  outer true u j w n m r s f g = f refl ∙ sym (again u n (stood (j && false) m r) ∙ ap (longer n) (none j))
    where
      none : (j : Bool) → stood (j && false) m r ≡ r
      none true = refl
      none false = refl
  outer false u j w n m r s f g =
      let e = g refl in
      e.1 ∙ sym (ap (λ z. stood z n (stood (j && (w || false)) m r)) e.0 ∙ ap (λ z. stood (j && z) m r) (or_false w))

  -- a block or a loop
  one_table : (l j k v w : Bool) (n m : ℕ) (r : Trail) → suc n ≤ m → (k ≡ true → Reach r (suc n)) → (j ≡ true → Reach r m) → (l ≡ false → k ≡ false) → stood l n (stood (j && w) m (stood (k && v) (suc n) r)) ≡ stood (l && true) n (stood (ceases l j (w || false)) m r)
  one_table l j k v w n m r d f g z = outer l false j w n m r (stood (j && w) m (stood (k && v) (suc n) r))
      (λ e. over n (j && w) m (stood (k && v) (suc n) r) (λ b. stood_reach (k && v) (suc n) r m (g (and_left j w b))) (omega (arith, d)) ∙ over n (k && v) (suc n) r (λ b. f (and_left k v b)) (omega arith))
      (λ e. (refl, ap (λ b. stood (j && w) m (stood (b && v) (suc n) r)) (z e)))

  -- a choice
  two_table : (u a b j v t w : Bool) (n nb m : ℕ) (r : Trail) → suc n ≤ nb → suc n ≤ m → (a ≡ true → Reach r (suc n)) → (b ≡ true → Reach r nb) → (j ≡ true → Reach r m) → stood (live_before u false (a || b)) n (stood (j && w) m (stood (b && t) nb (stood (a && v) (suc n) r))) ≡ stood (live_before u false (a || b) && true) n (stood u n (stood (ceases (live_before u false (a || b)) j (w || false)) m r))
  two_table u a b j v t w n nb m r d o f g h =
      let ra = stood (a && v) (suc n) r in
      let rb = stood (b && t) nb ra in
      outer (live_before u false (a || b)) u j w n m r (stood (j && w) m rb)
      (λ e. over n (j && w) m rb (λ i. stood_reach (b && t) nb ra m (stood_reach (a && v) (suc n) r m (h (and_left j w i)))) (omega (arith, o)) ∙ over n (b && t) nb ra (λ i. stood_reach (a && v) (suc n) r nb (g (and_left b t i))) (omega (arith, d)) ∙ over n (a && v) (suc n) r (λ i. f (and_left a v i)) (omega arith))
      (λ e. (let q = unused u (a || b) e in let k = neither a b q.1 in (q.0, ap (λ z. stood (j && w) m (stood (z && t) nb ra)) k.1 ∙ ap (λ z. stood (j && w) m (stood (z && v) (suc n) r)) k.0)))
    where
      unused : (u s : Bool) → live_before u false s ≡ false → (u ≡ false) × (s ≡ false)
      unused true s e = absurd (true≢false e)
      unused false s e = (refl, e)

  pub shortcut : (fs : List (Frame ℕ)) (c : NodesT ℕ) (n : ℕ) (r : Trail) → Ready fs (n + places c) r → trailed x (labels x fs) c (live_behind x fs) n r ≡ stood (is_live_at x fs c && follows c) n (less_of fs c n r)
  shortcut fs Stop n r h = sym (ap (λ z. stood z n r) (no (live_behind x fs)))
    where
      no : (j : Bool) → (j && false) ≡ false
      no true = refl
      no false = refl
  shortcut fs (Do o c) n r h =
      let i = ready_less fs (n + suc (places c)) (suc n + places c) r (omega arith) h in
      let t = is_target (Do o c) x in
      let l = is_live_at x fs (Do o c) in
      ap (λ z. stood t n (stood l n z)) (shortcut fs c (suc n) r i) ∙ op_table t (is_used (Do o c) x) (is_live_at x fs c) (follows c) n (less_of fs c (suc n) r) (reaches fs c (suc n) r i)
  shortcut fs (Call g f args c) n r h =
      let i = ready_less fs (n + suc (places c)) (suc n + places c) r (omega arith) h in
      let t = is_target (Call g f args c) x in
      let l = is_live_at x fs (Call g f args c) in
      let j = is_live_at x fs c in
      let b = j && not (is_among (maybe g) x) in
      let rc = less_of fs c (suc n) r in
      ap (λ z. stood t n (stood l n (crossing b z))) (shortcut fs c (suc n) r i)
      ∙ ap (λ z. stood t n (stood l n z)) (crossing_stood b (j && follows c) (suc n) rc)
      ∙ op_table t (is_used (Call g f args c) x) j (follows c) n (crossing b rc) (reaches fs c (suc n) r i)
  shortcut fs (Choose p a b c) n r h =
      let m = suc (places a + (places b + n)) in
      let nb = suc (places a + n) in
      let k = is_live_at x fs c in
      let z = n + suc (places a + (places b + places c)) in
      let rc = less_of fs c m r in
      let rb = less_of (Branched c ∷ fs) b nb rc in
      let ra = less_of (Branched c ∷ fs) a (suc n) rb in
      let i = ready_less fs z (m + places c) r (omega arith) h in
      let fc = reaches fs c m r i in
      let keep_c : (q : ℕ) → Reach r q → Reach rc q = λ q g. sparse_reach x q (labels x fs) c (live_behind x fs) false m r g in
      let keep_b : (q : ℕ) → Reach rc q → Reach rb q = λ q g. sparse_reach x q (labels x fs) b k false nb rc g in
      let keep_a : (q : ℕ) → Reach rb q → Reach ra q = λ q g. sparse_reach x q (labels x fs) a k false (suc n) rb g in
      let hb = ready_branch fs c z m (nb + places b) r rc (omega arith) (omega arith) fc h keep_c in
      let ha = ready_branch fs c z m (suc n + places a) r rb (omega arith) (omega arith) (λ l. keep_b m (fc l)) h (λ q g. keep_b q (keep_c q g)) in
      let la = is_live_at x (Branched c ∷ fs) a in
      let lb = is_live_at x (Branched c ∷ fs) b in
      let kc = k && follows c in
      let kb = lb && follows b in
      let ka = la && follows a in
      let eb = ap (trailed x (labels x fs) b k nb) (shortcut fs c m r i) ∙ trailed_stood x kc m (labels x fs) b k nb rc ∙ ap (stood kc m) (shortcut (Branched c ∷ fs) b nb rc hb) in
      let ea = ap (trailed x (labels x fs) a k (suc n)) eb ∙ trailed_stood x kc m (labels x fs) a k (suc n) (stood kb nb rb) ∙ ap (stood kc m) (trailed_stood x kb nb (labels x fs) a k (suc n) rb) ∙ ap (λ z. stood kc m (stood kb nb z)) (shortcut (Branched c ∷ fs) a (suc n) rb ha) in
      ap (stood (is_live_at x fs (Choose p a b c)) n) ea
      ∙ two_table (is_used (Choose p a b c) x) la lb k (follows a) (follows b) (follows c) n nb m ra (omega arith) (omega arith) (reaches (Branched c ∷ fs) a (suc n) rb ha) (λ l. keep_a nb (reaches (Branched c ∷ fs) b nb rc hb l)) (λ l. keep_a m (keep_b m (fc l)))
  shortcut fs (Block b c) n r h =
      let m = suc (places b + n) in
      let z = n + suc (places b + places c) in
      let k = is_live_at x fs c in
      let rc = less_of fs c m r in
      let rb = less_of (Blocked c ∷ fs) b (suc n) rc in
      let i = ready_less fs z (m + places c) r (omega arith) h in
      let fc = reaches fs c m r i in
      let keep_c : (q : ℕ) → Reach r q → Reach rc q = λ q g. sparse_reach x q (labels x fs) c (live_behind x fs) false m r g in
      let keep_b : (q : ℕ) → Reach rc q → Reach rb q = λ q g. sparse_reach x q (labels x (Blocked c ∷ fs)) b k false (suc n) rc g in
      let hb = ready_block fs c z m (suc n + places b) r rc (omega arith) (omega arith) fc h keep_c in
      let kc = k && follows c in
      let eb = ap (trailed x (labels x (Blocked c ∷ fs)) b k (suc n)) (shortcut fs c m r i) ∙ trailed_stood x kc m (labels x (Blocked c ∷ fs)) b k (suc n) rc ∙ ap (stood kc m) (shortcut (Blocked c ∷ fs) b (suc n) rc hb) in
      ap (stood (is_live_at x fs (Block b c)) n) eb
      ∙ one_table (is_live_at x fs (Block b c)) k (is_live_at x (Blocked c ∷ fs) b) (follows b) (follows c) n m rb (omega arith) (reaches (Blocked c ∷ fs) b (suc n) rc hb) (λ l. keep_b m (fc l)) (λ e. e)
  shortcut fs (Loop b c) n r h =
      let m = suc (places b + n) in
      let z = n + suc (places b + places c) in
      let k = is_live_at x fs c in
      let rc = less_of fs c m r in
      let rb = less_of (Looped b c ∷ fs) b (suc n) rc in
      let i = ready_less fs z (m + places c) r (omega arith) h in
      let fc = reaches fs c m r i in
      let keep_c : (q : ℕ) → Reach r q → Reach rc q = λ q g. sparse_reach x q (labels x fs) c (live_behind x fs) false m r g in
      let keep_b : (q : ℕ) → Reach rc q → Reach rb q = λ q g. sparse_reach x q (labels x (Looped b c ∷ fs)) b k false (suc n) rc g in
      let hb = ready_loop fs b c z m (suc n + places b) r rc (omega arith) (omega arith) fc h keep_c in
      let kc = k && follows c in
      let eb = ap (trailed x (labels x (Looped b c ∷ fs)) b k (suc n)) (shortcut fs c m r i) ∙ trailed_stood x kc m (labels x (Looped b c ∷ fs)) b k (suc n) rc ∙ ap (stood kc m) (shortcut (Looped b c ∷ fs) b (suc n) rc hb) in
      ap (stood (is_live_at x fs (Loop b c)) n) eb
      ∙ one_table (is_live_at x fs (Loop b c)) k (is_live_at x (Looped b c ∷ fs) b) (follows b) (follows c) n m rb (omega arith) (reaches (Looped b c ∷ fs) b (suc n) rc hb) (λ l. keep_b m (fc l)) (not_inside (is_live_at x (Looped b c ∷ fs) b) (found_turn x fs b c))
    where
      not_inside : (t : Bool) → (t ≡ true → is_live_at x fs (Loop b c) ≡ true) → is_live_at x fs (Loop b c) ≡ false → t ≡ false
      not_inside true f e = absurd (true≢false (sym (f refl) ∙ e))
      not_inside false f e = refl
  shortcut fs (Leave k c) n r h =
      let rc = less_of fs c (suc n) r in
      let i = ready_less fs (n + suc (places c)) (suc n + places c) r (omega arith) h in
      let j = is_live_at x fs c in
      let l = is_live_at x fs (Leave k c) in
      ap (stood l n) (shortcut fs c (suc n) r i)
      ∙ outer l false j (follows c) n (suc n) rc (stood (j && follows c) (suc n) rc) (λ e. over n (j && follows c) (suc n) rc (λ b. reaches fs c (suc n) r i (and_left j (follows c) b)) (omega arith)) (λ e. (refl, refl))
  shortcut fs (Again k c) n r h =
      let rc = less_of fs c (suc n) r in
      let i = ready_less fs (n + suc (places c)) (suc n + places c) r (omega arith) h in
      let j = is_live_at x fs c in
      let l = is_live_at x fs (Again k c) in
      ap (stood l n) (shortcut fs c (suc n) r i)
      ∙ outer l (l && not j) j (follows c) n (suc n) rc (stood (j && follows c) (suc n) rc) (λ e. over n (j && follows c) (suc n) rc (λ b. reaches fs c (suc n) r i (and_left j (follows c) b)) (omega arith)) (λ e. (ap (λ z. z && not j) e, refl))
  shortcut fs (Return p c) n r h =
      let rc = less_of fs c (suc n) r in
      let i = ready_less fs (n + suc (places c)) (suc n + places c) r (omega arith) h in
      let j = is_live_at x fs c in
      let l = is_live_at x fs (Return p c) in
      ap (stood l n) (shortcut fs c (suc n) r i)
      ∙ outer l l j (follows c) n (suc n) rc (stood (j && follows c) (suc n) rc) (λ e. over n (j && follows c) (suc n) rc (λ b. reaches fs c (suc n) r i (and_left j (follows c) b)) (omega arith)) (λ e. (e, refl))

-- of a whole function
pub function_shortcut : (f : FunctionT ℕ) (x : ℕ) → trail_of f x ≡ stood (is_among f.params x) 0 (stood (is_live x [] f.body false && follows f.body) 1 (sparse x [] f.body false false 1 no_trail))
function_shortcut f x = ap (stood (is_among f.params x) 0) (shortcut x [] f.body 1 no_trail ((λ b. absurd (false≢true b)), (λ k b. absurd (false≢true b))))
