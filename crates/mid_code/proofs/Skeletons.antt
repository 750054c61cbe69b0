-- Code has the loops, the nesting and the calls of its skeleton, and what lives at once in it.
use Rattle.std.proofs.Common.{◌≡◌, ℕ, zero, suc, ◌+◌, max, inl, inr, ◌⊎◌, List, [], ◌∷◌, map, Option, Some, None, refl, sym, ap, ◌∙◌, subst, arith}
use Rattle.mid_code.specs.Code.{OpT, LoadO, StoreO, FreshO, EndO, InO, OutO, WaitO, HaltO, NodesT, Stop, Do, Call, Choose, Block, Loop, Leave, Again, Return}
use Rattle.mid_code.specs.Paths.{Frame, Branched, Blocked, Looped, Point, at, behind, leaving, repeating, next_points, SomePoint}
use Rattle.mid_code.specs.Calls.{loops, nesting, CallsTo, AddsNone}
use Rattle.mid_code.specs.Open.{open_behind, Comes, LiveAtOnce}
use Rattle.mid_code.specs.Skeleton.{stays, some_before, skeleton, SameShape}
use Rattle.mid_code.proofs.Opened.{some_long}

-- some path from a point of a skeleton comes to where these are open
abbrev Keeps : List ℕ → List ℕ → Point (Unit {0}) → Type 0
Keeps ks made p = (m : ℕ) × Comes ks m made p

-- ---- counts

some_loops : (o : Option (OpT (Unit {0}))) (c : NodesT (Unit {0})) → loops (some_before o c) ≡ loops c
some_loops None c = refl
some_loops (Some o) c = refl

some_nesting : (o : Option (OpT (Unit {0}))) (c : NodesT (Unit {0})) → nesting (some_before o c) ≡ nesting c
some_nesting None c = refl
some_nesting (Some o) c = refl

some_calls : (f : ℕ) (o : Option (OpT (Unit {0}))) (c : NodesT (Unit {0})) → CallsTo f (some_before o c) ≡ CallsTo f c
some_calls f None c = refl
some_calls f (Some o) c = refl

module _ {P : Type 0} where
  pub same_loops : (c : NodesT P) → loops (skeleton c) ≡ loops c
  same_loops Stop = refl
  same_loops (Do o c) = some_loops (stays o) (skeleton c) ∙ same_loops c
  same_loops (Call t f args c) = same_loops c
  same_loops (Choose p a b c) = λ i. same_loops a i + (same_loops b i + same_loops c i)
  same_loops (Block b c) = λ i. same_loops b i + same_loops c i
  same_loops (Loop b c) = λ i. suc (same_loops b i + same_loops c i)
  same_loops (Leave k c) = same_loops c
  same_loops (Again k c) = same_loops c
  same_loops (Return p c) = same_loops c

  pub same_nesting : (c : NodesT P) → nesting (skeleton c) ≡ nesting c
  same_nesting Stop = refl
  same_nesting (Do o c) = some_nesting (stays o) (skeleton c) ∙ same_nesting c
  same_nesting (Call t f args c) = same_nesting c
  same_nesting (Choose p a b c) = λ i. max (suc (max (same_nesting a i) (same_nesting b i))) (same_nesting c i)
  same_nesting (Block b c) = λ i. max (suc (same_nesting b i)) (same_nesting c i)
  same_nesting (Loop b c) = λ i. max (suc (same_nesting b i)) (same_nesting c i)
  same_nesting (Leave k c) = same_nesting c
  same_nesting (Again k c) = same_nesting c
  same_nesting (Return p c) = same_nesting c

  pub same_calls : (f : ℕ) (c : NodesT P) → CallsTo f (skeleton c) ≡ CallsTo f c
  same_calls f Stop = refl
  same_calls f (Do o c) = some_calls f (stays o) (skeleton c) ∙ same_calls f c
  same_calls f (Call t g args c) = λ i. (g ≡ f) ⊎ same_calls f c i
  same_calls f (Choose p a b c) = λ i. same_calls f a i ⊎ same_calls f b i ⊎ same_calls f c i
  same_calls f (Block b c) = λ i. same_calls f b i ⊎ same_calls f c i
  same_calls f (Loop b c) = λ i. same_calls f b i ⊎ same_calls f c i
  same_calls f (Leave k c) = same_calls f c
  same_calls f (Again k c) = same_calls f c
  same_calls f (Return p c) = same_calls f c

  -- ---- points

  abbrev sf : Frame P → Frame (Unit {0})
  sf (Branched c) = Branched (skeleton c)
  sf (Blocked c) = Blocked (skeleton c)
  sf (Looped b c) = Looped (skeleton b) (skeleton c)

  abbrev sp : Point P → Point (Unit {0})
  sp p = at (map sf p.frames) (skeleton p.code)

  some_to : (Q : Point P → Type 0) (R : Point (Unit {0}) → Type 0) → ((r : Point P) → Q r → R (sp r)) → (ps : List (Point P)) → SomePoint Q ps → SomePoint R (map sp ps)
  some_to Q R f [] s = s
  some_to Q R f (p ∷ ps) s = elim s [ inl r ↦ inl (f p r) | inr r ↦ inr (some_to Q R f ps r) ]

  some_from : (Q : Point P → Type 0) (R : Point (Unit {0}) → Type 0) → ((r : Point P) → R (sp r) → Q r) → (ps : List (Point P)) → SomePoint R (map sp ps) → SomePoint Q ps
  some_from Q R f [] s = s
  some_from Q R f (p ∷ ps) s = elim s [ inl r ↦ inl (f p r) | inr r ↦ inr (some_from Q R f ps r) ]

  behind_to : (fs : List (Frame P)) → behind (map sf fs) ≡ map sp (behind fs)
  behind_to [] = refl
  behind_to (Branched c ∷ fs) = refl
  behind_to (Blocked c ∷ fs) = refl
  behind_to (Looped b c ∷ fs) = refl

  leaving_to : (fs : List (Frame P)) (k : ℕ) → leaving (map sf fs) k ≡ map sp (leaving fs k)
  leaving_to [] k = refl
  leaving_to (Branched c ∷ fs) k = leaving_to fs k
  leaving_to (Blocked c ∷ fs) zero = refl
  leaving_to (Blocked c ∷ fs) (suc k) = leaving_to fs k
  leaving_to (Looped b c ∷ fs) zero = refl
  leaving_to (Looped b c ∷ fs) (suc k) = leaving_to fs k

  repeating_to : (fs : List (Frame P)) (k : ℕ) → repeating (map sf fs) k ≡ map sp (repeating fs k)
  repeating_to [] k = refl
  repeating_to (Branched c ∷ fs) k = repeating_to fs k
  repeating_to (Blocked c ∷ fs) zero = refl
  repeating_to (Blocked c ∷ fs) (suc k) = repeating_to fs k
  repeating_to (Looped b c ∷ fs) zero = refl
  repeating_to (Looped b c ∷ fs) (suc k) = repeating_to fs k

  -- ---- what lives at once

  module _ (ks : List ℕ) where
    abbrev Goes : List ℕ → Point P → Type 0
    Goes made p = (m : ℕ) × Comes ks m made p

    do_to : (o : OpT P) (c : NodesT P) (fs : List (Frame P)) (made : List ℕ) → Keeps ks (open_behind made (Do o c)) (sp (at fs c)) → Keeps ks made (sp (at fs (Do o c)))
    do_to (StoreO p a) c fs made r = (suc r.0, inl r.1)
    do_to (LoadO t p) c fs made r = (suc r.0, inl r.1)
    do_to (FreshO k) c fs made r = (suc r.0, inl r.1)
    do_to (EndO k) c fs made r = (suc r.0, inl r.1)
    do_to (InO t port) c fs made r = (suc r.0, inl r.1)
    do_to (OutO port a) c fs made r = (suc r.0, inl r.1)
    do_to WaitO c fs made r = (suc r.0, inl r.1)
    do_to HaltO c fs made r = (suc r.0, inl r.1)
    do_to o c fs made r = r

    step : (n : ℕ) (made : List ℕ) (ps : List (Point P)) (qs : List (Point (Unit {0}))) → qs ≡ map sp ps → ((r : Point P) → Comes ks n made r → Keeps ks made (sp r)) → SomePoint (Comes ks n made) ps → (m : ℕ) × SomePoint (Comes ks m made) qs
    step n made ps qs e f w =
        let r = some_long (λ m r. Comes ks m made r) (map sp ps) (some_to (Comes ks n made) (Keeps ks made) f ps w) in
        (r.0, subst (SomePoint (Comes ks r.0 made)) (sym e) r.1)

    walk : (n : ℕ) (fs : List (Frame P)) (c : NodesT P) (made : List ℕ) → Comes ks n made (at fs c) → Keeps ks made (sp (at fs c))
    walk zero fs c made w = (0, w)
    walk (suc n) fs (Do o c) made w = do_to o c fs made (elim w [ inl r ↦ walk n fs c (open_behind made (Do o c)) r | inr r ↦ absurd r ])
    walk (suc n) fs Stop made w = let r = step n made (next_points fs Stop) (next_points (map sf fs) Stop) (behind_to fs) (λ r. walk n r.frames r.code made) w in (suc r.0, r.1)
    walk (suc n) fs (Call t g args c) made w = let r = step n made (next_points fs (Call t g args c)) (next_points (map sf fs) (skeleton (Call t g args c))) refl (λ r. walk n r.frames r.code made) w in (suc r.0, r.1)
    walk (suc n) fs (Choose p a b c) made w = let r = step n made (next_points fs (Choose p a b c)) (next_points (map sf fs) (skeleton (Choose p a b c))) refl (λ r. walk n r.frames r.code made) w in (suc r.0, r.1)
    walk (suc n) fs (Block b c) made w = let r = step n made (next_points fs (Block b c)) (next_points (map sf fs) (skeleton (Block b c))) refl (λ r. walk n r.frames r.code made) w in (suc r.0, r.1)
    walk (suc n) fs (Loop b c) made w = let r = step n made (next_points fs (Loop b c)) (next_points (map sf fs) (skeleton (Loop b c))) refl (λ r. walk n r.frames r.code made) w in (suc r.0, r.1)
    walk (suc n) fs (Leave k c) made w = let r = step n made (next_points fs (Leave k c)) (next_points (map sf fs) (skeleton (Leave k c))) (leaving_to fs k) (λ r. walk n r.frames r.code made) w in (suc r.0, r.1)
    walk (suc n) fs (Again k c) made w = let r = step n made (next_points fs (Again k c)) (next_points (map sf fs) (skeleton (Again k c))) (repeating_to fs k) (λ r. walk n r.frames r.code made) w in (suc r.0, r.1)
    walk (suc n) fs (Return p c) made w = absurd w

    -- back

    back_step : (n : ℕ) (made : List ℕ) (ps : List (Point P)) (qs : List (Point (Unit {0}))) → qs ≡ map sp ps → ((r : Point P) → Comes ks n made (sp r) → Goes made r) → SomePoint (Comes ks n made) qs → (m : ℕ) × SomePoint (Comes ks m made) ps
    back_step n made ps qs e f w = some_long (λ m r. Comes ks m made r) ps (some_from (Goes made) (Comes ks n made) f ps (subst (SomePoint (Comes ks n made)) e w))

    -- one node of the skeleton, behind those that it leaves out
    back_do : (n : ℕ) (o : OpT P) (c : NodesT P) (fs : List (Frame P)) (made : List ℕ) → ((made : List ℕ) → Comes ks n made (sp (at fs c)) → Goes made (at fs c)) → ((made : List ℕ) → Comes ks (suc n) made (sp (at fs c)) → Goes made (at fs c))
        → Comes ks (suc n) made (sp (at fs (Do o c))) → Goes made (at fs (Do o c))
    back_do n (StoreO p a) c fs made less same w = elim w [ inl r ↦ (let s = less made r in (suc s.0, inl s.1)) | inr r ↦ absurd r ]
    back_do n (LoadO t p) c fs made less same w = elim w [ inl r ↦ (let s = less made r in (suc s.0, inl s.1)) | inr r ↦ absurd r ]
    back_do n (FreshO k) c fs made less same w = elim w [ inl r ↦ (let s = less (open_behind made (Do (FreshO k) c)) r in (suc s.0, inl s.1)) | inr r ↦ absurd r ]
    back_do n (EndO k) c fs made less same w = elim w [ inl r ↦ (let s = less (open_behind made (Do (EndO k) c)) r in (suc s.0, inl s.1)) | inr r ↦ absurd r ]
    back_do n (InO t port) c fs made less same w = elim w [ inl r ↦ (let s = less made r in (suc s.0, inl s.1)) | inr r ↦ absurd r ]
    back_do n (OutO port a) c fs made less same w = elim w [ inl r ↦ (let s = less made r in (suc s.0, inl s.1)) | inr r ↦ absurd r ]
    back_do n WaitO c fs made less same w = elim w [ inl r ↦ (let s = less made r in (suc s.0, inl s.1)) | inr r ↦ absurd r ]
    back_do n HaltO c fs made less same w = elim w [ inl r ↦ (let s = less made r in (suc s.0, inl s.1)) | inr r ↦ absurd r ]
    back_do n o c fs made less same w = let s = same made w in (suc s.0, inl s.1)

    back_node : (n : ℕ) → ((fs : List (Frame P)) (c : NodesT P) (made : List ℕ) → Comes ks n made (sp (at fs c)) → Goes made (at fs c)) → (fs : List (Frame P)) (c : NodesT P) (made : List ℕ) → Comes ks (suc n) made (sp (at fs c)) → Goes made (at fs c)
    back_node n less fs (Do o c) made w = back_do n o c fs made (less fs c) (back_node n less fs c) w
    back_node n less fs Stop made w = let r = back_step n made (next_points fs Stop) (next_points (map sf fs) Stop) (behind_to fs) (λ r. less r.frames r.code made) w in (suc r.0, r.1)
    back_node n less fs (Call t g args c) made w = let r = back_step n made (next_points fs (Call t g args c)) (next_points (map sf fs) (skeleton (Call t g args c))) refl (λ r. less r.frames r.code made) w in (suc r.0, r.1)
    back_node n less fs (Choose p a b c) made w = let r = back_step n made (next_points fs (Choose p a b c)) (next_points (map sf fs) (skeleton (Choose p a b c))) refl (λ r. less r.frames r.code made) w in (suc r.0, r.1)
    back_node n less fs (Block b c) made w = let r = back_step n made (next_points fs (Block b c)) (next_points (map sf fs) (skeleton (Block b c))) refl (λ r. less r.frames r.code made) w in (suc r.0, r.1)
    back_node n less fs (Loop b c) made w = let r = back_step n made (next_points fs (Loop b c)) (next_points (map sf fs) (skeleton (Loop b c))) refl (λ r. less r.frames r.code made) w in (suc r.0, r.1)
    back_node n less fs (Leave k c) made w = let r = back_step n made (next_points fs (Leave k c)) (next_points (map sf fs) (skeleton (Leave k c))) (leaving_to fs k) (λ r. less r.frames r.code made) w in (suc r.0, r.1)
    back_node n less fs (Again k c) made w = let r = back_step n made (next_points fs (Again k c)) (next_points (map sf fs) (skeleton (Again k c))) (repeating_to fs k) (λ r. less r.frames r.code made) w in (suc r.0, r.1)
    back_node n less fs (Return p c) made w = absurd w

    back : (n : ℕ) (fs : List (Frame P)) (c : NodesT P) (made : List ℕ) → Comes ks n made (sp (at fs c)) → Goes made (at fs c)
    back zero fs c made w = (0, w)
    back (suc n) fs c made w = back_node n (back n) fs c made w

    pub live_in_skeleton : (body : NodesT P) → LiveAtOnce body ks → LiveAtOnce (skeleton body) ks
    live_in_skeleton body l = walk l.0 [] body [] l.1

    pub live_in_code : (body : NodesT P) → LiveAtOnce (skeleton body) ks → LiveAtOnce body ks
    live_in_code body l = back l.0 [] body [] l.1

-- ---- equal skeletons

module _ {P Q : Type 0} (b : NodesT P) (a : NodesT Q) (e : skeleton a ≡ skeleton b) where
  pub adds_none : AddsNone b a
  adds_none = record {
    loop_count = let x = sym (same_loops a) ∙ ap loops e ∙ same_loops b in omega (arith, x);
    calls = λ f c. subst (λ T. T) (sym (same_calls f a) ∙ ap (CallsTo f) e ∙ same_calls f b) c;
  }

  pub equal_nesting : nesting a ≡ nesting b
  equal_nesting = sym (same_nesting a) ∙ ap nesting e ∙ same_nesting b

  pub still_at_once : (ks : List ℕ) → LiveAtOnce b ks → LiveAtOnce a ks
  still_at_once ks l = live_in_code ks a (subst (λ c. LiveAtOnce c ks) (sym e) (live_in_skeleton ks b l))

-- Code with one skeleton has the loops, calls and nesting of the other, and the same locals live at once in both.
pub same_shape : {P Q : Type 0} (b : NodesT P) (a : NodesT Q) → skeleton a ≡ skeleton b → SameShape b a
same_shape b a e = record { adds_none = adds_none b a e; nests = equal_nesting b a e; at_once = still_at_once b a e; back = still_at_once a b (sym e) }
