-- One step of the lists of offsets, and of slots that are named.
use Rattle.std.proofs.Common.{◌≡◌, ℕ, zero, suc, ◌+◌, ◌-◌, ◌<◌, ◌≤◌, Bool, true, false, ◌||◌, cond, eqb, List, [], ◌∷◌, ◌++◌, map, length, get_or, refl, sym, ap, ◌∙◌, arith}
use Rattle.mid_code.specs.declared.placed.Where.{Where}
use Rattle.mid_code.specs.declared.placed.Where.TheVariants.{Reg, Slot}
use Rattle.mid_code.specs.Live.{is_among}
use Rattle.mid_code.specs.Choices.{with_slot, slots_from, slots_named}
use Rattle.reg_frames.specs.inner.Placing.{index_in, renumbered, placing, rising}
use Rattle.reg_frames.proofs.Slots.{with_here, with_count}
use Rattle.reg_frames.proofs.Named.{index_kept}
use Rattle.reg_frames.proofs.Moving.{true_false}

pub rising_step : (n k : ℕ) → 0 < k → rising n k ≡ n ∷ rising (n + 1) (k - 1)
rising_step n zero lt = absurd (omega (arith, lt))
rising_step n (suc k) lt = let a : suc n ≡ n + 1 = omega arith in let b : k ≡ suc k - 1 = omega arith in ap (λ m. n ∷ rising m k) a ∙ ap (λ j. n ∷ rising (n + 1) j) b

push_more : (xs zs : List ℕ) (y : ℕ) → (xs ++ y ∷ []) ++ zs ≡ xs ++ y ∷ zs
push_more [] zs y = refl
push_more (x ∷ xs) zs y = ap (λ ws. x ∷ ws) (push_more xs zs y)

pub rising_turn : (xs ys all : List ℕ) (from left : ℕ) → 0 < left → ys ≡ xs ++ from ∷ [] → xs ++ rising from left ≡ all → ys ++ rising (from + 1) (left - 1) ≡ all
rising_turn xs ys all from left lt e f = ap (λ zs. zs ++ rising (from + 1) (left - 1)) e ∙ push_more xs (rising (from + 1) (left - 1)) from ∙ ap (λ zs. xs ++ zs) (sym (rising_step from left lt)) ∙ f

-- ---- slots

index_left : (ns : List ℕ) (k n : ℕ) → is_among ns n ≡ true → index_in (ns ++ k ∷ []) n ≡ index_in ns n
index_left [] k n h = absurd (true_false (sym h))
index_left (m ∷ ns) k n h = go (index_left ns k n) (eqb m n) h
  where
    go : (is_among ns n ≡ true → index_in (ns ++ k ∷ []) n ≡ index_in ns n) → (b : Bool) → (b || is_among ns n) ≡ true → cond b 0 (suc (index_in (ns ++ k ∷ []) n)) ≡ cond b 0 (suc (index_in ns n))
    go r true e = refl
    go r false e = ap suc (r e)

among_with : (w : Where) (ns : List ℕ) (n : ℕ) → is_among ns n ≡ true → is_among (with_slot ns w) n ≡ true
among_with (Reg k) ns n h = h
among_with (Slot k) ns n h = go (is_among ns k)
  where
    more : (ms : List ℕ) → is_among ms n ≡ true → is_among (ms ++ k ∷ []) n ≡ true
    more [] e = absurd (true_false (sym e))
    more (m ∷ ms) e = step (more ms) (eqb m n) e
      where
        step : (is_among ms n ≡ true → is_among (ms ++ k ∷ []) n ≡ true) → (b : Bool) → (b || is_among ms n) ≡ true → (b || is_among (ms ++ k ∷ []) n) ≡ true
        step r true f = refl
        step r false f = r f

    go : (b : Bool) → is_among (cond b ns (ns ++ k ∷ [])) n ≡ true
    go true = h
    go false = more ns h

index_with : (w : Where) (ns : List ℕ) (n : ℕ) → is_among ns n ≡ true → index_in (with_slot ns w) n ≡ index_in ns n
index_with (Reg k) ns n h = refl
index_with (Slot k) ns n h = go (is_among ns k)
  where
    go : (b : Bool) → index_in (cond b ns (ns ++ k ∷ [])) n ≡ index_in ns n
    go true = refl
    go false = index_left ns k n h

index_from : (ws : List Where) (ns : List ℕ) (n : ℕ) → is_among ns n ≡ true → index_in (slots_from ns ws) n ≡ index_in ns n
index_from [] ns n h = refl
index_from (w ∷ ws) ns n h = index_from ws (with_slot ns w) n (among_with w ns n h) ∙ index_with w ns n h

place_stays : (w : Where) (ws : List Where) (ns : List ℕ) → renumbered (with_slot ns w) w ≡ renumbered (slots_from (with_slot ns w) ws) w
place_stays (Reg k) ws ns = refl
place_stays (Slot k) ws ns = ap Slot (sym (index_from ws (with_slot ns (Slot k)) k (with_here k ns)))

-- a place is numbered as it will be at the end
pub place_now : (all : List ℕ) (w : Where) (ws : List Where) (ns ms : List ℕ) (p : Where) → slots_from ns (w ∷ ws) ≡ all → ms ≡ with_slot ns w → p ≡ renumbered ms w → p ≡ renumbered all w
place_now all w ws ns ms p e f g = g ∙ ap (λ ks. renumbered ks w) f ∙ place_stays w ws ns ∙ ap (λ ks. renumbered ks w) e

moved_at : (g : Where → Where) (ws : List Where) (x : ℕ) → get_or (map g ws) x (g (Slot 0)) ≡ g (get_or ws x (Slot 0))
moved_at g [] x = refl
moved_at g (w ∷ ws) zero = refl
moved_at g (w ∷ ws) (suc x) = moved_at g ws x

-- the places of all temporaries
pub places_are : (ws : List Where) (ps : List Where) (ns : List ℕ) (other : ℕ) → ps ≡ map (renumbered (slots_named ws)) ws → ns ≡ with_slot (slots_named ws) (Slot 0) → other ≡ index_in ns 0 → (x : ℕ) → get_or ps x (Slot other) ≡ placing ws x
places_are ws ps ns other e f g x =
    ap (λ qs. get_or qs x (Slot other)) e ∙ ap (λ n. get_or (map (renumbered (slots_named ws)) ws) x (Slot n)) (g ∙ ap (λ ks. index_in ks 0) f ∙ index_kept (slots_named ws) 0) ∙ moved_at (renumbered (slots_named ws)) ws x

-- ---- one turn over the places of a choice

pub count_turn : (at rs ws : List Where) (w : Where) (ns ms : List ℕ) → rs ≡ w ∷ ws → ms ≡ with_slot ns w → length ns + length rs ≤ length at → length ms + length ws ≤ length at
count_turn at rs ws w ns ms e f le = let a = with_count w ns in let b = ap length e in let c = ap length f in omega (arith, a, b, c, le)

pub named_turn : (all : List ℕ) (rs ws : List Where) (w : Where) (ns ms : List ℕ) → rs ≡ w ∷ ws → ms ≡ with_slot ns w → slots_from ns rs ≡ all → slots_from ms ws ≡ all
named_turn all rs ws w ns ms e f g = ap (λ ks. slots_from ks ws) f ∙ sym (ap (slots_from ns) e) ∙ g

place_more : (xs zs : List Where) (y : Where) → (xs ++ y ∷ []) ++ zs ≡ xs ++ y ∷ zs
place_more [] zs y = refl
place_more (x ∷ xs) zs y = ap (λ ws. x ∷ ws) (place_more xs zs y)

pub place_turn : (all : List ℕ) (rs ws : List Where) (w : Where) (ns ms : List ℕ) (ps qs end : List Where) (p : Where) → rs ≡ w ∷ ws → ms ≡ with_slot ns w → p ≡ renumbered ms w → qs ≡ ps ++ p ∷ [] → slots_from ns rs ≡ all → ps ++ map (renumbered all) rs ≡ end → qs ++ map (renumbered all) ws ≡ end
place_turn all rs ws w ns ms ps qs end p e f g h i j =
    ap (λ zs. zs ++ map (renumbered all) ws) h ∙ place_more ps (map (renumbered all) ws) p
    ∙ ap (λ q. ps ++ q ∷ map (renumbered all) ws) (place_now all w ws ns ms p (sym (ap (slots_from ns) e) ∙ i) f g)
    ∙ sym (ap (λ zs. ps ++ map (renumbered all) zs) e) ∙ j
