-- Numbers of places, as code finds them.
use Rattle.std.proofs.Common.{◌≡◌, ℕ, zero, suc, ◌+◌, ◌<◌, ◌≤◌, Bool, true, false, ltb, List, [], ◌∷◌, ◌++◌, length, map, get_or, replicate, refl, ap, sym, ◌∙◌, subst, arith}
use Rattle.std.specs.List.{fold, sum_by}
use Rattle.std.specs.List.Sorted.{IsPermutation, IsPartitionPoint}
use Rattle.std.proofs.lemmas.List.Sorted.{sum_by-IsPermutation}
use Rattle.std.proofs.lemmas.Bool.{false≢true, true≢false}
use Rattle.mid_code.specs.declared.placed.Where.{Where}
use Rattle.mid_code.specs.declared.placed.Where.TheVariants.{Reg, Slot}
use Rattle.mid_code.specs.Safe.{place_of, IsChosen, AllPlaces}
use Rattle.reg_choose.specs.inner.Scan.{one}
use Rattle.mid_live.specs.Sets.{on, room}
use Rattle.reg_choose.specs.inner.Holding.{below, slots_in, number_of, number_at, IsPlan, Stands}

-- how many are lower is found by adding
fold_more : (f : ℕ → ℕ) (a : ℕ) (ms : List ℕ) → fold (λ b m. b + f m) a ms ≡ a + fold (λ b m. b + f m) 0 ms
fold_more f a [] = omega arith
fold_more f a (m ∷ ms) = (let p = fold_more f (a + f m) ms in let q = fold_more f (0 + f m) ms in omega (arith, p, q))

below_sum : (k : ℕ) (ms : List ℕ) → below k ms ≡ sum_by (λ m. one (ltb m k)) ms
below_sum k [] = refl
below_sum k (m ∷ ms) = (let a = below_sum k ms in let b = fold_more (λ m. one (ltb m k)) (0 + one (ltb m k)) ms in omega (arith, a, b))

pub below_order : (k : ℕ) (xs ys : List ℕ) → IsPermutation xs ys → below k ys ≡ below k xs
below_order k xs ys p = below_sum k ys ∙ sum_by-IsPermutation (λ m. one (ltb m k)) xs ys p ∙ sym (below_sum k xs)

none_below : (ms : List ℕ) (k : ℕ) → ((j d : ℕ) → j < length ms → ltb (get_or ms j d) k ≡ false) → below k ms ≡ 0
none_below [] k h = refl
none_below (m ∷ ms) k h = (let a = ap one (h 0 0 (omega arith)) in let b = none_below ms k (λ j d l. h (suc j) d (omega (arith, l))) in omega (arith, a, b))

-- the place where a list is parted by a number tells how many are lower
pub point_below : (ms : List ℕ) (k i : ℕ) → i ≤ length ms → IsPartitionPoint (λ y. ltb y k ≡ true) (λ y. ltb y k ≡ false) ms i → i ≡ below k ms
point_below [] k i l h = omega (arith, l)
point_below (m ∷ ms) k zero l h = sym (none_below (m ∷ ms) k (λ j d b. h.1 j d (omega arith) b))
point_below (m ∷ ms) k (suc i) l h =
    let a = ap one (h.0 0 0 (omega arith) (omega arith)) in
    let b = point_below ms k i (omega (arith, l)) ((λ j d p q. h.0 (suc j) d (omega arith) (omega (arith, q))), (λ j d p q. h.1 (suc j) d (omega (arith, p)) (omega (arith, q)))) in
    omega (arith, a, b)

-- ---- the plan

chosen_reg : (ws : List Where) (x r : ℕ) → AllPlaces IsChosen ws → place_of ws x ≡ Reg r → r < 9
chosen_reg [] x r c e = absurd (true≢false (sym (ap is_reg e)))
  where
    is_reg : Where → Bool
    is_reg (Reg n) = true
    is_reg (Slot n) = false
chosen_reg (w ∷ ws) zero r c e = subst IsChosen e c.0
chosen_reg (w ∷ ws) (suc x) r c e = chosen_reg ws x r c.1 e

mapped : (f : Where → ℕ) (ws : List Where) (v x d : ℕ) → x < length ws → get_or (map f ws ++ v ∷ []) x d ≡ f (place_of ws x)
mapped f [] v x d h = absurd (omega (arith, h))
mapped f (w ∷ ws) v zero d h = refl
mapped f (w ∷ ws) v (suc x) d h = mapped f ws v x d (omega (arith, h))

mapped_end : (f : Where → ℕ) (ws : List Where) (v d : ℕ) → get_or (map f ws ++ v ∷ []) (length ws) d ≡ v
mapped_end f [] v d = refl
mapped_end f (w ∷ ws) v d = mapped_end f ws v d

mapped_long : (f : Where → ℕ) (ws : List Where) (v : ℕ) → length (map f ws ++ v ∷ []) ≡ suc (length ws)
mapped_long f [] v = refl
mapped_long f (w ∷ ws) v = ap suc (mapped_long f ws v)

none_at : (ws : List Where) (x : ℕ) → length ws ≤ x → place_of ws x ≡ Slot 0
none_at [] x h = refl
none_at (w ∷ ws) zero h = absurd (omega (arith, h))
none_at (w ∷ ws) (suc x) h = none_at ws x (omega (arith, h))

number_like : (ms ns : List ℕ) (w : Where) → ((k : ℕ) → below k ms ≡ below k ns) → number_of ms w ≡ number_of ns w
number_like ms ns (Reg r) i = refl
number_like ms ns (Slot k) i = ap (λ z. 9 + z) (i k)

pub is_plan : (ws : List Where) (ms ns : List ℕ) → ((k : ℕ) → below k ms ≡ below k (0 ∷ slots_in ws)) → AllPlaces IsChosen ws → ns ≡ map (number_of ms) ws ++ number_of ms (Slot 0) ∷ [] → IsPlan ws ns
unfolding number_at
is_plan ws ms ns i c e = record {
  long = ap length e ∙ mapped_long (number_of ms) ws (number_of ms (Slot 0));
  is = λ x d h. ap (λ z. get_or z x d) e ∙ mapped (number_of ms) ws (number_of ms (Slot 0)) x d h ∙ number_like ms (0 ∷ slots_in ws) (place_of ws x) i;
  other = λ x d h. ap (λ z. get_or z (length ws) d) e ∙ mapped_end (number_of ms) ws (number_of ms (Slot 0)) d ∙ number_like ms (0 ∷ slots_in ws) (Slot 0) i ∙ ap (number_of (0 ∷ slots_in ws)) (sym (none_at ws x h));
  chosen = λ x r q. chosen_reg ws x r c q;
}

-- ---- no holders

pub slots_few : (ws : List Where) → length (slots_in ws) ≤ length ws
slots_few [] = omega arith
slots_few (Reg r ∷ ws) = (let a = slots_few ws in omega (arith, a))
slots_few (Slot k ∷ ws) = (let a = slots_few ws in omega (arith, a))

one_most : (b : Bool) → one b ≤ 1
one_most true = omega arith
one_most false = omega arith

below_most : (k : ℕ) (ms : List ℕ) → below k ms ≤ length ms
below_most k [] = omega arith
below_most k (m ∷ ms) = (let a = one_most (ltb m k) in let b = below_most k ms in omega (arith, a, b))

number_most : (ms : List ℕ) (w : Where) → IsChosen w → number_of ms w < 10 + length ms
number_most ms (Reg r) h = omega (arith, h)
number_most ms (Slot k) h = (let a = below_most k ms in omega (arith, a))

zeros : (n i : ℕ) → get_or {A = ℕ} (replicate n 0) i 0 ≡ 0
zeros zero i = refl
zeros (suc n) zero = refl
zeros (suc n) (suc i) = zeros n i

chosen_at : (ws : List Where) (x : ℕ) → AllPlaces IsChosen ws → IsChosen (place_of ws x)
chosen_at [] x c = tt
chosen_at (w ∷ ws) zero c = c.0
chosen_at (w ∷ ws) (suc x) c = chosen_at ws x c.1

pub none_stands : (ws : List Where) (s : List ℕ) (m : ℕ) → AllPlaces IsChosen ws → length ws ≤ room s → ((y : ℕ) → on s y ≡ false) → m ≡ length (slots_in ws) + 11 → Stands ws s (replicate m 0)
unfolding number_at
none_stands ws s m c r e l = record {
  wide = r;
  nine = (let a = replicate_long m in omega (arith, a, l));
  numbers = λ x. (let a = replicate_long m in let b = number_most (0 ∷ slots_in ws) (place_of ws x) (chosen_at ws x c) in omega (arith, a, b, l));
  holds = λ x h o. absurd (false≢true (sym (e x) ∙ o));
  held = λ k x o. absurd (let a = zeros m k in omega (arith, a, o));
}
  where
    replicate_long : (m : ℕ) → length {A = ℕ} (replicate m 0) ≡ m
    replicate_long zero = refl
    replicate_long (suc m) = ap suc (replicate_long m)
