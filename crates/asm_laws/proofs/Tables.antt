-- Placed code with its spots fits its frames.
use Rattle.std.proofs.Common.{◌≡◌, ◌≢◌, ℕ, zero, suc, ◌+◌, ◌-◌, ◌<◌, ◌≤◌, inl, inr, Bool, true, false, List, [], ◌∷◌, length, Some, None, refl, sym, ap, ◌∙◌, subst, arith}
use Rattle.std.specs.Prelude.{get_or, cond, ltb, eqb, sum}
use Rattle.std.proofs.lemmas.Bool.{lt-ltb}
use Rattle.std.proofs.lemmas.List.{length-map}
use Rattle.mid_code.specs.Placed.{PlacedT}
use Rattle.mid_code.specs.States.{function_at}
use Rattle.mid_code.specs.Invariants.{AreSpots, StandsAt, OfSlot, OfLocal, IsPlaced}
use Rattle.asm_laws.specs.Names.{literal_label}
use Rattle.asm_laws.specs.Holds.{Setting, Fits}
use Rattle.asm_laws.specs.Laid.{spread, literal_sizes}
use Rattle.asm_laws.specs.Linked.{setting}
use Rattle.asm_laws.specs.Tables.{Number, OfFunction, OfStart, OfRest, number_of, spots_at, frame_for, slot_for, called_for, locals_for, addresses, fixed_for, count_of, plan_of}
use Rattle.asm_laws.proofs.Spotted.{Conventions, conventions, spots_here, slot_stands, local_stands}
use Rattle.asm_laws.proofs.Words.{below_not}
use Rattle.asm_laws.proofs.Lists.{below_or_not}
use Rattle.asm_laws.proofs.Opening.{spread_in}

pub number_function : (count f : ℕ) → f < count → number_of count f ≡ OfFunction
number_function count f lt = ap (λ b. cond b OfFunction (cond (eqb f count) OfStart OfRest)) (lt-ltb f count lt)

pub function_number : (count f : ℕ) → number_of count f ≡ OfFunction → f < count
function_number count f e = elim (below_not f count) [ inl b ↦ b.0 | inr b ↦ absurd (go (eqb f count) (sym (ap (λ t. cond t OfFunction (cond (eqb f count) OfStart OfRest)) b) ∙ e)) ]
  where
    go : (t : Bool) → cond t OfStart OfRest ≡ OfFunction → ⊥
    go true e = cc
    go false e = cc

pub address_is : (ns : List ℕ) (p k : ℕ) → k < length ns → get_or (addresses p ns) k 0 ≡ spread ns p k
address_is [] p k lt = absurd (omega (arith, lt))
address_is (n ∷ ns) p zero lt = refl
address_is (n ∷ ns) p (suc k) lt = address_is ns (p + n) k (omega (arith, lt))

module _ (x : PlacedT) (placed : IsPlaced x) (names : List (List ℕ)) (address : List ℕ → ℕ) (enters leaves : ℕ → ℕ) (first : ℕ) (words : List ℕ) (has_card : Bool) where
  abbrev S : Setting
  S = setting (plan_of x names address enters leaves first) words has_card

  abbrev F : ℕ
  F = count_of x

  abbrev Is : Number → ℕ → Type 0
  Is n f = n ≡ OfFunction → f < count_of x

  is : (f : ℕ) → Is (number_of F f) f
  is f = function_number F f

  spots : (f : ℕ) → f < F → AreSpots (get_or x.frames f 0) (function_at x.code f) (spots_at x f)
  spots f lt = spots_here x placed f lt

  conv : Conventions x
  conv = conventions x placed

  slot_in : (n : Number) (f k : ℕ) → Is n f → slot_for x n f k → get_or (frame_for x n f).slots k k < (frame_for x n f).size
  slot_in OfFunction f k is h = (spots f (is refl)).below (slot_stands x placed f k h)
  slot_in OfStart f k is h = h
  slot_in OfRest f k is h = absurd h

  slot_apart : (n : Number) (f j k : ℕ) → Is n f → slot_for x n f j → slot_for x n f k → get_or (frame_for x n f).slots j j ≡ get_or (frame_for x n f).slots k k → j ≡ k
  slot_apart OfFunction f j k is hj hk e =
      let m : OfSlot j ≡ OfSlot k = (spots f (is refl)).apart (slot_stands x placed f j hj) (subst (λ q. StandsAt (spots_at x f) (function_at x.code f) (OfSlot k) q) (sym e) (slot_stands x placed f k hk)) in cc
  slot_apart OfStart f j k is hj hk e = e
  slot_apart OfRest f j k is hj hk e = absurd hj

  slot_local : (n : Number) (f k j i : ℕ) → Is n f → slot_for x n f k → j < length (locals_for x n f) → i < get_or (locals_for x n f) j 0 → get_or (frame_for x n f).slots k k ≢ get_or (frame_for x n f).locals j 0 + i
  slot_local OfFunction f k j i is hk lj li e =
      let m : OfSlot k ≡ OfLocal j i = (spots f (is refl)).apart (slot_stands x placed f k hk) (subst (λ q. StandsAt (spots_at x f) (function_at x.code f) (OfLocal j i) q) (sym e) (local_stands x placed f j i (is refl) lj li)) in cc
  slot_local OfStart f k j i is hk lj li e = absurd (omega (arith, lj))
  slot_local OfRest f k j i is hk lj li e = absurd hk

  local_in : (n : Number) (f j : ℕ) → Is n f → j < length (locals_for x n f) → get_or (frame_for x n f).locals j 0 + get_or (locals_for x n f) j 0 ≤ (frame_for x n f).size
  local_in OfFunction f j is lt =
      let w = conv.locals_some f j (is refl) lt in
      let b = (spots f (is refl)).below (local_stands x placed f j (get_or (function_at x.code f).locals j 0 - 1) (is refl) lt (omega (arith, w))) in
      omega (arith, b, w)
  local_in OfStart f j is lt = absurd (omega (arith, lt))
  local_in OfRest f j is lt = absurd (omega (arith, lt))

  local_apart : (n : Number) (f j k i h : ℕ) → Is n f → j < length (locals_for x n f) → k < length (locals_for x n f) → i < get_or (locals_for x n f) j 0 → h < get_or (locals_for x n f) k 0 → get_or (frame_for x n f).locals j 0 + i ≡ get_or (frame_for x n f).locals k 0 + h → j ≡ k
  local_apart OfFunction f j k i h is a b c d e = conv.locals_apart f j k i h (is refl) a b c d e
  local_apart OfStart f j k i h is a b c d e = absurd (omega (arith, a))
  local_apart OfRest f j k i h is a b c d e = absurd (omega (arith, a))

  depth_in : (n : Number) (f : ℕ) → (frame_for x n f).depth ≤ (frame_for x n f).size
  depth_in OfFunction f = omega arith
  depth_in OfStart f = omega arith
  depth_in OfRest f = omega arith

  depth_is : (n : Number) (f j : ℕ) → j < length (locals_for x n f) → (frame_for x n f).depth ≡ (frame_for x n f).size
  depth_is OfFunction f j lt = refl
  depth_is OfStart f j lt = absurd (omega (arith, lt))
  depth_is OfRest f j lt = absurd (omega (arith, lt))

  locals_are : (n : Number) (f g : ℕ) → called_for n f ≡ Some g → locals_for x n f ≡ (function_at x.code g).locals
  locals_are OfFunction f g e = let q : f ≡ g = cc in ap (λ z. (function_at x.code z).locals) q
  locals_are OfStart f g e = cc
  locals_are OfRest f g e = cc

  locals_none : (n : Number) (f : ℕ) → called_for n f ≡ None → locals_for x n f ≡ []
  locals_none OfFunction f e = cc
  locals_none OfStart f e = refl
  locals_none OfRest f e = refl

  -- ---- fixed addresses

  pub fixed_global : (k : ℕ) → k < length x.code.globals → fixed_for x first k ≡ spread x.code.globals 0 k
  fixed_global k lt = ap (λ b. cond b (spread x.code.globals 0 k) (cond (ltb k (length x.code.globals + length x.code.literals)) (spread (literal_sizes x.code.literals) first (k - length x.code.globals)) 0x30000000)) (lt-ltb k (length x.code.globals) lt)

  ltb_not : (a b : ℕ) → b ≤ a → ltb a b ≡ false
  ltb_not a b le = elim (below_not a b) [ inl q ↦ absurd (omega (arith, q.0, le)) | inr q ↦ q ]

  pub fixed_literal : (k : ℕ) → k < length x.code.literals → fixed_for x first (length x.code.globals + k) ≡ spread (literal_sizes x.code.literals) first k
  fixed_literal k lt =
      let o = length x.code.globals + k in
      let d : o - length x.code.globals ≡ k = omega arith in
      ap (λ b. cond b (spread x.code.globals 0 o) (cond (ltb o (length x.code.globals + length x.code.literals)) (spread (literal_sizes x.code.literals) first (o - length x.code.globals)) 0x30000000)) (ltb_not o (length x.code.globals) (omega arith))
      ∙ ap (λ b. cond b (spread (literal_sizes x.code.literals) first (o - length x.code.globals)) 0x30000000) (lt-ltb o (length x.code.globals + length x.code.literals) (omega (arith, lt))) ∙ ap (spread (literal_sizes x.code.literals) first) d

  pub fixed_card : (o : ℕ) → length x.code.globals + length x.code.literals ≤ o → fixed_for x first o ≡ 0x30000000
  fixed_card o le =
      ap (λ b. cond b (spread x.code.globals 0 o) (cond (ltb o (length x.code.globals + length x.code.literals)) (spread (literal_sizes x.code.literals) first (o - length x.code.globals)) 0x30000000)) (ltb_not o (length x.code.globals) (omega (arith, le)))
      ∙ ap (λ b. cond b (spread (literal_sizes x.code.literals) first (o - length x.code.globals)) 0x30000000) (ltb_not o (length x.code.globals + length x.code.literals) le)

  module _ (few : sum x.code.globals ≤ 3145728) (upto : first + sum (literal_sizes x.code.literals) ≤ 0x20000000 + length words) (short : length words < 0x10000000) (labels : (k : ℕ) → k < length x.code.literals → address (literal_label k) ≡ spread (literal_sizes x.code.literals) first k) where
    small : (o : ℕ) → o < length x.code.globals + length x.code.literals + 1 → fixed_for x first o < 0x40000000
    small o lt = elim (below_or_not o (length x.code.globals)) [
      | inl b ↦ let r = spread_in x.code.globals 0 o b in let f = fixed_global o b in omega (arith, r, f, few)
      | inr b ↦ elim (below_or_not o (length x.code.globals + length x.code.literals)) [
        | inl c ↦
            let k = o - length x.code.globals in
            let n = length-map x.code.literals (λ text. length text + 1) in
            let kl : k < length x.code.literals = omega (arith, b, c) in
            let r = spread_in (literal_sizes x.code.literals) first k (omega (arith, kl, n)) in
            let e : length x.code.globals + k ≡ o = omega (arith, b) in
            let f : fixed_for x first o ≡ spread (literal_sizes x.code.literals) first k = ap (fixed_for x first) (sym e) ∙ fixed_literal k kl in
            omega (arith, r, f, upto, short)
        | inr c ↦ let f = fixed_card o c in omega (arith, f)
      ]
    ]

    -- placed code fits its frames
    pub fits : Fits S
    fits = record {
      slot_in = λ f k h. slot_in (number_of F f) f k (is f) h;
      slot_apart = λ f j k hj hk e. slot_apart (number_of F f) f j k (is f) hj hk e;
      slot_local = λ f k j i hk lj li. slot_local (number_of F f) f k j i (is f) hk lj li;
      local_in = λ f j lt. local_in (number_of F f) f j (is f) lt;
      local_apart = λ f j k i h a b c d e. local_apart (number_of F f) f j k i h (is f) a b c d e;
      depth_in = λ f. depth_in (number_of F f) f;
      depth_is = λ f j lt. depth_is (number_of F f) f j lt;
      locals_are = λ f g e. locals_are (number_of F f) f g e;
      locals_none = λ f e. locals_none (number_of F f) f e;
      globals_at = λ k lt. (omega (arith, lt), address_is x.code.globals 0 k lt ∙ sym (fixed_global k lt));
      literals_at = λ k lt. (omega (arith, lt), labels k lt ∙ sym (fixed_literal k lt));
      card_at = (omega arith, fixed_card (length x.code.globals + length x.code.literals) (omega arith));
      fixed_small = small;
      short = short;
    }
