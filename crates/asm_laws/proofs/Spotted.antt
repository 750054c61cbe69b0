-- What the spots of placed code give: each local has a word, and no two words of a frame share an offset; the words of the emitter's own are the
-- frame's last ones.
use Rattle.std.proofs.Common.{◌≡◌, ℕ, zero, suc, ◌+◌, ◌<◌, ◌≤◌, List, [], ◌∷◌, length, sym, subst, arith}
use Rattle.std.specs.Prelude.{get_or}
use Rattle.std.proofs.lemmas.Option.{slice_get-get_or}
use Rattle.mid_code.specs.declared.placed.Where.{Where}
use Rattle.mid_code.specs.Placed.{SpotsT, PlacedT}
use Rattle.mid_code.specs.Code.{FunctionT, CodeT}
use Rattle.mid_code.specs.States.{no_function, function_at}
use Rattle.mid_code.specs.Invariants.{AreSpots, AllSpots, HasSlot, AllOf, Names, StandsAt, slot, local, OfSlot, OfLocal, IsFunction, IsPlace, IsPlaced}
use Rattle.asm_laws.specs.Tables.{spots_at, count_of}

pub spots_of : (sizes : List ℕ) (fs : List (FunctionT Where)) (ss : List SpotsT) (f : ℕ) (d : SpotsT) → AllSpots sizes fs ss → f < length fs →
    AreSpots (get_or sizes f 0) (get_or fs f no_function) (get_or ss f d) × Names (HasSlot (get_or ss f d)) (get_or fs f no_function).body × AllOf (HasSlot (get_or ss f d)) (get_or fs f no_function).params
spots_of [] [] [] f d h lt = absurd (omega (arith, lt))
spots_of [] [] (c ∷ cs) f d h lt = absurd h
spots_of [] (b ∷ bs) cs f d h lt = absurd h
spots_of (a ∷ as1) [] cs f d h lt = absurd h
spots_of (a ∷ as1) (b ∷ bs) [] f d h lt = absurd h
spots_of (a ∷ as1) (b ∷ bs) (c ∷ cs) zero d h lt = (h.0, h.1, h.2)
spots_of (a ∷ as1) (b ∷ bs) (c ∷ cs) (suc f) d h lt = spots_of as1 bs cs f d h.3 (omega (arith, lt))

pub function_is : (named : FunctionT Where → Where → Type 0) (x : CodeT Where) (fs : List (FunctionT Where)) (f : ℕ) → AllOf (IsFunction named x) fs → f < length fs → IsFunction named x (get_or fs f no_function)
function_is named x [] f h lt = absurd (omega (arith, lt))
function_is named x (g ∷ fs) zero h lt = h.0
function_is named x (g ∷ fs) (suc f) h lt = function_is named x fs f h.1 (omega (arith, lt))

some_words : (ns : List ℕ) (k : ℕ) → AllOf (λ n. 1 ≤ n) ns → k < length ns → 1 ≤ get_or ns k 0
some_words [] k h lt = absurd (omega (arith, lt))
some_words (n ∷ ns) zero h lt = h.0
some_words (n ∷ ns) (suc k) h lt = some_words ns k h.1 (omega (arith, lt))

pub record Conventions (x : PlacedT) : Type 0 where
  pub locals_some : (f k : ℕ) → f < count_of x → k < length (function_at x.code f).locals → 0 < get_or (function_at x.code f).locals k 0
  pub locals_apart : (f j k i h : ℕ) → f < count_of x → j < length (function_at x.code f).locals → k < length (function_at x.code f).locals → i < get_or (function_at x.code f).locals j 0 → h < get_or (function_at x.code f).locals k 0 → get_or (spots_at x f).locals j 0 + i ≡ get_or (spots_at x f).locals k 0 + h → j ≡ k

module _ (x : PlacedT) (placed : IsPlaced x) where
  pub spots_here : (f : ℕ) → f < count_of x → AreSpots (get_or x.frames f 0) (function_at x.code f) (spots_at x f)
  spots_here f lt = (spots_of x.frames x.code.functions x.spots f (record { slots = []; locals = []; own = [] }) placed.spots lt).0

  pub slot_stands : (f k : ℕ) → k < length (spots_at x f).slots → StandsAt (spots_at x f) (function_at x.code f) (OfSlot k) (get_or (spots_at x f).slots k k)
  slot_stands f k lt = slot (slice_get-get_or (spots_at x f).slots k k lt)

  pub local_stands : (f j i : ℕ) → f < count_of x → j < length (function_at x.code f).locals → i < get_or (function_at x.code f).locals j 0 → StandsAt (spots_at x f) (function_at x.code f) (OfLocal j i) (get_or (spots_at x f).locals j 0 + i)
  local_stands f j i lf lt li = let n = (spots_here f lf).locals in local (slice_get-get_or (spots_at x f).locals j 0 (omega (arith, n, lt))) (slice_get-get_or (function_at x.code f).locals j 0 lt) li

  locals_apart : (f j k i h : ℕ) → f < count_of x → j < length (function_at x.code f).locals → k < length (function_at x.code f).locals → i < get_or (function_at x.code f).locals j 0 → h < get_or (function_at x.code f).locals k 0 → get_or (spots_at x f).locals j 0 + i ≡ get_or (spots_at x f).locals k 0 + h → j ≡ k
  locals_apart f j k i h lf lj lk li lh e =
      let m : OfLocal j i ≡ OfLocal k h = (spots_here f lf).apart (local_stands f j i lf lj li) (subst (λ q. StandsAt (spots_at x f) (function_at x.code f) (OfLocal k h) q) (sym e) (local_stands f k h lf lk lh)) in cc

  pub conventions : Conventions x
  conventions = record {
    locals_some = λ f k lf lt. some_words (function_at x.code f).locals k (function_is IsPlace x.code x.code.functions f placed.code.functions lf).sizes lt;
    locals_apart = λ f j k i h lf lj lk li lh e. locals_apart f j k i h lf lj lk li lh e;
  }
