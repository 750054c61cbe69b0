-- The card that the processor keeps is that of its state.
use Rattle.std.proofs.Common.{ℕ, ◌+◌, ◌-◌, ◌≡◌, List, Option, Some, None, refl, sym, arith}
use Rattle.std.specs.Prelude.{slice_index}
use Rattle.cpu_core.specs.Space.{Space, IsSized, memory_of}
use Rattle.cpu_core.specs.Machine.{Machine, state_of, HasCard}
use Rattle.cpu_core.proofs.Spaces.{lt_no}

card_place : (s : Space) (card : List ℕ) (k : ℕ) → Some card ≡ s.card → slice_index card k ≡ memory_of s (0x30000000 + k)
unfolding memory_of
card_place s card k e =
    let same : 0x30000000 + k - 0x30000000 ≡ k = omega arith in
    rw (← e, lt_no (0x30000000 + k) 0x20000000 (omega arith), lt_no (0x30000000 + k) 0x30000000 (omega arith), same) refl

pub card_shown : (m : Machine) (card : Option (List ℕ)) → card ≡ m.memory.card → IsSized m.memory → HasCard (state_of m) card
unfolding state_of
card_shown m None e sized = rw (← e) refl
card_shown m (Some card) e sized = record {
  connected = rw (← e) refl;
  room = sized.card card (sym e);
  words_are = λ k h. card_place m.memory card k e;
}
