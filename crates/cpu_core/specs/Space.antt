-- The words that the processor keeps, and the memory that they stand for.
use Rattle.std.specs.Prelude.{ℕ, ◌-◌, ◌<◌, ◌≤◌, ◌≡◌, List, [], length, Option, if◌then◌else◌, is_some, nat_lt, slice_index}
use Rattle.std.specs.Option.{option_map, ForSome}
use Rattle.std.specs.declared.vec.Vec.{Vec}
use Rattle.std.specs.declared.alloc.Global.{Global}
use Rattle.v32_isa.specs.State.{State}
use Rattle.v32_isa.specs.Runs.{card_word}

-- RAM, the program, and the memory card where one is connected
pub record Space : Type 0 where
  pub ram : List ℕ
  pub program : List ℕ
  pub card : Option (List ℕ)

-- RAM has 4,194,304 words, the program 1 to 33,554,432, the card 262,144
pub record IsSized (s : Space) : Type 0 where
  pub ram : length s.ram ≡ 0x400000
  pub some_program : 0 < length s.program
  pub program : length s.program ≤ 0x2000000
  pub card : ForSome s.card (λ words. length words ≡ 0x40000)

-- a card's words
abbrev pub words_of : Option (Vec ℕ Global) → Option (List ℕ)
words_of card = option_map (λ v. v.items) card

-- the words by their addresses: RAM from 0, the program from 0x20000000, the card from 0x30000000
unfoldable pub memory_of : Space → ℕ → ℕ
memory_of s address =
    if nat_lt address 0x20000000 then slice_index s.ram address
    else (if nat_lt address 0x30000000 then slice_index s.program (address - 0x20000000)
    else card_word s.card (address - 0x30000000))

-- the state of that memory, with no registers and the counter at 0
abbrev pub memory_state : Space → State
memory_state s = record {
  counter = 0;
  registers = [];
  memory = memory_of s;
  program_length = length s.program;
  has_card = is_some s.card;
}
