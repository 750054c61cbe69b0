-- The processor as contracts see it, and the state of the definitions that it stands for.
use Rattle.std.specs.Prelude.{ℕ, ◌+◌, ◌<◌, ◌≡◌, true, false, List, length, Option, Some, None, slice_index}
use Rattle.v32_isa.specs.State.{State}
use Rattle.cpu_core.specs.Space.{Space, memory_state}

pub record Machine : Type 0 where
  pub memory : Space
  pub registers : List ℕ
  pub counter : ℕ

-- the program counter, the registers, and the words by their addresses
unfoldable pub state_of : Machine → State
state_of m = record (memory_state m.memory) { counter = m.counter; registers = m.registers }

-- the words of the memory card in a state
pub record IsCard (s : State) (words : List ℕ) : Type 0 where
  pub connected : s.has_card ≡ true
  pub room : length words ≡ 0x40000
  pub words_are : (k : ℕ) → k < 0x40000 → slice_index words k ≡ s.memory (0x30000000 + k)

abbrev pub HasCard : State → Option (List ℕ) → Type 0
HasCard s None = s.has_card ≡ false
HasCard s (Some words) = IsCard s words
