-- The state of the processor and of its memory between two instructions (the system specification, sections on
-- the processor's registers and on the memory map).
use Rattle.std.specs.Prelude.{ℕ, ◌+◌, ◌==◌, Bool, ◌&&◌, ◌||◌, List, Option, Some, None, if◌then◌else◌, nat_lt, nat_le, slice_index, slice_set}

-- the program counter, sixteen registers, the words by their addresses, the number of words of the program,
-- and whether a memory card is connected
pub record State : Type 0 where
  pub counter : ℕ
  pub registers : List ℕ
  pub memory : ℕ → ℕ
  pub program_length : ℕ
  pub has_card : Bool

-- the registers that instructions use by their names: the count, source and destination of the copying
-- instructions, and the stack pointer
abbrev pub cr : ℕ
cr = 11

abbrev pub sr : ℕ
sr = 12

abbrev pub dr : ℕ
dr = 13

abbrev pub sp : ℕ
sp = 15

abbrev pub register_of : State → ℕ → ℕ
register_of s r = slice_index s.registers r

abbrev pub with_register : ℕ → ℕ → State → State
with_register r word s = record s { registers = slice_set s.registers r word }

abbrev pub going_to : ℕ → State → State
going_to address s = record s { counter = address }

-- RAM has 4,194,304 words from 0, the program stands from 0x20000000, the card has 262,144 words from 0x30000000
abbrev pub is_in_ram : ℕ → Bool
is_in_ram address = nat_lt address 0x400000

abbrev pub is_in_program : State → ℕ → Bool
is_in_program s address = nat_le 0x20000000 address && nat_lt address (0x20000000 + s.program_length)

abbrev pub is_in_card : State → ℕ → Bool
is_in_card s address = s.has_card && (nat_le 0x30000000 address && nat_lt address 0x30040000)

-- where a word can be read, and where one can be written
unfoldable pub is_readable_at : State → ℕ → Bool
is_readable_at s address = is_in_ram address || (is_in_program s address || is_in_card s address)

unfoldable pub is_writable_at : State → ℕ → Bool
is_writable_at s address = is_in_ram address || is_in_card s address

-- the word at an address, where it can be read
unfoldable pub word_at : State → ℕ → Option ℕ
word_at s address = if is_readable_at s address then Some (s.memory address) else None

-- the words with one of them replaced
unfoldable pub written : (ℕ → ℕ) → ℕ → ℕ → ℕ → ℕ
written memory address word place = if place == address then word else memory place

-- the state with a word stored at an address
abbrev pub stored : State → ℕ → ℕ → State
stored s address word = record s { memory = written s.memory address word }
