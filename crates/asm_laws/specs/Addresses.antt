-- What operations do to the words at addresses and in registers.
use Rattle.std.specs.Prelude.{ℕ, ◌≡◌, ◌+◌, ◌-◌, ◌<◌, ◌≤◌, Bool, true, ◌&&◌, ◌||◌, false, nat_lt, nat_le, List, [], ◌∷◌, length, Option, Some, None}
use Rattle.std.specs.Prelude.{get_or, slice_index}
use Rattle.kit_base.specs.declared.event.Event.{Event}
use Rattle.kit_base.specs.declared.event.Event.TheVariants as event
use Rattle.kit_base.specs.Word.{add, sub}
use Rattle.v32_isa.specs.declared.instruction.One.{One as OneOf}
use Rattle.v32_isa.specs.declared.instruction.One.TheVariants.{PUSH, POP, CMPS, CIB, NOT, BNOT, ISGN, IABS}
use Rattle.v32_isa.specs.Arithmetic.{one_of, two_of}
use Rattle.v32_isa.specs.Ports.{is_readable, is_writable}
use Rattle.v32_isa.specs.State.{State, register_of, written, is_in_ram, word_at}
use Rattle.v32_isa.specs.Runs.{Run, run}
use Rattle.v32_isa.specs.Runs as run
use Rattle.v32_isa.specs.Runs.End.{Halted, Fault, Starved}
use Rattle.mid_code.specs.declared.placed.Where.{Where}
use Rattle.mid_code.specs.declared.placed.Where.TheVariants.{Reg, Slot}
use Rattle.mid_code.specs.Code.{OpT, ConstO, NullO, MoveO, OneO, TwoO, GlobalO, LocalO, LiteralO, CardO, StepO, ApartO, PtrTestO, LoadO, StoreO}
use Rattle.mid_code.specs.Code.{FreshO, EndO, InO, OutO, WaitO, HaltO}
use Rattle.asm_laws.specs.Names.{literal_label}
use Rattle.asm_laws.specs.Operations.{Frame, Whole}
use Rattle.v32_isa.specs.Calls.{Link, Nested}
use Rattle.v32_isa.proofs.Steps.{Moves}

-- the registers that temporaries stand in, the word at each address, the end of the frame, the top of the stack
pub record Addr : Type 0 where
  pub regs : ℕ → ℕ
  pub memory : ℕ → ℕ
  pub base : ℕ
  pub top : ℕ

-- the program, and whether a card is connected
pub record Console : Type 0 where
  pub words : List ℕ
  pub has_card : Bool

abbrev pub in_program : Console → ℕ → Bool
in_program C q = nat_le 0x20000000 q && nat_lt q (0x20000000 + length C.words)

abbrev pub in_card : Console → ℕ → Bool
in_card C q = C.has_card && (nat_le 0x30000000 q && nat_lt q 0x30040000)

unfoldable pub readable : Console → ℕ → Bool
readable C q = is_in_ram q || (in_program C q || in_card C q)

unfoldable pub writable : Console → ℕ → Bool
writable C q = is_in_ram q || in_card C q

-- a slot stands at its offset from the frame's lowest word
abbrev pub slot_address : Frame → ℕ → Addr → ℕ
slot_address F k a = a.base - (F.size - get_or F.slots k k)

abbrev pub word_of : Frame → Where → Addr → ℕ
word_of F (Reg r) a = a.regs r
word_of F (Slot k) a = a.memory (slot_address F k a)

abbrev pub store : ℕ → ℕ → Addr → Addr
store q v a = record a { memory = written a.memory q v }

abbrev pub put : Frame → Where → ℕ → Addr → Addr
put F (Reg r) v a = record a { regs = written a.regs r v }
put F (Slot k) v a = store (slot_address F k a) v a

-- the same words with others in registers
abbrev pub having : (ℕ → ℕ) → Addr → Addr
having registers a = record a { regs = registers }

-- the frame lies in RAM, on the stack
pub record Room (F : Frame) (a : Addr) : Type 0 where
  pub top : a.top + F.depth ≡ a.base
  pub low : F.size ≤ a.base
  pub high : a.base ≤ 0x400000

-- a register of temporaries, or a slot inside the frame
abbrev pub Good : Frame → Where → Type 0
Good F (Reg r) = r < 9
Good F (Slot k) = get_or F.slots k k < F.size

-- an operation goes on with these events and answers left, or the run ends
pub data Does : Type 0 where
  Goes : (events : List Event) (left : List ℕ) (to : Addr) → Does
  Ends : (how : run.End) → Does

abbrev pub computed : Frame → Where → Option ℕ → List ℕ → Addr → Does
computed F t None xs a = Ends (Fault 6)
computed F t (Some v) xs a = Goes [] xs (put F t v a)

abbrev pub local_address : Frame → ℕ → Addr → ℕ
local_address F k a = a.base - (F.size - get_or F.locals k 0)

abbrev pub loaded : Bool → Frame → Where → ℕ → List ℕ → Addr → Does
loaded true F t v xs a = Goes [] xs (put F t v a)
loaded false F t v xs a = Ends (Fault 0)

abbrev pub saved : Bool → ℕ → ℕ → List ℕ → Addr → Does
saved true q v xs a = Goes [] xs (store q v a)
saved false q v xs a = Ends (Fault 1)

abbrev pub asked : Frame → Where → ℕ → List ℕ → Addr → Does
asked F t port [] a = Ends Starved
asked F t port (x ∷ xs) a = Goes (event.In port x ∷ []) xs (put F t x a)

-- what an operation but a call does
unfoldable pub does : Console → (List ℕ → ℕ) → Whole → Frame → OpT Where → List ℕ → Addr → Does
does C address W F (ConstO t n) xs a = Goes [] xs (put F t n a)
does C address W F (NullO t) xs a = Goes [] xs (put F t 0xFFFFFFFF a)
does C address W F (MoveO t p) xs a = Goes [] xs (put F t (word_of F p a) a)
does C address W F (OneO o t p) xs a = computed F t (one_of o (word_of F p a)) xs a
does C address W F (TwoO o t p q) xs a = computed F t (two_of o (word_of F p a) (word_of F q a)) xs a
does C address W F (GlobalO t k) xs a = Goes [] xs (put F t (get_or W.globals k 0) a)
does C address W F (LocalO t k) xs a = Goes [] xs (put F t (local_address F k a) a)
does C address W F (LiteralO t k) xs a = Goes [] xs (put F t (address (literal_label k)) a)
does C address W F (CardO t) xs a = Goes [] xs (put F t 0x30000000 a)
does C address W F (StepO t p n) xs a = Goes [] xs (put F t (add (word_of F p a) (word_of F n a)) a)
does C address W F (ApartO t p q) xs a = Goes [] xs (put F t (sub (word_of F p a) (word_of F q a)) a)
does C address W F (PtrTestO o t p q) xs a = computed F t (two_of o (word_of F p a) (word_of F q a)) xs a
does C address W F (LoadO t p) xs a = loaded (readable C (word_of F p a)) F t (a.memory (word_of F p a)) xs a
does C address W F (StoreO p q) xs a = saved (writable C (word_of F p a)) (word_of F p a) (word_of F q a) xs a
does C address W F (FreshO k) xs a = Goes [] xs a
does C address W F (EndO k) xs a = Goes [] xs a
does C address W F (InO t port) xs a = asked F t port xs a
does C address W F (OutO port p) xs a = Goes (event.Out port (word_of F p a) ∷ []) xs a
does C address W F WaitO xs a = Goes (event.Wait ∷ []) xs a
does C address W F HaltO xs a = Ends Halted

-- the operations on one word that code may use
abbrev pub IsPlainOne : OneOf → Type 0
IsPlainOne PUSH = ⊥
IsPlainOne POP = ⊥
IsPlainOne CMPS = ⊥
IsPlainOne CIB = Unit {0}
IsPlainOne NOT = Unit {0}
IsPlainOne BNOT = Unit {0}
IsPlainOne ISGN = Unit {0}
IsPlainOne IABS = Unit {0}

-- an operation but a call, with places, locals and ports that are there
abbrev pub GoodOp : Frame → OpT Where → Type 0
GoodOp F (ConstO t n) = Good F t
GoodOp F (NullO t) = Good F t
GoodOp F (MoveO t p) = Good F t × Good F p
GoodOp F (OneO o t p) = IsPlainOne o × Good F t × Good F p
GoodOp F (TwoO o t p q) = Good F t × Good F p × Good F q
GoodOp F (GlobalO t k) = Good F t
GoodOp F (LocalO t k) = Good F t × (get_or F.locals k 0 < F.size)
GoodOp F (LiteralO t k) = Good F t
GoodOp F (CardO t) = Good F t
GoodOp F (StepO t p n) = Good F t × Good F p × Good F n
GoodOp F (ApartO t p q) = Good F t × Good F p × Good F q
GoodOp F (PtrTestO o t p q) = Good F t × Good F p × Good F q
GoodOp F (LoadO t p) = Good F t × Good F p
GoodOp F (StoreO p q) = Good F p × Good F q
GoodOp F (FreshO k) = Unit {0}
GoodOp F (EndO k) = Unit {0}
GoodOp F (InO t port) = Good F t × (port < 16384) × (is_readable port ≡ true)
GoodOp F (OutO port p) = Good F p × (port < 16384) × (is_writable port ≡ true)
GoodOp F WaitO = Unit {0}
GoodOp F HaltO = Unit {0}

-- a state of the machine holds the words, with the program among them
pub record Held (C : Console) (a : Addr) (s : State) : Type 0 where
  pub program_length : s.program_length ≡ length C.words
  pub card : s.has_card ≡ C.has_card
  pub short : length C.words < 0x10000000
  pub text : (j : ℕ) → j < length C.words → s.memory (0x20000000 + j) ≡ slice_index C.words j
  pub sixteen : length s.registers ≡ 16
  pub regs : (r : ℕ) → r < 9 → register_of s r ≡ a.regs r
  pub top : register_of s 15 ≡ a.top
  pub memory : (q : ℕ) → s.memory q ≡ a.memory q

-- in at most so many steps the machine comes to an address, holding the words that the operation leaves; and the innermost calls in progress before and
-- after, which are the same but in a call and on the way back
pub record ArrivesBy (ins outs : List Link) (C : Console) (limit : ℕ) (s : State) (xs : List ℕ) (pc : ℕ) (es : List Event) (ys : List ℕ)
    (a : Addr) : Type 0 where
  pub steps : ℕ
  pub to : State
  pub by : Moves ins outs steps s xs es to ys
  pub at : to.counter ≡ pc
  pub held : Held C a to
  pub few : steps ≤ limit

abbrev pub Arrives : Console → (limit : ℕ) → State → List ℕ → (pc : ℕ) → List Event → List ℕ → Addr → Type 0
Arrives C limit s xs pc es ys a = ArrivesBy [] [] C limit s xs pc es ys a

-- in so many steps the run has ended, with memory as a machine reads it that holds the words
pub record HasEnded (C : Console) (limit : ℕ) (s : State) (xs : List ℕ) (how : run.End) (a : Addr) : Type 0 where
  pub steps : ℕ
  pub to : State
  pub by : (n : ℕ) → run (steps + n) s xs ≡ record { events = []; end = how; state = to }
  pub nested : (ls : List Link) → Nested steps ls s xs
  pub shown : State
  pub held : Held C a shown
  pub memory : (q : ℕ) → word_at to q ≡ word_at shown q
  pub few : steps ≤ limit

abbrev pub Follows : Console → ℕ → State → List ℕ → ℕ → Addr → Does → Type 0
Follows C limit s xs pc a (Goes es ys b) = Arrives C limit s xs pc es ys b
Follows C limit s xs pc a (Ends how) = HasEnded C limit s xs how a
