-- The instructions of each operation of placed code.
use Rattle.std.specs.Prelude.{ℕ, zero, suc, ◌+◌, ◌%◌, ◌==◌, ◌&&◌, not, cond, Bool, false, List, [], ◌∷◌, ◌++◌, map, Option, Some, None, get_or, option_map}
use Rattle.either.specs.declared.Either.TheVariants.{Left, Right}
use Rattle.kit_base.specs.Word.{add, sub}
use Rattle.v32_isa.specs.declared.instruction.Plain.TheVariants.{HLT, WAIT}
use Rattle.v32_isa.specs.declared.instruction.Go.TheVariants.{CALL}
use Rattle.v32_isa.specs.declared.instruction.One.{One as OneOf}
use Rattle.v32_isa.specs.declared.instruction.Two.{Two as TwoOf}
use Rattle.v32_isa.specs.declared.instruction.Two.TheVariants.{IADD, ISUB}
use Rattle.v32_isa.specs.declared.instruction.Src.TheVariants as src
use Rattle.v32_isa.specs.declared.instruction.Mov.TheVariants.{RegImm, RegReg, RegAt, RegAtReg, RegAtOff, AtReg, AtRegReg, AtOffReg}
use Rattle.v32_isa.specs.declared.instruction.Instr.{Instr}
use Rattle.v32_isa.specs.declared.instruction.Instr.TheVariants as instr
use Rattle.asm_items.specs.declared.item.AsmItem.{AsmItem}
use Rattle.asm_items.specs.declared.item.AsmItem.TheVariants as item
use Rattle.asm_items.specs.Items.{Imm}
use Rattle.mid_code.specs.declared.placed.Where.{Where}
use Rattle.mid_code.specs.declared.placed.Where.TheVariants.{Reg, Slot}
use Rattle.mid_code.specs.Placed.{is_same_place}
use Rattle.mid_code.specs.Code.{NodesT, Do, Return, OpT, ConstO, NullO, MoveO, OneO, TwoO, GlobalO, LocalO, LiteralO, CardO, StepO, ApartO, PtrTestO, LoadO}
use Rattle.mid_code.specs.Code.{StoreO, FreshO, EndO, InO, OutO, WaitO, HaltO}
use Rattle.asm_laws.specs.Names.{literal_label, function_label}
use Rattle.asm_laws.specs.Moves.{Move, in_order}
use Rattle.asm_laws.specs.declared.used.Used.{Used}
use Rattle.asm_laws.specs.declared.used.Used.TheVariants.{Computed, Loaded, Indexed, Offset, Element, Stored, Sent}
use Rattle.asm_laws.specs.Pieces.{register, is_in, turned, other_word, loads_there}
use Rattle.asm_laws.specs.declared.made.Made.{Made}
use Rattle.asm_laws.specs.declared.made.Made.TheVariants.{Both, Known}
use Rattle.asm_laws.specs.Spare.{operand, used_by}
use Rattle.asm_laws.specs.declared.copying.Copying.{Copying}
use Rattle.asm_laws.specs.Copies.{lead, put_into, is_left, goes_to, move_items}
use Rattle.asm_laws.specs.Asks.{is_unread}
use Rattle.asm_laws.specs.Live.{all_last, asked_behind}
use Rattle.asm_laws.specs.declared.access.Base.{Base}
use Rattle.asm_laws.specs.declared.access.Base.TheVariants.{Local, Place}
use Rattle.asm_laws.specs.declared.access.Address.{Address}
use Rattle.asm_laws.specs.declared.access.Transfer.{Transfer}
use Rattle.asm_laws.specs.declared.access.Transfer.TheVariants.{Load, Store}
use Rattle.asm_laws.specs.Accesses.{accessed}

-- the frame of a function: its size, and the offsets of its slots and of its locals' first words. Offset 0 is the
-- frame's lowest word. A slot that is not listed has its number as its offset. So many of its words are on the stack: all, but none of the start's
pub record Frame : Type 0 where
  pub slots : List ℕ
  pub locals : List ℕ
  pub size : ℕ
  pub depth : ℕ
  -- how many registers, from the first one on, hold places between operations: 9, or 8 where register 8 is spare
  pub registers : ℕ
  -- and which of the first nine do between stretches of nodes
  pub lasting : List Bool

-- the frame of each function, the places that take its arguments, its name, the addresses of the globals
pub record Whole : Type 0 where
  pub frames : ℕ → Frame
  pub params : ℕ → List Where
  pub names : List (List ℕ)
  pub globals : List ℕ

-- what is added to the stack's top for the word at an offset
abbrev pub word_at : Frame → ℕ → ℕ
word_at F offset = sub (add offset F.depth) F.size

abbrev pub slot_word : Frame → ℕ → ℕ
slot_word F k = word_at F (get_or F.slots k k)

abbrev pub local_word : Frame → ℕ → ℕ
local_word F k = word_at F (get_or F.locals k 0)

-- a number as that of a port
abbrev pub port : ℕ → ℕ
port p = p % 16384

-- register r takes the word of a place, or a place takes the word of register r; SP, which is 15, is the stack's top
abbrev pub fetch : Frame → Where → ℕ → Instr Imm
fetch F (Reg q) r = instr.Mov (RegReg r (register q))
fetch F (Slot k) r = instr.Mov (RegAtOff r 15 (Left (slot_word F k)))

abbrev pub keep : Frame → Where → ℕ → Instr Imm
keep F (Reg q) r = instr.Mov (RegReg (register q) r)
keep F (Slot k) r = instr.Mov (AtOffReg 15 (Left (slot_word F k)) r)

-- an item that is an instruction, and one that copies a word from a place to a place
abbrev pub fetches : Frame → Where → ℕ → AsmItem
fetches F p r = item.Op (fetch F p r)

abbrev pub keeps : Frame → Where → AsmItem
keeps F t = item.Op (keep F t 9)

abbrev pub keeps_some : Frame → Option Where → List AsmItem
keeps_some F None = []
keeps_some F (Some t) = keeps F t ∷ []

-- ---- words where they stand

-- The word of a place is brought into a register: its own, else the one that is given.
abbrev pub hand : Where → ℕ → ℕ
hand (Reg q) r = register q
hand (Slot k) r = r

abbrev pub brings : Frame → Where → ℕ → List AsmItem
brings F (Reg q) r = []
brings F (Slot k) r = fetches F (Slot k) r ∷ []

-- A register takes the word of a place, where it is not that place.
abbrev pub takes : Frame → Where → ℕ → List AsmItem
takes F p r = cond (is_in p r) [] (fetches F p r ∷ [])

-- A word for a place is made in a register: its own, else register 9, from where it is laid at the place.
abbrev pub aim : Where → ℕ
aim (Reg q) = register q
aim (Slot k) = 9

abbrev pub lays : Frame → Where → List AsmItem
lays F (Reg q) = []
lays F (Slot k) = keeps F (Slot k) ∷ []

-- ---- operations

-- a word is put at a place
abbrev pub sets : Frame → Where → Imm → List AsmItem
sets F t i = item.Op (instr.Mov (RegImm (aim t) i)) ∷ lays F t

-- a word is copied
abbrev pub moves : Frame → Where → Where → List AsmItem
moves F t (Reg q) = cond (is_in t (register q)) [] (item.Op (keep F t (register q)) ∷ [])
moves F t (Slot k) = fetches F (Slot k) (aim t) ∷ lays F t

-- an operator on one word
abbrev pub changes : Frame → OneOf → Where → Where → List AsmItem
changes F o t a = takes F a (aim t) ++ item.Op (instr.One o (aim t)) ∷ lays F t

-- An operator works in the register of its target, where the second word does not stand there.
abbrev pub is_direct : Where → Where → Bool
is_direct (Slot k) b = false
is_direct (Reg q) b = not (is_in b (register q))

abbrev pub in_place : Frame → TwoOf → (target : ℕ) → Where → Where → List AsmItem
in_place F o m a b = takes F a m ++ (brings F b 10 ++ item.Op (instr.Two o m (src.Reg (hand b 10))) ∷ [])

abbrev pub apart : Frame → TwoOf → Where → Where → Where → List AsmItem
apart F o t a b = fetches F a 9 ∷ (brings F b 10 ++ item.Op (instr.Two o 9 (src.Reg (hand b 10))) ∷ keeps F t ∷ [])

-- Where the second word stands in the register of the target, and the first one does not, such an operator works there with its words the other way round.
abbrev pub is_turned : Where → Where → Where → Bool
is_turned (Slot k) a b = false
is_turned (Reg q) a b = is_in b (register q) && not (is_in a (register q))

abbrev pub turned_or_apart : Frame → TwoOf → Option TwoOf → Where → Where → Where → List AsmItem
turned_or_apart F o None t a b = apart F o t a b
turned_or_apart F o (Some u) t a b = cond (is_turned t a b) (in_place F u (aim t) b a) (apart F o t a b)

-- a word computed of two words is put at a place
abbrev pub computes : Frame → TwoOf → Where → Where → Where → List AsmItem
computes F o t a b = cond (is_direct t b) (in_place F o (aim t) a b) (turned_or_apart F o (turned o) t a b)

-- ---- calls

-- the arguments that go into slots stand in the frame that the call will have, below the address that it leaves
abbrev pub arg_word : Frame → ℕ → ℕ
arg_word G k = sub (sub (get_or G.slots k k) G.size) 1

abbrev pub slot_arg : Frame → Frame → Where → Where → List AsmItem
slot_arg F G (Reg q) a = []
slot_arg F G (Slot k) a = brings F a 9 ++ item.Op (instr.Mov (AtOffReg 15 (Left (arg_word G k)) (hand a 9))) ∷ []

abbrev pub slot_args : Frame → Frame → List Where → List Where → List AsmItem
slot_args F G [] args = []
slot_args F G (p ∷ ps) [] = []
slot_args F G (p ∷ ps) (a ∷ args) = slot_arg F G p a ++ slot_args F G ps args

-- the registers take the words of places one after another
abbrev pub moved_items : Frame → List Move → List AsmItem
moved_items F [] = []
moved_items F ((t, s) ∷ ms) = fetches F s (register t) ∷ moved_items F ms

abbrev pub args_items : Frame → Frame → List Where → List Where → List AsmItem
args_items F G ps args = slot_args F G ps args ++ moved_items F (in_order ps args)

abbrev pub call_items : Whole → Frame → Option Where → ℕ → List Where → List AsmItem
call_items W F t g args =
    args_items F (W.frames g) (W.params g) args
    ++ item.Op (instr.Go CALL (src.Imm (Right (function_label W.names g)))) ∷ keeps_some F t

-- ---- all operations

unfoldable pub op_items : Whole → Frame → OpT Where → List AsmItem
op_items W F (ConstO t n) = sets F t (Left n)
op_items W F (NullO t) = sets F t (Left 0xFFFFFFFF)
op_items W F (MoveO t a) = moves F t a
op_items W F (OneO o t a) = changes F o t a
op_items W F (TwoO o t a b) = computes F o t a b
op_items W F (GlobalO t k) = sets F t (Left (get_or W.globals k 0))
op_items W F (LocalO t k) = item.Op (instr.Lea (aim t) 15 (Some (Left (local_word F k)))) ∷ lays F t
op_items W F (LiteralO t k) = sets F t (Right (literal_label k))
op_items W F (CardO t) = sets F t (Left 0x30000000)
op_items W F (StepO t p n) = computes F IADD t p n
op_items W F (ApartO t p q) = computes F ISUB t p q
op_items W F (PtrTestO o t p q) = computes F o t p q
op_items W F (LoadO t p) = brings F p 9 ++ item.Op (instr.Mov (RegAtReg (aim t) (hand p 9))) ∷ lays F t
op_items W F (StoreO p a) = brings F p 9 ++ (brings F a 10 ++ item.Op (instr.Mov (AtRegReg (hand p 9) (hand a 10))) ∷ [])
op_items W F (FreshO k) = []
op_items W F (EndO k) = []
op_items W F (InO t p) = item.Op (instr.In (aim t) (port p)) ∷ lays F t
op_items W F (OutO p a) = brings F a 9 ++ item.Op (instr.Out (port p) (src.Reg (hand a 9))) ∷ []
op_items W F WaitO = item.Op (instr.Plain WAIT) ∷ []
op_items W F HaltO = item.Op (instr.Plain HLT) ∷ []

-- ---- operations done in one go

-- the register into which an operation puts a word that is known, and the word
abbrev pub word_put : Whole → OpT Where → Option (ℕ × ℕ)
word_put W (ConstO (Reg r) n) = Some (register r, n)
word_put W (GlobalO (Reg r) k) = Some (register r, get_or W.globals k 0)
word_put W _ = None

-- the register of the first word, where a target and the second word stand in register r, and the first one does not
abbrev pub first_word : ℕ → (target first second : Where) → Option ℕ
first_word r (Reg t) (Reg a) (Reg b) = cond (register t == r) (cond (register b == r) (cond (register a == r) None (Some (register a))) None) None
first_word r _ _ _ = None

abbrev pub sum_of : TwoOf → ℕ → ℕ → (target first second : Where) → Option (ℕ × ℕ)
sum_of IADD r w t a b = option_map (λ q. (q, w)) (other_word r t a b)
sum_of ISUB r w t a b = option_map (λ q. (q, sub 0 w)) (first_word r t a b)
sum_of _ r w t a b = None

-- A register and a word: their sum is what an operation makes in register r, which holds w before.
abbrev pub summed : ℕ → ℕ → OpT Where → Option (ℕ × ℕ)
summed r w (TwoO o t a b) = sum_of o r w t a b
summed r w (StepO t p n) = sum_of IADD r w t p n
summed r w _ = None

-- the place of the first word, where a target and the second word stand in register r, and the first one does not
abbrev pub first_place : ℕ → (target first second : Where) → Option Where
first_place r t a b = cond (is_in t r && (is_in b r && not (is_in a r))) (Some a) None

abbrev pub in_slot : Where → Option Where
in_slot (Reg q) = None
in_slot (Slot k) = Some (Slot k)

-- An operator works on its first word, which stands at such a place, and on a second one that was put into register r, where it puts what it makes: the first
-- word is copied there, and the known one stands in the instruction. An operator that can be turned round needs no copy of a word that stands in a register.
abbrev pub unturned : Option TwoOf → Option Where → Option Where
unturned None p = p
unturned (Some u) None = None
unturned (Some u) (Some p) = in_slot p

abbrev pub copied : Frame → ℕ → ℕ → TwoOf → Option Where → Option (ℕ × Option (Instr Imm) × Instr Imm)
copied F r w o None = None
copied F r w o (Some p) = Some (1, Some (fetch F p r), instr.Two o r (src.Imm (Left w)))

-- the same of an address and what is added to it, and of a load from there into register r, where that comes next
abbrev pub copied_address : Frame → ℕ → ℕ → Option Where → NodesT Where → Option (ℕ × Option (Instr Imm) × Instr Imm)
copied_address F r w None c = None
copied_address F r w (Some p) c =
    Some (cond (loads_there r c) (2, Some (fetch F p r), instr.Mov (RegAtOff r r (Left w))) (1, Some (fetch F p r), instr.Two IADD r (src.Imm (Left w))))

abbrev pub with_copy : Frame → ℕ → ℕ → OpT Where → NodesT Where → Option (ℕ × Option (Instr Imm) × Instr Imm)
with_copy F r w (TwoO o t a b) c = copied F r w o (unturned (turned o) (first_place r t a b))
with_copy F r w (StepO t p n) c = copied_address F r w (unturned (Some IADD) (first_place r t p n)) c
with_copy F r w _ c = None

-- The operations behind a first one that are done together with it, how many they are, and the instruction that does all, with one before it where
-- there is one. A known word is put into a register, and then another register's is added to it there: a `LEA` does both. Where that is the address of a
-- load into the same register, one `MOV` does all three.
abbrev pub with_sum : ℕ → Option (ℕ × ℕ) → (other : Option (ℕ × Option (Instr Imm) × Instr Imm)) → NodesT Where → Option (ℕ × Option (Instr Imm) × Instr Imm)
with_sum r None other c = other
with_sum r (Some (q, v)) other c = Some (cond (loads_there r c) (2, None, instr.Mov (RegAtOff r q (Left v))) (1, None, instr.Lea r q (Some (Left v))))

abbrev pub with_word : Frame → Option (ℕ × ℕ) → OpT Where → NodesT Where → Option (ℕ × Option (Instr Imm) × Instr Imm)
with_word F None p c = None
with_word F (Some (r, w)) p c = with_sum r (summed r w p) (with_copy F r w p c) c

-- ---- a known word in a register that is spare

-- the instruction that comes first where a register takes the word of a place, or the word of a place is brought there
abbrev pub taken : Frame → Where → ℕ → Option (Instr Imm)
taken F p r = cond (is_in p r) None (Some (fetch F p r))

abbrev pub brought : Frame → Where → ℕ → Option (Instr Imm)
brought F (Reg q) r = None
brought F (Slot k) r = Some (fetch F (Slot k) r)

abbrev pub either : Option (Instr Imm) → Option (Instr Imm) → Option (Instr Imm)
either None i = i
either (Some i) _ = Some i

-- what is added where an operator works on a word and a known one
abbrev pub added : TwoOf → ℕ → Option ℕ
added IADD w = Some w
added ISUB w = Some (sub 0 w)
added _ w = None

abbrev pub known : Frame → TwoOf → ℕ → Where → ℕ → Option ℕ → Option (Instr Imm) × Instr Imm
known F o t (Reg q) w (Some v) = (None, instr.Lea t (register q) (Some (Left v)))
known F o t p w _ = (taken F p t, instr.Two o t (src.Imm (Left w)))

-- what an operator adds that adds a word or takes it away
abbrev pub addend : TwoOf → ℕ → ℕ
addend ISUB w = sub 0 w
addend _ w = w

-- the instruction that uses a known word, behind one where there is one; the globals stand at these addresses
abbrev pub using_it : (globals : List ℕ) → Frame → ℕ → Used → Option (Instr Imm) × Instr Imm
using_it gs F w (Computed o t p) = known F o t p w (added o w)
using_it gs F w (Loaded t None) = (None, instr.Mov (RegAt t (Left w)))
using_it gs F w (Loaded t (Some p)) = (brought F p 9, instr.Mov (RegAtOff t (hand p 9) (Left w)))
using_it gs F w (Indexed t q) = (Some (instr.Two IADD t (src.Reg q)), instr.Mov (RegAtOff t t (Left w)))
using_it gs F w (Offset t p n) = (brought F p 9, instr.Mov (RegAtOff t (hand p 9) (Left (add w n))))
using_it gs F w (Element o t p k) = (brought F p 9, instr.Mov (RegAtOff t (hand p 9) (Left (add (addend o w) (get_or gs k 0)))))
using_it gs F w (Stored None a) = (brought F a 10, instr.Mov (AtReg (Left w) (hand a 10)))
using_it gs F w (Stored (Some p) a) = (either (brought F p 9) (brought F a 10), instr.Mov (AtOffReg (hand p 9) (Left w) (hand a 10)))
using_it gs F w (Sent p) = (None, instr.Out (port p) (src.Imm (Left w)))

abbrev pub is_spared : Frame → Option (ℕ × ℕ) → Bool
is_spared F None = false
is_spared F (Some (r, w)) = (F.registers == 8) && (r == 8)

abbrev pub with_known : (globals : List ℕ) → Frame → Option (ℕ × ℕ) → Option (ℕ × Used) → Option (ℕ × Option (Instr Imm) × Instr Imm)
with_known gs F (Some (r, w)) (Some (k, u)) = Some (k, (using_it gs F w u).0, (using_it gs F w u).1)
with_known gs F _ _ = None

-- the operations behind a first one, which may put a known word there
abbrev pub with_more : (globals : List ℕ) → Frame → Option (ℕ × ℕ) → OpT Where → NodesT Where → Option (ℕ × Option (Instr Imm) × Instr Imm)
with_more gs F put p c = cond (is_spared F put) (with_known gs F put (used_by (Do p c))) (with_word F put p c)

abbrev pub with_next : Whole → Frame → OpT Where → NodesT Where → Option (ℕ × Option (Instr Imm) × Instr Imm)
with_next W F o (Do p c) = with_more W.globals F (word_put W o) p c
with_next W F o _ = None

-- ---- accesses at addresses that nothing else asks for

-- the access at such an address, behind an instruction that brings a word out of a slot where one stands there
abbrev pub access_item : Frame → Base → (offset : ℕ) → Transfer → Option (Instr Imm) × Instr Imm
access_item F (Local k) n (Load v) = (None, instr.Mov (RegAtOff (register v) 15 (Left (add (local_word F k) n))))
access_item F (Local k) n (Store a) = (brought F a 10, instr.Mov (AtOffReg 15 (Left (add (local_word F k) n)) (hand a 10)))
access_item F (Place p) n (Load v) = (brought F p 9, instr.Mov (RegAtOff (register v) (hand p 9) (Left n)))
access_item F (Place p) n (Store a) = (either (brought F p 9) (brought F a 10), instr.Mov (AtOffReg (hand p 9) (Left n) (hand a 10)))

abbrev pub with_access : Frame → Option (ℕ × Address × Transfer) → (other : Option (ℕ × Option (Instr Imm) × Instr Imm))
    → Option (ℕ × Option (Instr Imm) × Instr Imm)
with_access F None other = other
with_access F (Some (k, y, x)) other = Some (k, (access_item F y.base y.offset x).0, (access_item F y.base y.offset x).1)

-- what does an operation together with some of those behind it, where there is something
unfoldable pub in_one : Whole → Frame → OpT Where → NodesT Where → Option (ℕ × Option (Instr Imm) × Instr Imm)
in_one W F o c = with_access F (accessed F.lasting F.registers o c) (with_next W F o c)

-- the items of an operation, and of those that are done together with it; how many these are
abbrev pub before_it : Option (Instr Imm) → List AsmItem
before_it None = []
before_it (Some i) = item.Op i ∷ []

abbrev pub one_or_more : Whole → Frame → OpT Where → Option (ℕ × Option (Instr Imm) × Instr Imm) → List AsmItem
one_or_more W F o None = op_items W F o
one_or_more W F o (Some (more, first, i)) = before_it first ++ item.Op i ∷ []

abbrev pub more_of : Option (ℕ × Option (Instr Imm) × Instr Imm) → ℕ
more_of None = 0
more_of (Some (more, first, i)) = more

-- The operations that come first before a loop that copies words put each its word where it goes, so many of them, but for a word that the loop leaves.
abbrev pub word_items : Whole → Frame → Copying → OpT Where → List AsmItem
word_items W F y (ConstO (Reg r) n) = sets F (Reg (goes_to y r)) (Left n)
word_items W F y (GlobalO (Reg r) k) = sets F (Reg (goes_to y r)) (Left (get_or W.globals k 0))
word_items W F y (LocalO (Reg r) k) = item.Op (instr.Lea (aim (Reg (goes_to y r))) 15 (Some (Left (local_word F k)))) ∷ []
word_items W F y (MoveO (Reg r) p) = moves F (Reg (goes_to y r)) p
word_items W F y o = []

abbrev pub unless_left : Copying → (asked : Bool) → Option ℕ → List AsmItem → List AsmItem
unless_left y asked None xs = xs
unless_left y asked (Some r) xs = cond (is_left y asked r) [] xs

abbrev pub put_items : Whole → Frame → Copying → (asked : Bool) → OpT Where → List AsmItem
put_items W F y asked o = unless_left y asked (put_into o) (word_items W F y o)

abbrev pub puts_items : Whole → Frame → Copying → (asked : Bool) → NodesT Where → (count : ℕ) → List AsmItem
puts_items W F y asked (Do o c) (suc k) = put_items W F y asked o ++ puts_items W F y asked c k
puts_items W F y asked _ k = []

-- The items of an operation and of those that are done with it, and how many are; before such a loop that is one of these.
abbrev pub led_items : Whole → Frame → OpT Where → NodesT Where → Option (ℕ × Copying) → List AsmItem
led_items W F o c None = one_or_more W F o (in_one W F o c)
led_items W F o c (Some (k, y)) = puts_items W F y (asked_behind F.lasting c y.one) (Do o c) k ++ move_items y (Do o c)

abbrev pub led_more : Whole → Frame → OpT Where → NodesT Where → Option (ℕ × Copying) → ℕ
led_more W F o c None = more_of (in_one W F o c)
led_more W F o c (Some (k, y)) = k

-- no items where the word that it puts somewhere is not asked for
abbrev pub group_items : Whole → Frame → OpT Where → NodesT Where → List AsmItem
group_items W F o c = cond (is_unread (Do o c)) [] (led_items W F o c (lead (Do o c)))

abbrev pub group_more : Whole → Frame → OpT Where → NodesT Where → ℕ
group_more W F o c = cond (is_unread (Do o c)) 0 (led_more W F o c (lead (Do o c)))

-- ---- results

-- a result is given back in register 9
abbrev pub giving : Frame → Option Where → List AsmItem
giving F None = []
giving F (Some p) = fetches F p 9 ∷ []

-- where it does not stand there already
abbrev pub giving_left : Frame → Option Where → (done : ℕ) → List AsmItem
giving_left F p zero = giving F p
giving_left F p (suc k) = []

-- the place whose word the first of some nodes gives back
abbrev pub given_first : NodesT Where → Option Where
given_first (Return p c) = p
given_first _ = None

-- An operator whose word is given back right behind it makes it in register 9: of the words of two places, or of that of a place and a known word, which was
-- put into register 8 right before where that is spare. How many nodes behind the first one are done then.
abbrev pub made_both : OpT Where → Option Where → Option (ℕ × Made)
made_both (TwoO o t a b) (Some p) = cond (is_same_place p t) (Some (1, Both o a b)) None
made_both _ _ = None

abbrev pub made_known : Frame → (given : Option Where) → Where → Option (ℕ × ℕ) → Option (TwoOf × Where) → Option (ℕ × Made)
made_known F (Some p) t (Some (r, w)) (Some (o, q)) = cond (is_spared F (Some (r, w)) && is_same_place p t) (Some (2, Known o q w)) None
made_known F _ t _ _ = None

abbrev pub made_with : Frame → Option (ℕ × ℕ) → NodesT Where → Option (ℕ × Made)
made_with F put (Do (TwoO o t a b) c) = made_known F (given_first c) t put (operand o a b)
made_with F put _ = None

abbrev pub first_made : Option (ℕ × Made) → Option (ℕ × Made) → Option (ℕ × Made)
first_made None y = y
first_made (Some x) y = Some x

unfoldable pub made_of : Whole → Frame → OpT Where → NodesT Where → Option (ℕ × Made)
made_of W F o c = first_made (made_both o (given_first c)) (made_with F (word_put W o) c)

abbrev pub made_items : Frame → Made → List AsmItem
made_items F (Both o a b) = fetches F a 9 ∷ (brings F b 10 ++ item.Op (instr.Two o 9 (src.Reg (hand b 10))) ∷ [])
made_items F (Known o a w) = before_it (known F o 9 a w (added o w)).0 ++ item.Op (known F o 9 a w (added o w)).1 ∷ []

-- the items of an operation that comes next, with all that is done with it, and how many nodes behind it are
abbrev pub made_or : Frame → Option (ℕ × Made) → (other : List AsmItem) → List AsmItem
made_or F None other = other
made_or F (Some (k, y)) other = made_items F y

abbrev pub made_more : Option (ℕ × Made) → (other : ℕ) → ℕ
made_more None k = k
made_more (Some (j, y)) k = j

abbrev pub next_items : Whole → Frame → OpT Where → NodesT Where → List AsmItem
next_items W F o c = made_or F (made_of W F o c) (group_items W F o c)

abbrev pub next_more : Whole → Frame → OpT Where → NodesT Where → ℕ
next_more W F o c = made_more (made_of W F o c) (group_more W F o c)

-- ---- the start and the literals

-- the start's slots lie where the frame of main comes to stand
abbrev pub start_frame : Frame
start_frame = record { slots = []; locals = []; size = 1000000; depth = 0; registers = 9; lasting = all_last }

-- a literal: its label, its words and a zero
abbrev pub literal_items : ℕ → List ℕ → List AsmItem
literal_items k text = item.Label (literal_label k) ∷ (map item.Integer text ++ item.Integer 0 ∷ [])

abbrev pub literals_items : ℕ → List (List ℕ) → List AsmItem
literals_items k [] = []
literals_items k (text ∷ texts) = literal_items k text ++ literals_items (k + 1) texts
