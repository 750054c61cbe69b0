-- Loops that only ask for one more turn, where a register is not 0, and are left then with 0 in it.
use Rattle.std.specs.Prelude.{ℕ, ◌==◌, ◌&&◌, nat_lt, cond, Bool, false, List, Option, Some, None}
use Rattle.either.specs.declared.Either.TheVariants.{Left}
use Rattle.v32_isa.specs.declared.instruction.Mov.TheVariants.{RegImm}
use Rattle.v32_isa.specs.declared.instruction.Instr.TheVariants as instr
use Rattle.asm_items.specs.declared.item.AsmItem.{AsmItem}
use Rattle.asm_items.specs.declared.item.AsmItem.TheVariants as item
use Rattle.mid_code.specs.declared.placed.Where.{Where}
use Rattle.mid_code.specs.declared.placed.Where.TheVariants.{Reg}
use Rattle.mid_code.specs.Code.{NodesT, Do, Choose, Loop, ConstO}
use Rattle.asm_laws.specs.Pieces.{register}
use Rattle.asm_laws.specs.Copies.{ends_here, turns_here, when}

-- ---- the loop

-- the register takes 0, and the next turn of the loop begins
abbrev pub clears : (flag : ℕ) → NodesT Where → Bool
clears f (Do (ConstO (Reg t) n) c) = (t == f) && ((n == 0) && turns_here c)
clears f _ = false

abbrev pub is_ask : (flag : ℕ) → (first other behind : NodesT Where) → Bool
is_ask f a b c = nat_lt f 9 && (clears f a && (ends_here b && ends_here c))

-- the register of a turn of such a loop
unfoldable pub ask_of : NodesT Where → Option ℕ
ask_of (Choose (Reg f) a b c) = cond (is_ask f a b c) (Some f) None
ask_of _ = None

abbrev pub is_flag : Option ℕ → (register : ℕ) → Bool
is_flag None r = false
is_flag (Some f) r = r == f

-- ---- the operations before it

-- whether only known words are put into registers before such a loop with this register
unfoldable pub asks_soon : (register : ℕ) → NodesT Where → Bool
asks_soon r (Do (ConstO (Reg q) n) c) = asks_soon r c
asks_soon r (Loop b c) = is_flag (ask_of b) r
asks_soon r _ = false

-- The word that an operation puts into the register of such a loop is not asked for, since the loop leaves 0 there.
unfoldable pub is_unread : NodesT Where → Bool
is_unread (Do (ConstO (Reg r) n) c) = asks_soon r c
is_unread _ = false

-- ---- its instructions

-- none, or one where its register is asked for behind it, which is 0 then
abbrev pub asked_items : (flag : ℕ) → (asked : Bool) → List AsmItem
asked_items f asked = when asked (item.Op (instr.Mov (RegImm (register f) (Left 0))))

abbrev pub ask_or : Option ℕ → (asked : ℕ → Bool) → (other : List AsmItem) → List AsmItem
ask_or None J other = other
ask_or (Some f) J other = asked_items f (J f)
