-- Loops that copy words one by one, or fill them with one word, and the operations that put words into registers before them.
use Rattle.std.specs.Prelude.{ℕ, zero, suc, ◌+◌, ◌==◌, ◌&&◌, not, ◌||◌, nat_lt, cond, Bool, true, false, List, [], ◌∷◌, ◌++◌, Option, Some, None}
use Rattle.either.specs.declared.Either.TheVariants.{Left}
use Rattle.v32_isa.specs.declared.instruction.Plain.{Plain}
use Rattle.v32_isa.specs.declared.instruction.Plain.TheVariants.{MOVS, SETS}
use Rattle.v32_isa.specs.declared.instruction.Two.TheVariants.{ISUB}
use Rattle.v32_isa.specs.declared.instruction.Mov.TheVariants.{RegReg, RegAtReg}
use Rattle.v32_isa.specs.declared.instruction.Instr.TheVariants as instr
use Rattle.asm_items.specs.declared.item.AsmItem.{AsmItem}
use Rattle.asm_items.specs.declared.item.AsmItem.TheVariants as item
use Rattle.mid_code.specs.declared.placed.Where.{Where}
use Rattle.mid_code.specs.declared.placed.Where.TheVariants.{Reg, Slot}
use Rattle.mid_code.specs.Code.{NodesT, Stop, Do, Choose, Loop, Again}
use Rattle.mid_code.specs.Code.{OpT, ConstO, MoveO, TwoO, GlobalO, LocalO, StepO, LoadO, StoreO}
use Rattle.asm_laws.specs.declared.copying.Copying.{Copying}
use Rattle.asm_laws.specs.Pieces.{register}

-- ---- the loop

-- a register takes the sum of its own address and the word in another one
abbrev pub steps_by : (address one t p n : ℕ) → Bool
steps_by address one t p n = (t == address) && ((p == address) && (n == one))

abbrev pub ends_here : NodesT Where → Bool
ends_here Stop = true
ends_here _ = false

-- the next turn of the innermost loop begins, and nothing comes behind
abbrev pub turns_here : NodesT Where → Bool
turns_here (Again k c) = (k == 0) && ends_here c
turns_here _ = false

-- what is done in a turn that is not the last one: the address to write to goes one word on, and before it that to read from
abbrev pub steps_to : Copying → NodesT Where → Bool
steps_to y (Do (StepO (Reg t) (Reg p) (Reg n)) c) = steps_by y.to y.one t p n && turns_here c
steps_to y _ = false

abbrev pub steps_both : (from : ℕ) → Copying → NodesT Where → Bool
steps_both f y (Do (StepO (Reg t) (Reg p) (Reg n)) c) = steps_by f y.one t p n && steps_to y c
steps_both f y _ = false

abbrev pub steps_on : (from : Option ℕ) → Copying → NodesT Where → Bool
steps_on None y c = steps_to y c
steps_on (Some f) y c = steps_both f y c

abbrev pub goes_round : Copying → NodesT Where → Bool
goes_round y (Choose (Reg w) a b c) = ((w == y.count) && steps_on y.from y a) && (ends_here b && ends_here c)
goes_round y _ = false

-- the registers differ from one another and from register 8
abbrev pub four_differ : Copying → Bool
four_differ y = (not (y.to == y.cell) && (not (y.to == y.count) && (not (y.to == y.one) && not (y.to == 8))))
    && ((not (y.cell == y.count) && (not (y.cell == y.one) && not (y.cell == 8)))
    && ((not (y.count == y.one) && not (y.count == 8)) && not (y.one == 8)))

abbrev pub other_differs : (from : Option ℕ) → Copying → Bool
other_differs None y = true
other_differs (Some f) y = not (f == y.to) && (not (f == y.cell) && (not (f == y.count) && (not (f == y.one) && not (f == 8))))

abbrev pub differ : Copying → Bool
differ y = other_differs y.from y && four_differ y

abbrev pub is_copy : Copying → (x : ℕ) → NodesT Where → Bool
is_copy y x c = (x == y.count) && (goes_round y c && differ y)

abbrev pub copy_counted : (from : Option ℕ) → (to cell : ℕ) → NodesT Where → Option Copying
copy_counted from to cell (Do (TwoO ISUB (Reg t) (Reg x) (Reg n)) c) =
    cond (is_copy (record { from = from; to = to; cell = cell; count = t; one = n }) x c)
    (Some (record { from = from; to = to; cell = cell; count = t; one = n })) None
copy_counted from to cell _ = None

abbrev pub copy_stored : (from cell : ℕ) → NodesT Where → Option Copying
copy_stored from cell (Do (StoreO (Reg to) (Reg a)) c) = cond (a == cell) (copy_counted (Some from) to cell c) None
copy_stored from cell _ = None

-- the registers of a turn of such a loop
unfoldable pub copy_of : NodesT Where → Option Copying
copy_of (Do (LoadO (Reg cell) (Reg from)) c) = copy_stored from cell c
copy_of (Do (StoreO (Reg to) (Reg cell)) c) = copy_counted None to cell c
copy_of _ = None

-- ---- the operations before it

-- the register into which an operation puts a word that takes no more than one instruction
abbrev pub put_into : OpT Where → Option ℕ
put_into (ConstO (Reg r) n) = Some r
put_into (GlobalO (Reg r) k) = Some r
put_into (LocalO (Reg r) k) = Some r
put_into (MoveO (Reg r) p) = Some r
put_into _ = None

-- the registers of such a loop, where only operations of that kind come before it
unfoldable pub copy_after : NodesT Where → Option Copying
copy_after (Do (ConstO (Reg r) n) c) = copy_after c
copy_after (Do (GlobalO (Reg r) k) c) = copy_after c
copy_after (Do (LocalO (Reg r) k) c) = copy_after c
copy_after (Do (MoveO (Reg r) p) c) = copy_after c
copy_after (Loop b c) = copy_of b
copy_after _ = None

abbrev pub is_from : (from : Option ℕ) → (register : ℕ) → Bool
is_from None r = false
is_from (Some f) r = r == f

-- The registers whose words go right to those of the block move, since the loop leaves others in them: the addresses and the count.
abbrev pub is_moved : Copying → (register : ℕ) → Bool
is_moved y r = (r == y.to) || (is_from y.from r || (r == y.count))

-- The register of the 1, which a block move does without, where it is not asked for behind the loop: no word is put there.
abbrev pub is_left : Copying → (asked : Bool) → (register : ℕ) → Bool
is_left y asked r = (r == y.one) && not asked

-- whether a place is one of these
abbrev pub reads_moved : Copying → Where → Bool
reads_moved y (Reg q) = is_moved y q || (q == y.one)
reads_moved y (Slot k) = false

-- how many these are, where so many came before; at most 8, and none takes its word from such a register
unfoldable pub puts_ahead : Copying → (before : ℕ) → NodesT Where → Option ℕ
puts_ahead y k (Do (ConstO (Reg r) n) c) = cond (k == 8) None (puts_ahead y (k + 1) c)
puts_ahead y k (Do (GlobalO (Reg r) j) c) = cond (k == 8) None (puts_ahead y (k + 1) c)
puts_ahead y k (Do (LocalO (Reg r) j) c) = cond (k == 8) None (puts_ahead y (k + 1) c)
puts_ahead y k (Do (MoveO (Reg r) p) c) = cond ((k == 8) || reads_moved y p) None (puts_ahead y (k + 1) c)
puts_ahead y k (Loop b c) = Some k
puts_ahead y k _ = None

-- the word that they put into a register last, where one is known already
unfoldable pub last_put : (register : ℕ) → NodesT Where → (known : Option ℕ) → Option ℕ
last_put r (Do (ConstO (Reg q) n) c) x = last_put r c (cond (r == q) (Some n) x)
last_put r (Do (GlobalO (Reg q) k) c) x = last_put r c (cond (r == q) None x)
last_put r (Do (LocalO (Reg q) k) c) x = last_put r c (cond (r == q) None x)
last_put r (Do (MoveO (Reg q) p) c) x = last_put r c (cond (r == q) None x)
last_put r _ x = x

-- a number of words that a block move copies
abbrev pub is_count : Option ℕ → Bool
is_count None = false
is_count (Some n) = nat_lt 0 n && nat_lt n 0x80000000

abbrev pub is_one : Option ℕ → Bool
is_one None = false
is_one (Some n) = n == 1

-- Operations that come first, before a loop whose count and 1 are known by them, where so many are counted: how many they are, and the registers of the loop.
abbrev pub leads_to : Copying → NodesT Where → Option ℕ → Option (ℕ × Copying)
leads_to y c None = None
leads_to y c (Some k) = cond (is_count (last_put y.count c None) && is_one (last_put y.one c None)) (Some (k, y)) None

abbrev pub leads : NodesT Where → Option Copying → Option (ℕ × Copying)
leads c None = None
leads c (Some y) = leads_to y c (puts_ahead y 0 c)

unfoldable pub lead : NodesT Where → Option (ℕ × Copying)
lead (Do (ConstO (Reg r) n) c) = leads (Do (ConstO (Reg r) n) c) (copy_after c)
lead (Do (GlobalO (Reg r) k) c) = leads (Do (GlobalO (Reg r) k) c) (copy_after c)
lead (Do (LocalO (Reg r) k) c) = leads (Do (LocalO (Reg r) k) c) (copy_after c)
lead (Do (MoveO (Reg r) p) c) = leads (Do (MoveO (Reg r) p) c) (copy_after c)
lead _ = None

-- the registers of a loop before which so many operations of that kind are done
abbrev pub copy_at : (done : ℕ) → NodesT Where → Option Copying
copy_at zero b = None
copy_at (suc k) b = copy_of b

-- ---- its instructions

-- The block move takes the address to write to from DR, that to read from, or the word of a fill, from SR, and the count from CR. An operation that puts one of
-- these into its register before the loop puts it there at once.
abbrev pub goes_to : Copying → (register : ℕ) → ℕ
goes_to y r = cond (r == y.to) 13 (cond (is_from y.from r) 12 (cond (r == y.count) 11 r))

-- whether one of the operations that come first puts a word into a register, or that is known already
unfoldable pub is_put : (register : ℕ) → (known : Bool) → NodesT Where → Bool
is_put r x (Do (ConstO (Reg q) n) c) = is_put r (x || (q == r)) c
is_put r x (Do (GlobalO (Reg q) k) c) = is_put r (x || (q == r)) c
is_put r x (Do (LocalO (Reg q) k) c) = is_put r (x || (q == r)) c
is_put r x (Do (MoveO (Reg q) p) c) = is_put r (x || (q == r)) c
is_put r x _ = x

-- The others are moved behind these operations.
abbrev pub move_item : (is_there : Bool) → (into register : ℕ) → List AsmItem
move_item true t r = []
move_item false t r = item.Op (instr.Mov (RegReg t (register r))) ∷ []

abbrev pub source : (from : Option ℕ) → Copying → ℕ
source None y = y.cell
source (Some f) y = f

abbrev pub source_put : (from : Option ℕ) → (known : Bool) → NodesT Where → Bool
source_put None x c = false
source_put (Some f) x c = is_put f x c

abbrev pub move_items : Copying → NodesT Where → List AsmItem
move_items y c = move_item (is_put y.to false c) 13 y.to
    ++ (move_item (source_put y.from false c) 12 (source y.from y) ++ move_item (is_put y.count false c) 11 y.count)

-- A word is written in each step. Then those registers that are asked for get what the loop leaves in them: the addresses of the last words, 0, and the last
-- word that was read.
abbrev pub block_of : (from : Option ℕ) → Plain
block_of None = SETS
block_of (Some f) = MOVS

abbrev pub last_item : (address past : ℕ) → AsmItem
last_item r q = item.Op (instr.Lea (register r) q (Some (Left 0xFFFFFFFF)))

-- each of these where its register is asked for
abbrev pub when : Bool → AsmItem → List AsmItem
when b i = cond b (i ∷ []) []

abbrev pub back_items : (from : Option ℕ) → Copying → (asked : ℕ → Bool) → List AsmItem
back_items None y J = when (J y.to) (last_item y.to 13) ++ when (J y.count) (item.Op (instr.Mov (RegReg (register y.count) 11)))
back_items (Some f) y J = when (J f) (last_item f 12)
    ++ (when (J y.to || J y.cell) (last_item y.to 13)
    ++ (when (J y.count) (item.Op (instr.Mov (RegReg (register y.count) 11)))
    ++ when (J y.cell) (item.Op (instr.Mov (RegAtReg (register y.cell) (register y.to))))))

abbrev pub copy_items : Copying → (asked : ℕ → Bool) → List AsmItem
copy_items y J = item.Op (instr.Plain (block_of y.from)) ∷ back_items y.from y J

abbrev pub copy_or : Option Copying → (asked : ℕ → Bool) → (other : List AsmItem) → List AsmItem
copy_or None J other = other
copy_or (Some y) J other = copy_items y J
