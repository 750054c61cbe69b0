-- The items of placed code: its instructions one after another, with labels where jumps go.
use Rattle.std.specs.Prelude.{ℕ, zero, suc, Bool, true, false, cond, ◌&&◌, ◌+◌, ◌-◌, ◌==◌, List, [], ◌∷◌, ◌++◌, length, Option, Some, None, get_or}
use Rattle.either.specs.declared.Either.TheVariants.{Right}
use Rattle.v32_isa.specs.declared.instruction.Plain.TheVariants.{HLT}
use Rattle.v32_isa.specs.declared.instruction.Go.TheVariants.{JMP, CALL}
use Rattle.v32_isa.specs.declared.instruction.Branch.TheVariants.{JT, JF}
use Rattle.v32_isa.specs.declared.instruction.Src.TheVariants as src
use Rattle.v32_isa.specs.declared.instruction.Instr.TheVariants as instr
use Rattle.kit_base.specs.Word.{add}
use Rattle.asm_items.specs.declared.item.AsmItem.{AsmItem}
use Rattle.asm_items.specs.declared.item.AsmItem.TheVariants as items
use Rattle.mid_code.specs.declared.placed.Where.{Where}
use Rattle.mid_code.specs.Code.{NodesT, Stop, Do, Call, Choose, Block, Loop, Leave, Again, Return, FunctionT, CodeT}
use Rattle.asm_laws.specs.declared.behind.Behind.{Behind}
use Rattle.asm_laws.specs.declared.behind.Behind.TheVariants.{Other, End, Turn}
use Rattle.asm_laws.specs.Names.{jump_label, function_label}
use Rattle.asm_laws.specs.Operations.{Frame, Whole, hand, brings, giving_left, next_items, next_more, call_items, start_frame, literals_items}
use Rattle.asm_laws.specs.Framing.{frame_made, frame_gone}
use Rattle.asm_laws.specs.Copies.{copy_at, copy_or}
use Rattle.asm_laws.specs.Asks.{ask_of, ask_or}
use Rattle.asm_laws.specs.Live.{live_soon, ahead}

-- how many labels nodes take
abbrev pub labels : NodesT Where → ℕ
labels Stop = 0
labels (Do o c) = labels c
labels (Call t g args c) = labels c
labels (Choose p a b c) = 2 + labels a + labels b + labels c
labels (Block b c) = 2 + labels b + labels c
labels (Loop b c) = 2 + labels b + labels c
labels (Leave k c) = labels c
labels (Again k c) = labels c
labels (Return p c) = labels c

-- The number of the label at the beginning of the k-th enclosing block or loop from the inside; the innermost stands last. That at its end has
-- the next number.
abbrev pub enclosing : List ℕ → ℕ → ℕ
enclosing ls k = get_or ls (length ls - suc k) 0

abbrev pub jump : ℕ → AsmItem
jump n = items.Op (instr.Go JMP (src.Imm (Right (jump_label n))))

abbrev pub jump_unless : (register n : ℕ) → AsmItem
jump_unless r n = items.Op (instr.Branch JF r (src.Imm (Right (jump_label n))))

abbrev pub jump_when : (register n : ℕ) → AsmItem
jump_when r n = items.Op (instr.Branch JT r (src.Imm (Right (jump_label n))))

abbrev pub mark : ℕ → AsmItem
mark n = items.Label (jump_label n)

-- a choice between two parts by a word, with the labels n before the second and m behind it
abbrev pub first_part : Frame → Where → ℕ → ℕ → List AsmItem → List AsmItem
first_part F p n m a = brings F p 9 ++ jump_unless (hand p 9) n ∷ (a ++ jump m ∷ mark n ∷ [])

abbrev pub second_part : ℕ → List AsmItem → List AsmItem
second_part m b = b ++ mark m ∷ []

abbrev pub choice : Frame → Where → ℕ → ℕ → List AsmItem → List AsmItem → List AsmItem
choice F p n m a b = first_part F p n m a ++ second_part m b

-- a choice with nothing in its second part, with the label n behind the first
abbrev pub one_way : Frame → Where → ℕ → List AsmItem → List AsmItem
one_way F p n a = brings F p 9 ++ jump_unless (hand p 9) n ∷ (a ++ mark n ∷ [])

-- the label to which nodes go that only leave a block or loop
abbrev pub left_to : List ℕ → NodesT Where → Option ℕ
left_to ls (Leave k Stop) = Some (add (enclosing ls k) 1)
left_to ls _ = None

-- the same where the first part only goes to a label: the test goes there itself
abbrev pub alone : Frame → Where → ℕ → (to : Option ℕ) → List AsmItem → List AsmItem
alone F p n None a = one_way F p n a
alone F p n (Some l) a = brings F p 9 ++ jump_when (hand p 9) l ∷ mark n ∷ []

abbrev pub is_stop : NodesT Where → Bool
is_stop Stop = true
is_stop _ = false

-- a block or loop, with the label n before it and the next one behind it
abbrev pub enclosed : ℕ → List AsmItem → List AsmItem
enclosed n a = mark n ∷ (a ++ mark (n + 1) ∷ [])

-- what comes right behind a node that stands before others, behind which this comes
abbrev pub ends : Behind → NodesT Where → Behind
ends last c = cond (is_stop c) last Other

-- and behind the nodes inside of a block or loop, whose turns are not those of the loop around it
abbrev pub inside : Behind → Behind
inside Other = Other
inside End = End
inside Turn = Other

abbrev pub is_end : Behind → Bool
is_end Other = false
is_end End = true
is_end Turn = false

abbrev pub is_turn : Behind → Bool
is_turn Other = false
is_turn End = false
is_turn Turn = true

-- the next turn of the k-th enclosing loop begins: by a jump, where it does not come next
abbrev pub again : List ℕ → ℕ → Behind → List AsmItem
again ls k last = cond ((k == 0) && is_turn last) [] (jump (enclosing ls k) ∷ [])

-- A loop that is only a test behind operations, and turns where it goes the first way: the test stands behind what is done in a turn, at the label n, and goes
-- back to the label n + 2. The first turn begins with a jump.
abbrev pub rotated : ℕ → (part test : List AsmItem) → List AsmItem
rotated n part test = jump n ∷ mark (n + 2) ∷ (part ++ mark n ∷ (test ++ mark (n + 1) ∷ []))

abbrev pub looped : Bool → ℕ → (all part test : List AsmItem) → List AsmItem
looped t n all part test = cond t (rotated n part test) (enclosed n all)

-- nodes that end with the next turn of the innermost loop
abbrev pub is_round : NodesT Where → Bool
is_round Stop = false
is_round (Do o c) = is_round c
is_round (Call t g args c) = is_round c
is_round (Choose p a b c) = is_round c
is_round (Block b c) = is_round c
is_round (Loop b c) = is_round c
is_round (Leave k c) = is_round c
is_round (Again k c) = cond (is_stop c) (k == 0) (is_round c)
is_round (Return p c) = is_round c

abbrev pub is_tested : NodesT Where → Bool
is_tested (Do o c) = is_tested c
is_tested (Choose p a b c) = is_stop b && (is_stop c && is_round a)
is_tested _ = false

-- What leaves a function: it takes its frame away and goes back. The start, which was not called, jumps to the label that is given.
abbrev pub leaving : Frame → (out : Option ℕ) → List AsmItem
leaving F None = frame_gone F.size
leaving F (Some n) = jump n ∷ []

-- it is left behind a result, where its end does not come next
abbrev pub left_by : Frame → (out : Option ℕ) → (last : Bool) → List AsmItem
left_by F out last = cond last [] (leaving F out)

module _ (W : Whole) (F : Frame) (out : Option ℕ) where
  -- the operations and the test of such a loop, which goes to a label; so many operations in front are done already
  abbrev pub test_items : (to : ℕ) → NodesT Where → (done : ℕ) → List AsmItem
  test_items to (Do o c) zero = next_items W F o c ++ test_items to c (next_more W F o c)
  test_items to (Do o c) (suc k) = test_items to c k
  test_items to Stop k = []
  test_items to (Choose p a b c) k = brings F p 9 ++ jump_when (hand p 9) to ∷ test_items to c 0
  test_items to (Call t g args c) k = call_items W F t g args ++ test_items to c 0
  test_items to (Block b c) k = test_items to c 0
  test_items to (Loop b c) k = test_items to c 0
  test_items to (Leave j c) k = test_items to c 0
  test_items to (Again j c) k = test_items to c 0
  test_items to (Return p c) k = giving_left F p k ++ test_items to c 0

  abbrev mutual
    -- the items of nodes whose labels begin at n, inside blocks and loops with these labels; so many operations in front are done already. What comes
    -- right behind them.
    pub items_past : (last : Behind) → List ℕ → ℕ → NodesT Where → (done : ℕ) → List AsmItem
    items_past last ls n Stop k = []
    items_past last ls n (Do o c) zero = next_items W F o c ++ items_past last ls n c (next_more W F o c)
    items_past last ls n (Do o c) (suc k) = items_past last ls n c k
    items_past last ls n (Call t g args c) k = call_items W F t g args ++ items_past last ls n c 0
    items_past last ls n (Choose p a b c) k =
        cond (is_stop b) (alone F p n (left_to ls a) (items_past (ends last c) ls (n + 1) a 0))
        (choice F p n (n + 1 + labels a) (items_past Other ls (n + 1) a 0) (items_past (ends last c) ls (n + 1 + labels a + 1) b 0))
        ++ items_past last ls (n + (2 + labels a + labels b)) c 0
    items_past last ls n (Block b c) k =
        enclosed n (items_past (inside (ends last c)) (ls ++ n ∷ []) (n + 2) b 0) ++ items_past last ls (n + (2 + labels b)) c 0
    items_past last ls n (Loop b c) k =
        ask_or (ask_of b) (live_soon ahead F.lasting c) (copy_or (copy_at k b) (live_soon ahead F.lasting c)
        (looped (is_tested b) n (items_past (inside (ends last c)) (ls ++ n ∷ []) (n + 2) b 0) (part_items (ls ++ n ∷ []) (n + 2) b)
        (test_items (n + 2) b 0))) ++ items_past last ls (n + (2 + labels b)) c 0
    items_past last ls n (Leave j c) k = jump (add (enclosing ls j) 1) ∷ items_past last ls n c 0
    items_past last ls n (Again j c) k = again ls j (ends last c) ++ items_past last ls n c 0
    items_past last ls n (Return p c) k = giving_left F p k ++ (left_by F out (is_end (ends last c)) ++ items_past last ls n c 0)

    -- what is done in a turn of such a loop
    pub part_items : List ℕ → ℕ → NodesT Where → List AsmItem
    part_items ls n (Do o c) = part_items ls n c
    part_items ls n (Call t g args c) = part_items ls n c
    part_items ls n (Choose p a b c) = items_past Turn ls (n + 1) a 0
    part_items ls n _ = []

  abbrev pub code_items : List ℕ → ℕ → NodesT Where → List AsmItem
  code_items ls n c = items_past End ls n c 0

-- a function begins with its label and makes its frame; at its end it takes the frame away and goes back
abbrev pub entry_items : Whole → ℕ → Frame → List AsmItem
entry_items W f F = items.Label (function_label W.names f) ∷ frame_made F.size

abbrev pub exit_items : ℕ → Frame → List AsmItem
exit_items n F = mark n ∷ frame_gone F.size

-- the items of a function behind its label
abbrev pub own_items : Whole → ℕ → ℕ → NodesT Where → List AsmItem
own_items W f n body = frame_made (W.frames f).size ++ (code_items W (W.frames f) None [] (n + 1) body ++ exit_items n (W.frames f))

abbrev pub function_items : Whole → ℕ → ℕ → NodesT Where → List AsmItem
function_items W f n body = items.Label (function_label W.names f) ∷ own_items W f n body

-- the functions from a number on, whose labels begin at n
abbrev pub functions_items : Whole → ℕ → ℕ → List (FunctionT Where) → List AsmItem
functions_items W f n [] = []
functions_items W f n (g ∷ gs) = function_items W f n g.body ++ functions_items W (f + 1) (n + 1 + labels g.body) gs

abbrev pub functions_labels : List (FunctionT Where) → ℕ
functions_labels [] = 0
functions_labels (g ∷ gs) = 1 + labels g.body + functions_labels gs

-- the start: its body, the call of main, the halt
abbrev pub call_item : Whole → ℕ → AsmItem
call_item W g = items.Op (instr.Go CALL (src.Imm (Right (function_label W.names g))))

abbrev pub closing_items : Whole → ℕ → List AsmItem
closing_items W main = mark 0 ∷ call_item W main ∷ items.Op (instr.Plain HLT) ∷ []

abbrev pub start_items : Whole → ℕ → NodesT Where → List AsmItem
start_items W main body = code_items W start_frame (Some 0) [] 1 body ++ closing_items W main

-- the whole program: the start, the functions in order, the literals
abbrev pub program_items : Whole → CodeT Where → List AsmItem
program_items W x = start_items W x.main x.start.body ++ (functions_items W 0 (1 + labels x.start.body) x.functions ++ literals_items 0 x.literals)

abbrev pub labels_of : CodeT Where → ℕ
labels_of x = 1 + labels x.start.body + functions_labels x.functions
