-- The items of nodes as they stand in memory.
use Rattle.std.specs.Prelude.{ℕ, ◌+◌, ◌-◌, ◌==◌, ◌&&◌, Bool, true, false, cond, List, [], ◌∷◌, ◌++◌, Option, Some, None}
use Rattle.kit_base.specs.Word.{add}
use Rattle.v32_isa.specs.declared.instruction.Instr.{Instr}
use Rattle.asm_items.specs.declared.item.AsmItem.{AsmItem}
use Rattle.asm_items.specs.declared.item.AsmItem.TheVariants as item
use Rattle.asm_items.specs.Items.{Imm}
use Rattle.mid_code.specs.declared.placed.Where.{Where}
use Rattle.mid_code.specs.declared.node.Op.{Op}
use Rattle.mid_code.specs.declared.node.Op.TheVariants as op
use Rattle.mid_code.specs.Code.{NodesT, OpT, Do, Call, Loop, Return, Stop}
use Rattle.mid_code.specs.Functions.{op_before, NodeT, DoN, ChooseN, BlockN, LoopN, LeaveN, AgainN, ReturnN, ListT, NoN, MoreN, before, joined}
use Rattle.asm_laws.specs.Operations.{Frame, Whole, op_items, word_put, with_word, is_spared, with_known, with_access, in_one, before_it, call_items}
use Rattle.asm_laws.specs.declared.made.Made.{Made}
use Rattle.asm_laws.specs.Operations.{hand, brings, word_items, unless_left, puts_items, giving, given_first, made_both, made_with, first_made, made_of, made_or}
use Rattle.asm_laws.specs.Spare.{used_by}
use Rattle.asm_laws.specs.declared.access.Address.{Address}
use Rattle.asm_laws.specs.declared.access.Transfer.{Transfer}
use Rattle.asm_laws.specs.Accesses.{accessed}
use Rattle.asm_laws.specs.declared.copying.Copying.{Copying}
use Rattle.asm_laws.specs.Copies.{put_into, reads_moved, puts_ahead, last_put, is_count, is_one, lead, move_items, copy_at, copy_or}
use Rattle.asm_laws.specs.Asks.{ask_of, ask_or, is_unread}
use Rattle.asm_laws.specs.Live.{live_soon, ahead}
use Rattle.asm_laws.specs.declared.behind.Behind.{Behind}
use Rattle.asm_laws.specs.declared.behind.Behind.TheVariants.{Other, End, Turn}
use Rattle.asm_laws.specs.inner.Emitted.{enclosing, jump, alone, choice, enclosed, left_by, inside, is_end, again, looped, jump_when}

-- how many labels nodes take
abbrev mutual
  pub node_labels : NodeT Where → ℕ
  node_labels (DoN o) = 0
  node_labels (ChooseN p a b) = 2 + list_labels a + list_labels b
  node_labels (BlockN b) = 2 + list_labels b
  node_labels (LoopN b) = 2 + list_labels b
  node_labels (LeaveN k) = 0
  node_labels (AgainN k) = 0
  node_labels (ReturnN p) = 0

  pub list_labels : ListT Where → ℕ
  list_labels NoN = 0
  list_labels (MoreN x rest) = node_labels x + list_labels rest

abbrev pub is_none : ListT Where → Bool
is_none NoN = true
is_none (MoreN x rest) = false

-- the items of an operation or a call that stands first
abbrev pub first_items : Whole → Frame → NodesT Where → List AsmItem
first_items W F (Do o c) = op_items W F o
first_items W F (Call t f args c) = call_items W F t f args
first_items W F _ = []

abbrev pub do_items : Whole → Frame → Op Where → List AsmItem
do_items W F o = first_items W F (op_before o Stop)

-- the word that an operation that stands first puts into a register
abbrev pub front_put : Whole → NodesT Where → Option (ℕ × ℕ)
front_put W (Do o c) = word_put W o
front_put W _ = None

-- what is done in one go where a word was put into a register before that holds a place, and into any register
abbrev pub front_word : Frame → (put : Option (ℕ × ℕ)) → NodesT Where → Option (ℕ × Option (Instr Imm) × Instr Imm)
front_word F put (Do o c) = with_word F put o c
front_word F put _ = None

abbrev pub front_summed : (globals : List ℕ) → Frame → (put : Option (ℕ × ℕ)) → NodesT Where → Option (ℕ × Option (Instr Imm) × Instr Imm)
front_summed gs F put c = cond (is_spared F put) (with_known gs F put (used_by c)) (front_word F put c)

-- an access at an address that an operation that stands first works out with some behind it, and what is done in one go
abbrev pub front_accessed : Frame → NodesT Where → NodesT Where → Option (ℕ × Address × Transfer)
front_accessed F (Do o d) c = accessed F.lasting F.registers o c
front_accessed F _ c = None

abbrev pub front_one : Whole → Frame → (first behind : NodesT Where) → Option (ℕ × Option (Instr Imm) × Instr Imm)
front_one W F first c = with_access F (front_accessed F first c) (front_summed W.globals F (front_put W first) c)

abbrev pub ahead_items : Option (ℕ × Option (Instr Imm) × Instr Imm) → List AsmItem
ahead_items None = []
ahead_items (Some (more, first, i)) = before_it first ++ item.Op i ∷ []

abbrev pub ahead_more : Option (ℕ × Option (Instr Imm) × Instr Imm) → Option ℕ
ahead_more None = None
ahead_more (Some (more, first, i)) = Some more

abbrev pub is_call : Op Where → Bool
is_call (op.Call t f args) = true
is_call _ = false

-- the registers that a block move puts back before nodes
unfoldable pub asked : (lasting : List Bool) → NodesT Where → (register : ℕ) → Bool
asked h c = live_soon ahead h c

-- whether a register is asked for behind a loop that comes behind operations
unfoldable pub led_asked : (lasting : List Bool) → NodesT Where → (register : ℕ) → Bool
led_asked h (Do o c) r = led_asked h c r
led_asked h (Loop b c) r = asked h c r
led_asked h _ r = true

-- what is done ahead with an operation that stands first: words that are put into registers before a loop that copies words, or what is done in one go
abbrev pub led_ahead : Whole → Frame → OpT Where → NodesT Where → Option (ℕ × Copying) → List AsmItem
led_ahead W F o c None = ahead_items (in_one W F o c)
led_ahead W F o c (Some (j, y)) = puts_items W F y (led_asked F.lasting c y.one) (Do o c) j ++ move_items y (Do o c)

abbrev pub led_behind : Whole → Frame → OpT Where → NodesT Where → Option (ℕ × Copying) → Option ℕ
led_behind W F o c None = ahead_more (in_one W F o c)
led_behind W F o c (Some (j, y)) = Some j

-- such words, where the first one is put into register r, and is that of a place where one is given
abbrev pub takes_moved : Copying → Option Where → Bool
takes_moved y None = false
takes_moved y (Some p) = reads_moved y p

abbrev pub leads_with : (register : ℕ) → Option ℕ → Copying → NodesT Where → Option ℕ → Option (ℕ × Copying)
leads_with r w y c None = None
leads_with r w y c (Some k) =
    cond (is_count (last_put y.count c (cond (y.count == r) w None)) && is_one (last_put y.one c (cond (y.one == r) w None))) (Some (k, y)) None

abbrev pub leads_behind : (register : ℕ) → Option ℕ → Option Where → NodesT Where → Option Copying → Option (ℕ × Copying)
leads_behind r w p c None = None
leads_behind r w p c (Some y) = cond (takes_moved y p) None (leads_with r w y c (puts_ahead y 1 c))

-- what makes a word that is given back, where an operation stands first before other nodes
abbrev pub front_both : NodesT Where → Option Where → Option (ℕ × Made)
front_both (Do o c) given = made_both o given
front_both _ given = None

abbrev pub op_made : Whole → Frame → Op Where → NodesT Where → Option (ℕ × Made)
op_made W F o c = first_made (front_both (op_before o Stop) (given_first c)) (made_with F (front_put W (op_before o Stop)) c)

abbrev pub more_ahead : Option (ℕ × Made) → (other : Option ℕ) → Option ℕ
more_ahead None other = other
more_ahead (Some (k, y)) other = Some k

-- The items of an operation that stands first and is done in one go with others, where it is not done already; and a result that is given.
abbrev pub front_items : Whole → Frame → NodesT Where → (done : ℕ) → List AsmItem
front_items W F (Do o c) k = cond (k == 0) (made_or F (made_of W F o c) (cond (is_unread (Do o c)) [] (led_ahead W F o c (lead (Do o c))))) []
front_items W F (Return p c) k = cond (k == 0) (giving F p) []
front_items W F _ k = []

-- how many behind it are done then; none is said where its own items are due
abbrev pub front_more : Whole → Frame → NodesT Where → (done : ℕ) → Option ℕ
front_more W F (Do o c) k =
    cond (k == 0) (more_ahead (made_of W F o c) (cond (is_unread (Do o c)) (Some 0) (led_behind W F o c (lead (Do o c))))) (Some (k - 1))
front_more W F _ k = None

-- A loop that copies words is done by a block move, where so many operations in front are done already and these registers are asked for; one that only asks
-- for a turn by none.
abbrev pub copied_own : (done : ℕ) → NodeT Where → (back : ℕ → Bool) → List AsmItem → List AsmItem
copied_own k (LoopN b) J own = ask_or (ask_of (joined b)) J (copy_or (copy_at k (joined b)) J own)
copied_own k _ J own = own

-- what puts the word of an operation where it goes, but for one that is left, where so many are left; and how many are left behind it
abbrev pub front_into : NodesT Where → Option ℕ
front_into (Do o c) = put_into o
front_into _ = None

abbrev pub front_words : Whole → Frame → Copying → NodesT Where → List AsmItem
front_words W F y (Do o c) = word_items W F y o
front_words W F y _ = []

abbrev pub front_there : Whole → Frame → Copying → (asked : Bool) → NodesT Where → List AsmItem
front_there W F y j c = unless_left y j (front_into c) (front_words W F y c)

abbrev pub put_here : Whole → Frame → Copying → (asked : Bool) → Op Where → (left : ℕ) → List AsmItem
put_here W F y j o k = cond (k == 0) [] (front_there W F y j (op_before o Stop))

abbrev pub left_behind : Op Where → (left : ℕ) → Option ℕ
left_behind o k = cond (k == 0) None (cond (is_call o) None (Some (k - 1)))

-- and of those that come first in a list
abbrev pub puts_from : Option ℕ → (puts : ℕ → List AsmItem) → List AsmItem
puts_from None puts = []
puts_from (Some k) puts = puts k

abbrev pub put_first : Whole → Frame → Copying → (asked : Bool) → NodeT Where → (left : ℕ) → List AsmItem
put_first W F y j (DoN o) k = put_here W F y j o k
put_first W F y j _ k = []

abbrev pub left_after : NodeT Where → (left : ℕ) → Option ℕ
left_after (DoN o) k = left_behind o k
left_after _ k = None

abbrev pub list_puts : Whole → Frame → Copying → (asked : Bool) → ListT Where → (left : ℕ) → List AsmItem
list_puts W F y j NoN k = []
list_puts W F y j (MoreN x rest) k = put_first W F y j x k ++ puts_from (left_after x k) (list_puts W F y j rest)

-- the labels of a node whose own items are due
abbrev pub labels_due : Option ℕ → ℕ → ℕ
labels_due None n = n
labels_due (Some k) n = 0

-- a node's own items and those behind it anew, or those behind it where so many are done
abbrev pub onward : Option ℕ → (own : List AsmItem) → (past : ℕ → List AsmItem) → (anew : List AsmItem) → List AsmItem
onward None own past anew = own ++ anew
onward (Some k) own past anew = past k

-- the label to which a list goes that only leaves a block or loop
abbrev pub left_in : List ℕ → ListT Where → Option ℕ
left_in ls (MoreN (LeaveN k) NoN) = Some (add (enclosing ls k) 1)
left_in ls _ = None

-- what comes right behind a node with these behind it, where this comes behind the list
abbrev pub ends_in : Behind → ListT Where → Behind
ends_in last rest = cond (is_none rest) last Other

-- whether a node begins the next turn of the innermost loop, and whether the last one of a list does
abbrev pub is_again : NodeT Where → Bool
is_again (AgainN k) = k == 0
is_again _ = false

abbrev pub round_in : ListT Where → Bool
round_in NoN = false
round_in (MoreN x rest) = cond (is_none rest) (is_again x) (round_in rest)

-- whether a list is operations and then such a test as rotated loops have
abbrev pub is_test : NodeT Where → ListT Where → (rest_is : Bool) → Bool
is_test (DoN o) rest so = cond (is_call o) false so
is_test (ChooseN p a b) rest so = is_none b && (is_none rest && round_in a)
is_test _ rest so = false

abbrev pub tested_in : ListT Where → Bool
tested_in NoN = false
tested_in (MoreN x rest) = is_test x rest (tested_in rest)

-- the labels of what is done in a turn then
abbrev pub is_operation : NodeT Where → Bool
is_operation (DoN o) = true
is_operation _ = false

abbrev pub turn_labels : NodeT Where → ℕ
turn_labels (ChooseN p a b) = list_labels a
turn_labels _ = 0

abbrev pub part_labels : ListT Where → ℕ
part_labels NoN = 0
part_labels (MoreN x rest) = cond (is_operation x) (part_labels rest) (turn_labels x)

module _ (W : Whole) (F : Frame) where
  -- the items of a node of such a list
  abbrev pub own_test : (to : ℕ) → NodeT Where → List AsmItem
  own_test to (DoN o) = do_items W F o
  own_test to (ChooseN p a b) = brings F p 9 ++ jump_when (hand p 9) to ∷ []
  own_test to _ = []

  abbrev pub list_test : (to : ℕ) → ListT Where → (done : ℕ) → List AsmItem
  list_test to NoN k = []
  list_test to (MoreN x rest) k =
      front_items W F (before x (joined rest)) k
      ++ onward (front_more W F (before x (joined rest)) k) (own_test to x) (list_test to rest) (list_test to rest 0)

module _ (W : Whole) (F : Frame) (out : Option ℕ) where
  abbrev mutual
    pub node_items : (last : Behind) → List ℕ → ℕ → NodeT Where → List AsmItem
    node_items last ls n (DoN o) = do_items W F o
    node_items last ls n (ChooseN p a b) =
        cond (is_none b) (alone F p n (left_in ls a) (list_past last ls (n + 1) a 0))
        (choice F p n (n + 1 + list_labels a) (list_past Other ls (n + 1) a 0) (list_past last ls (n + 1 + list_labels a + 1) b 0))
    node_items last ls n (BlockN b) = enclosed n (list_past (inside last) (ls ++ n ∷ []) (n + 2) b 0)
    node_items last ls n (LoopN b) =
        looped (tested_in b) n (list_past (inside last) (ls ++ n ∷ []) (n + 2) b 0) (list_part (ls ++ n ∷ []) (n + 2) b) (list_test W F (n + 2) b 0)
    node_items last ls n (LeaveN k) = jump (add (enclosing ls k) 1) ∷ []
    node_items last ls n (AgainN k) = again ls k last
    node_items last ls n (ReturnN p) = left_by F out (is_end last)

    -- so many operations in front are done already
    pub list_past : (last : Behind) → List ℕ → ℕ → ListT Where → (done : ℕ) → List AsmItem
    list_past last ls n NoN k = []
    list_past last ls n (MoreN x rest) k =
        front_items W F (before x (joined rest)) k
        ++ onward (front_more W F (before x (joined rest)) k)
        (copied_own k x (asked F.lasting (joined rest)) (node_items (ends_in last rest) ls n x)) (list_past last ls n rest)
        (list_past last ls (n + node_labels x) rest 0)

    -- what is done in a turn of a rotated loop
    pub list_part : List ℕ → ℕ → ListT Where → List AsmItem
    list_part ls n NoN = []
    list_part ls n (MoreN x rest) = cond (is_operation x) (list_part ls n rest) (turn_items ls n x)

    pub turn_items : List ℕ → ℕ → NodeT Where → List AsmItem
    turn_items ls n (ChooseN p a b) = list_past Turn ls (n + 1) a 0
    turn_items ls n _ = []

  abbrev pub list_items : List ℕ → ℕ → ListT Where → List AsmItem
  list_items ls n xs = list_past End ls n xs 0
