-- The parts of lowered code: loops over cells, operators, conditions.
use Rattle.std.specs.Prelude.{ℕ, zero, suc, ◌+◌, ◌==◌, nat_lt, Bool, true, false, List, [], ◌∷◌, Option, Some, None, if◌then◌else◌}
use Rattle.c_tree.specs.declared.operator.BinOp.{BinOp}
use Rattle.c_tree.specs.declared.operator.BinOp.TheVariants as bin
use Rattle.c_types.specs.Types.{Ty, BoolY, PointerY}
use Rattle.c_types.specs.Kinds.{decayed, pointed, is_pointer, is_structure}
use Rattle.v32_isa.specs.declared.instruction.One.TheVariants.{CIB, ISGN, BNOT}
use Rattle.v32_isa.specs.declared.instruction.Two.{Two}
use Rattle.v32_isa.specs.declared.instruction.Two.TheVariants.{IEQ, INE, IGT, IGE, ILT, ILE, AND, OR, XOR, SHL, IADD, ISUB, IMUL, IDIV, IMOD}
use Rattle.mid_code.specs.declared.node.Op.TheVariants as o
use Rattle.lower_trees.specs.Pieces.{Piece, NothingP, ◌▸◌, EitherP, DoP, ChooseP, LoopP, AgainP}
use Rattle.lower_trees.specs.Shape.{Shape, words}

-- ---- fixed temporaries: sixteen of a function

-- of the loops over cells: the turns left, a 1, the cell, and the places that are read and written
abbrev pub count : ℕ
count = 0

abbrev pub one : ℕ
one = 1

abbrev pub cell : ℕ
cell = 2

abbrev pub from : ℕ
from = 3

abbrev pub to : ℕ
to = 4

-- what a condition or the value of a switch is compared with
abbrev pub other : ℕ
other = 5

-- of initialisers: the value that fills a part, and the object that is filled
abbrev pub item : ℕ
item = 6

abbrev pub object : ℕ
object = 7

-- the place of a structure that is returned
abbrev pub result_at : ℕ
result_at = 8

-- The addresses of the first seven parameters: a temporary that has the address of one object alone leaves that object free to become a
-- temporary itself.
abbrev pub param_at : (number : ℕ) → ℕ
param_at k = if nat_lt k 7 then 9 + k else to

-- the arguments come behind these
abbrev pub first_param : ℕ
first_param = 16

-- ---- loops over cells

-- One turn per cell. The pointers stand in `from` and `to`.
abbrev pub copy_turn : Piece
copy_turn =
    DoP (o.Load cell from) ▸ DoP (o.Store to cell) ▸ DoP (o.Two ISUB count count one)
    ▸ ChooseP count (DoP (o.Step from from one) ▸ DoP (o.Step to to one) ▸ AgainP 0) NothingP

abbrev pub zero_turn : Piece
zero_turn = DoP (o.Store to cell) ▸ DoP (o.Two ISUB count count one) ▸ ChooseP count (DoP (o.Step to to one) ▸ AgainP 0) NothingP

abbrev pub copied : (size : ℕ) → Piece
copied zero = NothingP
copied (suc left) = DoP (o.Const count (suc left)) ▸ DoP (o.Const one 1) ▸ LoopP copy_turn

abbrev pub zeroed : (size : ℕ) → Piece
zeroed zero = NothingP
zeroed (suc left) = DoP (o.Const count (suc left)) ▸ DoP (o.Const one 1) ▸ DoP (o.Const cell 0) ▸ LoopP zero_turn

-- A further turn is asked for, as by the loop: where the bound is 0 that is out of bound.
abbrev pub ask_turn : Piece
ask_turn = ChooseP count (DoP (o.Const count 0) ▸ AgainP 0) NothingP

abbrev pub asked : Piece
asked = DoP (o.Const count 1) ▸ LoopP ask_turn

-- ---- copies: one word and two by straight code, more by the loop

-- the word at the place in p is copied to the place in q
abbrev pub word_copied : (p q : ℕ) → Piece
word_copied p q = DoP (o.Load cell p) ▸ DoP (o.Store q cell)

-- The second word is that of a further turn.
abbrev pub pair_copied : (p q : ℕ) → Piece
pair_copied p q =
    word_copied p q ▸ asked ▸ DoP (o.Const one 1) ▸ DoP (o.Step from p one)
    ▸ DoP (o.Load cell from) ▸ DoP (o.Const one 1) ▸ DoP (o.Step to q one) ▸ DoP (o.Store to cell)

-- by so many words: what is done for none, one, two and more
abbrev pub by_size : (size : ℕ) → (a b c d : Piece) → Piece
by_size zero a b c d = a
by_size (suc zero) a b c d = b
by_size (suc (suc zero)) a b c d = c
by_size (suc (suc (suc left))) a b c d = d

abbrev pub copied_between : (size p q : ℕ) → Piece
copied_between size p q = by_size size NothingP (word_copied p q) (pair_copied p q) (DoP (o.Move from p) ▸ DoP (o.Move to q) ▸ copied size)

-- to the place in `to`
abbrev pub copied_on : (size p : ℕ) → Piece
copied_on size p = by_size size NothingP (word_copied p to) (pair_copied p to) (DoP (o.Move from p) ▸ copied size)

-- ---- places and values

-- a pointer so many words behind that in p comes to t
abbrev pub moved_by : (t p offset : ℕ) → Piece
moved_by t p offset = DoP (o.Const t offset) ▸ DoP (o.Step t p t)

-- The word at the place in t is copied to a local, and a pointer to that comes to t.
abbrev pub word_read : (local t : ℕ) → Piece
word_read k t = DoP (o.Load cell t) ▸ DoP (o.Local t k) ▸ DoP (o.Store t cell)

-- Of two words the place of the second is known before t leaves that of the first; the 1 that it is stepped by asks for the further turn.
abbrev pub pair_read : (local t : ℕ) → Piece
pair_read k t =
    DoP (o.Load cell t) ▸ DoP (o.Const count 1) ▸ DoP (o.Step from t count) ▸ DoP (o.Local t k) ▸ DoP (o.Store t cell)
    ▸ LoopP ask_turn ▸ DoP (o.Load cell from) ▸ DoP (o.Const one 1) ▸ DoP (o.Step to t one) ▸ DoP (o.Store to cell)

abbrev pub local_filled : (size local t : ℕ) → Piece
local_filled size k t =
    by_size size (DoP (o.Local t k)) (word_read k t) (pair_read k t) (DoP (o.Move from t) ▸ DoP (o.Local to k) ▸ copied size ▸ DoP (o.Local t k))

-- the structure at the place in t is copied to a local that is made for it, and a pointer to that comes to t
abbrev pub structure_read : (size local t : ℕ) → Piece
structure_read size k t = DoP (o.Fresh k) ▸ local_filled size k t

-- To bool a word becomes 1 unless it is 0; not where it is known to be a flag.
abbrev pub as_flag : (known : Bool) → (t : ℕ) → Piece
as_flag true t = NothingP
as_flag false t = DoP (o.One CIB t t)

abbrev pub converted : Ty → (known : Bool) → (t : ℕ) → Piece
converted BoolY known t = as_flag known t
converted ty known t = NothingP

-- the value in a is stored at the place in p
abbrev pub stored : Shape → Ty → (p a : ℕ) → Piece
stored h ty p a = EitherP (is_structure ty) (copied_between (words h ty) a p) (DoP (o.Store p a))

-- ---- operators: t takes what they come to, a and b are the operands, and b is used up; t may be a

abbrev pub two : Two → (t a b : ℕ) → Piece
two op t a b = DoP (o.Two op t a b)

abbrev pub with_word : BinOp → (t a b : ℕ) → Piece
with_word bin.Mul t a b = two IMUL t a b
with_word bin.Div t a b = two IDIV t a b
with_word bin.Mod t a b = two IMOD t a b
with_word bin.Add t a b = two IADD t a b
with_word bin.Sub t a b = two ISUB t a b
with_word bin.Shl t a b = two SHL t a b
with_word bin.Shr t a b = DoP (o.One ISGN b b) ▸ two SHL t a b
with_word bin.Less t a b = two ILT t a b
with_word bin.LessEq t a b = two ILE t a b
with_word bin.More t a b = two IGT t a b
with_word bin.MoreEq t a b = two IGE t a b
with_word bin.Equal t a b = two IEQ t a b
with_word bin.NotEqual t a b = two INE t a b
with_word bin.BitAnd t a b = two AND t a b
with_word bin.BitXor t a b = two XOR t a b
with_word bin.BitOr t a b = two OR t a b
with_word bin.AndAlso t a b = NothingP
with_word bin.OrElse t a b = NothingP

-- a pointer stepped by so many elements of a size, which comes to s
abbrev pub stepped : (size t a b s : ℕ) → Piece
stepped size t a b s = EitherP (size == 1) (DoP (o.Step t a b)) (DoP (o.Const s size) ▸ two IMUL b b s ▸ DoP (o.Step t a b))

abbrev pub stepped_back : (size t a b s : ℕ) → Piece
stepped_back size t a b s = DoP (o.One ISGN b b) ▸ stepped size t a b s

abbrev pub distant : (size t a b s : ℕ) → Piece
distant size t a b s = DoP (o.Apart t a b) ▸ DoP (o.Const s size) ▸ two IDIV t t s

abbrev pub compared : Two → (t a b : ℕ) → Piece
compared op t a b = DoP (o.PtrTest op t a b)

abbrev pub with_pointer : BinOp → (size : ℕ) → (pointers : Bool) → (t a b s : ℕ) → Piece
with_pointer bin.Add size pointers t a b s = stepped size t a b s
with_pointer bin.Sub size true t a b s = distant size t a b s
with_pointer bin.Sub size false t a b s = stepped_back size t a b s
with_pointer bin.Equal size pointers t a b s = compared IEQ t a b
with_pointer bin.NotEqual size pointers t a b s = compared INE t a b
with_pointer bin.Less size pointers t a b s = compared ILT t a b
with_pointer bin.LessEq size pointers t a b s = compared ILE t a b
with_pointer bin.More size pointers t a b s = compared IGT t a b
with_pointer bin.MoreEq size pointers t a b s = compared IGE t a b
with_pointer _ size pointers t a b s = NothingP

abbrev pub operated_on : Shape → BinOp → Option Ty → (pointers : Bool) → (t a b s : ℕ) → Piece
operated_on h op None pointers t a b s = with_word op t a b
operated_on h op (Some to_type) pointers t a b s = with_pointer op (words h to_type) pointers t a b s

-- by the static types of the operands
abbrev pub operated : Shape → BinOp → (ta tb : Ty) → (t a b s : ℕ) → Piece
operated h op ta tb t a b s = operated_on h op (pointed (decayed ta)) (is_pointer (decayed tb)) t a b s

-- ---- steps of one: t takes the cell in a, one more or one less; by how much comes to s; t may be a or s

abbrev pub one_more : Shape → Option Ty → (t a s : ℕ) → Piece
one_more h None t a s = DoP (o.Const s 1) ▸ two IADD t a s
one_more h (Some to_type) t a s = DoP (o.Const s (words h to_type)) ▸ DoP (o.Step t a s)

abbrev pub one_less : Shape → Option Ty → (t a s : ℕ) → Piece
one_less h None t a s = DoP (o.Const s 1) ▸ two ISUB t a s
one_less h (Some to_type) t a s = DoP (o.Const s (words h to_type)) ▸ DoP (o.One ISGN s s) ▸ DoP (o.Step t a s)

-- ---- conditions

-- A word is a condition as it is; of a pointer the word says whether it is not NULL.
abbrev pub tested_as : Ty → (t : ℕ) → Piece
tested_as (PointerY of) t = DoP (o.Null other) ▸ compared INE t t other
tested_as ty t = NothingP

-- 0 for a condition, 1 for none
abbrev pub negated_as : Ty → (t : ℕ) → Piece
negated_as (PointerY of) t = DoP (o.Null other) ▸ compared IEQ t t other
negated_as ty t = DoP (o.One BNOT t t)

-- ---- locals

abbrev pub made : List ℕ → Piece
made [] = NothingP
made (k ∷ ks) = DoP (o.Fresh k) ▸ made ks
