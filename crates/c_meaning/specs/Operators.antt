-- What operators make of values (the C language guide, sections on operators, conversions and pointers).
use Rattle.std.specs.Prelude.{ℕ, ◌-◌, ◌^◌, Bool, true, false, not, ◌==◌, List, Option, Some, None, Ok, Err, bit_and, bit_or, bit_xor, if◌then◌else◌}
use Rattle.kit_base.specs.Word.{add, sub, mul, quotient, remainder, shifted, below, negated, bool_word}
use Rattle.c_tree.specs.declared.operator.UnOp.{UnOp}
use Rattle.c_tree.specs.declared.operator.UnOp.TheVariants as un
use Rattle.c_tree.specs.declared.operator.BinOp.{BinOp}
use Rattle.c_tree.specs.declared.operator.BinOp.TheVariants.{Mul, Div, Mod, Add, Sub, Shl, Shr, Less, LessEq, More, MoreEq, Equal, NotEqual, BitAnd}
use Rattle.c_tree.specs.declared.operator.BinOp.TheVariants.{BitXor, BitOr, AndAlso, OrElse}
use Rattle.c_types.specs.Types.{Ty, IntY, BoolY, EnumY, PointerY}
use Rattle.obj_mem.specs.declared.cell.Cell.{Cell}
use Rattle.obj_mem.specs.declared.cell.Cell.TheVariants.{Num, Ptr, Null}
use Rattle.obj_mem.specs.Objects.{ObjectT}
use Rattle.obj_mem.specs.declared.refusal.Refusal.TheVariants.{Strays, Faults}
use Rattle.obj_mem.specs.Queries.{Answer, then_ask, answer_if, word_of, truth, read, step, equal_pointers, offsets, apart}
use Rattle.c_types.specs.Kinds.{decayed, pointed, is_pointer}
use Rattle.c_meaning.specs.Setting.{Setting, words}

-- ---- reading and storing at a type

-- whether a cell is of a scalar type: a word is of int, bool and enumerations, a pointer or NULL of pointers
abbrev pub is_of : Ty → Cell → Bool
is_of IntY (Num x) = true
is_of BoolY (Num x) = true
is_of (EnumY number) (Num x) = true
is_of (PointerY to) (Ptr o i) = true
is_of (PointerY to) Null = true
is_of _ _ = false

abbrev pub read_as : Ty → List ObjectT → Cell → Answer Cell
read_as ty os p = then_ask (read os p) (λ c. answer_if (is_of ty c) c)

-- The conversion where a value is stored, passed, returned or cast: to bool a word becomes 1 unless it is 0.
abbrev pub converted : Ty → Cell → Answer Cell
converted BoolY c = then_ask (word_of c) (λ x. Ok (Num (bool_word (not (x == 0)))))
converted ty c = Ok c

-- ---- conditions

-- A word is true unless it is 0. A pointer is true where it is not NULL.
abbrev pub is_true : List ObjectT → Ty → Cell → Answer Bool
is_true os (PointerY to) c = then_ask (equal_pointers os c Null) (λ b. Ok (not b))
is_true os ty c = then_ask (word_of c) (λ x. Ok (not (x == 0)))

-- ---- words

-- A unary operator on a word: arithmetic wraps. `!` looks at a condition, `*` and `&` at no word.
abbrev pub word_unary : UnOp → ℕ → Answer ℕ
word_unary un.Minus x = Ok (negated x)
word_unary un.Plus x = Ok x
word_unary un.Flip x = Ok (2 ^ 32 - 1 - x)
word_unary _ x = Err Strays

abbrev pub unless_zero : (divisor : ℕ) → ℕ → Answer ℕ
unless_zero y x = if y == 0 then Err (Faults 6) else Ok x

-- A binary operator on words. Division by 0 is fault 6. A shift to the right is one to the left by the negative of its count; quotients,
-- remainders and order are signed. `&&` and `||` look at conditions.
abbrev pub word_binary : BinOp → ℕ → ℕ → Answer ℕ
word_binary Mul x y = Ok (mul x y)
word_binary Div x y = unless_zero y (quotient x y)
word_binary Mod x y = unless_zero y (remainder x y)
word_binary Add x y = Ok (add x y)
word_binary Sub x y = Ok (sub x y)
word_binary Shl x y = Ok (shifted x y)
word_binary Shr x y = Ok (shifted x (negated y))
word_binary Less x y = Ok (bool_word (below x y))
word_binary LessEq x y = Ok (bool_word (not (below y x)))
word_binary More x y = Ok (bool_word (below y x))
word_binary MoreEq x y = Ok (bool_word (not (below x y)))
word_binary Equal x y = Ok (bool_word (x == y))
word_binary NotEqual x y = Ok (bool_word (not (x == y)))
word_binary BitAnd x y = Ok (bit_and x y)
word_binary BitXor x y = Ok (bit_xor x y)
word_binary BitOr x y = Ok (bit_or x y)
word_binary AndAlso x y = Err Strays
word_binary OrElse x y = Err Strays

-- the same on cells that have to be words
abbrev pub cell_unary : UnOp → Cell → Answer Cell
cell_unary op c = then_ask (word_of c) (λ x. then_ask (word_unary op x) (λ z. Ok (Num z)))

abbrev pub cell_binary : BinOp → Cell → Cell → Answer Cell
cell_binary op c d = then_ask (word_of c) (λ x. then_ask (word_of d) (λ y. then_ask (word_binary op x y) (λ z. Ok (Num z))))

-- ---- pointers

-- a pointer stepped by so many elements of a size
abbrev pub stepped : (size : ℕ) → Cell → Cell → Answer Cell
stepped size p c = then_ask (word_of c) (λ x. step p (mul x size))

abbrev pub stepped_back : (size : ℕ) → Cell → Cell → Answer Cell
stepped_back size p c = then_ask (word_of c) (λ x. step p (mul (negated x) size))

-- the distance of two pointers in elements of a size, towards zero
abbrev pub distance : (size : ℕ) → List ObjectT → Cell → Cell → Answer Cell
distance size os p q = then_ask (apart os p q) (λ x. then_ask (word_binary Div x size) (λ z. Ok (Num z)))

-- two offsets, in signed order as words are
abbrev pub ordered : BinOp → List ObjectT → Cell → Cell → Answer Cell
ordered op os p q = then_ask (offsets os p q) (λ at. then_ask (word_binary op at.0 at.1) (λ z. Ok (Num z)))

-- An operator on a pointer to elements of a size; whether the second operand is a pointer too.
abbrev pub pointer_operated : BinOp → (size : ℕ) → (pointers : Bool) → List ObjectT → Cell → Cell → Answer Cell
pointer_operated Add size pointers os p c = stepped size p c
pointer_operated Sub size true os p q = distance size os p q
pointer_operated Sub size false os p c = stepped_back size p c
pointer_operated Equal size pointers os p q = then_ask (equal_pointers os p q) (λ b. Ok (truth b))
pointer_operated NotEqual size pointers os p q = then_ask (equal_pointers os p q) (λ b. Ok (truth (not b)))
pointer_operated Less size pointers os p q = ordered Less os p q
pointer_operated LessEq size pointers os p q = ordered LessEq os p q
pointer_operated More size pointers os p q = ordered More os p q
pointer_operated MoreEq size pointers os p q = ordered MoreEq os p q
pointer_operated _ size pointers os p q = Err Strays

abbrev pub operated_on : Setting → BinOp → Option Ty → (pointers : Bool) → List ObjectT → Cell → Cell → Answer Cell
operated_on s op None pointers os c d = cell_binary op c d
operated_on s op (Some to) pointers os c d = pointer_operated op (words s to) pointers os c d

-- a binary operator other than `&&` and `||` on values of two types
abbrev pub operated : Setting → BinOp → (ta tb : Ty) → List ObjectT → Cell → Cell → Answer Cell
operated s op ta tb os c d = operated_on s op (pointed (decayed ta)) (is_pointer (decayed tb)) os c d
