-- The arithmetic of constants: words with their signed reading.
use Rattle.std.specs.Prelude.{ℕ, ◌-◌, ◌^◌, ◌==◌, ◌&&◌, ◌||◌, Option, Some, None, if◌then◌else◌, not, bit_and, bit_or, bit_xor}
use Rattle.kit_base.specs.Word.{add, sub, mul, quotient, remainder, shifted, bool_word, below, negated}
use Rattle.c_tree.specs.declared.operator.UnOp.{UnOp}
use Rattle.c_tree.specs.declared.operator.UnOp.TheVariants.{Minus, Plus, Not, Flip, Deref, Address}
use Rattle.c_tree.specs.declared.operator.BinOp.{BinOp}
use Rattle.c_tree.specs.declared.operator.BinOp.TheVariants.{Mul, Div, Mod, Add, Sub, Shl, Shr, Less, LessEq, More, MoreEq, Equal, NotEqual, BitAnd}
use Rattle.c_tree.specs.declared.operator.BinOp.TheVariants.{BitXor, BitOr, AndAlso, OrElse}

-- none where the operator makes no constant
abbrev pub constant_unary : UnOp → ℕ → Option ℕ
constant_unary Minus a = Some (negated a)
constant_unary Plus a = Some a
constant_unary Not a = Some (bool_word (a == 0))
constant_unary Flip a = Some (2 ^ 32 - 1 - a)
constant_unary Deref a = None
constant_unary Address a = None

-- None at a division by 0. A shift to the right is one to the left by the count's negative; order is signed.
abbrev pub constant_binary : BinOp → ℕ → ℕ → Option ℕ
constant_binary Mul a b = Some (mul a b)
constant_binary Div a b = if b == 0 then None else Some (quotient a b)
constant_binary Mod a b = if b == 0 then None else Some (remainder a b)
constant_binary Add a b = Some (add a b)
constant_binary Sub a b = Some (sub a b)
constant_binary Shl a b = Some (shifted a b)
constant_binary Shr a b = Some (shifted a (negated b))
constant_binary Less a b = Some (bool_word (below a b))
constant_binary LessEq a b = Some (bool_word (not (below b a)))
constant_binary More a b = Some (bool_word (below b a))
constant_binary MoreEq a b = Some (bool_word (not (below a b)))
constant_binary Equal a b = Some (bool_word (a == b))
constant_binary NotEqual a b = Some (bool_word (not (a == b)))
constant_binary BitAnd a b = Some (bit_and a b)
constant_binary BitXor a b = Some (bit_xor a b)
constant_binary BitOr a b = Some (bit_or a b)
constant_binary AndAlso a b = Some (bool_word (not (a == 0) && not (b == 0)))
constant_binary OrElse a b = Some (bool_word (not (a == 0) || not (b == 0)))
