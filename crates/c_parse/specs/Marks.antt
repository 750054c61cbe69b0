-- The tokens that stand for operators, and those that stand for a number.
use Rattle.std.specs.Prelude.{ℕ, Option, Some, None}
use Rattle.c_lex.specs.declared.token.Punct.{Punct}
use Rattle.c_lex.specs.declared.token.Punct.TheVariants as m
use Rattle.c_tree.specs.declared.operator.UnOp.{UnOp}
use Rattle.c_tree.specs.declared.operator.UnOp.TheVariants as u
use Rattle.c_tree.specs.declared.operator.StepOp.{StepOp}
use Rattle.c_tree.specs.declared.operator.StepOp.TheVariants as s
use Rattle.c_tree.specs.declared.operator.BinOp.{BinOp}
use Rattle.c_tree.specs.declared.operator.BinOp.TheVariants as b
use Rattle.c_parse.specs.declared.class.Key.{Key}
use Rattle.c_parse.specs.declared.class.Key.TheVariants as key
use Rattle.c_parse.specs.Tok.{Tok, keyword, number, character, mark}

abbrev pub prefix_mark : Punct → Option UnOp
prefix_mark m.Minus = Some u.Minus
prefix_mark m.Plus = Some u.Plus
prefix_mark m.Bang = Some u.Not
prefix_mark m.Tilde = Some u.Flip
prefix_mark m.Star = Some u.Deref
prefix_mark m.And = Some u.Address
prefix_mark _ = None

-- the operators before their operand
abbrev pub prefix : Tok → Option UnOp
prefix (mark p) = prefix_mark p
prefix _ = None

abbrev pub step_before : Tok → Option StepOp
step_before (mark m.PlusPlus) = Some s.PreUp
step_before (mark m.MinusMinus) = Some s.PreDown
step_before _ = None

abbrev pub step_behind : Tok → Option StepOp
step_behind (mark m.PlusPlus) = Some s.PostUp
step_behind (mark m.MinusMinus) = Some s.PostDown
step_behind _ = None

abbrev pub binary_mark : Punct → Option (ℕ × BinOp)
binary_mark m.Star = Some (1, b.Mul)
binary_mark m.Slash = Some (1, b.Div)
binary_mark m.Percent = Some (1, b.Mod)
binary_mark m.Plus = Some (2, b.Add)
binary_mark m.Minus = Some (2, b.Sub)
binary_mark m.Shl = Some (3, b.Shl)
binary_mark m.Shr = Some (3, b.Shr)
binary_mark m.Less = Some (4, b.Less)
binary_mark m.LessEqual = Some (4, b.LessEq)
binary_mark m.Greater = Some (4, b.More)
binary_mark m.GreaterEqual = Some (4, b.MoreEq)
binary_mark m.EqualEqual = Some (5, b.Equal)
binary_mark m.NotEqual = Some (5, b.NotEqual)
binary_mark m.And = Some (6, b.BitAnd)
binary_mark m.Xor = Some (7, b.BitXor)
binary_mark m.Or = Some (8, b.BitOr)
binary_mark m.AndAnd = Some (9, b.AndAlso)
binary_mark m.OrOr = Some (10, b.OrElse)
binary_mark _ = None

-- the operators between two operands, each with its level: 1 binds most tightly, 10 least
abbrev pub binary : Tok → Option (ℕ × BinOp)
binary (mark p) = binary_mark p
binary _ = None

abbrev pub assigner_mark : Punct → Option (Option BinOp)
assigner_mark m.Assign = Some None
assigner_mark m.PlusAssign = Some (Some b.Add)
assigner_mark m.MinusAssign = Some (Some b.Sub)
assigner_mark m.StarAssign = Some (Some b.Mul)
assigner_mark m.SlashAssign = Some (Some b.Div)
assigner_mark m.PercentAssign = Some (Some b.Mod)
assigner_mark m.ShlAssign = Some (Some b.Shl)
assigner_mark m.ShrAssign = Some (Some b.Shr)
assigner_mark m.AndAssign = Some (Some b.BitAnd)
assigner_mark m.OrAssign = Some (Some b.BitOr)
assigner_mark m.XorAssign = Some (Some b.BitXor)
assigner_mark _ = None

-- the assignments, each with the operator that it joins
abbrev pub assigner : Tok → Option (Option BinOp)
assigner (mark p) = assigner_mark p
assigner _ = None

abbrev pub value_of_key : Key → Option ℕ
value_of_key key.True = Some 1
value_of_key key.False = Some 0
value_of_key _ = None

-- the number that a token stands for
abbrev pub value : Tok → Option ℕ
value (number n) = Some n
value (character n) = Some n
value (keyword k) = value_of_key k
value _ = None
