-- Expressions by their operands: how an operand is taken, and what is done behind it.
use Rattle.std.specs.Prelude.{ℕ, ◌+◌, Bool, true, false, List, Option, Some, None}
use Rattle.c_tree.specs.declared.operator.BinOp.{BinOp}
use Rattle.c_types.specs.Typed.{TExprT, TKindT, NumberK, NullK, LiteralK, GlobalK, LocalK, InK, WaitK, HaltK, CardK}
use Rattle.c_types.specs.View.{ctype}
use Rattle.c_types.specs.Kinds.{decayed}
use Rattle.c_exprs.specs.Nodes.{is_place}
use Rattle.c_meaning.specs.Kinds.{type_of}
use Rattle.mid_code.specs.declared.node.Op.TheVariants as o
use Rattle.lower_trees.specs.declared.operands.After.{After}
use Rattle.lower_trees.specs.declared.operands.After.TheVariants as after
use Rattle.lower_trees.specs.declared.operands.Second.{Second}
use Rattle.lower_trees.specs.declared.operands.Second.TheVariants as by
use Rattle.lower_trees.specs.declared.operands.First.{First}
use Rattle.lower_trees.specs.Shape.{Shape, words}
use Rattle.lower_trees.specs.Flags.{is_flag}
use Rattle.lower_trees.specs.Counts.{temps, value_temps, size_temps, sizes, value_sizes}
use Rattle.lower_trees.specs.Pieces.{Piece, NothingP, ◌▸◌, DoP}
use Rattle.lower_trees.specs.Parts.{moved_by, converted, stored, stepped, operated, tested_as, negated_as}
use Rattle.lower_trees.specs.Expressions.{Low, low, low_value, member_of, step_by, gives_old, counts_up, converted_to}
use Rattle.lower_trees.specs.inner.MaybeTypes.{or_none}

-- an expression without operands
abbrev pub leaf : TKindT → (t : ℕ) → Piece
leaf (NumberK n) t = DoP (o.Const t n)
leaf NullK t = DoP (o.Null t)
leaf (LiteralK number) t = DoP (o.Literal t number)
leaf (GlobalK number) t = DoP (o.Global t number)
leaf (LocalK number) t = DoP (o.Local t number)
leaf (InK port) t = DoP (o.In t port)
leaf WaitK t = DoP o.Wait
leaf HaltK t = DoP o.Halt
leaf CardK t = DoP (o.Card t)
leaf _ t = NothingP

-- an operand: its place, or its value
abbrev pub operand : Shape → (place : Bool) → TExprT → Low
operand h true x t n m = low h x t n m
operand h false x t n m = low_value h x t n m

abbrev pub operand_temps : (place : Bool) → TExprT → ℕ
operand_temps true x = temps x
operand_temps false x = value_temps x

abbrev pub operand_sizes : Shape → (place : Bool) → TExprT → List ℕ
operand_sizes h true x = sizes h x
operand_sizes h false x = value_sizes h x

-- what is done to an operand that came to r
abbrev pub done : Shape → After → TExprT → (r t : ℕ) → Piece
done h (after.One op) x r t = DoP (o.One op t t)
done h (after.Out port) x r t = DoP (o.Out port t)
done h after.Test x r t = tested_as (decayed (type_of x)) t
done h after.Negate x r t = negated_as (decayed (type_of x)) t
done h (after.Convert ty) x r t = converted (ctype ty.now) (is_flag x) t
done h (after.ConvertFirst types) x r t = converted_to (or_none types) (is_flag x) t
done h (after.Step op) x r t = step_by h (gives_old op) (counts_up op) (type_of x) t r
done h (after.Offset offset) x r t = moved_by t r offset
done h (after.Member ty offset) x r t = moved_by t r offset ▸ member_of (is_place x) (ctype ty.now) t

-- the last temporary that is used behind an operand that came to r
abbrev pub behind : After → (r : ℕ) → ℕ
behind (after.Step op) r = r + 1
behind _ r = 0

-- how many temporaries are taken before the second operand, and behind it
abbrev pub ahead : Second → ℕ
ahead (by.Operate op) = 1
ahead (by.Element ty) = 1
ahead (by.Assign op) = 2

abbrev pub left : Second → ℕ
left (by.Operate op) = 1
left (by.Element ty) = size_temps (ctype ty.now)
left (by.Assign op) = 0

-- where the value that is assigned comes to, and what is done with it, where r is the first of two temporaries before its own
abbrev pub assigned_at : Option BinOp → (t r : ℕ) → ℕ
assigned_at None t r = t
assigned_at (Some op) t r = r

abbrev pub assigned : Shape → Option BinOp → First → TExprT → (t r : ℕ) → Piece
assigned h None f y t r = converted (ctype f.ty.now) (is_flag y) t ▸ stored h (ctype f.ty.now) f.temporary t
assigned h (Some op) f y t r =
    DoP (o.Load t f.temporary) ▸ operated h op (ctype f.ty.now) (type_of y) t t r (r + 1) ▸ converted (ctype f.ty.now) false t ▸ DoP (o.Store f.temporary t)

-- where the second operand comes to, where r is the first temporary that the first has not
abbrev pub second_at : Second → (t r : ℕ) → ℕ
second_at (by.Operate op) t r = r
second_at (by.Element ty) t r = r
second_at (by.Assign op) t r = assigned_at op t r

-- what is done to both operands, where r is the first temporary that the first has not; n is the first that neither has
abbrev pub combined : Shape → Second → First → TExprT → (t r n : ℕ) → Piece
combined h (by.Operate op) f y t r n = operated h op (ctype f.ty.now) (type_of y) t f.temporary r n
combined h (by.Element ty) f y t r n = stepped (words h (ctype ty.now)) t f.temporary r n
combined h (by.Assign op) f y t r n = assigned h op f y t r
