-- What operations and calls in memory read and write.
use Rattle.std.specs.Prelude.{List, [], ◌∷◌, map, Option, Some}
use Rattle.mid_code.specs.declared.operands.Uses.{Uses}
use Rattle.mid_code.specs.declared.operands.Uses.TheVariants as u
use Rattle.mid_code.specs.declared.node.Op.{Op}
use Rattle.mid_code.specs.declared.node.Op.TheVariants as op
use Rattle.mid_code.specs.Code.{Stop, node_uses, node_target}
use Rattle.mid_code.specs.Functions.{op_before}

-- the places that it reads, in its order, and its target
abbrev pub op_uses : {P : Type 0} → Op P → List P
op_uses o = node_uses (op_before o Stop)

abbrev pub op_target : {P : Type 0} → Op P → Option P
op_target o = node_target (op_before o Stop)

abbrev pub listed_uses : {P : Type 0} → Uses P → List P
listed_uses u.Nothing = []
listed_uses (u.One a) = a ∷ []
listed_uses (u.Two a b) = a ∷ b ∷ []
listed_uses (u.All ps) = ps.now

-- the operation with another target, where it has one; a call then has one
abbrev pub op_into : {P : Type 0} → P → Op P → Op P
op_into x (op.Const t word) = op.Const x word
op_into x (op.Null t) = op.Null x
op_into x (op.Move t a) = op.Move x a
op_into x (op.One o t a) = op.One o x a
op_into x (op.Two o t a b) = op.Two o x a b
op_into x (op.Global t number) = op.Global x number
op_into x (op.Local t number) = op.Local x number
op_into x (op.Literal t number) = op.Literal x number
op_into x (op.Card t) = op.Card x
op_into x (op.Step t p n) = op.Step x p n
op_into x (op.Apart t p q) = op.Apart x p q
op_into x (op.PtrTest o t p q) = op.PtrTest o x p q
op_into x (op.Load t p) = op.Load x p
op_into x (op.In t port) = op.In x port
op_into x (op.Call t f args) = op.Call (Some x) f args
op_into x o = o

-- the operation or call that reads other places
abbrev pub op_reading : {P : Type 0} → (P → P) → Op P → Op P
op_reading w (op.Move t a) = op.Move t (w a)
op_reading w (op.One o t a) = op.One o t (w a)
op_reading w (op.Two o t a b) = op.Two o t (w a) (w b)
op_reading w (op.Step t p n) = op.Step t (w p) (w n)
op_reading w (op.Apart t p q) = op.Apart t (w p) (w q)
op_reading w (op.PtrTest o t p q) = op.PtrTest o t (w p) (w q)
op_reading w (op.Load t p) = op.Load t (w p)
op_reading w (op.Store p a) = op.Store (w p) (w a)
op_reading w (op.Call t f args) = op.Call t f (map w args)
op_reading w (op.Out port a) = op.Out port (w a)
op_reading w o = o
