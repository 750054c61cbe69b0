-- Expressions lowered to mid code. What an expression comes to, its place or its value, comes to the temporary t; its own temporaries are those
-- from n on, and the locals of the structures that it makes are those from m on. No number is used twice.
use Rattle.std.specs.Prelude.{ℕ, ◌+◌, Bool, true, false, List, [], ◌∷◌, ◌++◌, length, Option, Some, None, if◌then◌else◌}
use Rattle.c_tree.specs.declared.operator.UnOp.{UnOp}
use Rattle.c_tree.specs.declared.operator.UnOp.TheVariants as un
use Rattle.c_tree.specs.declared.operator.BinOp.{BinOp}
use Rattle.c_tree.specs.declared.operator.BinOp.TheVariants.{AndAlso, OrElse}
use Rattle.c_tree.specs.declared.operator.StepOp.{StepOp}
use Rattle.c_tree.specs.declared.operator.StepOp.TheVariants.{PreUp, PreDown, PostUp, PostDown}
use Rattle.c_types.specs.Types.{Ty, VoidY, ArrayY}
use Rattle.c_types.specs.Typed.{TExprT, Typed, TKindT, NumberK, NullK, LiteralK, GlobalK, LocalK, UnaryK, BinaryK, AssignK, StepK, IndexK, MemberK}
use Rattle.c_types.specs.Typed.{ArrowK, CastK, CallK, InK, OutK, WaitK, HaltK, CardK, TExprTs, NoX, MoreX}
use Rattle.c_exprs.specs.Nodes.{is_place}
use Rattle.c_meaning.specs.Kinds.{type_of}
use Rattle.c_types.specs.Kinds.{is_void, is_structure, decayed, pointed}
use Rattle.v32_isa.specs.declared.instruction.One.TheVariants.{ISGN, NOT}
use Rattle.mid_code.specs.declared.node.Op.TheVariants as o
use Rattle.lower_trees.specs.Shape.{Shape, words, params_of, result_of}
use Rattle.lower_trees.specs.Flags.{is_flag, tests_flag}
use Rattle.lower_trees.specs.Pieces.{Piece, NothingP, ◌▸◌, EitherP, DoP, ChooseP}
use Rattle.lower_trees.specs.Parts.{moved_by, structure_read, as_flag, converted, stored, stepped, operated, one_more, one_less, tested_as, negated_as}
use Rattle.lower_trees.specs.Counts.{temps, value_temps, sizes, value_sizes, sizes_all}

-- a tree, lowered
abbrev pub Low : Type 0
Low = (t n m : ℕ) → Piece

-- ---- values

-- The value of a place of this type: of a scalar its cell, of a structure a pointer to a copy in the local k, of an array the place itself, of
-- void nothing. A scalar's place stands in a temporary of its own.
abbrev pub read : Shape → Ty → (k : ℕ) → Low → Low
read h (ArrayY of len) k place t n m = place t n m
read h VoidY k place t n m = place t n m
read h ty k place t n m = EitherP (is_structure ty) (place t n m ▸ structure_read (words h ty) k t) (place n (n + 1) m ▸ DoP (o.Load t n))

abbrev pub value_of : Shape → (place : Bool) → Ty → (k : ℕ) → Low → Low
value_of h true ty k part t n m = read h ty k part t n m
value_of h false ty k part t n m = part t n m

abbrev pub value : Shape → TExprT → Low → Low
value h x part t n m = value_of h (is_place x) (type_of x) (m + length (sizes h x)) part t n m

-- a condition: t takes a word
abbrev pub test : Shape → TExprT → Low → Low
test h x part t n m = value h x part t n m ▸ tested_as (decayed (type_of x)) t

-- ---- operators

abbrev pub unary : Shape → UnOp → TExprT → Low → Low
unary h un.Deref x part t n m = value h x part t n m
unary h un.Address x part t n m = part t n m
unary h un.Not x part t n m = value h x part t n m ▸ negated_as (decayed (type_of x)) t
unary h un.Minus x part t n m = value h x part t n m ▸ DoP (o.One ISGN t t)
unary h un.Plus x part t n m = value h x part t n m
unary h un.Flip x part t n m = value h x part t n m ▸ DoP (o.One NOT t t)

-- The value of a first operand comes to n; that of the second comes to this one. Its locals are these.
abbrev pub second : TExprT → (n : ℕ) → ℕ
second x n = n + 1 + value_temps x

abbrev pub beyond : Shape → TExprT → (m : ℕ) → ℕ
beyond h x m = m + length (value_sizes h x)

-- the size of an element, behind both
abbrev pub size_at : (x y : TExprT) → (n : ℕ) → ℕ
size_at x y n = second y (second x n)

-- the second operand of `&&` or `||`
abbrev pub second_test : Shape → (x y : TExprT) → Low → Low
second_test h x y last t n m = test h y last t (second x n) (beyond h x m) ▸ as_flag (tests_flag y) t

-- whether an operator skips its second operand: where the first is 0 (`&&`), or where it is not
abbrev pub lazy_of : BinOp → Option Bool
lazy_of AndAlso = Some true
lazy_of OrElse = Some false
lazy_of _ = None

abbrev pub lazy_choice : (and : Bool) → (t : ℕ) → Piece → Piece
lazy_choice and t last = EitherP and (ChooseP t last (DoP (o.Const t 0))) (ChooseP t (DoP (o.Const t 1)) last)

abbrev pub binary_by : Option Bool → Shape → BinOp → (x y : TExprT) → (first last : Low) → Low
binary_by (Some and) h op x y first last t n m = test h x first t n m ▸ lazy_choice and t (second_test h x y last t n m)
binary_by None h op x y first last t n m =
    value h x first n (n + 1) m ▸ value h y last (second x n) (second x n + 1) (beyond h x m)
    ▸ operated h op (type_of x) (type_of y) t n (second x n) (size_at x y n)

abbrev pub binary : Shape → BinOp → (x y : TExprT) → (first last : Low) → Low
binary h op x y first last t n m = binary_by (lazy_of op) h op x y first last t n m

-- ---- assignments and steps: the place comes to n

-- the first temporary behind those of a place
abbrev pub behind_place : TExprT → (n : ℕ) → ℕ
behind_place x n = n + 1 + temps x

-- A compound assignment reads the old cell after the value, and operates on it where it stands.
abbrev pub assign : Shape → Option BinOp → (x y : TExprT) → (first last : Low) → Low
assign h None x y first last t n m =
    first n (n + 1) m ▸ value h y last t (behind_place x n + 2) (m + length (sizes h x)) ▸ converted (type_of x) (is_flag y) t ▸ stored h (type_of x) n t
assign h (Some op) x y first last t n m =
    first n (n + 1) m ▸ value h y last (behind_place x n) (behind_place x n + 2) (m + length (sizes h x))
    ▸ DoP (o.Load t n) ▸ operated h op (type_of x) (type_of y) t t (behind_place x n) (behind_place x n + 1)
    ▸ converted (type_of x) false t ▸ DoP (o.Store n t)

-- whether a step gives the cell before it, and whether it counts up
abbrev pub gives_old : StepOp → Bool
gives_old PreUp = false
gives_old PreDown = false
gives_old PostUp = true
gives_old PostDown = true

abbrev pub counts_up : StepOp → Bool
counts_up PreUp = true
counts_up PreDown = false
counts_up PostUp = true
counts_up PostDown = false

-- by how much comes to `by`
abbrev pub step_made : Shape → (up : Bool) → Ty → (new old by : ℕ) → Piece
step_made h true ty new old by = one_more h (pointed (decayed ty)) new old by
step_made h false ty new old by = one_less h (pointed (decayed ty)) new old by

abbrev pub stepped_to : Shape → (up : Bool) → Ty → (new old n : ℕ) → Piece
stepped_to h up ty new old n = DoP (o.Load old n) ▸ step_made h up ty new old (n + 1) ▸ converted ty false new ▸ DoP (o.Store n new)

-- a prefix step gives the new cell, a postfix step the old one
abbrev pub step_by : Shape → (old up : Bool) → Ty → (t n : ℕ) → Piece
step_by h true up ty t n = stepped_to h up ty (n + 1) t n
step_by h false up ty t n = stepped_to h up ty t t n

abbrev pub step_taken : Shape → StepOp → TExprT → Low → Low
step_taken h op x place t n m = place n (n + 2) m ▸ step_by h (gives_old op) (counts_up op) (type_of x) t n

-- ---- elements and members

abbrev pub index : Shape → Ty → (x y : TExprT) → (first last : Low) → Low
index h ty x y first last t n m =
    value h x first n (n + 1) m ▸ value h y last (second x n) (second x n + 1) (beyond h x m) ▸ stepped (words h ty) t n (second x n) (size_at x y n)

-- a scalar member of a structure that is a value, and no place, is read
abbrev pub member_of : (place : Bool) → Ty → (t : ℕ) → Piece
member_of true ty t = NothingP
member_of false ty t = EitherP (is_structure ty) NothingP (DoP (o.Load t t))

-- ---- calls

-- A structure is returned to a local that is made before the call, and passed as a pointer to it before the arguments.
abbrev pub led : Ty → (t : ℕ) → List ℕ
led ty t = if is_structure ty then t ∷ [] else []

abbrev pub called_with : Ty → (function local t : ℕ) → (args : List ℕ) → Piece
called_with ty f k t args =
    EitherP (is_structure ty) (DoP (o.Fresh k) ▸ DoP (o.Local t k) ▸ DoP (o.Call None f args)) (DoP (o.Call (if is_void ty then None else Some t) f args))

abbrev pub called : Ty → (function local t : ℕ) → (args : List ℕ) → Piece
called ty f k t args = called_with ty f k t (led ty t ++ args)

-- the temporaries that arguments come to
abbrev pub spots : TExprTs → (n : ℕ) → List ℕ
spots NoX n = []
spots (MoreX x xs) n = n ∷ spots xs (second x n)

abbrev pub converted_to : List Ty → (known : Bool) → (t : ℕ) → Piece
converted_to [] known t = NothingP
converted_to (ty ∷ tys) known t = converted ty known t

abbrev pub later_types : List Ty → List Ty
later_types [] = []
later_types (ty ∷ tys) = tys

-- ---- all forms

abbrev mutual
  pub low : Shape → TExprT → Low
  low h (Typed kind ty span) t n m = low_kind h kind ty t n m

  pub low_kind : Shape → TKindT → Ty → Low
  low_kind h (NumberK x) ty t n m = DoP (o.Const t x)
  low_kind h NullK ty t n m = DoP (o.Null t)
  low_kind h (LiteralK number) ty t n m = DoP (o.Literal t number)
  low_kind h (GlobalK number) ty t n m = DoP (o.Global t number)
  low_kind h (LocalK number) ty t n m = DoP (o.Local t number)
  low_kind h (UnaryK op x) ty t n m = unary h op x (low h x) t n m
  low_kind h (BinaryK op x y) ty t n m = binary h op x y (low h x) (low h y) t n m
  low_kind h (AssignK op x y) ty t n m = assign h op x y (low h x) (low h y) t n m
  low_kind h (StepK op x) ty t n m = step_taken h op x (low h x) t n m
  low_kind h (IndexK x y) ty t n m = index h ty x y (low h x) (low h y) t n m
  low_kind h (MemberK x offset) ty t n m = low h x n (n + 1) m ▸ moved_by t n offset ▸ member_of (is_place x) ty t
  low_kind h (ArrowK x offset) ty t n m = value h x (low h x) n (n + 1) m ▸ moved_by t n offset
  low_kind h (CastK x) ty t n m = value h x (low h x) t n m ▸ converted ty (is_flag x) t
  low_kind h (CallK f xs) ty t n m = low_args h (params_of h f) xs n m ▸ called (result_of h f) f (m + length (sizes_all h xs)) t (spots xs n)
  low_kind h (InK port) ty t n m = DoP (o.In t port)
  low_kind h (OutK port x) ty t n m = value h x (low h x) t n m ▸ DoP (o.Out port t)
  low_kind h WaitK ty t n m = DoP o.Wait
  low_kind h HaltK ty t n m = DoP o.Halt
  low_kind h CardK ty t n m = DoP (o.Card t)

  -- arguments, for parameters of these types
  pub low_args : Shape → List Ty → TExprTs → (n m : ℕ) → Piece
  low_args h tys NoX n m = NothingP
  low_args h tys (MoreX x xs) n m =
      value h x (low h x) n (n + 1) m ▸ converted_to tys (is_flag x) n ▸ low_args h (later_types tys) xs (second x n) (beyond h x m)

abbrev pub low_value : Shape → TExprT → Low
low_value h x = value h x (low h x)

abbrev pub low_test : Shape → TExprT → Low
low_test h x = test h x (low h x)
