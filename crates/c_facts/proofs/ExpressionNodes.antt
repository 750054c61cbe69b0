-- A typed expression has at most as many nodes as its tree, and so has what an initialiser fills.
use Rattle.std.proofs.Common.{◌≡◌, ℕ, ◌+◌, ◌≤◌, Bool, true, false, List, Option, Some, None, Result, Ok, Err, subst, arith}
use Rattle.std.specs.Prelude.{if◌then◌else◌}
use Rattle.v32_isa.specs.Ports.{PortEntry}
use Rattle.c_tree.specs.declared.span.Span.{Span}
use Rattle.c_tree.specs.Tree.{ExprT, ExprTs, InitT, InitTs}
use Rattle.c_tree.specs.Count.{expr_nodes, exprs_nodes, init_nodes, inits_nodes}
use Rattle.c_types.specs.Types.{Ty, VoidY, IntY, BoolY, EnumY, StructY, UnionY, PointerY, ArrayY, MemberT}
use Rattle.c_types.specs.Typed.{TExprT, Typed, TKindT, TExprTs, NoX, MoreX, TInitT, TInitTs}
use Rattle.c_rules.specs.declared.code.Code.{Code}
use Rattle.c_exprs.specs.Env.{Text, LocalD, Decl, TypeD, ConstantD, GlobalD, FunctionD, Ctx, find, find_in}
use Rattle.c_exprs.specs.declared.intrinsics.Intrinsic.{Intrinsic}
use Rattle.c_exprs.specs.declared.intrinsics.Intrinsic.TheVariants.{PortIn, PortOut, WaitFrame, Halt, CardMemory}
use Rattle.c_exprs.specs.Intrinsics.{intrinsic}
use Rattle.c_exprs.specs.Faults.{placed}
use Rattle.c_exprs.specs.Nodes.{type_of_typed, kind_of_typed, span_of, intrinsic_tree, declared_tree, local_or_declared, name_tree, layout_of, member_in, member_at, member_tree, arrow_at, arrow_tree}
use Rattle.c_exprs.specs.Calls.{Callee, FunctionC, IntrinsicC, callee, with_body, function_call, first_port, read_port, written_port, port_in_call, port_out_call, plain_call, intrinsic_call, call_of, call_node}
use Rattle.c_types.specs.Lists.{listed}
use Rattle.c_exprs.specs.Types as e
use Rattle.c_exprs.specs.Types.{Types, Values, Used, AllValues}
use Rattle.c_stmts.specs.Slots.{Slots, text_fills, value_fills, fills, filled, literal_of}
use Rattle.c_stmts.specs.InitTypes as i
use Rattle.c_stmts.specs.InitTypes.{Fills, AllFill}
use Rattle.c_types.specs.Nodes.{typed_nodes, kind_nodes, all_typed_nodes, filled_nodes, all_filled_nodes}

-- ---- answers of the rules

-- what an answer gives is so
abbrev Gives : {A : Type 0} → (A → Type 0) → Result A Code → Type 0
Gives P (Ok x) = P x
Gives P (Err k) = Unit {0}

placed_gives : {A : Type 0} (P : A → Type 0) (s : Span) (r : Result A Code) (x : A) → Gives P r → placed s r ≡ Ok x → P x
placed_gives P s (Ok y) x g h = let same : y ≡ x = cc in subst P same g
placed_gives P s (Err k) x g h = cc

tested_gives : {A : Type 0} (P : A → Type 0) (test : Bool) (k : Code) (r : Result A Code) → Gives P r → Gives P (if test then r else Err k)
tested_gives P true k r g = g
tested_gives P false k r g = tt

-- at most so many nodes
abbrev IsFew : ℕ → TExprT → Type 0
IsFew n x = typed_nodes x ≤ n

abbrev IsFewKind : ℕ → TKindT × Ty → Type 0
IsFewKind n u = kind_nodes u.0 ≤ n

abbrev IsFewFilled : ℕ → TInitT → Type 0
IsFewFilled n x = filled_nodes x ≤ n

-- ---- names and members

intrinsic_gives : (o : Option Intrinsic) → Gives (IsFew 1) (intrinsic_tree o)
intrinsic_gives None = tt
intrinsic_gives (Some j) = tt

declared_gives : (n : Text) (s : Span) (d : Option Decl) → Gives (IsFew 1) (declared_tree n s d)
declared_gives n s None = intrinsic_gives (intrinsic n)
declared_gives n s (Some (TypeD ty)) = tt
declared_gives n s (Some (ConstantD k)) = omega arith
declared_gives n s (Some (GlobalD number ty)) = omega arith
declared_gives n s (Some (FunctionD params gives)) = tt

local_gives : (n : Text) (s : Span) (l : Option LocalD) (d : Option Decl) → Gives (IsFew 1) (local_or_declared n s l d)
local_gives n s (Some l) d = omega arith
local_gives n s None d = declared_gives n s d

name_gives : (c : Ctx) (n : Text) (s : Span) → Gives (IsFew 1) (name_tree c n s)
unfolding name_tree
name_gives c n s = local_gives n s (find_in n c.scopes) (find n c.names)

member_at_gives : (s : Span) (x : TExprT) (r : Result MemberT Code) → Gives (IsFew (typed_nodes x + 1)) (member_at s x r)
member_at_gives s x (Err k) = tt
member_at_gives s x (Ok m) = search (arith, tested_gives (IsFew (typed_nodes x + 1)))

member_gives : (c : Ctx) (s : Span) (x : TExprT) (n : Text) → Gives (IsFew (typed_nodes x + 1)) (member_tree c s x n)
unfolding member_tree
member_gives c s x n = member_at_gives s x (member_in n (layout_of c.layouts (type_of_typed x)))

arrow_at_gives : (s : Span) (x : TExprT) (r : Result MemberT Code) → Gives (IsFew (typed_nodes x + 1)) (arrow_at s x r)
arrow_at_gives s x (Err k) = tt
arrow_at_gives s x (Ok m) = omega arith

arrow_gives : (c : Ctx) (s : Span) (x : TExprT) (n : Text) → Gives (IsFew (typed_nodes x + 1)) (arrow_tree c s x n)
unfolding arrow_tree
arrow_gives c s x n = arrow_at_gives s x _

-- ---- calls

body_gives : (ty : Ty) (xs : TExprTs) (number : Option ℕ) → Gives (IsFewKind (all_typed_nodes xs)) (with_body ty xs number)
body_gives ty xs None = tt
body_gives ty xs (Some number) = omega arith

function_gives : (params : List Ty) (ty : Ty) (number : Option ℕ) (xs : TExprTs) → Gives (IsFewKind (all_typed_nodes xs)) (function_call params ty number xs)
unfolding function_call
function_gives params ty number xs =
    search (tested_gives (IsFewKind (all_typed_nodes xs)), body_gives)

read_gives : (r : Result (Option PortEntry) Code) → Gives (IsFewKind 0) (read_port r)
read_gives (Err k) = tt
read_gives (Ok None) = tt
read_gives (Ok (Some p)) = search (arith, tested_gives (IsFewKind 0))

written_gives : (x : TExprT) (n : ℕ) (r : Result (Option PortEntry) Code) → typed_nodes x ≤ n → Gives (IsFewKind n) (written_port x r)
written_gives x n (Err k) h = tt
written_gives x n (Ok None) h = tt
written_gives x n (Ok (Some p)) h = search (tested_gives (IsFewKind n), h)

port_in_gives : (args : ExprTs) (xs : TExprTs) → Gives (IsFewKind (all_typed_nodes xs)) (port_in_call args (listed xs))
port_in_gives args NoX = read_gives (first_port args)
port_in_gives args (MoreX x xs) = tt

port_out_gives : (args : ExprTs) (xs : TExprTs) → Gives (IsFewKind (all_typed_nodes xs)) (port_out_call args (listed xs))
port_out_gives args NoX = tt
port_out_gives args (MoreX x NoX) = search (arith, tested_gives (IsFewKind (typed_nodes x + 0)), written_gives)
port_out_gives args (MoreX x (MoreX y xs)) = search (tested_gives (IsFewKind (typed_nodes x + (typed_nodes y + all_typed_nodes xs))))

plain_gives : (kind : TKindT) (ty : Ty) (xs : TExprTs) → kind_nodes kind ≤ 0 → Gives (IsFewKind (all_typed_nodes xs)) (plain_call kind ty (listed xs))
plain_gives kind ty NoX h = h
plain_gives kind ty (MoreX x xs) h = tt

intrinsic_call_gives : (j : Intrinsic) (args : ExprTs) (xs : TExprTs) → Gives (IsFewKind (all_typed_nodes xs)) (intrinsic_call j args (listed xs))
unfolding intrinsic_call
intrinsic_call_gives PortIn args xs = port_in_gives args xs
intrinsic_call_gives PortOut args xs = port_out_gives args xs
intrinsic_call_gives WaitFrame args xs = plain_gives _ _ xs (omega arith)
intrinsic_call_gives Halt args xs = plain_gives _ _ xs (omega arith)
intrinsic_call_gives CardMemory args xs = plain_gives _ _ xs (omega arith)

callee_gives : (r : Result Callee Code) (args : ExprTs) (xs : TExprTs) → Gives (IsFewKind (all_typed_nodes xs)) (call_of r args xs)
callee_gives (Err k) args xs = tt
callee_gives (Ok (FunctionC params ty number)) args xs = function_gives params ty number xs
callee_gives (Ok (IntrinsicC j)) args xs = intrinsic_call_gives j args xs

call_gives : (c : Ctx) (n : Text) (args : ExprTs) (xs : TExprTs) → Gives (IsFewKind (all_typed_nodes xs)) (call_node c n args xs)
unfolding call_node
call_gives c n args xs = callee_gives (callee c n) args xs

-- ---- expressions

name_few : (c : Ctx) (n : Text) (s : Span) (x : TExprT) → placed s (name_tree c n s) ≡ Ok x → typed_nodes x ≤ 1
name_few c n s x h = placed_gives (IsFew 1) s (name_tree c n s) x (name_gives c n s) h

member_few : (c : Ctx) (s : Span) (x : TExprT) (n : Text) (y : TExprT) → placed s (member_tree c s x n) ≡ Ok y → typed_nodes y ≤ typed_nodes x + 1
member_few c s x n y h = placed_gives (IsFew (typed_nodes x + 1)) s (member_tree c s x n) y (member_gives c s x n) h

arrow_few : (c : Ctx) (s : Span) (x : TExprT) (n : Text) (y : TExprT) → placed s (arrow_tree c s x n) ≡ Ok y → typed_nodes y ≤ typed_nodes x + 1
arrow_few c s x n y h = placed_gives (IsFew (typed_nodes x + 1)) s (arrow_tree c s x n) y (arrow_gives c s x n) h

call_few : (c : Ctx) (s : Span) (n : Text) (args : ExprTs) (xs : TExprTs) (u : TKindT × Ty) → placed s (call_node c n args xs) ≡ Ok u → kind_nodes u.0 ≤ all_typed_nodes xs
call_few c s n args xs u h = placed_gives (IsFewKind (all_typed_nodes xs)) s (call_node c n args xs) u (call_gives c n args xs) h

mutual
  pub typed_few : {c : Ctx} {ts us : List Text} {a : ExprT} {x : TExprT} → Types c ts a x us → typed_nodes x ≤ expr_nodes a
  typed_few {c = c} {x = x} (e.name {n = n} {s = s} h) = name_few c n s x h
  typed_few e.number = omega arith
  typed_few (e.text h) = omega arith
  typed_few e.null = omega arith
  typed_few (e.paren g) = omega (arith, typed_few g)
  typed_few (e.unary g h) = omega (arith, used_few g)
  typed_few (e.binary g k h) = omega (arith, value_few g, value_few k)
  typed_few (e.assign g k h) = omega (arith, typed_few g, value_few k)
  typed_few (e.compound g k h) = omega (arith, typed_few g, value_few k)
  typed_few (e.step g h) = omega (arith, typed_few g)
  typed_few (e.index g k h) = omega (arith, value_few g, value_few k)
  typed_few {c = c} (e.member {n = n} {s = s} {x = x} {y = y} g h) = omega (arith, typed_few g, member_few c s x n y h)
  typed_few {c = c} (e.arrow {n = n} {s = s} {x = x} {y = y} g h) = omega (arith, value_few g, arrow_few c s x n y h)
  typed_few {c = c} (e.call {n = n} {args = args} {s = s} {xs = xs} {u = u} g h) = omega (arith, values_few g, call_few c s n args xs u h)
  typed_few (e.cast t g h) = omega (arith, value_few g)
  typed_few (e.size_of t h) = omega arith

  pub value_few : {c : Ctx} {ts us : List Text} {a : ExprT} {x : TExprT} → Values c ts a x us → typed_nodes x ≤ expr_nodes a
  value_few (e.value g h) = typed_few g

  pub used_few : {c : Ctx} {ts us : List Text} {kept : Bool} {a : ExprT} {x : TExprT} → Used c ts kept a x us → typed_nodes x ≤ expr_nodes a
  used_few (e.as_place g) = typed_few g
  used_few (e.by_value g) = value_few g

  -- a port's name has no node
  pub values_few : {c : Ctx} {ts us : List Text} {named : Bool} {all : ExprTs} {xs : TExprTs} → AllValues c ts named all xs us → all_typed_nodes xs ≤ exprs_nodes all
  values_few e.none = omega arith
  values_few (e.port g) = omega (arith, values_few g)
  values_few (e.more g k) = omega (arith, value_few g, values_few k)

-- ---- initialisers

text_gives : (x : TExprT) (of : Ty) (count : ℕ) (number : Option ℕ) (text : Ty) → Gives (IsFewFilled (typed_nodes x + 1)) (text_fills of count number text)
text_gives x of count None text = tt
text_gives (Typed kind ty span) of count (Some number) text = search (arith, tested_gives (IsFewFilled (kind_nodes kind + 1 + 1)))

value_gives : (global : Bool) (ty : Ty) (x : TExprT) → Gives (IsFewFilled (typed_nodes x + 1)) (value_fills global ty x)
value_gives true ty x = search (arith, tested_gives (IsFewFilled (typed_nodes x + 1)))
value_gives false ty x = search (arith, tested_gives (IsFewFilled (typed_nodes x + 1)))

fills_gives : (global : Bool) (ty : Ty) (x : TExprT) → Gives (IsFewFilled (typed_nodes x + 1)) (fills global ty x)
fills_gives global VoidY x = value_gives global VoidY x
fills_gives global IntY x = value_gives global IntY x
fills_gives global BoolY x = value_gives global BoolY x
fills_gives global (EnumY number) x = value_gives global (EnumY number) x
fills_gives global (StructY number) x = value_gives global (StructY number) x
fills_gives global (UnionY number) x = value_gives global (UnionY number) x
fills_gives global (PointerY to) x = value_gives global (PointerY to) x
fills_gives global (ArrayY of count) x = text_gives x of count (literal_of (kind_of_typed x)) (type_of_typed x)

filled_gives : (global : Bool) (target : Option Ty) (x : TExprT) → Gives (IsFewFilled (typed_nodes x + 1)) (filled global target x)
unfolding filled
filled_gives global None x = omega arith
filled_gives global (Some ty) x = fills_gives global ty x

filled_few : (s : Span) (global : Bool) (target : Option Ty) (x : TExprT) (y : TInitT) → placed s (filled global target x) ≡ Ok y → filled_nodes y ≤ typed_nodes x + 1
filled_few s global target x y h = placed_gives (IsFewFilled (typed_nodes x + 1)) s (filled global target x) y (filled_gives global target x) h

mutual
  pub fill_few : {c : Ctx} {ts us : List Text} {global : Bool} {target : Option Ty} {a : InitT} {x : TInitT} → Fills c ts global target a x us → filled_nodes x ≤ init_nodes a
  fill_few {global = global} {target = target} (i.one {e = a} {x = x} {i = y} g h) = omega (arith, value_few g, filled_few (span_of a) global target x y h)
  fill_few (i.list g h) = omega (arith, fills_few g)

  pub fills_few : {c : Ctx} {ts us : List Text} {global : Bool} {slots : Slots} {all : InitTs} {xs : TInitTs} → AllFill c ts global slots all xs us → all_filled_nodes xs ≤ inits_nodes all
  fills_few i.no_items = omega arith
  fills_few (i.more_items g k) = omega (arith, fill_few g, fills_few k)
