-- The plain data that types, layouts and typed trees in memory stand for.
use Rattle.std.specs.Prelude.{ℕ, List, [], ◌∷◌, Option, Some, None, map, option_map}
use Rattle.std.specs.Borrow.{Bor}
use Rattle.c_types.specs.declared.ctype.CType.{CType}
use Rattle.c_types.specs.declared.layout.Member.{Member}
use Rattle.c_types.specs.declared.layout.Layout.{Layout}
use Rattle.c_types.specs.declared.typed.TExpr.{TExpr, TExpr-F, fold-TExpr}
use Rattle.c_types.specs.declared.typed.TKind.{TKind-F}
use Rattle.c_types.specs.declared.typed.TKind.TheOpen as k
use Rattle.c_types.specs.declared.typed.TInit.{TInit, TInit-F, fold-TInit}
use Rattle.c_types.specs.declared.typed.TInit.TheOpen as i
use Rattle.c_types.specs.declared.typed.TVar.{TVar}
use Rattle.c_types.specs.declared.typed.TStmt.{TStmt, TStmt-F, fold-TStmt}
use Rattle.c_types.specs.declared.typed.TArm.{TArm, TArm-F, fold-TArm}
use Rattle.c_types.specs.declared.typed.TArm.TheOpen as z
use Rattle.c_types.specs.declared.function.TFunction.{TFunction}
use Rattle.c_types.specs.Programs.{TFunctionT}
pub use Rattle.c_types.specs.Ctype.{ctype}
use Rattle.c_types.specs.Types.{Ty, VoidY, MemberT, LayoutT}
use Rattle.c_types.specs.Typed.{TExprT, Typed, TKindT, NumberK, NullK, LiteralK, GlobalK, LocalK, UnaryK, BinaryK, AssignK, StepK, IndexK, MemberK}
use Rattle.c_types.specs.Typed.{ArrowK, CastK, CallK, InK, OutK, WaitK, HaltK, CardK, TExprTs, NoX, MoreX, TInitT, OneI, TextI, ListI, TInitTs, NoI}
use Rattle.c_types.specs.Typed.{MoreI, TVarT, TStmtT, BlockZ, EmptyZ, VarsZ, DoZ, IfZ, WhileZ, DoWhileZ, ForZ, SwitchZ, ReturnZ, BreakZ, ContinueZ}
use Rattle.c_types.specs.Typed.{NoneZ, SomeZ, TStmtTs, NoZ, MoreZ, TArmT, CaseB, DefaultB, StmtB, TArmTs, NoB, MoreB}

abbrev pub texprs : List TExprT → TExprTs
texprs [] = NoX
texprs (x ∷ xs) = MoreX x (texprs xs)

abbrev pub tinits : List TInitT → TInitTs
tinits [] = NoI
tinits (x ∷ xs) = MoreI x (tinits xs)

abbrev pub tstmts : List TStmtT → TStmtTs
tstmts [] = NoZ
tstmts (x ∷ xs) = MoreZ x (tstmts xs)

abbrev pub tarms : List TArmT → TArmTs
tarms [] = NoB
tarms (x ∷ xs) = MoreB x (tarms xs)

-- a type, or that of nothing
abbrev pub or_void : Option (Bor CType) → Ty
or_void None = VoidY
or_void (Some ty) = ctype ty.now

-- a member under its name
abbrev pub named : List ℕ → Member → MemberT
named name m = record { name = name; offset = m.offset; ty = ctype m.ty }

abbrev pub layout : Layout → LayoutT
layout l = record { is_union = l.is_union; members = map (λ e. named e.0 e.1) l.members.entries; size = l.size }

abbrev pub kind_layer : TKind-F TKindT TExprT → TKindT
kind_layer (k.Number n) = NumberK n
kind_layer k.Null = NullK
kind_layer (k.Literal n) = LiteralK n
kind_layer (k.Global n) = GlobalK n
kind_layer (k.Local n) = LocalK n
kind_layer (k.Unary op a) = UnaryK op a.value
kind_layer (k.Binary op a b) = BinaryK op a.value b.value
kind_layer (k.Assign op a b) = AssignK op a.value b.value
kind_layer (k.Step op a) = StepK op a.value
kind_layer (k.Index a b) = IndexK a.value b.value
kind_layer (k.Member a n) = MemberK a.value n
kind_layer (k.Arrow a n) = ArrowK a.value n
kind_layer (k.Cast a) = CastK a.value
kind_layer (k.Call f args) = CallK f (texprs args)
kind_layer (k.In port) = InK port
kind_layer (k.Out port a) = OutK port a.value
kind_layer k.Wait = WaitK
kind_layer k.Halt = HaltK
kind_layer k.Card = CardK

abbrev pub texpr_layer : TExpr-F TKindT TExprT → TExprT
texpr_layer e = Typed e.kind (ctype e.ty) e.span

abbrev pub texpr : TExpr → TExprT
texpr = fold-TExpr TKindT TExprT kind_layer texpr_layer

abbrev pub init_layer : TInit-F TInitT → TInitT
init_layer (i.One x) = OneI (texpr x)
init_layer (i.Text n) = TextI n
init_layer (i.List xs) = ListI (tinits xs)

abbrev pub tinit : TInit → TInitT
tinit = fold-TInit TInitT init_layer

abbrev pub tvar : TVar → TVarT
tvar v = record { global = v.global; object = v.object; ty = ctype v.ty; init = tinit v.init }

abbrev pub arm_layer : TArm-F TArmT TStmtT → TArmT
arm_layer (z.Case n) = CaseB n
arm_layer z.Default = DefaultB
arm_layer (z.Stmt x) = StmtB x

abbrev pub stmt_layer : TStmt-F TArmT TStmtT → TStmtT
stmt_layer (z.Block made ss) = BlockZ made (tstmts ss)
stmt_layer z.Empty = EmptyZ
stmt_layer (z.Vars vs) = VarsZ (map tvar vs)
stmt_layer (z.Do x) = DoZ (texpr x)
stmt_layer (z.If x a None) = IfZ (texpr x) a.value NoneZ
stmt_layer (z.If x a (Some b)) = IfZ (texpr x) a.value (SomeZ b.value)
stmt_layer (z.While x a) = WhileZ (texpr x) a.value
stmt_layer (z.DoWhile a x) = DoWhileZ a.value (texpr x)
stmt_layer (z.For made None x y a) = ForZ made NoneZ (option_map texpr x) (option_map texpr y) a.value
stmt_layer (z.For made (Some f) x y a) = ForZ made (SomeZ f.value) (option_map texpr x) (option_map texpr y) a.value
stmt_layer (z.Switch x made arms) = SwitchZ (texpr x) made (tarms arms)
stmt_layer (z.Return x) = ReturnZ (option_map texpr x)
stmt_layer z.Break = BreakZ
stmt_layer z.Continue = ContinueZ

abbrev pub tstmt : TStmt → TStmtT
tstmt = fold-TStmt TArmT TStmtT arm_layer stmt_layer

abbrev pub tarm : TArm → TArmT
tarm = fold-TArm TArmT TStmtT arm_layer stmt_layer

abbrev pub function : TFunction → TFunctionT
function f = record { name = f.name; params = map ctype f.params; locals = f.locals; made = f.made; gives = ctype f.result; body = tstmts (map tstmt f.body) }
