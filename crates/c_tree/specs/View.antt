-- The plain tree that a tree in memory stands for.
use Rattle.std.specs.Prelude.{List, [], ◌∷◌, Some, None, map, option_map}
use Rattle.c_tree.specs.declared.expression.Expr.{Expr, Expr-F, fold-Expr}
use Rattle.c_tree.specs.declared.expression.TypeTree.{TypeTree, TypeTree-F, fold-TypeTree}
use Rattle.c_tree.specs.declared.expression.Expr.TheOpen as e
use Rattle.c_tree.specs.declared.variable.Init.{Init, Init-F, fold-Init}
use Rattle.c_tree.specs.declared.variable.Init.TheOpen as i
use Rattle.c_tree.specs.declared.variable.Var.{Var}
use Rattle.c_tree.specs.declared.statement.Stmt.{Stmt, Stmt-F, fold-Stmt}
use Rattle.c_tree.specs.declared.statement.Arm.{Arm, Arm-F, fold-Arm}
use Rattle.c_tree.specs.declared.statement.Arm.TheOpen as s
use Rattle.c_tree.specs.declared.item.Item.{Item}
use Rattle.c_tree.specs.declared.item.Item.TheVariants.{Record, Enum, Typedef, Vars, Function}
use Rattle.c_tree.specs.declared.item.Unit.{Unit as File}
use Rattle.c_tree.specs.Tree.{ExprT, NameE, NumberE, TextE, NullE, ParenE, UnaryE, BinaryE, AssignE, StepE, IndexE, MemberE, ArrowE, CallE, CastE}
use Rattle.c_tree.specs.Tree.{SizeOfE, ExprTs, NoE, MoreE, TypeT, IntY, BoolY, VoidY, NamedY, PointerY, ArrayY, InitT, OneI, ListI, InitTs, NoI}
use Rattle.c_tree.specs.Tree.{MoreI, VarT, StmtT, BlockS, EmptyS, VarsS, DoS, IfS, WhileS, DoWhileS, ForS, SwitchS, ReturnS, BreakS, ContinueS}
use Rattle.c_tree.specs.Tree.{NoneS, SomeS, StmtTs, NoS, MoreS, ArmT, CaseA, DefaultA, StmtA, ArmTs, NoA, MoreA, ItemT, RecordD, EnumD, TypedefD}
use Rattle.c_tree.specs.Tree.{VarsD, FunctionD}

abbrev pub exprs : List ExprT → ExprTs
exprs [] = NoE
exprs (x ∷ xs) = MoreE x (exprs xs)

abbrev pub inits : List InitT → InitTs
inits [] = NoI
inits (x ∷ xs) = MoreI x (inits xs)

abbrev pub stmts : List StmtT → StmtTs
stmts [] = NoS
stmts (x ∷ xs) = MoreS x (stmts xs)

abbrev pub arms : List ArmT → ArmTs
arms [] = NoA
arms (x ∷ xs) = MoreA x (arms xs)

abbrev pub expr_layer : Expr-F ExprT TypeT → ExprT
expr_layer (e.Name n sp) = NameE n sp
expr_layer (e.Number n sp) = NumberE n sp
expr_layer (e.Text t sp) = TextE t sp
expr_layer (e.Null sp) = NullE sp
expr_layer (e.Paren a sp) = ParenE a.value sp
expr_layer (e.Unary op a sp) = UnaryE op a.value sp
expr_layer (e.Binary op a b sp) = BinaryE op a.value b.value sp
expr_layer (e.Assign op a b sp) = AssignE op a.value b.value sp
expr_layer (e.Step op a sp) = StepE op a.value sp
expr_layer (e.Index a b sp) = IndexE a.value b.value sp
expr_layer (e.Member a n sp) = MemberE a.value n sp
expr_layer (e.Arrow a n sp) = ArrowE a.value n sp
expr_layer (e.Call f args sp) = CallE f (exprs args) sp
expr_layer (e.Cast ty a sp) = CastE ty a.value sp
expr_layer (e.SizeOf ty sp) = SizeOfE ty sp

abbrev pub type_layer : TypeTree-F ExprT TypeT → TypeT
type_layer e.Int = IntY
type_layer e.Bool = BoolY
type_layer e.Void = VoidY
type_layer (e.Named n) = NamedY n
type_layer (e.Pointer a) = PointerY a.value
type_layer (e.Array a n) = ArrayY a.value n.value

abbrev pub expr : Expr → ExprT
expr = fold-Expr ExprT TypeT expr_layer type_layer

abbrev pub type : TypeTree → TypeT
type = fold-TypeTree ExprT TypeT expr_layer type_layer

abbrev pub init_layer : Init-F InitT → InitT
init_layer (i.One x) = OneI (expr x)
init_layer (i.List xs sp) = ListI (inits xs) sp

abbrev pub init : Init → InitT
init = fold-Init InitT init_layer

abbrev pub var : Var → VarT
var v = record { ty = type v.ty; name = v.name; init = option_map init v.init; span = v.span }

abbrev pub arm_layer : Arm-F ArmT StmtT → ArmT
arm_layer (s.Case x sp) = CaseA (expr x) sp
arm_layer (s.Default sp) = DefaultA sp
arm_layer (s.Stmt x) = StmtA x

abbrev pub stmt_layer : Stmt-F ArmT StmtT → StmtT
stmt_layer (s.Block ss sp) = BlockS (stmts ss) sp
stmt_layer (s.Empty sp) = EmptyS sp
stmt_layer (s.Vars vs sp) = VarsS (map var vs) sp
stmt_layer (s.Do x) = DoS (expr x)
stmt_layer (s.If x a None sp) = IfS (expr x) a.value NoneS sp
stmt_layer (s.If x a (Some b) sp) = IfS (expr x) a.value (SomeS b.value) sp
stmt_layer (s.While x a sp) = WhileS (expr x) a.value sp
stmt_layer (s.DoWhile a x sp) = DoWhileS a.value (expr x) sp
stmt_layer (s.For None x y a sp) = ForS NoneS (option_map expr x) (option_map expr y) a.value sp
stmt_layer (s.For (Some f) x y a sp) = ForS (SomeS f.value) (option_map expr x) (option_map expr y) a.value sp
stmt_layer (s.Switch x xs sp) = SwitchS (expr x) (arms xs) sp
stmt_layer (s.Return x sp) = ReturnS (option_map expr x) sp
stmt_layer (s.Break sp) = BreakS sp
stmt_layer (s.Continue sp) = ContinueS sp

abbrev pub stmt : Stmt → StmtT
stmt = fold-Stmt ArmT StmtT arm_layer stmt_layer

abbrev pub arm : Arm → ArmT
arm = fold-Arm ArmT StmtT arm_layer stmt_layer

abbrev pub item : Item → ItemT
item (Record is_union name members sp) = RecordD is_union name (option_map (map var) members) sp
item (Enum name values sp) = EnumD name (map (λ v. (v.0, option_map expr v.1)) values) sp
item (Typedef ty name sp) = TypedefD (type ty) name sp
item (Vars vs sp) = VarsD (map var vs) sp
item (Function gives name params body sp) = FunctionD (type gives) name (map var params) (option_map (λ ss. stmts (map stmt ss)) body) sp

abbrev pub unit : File → List ItemT
unit u = map item u.items
