-- The rules of statements and the function agree.
use Rattle.std.proofs.Common.{◌≡◌, ℕ, Bool, true, false, List, [], ◌∷◌, ◌++◌, length, Option, Some, None, Result, Ok, Err, refl, not}
use Rattle.c_tree.specs.declared.span.Span.{Span}
use Rattle.c_tree.specs.Tree.{ExprT, TypeT, InitT, VarT, StmtT, BlockS, EmptyS, VarsS, DoS, IfS, WhileS, DoWhileS, ForS, SwitchS, ReturnS, BreakS, ContinueS, MaybeS, NoneS, SomeS, StmtTs, NoS, MoreS, ArmT, CaseA, DefaultA, StmtA, ArmTs, NoA, MoreA}
use Rattle.c_types.specs.Types.{Ty}
use Rattle.c_types.specs.Typed.{TExprT, TInitT, TVarT, TStmtT, BlockZ, VarsZ, DoZ, IfZ, WhileZ, DoWhileZ, ForZ, SwitchZ, ReturnZ, BreakZ, ContinueZ, MaybeZ, SomeZ, TStmtTs, MoreZ, TArmT, CaseB, DefaultB, StmtB, TArmTs, MoreB}
use Rattle.c_rules.specs.declared.code.Code.TheVariants.{Twice, WrongType, NotConstant, BreakOutside}
use Rattle.c_rules.specs.Kinds.{is_number, converts}
use Rattle.c_exprs.specs.declared.error.Fault.{Fault}
use Rattle.c_exprs.specs.Faults.{◌>>=◌, placed, known, demanded}
use Rattle.c_exprs.specs.Nodes.{type_of_typed, span_of, constant}
use Rattle.c_stmts.specs.State.{Fn, St, under, with_texts, opened, left, made, is_new, entered, locals_limit, object_size, sized, filled_var, is_condition_of, is_test, Labels, no_labels, is_case, with_label}
use Rattle.c_exprs.specs.Typing.{Typer, as_value, typed, type_of}
use Rattle.c_stmts.proofs.Values.{value_outcome}
use Rattle.c_exprs.proofs.Exact.{ValueOut, value_good, value_bad, TypeOut, type_outcome, type_good, type_bad}
use Rattle.c_stmts.specs.InitTyping.{filled_by}
use Rattle.c_stmts.proofs.InitExact.{FillOut, fill_outcome, fill_good, fill_bad}
use Rattle.c_stmts.specs.StatementTyping.{Does, value_in, type_in, fill_in, maybe_filled, declared, all_declared, maybe_value, statement, maybe_statement, statements, arm, arms}
use Rattle.c_stmts.specs.StatementTypes as good
use Rattle.c_stmts.specs.StatementTypes.{ValueIn, TypeIn, FillsIn, MaybeFills, Declares, AllDeclare, MaybeValue, Statement, MaybeStatement, Statements, ArmOf, ArmsOf}
use Rattle.c_stmts.specs.StatementBreaks as bad
use Rattle.c_stmts.specs.StatementBreaks.{NoValueIn, NoTypeIn, NoFillIn, NotFilled, Undeclared, NotAllDeclare, NoMaybeValue, NoStatement, NoMaybeStatement, NotStatements, NoArm, NoArms}

abbrev pub MaybeFillsOut : Fn → St → Ty → Option InitT → Does (Option TInitT) → Type 0
MaybeFillsOut f sp target o (Ok x) = MaybeFills f sp target o x.0 x.1
MaybeFillsOut f sp target o (Err fault) = NotFilled f sp target o fault

abbrev pub DeclaresOut : Fn → St → VarT → Does (List TVarT) → Type 0
DeclaresOut f sp v (Ok x) = Declares f sp v x.0 x.1
DeclaresOut f sp v (Err fault) = Undeclared f sp v fault

abbrev pub AllDeclareOut : Fn → St → List VarT → Does (List TVarT) → Type 0
AllDeclareOut f sp vs (Ok x) = AllDeclare f sp vs x.0 x.1
AllDeclareOut f sp vs (Err fault) = NotAllDeclare f sp vs fault

abbrev pub MaybeValueOut : Fn → St → Option ExprT → Does (Option TExprT) → Type 0
MaybeValueOut f sp o (Ok x) = MaybeValue f sp o x.0 x.1
MaybeValueOut f sp o (Err fault) = NoMaybeValue f sp o fault

abbrev pub StatementOut : Fn → St → Bool → Bool → StmtT → Does TStmtT → Type 0
StatementOut f sp breaks continues a (Ok x) = Statement f sp breaks continues a x.0 x.1
StatementOut f sp breaks continues a (Err fault) = NoStatement f sp breaks continues a fault

abbrev pub MaybeStatementOut : Fn → St → Bool → Bool → MaybeS → Does MaybeZ → Type 0
MaybeStatementOut f sp breaks continues m (Ok x) = MaybeStatement f sp breaks continues m x.0 x.1
MaybeStatementOut f sp breaks continues m (Err fault) = NoMaybeStatement f sp breaks continues m fault

abbrev pub StatementsOut : Fn → St → Bool → Bool → StmtTs → Does TStmtTs → Type 0
StatementsOut f sp breaks continues all (Ok x) = Statements f sp breaks continues all x.0 x.1
StatementsOut f sp breaks continues all (Err fault) = NotStatements f sp breaks continues all fault

abbrev pub ArmOfOut : Fn → St → Bool → Bool → Labels → ArmT → Does TArmT → Type 0
ArmOfOut f sp breaks continues seen a (Ok x) = ArmOf f sp breaks continues seen a x.0 x.1
ArmOfOut f sp breaks continues seen a (Err fault) = NoArm f sp breaks continues seen a fault

abbrev pub ArmsOfOut : Fn → St → Bool → Bool → Labels → ArmTs → Does TArmTs → Type 0
ArmsOfOut f sp breaks continues seen all (Ok x) = ArmsOf f sp breaks continues seen all x.0 x.1
ArmsOfOut f sp breaks continues seen all (Err fault) = NoArms f sp breaks continues seen all fault

abbrev pub ValueInOut : Fn → St → ExprT → Does TExprT → Type 0
ValueInOut f sp e (Ok x) = ValueIn f sp e x.0 x.1
ValueInOut f sp e (Err fault) = NoValueIn f sp e fault

value_in_rest : (f : Fn) (sp : St) (e : ExprT) (r : Typer TExprT) → ValueOut (under f sp.scopes) sp.texts e r → ValueInOut f sp e (r >>= λ x. Ok (x.0, with_texts sp x.1))
value_in_rest f sp e (Ok x) g = good.value_in g
value_in_rest f sp e (Err fault) g = bad.value_in g

pub value_in_outcome : (f : Fn) (sp : St) (e : ExprT) → ValueInOut f sp e (value_in f sp e)
unfolding value_in
value_in_outcome f sp e = value_in_rest f sp e (as_value (under f sp.scopes) (span_of e) (typed (under f sp.scopes) sp.texts e)) (value_outcome (under f sp.scopes) sp.texts e)

abbrev pub TypeInOut : Fn → St → Span → TypeT → Does Ty → Type 0
TypeInOut f sp s of (Ok x) = TypeIn f sp s of x.0 x.1
TypeInOut f sp s of (Err fault) = NoTypeIn f sp s of fault

type_in_rest : (f : Fn) (sp : St) (s : Span) (of : TypeT) (r : Typer Ty) → TypeOut (under f sp.scopes) sp.texts s of r → TypeInOut f sp s of (r >>= λ x. Ok (x.0, with_texts sp x.1))
type_in_rest f sp s of (Ok x) g = good.type_in g
type_in_rest f sp s of (Err fault) g = bad.type_in g

pub type_in_outcome : (f : Fn) (sp : St) (s : Span) (of : TypeT) → TypeInOut f sp s of (type_in f sp s of)
unfolding type_in
type_in_outcome f sp s of = type_in_rest f sp s of (type_of (under f sp.scopes) sp.texts s of) (type_outcome (under f sp.scopes) sp.texts s of)

abbrev pub FillInOut : Fn → St → Ty → InitT → Does TInitT → Type 0
FillInOut f sp target i (Ok x) = FillsIn f sp target i x.0 x.1
FillInOut f sp target i (Err fault) = NoFillIn f sp target i fault

fill_in_rest : (f : Fn) (sp : St) (target : Ty) (i : InitT) (r : Typer TInitT) → FillOut (under f sp.scopes) sp.texts false (Some target) i r → FillInOut f sp target i (r >>= λ x. Ok (x.0, with_texts sp x.1))
fill_in_rest f sp target i (Ok x) g = good.fill_in g
fill_in_rest f sp target i (Err fault) g = bad.fill_in g

pub fill_in_outcome : (f : Fn) (sp : St) (target : Ty) (i : InitT) → FillInOut f sp target i (fill_in f sp target i)
unfolding fill_in
fill_in_outcome f sp target i = fill_in_rest f sp target i (filled_by (under f sp.scopes) sp.texts false (Some target) i) (fill_outcome (under f sp.scopes) sp.texts false (Some target) i)

init_1 : (f : Fn) (sp : St) (target : Ty) (i : InitT) → (r : Result (TInitT × St) Fault) → FillInOut f sp target i r → MaybeFillsOut f sp target (Some i) (r >>= λ x. Ok (Some x.0, x.1))
init_1 f sp target i (Ok x) g0 = good.init g0
init_1 f sp target i (Err fault) g0 = bad.init g0

pub maybe_fill_outcome : (f : Fn) (sp : St) (target : Ty) (o : Option InitT) → MaybeFillsOut f sp target o (maybe_filled f sp target o)
unfolding maybe_filled
maybe_fill_outcome f sp target None = good.no_init
maybe_fill_outcome f sp target (Some i) = init_1 f sp target i (fill_in f sp target i) (fill_in_outcome f sp target i)

variable_3 : (f : Fn) (sp : St) (v : VarT) (t : Ty × St) → TypeIn f sp v.span v.ty t.0 t.1 → (i : Option TInitT × St) → MaybeFills f (entered v.name t.0 t.1) t.0 v.init i.0 i.1 → (r : Result ℕ Fault) → placed v.span (object_size f.layouts f.whole locals_limit sp.used (is_new v.name sp) t.0) ≡ r → DeclaresOut f sp v (r >>= λ n. Ok (filled_var false (length sp.sizes) t.0 i.0, sized n i.1))
variable_3 f sp v t g0 i g1 (Ok n) g2 = good.variable g0 g1 g2
variable_3 f sp v t g0 i g1 (Err fault) g2 = bad.variable g0 g1 g2

variable_2 : (f : Fn) (sp : St) (v : VarT) (t : Ty × St) → TypeIn f sp v.span v.ty t.0 t.1 → (r : Result (Option TInitT × St) Fault) → MaybeFillsOut f (entered v.name t.0 t.1) t.0 v.init r → DeclaresOut f sp v (r >>= λ i. placed v.span (object_size f.layouts f.whole locals_limit sp.used (is_new v.name sp) t.0) >>= λ n. Ok (filled_var false (length sp.sizes) t.0 i.0, sized n i.1))
variable_2 f sp v t g0 (Ok i) g1 = variable_3 f sp v t g0 i g1 (placed v.span (object_size f.layouts f.whole locals_limit sp.used (is_new v.name sp) t.0)) refl
variable_2 f sp v t g0 (Err fault) g1 = bad.variable_init g0 g1

variable_1 : (f : Fn) (sp : St) (v : VarT) → (r : Result (Ty × St) Fault) → TypeInOut f sp v.span v.ty r → ((us : St) (t : Ty × St) → MaybeFillsOut f (entered v.name t.0 us) t.0 v.init (maybe_filled f (entered v.name t.0 us) t.0 v.init)) → DeclaresOut f sp v (r >>= λ t. maybe_filled f (entered v.name t.0 t.1) t.0 v.init >>= λ i. placed v.span (object_size f.layouts f.whole locals_limit sp.used (is_new v.name sp) t.0) >>= λ n. Ok (filled_var false (length sp.sizes) t.0 i.0, sized n i.1))
variable_1 f sp v (Ok t) g0 h1 = variable_2 f sp v t g0 (maybe_filled f (entered v.name t.0 t.1) t.0 v.init) (h1 t.1 t)
variable_1 f sp v (Err fault) g0 h1 = bad.variable_type g0

pub declared_outcome : (f : Fn) (sp : St) (v : VarT) → DeclaresOut f sp v (declared f sp v)
unfolding declared
declared_outcome f sp v = variable_1 f sp v (type_in f sp v.span v.ty) (type_in_outcome f sp v.span v.ty) (λ us t. maybe_fill_outcome f (entered v.name t.0 us) t.0 v.init)

more_variables_2 : (f : Fn) (sp : St) (v : VarT) (vs : List VarT) (x : List TVarT × St) → Declares f sp v x.0 x.1 → (r : Result (List TVarT × St) Fault) → AllDeclareOut f x.1 vs r → AllDeclareOut f sp (v ∷ vs) (r >>= λ xs. Ok (x.0 ++ xs.0, xs.1))
more_variables_2 f sp v vs x g0 (Ok xs) g1 = good.more_variables g0 g1
more_variables_2 f sp v vs x g0 (Err fault) g1 = bad.variable_later g0 g1

more_variables_1 : (f : Fn) (sp : St) (v : VarT) (vs : List VarT) → (r : Result (List TVarT × St) Fault) → DeclaresOut f sp v r → ((us : St) → AllDeclareOut f us vs (all_declared f us vs)) → AllDeclareOut f sp (v ∷ vs) (r >>= λ x. all_declared f x.1 vs >>= λ xs. Ok (x.0 ++ xs.0, xs.1))
more_variables_1 f sp v vs (Ok x) g0 h1 = more_variables_2 f sp v vs x g0 (all_declared f x.1 vs) (h1 x.1)
more_variables_1 f sp v vs (Err fault) g0 h1 = bad.variable_here g0

pub all_declared_outcome : (f : Fn) (sp : St) (vs : List VarT) → AllDeclareOut f sp vs (all_declared f sp vs)
all_declared_outcome f sp [] = good.no_variables
all_declared_outcome f sp (v ∷ vs) = more_variables_1 f sp v vs (declared f sp v) (declared_outcome f sp v) (λ us. all_declared_outcome f us vs)

some_value_1 : (f : Fn) (sp : St) (e : ExprT) → (r : Result (TExprT × St) Fault) → ValueInOut f sp e r → MaybeValueOut f sp (Some e) (r >>= λ x. Ok (Some x.0, x.1))
some_value_1 f sp e (Ok x) g0 = good.some_value g0
some_value_1 f sp e (Err fault) g0 = bad.some_value g0

pub maybe_value_outcome : (f : Fn) (sp : St) (o : Option ExprT) → MaybeValueOut f sp o (maybe_value f sp o)
unfolding maybe_value
maybe_value_outcome f sp None = good.no_value
maybe_value_outcome f sp (Some e) = some_value_1 f sp e (value_in f sp e) (value_in_outcome f sp e)

block_1 : (f : Fn) (sp : St) (breaks : Bool) (continues : Bool) (body : StmtTs) (s : Span) → (r : Result (TStmtTs × St) Fault) → StatementsOut f (opened sp) breaks continues body r → StatementOut f sp breaks continues (BlockS body s) (r >>= λ xs. Ok (BlockZ (made xs.1) xs.0, left xs.1))
block_1 f sp breaks continues body s (Ok xs) g0 = good.block g0
block_1 f sp breaks continues body s (Err fault) g0 = bad.block g0

variables_1 : (f : Fn) (sp : St) (breaks : Bool) (continues : Bool) (vs : List VarT) (s : Span) → (r : Result (List TVarT × St) Fault) → AllDeclareOut f sp vs r → StatementOut f sp breaks continues (VarsS vs s) (r >>= λ xs. Ok (VarsZ xs.0, xs.1))
variables_1 f sp breaks continues vs s (Ok xs) g0 = good.variables g0
variables_1 f sp breaks continues vs s (Err fault) g0 = bad.variables g0

expression_1 : (f : Fn) (sp : St) (breaks : Bool) (continues : Bool) (e : ExprT) → (r : Result (TExprT × St) Fault) → ValueInOut f sp e r → StatementOut f sp breaks continues (DoS e) (r >>= λ x. Ok (DoZ x.0, x.1))
expression_1 f sp breaks continues e (Ok x) g0 = good.expression g0
expression_1 f sp breaks continues e (Err fault) g0 = bad.expression g0

if_else_4 : (f : Fn) (sp : St) (breaks : Bool) (continues : Bool) (e : ExprT) (a : StmtT) (b : MaybeS) (s : Span) (x : TExprT × St) → ValueIn f sp e x.0 x.1 → (y : TStmtT × St) → Statement f x.1 breaks continues a y.0 y.1 → (z : MaybeZ × St) → MaybeStatement f y.1 breaks continues b z.0 z.1 → (r : Result (Unit {0}) Fault) → demanded s WrongType (is_condition_of x.0) ≡ r → StatementOut f sp breaks continues (IfS e a b s) (r >>= λ _. Ok (IfZ x.0 y.0 z.0, z.1))
if_else_4 f sp breaks continues e a b s x g0 y g1 z g2 (Ok tt) g3 = good.if_else g0 g1 g2 g3
if_else_4 f sp breaks continues e a b s x g0 y g1 z g2 (Err fault) g3 = bad.if_else g0 g1 g2 g3

if_else_3 : (f : Fn) (sp : St) (breaks : Bool) (continues : Bool) (e : ExprT) (a : StmtT) (b : MaybeS) (s : Span) (x : TExprT × St) → ValueIn f sp e x.0 x.1 → (y : TStmtT × St) → Statement f x.1 breaks continues a y.0 y.1 → (r : Result (MaybeZ × St) Fault) → MaybeStatementOut f y.1 breaks continues b r → StatementOut f sp breaks continues (IfS e a b s) (r >>= λ z. demanded s WrongType (is_condition_of x.0) >>= λ _. Ok (IfZ x.0 y.0 z.0, z.1))
if_else_3 f sp breaks continues e a b s x g0 y g1 (Ok z) g2 = if_else_4 f sp breaks continues e a b s x g0 y g1 z g2 (demanded s WrongType (is_condition_of x.0)) refl
if_else_3 f sp breaks continues e a b s x g0 y g1 (Err fault) g2 = bad.if_other g0 g1 g2

if_else_2 : (f : Fn) (sp : St) (breaks : Bool) (continues : Bool) (e : ExprT) (a : StmtT) (b : MaybeS) (s : Span) (x : TExprT × St) → ValueIn f sp e x.0 x.1 → (r : Result (TStmtT × St) Fault) → StatementOut f x.1 breaks continues a r → ((us : St) → MaybeStatementOut f us breaks continues b (maybe_statement f us breaks continues b)) → StatementOut f sp breaks continues (IfS e a b s) (r >>= λ y. maybe_statement f y.1 breaks continues b >>= λ z. demanded s WrongType (is_condition_of x.0) >>= λ _. Ok (IfZ x.0 y.0 z.0, z.1))
if_else_2 f sp breaks continues e a b s x g0 (Ok y) g1 h2 = if_else_3 f sp breaks continues e a b s x g0 y g1 (maybe_statement f y.1 breaks continues b) (h2 y.1)
if_else_2 f sp breaks continues e a b s x g0 (Err fault) g1 h2 = bad.if_then g0 g1

if_else_1 : (f : Fn) (sp : St) (breaks : Bool) (continues : Bool) (e : ExprT) (a : StmtT) (b : MaybeS) (s : Span) → (r : Result (TExprT × St) Fault) → ValueInOut f sp e r → ((us : St) → StatementOut f us breaks continues a (statement f us breaks continues a)) → ((us : St) → MaybeStatementOut f us breaks continues b (maybe_statement f us breaks continues b)) → StatementOut f sp breaks continues (IfS e a b s) (r >>= λ x. statement f x.1 breaks continues a >>= λ y. maybe_statement f y.1 breaks continues b >>= λ z. demanded s WrongType (is_condition_of x.0) >>= λ _. Ok (IfZ x.0 y.0 z.0, z.1))
if_else_1 f sp breaks continues e a b s (Ok x) g0 h1 h2 = if_else_2 f sp breaks continues e a b s x g0 (statement f x.1 breaks continues a) (h1 x.1) h2
if_else_1 f sp breaks continues e a b s (Err fault) g0 h1 h2 = bad.if_test g0

while_3 : (f : Fn) (sp : St) (breaks : Bool) (continues : Bool) (e : ExprT) (a : StmtT) (s : Span) (x : TExprT × St) → ValueIn f sp e x.0 x.1 → (y : TStmtT × St) → Statement f x.1 true true a y.0 y.1 → (r : Result (Unit {0}) Fault) → demanded s WrongType (is_condition_of x.0) ≡ r → StatementOut f sp breaks continues (WhileS e a s) (r >>= λ _. Ok (WhileZ x.0 y.0, y.1))
while_3 f sp breaks continues e a s x g0 y g1 (Ok tt) g2 = good.while g0 g1 g2
while_3 f sp breaks continues e a s x g0 y g1 (Err fault) g2 = bad.while g0 g1 g2

while_2 : (f : Fn) (sp : St) (breaks : Bool) (continues : Bool) (e : ExprT) (a : StmtT) (s : Span) (x : TExprT × St) → ValueIn f sp e x.0 x.1 → (r : Result (TStmtT × St) Fault) → StatementOut f x.1 true true a r → StatementOut f sp breaks continues (WhileS e a s) (r >>= λ y. demanded s WrongType (is_condition_of x.0) >>= λ _. Ok (WhileZ x.0 y.0, y.1))
while_2 f sp breaks continues e a s x g0 (Ok y) g1 = while_3 f sp breaks continues e a s x g0 y g1 (demanded s WrongType (is_condition_of x.0)) refl
while_2 f sp breaks continues e a s x g0 (Err fault) g1 = bad.while_body g0 g1

while_1 : (f : Fn) (sp : St) (breaks : Bool) (continues : Bool) (e : ExprT) (a : StmtT) (s : Span) → (r : Result (TExprT × St) Fault) → ValueInOut f sp e r → ((us : St) → StatementOut f us true true a (statement f us true true a)) → StatementOut f sp breaks continues (WhileS e a s) (r >>= λ x. statement f x.1 true true a >>= λ y. demanded s WrongType (is_condition_of x.0) >>= λ _. Ok (WhileZ x.0 y.0, y.1))
while_1 f sp breaks continues e a s (Ok x) g0 h1 = while_2 f sp breaks continues e a s x g0 (statement f x.1 true true a) (h1 x.1)
while_1 f sp breaks continues e a s (Err fault) g0 h1 = bad.while_test g0

do_while_3 : (f : Fn) (sp : St) (breaks : Bool) (continues : Bool) (a : StmtT) (e : ExprT) (s : Span) (y : TStmtT × St) → Statement f sp true true a y.0 y.1 → (x : TExprT × St) → ValueIn f y.1 e x.0 x.1 → (r : Result (Unit {0}) Fault) → demanded s WrongType (is_condition_of x.0) ≡ r → StatementOut f sp breaks continues (DoWhileS a e s) (r >>= λ _. Ok (DoWhileZ y.0 x.0, x.1))
do_while_3 f sp breaks continues a e s y g0 x g1 (Ok tt) g2 = good.do_while g0 g1 g2
do_while_3 f sp breaks continues a e s y g0 x g1 (Err fault) g2 = bad.do_while g0 g1 g2

do_while_2 : (f : Fn) (sp : St) (breaks : Bool) (continues : Bool) (a : StmtT) (e : ExprT) (s : Span) (y : TStmtT × St) → Statement f sp true true a y.0 y.1 → (r : Result (TExprT × St) Fault) → ValueInOut f y.1 e r → StatementOut f sp breaks continues (DoWhileS a e s) (r >>= λ x. demanded s WrongType (is_condition_of x.0) >>= λ _. Ok (DoWhileZ y.0 x.0, x.1))
do_while_2 f sp breaks continues a e s y g0 (Ok x) g1 = do_while_3 f sp breaks continues a e s y g0 x g1 (demanded s WrongType (is_condition_of x.0)) refl
do_while_2 f sp breaks continues a e s y g0 (Err fault) g1 = bad.do_test g0 g1

do_while_1 : (f : Fn) (sp : St) (breaks : Bool) (continues : Bool) (a : StmtT) (e : ExprT) (s : Span) → (r : Result (TStmtT × St) Fault) → StatementOut f sp true true a r → ((us : St) → ValueInOut f us e (value_in f us e)) → StatementOut f sp breaks continues (DoWhileS a e s) (r >>= λ y. value_in f y.1 e >>= λ x. demanded s WrongType (is_condition_of x.0) >>= λ _. Ok (DoWhileZ y.0 x.0, x.1))
do_while_1 f sp breaks continues a e s (Ok y) g0 h1 = do_while_2 f sp breaks continues a e s y g0 (value_in f y.1 e) (h1 y.1)
do_while_1 f sp breaks continues a e s (Err fault) g0 h1 = bad.do_body g0

for_5 : (f : Fn) (sp : St) (breaks : Bool) (continues : Bool) (first : MaybeS) (test step : Option ExprT) (a : StmtT) (s : Span) (x : MaybeZ × St) → MaybeStatement f (opened sp) breaks continues first x.0 x.1 → (y : Option TExprT × St) → MaybeValue f x.1 test y.0 y.1 → (z : Option TExprT × St) → MaybeValue f y.1 step z.0 z.1 → (w : TStmtT × St) → Statement f z.1 true true a w.0 w.1 → (r : Result (Unit {0}) Fault) → demanded s WrongType (is_test y.0) ≡ r → StatementOut f sp breaks continues (ForS first test step a s) (r >>= λ _. Ok (ForZ (made w.1) x.0 y.0 z.0 w.0, left w.1))
for_5 f sp breaks continues first test step a s x g0 y g1 z g2 w g3 (Ok tt) g4 = good.for g0 g1 g2 g3 g4
for_5 f sp breaks continues first test step a s x g0 y g1 z g2 w g3 (Err fault) g4 = bad.for g0 g1 g2 g3 g4

for_4 : (f : Fn) (sp : St) (breaks : Bool) (continues : Bool) (first : MaybeS) (test step : Option ExprT) (a : StmtT) (s : Span) (x : MaybeZ × St) → MaybeStatement f (opened sp) breaks continues first x.0 x.1 → (y : Option TExprT × St) → MaybeValue f x.1 test y.0 y.1 → (z : Option TExprT × St) → MaybeValue f y.1 step z.0 z.1 → (r : Result (TStmtT × St) Fault) → StatementOut f z.1 true true a r → StatementOut f sp breaks continues (ForS first test step a s) (r >>= λ w. demanded s WrongType (is_test y.0) >>= λ _. Ok (ForZ (made w.1) x.0 y.0 z.0 w.0, left w.1))
for_4 f sp breaks continues first test step a s x g0 y g1 z g2 (Ok w) g3 = for_5 f sp breaks continues first test step a s x g0 y g1 z g2 w g3 (demanded s WrongType (is_test y.0)) refl
for_4 f sp breaks continues first test step a s x g0 y g1 z g2 (Err fault) g3 = bad.for_body g0 g1 g2 g3

for_3 : (f : Fn) (sp : St) (breaks : Bool) (continues : Bool) (first : MaybeS) (test step : Option ExprT) (a : StmtT) (s : Span) (x : MaybeZ × St) → MaybeStatement f (opened sp) breaks continues first x.0 x.1 → (y : Option TExprT × St) → MaybeValue f x.1 test y.0 y.1 → (r : Result (Option TExprT × St) Fault) → MaybeValueOut f y.1 step r → ((us : St) → StatementOut f us true true a (statement f us true true a)) → StatementOut f sp breaks continues (ForS first test step a s) (r >>= λ z. statement f z.1 true true a >>= λ w. demanded s WrongType (is_test y.0) >>= λ _. Ok (ForZ (made w.1) x.0 y.0 z.0 w.0, left w.1))
for_3 f sp breaks continues first test step a s x g0 y g1 (Ok z) g2 h3 = for_4 f sp breaks continues first test step a s x g0 y g1 z g2 (statement f z.1 true true a) (h3 z.1)
for_3 f sp breaks continues first test step a s x g0 y g1 (Err fault) g2 h3 = bad.for_step g0 g1 g2

for_2 : (f : Fn) (sp : St) (breaks : Bool) (continues : Bool) (first : MaybeS) (test step : Option ExprT) (a : StmtT) (s : Span) (x : MaybeZ × St) → MaybeStatement f (opened sp) breaks continues first x.0 x.1 → (r : Result (Option TExprT × St) Fault) → MaybeValueOut f x.1 test r → ((us : St) → MaybeValueOut f us step (maybe_value f us step)) → ((us : St) → StatementOut f us true true a (statement f us true true a)) → StatementOut f sp breaks continues (ForS first test step a s) (r >>= λ y. maybe_value f y.1 step >>= λ z. statement f z.1 true true a >>= λ w. demanded s WrongType (is_test y.0) >>= λ _. Ok (ForZ (made w.1) x.0 y.0 z.0 w.0, left w.1))
for_2 f sp breaks continues first test step a s x g0 (Ok y) g1 h2 h3 = for_3 f sp breaks continues first test step a s x g0 y g1 (maybe_value f y.1 step) (h2 y.1) h3
for_2 f sp breaks continues first test step a s x g0 (Err fault) g1 h2 h3 = bad.for_test g0 g1

for_1 : (f : Fn) (sp : St) (breaks : Bool) (continues : Bool) (first : MaybeS) (test step : Option ExprT) (a : StmtT) (s : Span) → (r : Result (MaybeZ × St) Fault) → MaybeStatementOut f (opened sp) breaks continues first r → ((us : St) → MaybeValueOut f us test (maybe_value f us test)) → ((us : St) → MaybeValueOut f us step (maybe_value f us step)) → ((us : St) → StatementOut f us true true a (statement f us true true a)) → StatementOut f sp breaks continues (ForS first test step a s) (r >>= λ x. maybe_value f x.1 test >>= λ y. maybe_value f y.1 step >>= λ z. statement f z.1 true true a >>= λ w. demanded s WrongType (is_test y.0) >>= λ _. Ok (ForZ (made w.1) x.0 y.0 z.0 w.0, left w.1))
for_1 f sp breaks continues first test step a s (Ok x) g0 h1 h2 h3 = for_2 f sp breaks continues first test step a s x g0 (maybe_value f x.1 test) (h1 x.1) h2 h3
for_1 f sp breaks continues first test step a s (Err fault) g0 h1 h2 h3 = bad.for_first g0

switch_3 : (f : Fn) (sp : St) (breaks : Bool) (continues : Bool) (e : ExprT) (all : ArmTs) (s : Span) (x : TExprT × St) → ValueIn f sp e x.0 x.1 → (xs : TArmTs × St) → ArmsOf f (opened x.1) true continues no_labels all xs.0 xs.1 → (r : Result (Unit {0}) Fault) → demanded s WrongType (is_number (type_of_typed x.0)) ≡ r → StatementOut f sp breaks continues (SwitchS e all s) (r >>= λ _. Ok (SwitchZ x.0 (made xs.1) xs.0, left xs.1))
switch_3 f sp breaks continues e all s x g0 xs g1 (Ok tt) g2 = good.switch g0 g1 g2
switch_3 f sp breaks continues e all s x g0 xs g1 (Err fault) g2 = bad.switch g0 g1 g2

switch_2 : (f : Fn) (sp : St) (breaks : Bool) (continues : Bool) (e : ExprT) (all : ArmTs) (s : Span) (x : TExprT × St) → ValueIn f sp e x.0 x.1 → (r : Result (TArmTs × St) Fault) → ArmsOfOut f (opened x.1) true continues no_labels all r → StatementOut f sp breaks continues (SwitchS e all s) (r >>= λ xs. demanded s WrongType (is_number (type_of_typed x.0)) >>= λ _. Ok (SwitchZ x.0 (made xs.1) xs.0, left xs.1))
switch_2 f sp breaks continues e all s x g0 (Ok xs) g1 = switch_3 f sp breaks continues e all s x g0 xs g1 (demanded s WrongType (is_number (type_of_typed x.0))) refl
switch_2 f sp breaks continues e all s x g0 (Err fault) g1 = bad.switch_arms g0 g1

switch_1 : (f : Fn) (sp : St) (breaks : Bool) (continues : Bool) (e : ExprT) (all : ArmTs) (s : Span) → (r : Result (TExprT × St) Fault) → ValueInOut f sp e r → ((us : St) → ArmsOfOut f (opened us) true continues no_labels all (arms f (opened us) true continues no_labels all)) → StatementOut f sp breaks continues (SwitchS e all s) (r >>= λ x. arms f (opened x.1) true continues no_labels all >>= λ xs. demanded s WrongType (is_number (type_of_typed x.0)) >>= λ _. Ok (SwitchZ x.0 (made xs.1) xs.0, left xs.1))
switch_1 f sp breaks continues e all s (Ok x) g0 h1 = switch_2 f sp breaks continues e all s x g0 (arms f (opened x.1) true continues no_labels all) (h1 x.1)
switch_1 f sp breaks continues e all s (Err fault) g0 h1 = bad.switch_value g0

return_value_2 : (f : Fn) (sp : St) (breaks : Bool) (continues : Bool) (e : ExprT) (s : Span) (x : TExprT × St) → ValueIn f sp e x.0 x.1 → (r : Result (Unit {0}) Fault) → demanded s WrongType (converts (type_of_typed x.0) f.gives) ≡ r → StatementOut f sp breaks continues (ReturnS (Some e) s) (r >>= λ _. Ok (ReturnZ (Some x.0), x.1))
return_value_2 f sp breaks continues e s x g0 (Ok tt) g1 = good.return_value g0 g1
return_value_2 f sp breaks continues e s x g0 (Err fault) g1 = bad.return_value g0 g1

return_value_1 : (f : Fn) (sp : St) (breaks : Bool) (continues : Bool) (e : ExprT) (s : Span) → (r : Result (TExprT × St) Fault) → ValueInOut f sp e r → StatementOut f sp breaks continues (ReturnS (Some e) s) (r >>= λ x. demanded s WrongType (converts (type_of_typed x.0) f.gives) >>= λ _. Ok (ReturnZ (Some x.0), x.1))
return_value_1 f sp breaks continues e s (Ok x) g0 = return_value_2 f sp breaks continues e s x g0 (demanded s WrongType (converts (type_of_typed x.0) f.gives)) refl
return_value_1 f sp breaks continues e s (Err fault) g0 = bad.return_part g0

break_1 : (f : Fn) (sp : St) (breaks : Bool) (continues : Bool) (s : Span) → (r : Result (Unit {0}) Fault) → demanded s BreakOutside breaks ≡ r → StatementOut f sp breaks continues (BreakS s) (r >>= λ _. Ok (BreakZ, sp))
break_1 f sp breaks continues s (Ok tt) g0 = good.break g0
break_1 f sp breaks continues s (Err fault) g0 = bad.break g0

continue_1 : (f : Fn) (sp : St) (breaks : Bool) (continues : Bool) (s : Span) → (r : Result (Unit {0}) Fault) → demanded s BreakOutside continues ≡ r → StatementOut f sp breaks continues (ContinueS s) (r >>= λ _. Ok (ContinueZ, sp))
continue_1 f sp breaks continues s (Ok tt) g0 = good.continue g0
continue_1 f sp breaks continues s (Err fault) g0 = bad.continue g0

something_1 : (f : Fn) (sp : St) (breaks : Bool) (continues : Bool) (a : StmtT) → (r : Result (TStmtT × St) Fault) → StatementOut f sp breaks continues a r → MaybeStatementOut f sp breaks continues (SomeS a) (r >>= λ x. Ok (SomeZ x.0, x.1))
something_1 f sp breaks continues a (Ok x) g0 = good.something g0
something_1 f sp breaks continues a (Err fault) g0 = bad.something g0

more_statements_2 : (f : Fn) (sp : St) (breaks : Bool) (continues : Bool) (a : StmtT) (rest : StmtTs) (x : TStmtT × St) → Statement f sp breaks continues a x.0 x.1 → (r : Result (TStmtTs × St) Fault) → StatementsOut f x.1 breaks continues rest r → StatementsOut f sp breaks continues (MoreS a rest) (r >>= λ xs. Ok (MoreZ x.0 xs.0, xs.1))
more_statements_2 f sp breaks continues a rest x g0 (Ok xs) g1 = good.more_statements g0 g1
more_statements_2 f sp breaks continues a rest x g0 (Err fault) g1 = bad.statement_later g0 g1

more_statements_1 : (f : Fn) (sp : St) (breaks : Bool) (continues : Bool) (a : StmtT) (rest : StmtTs) → (r : Result (TStmtT × St) Fault) → StatementOut f sp breaks continues a r → ((us : St) → StatementsOut f us breaks continues rest (statements f us breaks continues rest)) → StatementsOut f sp breaks continues (MoreS a rest) (r >>= λ x. statements f x.1 breaks continues rest >>= λ xs. Ok (MoreZ x.0 xs.0, xs.1))
more_statements_1 f sp breaks continues a rest (Ok x) g0 h1 = more_statements_2 f sp breaks continues a rest x g0 (statements f x.1 breaks continues rest) (h1 x.1)
more_statements_1 f sp breaks continues a rest (Err fault) g0 h1 = bad.statement_here g0

case_3 : (f : Fn) (sp : St) (breaks : Bool) (continues : Bool) (seen : Labels) (e : ExprT) (s : Span) (x : TExprT × St) → ValueIn f sp e x.0 x.1 → (k : ℕ) → known (span_of e) NotConstant (constant x.0) ≡ Ok k → (r : Result (Unit {0}) Fault) → demanded s Twice (not (is_case k seen)) ≡ r → ArmOfOut f sp breaks continues seen (CaseA e s) (r >>= λ _. Ok (CaseB k, x.1))
case_3 f sp breaks continues seen e s x g0 k g1 (Ok tt) g2 = good.case g0 g1 g2
case_3 f sp breaks continues seen e s x g0 k g1 (Err fault) g2 = bad.case g0 g1 g2

case_2 : (f : Fn) (sp : St) (breaks : Bool) (continues : Bool) (seen : Labels) (e : ExprT) (s : Span) (x : TExprT × St) → ValueIn f sp e x.0 x.1 → (r : Result ℕ Fault) → known (span_of e) NotConstant (constant x.0) ≡ r → ArmOfOut f sp breaks continues seen (CaseA e s) (r >>= λ k. demanded s Twice (not (is_case k seen)) >>= λ _. Ok (CaseB k, x.1))
case_2 f sp breaks continues seen e s x g0 (Ok k) g1 = case_3 f sp breaks continues seen e s x g0 k g1 (demanded s Twice (not (is_case k seen))) refl
case_2 f sp breaks continues seen e s x g0 (Err fault) g1 = bad.case_constant g0 g1

case_1 : (f : Fn) (sp : St) (breaks : Bool) (continues : Bool) (seen : Labels) (e : ExprT) (s : Span) → (r : Result (TExprT × St) Fault) → ValueInOut f sp e r → ArmOfOut f sp breaks continues seen (CaseA e s) (r >>= λ x. known (span_of e) NotConstant (constant x.0) >>= λ k. demanded s Twice (not (is_case k seen)) >>= λ _. Ok (CaseB k, x.1))
case_1 f sp breaks continues seen e s (Ok x) g0 = case_2 f sp breaks continues seen e s x g0 (known (span_of e) NotConstant (constant x.0)) refl
case_1 f sp breaks continues seen e s (Err fault) g0 = bad.case_part g0

default_1 : (f : Fn) (sp : St) (breaks : Bool) (continues : Bool) (seen : Labels) (s : Span) → (r : Result (Unit {0}) Fault) → demanded s Twice (not seen.has_default) ≡ r → ArmOfOut f sp breaks continues seen (DefaultA s) (r >>= λ _. Ok (DefaultB, sp))
default_1 f sp breaks continues seen s (Ok tt) g0 = good.default g0
default_1 f sp breaks continues seen s (Err fault) g0 = bad.default g0

arm_statement_1 : (f : Fn) (sp : St) (breaks : Bool) (continues : Bool) (seen : Labels) (a : StmtT) → (r : Result (TStmtT × St) Fault) → StatementOut f sp breaks continues a r → ArmOfOut f sp breaks continues seen (StmtA a) (r >>= λ x. Ok (StmtB x.0, x.1))
arm_statement_1 f sp breaks continues seen a (Ok x) g0 = good.arm_statement g0
arm_statement_1 f sp breaks continues seen a (Err fault) g0 = bad.arm_statement g0

more_arms_2 : (f : Fn) (sp : St) (breaks : Bool) (continues : Bool) (seen : Labels) (a : ArmT) (rest : ArmTs) (x : TArmT × St) → ArmOf f sp breaks continues seen a x.0 x.1 → (r : Result (TArmTs × St) Fault) → ArmsOfOut f x.1 breaks continues (with_label seen x.0) rest r → ArmsOfOut f sp breaks continues seen (MoreA a rest) (r >>= λ xs. Ok (MoreB x.0 xs.0, xs.1))
more_arms_2 f sp breaks continues seen a rest x g0 (Ok xs) g1 = good.more_arms g0 g1
more_arms_2 f sp breaks continues seen a rest x g0 (Err fault) g1 = bad.arm_later g0 g1

more_arms_1 : (f : Fn) (sp : St) (breaks : Bool) (continues : Bool) (seen : Labels) (a : ArmT) (rest : ArmTs) → (r : Result (TArmT × St) Fault) → ArmOfOut f sp breaks continues seen a r → ((us : St) (x : TArmT × St) → ArmsOfOut f us breaks continues (with_label seen x.0) rest (arms f us breaks continues (with_label seen x.0) rest)) → ArmsOfOut f sp breaks continues seen (MoreA a rest) (r >>= λ x. arms f x.1 breaks continues (with_label seen x.0) rest >>= λ xs. Ok (MoreB x.0 xs.0, xs.1))
more_arms_1 f sp breaks continues seen a rest (Ok x) g0 h1 = more_arms_2 f sp breaks continues seen a rest x g0 (arms f x.1 breaks continues (with_label seen x.0) rest) (h1 x.1 x)
more_arms_1 f sp breaks continues seen a rest (Err fault) g0 h1 = bad.arm_here g0

mutual
  pub statement_outcome : (f : Fn) (sp : St) (breaks : Bool) (continues : Bool) (a : StmtT) → StatementOut f sp breaks continues a (statement f sp breaks continues a)
  statement_outcome f sp breaks continues (BlockS body s) = block_1 f sp breaks continues body s (statements f (opened sp) breaks continues body) (statements_outcome f (opened sp) breaks continues body)
  statement_outcome f sp breaks continues (EmptyS s) = good.empty
  statement_outcome f sp breaks continues (VarsS vs s) = variables_1 f sp breaks continues vs s (all_declared f sp vs) (all_declared_outcome f sp vs)
  statement_outcome f sp breaks continues (DoS e) = expression_1 f sp breaks continues e (value_in f sp e) (value_in_outcome f sp e)
  statement_outcome f sp breaks continues (IfS e a b s) = if_else_1 f sp breaks continues e a b s (value_in f sp e) (value_in_outcome f sp e) (λ us. statement_outcome f us breaks continues a) (λ us. maybe_statement_outcome f us breaks continues b)
  statement_outcome f sp breaks continues (WhileS e a s) = while_1 f sp breaks continues e a s (value_in f sp e) (value_in_outcome f sp e) (λ us. statement_outcome f us true true a)
  statement_outcome f sp breaks continues (DoWhileS a e s) = do_while_1 f sp breaks continues a e s (statement f sp true true a) (statement_outcome f sp true true a) (λ us. value_in_outcome f us e)
  statement_outcome f sp breaks continues (ForS first test step a s) = for_1 f sp breaks continues first test step a s (maybe_statement f (opened sp) breaks continues first) (maybe_statement_outcome f (opened sp) breaks continues first) (λ us. maybe_value_outcome f us test) (λ us. maybe_value_outcome f us step) (λ us. statement_outcome f us true true a)
  statement_outcome f sp breaks continues (SwitchS e all s) = switch_1 f sp breaks continues e all s (value_in f sp e) (value_in_outcome f sp e) (λ us. arms_outcome f (opened us) true continues no_labels all)
  statement_outcome f sp breaks continues (ReturnS None s) = good.return_nothing
  statement_outcome f sp breaks continues (ReturnS (Some e) s) = return_value_1 f sp breaks continues e s (value_in f sp e) (value_in_outcome f sp e)
  statement_outcome f sp breaks continues (BreakS s) = break_1 f sp breaks continues s (demanded s BreakOutside breaks) refl
  statement_outcome f sp breaks continues (ContinueS s) = continue_1 f sp breaks continues s (demanded s BreakOutside continues) refl

  pub maybe_statement_outcome : (f : Fn) (sp : St) (breaks : Bool) (continues : Bool) (m : MaybeS) → MaybeStatementOut f sp breaks continues m (maybe_statement f sp breaks continues m)
  maybe_statement_outcome f sp breaks continues NoneS = good.nothing
  maybe_statement_outcome f sp breaks continues (SomeS a) = something_1 f sp breaks continues a (statement f sp breaks continues a) (statement_outcome f sp breaks continues a)

  pub statements_outcome : (f : Fn) (sp : St) (breaks : Bool) (continues : Bool) (all : StmtTs) → StatementsOut f sp breaks continues all (statements f sp breaks continues all)
  statements_outcome f sp breaks continues NoS = good.no_statements
  statements_outcome f sp breaks continues (MoreS a rest) = more_statements_1 f sp breaks continues a rest (statement f sp breaks continues a) (statement_outcome f sp breaks continues a) (λ us. statements_outcome f us breaks continues rest)

  pub arm_outcome : (f : Fn) (sp : St) (breaks : Bool) (continues : Bool) (seen : Labels) (a : ArmT) → ArmOfOut f sp breaks continues seen a (arm f sp breaks continues seen a)
  arm_outcome f sp breaks continues seen (CaseA e s) = case_1 f sp breaks continues seen e s (value_in f sp e) (value_in_outcome f sp e)
  arm_outcome f sp breaks continues seen (DefaultA s) = default_1 f sp breaks continues seen s (demanded s Twice (not seen.has_default)) refl
  arm_outcome f sp breaks continues seen (StmtA a) = arm_statement_1 f sp breaks continues seen a (statement f sp breaks continues a) (statement_outcome f sp breaks continues a)

  pub arms_outcome : (f : Fn) (sp : St) (breaks : Bool) (continues : Bool) (seen : Labels) (all : ArmTs) → ArmsOfOut f sp breaks continues seen all (arms f sp breaks continues seen all)
  arms_outcome f sp breaks continues seen NoA = good.no_arms
  arms_outcome f sp breaks continues seen (MoreA a rest) = more_arms_1 f sp breaks continues seen a rest (arm f sp breaks continues seen a) (arm_outcome f sp breaks continues seen a) (λ us x. arms_outcome f us breaks continues (with_label seen x.0) rest)

pub value_in_good : {f : Fn} {sp sq : St} {e : ExprT} {x : TExprT} → ValueIn f sp e x sq → value_in f sp e ≡ Ok (x, sq)
unfolding value_in
value_in_good (good.value_in g0) = rw (value_good g0) refl

pub type_in_good : {f : Fn} {sp sq : St} {s : Span} {of : TypeT} {x : Ty} → TypeIn f sp s of x sq → type_in f sp s of ≡ Ok (x, sq)
unfolding type_in
type_in_good (good.type_in g0) = rw (type_good g0) refl

pub fill_in_good : {f : Fn} {sp sq : St} {target : Ty} {i : InitT} {x : TInitT} → FillsIn f sp target i x sq → fill_in f sp target i ≡ Ok (x, sq)
unfolding fill_in
fill_in_good (good.fill_in g0) = rw (fill_good g0) refl

pub maybe_fill_good : {f : Fn} {sp sq : St} {target : Ty} {o : Option InitT} {x : Option TInitT} → MaybeFills f sp target o x sq → maybe_filled f sp target o ≡ Ok (x, sq)
unfolding maybe_filled
maybe_fill_good good.no_init = refl
maybe_fill_good (good.init g0) = rw (fill_in_good g0) refl

pub declared_good : {f : Fn} {sp sq : St} {v : VarT} {x : List TVarT} → Declares f sp v x sq → declared f sp v ≡ Ok (x, sq)
unfolding declared
declared_good (good.variable g0 g1 g2) = rw (type_in_good g0, maybe_fill_good g1, g2) refl

pub all_declared_good : {f : Fn} {sp sq : St} {vs : List VarT} {x : List TVarT} → AllDeclare f sp vs x sq → all_declared f sp vs ≡ Ok (x, sq)
all_declared_good good.no_variables = refl
all_declared_good (good.more_variables g0 g1) = rw (declared_good g0, all_declared_good g1) refl

pub maybe_value_good : {f : Fn} {sp sq : St} {o : Option ExprT} {x : Option TExprT} → MaybeValue f sp o x sq → maybe_value f sp o ≡ Ok (x, sq)
unfolding maybe_value
maybe_value_good good.no_value = refl
maybe_value_good (good.some_value g0) = rw (value_in_good g0) refl

mutual
  pub statement_good : {f : Fn} {sp sq : St} {breaks : Bool} {continues : Bool} {a : StmtT} {x : TStmtT} → Statement f sp breaks continues a x sq → statement f sp breaks continues a ≡ Ok (x, sq)
  statement_good (good.block g0) = rw (statements_good g0) refl
  statement_good good.empty = refl
  statement_good (good.variables g0) = rw (all_declared_good g0) refl
  statement_good (good.expression g0) = rw (value_in_good g0) refl
  statement_good (good.if_else g0 g1 g2 g3) = rw (value_in_good g0, statement_good g1, maybe_statement_good g2, g3) refl
  statement_good (good.while g0 g1 g2) = rw (value_in_good g0, statement_good g1, g2) refl
  statement_good (good.do_while g0 g1 g2) = rw (statement_good g0, value_in_good g1, g2) refl
  statement_good (good.for g0 g1 g2 g3 g4) = rw (maybe_statement_good g0, maybe_value_good g1, maybe_value_good g2, statement_good g3, g4) refl
  statement_good (good.switch g0 g1 g2) = rw (value_in_good g0, arms_good g1, g2) refl
  statement_good good.return_nothing = refl
  statement_good (good.return_value g0 g1) = rw (value_in_good g0, g1) refl
  statement_good (good.break g0) = rw (g0) refl
  statement_good (good.continue g0) = rw (g0) refl

  pub maybe_statement_good : {f : Fn} {sp sq : St} {breaks : Bool} {continues : Bool} {m : MaybeS} {x : MaybeZ} → MaybeStatement f sp breaks continues m x sq → maybe_statement f sp breaks continues m ≡ Ok (x, sq)
  maybe_statement_good good.nothing = refl
  maybe_statement_good (good.something g0) = rw (statement_good g0) refl

  pub statements_good : {f : Fn} {sp sq : St} {breaks : Bool} {continues : Bool} {all : StmtTs} {x : TStmtTs} → Statements f sp breaks continues all x sq → statements f sp breaks continues all ≡ Ok (x, sq)
  statements_good good.no_statements = refl
  statements_good (good.more_statements g0 g1) = rw (statement_good g0, statements_good g1) refl

  pub arm_good : {f : Fn} {sp sq : St} {breaks : Bool} {continues : Bool} {seen : Labels} {a : ArmT} {x : TArmT} → ArmOf f sp breaks continues seen a x sq → arm f sp breaks continues seen a ≡ Ok (x, sq)
  arm_good (good.case g0 g1 g2) = rw (value_in_good g0, g1, g2) refl
  arm_good (good.default g0) = rw (g0) refl
  arm_good (good.arm_statement g0) = rw (statement_good g0) refl

  pub arms_good : {f : Fn} {sp sq : St} {breaks : Bool} {continues : Bool} {seen : Labels} {all : ArmTs} {x : TArmTs} → ArmsOf f sp breaks continues seen all x sq → arms f sp breaks continues seen all ≡ Ok (x, sq)
  arms_good good.no_arms = refl
  arms_good (good.more_arms g0 g1) = rw (arm_good g0, arms_good g1) refl

pub value_in_bad : {f : Fn} {sp : St} {e : ExprT} {fault : Fault} → NoValueIn f sp e fault → value_in f sp e ≡ Err fault
unfolding value_in
value_in_bad (bad.value_in g0) = rw (value_bad g0) refl

pub type_in_bad : {f : Fn} {sp : St} {s : Span} {of : TypeT} {fault : Fault} → NoTypeIn f sp s of fault → type_in f sp s of ≡ Err fault
unfolding type_in
type_in_bad (bad.type_in g0) = rw (type_bad g0) refl

pub fill_in_bad : {f : Fn} {sp : St} {target : Ty} {i : InitT} {fault : Fault} → NoFillIn f sp target i fault → fill_in f sp target i ≡ Err fault
unfolding fill_in
fill_in_bad (bad.fill_in g0) = rw (fill_bad g0) refl

pub maybe_fill_bad : {f : Fn} {sp : St} {target : Ty} {o : Option InitT} {fault : Fault} → NotFilled f sp target o fault → maybe_filled f sp target o ≡ Err fault
unfolding maybe_filled
maybe_fill_bad (bad.init g0) = rw (fill_in_bad g0) refl

pub declared_bad : {f : Fn} {sp : St} {v : VarT} {fault : Fault} → Undeclared f sp v fault → declared f sp v ≡ Err fault
unfolding declared
declared_bad (bad.variable_type g0) = rw (type_in_bad g0) refl
declared_bad (bad.variable_init g0 g1) = rw (type_in_good g0, maybe_fill_bad g1) refl
declared_bad (bad.variable g0 g1 g2) = rw (type_in_good g0, maybe_fill_good g1, g2) refl

pub all_declared_bad : {f : Fn} {sp : St} {vs : List VarT} {fault : Fault} → NotAllDeclare f sp vs fault → all_declared f sp vs ≡ Err fault
all_declared_bad (bad.variable_here g0) = rw (declared_bad g0) refl
all_declared_bad (bad.variable_later g0 g1) = rw (declared_good g0, all_declared_bad g1) refl

pub maybe_value_bad : {f : Fn} {sp : St} {o : Option ExprT} {fault : Fault} → NoMaybeValue f sp o fault → maybe_value f sp o ≡ Err fault
unfolding maybe_value
maybe_value_bad (bad.some_value g0) = rw (value_in_bad g0) refl

mutual
  pub statement_bad : {f : Fn} {sp : St} {breaks : Bool} {continues : Bool} {a : StmtT} {fault : Fault} → NoStatement f sp breaks continues a fault → statement f sp breaks continues a ≡ Err fault
  statement_bad (bad.block g0) = rw (statements_bad g0) refl
  statement_bad (bad.variables g0) = rw (all_declared_bad g0) refl
  statement_bad (bad.expression g0) = rw (value_in_bad g0) refl
  statement_bad (bad.if_test g0) = rw (value_in_bad g0) refl
  statement_bad (bad.if_then g0 g1) = rw (value_in_good g0, statement_bad g1) refl
  statement_bad (bad.if_other g0 g1 g2) = rw (value_in_good g0, statement_good g1, maybe_statement_bad g2) refl
  statement_bad (bad.if_else g0 g1 g2 g3) = rw (value_in_good g0, statement_good g1, maybe_statement_good g2, g3) refl
  statement_bad (bad.while_test g0) = rw (value_in_bad g0) refl
  statement_bad (bad.while_body g0 g1) = rw (value_in_good g0, statement_bad g1) refl
  statement_bad (bad.while g0 g1 g2) = rw (value_in_good g0, statement_good g1, g2) refl
  statement_bad (bad.do_body g0) = rw (statement_bad g0) refl
  statement_bad (bad.do_test g0 g1) = rw (statement_good g0, value_in_bad g1) refl
  statement_bad (bad.do_while g0 g1 g2) = rw (statement_good g0, value_in_good g1, g2) refl
  statement_bad (bad.for_first g0) = rw (maybe_statement_bad g0) refl
  statement_bad (bad.for_test g0 g1) = rw (maybe_statement_good g0, maybe_value_bad g1) refl
  statement_bad (bad.for_step g0 g1 g2) = rw (maybe_statement_good g0, maybe_value_good g1, maybe_value_bad g2) refl
  statement_bad (bad.for_body g0 g1 g2 g3) = rw (maybe_statement_good g0, maybe_value_good g1, maybe_value_good g2, statement_bad g3) refl
  statement_bad (bad.for g0 g1 g2 g3 g4) = rw (maybe_statement_good g0, maybe_value_good g1, maybe_value_good g2, statement_good g3, g4) refl
  statement_bad (bad.switch_value g0) = rw (value_in_bad g0) refl
  statement_bad (bad.switch_arms g0 g1) = rw (value_in_good g0, arms_bad g1) refl
  statement_bad (bad.switch g0 g1 g2) = rw (value_in_good g0, arms_good g1, g2) refl
  statement_bad (bad.return_part g0) = rw (value_in_bad g0) refl
  statement_bad (bad.return_value g0 g1) = rw (value_in_good g0, g1) refl
  statement_bad (bad.break g0) = rw (g0) refl
  statement_bad (bad.continue g0) = rw (g0) refl

  pub maybe_statement_bad : {f : Fn} {sp : St} {breaks : Bool} {continues : Bool} {m : MaybeS} {fault : Fault} → NoMaybeStatement f sp breaks continues m fault → maybe_statement f sp breaks continues m ≡ Err fault
  maybe_statement_bad (bad.something g0) = rw (statement_bad g0) refl

  pub statements_bad : {f : Fn} {sp : St} {breaks : Bool} {continues : Bool} {all : StmtTs} {fault : Fault} → NotStatements f sp breaks continues all fault → statements f sp breaks continues all ≡ Err fault
  statements_bad (bad.statement_here g0) = rw (statement_bad g0) refl
  statements_bad (bad.statement_later g0 g1) = rw (statement_good g0, statements_bad g1) refl

  pub arm_bad : {f : Fn} {sp : St} {breaks : Bool} {continues : Bool} {seen : Labels} {a : ArmT} {fault : Fault} → NoArm f sp breaks continues seen a fault → arm f sp breaks continues seen a ≡ Err fault
  arm_bad (bad.case_part g0) = rw (value_in_bad g0) refl
  arm_bad (bad.case_constant g0 g1) = rw (value_in_good g0, g1) refl
  arm_bad (bad.case g0 g1 g2) = rw (value_in_good g0, g1, g2) refl
  arm_bad (bad.default g0) = rw (g0) refl
  arm_bad (bad.arm_statement g0) = rw (statement_bad g0) refl

  pub arms_bad : {f : Fn} {sp : St} {breaks : Bool} {continues : Bool} {seen : Labels} {all : ArmTs} {fault : Fault} → NoArms f sp breaks continues seen all fault → arms f sp breaks continues seen all ≡ Err fault
  arms_bad (bad.arm_here g0) = rw (arm_bad g0) refl
  arms_bad (bad.arm_later g0 g1) = rw (arm_good g0, arms_bad g1) refl
