-- A function has at most as many objects as its item has nodes.
use Rattle.std.proofs.Common.{◌≡◌, ◌⊎◌, inl, inr, ℕ, ◌+◌, ◌≤◌, Bool, List, [], ◌∷◌, ◌++◌, length, Option, Some, refl, ap, ◌∙◌, subst, arith, length-append}
use Rattle.std.specs.Prelude.{slice_get}
use Rattle.c_tree.specs.declared.span.Span.{Span}
use Rattle.c_tree.specs.Tree.{ExprT, TypeT, VarT, StmtT, MaybeS, StmtTs, ArmT, ArmTs, ItemT, FunctionD}
use Rattle.c_tree.specs.Count.{var_nodes, vars_nodes, stmt_nodes, maybe_nodes, stmts_nodes, item_nodes, unit_nodes}
use Rattle.c_tree.specs.Count as tree
use Rattle.c_types.specs.Types.{Ty}
use Rattle.c_types.specs.Typed.{TExprT, TVarT, TStmtT, MaybeZ, TStmtTs, TArmT, TArmTs}
use Rattle.c_types.specs.Programs.{TFunctionT, ProgramT}
use Rattle.c_exprs.specs.Env.{Text}
use Rattle.c_exprs.specs.Env.{FunctionD as FunctionIs}
use Rattle.c_stmts.specs.State.{Fn, St, made, Labels}
use Rattle.c_stmts.specs.StatementTypes as s
use Rattle.c_stmts.specs.StatementTypes.{ValueIn, Declares, AllDeclare, MaybeValue, Statement, MaybeStatement, Statements, ArmOf, ArmsOf}
use Rattle.c_check.specs.Reading.{Un, state_in, begun, named, with_function}
use Rattle.c_check.specs.ItemTypes as item
use Rattle.c_check.specs.ItemTypes.{BodyAt, Parameter, Parameters, MaybeBody, Item, Items}
use Rattle.c_check.specs.Whole as check
use Rattle.c_check.specs.Whole.{WellTyped}
use Rattle.c_facts.proofs.Fronts.{last_or_before}
use Rattle.c_facts.proofs.Spending.{type_keeps, entered_keeps, maybe_fill_keeps, value_keeps, maybe_value_keeps}
use Rattle.c_facts.proofs.Functions.{parameter_adds, named_sizes}
use Rattle.c_facts.proofs.Readings.{by_record, keeps_through, named_keeps, enum_keeps, enumerators_keep, members_keep}
use Rattle.c_facts.proofs.Readings.{type_keeps as read_type_keeps}
use Rattle.c_facts.proofs.Sane.{function_keeps}
use Rattle.c_facts.proofs.Counts.{globals_functions}

-- ---- statements

value_takes : {f : Fn} {sp sq : St} {e : ExprT} {x : TExprT} → ValueIn f sp e x sq → length sq.sizes ≤ length sp.sizes
value_takes h = let e = ap length (value_keeps h).sizes in omega (arith, e)

maybe_value_takes : {f : Fn} {sp sq : St} {e : Option ExprT} {x : Option TExprT} → MaybeValue f sp e x sq → length sq.sizes ≤ length sp.sizes
maybe_value_takes h = let e = ap length (maybe_value_keeps h).sizes in omega (arith, e)

variable_takes : {f : Fn} {sp sq : St} {v : VarT} {xs : List TVarT} → Declares f sp v xs sq → length sq.sizes ≤ length sp.sizes + var_nodes v
variable_takes (s.variable {sp = sp} {sq = sq} {sr = sr} {v = v} {t = t} {n = n} h k size) =
    let a = ap length (type_keeps h).sizes in
    let b = ap length (entered_keeps v.name t sq).sizes in
    let c = ap length (maybe_fill_keeps k).sizes in
    omega (arith, a, b, c, length-append sr.sizes (n ∷ []))

variables_take : {f : Fn} {sp sq : St} {vs : List VarT} {xs : List TVarT} → AllDeclare f sp vs xs sq → length sq.sizes ≤ length sp.sizes + vars_nodes vs
variables_take s.no_variables = omega arith
variables_take (s.more_variables h k) = omega (arith, variable_takes h, variables_take k)

mutual
  pub statement_takes : {f : Fn} {sp sq : St} {breaks continues : Bool} {a : StmtT} {x : TStmtT} → Statement f sp breaks continues a x sq → length sq.sizes ≤ length sp.sizes + stmt_nodes a
  statement_takes (s.block g) = omega (arith, statements_take g)
  statement_takes s.empty = omega arith
  statement_takes (s.variables g) = omega (arith, variables_take g)
  statement_takes (s.expression g) = omega (arith, value_takes g)
  statement_takes (s.if_else g k l h) = omega (arith, value_takes g, statement_takes k, maybe_statement_takes l)
  statement_takes (s.while g k h) = omega (arith, value_takes g, statement_takes k)
  statement_takes (s.do_while k g h) = omega (arith, value_takes g, statement_takes k)
  statement_takes (s.for g y z k h) = omega (arith, maybe_statement_takes g, maybe_value_takes y, maybe_value_takes z, statement_takes k)
  statement_takes (s.switch g k h) = omega (arith, value_takes g, arms_take k)
  statement_takes s.return_nothing = omega arith
  statement_takes (s.return_value g h) = omega (arith, value_takes g)
  statement_takes (s.break h) = omega arith
  statement_takes (s.continue h) = omega arith

  pub maybe_statement_takes : {f : Fn} {sp sq : St} {breaks continues : Bool} {a : MaybeS} {x : MaybeZ} → MaybeStatement f sp breaks continues a x sq → length sq.sizes ≤ length sp.sizes + maybe_nodes a
  maybe_statement_takes s.nothing = omega arith
  maybe_statement_takes (s.something g) = statement_takes g

  pub statements_take : {f : Fn} {sp sq : St} {breaks continues : Bool} {all : StmtTs} {xs : TStmtTs} → Statements f sp breaks continues all xs sq → length sq.sizes ≤ length sp.sizes + stmts_nodes all
  statements_take s.no_statements = omega arith
  statements_take (s.more_statements g k) = omega (arith, statement_takes g, statements_take k)

  pub arm_takes : {f : Fn} {sp sq : St} {breaks continues : Bool} {seen : Labels} {a : ArmT} {x : TArmT} → ArmOf f sp breaks continues seen a x sq → length sq.sizes ≤ length sp.sizes + tree.arm_nodes a
  arm_takes (s.case g k h) = omega (arith, value_takes g)
  arm_takes (s.default h) = omega arith
  arm_takes (s.arm_statement g) = statement_takes g

  pub arms_take : {f : Fn} {sp sq : St} {breaks continues : Bool} {seen : Labels} {all : ArmTs} {xs : TArmTs} → ArmsOf f sp breaks continues seen all xs sq → length sq.sizes ≤ length sp.sizes + tree.arms_nodes all
  arms_take s.no_arms = omega arith
  arms_take (s.more_arms g k) = omega (arith, arm_takes g, arms_take k)

-- ---- functions

parameters_take : {un : Un} {vs : List VarT} {ps : List Ty} {up : Un} → Parameters un vs ps up → length up.sizes ≤ length un.sizes + vars_nodes vs
parameters_take (item.no_parameters) = omega arith
parameters_take (item.more_parameters {un = un} {up = up} g0 rest) =
    let one = parameter_adds g0 in
    let e = ap length one.added in
    omega (arith, e, length-append un.sizes (one.size ∷ []), parameters_take rest)

body_takes : {un : Un} {t : Ty} {body : StmtTs} {x : TStmtTs} {ur : Un} → BodyAt un t body x ur → length ur.sizes ≤ length un.sizes + stmts_nodes body
body_takes (item.body_at g0) = statements_take g0

abbrev AreFew : ℕ → List TFunctionT → Type 0
AreFew n fs = (k : ℕ) (f : TFunctionT) → slice_get fs k ≡ Some f → length f.locals ≤ n

few_same : (n : ℕ) (fs gs : List TFunctionT) → gs ≡ fs → AreFew n fs → AreFew n gs
few_same n fs gs e h k f at = h k f (subst (λ xs. slice_get xs k ≡ Some f) e at)

few_more : (n : ℕ) (fs : List TFunctionT) (g : TFunctionT) → AreFew n fs → length g.locals ≤ n → AreFew n (fs ++ g ∷ [])
few_more n fs g h l k f at = by (last_or_before fs g k f at)
  where
    by : (slice_get fs k ≡ Some f) ⊎ ((k ≡ length fs) × (g ≡ f)) → length f.locals ≤ n
    by (inl e) = h k f e
    by (inr e) = subst (λ (x : TFunctionT). length x.locals ≤ n) e.1 l

function_few : (n : ℕ) (of : TypeT) (name : Text) (vs : List VarT) (span : Span) (ps : List Ty) (up : Un) {uq start : Un} {t : Ty} {o : Option StmtTs} {x : Option TStmtTs} {ur : Un} → Parameters (begun up) vs ps uq → start ≡ named name (FunctionIs ps t) uq → MaybeBody start t o x ur → item_nodes (FunctionD of name vs o span) ≤ n → AreFew n ur.functions → AreFew n (with_function name ps t x ur).functions
function_few n of name vs span ps up g1 e (item.no_body) room h = h
function_few n of name vs span ps up {uq = uq} g1 e (item.has_body {un = start} {up = ur} {gives = t} {body = body} {x = x} g2) room h =
    let a : length start.sizes ≡ length uq.sizes = ap (λ (u : Un). length u.sizes) e ∙ ap length (named_sizes name ps t uq).0 in
    few_more n ur.functions (record { name = name; params = ps; locals = ur.sizes; made = made (state_in ur); gives = t; body = x }) h (omega (arith, a, body_takes g2, parameters_take g1, room))

item_few : (n : ℕ) {un : Un} {i : ItemT} {x : Unit {0}} {up : Un} → Item un i x up → item_nodes i ≤ n → AreFew n un.functions → AreFew n up.functions
item_few n (item.record_name {un = un} {is_union = is_union} {name = name} g0) room h = few_same n un.functions _ (by_record (λ up. up.functions ≡ un.functions) is_union name un refl refl) h
item_few n (item.record_members {un = un} {up = up} {is_union = is_union} {name = name} g0 g1) room h = few_same n un.functions up.functions ((members_keep g0).functions ∙ by_record (λ up. up.functions ≡ un.functions) is_union name un refl refl) h
item_few n (item.enumeration {un = un} {up = up} {name = name} g0 g1) room h = few_same n un.functions up.functions (keeps_through (enum_keeps name un) (enumerators_keep g0)).functions h
item_few n (item.type_name {un = un} {up = up} {name = name} g0 g1) room h = few_same n un.functions _ (keeps_through (read_type_keeps g0) (named_keeps name _ up)).functions h
item_few n (item.objects {un = un} {up = up} g0) room h = few_same n un.functions up.functions (globals_functions g0) h
item_few n (item.function {un = un} {up = up} {ur = ur} {of = of} {name = name} {vs = vs} {o = o} {s = span} {ps = ps} g0 g1 g2 g3) room h = function_few n of name vs span ps up g1 refl g2 room (few_same n un.functions ur.functions (function_keeps name g0 g1 g2).functions h)

items_few : (n : ℕ) {un : Un} {all : List ItemT} {x : Unit {0}} {up : Un} → Items un all x up → unit_nodes all ≤ n → AreFew n un.functions → AreFew n up.functions
items_few n (item.no_items) room h = h
items_few n (item.more_items g0 g1) room h = items_few n g1 (omega (arith, room)) (item_few n g0 (omega (arith, room)) h)

pub locals_few : (all : List ItemT) (p : ProgramT) → WellTyped all p → (k : ℕ) (f : TFunctionT) → slice_get p.functions k ≡ Some f → length f.locals ≤ unit_nodes all
locals_few all p (check.unit g m) = items_few (unit_nodes all) g (omega arith) (λ k f e. absurd cc)
