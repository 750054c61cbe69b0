-- The rules of items and the function agree.
use Rattle.std.proofs.Common.{◌≡◌, ℕ, Bool, true, false, List, [], ◌∷◌, ◌++◌, length, Option, Some, None, Result, Ok, Err, refl}
use Rattle.kit_base.specs.Word.{add}
use Rattle.c_tree.specs.declared.span.Span.{Span}
use Rattle.c_tree.specs.Tree.{ExprT, TypeT, InitT, VarT, StmtTs, ItemT, RecordD, EnumD, TypedefD, VarsD, FunctionD}
use Rattle.c_types.specs.Types.{Ty, LayoutT}
use Rattle.c_types.specs.Typed.{TExprT, TInitT, TVarT, TStmtTs}
use Rattle.c_rules.specs.declared.code.Code.TheVariants.{Twice, NotConstant}
use Rattle.c_exprs.specs.Env.{Text, TypeD, ConstantD, GlobalD}
use Rattle.c_exprs.specs.Env as env
use Rattle.c_exprs.specs.declared.error.Fault.{Fault}
use Rattle.c_exprs.specs.Faults.{◌>>=◌, placed, known, demanded}
use Rattle.c_exprs.specs.Nodes.{span_of, constant}
use Rattle.c_stmts.specs.State.{filled_var}
use Rattle.c_check.specs.Reading.{Un, under, function_under, state_in, with_state, with_texts, is_free, named, record_entered, record_number, member_size, members_declared, with_layout, enum_entered, global_size, with_global, with_init, begun, parameter_size, with_parameter, function_rules, with_function}
use Rattle.c_types.specs.Sizes.{no_layout, with_member}
use Rattle.c_exprs.specs.Typing.{Typer, as_value, typed, type_of}
use Rattle.c_exprs.proofs.Exact.{ValueOut, value_good, value_bad, TypeOut, type_outcome, type_good, type_bad}
use Rattle.c_stmts.proofs.Values.{value_outcome}
use Rattle.c_stmts.specs.InitTyping.{filled_by}
use Rattle.c_stmts.proofs.InitExact.{FillOut, fill_outcome, fill_good, fill_bad}
use Rattle.c_stmts.specs.StatementTyping.{Does, statements}
use Rattle.c_stmts.proofs.StatementExact.{StatementsOut, statements_outcome, statements_good, statements_bad}
use Rattle.c_check.specs.inner.ItemTyping.{Reads, value_at, type_at, fill_at, body_at, member, members, enumerator, named_enumerator, enumerators, maybe_fill_at, global, globals, parameter, parameters, maybe_body, item, items}
use Rattle.c_check.specs.ItemTypes as good
use Rattle.c_check.specs.ItemTypes.{ValueAt, TypeAt, FillsAt, BodyAt, Member, Members, Enumerator, NamedEnumerator, Enumerators, MaybeFillsAt, Global, Globals, Parameter, Parameters, MaybeBody, Item, Items}
use Rattle.c_check.specs.ItemBreaks as bad
use Rattle.c_check.specs.ItemBreaks.{NoValueAt, NoTypeAt, NoFillAt, NoBodyAt, NoMember, NoMembers, NoEnumerator, NoNamedEnumerator, NoEnumerators, NotFilledAt, NoGlobal, NoGlobals, NoParameter, NoParameters, NoMaybeBody, NoItem, NoItems}

abbrev pub MemberOut : Un → LayoutT → VarT → Reads LayoutT → Type 0
MemberOut un seen v (Ok x) = Member un seen v x.0 x.1
MemberOut un seen v (Err fault) = NoMember un seen v fault

abbrev pub MembersOut : Un → LayoutT → List VarT → Reads LayoutT → Type 0
MembersOut un seen vs (Ok x) = Members un seen vs x.0 x.1
MembersOut un seen vs (Err fault) = NoMembers un seen vs fault

abbrev pub EnumeratorOut : Un → ℕ → Option ExprT → Reads ℕ → Type 0
EnumeratorOut un next o (Ok x) = Enumerator un next o x.0 x.1
EnumeratorOut un next o (Err fault) = NoEnumerator un next o fault

abbrev pub NamedEnumeratorOut : Un → Span → ℕ → Text × Option ExprT → Reads ℕ → Type 0
NamedEnumeratorOut un s next v (Ok x) = NamedEnumerator un s next v x.0 x.1
NamedEnumeratorOut un s next v (Err fault) = NoNamedEnumerator un s next v fault

abbrev pub EnumeratorsOut : Un → Span → ℕ → List (Text × Option ExprT) → Reads (Unit {0}) → Type 0
EnumeratorsOut un s next vs (Ok x) = Enumerators un s next vs x.0 x.1
EnumeratorsOut un s next vs (Err fault) = NoEnumerators un s next vs fault

abbrev pub MaybeFillsAtOut : Un → Ty → Option InitT → Reads (Option TInitT) → Type 0
MaybeFillsAtOut un target o (Ok x) = MaybeFillsAt un target o x.0 x.1
MaybeFillsAtOut un target o (Err fault) = NotFilledAt un target o fault

abbrev pub GlobalOut : Un → VarT → Reads (List TVarT) → Type 0
GlobalOut un v (Ok x) = Global un v x.0 x.1
GlobalOut un v (Err fault) = NoGlobal un v fault

abbrev pub GlobalsOut : Un → List VarT → Reads (List TVarT) → Type 0
GlobalsOut un vs (Ok x) = Globals un vs x.0 x.1
GlobalsOut un vs (Err fault) = NoGlobals un vs fault

abbrev pub ParameterOut : Un → VarT → Reads Ty → Type 0
ParameterOut un v (Ok x) = Parameter un v x.0 x.1
ParameterOut un v (Err fault) = NoParameter un v fault

abbrev pub ParametersOut : Un → List VarT → Reads (List Ty) → Type 0
ParametersOut un vs (Ok x) = Parameters un vs x.0 x.1
ParametersOut un vs (Err fault) = NoParameters un vs fault

abbrev pub MaybeBodyOut : Un → Ty → Option StmtTs → Reads (Option TStmtTs) → Type 0
MaybeBodyOut un gives o (Ok x) = MaybeBody un gives o x.0 x.1
MaybeBodyOut un gives o (Err fault) = NoMaybeBody un gives o fault

abbrev pub ItemOut : Un → ItemT → Reads (Unit {0}) → Type 0
ItemOut un i (Ok x) = Item un i x.0 x.1
ItemOut un i (Err fault) = NoItem un i fault

abbrev pub ItemsOut : Un → List ItemT → Reads (Unit {0}) → Type 0
ItemsOut un all (Ok x) = Items un all x.0 x.1
ItemsOut un all (Err fault) = NoItems un all fault

abbrev pub ValueAtOut : Un → ExprT → Reads TExprT → Type 0
ValueAtOut un e (Ok x) = ValueAt un e x.0 x.1
ValueAtOut un e (Err fault) = NoValueAt un e fault

value_at_rest : (un : Un) (e : ExprT) (r : Typer TExprT) → ValueOut (under un) un.texts e r → ValueAtOut un e (r >>= λ x. Ok (x.0, with_texts un x.1))
value_at_rest un e (Ok x) g = good.value_at g
value_at_rest un e (Err fault) g = bad.value_at g

pub value_at_outcome : (un : Un) (e : ExprT) → ValueAtOut un e (value_at un e)
unfolding value_at
value_at_outcome un e = value_at_rest un e (as_value (under un) (span_of e) (typed (under un) un.texts e)) (value_outcome (under un) un.texts e)

abbrev pub TypeAtOut : Un → Span → TypeT → Reads Ty → Type 0
TypeAtOut un s of (Ok x) = TypeAt un s of x.0 x.1
TypeAtOut un s of (Err fault) = NoTypeAt un s of fault

type_at_rest : (un : Un) (s : Span) (of : TypeT) (r : Typer Ty) → TypeOut (under un) un.texts s of r → TypeAtOut un s of (r >>= λ x. Ok (x.0, with_texts un x.1))
type_at_rest un s of (Ok x) g = good.type_at g
type_at_rest un s of (Err fault) g = bad.type_at g

pub type_at_outcome : (un : Un) (s : Span) (of : TypeT) → TypeAtOut un s of (type_at un s of)
unfolding type_at
type_at_outcome un s of = type_at_rest un s of (type_of (under un) un.texts s of) (type_outcome (under un) un.texts s of)

abbrev pub FillAtOut : Un → Ty → InitT → Reads TInitT → Type 0
FillAtOut un target i (Ok x) = FillsAt un target i x.0 x.1
FillAtOut un target i (Err fault) = NoFillAt un target i fault

fill_at_rest : (un : Un) (target : Ty) (i : InitT) (r : Typer TInitT) → FillOut (under un) un.texts true (Some target) i r → FillAtOut un target i (r >>= λ x. Ok (x.0, with_texts un x.1))
fill_at_rest un target i (Ok x) g = good.fill_at g
fill_at_rest un target i (Err fault) g = bad.fill_at g

pub fill_at_outcome : (un : Un) (target : Ty) (i : InitT) → FillAtOut un target i (fill_at un target i)
unfolding fill_at
fill_at_outcome un target i = fill_at_rest un target i (filled_by (under un) un.texts true (Some target) i) (fill_outcome (under un) un.texts true (Some target) i)

abbrev pub BodyAtOut : Un → Ty → StmtTs → Reads TStmtTs → Type 0
BodyAtOut un gives body (Ok x) = BodyAt un gives body x.0 x.1
BodyAtOut un gives body (Err fault) = NoBodyAt un gives body fault

body_at_rest : (un : Un) (gives : Ty) (body : StmtTs) (r : Does TStmtTs) → StatementsOut (function_under un gives) (state_in un) false false body r → BodyAtOut un gives body (r >>= λ x. Ok (x.0, with_state un x.1))
body_at_rest un gives body (Ok x) g = good.body_at g
body_at_rest un gives body (Err fault) g = bad.body_at g

pub body_at_outcome : (un : Un) (gives : Ty) (body : StmtTs) → BodyAtOut un gives body (body_at un gives body)
unfolding body_at
body_at_outcome un gives body = body_at_rest un gives body (statements (function_under un gives) (state_in un) false false body) (statements_outcome (function_under un gives) (state_in un) false false body)

member_2 : (un : Un) (seen : LayoutT) (v : VarT) (t : Ty × Un) → TypeAt un v.span v.ty t.0 t.1 → (r : Result ℕ Fault) → placed v.span (member_size t.1 seen v.name t.0) ≡ r → MemberOut un seen v (r >>= λ n. Ok (with_member seen v.name t.0 n, t.1))
member_2 un seen v t g0 (Ok n) g1 = good.member g0 g1
member_2 un seen v t g0 (Err fault) g1 = bad.member g0 g1

member_1 : (un : Un) (seen : LayoutT) (v : VarT) → (r : Result (Ty × Un) Fault) → TypeAtOut un v.span v.ty r → MemberOut un seen v (r >>= λ t. placed v.span (member_size t.1 seen v.name t.0) >>= λ n. Ok (with_member seen v.name t.0 n, t.1))
member_1 un seen v (Ok t) g0 = member_2 un seen v t g0 (placed v.span (member_size t.1 seen v.name t.0)) refl
member_1 un seen v (Err fault) g0 = bad.member_type g0

pub member_outcome : (un : Un) (seen : LayoutT) (v : VarT) → MemberOut un seen v (member un seen v)
unfolding member
member_outcome un seen v = member_1 un seen v (type_at un v.span v.ty) (type_at_outcome un v.span v.ty)

more_members_2 : (un : Un) (seen : LayoutT) (v : VarT) (vs : List VarT) (x : LayoutT × Un) → Member un seen v x.0 x.1 → (r : Result (LayoutT × Un) Fault) → MembersOut x.1 x.0 vs r → MembersOut un seen (v ∷ vs) (r >>= λ xs. Ok (xs.0, xs.1))
more_members_2 un seen v vs x g0 (Ok xs) g1 = good.more_members g0 g1
more_members_2 un seen v vs x g0 (Err fault) g1 = bad.member_later g0 g1

more_members_1 : (un : Un) (seen : LayoutT) (v : VarT) (vs : List VarT) → (r : Result (LayoutT × Un) Fault) → MemberOut un seen v r → ((us : Un) (x : LayoutT × Un) → MembersOut us x.0 vs (members us x.0 vs)) → MembersOut un seen (v ∷ vs) (r >>= λ x. members x.1 x.0 vs >>= λ xs. Ok (xs.0, xs.1))
more_members_1 un seen v vs (Ok x) g0 h1 = more_members_2 un seen v vs x g0 (members x.1 x.0 vs) (h1 x.1 x)
more_members_1 un seen v vs (Err fault) g0 h1 = bad.member_here g0

pub members_outcome : (un : Un) (seen : LayoutT) (vs : List VarT) → MembersOut un seen vs (members un seen vs)
members_outcome un seen [] = good.no_members
members_outcome un seen (v ∷ vs) = more_members_1 un seen v vs (member un seen v) (member_outcome un seen v) (λ us x. members_outcome us x.0 vs)

valued_2 : (un : Un) (next : ℕ) (e : ExprT) (x : TExprT × Un) → ValueAt un e x.0 x.1 → (r : Result ℕ Fault) → known (span_of e) NotConstant (constant x.0) ≡ r → EnumeratorOut un next (Some e) (r >>= λ k. Ok (k, x.1))
valued_2 un next e x g0 (Ok k) g1 = good.valued g0 g1
valued_2 un next e x g0 (Err fault) g1 = bad.valued g0 g1

valued_1 : (un : Un) (next : ℕ) (e : ExprT) → (r : Result (TExprT × Un) Fault) → ValueAtOut un e r → EnumeratorOut un next (Some e) (r >>= λ x. known (span_of e) NotConstant (constant x.0) >>= λ k. Ok (k, x.1))
valued_1 un next e (Ok x) g0 = valued_2 un next e x g0 (known (span_of e) NotConstant (constant x.0)) refl
valued_1 un next e (Err fault) g0 = bad.valued_part g0

pub enumerator_outcome : (un : Un) (next : ℕ) (o : Option ExprT) → EnumeratorOut un next o (enumerator un next o)
unfolding enumerator
enumerator_outcome un next None = good.counted
enumerator_outcome un next (Some e) = valued_1 un next e (value_at un e) (value_at_outcome un e)

named_enumerator_2 : (un : Un) (s : Span) (next : ℕ) (v : Text × Option ExprT) (k : ℕ × Un) → Enumerator un next v.1 k.0 k.1 → (r : Result (Unit {0}) Fault) → demanded s Twice (is_free v.0 k.1) ≡ r → NamedEnumeratorOut un s next v (r >>= λ _. Ok (add k.0 1, named v.0 (ConstantD k.0) k.1))
named_enumerator_2 un s next v k g0 (Ok tt) g1 = good.named_enumerator g0 g1
named_enumerator_2 un s next v k g0 (Err fault) g1 = bad.named_enumerator g0 g1

named_enumerator_1 : (un : Un) (s : Span) (next : ℕ) (v : Text × Option ExprT) → (r : Result (ℕ × Un) Fault) → EnumeratorOut un next v.1 r → NamedEnumeratorOut un s next v (r >>= λ k. demanded s Twice (is_free v.0 k.1) >>= λ _. Ok (add k.0 1, named v.0 (ConstantD k.0) k.1))
named_enumerator_1 un s next v (Ok k) g0 = named_enumerator_2 un s next v k g0 (demanded s Twice (is_free v.0 k.1)) refl
named_enumerator_1 un s next v (Err fault) g0 = bad.enumerator_value g0

pub named_enumerator_outcome : (un : Un) (s : Span) (next : ℕ) (v : Text × Option ExprT) → NamedEnumeratorOut un s next v (named_enumerator un s next v)
unfolding named_enumerator
named_enumerator_outcome un s next v = named_enumerator_1 un s next v (enumerator un next v.1) (enumerator_outcome un next v.1)

more_enumerators_2 : (un : Un) (s : Span) (next : ℕ) (v : Text × Option ExprT) (vs : List (Text × Option ExprT)) (n : ℕ × Un) → NamedEnumerator un s next v n.0 n.1 → (r : Result (Unit {0} × Un) Fault) → EnumeratorsOut n.1 s n.0 vs r → EnumeratorsOut un s next (v ∷ vs) (r >>= λ x. Ok (tt, x.1))
more_enumerators_2 un s next v vs n g0 (Ok x) g1 = good.more_enumerators g0 g1
more_enumerators_2 un s next v vs n g0 (Err fault) g1 = bad.enumerator_later g0 g1

more_enumerators_1 : (un : Un) (s : Span) (next : ℕ) (v : Text × Option ExprT) (vs : List (Text × Option ExprT)) → (r : Result (ℕ × Un) Fault) → NamedEnumeratorOut un s next v r → ((us : Un) (n : ℕ × Un) → EnumeratorsOut us s n.0 vs (enumerators us s n.0 vs)) → EnumeratorsOut un s next (v ∷ vs) (r >>= λ n. enumerators n.1 s n.0 vs >>= λ x. Ok (tt, x.1))
more_enumerators_1 un s next v vs (Ok n) g0 h1 = more_enumerators_2 un s next v vs n g0 (enumerators n.1 s n.0 vs) (h1 n.1 n)
more_enumerators_1 un s next v vs (Err fault) g0 h1 = bad.enumerator_here g0

pub enumerators_outcome : (un : Un) (s : Span) (next : ℕ) (vs : List (Text × Option ExprT)) → EnumeratorsOut un s next vs (enumerators un s next vs)
enumerators_outcome un s next [] = good.no_enumerators
enumerators_outcome un s next (v ∷ vs) = more_enumerators_1 un s next v vs (named_enumerator un s next v) (named_enumerator_outcome un s next v) (λ us n. enumerators_outcome us s n.0 vs)

is_filled_1 : (un : Un) (target : Ty) (i : InitT) → (r : Result (TInitT × Un) Fault) → FillAtOut un target i r → MaybeFillsAtOut un target (Some i) (r >>= λ x. Ok (Some x.0, x.1))
is_filled_1 un target i (Ok x) g0 = good.is_filled g0
is_filled_1 un target i (Err fault) g0 = bad.is_filled g0

pub maybe_fill_at_outcome : (un : Un) (target : Ty) (o : Option InitT) → MaybeFillsAtOut un target o (maybe_fill_at un target o)
unfolding maybe_fill_at
maybe_fill_at_outcome un target None = good.not_filled
maybe_fill_at_outcome un target (Some i) = is_filled_1 un target i (fill_at un target i) (fill_at_outcome un target i)

global_3 : (un : Un) (v : VarT) (t : Ty × Un) → TypeAt un v.span v.ty t.0 t.1 → (i : Option TInitT × Un) → MaybeFillsAt (named v.name (GlobalD (length un.globals) t.0) t.1) t.0 v.init i.0 i.1 → (r : Result ℕ Fault) → placed v.span (global_size i.1 (is_free v.name un) t.0) ≡ r → GlobalOut un v (r >>= λ n. Ok (filled_var true (length un.globals) t.0 i.0, with_global v.name n i.1))
global_3 un v t g0 i g1 (Ok n) g2 = good.global g0 g1 g2
global_3 un v t g0 i g1 (Err fault) g2 = bad.global g0 g1 g2

global_2 : (un : Un) (v : VarT) (t : Ty × Un) → TypeAt un v.span v.ty t.0 t.1 → (r : Result (Option TInitT × Un) Fault) → MaybeFillsAtOut (named v.name (GlobalD (length un.globals) t.0) t.1) t.0 v.init r → GlobalOut un v (r >>= λ i. placed v.span (global_size i.1 (is_free v.name un) t.0) >>= λ n. Ok (filled_var true (length un.globals) t.0 i.0, with_global v.name n i.1))
global_2 un v t g0 (Ok i) g1 = global_3 un v t g0 i g1 (placed v.span (global_size i.1 (is_free v.name un) t.0)) refl
global_2 un v t g0 (Err fault) g1 = bad.global_init g0 g1

global_1 : (un : Un) (v : VarT) → (r : Result (Ty × Un) Fault) → TypeAtOut un v.span v.ty r → ((us : Un) (t : Ty × Un) → MaybeFillsAtOut (named v.name (GlobalD (length un.globals) t.0) us) t.0 v.init (maybe_fill_at (named v.name (GlobalD (length un.globals) t.0) us) t.0 v.init)) → GlobalOut un v (r >>= λ t. maybe_fill_at (named v.name (GlobalD (length un.globals) t.0) t.1) t.0 v.init >>= λ i. placed v.span (global_size i.1 (is_free v.name un) t.0) >>= λ n. Ok (filled_var true (length un.globals) t.0 i.0, with_global v.name n i.1))
global_1 un v (Ok t) g0 h1 = global_2 un v t g0 (maybe_fill_at (named v.name (GlobalD (length un.globals) t.0) t.1) t.0 v.init) (h1 t.1 t)
global_1 un v (Err fault) g0 h1 = bad.global_type g0

pub global_outcome : (un : Un) (v : VarT) → GlobalOut un v (global un v)
unfolding global
global_outcome un v = global_1 un v (type_at un v.span v.ty) (type_at_outcome un v.span v.ty) (λ us t. maybe_fill_at_outcome (named v.name (GlobalD (length un.globals) t.0) us) t.0 v.init)

more_globals_2 : (un : Un) (v : VarT) (vs : List VarT) (x : List TVarT × Un) → Global un v x.0 x.1 → (r : Result (List TVarT × Un) Fault) → GlobalsOut x.1 vs r → GlobalsOut un (v ∷ vs) (r >>= λ xs. Ok (x.0 ++ xs.0, xs.1))
more_globals_2 un v vs x g0 (Ok xs) g1 = good.more_globals g0 g1
more_globals_2 un v vs x g0 (Err fault) g1 = bad.global_later g0 g1

more_globals_1 : (un : Un) (v : VarT) (vs : List VarT) → (r : Result (List TVarT × Un) Fault) → GlobalOut un v r → ((us : Un) → GlobalsOut us vs (globals us vs)) → GlobalsOut un (v ∷ vs) (r >>= λ x. globals x.1 vs >>= λ xs. Ok (x.0 ++ xs.0, xs.1))
more_globals_1 un v vs (Ok x) g0 h1 = more_globals_2 un v vs x g0 (globals x.1 vs) (h1 x.1)
more_globals_1 un v vs (Err fault) g0 h1 = bad.global_here g0

pub globals_outcome : (un : Un) (vs : List VarT) → GlobalsOut un vs (globals un vs)
globals_outcome un [] = good.no_globals
globals_outcome un (v ∷ vs) = more_globals_1 un v vs (global un v) (global_outcome un v) (λ us. globals_outcome us vs)

parameter_2 : (un : Un) (v : VarT) (t : Ty × Un) → TypeAt un v.span v.ty t.0 t.1 → (r : Result ℕ Fault) → placed v.span (parameter_size t.1 v.name t.0) ≡ r → ParameterOut un v (r >>= λ n. Ok (t.0, with_parameter v.name t.0 n t.1))
parameter_2 un v t g0 (Ok n) g1 = good.parameter g0 g1
parameter_2 un v t g0 (Err fault) g1 = bad.parameter g0 g1

parameter_1 : (un : Un) (v : VarT) → (r : Result (Ty × Un) Fault) → TypeAtOut un v.span v.ty r → ParameterOut un v (r >>= λ t. placed v.span (parameter_size t.1 v.name t.0) >>= λ n. Ok (t.0, with_parameter v.name t.0 n t.1))
parameter_1 un v (Ok t) g0 = parameter_2 un v t g0 (placed v.span (parameter_size t.1 v.name t.0)) refl
parameter_1 un v (Err fault) g0 = bad.parameter_type g0

pub parameter_outcome : (un : Un) (v : VarT) → ParameterOut un v (parameter un v)
unfolding parameter
parameter_outcome un v = parameter_1 un v (type_at un v.span v.ty) (type_at_outcome un v.span v.ty)

more_parameters_2 : (un : Un) (v : VarT) (vs : List VarT) (x : Ty × Un) → Parameter un v x.0 x.1 → (r : Result (List Ty × Un) Fault) → ParametersOut x.1 vs r → ParametersOut un (v ∷ vs) (r >>= λ xs. Ok (x.0 ∷ xs.0, xs.1))
more_parameters_2 un v vs x g0 (Ok xs) g1 = good.more_parameters g0 g1
more_parameters_2 un v vs x g0 (Err fault) g1 = bad.parameter_later g0 g1

more_parameters_1 : (un : Un) (v : VarT) (vs : List VarT) → (r : Result (Ty × Un) Fault) → ParameterOut un v r → ((us : Un) → ParametersOut us vs (parameters us vs)) → ParametersOut un (v ∷ vs) (r >>= λ x. parameters x.1 vs >>= λ xs. Ok (x.0 ∷ xs.0, xs.1))
more_parameters_1 un v vs (Ok x) g0 h1 = more_parameters_2 un v vs x g0 (parameters x.1 vs) (h1 x.1)
more_parameters_1 un v vs (Err fault) g0 h1 = bad.parameter_here g0

pub parameters_outcome : (un : Un) (vs : List VarT) → ParametersOut un vs (parameters un vs)
parameters_outcome un [] = good.no_parameters
parameters_outcome un (v ∷ vs) = more_parameters_1 un v vs (parameter un v) (parameter_outcome un v) (λ us. parameters_outcome us vs)

has_body_1 : (un : Un) (gives : Ty) (body : StmtTs) → (r : Result (TStmtTs × Un) Fault) → BodyAtOut un gives body r → MaybeBodyOut un gives (Some body) (r >>= λ x. Ok (Some x.0, x.1))
has_body_1 un gives body (Ok x) g0 = good.has_body g0
has_body_1 un gives body (Err fault) g0 = bad.has_body g0

pub maybe_body_outcome : (un : Un) (gives : Ty) (o : Option StmtTs) → MaybeBodyOut un gives o (maybe_body un gives o)
unfolding maybe_body
maybe_body_outcome un gives None = good.no_body
maybe_body_outcome un gives (Some body) = has_body_1 un gives body (body_at un gives body) (body_at_outcome un gives body)

record_name_1 : (un : Un) (is_union : Bool) (name : Text) (s : Span) → (r : Result ℕ Fault) → placed s (record_number is_union name (record_entered is_union name un)) ≡ r → ItemOut un (RecordD is_union name None s) (r >>= λ n. Ok (tt, record_entered is_union name un))
record_name_1 un is_union name s (Ok n) g0 = good.record_name g0
record_name_1 un is_union name s (Err fault) g0 = bad.record_name g0

record_members_2 : (un : Un) (is_union : Bool) (name : Text) (vs : List VarT) (s : Span) (l : LayoutT × Un) → Members (record_entered is_union name un) (no_layout is_union) vs l.0 l.1 → (r : Result ℕ Fault) → placed s (members_declared is_union name l.1 l.0) ≡ r → ItemOut un (RecordD is_union name (Some vs) s) (r >>= λ n. Ok (tt, with_layout n l.0 l.1))
record_members_2 un is_union name vs s l g0 (Ok n) g1 = good.record_members g0 g1
record_members_2 un is_union name vs s l g0 (Err fault) g1 = bad.record_members g0 g1

record_members_1 : (un : Un) (is_union : Bool) (name : Text) (vs : List VarT) (s : Span) → (r : Result (LayoutT × Un) Fault) → MembersOut (record_entered is_union name un) (no_layout is_union) vs r → ItemOut un (RecordD is_union name (Some vs) s) (r >>= λ l. placed s (members_declared is_union name l.1 l.0) >>= λ n. Ok (tt, with_layout n l.0 l.1))
record_members_1 un is_union name vs s (Ok l) g0 = record_members_2 un is_union name vs s l g0 (placed s (members_declared is_union name l.1 l.0)) refl
record_members_1 un is_union name vs s (Err fault) g0 = bad.record_part g0

enumeration_2 : (un : Un) (name : Text) (vs : List (Text × Option ExprT)) (s : Span) (x : Unit {0} × Un) → Enumerators (enum_entered name un) s 0 vs x.0 x.1 → (r : Result (Unit {0}) Fault) → demanded s Twice (is_free name un) ≡ r → ItemOut un (EnumD name vs s) (r >>= λ _. Ok (tt, x.1))
enumeration_2 un name vs s x g0 (Ok tt) g1 = good.enumeration g0 g1
enumeration_2 un name vs s x g0 (Err fault) g1 = bad.enumeration g0 g1

enumeration_1 : (un : Un) (name : Text) (vs : List (Text × Option ExprT)) (s : Span) → (r : Result (Unit {0} × Un) Fault) → EnumeratorsOut (enum_entered name un) s 0 vs r → ItemOut un (EnumD name vs s) (r >>= λ x. demanded s Twice (is_free name un) >>= λ _. Ok (tt, x.1))
enumeration_1 un name vs s (Ok x) g0 = enumeration_2 un name vs s x g0 (demanded s Twice (is_free name un)) refl
enumeration_1 un name vs s (Err fault) g0 = bad.enumeration_part g0

type_name_2 : (un : Un) (of : TypeT) (name : Text) (s : Span) (t : Ty × Un) → TypeAt un s of t.0 t.1 → (r : Result (Unit {0}) Fault) → demanded s Twice (is_free name un) ≡ r → ItemOut un (TypedefD of name s) (r >>= λ _. Ok (tt, named name (TypeD t.0) t.1))
type_name_2 un of name s t g0 (Ok tt) g1 = good.type_name g0 g1
type_name_2 un of name s t g0 (Err fault) g1 = bad.type_name g0 g1

type_name_1 : (un : Un) (of : TypeT) (name : Text) (s : Span) → (r : Result (Ty × Un) Fault) → TypeAtOut un s of r → ItemOut un (TypedefD of name s) (r >>= λ t. demanded s Twice (is_free name un) >>= λ _. Ok (tt, named name (TypeD t.0) t.1))
type_name_1 un of name s (Ok t) g0 = type_name_2 un of name s t g0 (demanded s Twice (is_free name un)) refl
type_name_1 un of name s (Err fault) g0 = bad.type_name_type g0

objects_1 : (un : Un) (vs : List VarT) (s : Span) → (r : Result (List TVarT × Un) Fault) → GlobalsOut un vs r → ItemOut un (VarsD vs s) (r >>= λ xs. Ok (tt, with_init xs.0 xs.1))
objects_1 un vs s (Ok xs) g0 = good.objects g0
objects_1 un vs s (Err fault) g0 = bad.objects g0

function_4 : (un : Un) (of : TypeT) (name : Text) (vs : List VarT) (o : Option StmtTs) (s : Span) (t : Ty × Un) → TypeAt un s of t.0 t.1 → (ps : List Ty × Un) → Parameters (begun t.1) vs ps.0 ps.1 → (x : Option TStmtTs × Un) → MaybeBody (named name (env.FunctionD ps.0 t.0) ps.1) t.0 o x.0 x.1 → (r : Result (Unit {0}) Fault) → placed s (function_rules x.1 name ps.0 t.0 o) ≡ r → ItemOut un (FunctionD of name vs o s) (r >>= λ _. Ok (tt, with_function name ps.0 t.0 x.0 x.1))
function_4 un of name vs o s t g0 ps g1 x g2 (Ok tt) g3 = good.function g0 g1 g2 g3
function_4 un of name vs o s t g0 ps g1 x g2 (Err fault) g3 = bad.function g0 g1 g2 g3

function_3 : (un : Un) (of : TypeT) (name : Text) (vs : List VarT) (o : Option StmtTs) (s : Span) (t : Ty × Un) → TypeAt un s of t.0 t.1 → (ps : List Ty × Un) → Parameters (begun t.1) vs ps.0 ps.1 → (r : Result (Option TStmtTs × Un) Fault) → MaybeBodyOut (named name (env.FunctionD ps.0 t.0) ps.1) t.0 o r → ItemOut un (FunctionD of name vs o s) (r >>= λ x. placed s (function_rules x.1 name ps.0 t.0 o) >>= λ _. Ok (tt, with_function name ps.0 t.0 x.0 x.1))
function_3 un of name vs o s t g0 ps g1 (Ok x) g2 = function_4 un of name vs o s t g0 ps g1 x g2 (placed s (function_rules x.1 name ps.0 t.0 o)) refl
function_3 un of name vs o s t g0 ps g1 (Err fault) g2 = bad.function_body g0 g1 g2

function_2 : (un : Un) (of : TypeT) (name : Text) (vs : List VarT) (o : Option StmtTs) (s : Span) (t : Ty × Un) → TypeAt un s of t.0 t.1 → (r : Result (List Ty × Un) Fault) → ParametersOut (begun t.1) vs r → ((us : Un) (t : Ty × Un) (ps : List Ty × Un) → MaybeBodyOut (named name (env.FunctionD ps.0 t.0) us) t.0 o (maybe_body (named name (env.FunctionD ps.0 t.0) us) t.0 o)) → ItemOut un (FunctionD of name vs o s) (r >>= λ ps. maybe_body (named name (env.FunctionD ps.0 t.0) ps.1) t.0 o >>= λ x. placed s (function_rules x.1 name ps.0 t.0 o) >>= λ _. Ok (tt, with_function name ps.0 t.0 x.0 x.1))
function_2 un of name vs o s t g0 (Ok ps) g1 h2 = function_3 un of name vs o s t g0 ps g1 (maybe_body (named name (env.FunctionD ps.0 t.0) ps.1) t.0 o) (h2 ps.1 t ps)
function_2 un of name vs o s t g0 (Err fault) g1 h2 = bad.function_parameters g0 g1

function_1 : (un : Un) (of : TypeT) (name : Text) (vs : List VarT) (o : Option StmtTs) (s : Span) → (r : Result (Ty × Un) Fault) → TypeAtOut un s of r → ((us : Un) → ParametersOut (begun us) vs (parameters (begun us) vs)) → ((us : Un) (t : Ty × Un) (ps : List Ty × Un) → MaybeBodyOut (named name (env.FunctionD ps.0 t.0) us) t.0 o (maybe_body (named name (env.FunctionD ps.0 t.0) us) t.0 o)) → ItemOut un (FunctionD of name vs o s) (r >>= λ t. parameters (begun t.1) vs >>= λ ps. maybe_body (named name (env.FunctionD ps.0 t.0) ps.1) t.0 o >>= λ x. placed s (function_rules x.1 name ps.0 t.0 o) >>= λ _. Ok (tt, with_function name ps.0 t.0 x.0 x.1))
function_1 un of name vs o s (Ok t) g0 h1 h2 = function_2 un of name vs o s t g0 (parameters (begun t.1) vs) (h1 t.1) h2
function_1 un of name vs o s (Err fault) g0 h1 h2 = bad.function_result g0

pub item_outcome : (un : Un) (i : ItemT) → ItemOut un i (item un i)
unfolding item
item_outcome un (RecordD is_union name None s) = record_name_1 un is_union name s (placed s (record_number is_union name (record_entered is_union name un))) refl
item_outcome un (RecordD is_union name (Some vs) s) = record_members_1 un is_union name vs s (members (record_entered is_union name un) (no_layout is_union) vs) (members_outcome (record_entered is_union name un) (no_layout is_union) vs)
item_outcome un (EnumD name vs s) = enumeration_1 un name vs s (enumerators (enum_entered name un) s 0 vs) (enumerators_outcome (enum_entered name un) s 0 vs)
item_outcome un (TypedefD of name s) = type_name_1 un of name s (type_at un s of) (type_at_outcome un s of)
item_outcome un (VarsD vs s) = objects_1 un vs s (globals un vs) (globals_outcome un vs)
item_outcome un (FunctionD of name vs o s) = function_1 un of name vs o s (type_at un s of) (type_at_outcome un s of) (λ us. parameters_outcome (begun us) vs) (λ us t ps. maybe_body_outcome (named name (env.FunctionD ps.0 t.0) us) t.0 o)

more_items_2 : (un : Un) (i : ItemT) (all : List ItemT) (x : Unit {0} × Un) → Item un i x.0 x.1 → (r : Result (Unit {0} × Un) Fault) → ItemsOut x.1 all r → ItemsOut un (i ∷ all) (r >>= λ xs. Ok (tt, xs.1))
more_items_2 un i all x g0 (Ok xs) g1 = good.more_items g0 g1
more_items_2 un i all x g0 (Err fault) g1 = bad.item_later g0 g1

more_items_1 : (un : Un) (i : ItemT) (all : List ItemT) → (r : Result (Unit {0} × Un) Fault) → ItemOut un i r → ((us : Un) → ItemsOut us all (items us all)) → ItemsOut un (i ∷ all) (r >>= λ x. items x.1 all >>= λ xs. Ok (tt, xs.1))
more_items_1 un i all (Ok x) g0 h1 = more_items_2 un i all x g0 (items x.1 all) (h1 x.1)
more_items_1 un i all (Err fault) g0 h1 = bad.item_here g0

pub items_outcome : (un : Un) (all : List ItemT) → ItemsOut un all (items un all)
items_outcome un [] = good.no_items
items_outcome un (i ∷ all) = more_items_1 un i all (item un i) (item_outcome un i) (λ us. items_outcome us all)

pub value_at_good : {un up : Un} {e : ExprT} {x : TExprT} → ValueAt un e x up → value_at un e ≡ Ok (x, up)
unfolding value_at
value_at_good (good.value_at g0) = rw (value_good g0) refl

pub type_at_good : {un up : Un} {s : Span} {of : TypeT} {x : Ty} → TypeAt un s of x up → type_at un s of ≡ Ok (x, up)
unfolding type_at
type_at_good (good.type_at g0) = rw (type_good g0) refl

pub fill_at_good : {un up : Un} {target : Ty} {i : InitT} {x : TInitT} → FillsAt un target i x up → fill_at un target i ≡ Ok (x, up)
unfolding fill_at
fill_at_good (good.fill_at g0) = rw (fill_good g0) refl

pub body_at_good : {un up : Un} {gives : Ty} {body : StmtTs} {x : TStmtTs} → BodyAt un gives body x up → body_at un gives body ≡ Ok (x, up)
unfolding body_at
body_at_good (good.body_at g0) = rw (statements_good g0) refl

pub member_good : {un : Un} {seen : LayoutT} {v : VarT} {x : LayoutT} {up : Un} → Member un seen v x up → member un seen v ≡ Ok (x, up)
unfolding member
member_good (good.member g0 g1) = rw (type_at_good g0, g1) refl

pub members_good : {un : Un} {seen : LayoutT} {vs : List VarT} {x : LayoutT} {up : Un} → Members un seen vs x up → members un seen vs ≡ Ok (x, up)
members_good good.no_members = refl
members_good (good.more_members g0 g1) = rw (member_good g0, members_good g1) refl

pub enumerator_good : {un : Un} {next : ℕ} {o : Option ExprT} {x : ℕ} {up : Un} → Enumerator un next o x up → enumerator un next o ≡ Ok (x, up)
unfolding enumerator
enumerator_good good.counted = refl
enumerator_good (good.valued g0 g1) = rw (value_at_good g0, g1) refl

pub named_enumerator_good : {un : Un} {s : Span} {next : ℕ} {v : Text × Option ExprT} {x : ℕ} {up : Un} → NamedEnumerator un s next v x up → named_enumerator un s next v ≡ Ok (x, up)
unfolding named_enumerator
named_enumerator_good (good.named_enumerator g0 g1) = rw (enumerator_good g0, g1) refl

pub enumerators_good : {un : Un} {s : Span} {next : ℕ} {vs : List (Text × Option ExprT)} {x : Unit {0}} {up : Un} → Enumerators un s next vs x up → enumerators un s next vs ≡ Ok (x, up)
enumerators_good good.no_enumerators = refl
enumerators_good (good.more_enumerators g0 g1) = rw (named_enumerator_good g0, enumerators_good g1) refl

pub maybe_fill_at_good : {un : Un} {target : Ty} {o : Option InitT} {x : Option TInitT} {up : Un} → MaybeFillsAt un target o x up → maybe_fill_at un target o ≡ Ok (x, up)
unfolding maybe_fill_at
maybe_fill_at_good good.not_filled = refl
maybe_fill_at_good (good.is_filled g0) = rw (fill_at_good g0) refl

pub global_good : {un : Un} {v : VarT} {x : List TVarT} {up : Un} → Global un v x up → global un v ≡ Ok (x, up)
unfolding global
global_good (good.global g0 g1 g2) = rw (type_at_good g0, maybe_fill_at_good g1, g2) refl

pub globals_good : {un : Un} {vs : List VarT} {x : List TVarT} {up : Un} → Globals un vs x up → globals un vs ≡ Ok (x, up)
globals_good good.no_globals = refl
globals_good (good.more_globals g0 g1) = rw (global_good g0, globals_good g1) refl

pub parameter_good : {un : Un} {v : VarT} {x : Ty} {up : Un} → Parameter un v x up → parameter un v ≡ Ok (x, up)
unfolding parameter
parameter_good (good.parameter g0 g1) = rw (type_at_good g0, g1) refl

pub parameters_good : {un : Un} {vs : List VarT} {x : List Ty} {up : Un} → Parameters un vs x up → parameters un vs ≡ Ok (x, up)
parameters_good good.no_parameters = refl
parameters_good (good.more_parameters g0 g1) = rw (parameter_good g0, parameters_good g1) refl

pub maybe_body_good : {un : Un} {gives : Ty} {o : Option StmtTs} {x : Option TStmtTs} {up : Un} → MaybeBody un gives o x up → maybe_body un gives o ≡ Ok (x, up)
unfolding maybe_body
maybe_body_good good.no_body = refl
maybe_body_good (good.has_body g0) = rw (body_at_good g0) refl

pub item_good : {un : Un} {i : ItemT} {x : Unit {0}} {up : Un} → Item un i x up → item un i ≡ Ok (x, up)
unfolding item
item_good (good.record_name g0) = rw (g0) refl
item_good (good.record_members g0 g1) = rw (members_good g0, g1) refl
item_good (good.enumeration g0 g1) = rw (enumerators_good g0, g1) refl
item_good (good.type_name g0 g1) = rw (type_at_good g0, g1) refl
item_good (good.objects g0) = rw (globals_good g0) refl
item_good (good.function g0 g1 g2 g3) = rw (type_at_good g0, parameters_good g1, maybe_body_good g2, g3) refl

pub items_good : {un : Un} {all : List ItemT} {x : Unit {0}} {up : Un} → Items un all x up → items un all ≡ Ok (x, up)
items_good good.no_items = refl
items_good (good.more_items g0 g1) = rw (item_good g0, items_good g1) refl

pub value_at_bad : {un : Un} {e : ExprT} {fault : Fault} → NoValueAt un e fault → value_at un e ≡ Err fault
unfolding value_at
value_at_bad (bad.value_at g0) = rw (value_bad g0) refl

pub type_at_bad : {un : Un} {s : Span} {of : TypeT} {fault : Fault} → NoTypeAt un s of fault → type_at un s of ≡ Err fault
unfolding type_at
type_at_bad (bad.type_at g0) = rw (type_bad g0) refl

pub fill_at_bad : {un : Un} {target : Ty} {i : InitT} {fault : Fault} → NoFillAt un target i fault → fill_at un target i ≡ Err fault
unfolding fill_at
fill_at_bad (bad.fill_at g0) = rw (fill_bad g0) refl

pub body_at_bad : {un : Un} {gives : Ty} {body : StmtTs} {fault : Fault} → NoBodyAt un gives body fault → body_at un gives body ≡ Err fault
unfolding body_at
body_at_bad (bad.body_at g0) = rw (statements_bad g0) refl

pub member_bad : {un : Un} {seen : LayoutT} {v : VarT} {fault : Fault} → NoMember un seen v fault → member un seen v ≡ Err fault
unfolding member
member_bad (bad.member_type g0) = rw (type_at_bad g0) refl
member_bad (bad.member g0 g1) = rw (type_at_good g0, g1) refl

pub members_bad : {un : Un} {seen : LayoutT} {vs : List VarT} {fault : Fault} → NoMembers un seen vs fault → members un seen vs ≡ Err fault
members_bad (bad.member_here g0) = rw (member_bad g0) refl
members_bad (bad.member_later g0 g1) = rw (member_good g0, members_bad g1) refl

pub enumerator_bad : {un : Un} {next : ℕ} {o : Option ExprT} {fault : Fault} → NoEnumerator un next o fault → enumerator un next o ≡ Err fault
unfolding enumerator
enumerator_bad (bad.valued_part g0) = rw (value_at_bad g0) refl
enumerator_bad (bad.valued g0 g1) = rw (value_at_good g0, g1) refl

pub named_enumerator_bad : {un : Un} {s : Span} {next : ℕ} {v : Text × Option ExprT} {fault : Fault} → NoNamedEnumerator un s next v fault → named_enumerator un s next v ≡ Err fault
unfolding named_enumerator
named_enumerator_bad (bad.enumerator_value g0) = rw (enumerator_bad g0) refl
named_enumerator_bad (bad.named_enumerator g0 g1) = rw (enumerator_good g0, g1) refl

pub enumerators_bad : {un : Un} {s : Span} {next : ℕ} {vs : List (Text × Option ExprT)} {fault : Fault} → NoEnumerators un s next vs fault → enumerators un s next vs ≡ Err fault
enumerators_bad (bad.enumerator_here g0) = rw (named_enumerator_bad g0) refl
enumerators_bad (bad.enumerator_later g0 g1) = rw (named_enumerator_good g0, enumerators_bad g1) refl

pub maybe_fill_at_bad : {un : Un} {target : Ty} {o : Option InitT} {fault : Fault} → NotFilledAt un target o fault → maybe_fill_at un target o ≡ Err fault
unfolding maybe_fill_at
maybe_fill_at_bad (bad.is_filled g0) = rw (fill_at_bad g0) refl

pub global_bad : {un : Un} {v : VarT} {fault : Fault} → NoGlobal un v fault → global un v ≡ Err fault
unfolding global
global_bad (bad.global_type g0) = rw (type_at_bad g0) refl
global_bad (bad.global_init g0 g1) = rw (type_at_good g0, maybe_fill_at_bad g1) refl
global_bad (bad.global g0 g1 g2) = rw (type_at_good g0, maybe_fill_at_good g1, g2) refl

pub globals_bad : {un : Un} {vs : List VarT} {fault : Fault} → NoGlobals un vs fault → globals un vs ≡ Err fault
globals_bad (bad.global_here g0) = rw (global_bad g0) refl
globals_bad (bad.global_later g0 g1) = rw (global_good g0, globals_bad g1) refl

pub parameter_bad : {un : Un} {v : VarT} {fault : Fault} → NoParameter un v fault → parameter un v ≡ Err fault
unfolding parameter
parameter_bad (bad.parameter_type g0) = rw (type_at_bad g0) refl
parameter_bad (bad.parameter g0 g1) = rw (type_at_good g0, g1) refl

pub parameters_bad : {un : Un} {vs : List VarT} {fault : Fault} → NoParameters un vs fault → parameters un vs ≡ Err fault
parameters_bad (bad.parameter_here g0) = rw (parameter_bad g0) refl
parameters_bad (bad.parameter_later g0 g1) = rw (parameter_good g0, parameters_bad g1) refl

pub maybe_body_bad : {un : Un} {gives : Ty} {o : Option StmtTs} {fault : Fault} → NoMaybeBody un gives o fault → maybe_body un gives o ≡ Err fault
unfolding maybe_body
maybe_body_bad (bad.has_body g0) = rw (body_at_bad g0) refl

pub item_bad : {un : Un} {i : ItemT} {fault : Fault} → NoItem un i fault → item un i ≡ Err fault
unfolding item
item_bad (bad.record_name g0) = rw (g0) refl
item_bad (bad.record_part g0) = rw (members_bad g0) refl
item_bad (bad.record_members g0 g1) = rw (members_good g0, g1) refl
item_bad (bad.enumeration_part g0) = rw (enumerators_bad g0) refl
item_bad (bad.enumeration g0 g1) = rw (enumerators_good g0, g1) refl
item_bad (bad.type_name_type g0) = rw (type_at_bad g0) refl
item_bad (bad.type_name g0 g1) = rw (type_at_good g0, g1) refl
item_bad (bad.objects g0) = rw (globals_bad g0) refl
item_bad (bad.function_result g0) = rw (type_at_bad g0) refl
item_bad (bad.function_parameters g0 g1) = rw (type_at_good g0, parameters_bad g1) refl
item_bad (bad.function_body g0 g1 g2) = rw (type_at_good g0, parameters_good g1, maybe_body_bad g2) refl
item_bad (bad.function g0 g1 g2 g3) = rw (type_at_good g0, parameters_good g1, maybe_body_good g2, g3) refl

pub items_bad : {un : Un} {all : List ItemT} {fault : Fault} → NoItems un all fault → items un all ≡ Err fault
items_bad (bad.item_here g0) = rw (item_bad g0) refl
items_bad (bad.item_later g0 g1) = rw (item_good g0, items_bad g1) refl
