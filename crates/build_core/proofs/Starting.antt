-- A source that is read and typed, and where its functions begin.
use Rattle.std.proofs.Common.{ℕ, ◌≡◌, ◌≤◌, ◌*◌, List, [], ◌∷◌, ◌++◌, length, true, refl, sym, ap, subst, ◌∙◌, arith}
use Rattle.std.specs.Prelude.{Option, Some, None, Result, Ok, Err, IfSome, IsUtf8}
use Rattle.std.specs.List.{AllByRecursion, list_all}
use Rattle.std.specs.Str.{is_utf8}
use Rattle.std.proofs.lemmas.List.{length-map}
use Rattle.std.proofs.lemmas.Str.{is_utf8-from_IsUtf8}
use Rattle.kit_base.specs.Held.{Held}
use Rattle.c_tree.specs.Tree.{ItemT, RecordD, EnumD, TypedefD, VarsD, FunctionD}
use Rattle.c_tree.specs.View.{unit}
use Rattle.c_types.specs.Programs.{TFunctionT, ProgramT}
use Rattle.c_parse.specs.Tok.{Tok, toks, seen, class_of, bytes_of}
use Rattle.c_parse.specs.Scope.{Context}
use Rattle.c_parse.specs.Units as u
use Rattle.c_parse.specs.Units.{Items, Unit_, Derives}
use Rattle.c_parse.proofs.DeclReads.{params_up}
use Rattle.c_parse.proofs.StmtReads.{stmts_up}
use Rattle.c_parse.proofs.UnitReads.{gives_shorter, item_shorter}
use Rattle.c_check.specs.View.{program}
use Rattle.c_check.specs.Whole.{WellTyped}
use Rattle.c_facts.specs.Bodies.{BodyT, bodies_behind, AreOf, FunctionsAreBodies}
use Rattle.c_front.specs.declared.unit.Parsed.{Parsed}
use Rattle.c_front.specs.Causes.{IsWithin}
use Rattle.c_front.specs.Due.{Answers}
use Rattle.c_front.specs.Over.{over}
use Rattle.build_core.specs.Checkable.{AreOfOneUnit, IsCheckable}
use Rattle.build_core.specs.declared.error.BuildErr.{BuildErr}
use Rattle.build_core.specs.declared.checked.Checked.{Checked}
use Rattle.build_core.specs.Gathered.{IsRead, IsOfUnit, TypesSource, ReadsSource}
use Rattle.build_core.specs.Starts.{starts_of}
use Rattle.build_core.proofs.Checks.{source_typed}

-- ---- there are as many as functions

starts_bodies : (before items : List ItemT) → length (starts_of items) ≡ length (bodies_behind before items)
starts_bodies before [] = refl
starts_bodies before (RecordD is_union name members s ∷ items) = starts_bodies _ items
starts_bodies before (EnumD name values s ∷ items) = starts_bodies _ items
starts_bodies before (TypedefD ty name s ∷ items) = starts_bodies _ items
starts_bodies before (VarsD vs s ∷ items) = starts_bodies _ items
starts_bodies before (FunctionD gives name params None s ∷ items) = starts_bodies _ items
starts_bodies before (FunctionD gives name params (Some body) s ∷ items) = omega (arith, starts_bodies (before ++ FunctionD gives name params (Some body) s ∷ []) items)

as_many : (all : List ItemT) (bs : List BodyT) (fs : List TFunctionT) → AreOf all bs fs → length bs ≡ length fs
as_many all [] [] h = refl
as_many all [] (f ∷ fs) h = absurd h
as_many all (b ∷ bs) [] h = absurd h
as_many all (b ∷ bs) (f ∷ fs) h = omega (arith, as_many all bs fs h.1)

pub starts_each : FunctionsAreBodies → (all : List ItemT) (p : ProgramT) → WellTyped all p → length (starts_of all) ≡ length p.functions
starts_each bodies all p typed = starts_bodies [] all ∙ as_many all (bodies_behind [] all) p.functions (bodies all p typed)

-- ---- each takes six tokens

six_of_items : {c : Context} {ts : List Tok} {ds : List ItemT} → Items c ts ds → 6 * length (starts_of ds) ≤ length ts
six_of_items u.end = omega arith
six_of_items (u.more (u.record_ e h) k) = omega (arith, item_shorter (u.record_ e h), six_of_items k)
six_of_items (u.more (u.forward e) k) = omega (arith, six_of_items k)
six_of_items (u.more (u.enum {n = n} h end) k) = omega (arith, item_shorter (u.enum {n = n} h end), six_of_items k)
six_of_items (u.more (u.typedef y) k) = omega (arith, item_shorter (u.typedef y), six_of_items k)
six_of_items (u.more (u.vars h) k) = omega (arith, item_shorter (u.vars h), six_of_items k)
six_of_items (u.more (u.declared y h p) k) = omega (arith, item_shorter (u.declared y h p), six_of_items k)
six_of_items (u.more (u.defined y h p b) k) = omega (arith, gives_shorter y, params_up p, stmts_up b, six_of_items k)

pub six_tokens : (ts : List Tok) (ds : List ItemT) → Unit_ ts ds → 6 * length (starts_of ds) ≤ length ts
six_tokens ts ds h = six_of_items h

-- ---- the starts of a source

pub checkable : FunctionsAreBodies → (parsed : Parsed) (p : ProgramT) (starts : List ℕ) → IsRead parsed → WellTyped (unit parsed.unit) p → starts ≡ starts_of (unit parsed.unit)
    → IsCheckable p parsed.places starts
checkable bodies parsed p starts read typed are =
    let all = unit parsed.unit in
    let count : length starts ≡ length (starts_of all) = ap length are in
    let each = starts_each bodies all p typed in
    let six = six_tokens (toks parsed.places.tokens) all read.derived.0 in
    let same = length-map parsed.places.tokens (λ t. seen (class_of t.kind) (bytes_of t.kind)) in
    record {
      starts_are = record { each = count ∙ each; few = omega (arith, read.few); source = read.source; texts = read.texts; lines = read.lines };
      few = read.few;
    }

pub of_one_unit : (parsed : Parsed) (p : ProgramT) (starts : List ℕ) → IsRead parsed → WellTyped (unit parsed.unit) p → starts ≡ starts_of (unit parsed.unit) → AreOfOneUnit p parsed.places starts
of_one_unit parsed p starts read typed are = record { items = unit parsed.unit; derived = read.derived; typed = typed; starts_are = are }

pub is_read : (parsed : Parsed) (name : List ℕ) → Derives (toks parsed.places.tokens) (unit parsed.unit) → IsWithin parsed → parsed.places.source ≡ name → IsUtf8 name
    → list_all is_utf8 parsed.places.names ≡ true → AllByRecursion (λ t. 1 ≤ t.line) parsed.places.tokens → IsRead parsed
is_read parsed name derived within source text texts lines =
    record { derived = derived; few = within.tokens; source = ap is_utf8 source ∙ is_utf8-from_IsUtf8 name text; texts = texts; lines = lines }

-- ---- a source that was read is typed, or refused as by a check

pub source_reads : (held : Option Held) (name source : List ℕ) → name ≡ source → (parsed : Parsed) (r : Result Checked BuildErr)
    → IfSome held (λ m. Answers (over m) name (Ok parsed)) → TypesSource parsed r → IfSome held (λ m. ReadsSource m source r)
source_reads None name source same parsed r u h = tt
source_reads (Some m) name source same parsed (Ok s) u h = subst (λ n. ReadsSource m n (Ok s)) same (record { parsed = parsed; is_unit = u; of_unit = h })
source_reads (Some m) name source same parsed (Err e) u h = source_typed (Some m) name source same parsed (Err e) u h
