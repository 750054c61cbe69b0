-- The typing of items by rules.
use Rattle.std.specs.Prelude.{◌≡◌, ℕ, Bool, true, false, List, [], ◌∷◌, ◌++◌, length, Option, Some, None, Ok}
use Rattle.kit_base.specs.Word.{add}
use Rattle.c_tree.specs.declared.span.Span.{Span}
use Rattle.c_tree.specs.Tree.{ExprT, TypeT, InitT, VarT, StmtTs, ItemT, RecordD, EnumD, TypedefD, VarsD, FunctionD}
use Rattle.c_types.specs.Types.{Ty, LayoutT}
use Rattle.c_types.specs.Typed.{TExprT, TInitT, TVarT, TStmtTs}
use Rattle.c_types.specs.Sizes.{no_layout, with_member}
use Rattle.c_rules.specs.declared.code.Code.TheVariants.{Twice, NotConstant}
use Rattle.c_exprs.specs.Env.{Text, TypeD, ConstantD, GlobalD}
use Rattle.c_exprs.specs.Env as env
use Rattle.c_exprs.specs.Faults.{placed, known, demanded}
use Rattle.c_exprs.specs.Nodes.{span_of, constant}
use Rattle.c_stmts.specs.State.{St, filled_var}
use Rattle.c_check.specs.Reading.{Un, under, function_under, state_in, with_state, with_texts, is_free, named, record_entered, record_number}
use Rattle.c_check.specs.Reading.{member_size, members_declared, with_layout, enum_entered, global_size, with_global, with_init, begun}
use Rattle.c_check.specs.Reading.{parameter_size, with_parameter, function_rules, with_function}
use Rattle.c_exprs.specs.Types.{Values, Names}
use Rattle.c_stmts.specs.InitTypes.{Fills}
use Rattle.c_stmts.specs.StatementTypes.{Statements}

-- Item un i tt up: the item i is read after un, and up stands after it.
-- the value of an expression outside functions
pub data ValueAt : Un → ExprT → TExprT → Un → Type 0 where
  value_at : {un : Un} {e : ExprT} {x : TExprT} {us : List Text} → Values (under un) un.texts e x us → ValueAt un e x (with_texts un us)

-- the type that a type tree names, at a node of this span
pub data TypeAt : Un → Span → TypeT → Ty → Un → Type 0 where
  type_at : {un : Un} {s : Span} {of : TypeT} {x : Ty} {us : List Text} → Names (under un) un.texts s of x us → TypeAt un s of x (with_texts un us)

-- an initialiser of a global
pub data FillsAt : Un → Ty → InitT → TInitT → Un → Type 0 where
  fill_at : {un : Un} {target : Ty} {i : InitT} {x : TInitT} {us : List Text} → Fills (under un) un.texts true (Some target) i x us
      → FillsAt un target i x (with_texts un us)

-- the body of a function
pub data BodyAt : Un → Ty → StmtTs → TStmtTs → Un → Type 0 where
  body_at : {un : Un} {gives : Ty} {body : StmtTs} {x : TStmtTs} {us : St} → Statements (function_under un gives) (state_in un) false false body x us
      → BodyAt un gives body x (with_state un us)

-- a member, behind these
pub data Member : Un → LayoutT → VarT → LayoutT → Un → Type 0 where
  member : {un up : Un} {seen : LayoutT} {v : VarT} {t : Ty} {n : ℕ} → TypeAt un v.span v.ty t up
      → placed v.span (member_size up seen v.name t) ≡ Ok n → Member un seen v (with_member seen v.name t n) up

pub data Members : Un → LayoutT → List VarT → LayoutT → Un → Type 0 where
  no_members : {un : Un} {seen : LayoutT} → Members un seen [] seen un
  more_members : {un up uq : Un} {seen : LayoutT} {v : VarT} {vs : List VarT} {x xs : LayoutT} → Member un seen v x up → Members up x vs xs uq
      → Members un seen (v ∷ vs) xs uq

-- the number of an enumerator; one without a value has the next number
pub data Enumerator : Un → ℕ → Option ExprT → ℕ → Un → Type 0 where
  counted : {un : Un} {next : ℕ} → Enumerator un next None next un
  valued : {un up : Un} {next : ℕ} {e : ExprT} {x : TExprT} {k : ℕ} → ValueAt un e x up → known (span_of e) NotConstant (constant x) ≡ Ok k
      → Enumerator un next (Some e) k up

-- an enumerator under its name, in an item of this span, and the number behind its own
pub data NamedEnumerator : Un → Span → ℕ → Text × Option ExprT → ℕ → Un → Type 0 where
  named_enumerator : {un up : Un} {s : Span} {next : ℕ} {v : Text × Option ExprT} {k : ℕ} → Enumerator un next v.1 k up
      → demanded s Twice (is_free v.0 up) ≡ Ok tt → NamedEnumerator un s next v (add k 1) (named v.0 (ConstantD k) up)

-- the enumerators of an enumeration, in items of this span
pub data Enumerators : Un → Span → ℕ → List (Text × Option ExprT) → Unit {0} → Un → Type 0 where
  no_enumerators : {un : Un} {s : Span} {next : ℕ} → Enumerators un s next [] tt un
  more_enumerators : {un up uq : Un} {s : Span} {next : ℕ} {v : Text × Option ExprT} {vs : List (Text × Option ExprT)} {n : ℕ} {x : Unit {0}}
      → NamedEnumerator un s next v n up → Enumerators up s n vs x uq → Enumerators un s next (v ∷ vs) tt uq

pub data MaybeFillsAt : Un → Ty → Option InitT → Option TInitT → Un → Type 0 where
  not_filled : {un : Un} {target : Ty} → MaybeFillsAt un target None None un
  is_filled : {un up : Un} {target : Ty} {i : InitT} {x : TInitT} → FillsAt un target i x up → MaybeFillsAt un target (Some i) (Some x) up

-- A global: its type, its name, its initialiser, then the rules of the global. The name holds in the initialiser.
pub data Global : Un → VarT → List TVarT → Un → Type 0 where
  global : {un up uq : Un} {v : VarT} {t : Ty} {i : Option TInitT} {n : ℕ} → TypeAt un v.span v.ty t up
      → MaybeFillsAt (named v.name (GlobalD (length un.globals) t) up) t v.init i uq → placed v.span (global_size uq (is_free v.name un) t) ≡ Ok n →
      Global un v (filled_var true (length un.globals) t i) (with_global v.name n uq)

pub data Globals : Un → List VarT → List TVarT → Un → Type 0 where
  no_globals : {un : Un} → Globals un [] [] un
  more_globals : {un up uq : Un} {v : VarT} {vs : List VarT} {x xs : List TVarT} → Global un v x up → Globals up vs xs uq → Globals un (v ∷ vs) (x ++ xs) uq

-- a parameter
pub data Parameter : Un → VarT → Ty → Un → Type 0 where
  parameter : {un up : Un} {v : VarT} {t : Ty} {n : ℕ} → TypeAt un v.span v.ty t up → placed v.span (parameter_size up v.name t) ≡ Ok n
      → Parameter un v t (with_parameter v.name t n up)

pub data Parameters : Un → List VarT → List Ty → Un → Type 0 where
  no_parameters : {un : Un} → Parameters un [] [] un
  more_parameters : {un up uq : Un} {v : VarT} {vs : List VarT} {x : Ty} {xs : List Ty} → Parameter un v x up → Parameters up vs xs uq
      → Parameters un (v ∷ vs) (x ∷ xs) uq

-- a body that may be missing
pub data MaybeBody : Un → Ty → Option StmtTs → Option TStmtTs → Un → Type 0 where
  no_body : {un : Un} {gives : Ty} → MaybeBody un gives None None un
  has_body : {un up : Un} {gives : Ty} {body : StmtTs} {x : TStmtTs} → BodyAt un gives body x up → MaybeBody un gives (Some body) (Some x) up

-- An item, in the order of reading. A function's own rules come behind its body.
pub data Item : Un → ItemT → Unit {0} → Un → Type 0 where
  record_name : {un : Un} {is_union : Bool} {name : Text} {s : Span} {n : ℕ}
      → placed s (record_number is_union name (record_entered is_union name un)) ≡ Ok n
      → Item un (RecordD is_union name None s) tt (record_entered is_union name un)
  record_members : {un up : Un} {is_union : Bool} {name : Text} {vs : List VarT} {s : Span} {l : LayoutT} {n : ℕ}
      → Members (record_entered is_union name un) (no_layout is_union) vs l up → placed s (members_declared is_union name up l) ≡ Ok n →
      Item un (RecordD is_union name (Some vs) s) tt (with_layout n l up)
  enumeration : {un up : Un} {name : Text} {vs : List (Text × Option ExprT)} {s : Span} {x : Unit {0}}
      → Enumerators (enum_entered name un) s 0 vs x up → demanded s Twice (is_free name un) ≡ Ok tt → Item un (EnumD name vs s) tt up
  type_name : {un up : Un} {of : TypeT} {name : Text} {s : Span} {t : Ty} → TypeAt un s of t up → demanded s Twice (is_free name un) ≡ Ok tt
      → Item un (TypedefD of name s) tt (named name (TypeD t) up)
  objects : {un up : Un} {vs : List VarT} {s : Span} {xs : List TVarT} → Globals un vs xs up → Item un (VarsD vs s) tt (with_init xs up)
  function : {un up uq ur : Un} {of : TypeT} {name : Text} {vs : List VarT} {o : Option StmtTs} {s : Span} {t : Ty} {ps : List Ty}
      {x : Option TStmtTs} → TypeAt un s of t up → Parameters (begun up) vs ps uq → MaybeBody (named name (env.FunctionD ps t) uq) t o x ur
      → placed s (function_rules ur name ps t o) ≡ Ok tt →
      Item un (FunctionD of name vs o s) tt (with_function name ps t x ur)

pub data Items : Un → List ItemT → Unit {0} → Un → Type 0 where
  no_items : {un : Un} → Items un [] tt un
  more_items : {un up uq : Un} {i : ItemT} {all : List ItemT} {x xs : Unit {0}} → Item un i x up → Items up all xs uq → Items un (i ∷ all) tt uq
