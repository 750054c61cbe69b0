-- The rule that an item breaks first, in the order of reading.
use Rattle.std.specs.Prelude.{◌≡◌, ℕ, Bool, true, false, List, ◌∷◌, length, Option, Some, None, Err}
use Rattle.c_tree.specs.declared.span.Span.{Span}
use Rattle.c_tree.specs.Tree.{ExprT, TypeT, InitT, VarT, StmtTs, ItemT, RecordD, EnumD, TypedefD, VarsD, FunctionD}
use Rattle.c_types.specs.Types.{Ty, LayoutT}
use Rattle.c_types.specs.Typed.{TExprT, TInitT, TVarT, TStmtTs}
use Rattle.c_types.specs.Sizes.{no_layout}
use Rattle.c_rules.specs.declared.code.Code.TheVariants.{Twice, NotConstant}
use Rattle.c_exprs.specs.Env.{Text, TypeD, ConstantD, GlobalD}
use Rattle.c_exprs.specs.Env as env
use Rattle.c_exprs.specs.declared.error.Fault.{Fault}
use Rattle.c_exprs.specs.Faults.{placed, known, demanded}
use Rattle.c_exprs.specs.Nodes.{span_of, constant}
use Rattle.c_check.specs.Reading.{Un, under, function_under, state_in, is_free, named, record_entered, record_number, member_size, members_declared}
use Rattle.c_check.specs.Reading.{enum_entered, global_size, begun, parameter_size, function_rules}
use Rattle.c_exprs.specs.Breaks.{NoValue, NoName}
use Rattle.c_stmts.specs.InitBreaks.{NoFill}
use Rattle.c_stmts.specs.StatementBreaks.{NotStatements}
use Rattle.c_check.specs.ItemTypes.{ValueAt, TypeAt, Member, Members, Enumerator, NamedEnumerator, Enumerators, MaybeFillsAt, Global, Parameter}
use Rattle.c_check.specs.ItemTypes.{Parameters, MaybeBody, Item}

-- the value of an expression outside functions
pub data NoValueAt : Un → ExprT → Fault → Type 0 where
  value_at : {un : Un} {e : ExprT} {fault : Fault} → NoValue (under un) un.texts e fault → NoValueAt un e fault

-- the type that a type tree names, at a node of this span
pub data NoTypeAt : Un → Span → TypeT → Fault → Type 0 where
  type_at : {un : Un} {s : Span} {of : TypeT} {fault : Fault} → NoName (under un) un.texts s of fault → NoTypeAt un s of fault

-- an initialiser of a global
pub data NoFillAt : Un → Ty → InitT → Fault → Type 0 where
  fill_at : {un : Un} {target : Ty} {i : InitT} {fault : Fault} → NoFill (under un) un.texts true (Some target) i fault → NoFillAt un target i fault

-- the body of a function
pub data NoBodyAt : Un → Ty → StmtTs → Fault → Type 0 where
  body_at : {un : Un} {gives : Ty} {body : StmtTs} {fault : Fault} → NotStatements (function_under un gives) (state_in un) false false body fault
      → NoBodyAt un gives body fault

-- a member, behind these
pub data NoMember : Un → LayoutT → VarT → Fault → Type 0 where
  member_type : {un : Un} {seen : LayoutT} {v : VarT} {fault : Fault} → NoTypeAt un v.span v.ty fault → NoMember un seen v fault
  member : {un up : Un} {seen : LayoutT} {v : VarT} {t : Ty} {fault : Fault} → TypeAt un v.span v.ty t up
      → placed v.span (member_size up seen v.name t) ≡ Err fault → NoMember un seen v fault

pub data NoMembers : Un → LayoutT → List VarT → Fault → Type 0 where
  member_here : {un : Un} {seen : LayoutT} {v : VarT} {vs : List VarT} {fault : Fault} → NoMember un seen v fault → NoMembers un seen (v ∷ vs) fault
  member_later : {un up : Un} {seen : LayoutT} {v : VarT} {vs : List VarT} {x : LayoutT} {fault : Fault} → Member un seen v x up
      → NoMembers up x vs fault → NoMembers un seen (v ∷ vs) fault

-- the number of an enumerator; one without a value has the next number
pub data NoEnumerator : Un → ℕ → Option ExprT → Fault → Type 0 where
  valued_part : {un : Un} {next : ℕ} {e : ExprT} {fault : Fault} → NoValueAt un e fault → NoEnumerator un next (Some e) fault
  valued : {un up : Un} {next : ℕ} {e : ExprT} {x : TExprT} {fault : Fault} → ValueAt un e x up
      → known (span_of e) NotConstant (constant x) ≡ Err fault → NoEnumerator un next (Some e) fault

-- an enumerator under its name, in an item of this span, and the number behind its own
pub data NoNamedEnumerator : Un → Span → ℕ → Text × Option ExprT → Fault → Type 0 where
  enumerator_value : {un : Un} {s : Span} {next : ℕ} {v : Text × Option ExprT} {fault : Fault} → NoEnumerator un next v.1 fault
      → NoNamedEnumerator un s next v fault
  named_enumerator : {un up : Un} {s : Span} {next : ℕ} {v : Text × Option ExprT} {k : ℕ} {fault : Fault} → Enumerator un next v.1 k up
      → demanded s Twice (is_free v.0 up) ≡ Err fault → NoNamedEnumerator un s next v fault

-- the enumerators of an enumeration, in items of this span
pub data NoEnumerators : Un → Span → ℕ → List (Text × Option ExprT) → Fault → Type 0 where
  enumerator_here : {un : Un} {s : Span} {next : ℕ} {v : Text × Option ExprT} {vs : List (Text × Option ExprT)} {fault : Fault}
      → NoNamedEnumerator un s next v fault → NoEnumerators un s next (v ∷ vs) fault
  enumerator_later : {un up : Un} {s : Span} {next : ℕ} {v : Text × Option ExprT} {vs : List (Text × Option ExprT)} {n : ℕ} {fault : Fault}
      → NamedEnumerator un s next v n up → NoEnumerators up s n vs fault → NoEnumerators un s next (v ∷ vs) fault

pub data NotFilledAt : Un → Ty → Option InitT → Fault → Type 0 where
  is_filled : {un : Un} {target : Ty} {i : InitT} {fault : Fault} → NoFillAt un target i fault → NotFilledAt un target (Some i) fault

-- A global: its type, its name, its initialiser, then the rules of the global. The name holds in the initialiser.
pub data NoGlobal : Un → VarT → Fault → Type 0 where
  global_type : {un : Un} {v : VarT} {fault : Fault} → NoTypeAt un v.span v.ty fault → NoGlobal un v fault
  global_init : {un up : Un} {v : VarT} {t : Ty} {fault : Fault} → TypeAt un v.span v.ty t up
      → NotFilledAt (named v.name (GlobalD (length un.globals) t) up) t v.init fault → NoGlobal un v fault
  global : {un up uq : Un} {v : VarT} {t : Ty} {i : Option TInitT} {fault : Fault} → TypeAt un v.span v.ty t up
      → MaybeFillsAt (named v.name (GlobalD (length un.globals) t) up) t v.init i uq → placed v.span (global_size uq (is_free v.name un) t) ≡ Err fault →
      NoGlobal un v fault

pub data NoGlobals : Un → List VarT → Fault → Type 0 where
  global_here : {un : Un} {v : VarT} {vs : List VarT} {fault : Fault} → NoGlobal un v fault → NoGlobals un (v ∷ vs) fault
  global_later : {un up : Un} {v : VarT} {vs : List VarT} {x : List TVarT} {fault : Fault} → Global un v x up → NoGlobals up vs fault
      → NoGlobals un (v ∷ vs) fault

-- a parameter
pub data NoParameter : Un → VarT → Fault → Type 0 where
  parameter_type : {un : Un} {v : VarT} {fault : Fault} → NoTypeAt un v.span v.ty fault → NoParameter un v fault
  parameter : {un up : Un} {v : VarT} {t : Ty} {fault : Fault} → TypeAt un v.span v.ty t up → placed v.span (parameter_size up v.name t) ≡ Err fault
      → NoParameter un v fault

pub data NoParameters : Un → List VarT → Fault → Type 0 where
  parameter_here : {un : Un} {v : VarT} {vs : List VarT} {fault : Fault} → NoParameter un v fault → NoParameters un (v ∷ vs) fault
  parameter_later : {un up : Un} {v : VarT} {vs : List VarT} {x : Ty} {fault : Fault} → Parameter un v x up → NoParameters up vs fault
      → NoParameters un (v ∷ vs) fault

-- a body that may be missing
pub data NoMaybeBody : Un → Ty → Option StmtTs → Fault → Type 0 where
  has_body : {un : Un} {gives : Ty} {body : StmtTs} {fault : Fault} → NoBodyAt un gives body fault → NoMaybeBody un gives (Some body) fault

-- An item, in the order of reading. A function's own rules come behind its body.
pub data NoItem : Un → ItemT → Fault → Type 0 where
  record_name : {un : Un} {is_union : Bool} {name : Text} {s : Span} {fault : Fault}
      → placed s (record_number is_union name (record_entered is_union name un)) ≡ Err fault → NoItem un (RecordD is_union name None s) fault
  record_part : {un : Un} {is_union : Bool} {name : Text} {vs : List VarT} {s : Span} {fault : Fault}
      → NoMembers (record_entered is_union name un) (no_layout is_union) vs fault → NoItem un (RecordD is_union name (Some vs) s) fault
  record_members : {un up : Un} {is_union : Bool} {name : Text} {vs : List VarT} {s : Span} {l : LayoutT} {fault : Fault}
      → Members (record_entered is_union name un) (no_layout is_union) vs l up → placed s (members_declared is_union name up l) ≡ Err fault
      → NoItem un (RecordD is_union name (Some vs) s) fault
  enumeration_part : {un : Un} {name : Text} {vs : List (Text × Option ExprT)} {s : Span} {fault : Fault}
      → NoEnumerators (enum_entered name un) s 0 vs fault → NoItem un (EnumD name vs s) fault
  enumeration : {un up : Un} {name : Text} {vs : List (Text × Option ExprT)} {s : Span} {x : Unit {0}} {fault : Fault}
      → Enumerators (enum_entered name un) s 0 vs x up → demanded s Twice (is_free name un) ≡ Err fault → NoItem un (EnumD name vs s) fault
  type_name_type : {un : Un} {of : TypeT} {name : Text} {s : Span} {fault : Fault} → NoTypeAt un s of fault → NoItem un (TypedefD of name s) fault
  type_name : {un up : Un} {of : TypeT} {name : Text} {s : Span} {t : Ty} {fault : Fault} → TypeAt un s of t up
      → demanded s Twice (is_free name un) ≡ Err fault → NoItem un (TypedefD of name s) fault
  objects : {un : Un} {vs : List VarT} {s : Span} {fault : Fault} → NoGlobals un vs fault → NoItem un (VarsD vs s) fault
  function_result : {un : Un} {of : TypeT} {name : Text} {vs : List VarT} {o : Option StmtTs} {s : Span} {fault : Fault} → NoTypeAt un s of fault
      → NoItem un (FunctionD of name vs o s) fault
  function_parameters : {un up : Un} {of : TypeT} {name : Text} {vs : List VarT} {o : Option StmtTs} {s : Span} {t : Ty} {fault : Fault}
      → TypeAt un s of t up → NoParameters (begun up) vs fault → NoItem un (FunctionD of name vs o s) fault
  function_body : {un up uq : Un} {of : TypeT} {name : Text} {vs : List VarT} {o : Option StmtTs} {s : Span} {t : Ty} {ps : List Ty} {fault : Fault}
      → TypeAt un s of t up → Parameters (begun up) vs ps uq → NoMaybeBody (named name (env.FunctionD ps t) uq) t o fault
      → NoItem un (FunctionD of name vs o s) fault
  function : {un up uq ur : Un} {of : TypeT} {name : Text} {vs : List VarT} {o : Option StmtTs} {s : Span} {t : Ty} {ps : List Ty}
      {x : Option TStmtTs} {fault : Fault} → TypeAt un s of t up → Parameters (begun up) vs ps uq
      → MaybeBody (named name (env.FunctionD ps t) uq) t o x ur → placed s (function_rules ur name ps t o) ≡ Err fault →
      NoItem un (FunctionD of name vs o s) fault

pub data NoItems : Un → List ItemT → Fault → Type 0 where
  item_here : {un : Un} {i : ItemT} {all : List ItemT} {fault : Fault} → NoItem un i fault → NoItems un (i ∷ all) fault
  item_later : {un up : Un} {i : ItemT} {all : List ItemT} {x : Unit {0}} {fault : Fault} → Item un i x up → NoItems up all fault → NoItems un (i ∷ all) fault
