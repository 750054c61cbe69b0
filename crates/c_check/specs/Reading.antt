-- What the items of a unit change, in the order of reading.
use Rattle.std.specs.Prelude.{ℕ, ◌+◌, ◌==◌, Bool, true, false, ◌&&◌, ◌||◌, not, min, max, List, [], ◌∷◌, ◌++◌, length, map, sum_by, slice_get}
use Rattle.std.specs.Prelude.{slice_set, is_some, Option, Some, None, Result, Ok, Err, nat_le, if◌then◌else◌}
use Rattle.std.specs.Str.{bytes_eq}
use Rattle.c_tree.specs.Tree.{StmtTs, ItemT, RecordD, EnumD, TypedefD, VarsD, FunctionD}
use Rattle.c_types.specs.Types.{Ty, EnumY, StructY, UnionY, LayoutT}
use Rattle.c_types.specs.Programs.{TFunctionT}
use Rattle.c_types.specs.Typed.{TVarT, TStmtT, VarsZ, TStmtTs}
use Rattle.c_types.specs.Sizes.{words_of, no_layout, with_member, member_named}
use Rattle.c_rules.specs.declared.code.Code.{Code}
use Rattle.c_rules.specs.declared.code.Code.TheVariants.{Twice, WrongType, InfiniteType, TooLarge}
use Rattle.c_types.specs.Kinds.{is_void}
use Rattle.c_rules.specs.Kinds.{is_array, struct_number, union_number, holds, same_type}
use Rattle.c_rules.specs.Sizes.{is_declared, is_whole, fits, type_limit, value_limit}
use Rattle.c_rules.specs.Rules.{Rule, demand, judged}
use Rattle.c_rules.specs.Nodes.{given, size_rule}
use Rattle.c_exprs.specs.Env.{Text, find, LocalD, Decl, TypeD, ConstantD, GlobalD, Ctx}
use Rattle.c_exprs.specs.Env as env
use Rattle.c_exprs.specs.Intrinsics.{intrinsic}
use Rattle.c_exprs.specs.Calls.{ensured}
use Rattle.c_stmts.specs.State.{Scope, Fn, St, innermost, declare, made, object_size}
use Rattle.c_check.specs.Words.{is_word}

-- What was read of a unit, and the numbers of all functions with a body in it, which do not change: the layouts, with whether each is declared whole;
-- the names of structures and unions, by their numbers; how many
-- enumerations there are; what names are declared as; the globals with their sizes; their initialisers; the functions with a body; the texts;
-- and of the function that is read the open scopes, the sizes of its objects, and the words of those that are variables.
pub record Un : Type 0 where
  pub layouts : List LayoutT
  pub whole : List Bool
  pub records : List Text
  pub enums : ℕ
  pub names : List (Text × Decl)
  pub globals : List (Text × ℕ)
  pub inits : List TStmtT
  pub functions : List TFunctionT
  pub texts : List Text
  pub scopes : List Scope
  pub sizes : List ℕ
  pub used : ℕ
  pub bodies : List (Text × ℕ)

-- nothing is read yet
abbrev pub opening : List (Text × ℕ) → Un
opening b = record {
  layouts = [];
  whole = [];
  records = [];
  enums = 0;
  names = [];
  globals = [];
  inits = [];
  functions = [];
  texts = [];
  scopes = [];
  sizes = [];
  used = 0;
  bodies = b;
}

-- A function with a body has the next number; a second body of one name gives that name no other number.
abbrev pub numbered : Text → ℕ → List (Text × ℕ) → List (Text × ℕ)
numbered n k b = if is_some (find n b) then b else b ++ (n, k) ∷ []

abbrev pub body_name : ItemT → Option Text
body_name (RecordD is_union name members s) = None
body_name (EnumD name values s) = None
body_name (TypedefD ty name s) = None
body_name (VarsD vs s) = None
body_name (FunctionD gives name params None s) = None
body_name (FunctionD gives name params (Some body) s) = Some name

abbrev pub bodies_with : List (Text × ℕ) → ℕ → List (Option Text) → List (Text × ℕ)
bodies_with b k [] = b
bodies_with b k (None ∷ names) = bodies_with b k names
bodies_with b k (Some n ∷ names) = bodies_with (numbered n k b) (k + 1) names

-- the functions with a body, numbered in their order
abbrev pub bodies_of : List ItemT → List (Text × ℕ)
bodies_of items = bodies_with [] 0 (map body_name items)

-- ---- what its parts are read under

abbrev pub under : Un → Ctx
under un = record { layouts = un.layouts; whole = un.whole; names = un.names; bodies = un.bodies; scopes = un.scopes }

abbrev pub function_under : Un → Ty → Fn
function_under un gives = record { layouts = un.layouts; whole = un.whole; names = un.names; bodies = un.bodies; gives = gives }

abbrev pub state_in : Un → St
state_in un = record { scopes = un.scopes; sizes = un.sizes; used = un.used; texts = un.texts }

abbrev pub with_state : Un → St → Un
with_state un st = record un { texts = st.texts; scopes = st.scopes; sizes = st.sizes; used = st.used }

abbrev pub with_texts : Un → List Text → Un
with_texts un ts = record un { texts = ts }

-- ---- names

abbrev pub names_free : Text → List (Text × Decl) → Bool
names_free n names = not (is_some (find n names)) && not (is_some (intrinsic n))

-- whether a name of the unit is declared nowhere so far
abbrev pub is_free : Text → Un → Bool
is_free n un = names_free n un.names

abbrev pub with_names : Un → List (Text × Decl) → Un
with_names un ns = record un { names = ns }

-- The name has this meaning from here on; a name that is not free keeps its meaning.
unfoldable pub named : Text → Decl → Un → Un
named n d un = if is_free n un then with_names un (un.names ++ (n, d) ∷ []) else un

-- ---- structures and unions

abbrev pub record_type : Bool → ℕ → Ty
record_type true number = UnionY number
record_type false number = StructY number

abbrev pub new_record : Bool → Text → Un → Un
new_record is_union n un = record un {
  layouts = un.layouts ++ no_layout is_union ∷ [];
  whole = un.whole ++ false ∷ [];
  records = un.records ++ n ∷ [];
  names = un.names ++ (n, TypeD (record_type is_union (length un.layouts))) ∷ [];
}

-- The name is a structure or union from here on, its own members included; a name that is not free keeps its meaning.
unfoldable pub record_entered : Bool → Text → Un → Un
record_entered is_union n un = if is_free n un then new_record is_union n un else un

abbrev pub number_as : Bool → Ty → Option ℕ
number_as true ty = union_number ty
number_as false ty = struct_number ty

-- the number of a structure or union that has this name itself
abbrev pub own_number : Text → List Text → Option ℕ → Result ℕ Code
own_number n records None = Err Twice
own_number n records (Some k) = ensured Twice (holds (bytes_eq n) (slice_get records k)) (Ok k)

abbrev pub declared_record : Bool → Text → List Text → Option Decl → Result ℕ Code
declared_record is_union n records None = Err Twice
declared_record is_union n records (Some (TypeD ty)) = own_number n records (number_as is_union ty)
declared_record is_union n records (Some (ConstantD k)) = Err Twice
declared_record is_union n records (Some (GlobalD number ty)) = Err Twice
declared_record is_union n records (Some (env.FunctionD params gives)) = Err Twice

-- The number of the structure, or of the union, that has this name; a name of anything else is declared twice.
unfoldable pub record_number : Bool → Text → Un → Result ℕ Code
record_number is_union n un = declared_record is_union n un.records (find n un.names)

-- a member: its size, where no member before it has its name
unfoldable pub member_size : Un → LayoutT → Text → Ty → Result ℕ Code
member_size un l n ty = ensured Twice (not (is_some (member_named n l.members))) (judged (size_rule un.layouts un.whole ty))

abbrev pub has_members : LayoutT → Bool
has_members l = not (length l.members == 0)

abbrev pub whole_record : Un → LayoutT → Result ℕ Code → Result ℕ Code
whole_record un l (Err k) = Err k
whole_record un l (Ok number) = ensured Twice (not (is_declared un.whole number))
    (ensured WrongType (has_members l) (ensured TooLarge (nat_le l.size type_limit) (Ok number)))

-- Members are declared of a structure or union of this name that has none yet; there is one at least, and they have at most so many words.
unfoldable pub members_declared : Bool → Text → Un → LayoutT → Result ℕ Code
members_declared is_union n un l = whole_record un l (record_number is_union n un)

abbrev pub with_layout : ℕ → LayoutT → Un → Un
with_layout number l un = record un { layouts = slice_set un.layouts number l; whole = slice_set un.whole number true }

-- ---- enumerations

abbrev pub new_enum : Text → Un → Un
new_enum n un = record un { enums = un.enums + 1; names = un.names ++ (n, TypeD (EnumY un.enums)) ∷ [] }

unfoldable pub enum_entered : Text → Un → Un
enum_entered n un = if is_free n un then new_enum n un else un

-- ---- globals

-- the words that all globals may have
abbrev pub globals_limit : ℕ
globals_limit = 3145728

abbrev pub global_words : Un → ℕ
global_words un = sum_by (λ g. g.1) un.globals

unfoldable pub global_size : Un → Bool → Ty → Result ℕ Code
global_size un fresh ty = object_size un.layouts un.whole globals_limit (global_words un) fresh ty

abbrev pub with_global : Text → ℕ → Un → Un
with_global n words un = record un { globals = un.globals ++ (n, words) ∷ [] }

abbrev pub with_init : List TVarT → Un → Un
with_init xs un = record un { inits = un.inits ++ VarsZ xs ∷ [] }

-- ---- functions

-- a function is begun, with its scope, or left
abbrev pub begun : Un → Un
begun un = record un { scopes = [] ∷ []; sizes = []; used = 0 }

abbrev pub ended : Un → Un
ended un = record un { scopes = []; sizes = []; used = 0 }

-- A parameter is no array; its size is known, and that of a structure at most that of a value.
unfoldable pub parameter_rule : List LayoutT → List Bool → Ty → Rule ℕ
parameter_rule layouts whole ty = record {
  gives = given (not (is_void ty) && not (is_array ty)) (words_of layouts ty);
  demands = demand InfiniteType (is_whole whole ty) ∷ demand TooLarge (fits layouts value_limit ty) ∷ [];
}

unfoldable pub parameter_size : Un → Text → Ty → Result ℕ Code
parameter_size un n ty = ensured Twice (not (is_some (find n (innermost un.scopes)))) (judged (parameter_rule un.layouts un.whole ty))

unfoldable pub with_parameter : Text → Ty → ℕ → Un → Un
with_parameter n ty words un = record un { scopes = declare n (record { number = length un.sizes; ty = ty }) un.scopes; sizes = un.sizes ++ words ∷ [] }

abbrev pub same_types : List Ty → List Ty → Bool
same_types [] [] = true
same_types (t ∷ ts) (u ∷ us) = same_type t u && same_types ts us
same_types _ _ = false

-- whether a name is declared as a function
abbrev pub is_function : Option Decl → Bool
is_function None = false
is_function (Some (TypeD ty)) = false
is_function (Some (ConstantD k)) = false
is_function (Some (GlobalD number ty)) = false
is_function (Some (env.FunctionD params gives)) = true

-- whether a function is declared with these types
abbrev pub agrees : List Ty → Ty → Option Decl → Bool
agrees params gives None = false
agrees params gives (Some (TypeD ty)) = false
agrees params gives (Some (ConstantD k)) = false
agrees params gives (Some (GlobalD number ty)) = false
agrees params gives (Some (env.FunctionD qs h)) = same_types params qs && same_type gives h

-- whether a body is the one that its function's number stands for; a second body of the name is none
abbrev pub is_own_body : Text → Un → Option StmtTs → Bool
is_own_body n un None = true
is_own_body n un (Some body) = holds (λ k. k == length un.functions) (find n un.bodies)

-- A result is none, or no array, of a known size, a structure of at most a value's.
abbrev pub result_rule : List LayoutT → List Bool → Ty → Rule (Unit {0})
result_rule layouts whole gives = record {
  gives = given (not (is_array gives)) tt;
  demands = demand InfiniteType (is_void gives || is_whole whole gives) ∷ demand TooLarge (fits layouts value_limit gives) ∷ [];
}

-- The rules of a function, behind its body. Its name is a function's, by this item or one before it, with no body before where it has one
-- here; it is a word, as in every unit that was read from text; that function has these types; its result is none or a value's type.
unfoldable pub function_rules : Un → Text → List Ty → Ty → Option StmtTs → Result (Unit {0}) Code
function_rules un n params gives body =
    ensured Twice (is_function (find n un.names) && is_own_body n un body)
    (ensured WrongType (is_word n && agrees params gives (find n un.names)) (judged (result_rule un.layouts un.whole gives)))

-- A function is left, and kept where it has a body. Its scope, the one that is open, holds its parameters and the variables that stand in its
-- body outside every block, `for` and `switch`: these are made with the call.
abbrev pub with_function : Text → List Ty → Ty → Option TStmtTs → Un → Un
with_function n params gives None un = ended un
with_function n params gives (Some body) un =
    record (ended un) {
      functions = un.functions ++ record {
        name = n;
        params = params;
        locals = un.sizes;
        made = made (state_in un);
        gives = gives;
        body = body;
      } ∷ [];
    }
