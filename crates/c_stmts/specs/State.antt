-- What the statements of a function are read under, and what they change.
use Rattle.std.specs.Prelude.{ℕ, ◌+◌, Bool, true, false, not, List, [], ◌∷◌, ◌++◌, length, map, ◌==◌, is_some, Option, Some, None, Result, nat_le}
use Rattle.std.specs.Prelude.{if◌then◌else◌}
use Rattle.std.specs.List.{list_any}
use Rattle.c_types.specs.Types.{Ty, LayoutT}
use Rattle.c_types.specs.Typed.{TExprT, TInitT, TVarT, TArmT, CaseB, DefaultB, StmtB}
use Rattle.c_types.specs.Sizes.{words_of}
use Rattle.c_rules.specs.declared.code.Code.{Code}
use Rattle.c_rules.specs.declared.code.Code.TheVariants.{Twice, InfiniteType, TooLarge}
use Rattle.c_types.specs.Kinds.{is_void}
use Rattle.c_rules.specs.Kinds.{is_condition}
use Rattle.c_rules.specs.Sizes.{is_whole}
use Rattle.c_rules.specs.Rules.{Rule, demand, judged}
use Rattle.c_rules.specs.Nodes.{given}
use Rattle.c_exprs.specs.Env.{Text, find, LocalD, Decl, Ctx}
use Rattle.c_exprs.specs.Calls.{ensured}
use Rattle.c_exprs.specs.Nodes.{type_of_typed}

abbrev pub Scope : Type 0
Scope = List (Text × LocalD)

-- what all statements of a function are read under; `gives` is the type of its result
pub record Fn : Type 0 where
  pub layouts : List LayoutT
  pub whole : List Bool
  pub names : List (Text × Decl)
  pub bodies : List (Text × ℕ)
  pub gives : Ty

-- What a statement changes: the open scopes, the innermost last; the sizes of the call's objects, by their numbers; the words of those that
-- are variables, not parameters; the texts.
pub record St : Type 0 where
  pub scopes : List Scope
  pub sizes : List ℕ
  pub used : ℕ
  pub texts : List Text

abbrev pub under : Fn → List Scope → Ctx
under f ss = record { layouts = f.layouts; whole = f.whole; names = f.names; bodies = f.bodies; scopes = ss }

abbrev pub with_texts : St → List Text → St
with_texts st ts = record { scopes = st.scopes; sizes = st.sizes; used = st.used; texts = ts }

-- ---- scopes

unfoldable pub innermost : List Scope → Scope
innermost [] = []
innermost (s ∷ []) = s
innermost (s ∷ t ∷ ss) = innermost (t ∷ ss)

unfoldable pub closed : List Scope → List Scope
closed [] = []
closed (s ∷ []) = []
closed (s ∷ t ∷ ss) = s ∷ closed (t ∷ ss)

abbrev pub declare : Text → LocalD → List Scope → List Scope
declare n l ss = closed ss ++ (innermost ss ++ (n, l) ∷ []) ∷ []

abbrev pub opened : St → St
opened st = record { scopes = st.scopes ++ [] ∷ []; sizes = st.sizes; used = st.used; texts = st.texts }

abbrev pub left : St → St
left st = record { scopes = closed st.scopes; sizes = st.sizes; used = st.used; texts = st.texts }

-- the numbers of the objects of the innermost scope, in the order of their declarations
abbrev pub made : St → List ℕ
made st = map (λ e. e.1.number) (innermost st.scopes)

-- ---- variables

abbrev pub is_new : Text → St → Bool
is_new n st = not (is_some (find n (innermost st.scopes)))

-- The name is the next object from here on; a name that its scope has already keeps its meaning.
unfoldable pub entered : Text → Ty → St → St
entered n ty st = if is_new n st then record {
  scopes = declare n (record { number = length st.sizes; ty = ty }) st.scopes;
  sizes = st.sizes;
  used = st.used;
  texts = st.texts;
} else st

-- An object: its size, where with those before it there are at most so many words.
unfoldable pub object_rule : List LayoutT → List Bool → ℕ → ℕ → Ty → Rule ℕ
object_rule layouts whole limit used ty = record {
  gives = given (not (is_void ty)) (words_of layouts ty);
  demands = demand InfiniteType (is_whole whole ty) ∷ demand TooLarge (nat_le (used + words_of layouts ty) limit) ∷ [];
}

-- the words that the variables of one function may have
abbrev pub locals_limit : ℕ
locals_limit = 1000000

unfoldable pub object_size : List LayoutT → List Bool → ℕ → ℕ → Bool → Ty → Result ℕ Code
object_size layouts whole limit used fresh ty = ensured Twice fresh (judged (object_rule layouts whole limit used ty))

abbrev pub sized : ℕ → St → St
sized n st = record { scopes = st.scopes; sizes = st.sizes ++ n ∷ []; used = st.used + n; texts = st.texts }

-- a variable without an initialiser is no part of the typed tree
abbrev pub filled_var : Bool → ℕ → Ty → Option TInitT → List TVarT
filled_var global object ty None = []
filled_var global object ty (Some i) = record { global = global; object = object; ty = ty; init = i } ∷ []

-- ---- loops and switches

abbrev pub is_condition_of : TExprT → Bool
is_condition_of x = is_condition (type_of_typed x)

-- a missing condition holds
abbrev pub is_test : Option TExprT → Bool
is_test None = true
is_test (Some x) = is_condition_of x

-- the labels of a switch so far
pub record Labels : Type 0 where
  pub cases : List ℕ
  pub has_default : Bool

abbrev pub no_labels : Labels
no_labels = record { cases = []; has_default = false }

abbrev pub is_case : ℕ → Labels → Bool
is_case k seen = list_any (λ j. k == j) seen.cases

abbrev pub with_label : Labels → TArmT → Labels
with_label seen (CaseB k) = record { cases = seen.cases ++ k ∷ []; has_default = seen.has_default }
with_label seen DefaultB = record { cases = seen.cases; has_default = true }
with_label seen (StmtB s) = seen
