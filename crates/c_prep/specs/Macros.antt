-- Macros in the order of their definitions, and what a token stands for: itself, or the tokens of its macro, expanded
-- in turn, a name never inside its own expansion. Each token of an expansion is the kind of a token of the macro at
-- the place of the token in the text that was replaced.
use Rattle.std.specs.Prelude.{ℕ, zero, suc, ◌+◌, List, [], ◌∷◌, ◌++◌, length, Option, Some, None, Result, Ok, Err, nat_lt, bytes_eq, if◌then◌else◌}
use Rattle.std.specs.List.{list_any}
use Rattle.std.specs.Map.{lookup, remove_entry}
use Rattle.c_lex.specs.declared.token.Kind.{Kind}
use Rattle.c_lex.specs.declared.token.Token.{Token}
use Rattle.c_prep.specs.declared.error.Fault.TheVariants.{TooManyTokens, Redefined}
use Rattle.c_prep.specs.declared.error.FaultAt.{FaultAt}
use Rattle.c_prep.specs.Faults.{◌>>=◌, fault_at}
use Rattle.c_prep.specs.Kinds.{same_kinds, word_in}

abbrev pub Table : Type 0
Table = List (List ℕ × List Kind)

-- what a macro of that name stands for
abbrev pub body_of : Table → List ℕ → Option (List Kind)
body_of table name = lookup (bytes_eq name) table

-- A macro that is defined again with the same tokens stays; with others it is a fault.
abbrev pub defined_by : Option (List Kind) → Token → List ℕ → List Kind → Table → Result Table FaultAt
defined_by None hash name body table = Ok (table ++ (name, body) ∷ [])
defined_by (Some old) hash name body table = if same_kinds old body then Ok table else Err (fault_at Redefined hash)

abbrev pub defined : Token → List ℕ → List Kind → Table → Result Table FaultAt
defined hash name body table = defined_by (body_of table name) hash name body table

abbrev pub undefined : List ℕ → Table → Table
undefined name table = remove_entry (bytes_eq name) table

-- The tokens so far, and how many names were replaced.
pub record Put : Type 0 where
  pub tokens : List Token
  pub replaced : ℕ

-- one token more, at that place; a call puts at most 200,000
abbrev pub emitted : Token → Kind → Put → Result Put FaultAt
emitted at kind o =
    if nat_lt (length o.tokens) 200000 then Ok (record o { tokens = o.tokens ++ (record at { kind = kind }) ∷ [] }) else Err (fault_at TooManyTokens at)

-- one name more is replaced; a call replaces at most 1,000,000
abbrev pub counted : Token → Put → Result Put FaultAt
counted at o = if nat_lt o.replaced 1000000 then Ok (record o { replaced = o.replaced + 1 }) else Err (fault_at TooManyTokens at)

pub record Macro : Type 0 where
  pub name : List ℕ
  pub body : List Kind

-- the macro of that name, unless one is inside its expansion
abbrev pub visible : Option (List Kind) → List (List ℕ) → List ℕ → Option Macro
visible None inside name = None
visible (Some body) inside name = if list_any (bytes_eq name) inside then None else Some (record { name = name; body = body })

abbrev pub macro_at : Option (List ℕ) → Table → List (List ℕ) → Option Macro
macro_at None table inside = None
macro_at (Some name) table inside = visible (body_of table name) inside name

-- the macro that a token names
unfoldable pub macro_of : Table → List (List ℕ) → Kind → Option Macro
macro_of table inside kind = macro_at (word_in kind) table inside

unfoldable pub each : (Kind → Put → Result Put FaultAt) → List Kind → Put → Result Put FaultAt
each f [] o = Ok o
each f (kind ∷ kinds) o = f kind o >>= each f kinds

abbrev pub by_macro : Option Macro → (Macro → Put → Result Put FaultAt) → Token → Kind → Put → Result Put FaultAt
by_macro None more at kind o = emitted at kind o
by_macro (Some m) more at kind o = counted at o >>= more m

-- room: how many names may still be replaced inside one another, at first the limit on replacements
unfoldable pub stands : ℕ → Table → Token → List (List ℕ) → Kind → Put → Result Put FaultAt
stands zero table at inside kind o = by_macro (macro_of table inside kind) (λ m o'. Err (fault_at TooManyTokens at)) at kind o
stands (suc n) table at inside kind o = by_macro (macro_of table inside kind) (λ m. each (stands n table at (inside ++ m.name ∷ [])) m.body) at kind o

-- what a token of the text stands for
abbrev pub replaced_at : Table → Token → Put → Result Put FaultAt
replaced_at table t o = stands 1000000 table t [] t.kind o

-- what the tokens stand for, one after another
unfoldable pub replaced_in : Table → List Token → Put → Result Put FaultAt
replaced_in table [] o = Ok o
replaced_in table (t ∷ ts) o = replaced_at table t o >>= replaced_in table ts
