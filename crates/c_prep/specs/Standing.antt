-- What tokens stand for, with no limit: one after another, inside the expansions of these names, a name of a macro is
-- what the macro's tokens stand for inside one name more, and any other token is itself. A name inside its own expansion
-- names no macro (`macro_of`).
use Rattle.std.specs.Prelude.{◌≡◌, ℕ, List, [], ◌∷◌, ◌++◌, map, Some, None}
use Rattle.c_lex.specs.declared.token.Kind.{Kind}
use Rattle.c_lex.specs.declared.token.Token.{Token}
use Rattle.c_prep.specs.Macros.{Table, Macro, macro_of}

pub data Stand (table : Table) : List (List ℕ) → List Kind → List Kind → Type 0 where
  nothing : {inside : List (List ℕ)} {kinds result : List Kind} → kinds ≡ [] → result ≡ [] → Stand table inside kinds result
  itself : {inside : List (List ℕ)} {kinds result : List Kind} → (kind : Kind) (rest others : List Kind)
      → kinds ≡ kind ∷ rest → macro_of table inside kind ≡ None
      → Stand table inside rest others → result ≡ kind ∷ others → Stand table inside kinds result
  expanded : {inside : List (List ℕ)} {kinds result : List Kind} → (kind : Kind) (m : Macro) (rest own others : List Kind)
      → kinds ≡ kind ∷ rest → macro_of table inside kind ≡ Some m
      → Stand table (inside ++ m.name ∷ []) m.body own → Stand table inside rest others → result ≡ own ++ others → Stand table inside kinds result

-- What was put of a token of the text: what it stands for, each at its place.
pub record IsExpansion (table : Table) (t : Token) (before after : List Token) : Type 0 where
  pub kinds : List Kind
  pub stands : Stand table [] (t.kind ∷ []) kinds
  pub put : after ≡ before ++ map (λ kind. record t { kind = kind }) kinds
