-- Kinds of tokens, compared by what they are and by their values.
use Rattle.std.specs.Prelude.{ℕ, List, [], ◌∷◌, map, Bool, true, false, ◌&&◌, ◌==◌, bytes_eq, Option, Some, None}
use denote.Enum.Bare.{sameb}
use Rattle.c_lex.specs.contracts.token.Punct.{the_type}
use Rattle.c_lex.specs.declared.token.Punct.{Punct}
use Rattle.c_lex.specs.declared.token.Kind.{Kind}
use Rattle.c_lex.specs.declared.token.Kind.TheVariants as k
use Rattle.c_lex.specs.declared.token.Token.{Token}

abbrev pub kinds_of : List Token → List Kind
kinds_of tokens = map (λ t. t.kind) tokens

-- whether two marks are one
unfoldable pub same_punct : Punct → Punct → Bool
same_punct = sameb the_type

abbrev pub same_kind : Kind → Kind → Bool
same_kind (k.Word a) (k.Word b) = bytes_eq a b
same_kind (k.Number a) (k.Number b) = a == b
same_kind (k.Char a) (k.Char b) = a == b
same_kind (k.Text a) (k.Text b) = bytes_eq a b
same_kind (k.Punct a) (k.Punct b) = same_punct a b
same_kind _ _ = false

unfoldable pub same_kinds : List Kind → List Kind → Bool
same_kinds [] [] = true
same_kinds (a ∷ as') (b ∷ bs) = same_kind a b && same_kinds as' bs
same_kinds _ _ = false

abbrev pub word_in : Kind → Option (List ℕ)
word_in (k.Word name) = Some name
word_in _ = None
