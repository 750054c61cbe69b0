-- Directives: `#include "name"`, `#define NAME tokens`, `#undef NAME`, `#ifdef NAME`, `#ifndef NAME`, `#else`, `#endif` and
-- `#error tokens`, where NAME is a word that is no keyword. A line that begins with `#` and is none of these is bad.
use Rattle.std.specs.Prelude.{ℕ, List, [], ◌∷◌, codes, Bool, Option, Some, None, if◌then◌else◌, bytes_eq}
use Rattle.std.specs.List.{list_any}
use Rattle.std.specs.Str.{is_utf8}
use Rattle.c_lex.specs.declared.token.Kind.{Kind}
use Rattle.c_lex.specs.declared.token.Kind.TheVariants as k
use Rattle.c_lex.specs.declared.token.Token.{Token}
use Rattle.c_prep.specs.declared.directive.Class.{Class}
use Rattle.c_prep.specs.declared.directive.Class.TheVariants as c
use Rattle.c_prep.specs.Kinds.{kinds_of}
use Rattle.c_prep.specs.Lines.{begins_directive}

pub data Directive : Type 0 where
  Include : (name : List ℕ) → Directive
  Define : (name : List ℕ) (body : List Kind) → Directive
  Undef : (name : List ℕ) → Directive
  IfDef : (name : List ℕ) → Directive
  IfNotDef : (name : List ℕ) → Directive
  Else : Directive
  EndIf : Directive
  Error : Directive
  Bad : Directive

unfoldable pub keywords : List (List ℕ)
keywords =
    codes "int" ∷ codes "bool" ∷ codes "void" ∷ codes "struct" ∷ codes "union" ∷ codes "enum" ∷ codes "typedef" ∷ codes "if" ∷ codes "else" ∷ codes "while" ∷
    codes "do" ∷ codes "for" ∷ codes "switch" ∷ codes "case" ∷ codes "default" ∷ codes "return" ∷ codes "break" ∷ codes "continue" ∷ codes "sizeof" ∷
    codes "true" ∷ codes "false" ∷ codes "NULL" ∷ []

unfoldable pub is_keyword : List ℕ → Bool
is_keyword word = list_any (bytes_eq word) keywords

-- the words of the directives
unfoldable pub classes : List (List ℕ × Class)
classes =
    (codes "include", c.Include) ∷ (codes "define", c.Define) ∷ (codes "undef", c.Undef) ∷ (codes "ifdef", c.IfDef) ∷
    (codes "ifndef", c.IfNotDef) ∷ (codes "else", c.Else) ∷ (codes "endif", c.EndIf) ∷ (codes "error", c.Error) ∷ []

abbrev pub class_in : List ℕ → List (List ℕ × Class) → Option Class
class_in word [] = None
class_in word (e ∷ es) = if bytes_eq word e.0 then Some e.1 else class_in word es

unfoldable pub class_of : List ℕ → Option Class
class_of word = class_in word classes

-- the name of a macro
abbrev pub name_in : Kind → Option (List ℕ)
name_in (k.Word word) = if is_keyword word then None else Some word
name_in _ = None

-- the name of a file, which is UTF-8
abbrev pub text_in : Kind → Option (List ℕ)
text_in (k.Text text) = if is_utf8 text then Some text else None
text_in _ = None

-- the name that exactly one token is
abbrev pub lone : (Kind → Option (List ℕ)) → List Kind → Option (List ℕ)
lone f (kind ∷ []) = f kind
lone f _ = None

abbrev pub by_name : Option (List ℕ) → (List ℕ → Directive) → Directive
by_name (Some name) d = d name
by_name None d = Bad

abbrev pub define_of : List Kind → Directive
define_of [] = Bad
define_of (kind ∷ body) = by_name (name_in kind) (λ name. Define name body)

-- a directive that has nothing behind its word
abbrev pub alone : Directive → List Kind → Directive
alone d [] = d
alone d (kind ∷ kinds) = Bad

abbrev pub of_class : Option Class → List Kind → Directive
of_class (Some c.Include) kinds = by_name (lone text_in kinds) Include
of_class (Some c.Define) kinds = define_of kinds
of_class (Some c.Undef) kinds = by_name (lone name_in kinds) Undef
of_class (Some c.IfDef) kinds = by_name (lone name_in kinds) IfDef
of_class (Some c.IfNotDef) kinds = by_name (lone name_in kinds) IfNotDef
of_class (Some c.Else) kinds = alone Else kinds
of_class (Some c.EndIf) kinds = alone EndIf kinds
of_class (Some c.Error) kinds = Error
of_class None kinds = Bad

-- what stands behind the `#`
abbrev pub directive_of : List Kind → Directive
directive_of (k.Word word ∷ kinds) = of_class (class_of word) kinds
directive_of _ = Bad

-- a line that is a directive, with its `#`
pub record Directed : Type 0 where
  pub hash : Token
  pub directive : Directive

unfoldable pub directive_in : List Token → Option Directed
directive_in [] = None
directive_in (t ∷ ts) = if begins_directive t then Some (record { hash = t; directive = directive_of (kinds_of ts) }) else None
