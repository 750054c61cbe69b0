-- Why a line is refused, and which line of a text is: the assembly page, "What is refused".
use Rattle.std.specs.Prelude.{◌≡◌, ℕ, ◌+◌, List, ◌∷◌, ◌++◌, length, map}
use Rattle.std.specs.List.{AllZip}
use Rattle.asm_items.specs.declared.item.AsmItem.{AsmItem}
use Rattle.asm_items.specs.declared.vocabulary.Operation.{Operation}
use Rattle.asm_items.specs.declared.vocabulary.DataWord.TheVariants as d
use Rattle.asm_reader.specs.declared.error.AsmFault.{AsmFault}
use Rattle.asm_reader.specs.declared.fault.LineFault.{LineFault}
use Rattle.asm_reader.specs.declared.fault.LineFault.TheVariants.{BadLine, NoSuchForm, FloatInstruction, NumberTooLarge}
use Rattle.asm_reader.specs.declared.token.Token.{Token}
use Rattle.asm_reader.specs.declared.token.Token.TheVariants as t
use Rattle.asm_reader.specs.declared.value.Written.{Written}
use Rattle.asm_reader.specs.Faults.{code_of}
use Rattle.asm_reader.specs.Grammar.{IsParted}
use Rattle.asm_reader.specs.Reading.{is_newline}
use Rattle.asm_grammar.specs.Classes.{zeroed, IsOutOfRange, IsNoForm}
use Rattle.asm_grammar.specs.Spelled.{IsLineText}
use Rattle.asm_grammar.specs.Statements.{AreParted, AreOperands, IsWordOf, IsLine}
use Rattle.asm_grammar.specs.Texts.{SpellsItems}

-- 62: the mnemonic of a float instruction stands behind a colon that stands second, or first where no colon does; whatever else is wrong in the line
pub data IsFloatLine (tokens : List Token) : Type 0 where
  first : (more : List Token) → tokens ≡ t.Float ∷ more → ((rest : List Token) → more ≡ t.Colon ∷ rest → ⊥) → IsFloatLine tokens
  behind : (x : Token) (more : List Token) → tokens ≡ x ∷ t.Colon ∷ t.Float ∷ more → IsFloatLine tokens

-- each is a number in the range of words
pub record HasWords (xs : List Written) : Type 0 where
  pub words : List ℕ
  pub each : AllZip IsWordOf xs words

-- 63: the range of a number alone is at fault, of an operation's, or of `integer n, n`
pub data IsTooLarge (tokens : List Token) : Type 0 where
  operation : (o : Operation) (rest : List Token) (xs : List Written) → tokens ≡ t.Operation o ∷ rest → AreOperands rest xs → IsOutOfRange o xs
      → IsTooLarge tokens
  integers : (rest : List Token) (xs : List Written) → tokens ≡ t.Data d.Integers ∷ rest → AreParted rest xs → (HasWords xs → ⊥) → HasWords (map zeroed xs)
      → IsTooLarge tokens

-- 61: a mnemonic and operands that are well formed, which no instruction takes so
pub record IsFormless (tokens : List Token) : Type 0 where
  pub operation : Operation
  pub rest : List Token
  pub xs : List Written
  pub spelled : tokens ≡ t.Operation operation ∷ rest
  pub operands : AreOperands rest xs
  pub no_form : IsNoForm operation xs

-- what stands behind a label and a colon, or alone
pub data IsLineWith (Is : List Token → Type 0) (tokens : List Token) : Type 0 where
  alone : Is tokens → IsLineWith Is tokens
  labelled : (name : List ℕ) (rest : List Token) → tokens ≡ t.Label name ∷ t.Colon ∷ rest → Is rest → IsLineWith Is tokens

-- 60: any other line that has no items
pub record IsOther (tokens : List Token) : Type 0 where
  pub no_items : (items : List AsmItem) → IsLine tokens items → ⊥
  pub no_float : IsFloatLine tokens → ⊥
  pub no_range : IsLineWith IsTooLarge tokens → ⊥
  pub no_form : IsLineWith IsFormless tokens → ⊥

abbrev pub IsOfClass : LineFault → List Token → Type 0
IsOfClass BadLine tokens = IsOther tokens
IsOfClass NoSuchForm tokens = IsLineWith IsFormless tokens
IsOfClass FloatInstruction tokens = IsFloatLine tokens
IsOfClass NumberTooLarge tokens = IsLineWith IsTooLarge tokens

-- the line spells tokens that are of that class
pub record HasFault (line : List ℕ) (fault : LineFault) : Type 0 where
  pub tokens : List Token
  pub spelled : IsLineText line tokens
  pub are : IsOfClass fault tokens

-- The text is refused with a code at a line, counted from 1: those before it have items, and it is of the class of that code.
pub record IsRefused (bytes : List ℕ) (refusal : AsmFault) : Type 0 where
  pub before : List (List ℕ)
  pub line : List ℕ
  pub after : List (List ℕ)
  pub parted : IsParted is_newline 10 bytes (before ++ line ∷ after)
  pub parts : List (List AsmItem)
  pub right : AllZip SpellsItems before parts
  pub number : refusal.at ≡ length before + 1
  pub fault : LineFault
  pub faulty : HasFault line fault
  pub class : refusal.code ≡ code_of fault
