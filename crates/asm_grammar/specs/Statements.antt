-- What the tokens of a line are: an optional label, then an operation with its operands, or data, or nothing (the assembly page, "Lines").
use Rattle.std.specs.Prelude.{◌≡◌, ℕ, List, [], ◌∷◌, ◌++◌, map, Some}
use Rattle.std.specs.List.{AllZip}
use Rattle.v32_isa.specs.declared.instruction.Instr.{Instr}
use Rattle.asm_items.specs.Items.{Imm}
use Rattle.asm_items.specs.declared.item.AsmItem.{AsmItem}
use Rattle.asm_items.specs.declared.item.AsmItem.TheVariants as item
use Rattle.asm_items.specs.declared.vocabulary.Operation.{Operation}
use Rattle.asm_items.specs.declared.vocabulary.DataWord.TheVariants as d
use Rattle.asm_reader.specs.declared.token.Token.{Token}
use Rattle.asm_reader.specs.declared.token.Token.TheVariants as t
use Rattle.asm_reader.specs.declared.value.Value.TheVariants.{Number, Label}
use Rattle.asm_reader.specs.declared.value.Written.{Written}
use Rattle.asm_reader.specs.declared.value.Written.TheVariants as w
use Rattle.asm_reader.specs.Forms.{word_of}
use Rattle.asm_reader.specs.Grammar.{IsForm, IsOperand, IsParted}
use Rattle.asm_reader.specs.Operands.{is_comma}

-- operands, parted by commas
pub record AreParted (tokens : List Token) (xs : List Written) : Type 0 where
  pub parts : List (List Token)
  pub parted : IsParted is_comma t.Comma tokens parts
  pub each : AllZip IsOperand parts xs

-- none, or operands parted by commas
pub data AreOperands (tokens : List Token) (xs : List Written) : Type 0 where
  none : tokens ≡ [] → xs ≡ [] → AreOperands tokens xs
  some : AreParted tokens xs → AreOperands tokens xs

-- a number from -2,147,483,648 to 4,294,967,295, as a word
abbrev pub IsWordOf : Written → ℕ → Type 0
IsWordOf (w.Value (Number negative magnitude)) n = word_of negative magnitude ≡ Some n
IsWordOf _ n = ⊥

abbrev pub IsNameOf : Written → List ℕ → Type 0
IsNameOf (w.Value (Label name)) own = name ≡ own
IsNameOf _ own = ⊥

pub data IsStatement (tokens : List Token) (items : List AsmItem) : Type 0 where
  -- nothing
  nothing : tokens ≡ [] → items ≡ [] → IsStatement tokens items
  -- a mnemonic and its operands
  operation : (o : Operation) (rest : List Token) (xs : List Written) (i : Instr Imm) → tokens ≡ t.Operation o ∷ rest → AreOperands rest xs → IsForm o xs i
      → items ≡ item.Op i ∷ [] → IsStatement tokens items
  -- `integer n, n`
  integers : (rest : List Token) (xs : List Written) (words : List ℕ) → tokens ≡ t.Data d.Integers ∷ rest → AreParted rest xs → AllZip IsWordOf xs words
      → items ≡ map item.Integer words → IsStatement tokens items
  -- `pointer label, label`
  pointers : (rest : List Token) (xs : List Written) (names : List (List ℕ)) → tokens ≡ t.Data d.Pointers ∷ rest → AreParted rest xs → AllZip IsNameOf xs names
      → items ≡ map item.Pointer names → IsStatement tokens items
  -- `string "text"`: each byte of the text, and a 0
  text : (content : List ℕ) → tokens ≡ t.Data d.Text ∷ t.Text content ∷ [] → items ≡ map item.Integer content ++ item.Integer 0 ∷ [] → IsStatement tokens items

-- a statement, behind a label and a colon or alone
pub data IsLine (tokens : List Token) (items : List AsmItem) : Type 0 where
  alone : IsStatement tokens items → IsLine tokens items
  labelled : (name : List ℕ) (rest : List Token) (more : List AsmItem) → tokens ≡ t.Label name ∷ t.Colon ∷ rest → items ≡ item.Label name ∷ more
      → IsStatement rest more → IsLine tokens items
