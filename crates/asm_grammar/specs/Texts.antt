-- A whole text: lines between which LF stands, each with its items, in their order.
use Rattle.std.specs.Prelude.{◌≡◌, ℕ, List}
use Rattle.std.specs.List.{AllZip, flat_map}
use Rattle.asm_items.specs.declared.item.AsmItem.{AsmItem}
use Rattle.asm_reader.specs.declared.token.Token.{Token}
use Rattle.asm_reader.specs.Grammar.{IsParted}
use Rattle.asm_reader.specs.Reading.{is_newline}
use Rattle.asm_grammar.specs.Spelled.{IsLineText}
use Rattle.asm_grammar.specs.Statements.{IsLine}

-- the line spells tokens that are these items
pub record SpellsItems (line : List ℕ) (items : List AsmItem) : Type 0 where
  pub tokens : List Token
  pub spelled : IsLineText line tokens
  pub are : IsLine tokens items

pub record IsText (bytes : List ℕ) (items : List AsmItem) : Type 0 where
  pub lines : List (List ℕ)
  pub parted : IsParted is_newline 10 bytes lines
  pub parts : List (List AsmItem)
  pub each : AllZip SpellsItems lines parts
  pub whole : items ≡ flat_map (λ part. part) parts
