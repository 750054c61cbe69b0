-- Placed code among its words.
use Rattle.std.specs.Prelude.{ℕ, ◌+◌, ◌<◌, ◌≤◌, Bool, List, length}
use Rattle.mid_code.specs.Placed.{PlacedT}
use Rattle.mid_code.specs.Invariants.{IsPlaced}
use Rattle.asm_laws.specs.Operations.{literals_items}
use Rattle.asm_laws.specs.Standing.{Stand}
use Rattle.asm_laws.specs.Linked.{setting}
use Rattle.asm_laws.specs.Program.{ProgramAt}
use Rattle.asm_laws.specs.Tables.{count_of, plan_of}

-- The program stands among the words, with the functions' bodies beginning and ending at these addresses, and the literals last.
pub record PlacedAt (x : PlacedT) (names : List (List ℕ)) (address : List ℕ → ℕ) (enters leaves : ℕ → ℕ) (first_literal : ℕ) (words : List ℕ) : Type 0 where
  pub placed : IsPlaced x
  pub program : (has_card : Bool) → ProgramAt (setting (plan_of x names address enters leaves first_literal) words has_card) (count_of x)
  pub from : 0x20000000 ≤ first_literal
  pub literals : Stand words address first_literal (literals_items 0 x.code.literals) (0x20000000 + length words)
  pub short : length words < 0x10000000
