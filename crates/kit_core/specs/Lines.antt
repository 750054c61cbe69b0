-- What is put at each status, whatever is told of the files.
use Rattle.std.specs.Prelude.{ℕ, ◌≡◌, ◌⊎◌, List, ◌++◌, take, Option}
use Rattle.kit_base.specs.Counts.{Counts}
use Rattle.kit_base.specs.SourceCodes.{HasSourceCause}
use Rattle.kit_base.specs.declared.failure.Failure.TheVariants as failures
use Rattle.kit_tools.specs.declared.refusal.DueRefusal.TheVariants as dues
use Rattle.kit_tools.specs.declared.shown.Shown.{Shown}
use Rattle.kit_tools.specs.Carrying.{shown_status, text_of}
use Rattle.kit_tools.specs.Refusal.{Refusal, due_line, line_of, status_of}
use Rattle.kit_core.specs.Outcome.{putting}

-- the text of a command that was carried out, or the line of a refusal
abbrev pub IsToPut : List ℕ → Type 0
IsToPut whole = ((shown : Shown) × (whole ≡ text_of shown)) ⊎ ((refusal : Refusal) × (whole ≡ line_of refusal))

-- Behind what was put before stands, at 0 and 3, the text of a command that was carried out and has that status; at 1, 2 and 4 to 8 the line of a
-- refusal that has it; or at 8 and 9 a front of such a text or line, and then a front of the line of 8.
pub data IsPut (status : ℕ) (before put : Option (List ℕ)) : Type 0 where
  Text : (shown : Shown) → status ≡ shown_status shown → put ≡ putting (text_of shown) before → IsPut status before put
  Line : (refusal : Refusal) → status ≡ status_of refusal → put ≡ putting (line_of refusal) before → IsPut status before put
  Front : (status ≡ 8) ⊎ (status ≡ 9) → (whole : List ℕ) → IsToPut whole → (count line_count : ℕ)
      → put ≡ putting (take count whole ++ take line_count (line_of failures.Memory)) before → IsPut status before put

-- the line of a source's refusal, with its file, its line and a listed code, which is 21 only where a name was missing
pub record PutsSource (before after : Counts) (was put : Option (List ℕ)) : Type 0 where
  pub code : ℕ
  pub file : List ℕ
  pub line : ℕ
  pub cause : HasSourceCause code before after
  pub text : put ≡ putting (due_line (dues.Source code file line)) was
