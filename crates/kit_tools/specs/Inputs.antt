-- What the files that a command names are due, each by its kind: it is read, then tested by its grammar.
use Rattle.std.specs.Prelude.{ℕ, List, [], ◌==◌, length, Option, Some, None, Result, Ok, Err, if◌then◌else◌}
use Rattle.kit_base.specs.Held.{Held}
use Rattle.kit_base.specs.Outside.{due}
use Rattle.kit_base.specs.declared.outside.FileErr.{FileErr}
use Rattle.kit_base.specs.declared.outside.FileErr.TheVariants as file_errors
use Rattle.kit_base.specs.declared.failure.Failure.TheVariants as failures
use Rattle.cart_format.specs.declared.error.CartFault.{CartFault}
use Rattle.cart_format.specs.declared.error.CartFault.TheVariants as cart_faults
use Rattle.asset_pack.specs.Words.{words_of}
use Rattle.cart_format.specs.Cartridge.{Cartridge}
use Rattle.cart_format.specs.Reading.{cart_of}
use Rattle.line_text.specs.Lines.{lines_of}
use Rattle.line_text.specs.Reading.{read_from}
use Rattle.run_files.specs.Answers.{answer_step}
use Rattle.kit_tools.specs.Refusal.{Refusal}
use Rattle.kit_tools.specs.declared.refusal.RefusalCause.TheVariants as refusals
use Rattle.kit_tools.specs.declared.refusal.DueRefusal.TheVariants as dues

infixl 10 ◌>>=◌
abbrev pub ◌>>=◌ : {A B : Type 0} → Result A Refusal → (A → Result B Refusal) → Result B Refusal
(Ok x) >>= f = f x
(Err e) >>= f = Err e

abbrev pub or_refused : {T E : Type 0} → (E → Refusal) → Result T E → Result T Refusal
or_refused f (Ok x) = Ok x
or_refused f (Err e) = Err (f e)

-- the refusal of a read of that file
abbrev pub unread : List ℕ → FileErr → Refusal
unread name file_errors.Missing = failures.Cause (refusals.Due (dues.Missing name))
unread name file_errors.Failed = failures.Cause (refusals.Failed name)
unread name file_errors.TooLong = failures.Cause (refusals.Due (dues.Limit name))
unread name file_errors.Memory = failures.Memory

-- the refusal of a file that is no cartridge
abbrev pub no_cart : List ℕ → CartFault → Refusal
no_cart name (cart_faults.At code) = failures.Cause (refusals.Due (dues.Bad code name None))
no_cart name (cart_faults.BadSection index) = failures.Cause (refusals.Due (dues.Bad 83 name None))

-- the bytes of the file
abbrev pub bytes_due : List ℕ → Held → Result (List ℕ) Refusal
bytes_due name held = or_refused (unread name) (due held name)

-- the cartridge of the file
abbrev pub cart_due : List ℕ → Held → Result Cartridge Refusal
cart_due name held = do
  bytes ← bytes_due name held
  or_refused (no_cart name) (cart_of bytes)

-- the refusal of a list of answers, by its code and its first faulty line
abbrev pub no_answers : List ℕ → ℕ × ℕ → Refusal
no_answers name (code, line) = failures.Cause (refusals.Due (dues.Bad code name (Some line)))

-- the answers of the file, one word per line
abbrev pub answers_due : List ℕ → Held → Result (List ℕ) Refusal
answers_due name held = do
  bytes ← bytes_due name held
  or_refused (no_answers name) (read_from answer_step 1 [] (lines_of bytes))

-- a card is 262,144 words, and nothing else
abbrev pub card_in : List ℕ → List ℕ → Result (List ℕ) Refusal
card_in name bytes = if length bytes == 1048576 then Ok (words_of bytes) else Err (failures.Cause (refusals.Due (dues.Bad 110 name None)))

-- the words of the card file, where there is one
abbrev pub card_due : Option (List ℕ) → Held → Result (Option (List ℕ)) Refusal
card_due None held = Ok None
card_due (Some name) held = do
  bytes ← bytes_due name held
  words ← card_in name bytes
  Ok (Some words)
