-- The command `trace`: the text of a run of so many steps, and what a status 0 says of it.
use Rattle.std.specs.Prelude.{ℕ, ◌≡◌, ◌≤◌, List, [], ◌∷◌, ◌++◌, nat_lt, Option, Some, None, option_map, Result, Ok, Err, if◌then◌else◌, Contains}
use Rattle.kit_base.specs.Held.{Held}
use Rattle.kit_base.specs.declared.failure.Failure.TheVariants as failures
use Rattle.v32_isa.specs.Runs.{machine_runs}
use Rattle.cart_format.specs.Cartridge.{Cartridge}
use Rattle.trace_core.specs.Texts.{run_text}
use Rattle.kit_tools.specs.Refusal.{Refusal}
use Rattle.kit_tools.specs.declared.refusal.RefusalCause.TheVariants as refusals
use Rattle.kit_tools.specs.declared.refusal.DueRefusal.TheVariants as dues
use Rattle.kit_words.specs.Command.{Trace, command_of}
use Rattle.kit_words.specs.Number.{number_of}
use Rattle.kit_tools.specs.Inputs.{◌>>=◌, cart_due, answers_due, card_due}
use Rattle.kit_tools.specs.Work.{Work}

-- a run has at most 10,000,000 steps
abbrev pub steps_due : List ℕ → Result ℕ Refusal
steps_due word = if nat_lt 10000000 (number_of word) then Err (failures.Cause (refusals.Due (dues.OutOfRange word))) else Ok (number_of word)

-- the text of the run: the cartridge's program on these answers, with that card
abbrev pub traced_due : (cart answers : List ℕ) (card : Option (List ℕ)) (steps : List ℕ) → Held → Result (List ℕ) Refusal
traced_due cart answers card steps held = do
  read ← cart_due cart held
  list ← answers_due answers held
  words ← card_due card held
  count ← steps_due steps
  Ok (run_text (machine_runs read.program list words count))

abbrev pub card_names : Option (List ℕ) → List (List ℕ)
card_names None = []
card_names (Some name) = name ∷ []

-- A file that a trace reads: those before it in the order were read and are of their grammar.
pub data IsReadToTrace (cart answers : List ℕ) (card : Option (List ℕ)) (held : Held) (name : List ℕ) : Type 0 where
  reads_cart : name ≡ cart → IsReadToTrace cart answers card held name
  reads_answers : (value : Cartridge) → cart_due cart held ≡ Ok value → name ≡ answers → IsReadToTrace cart answers card held name
  reads_card : (value : Cartridge) (list : List ℕ) → cart_due cart held ≡ Ok value → answers_due answers held ≡ Ok list → Contains (card_names card) name
      → IsReadToTrace cart answers card held name

-- nothing is created; the text is that of the run
abbrev pub trace_due : (cart answers : List ℕ) (card : Option (List ℕ)) (steps : List ℕ) → Held → Result Work Refusal
trace_due cart answers card steps held = do
  text ← traced_due cart answers card steps held
  Ok (record { effects = []; text = text; status = 0 })

-- All files were as they should, no file was changed, and the text of the run was put: a line for
-- each port operation and one for the end.
pub record IsTraced (cart answers : List ℕ) (card : Option (List ℕ)) (steps : List ℕ) (held : Held) (after : Option Held)
    (before put : Option (List ℕ)) : Type 0 where
  pub value : Cartridge
  pub list : List ℕ
  pub words : Option (List ℕ)
  pub cart_is : cart_due cart held ≡ Ok value
  pub answers_are : answers_due answers held ≡ Ok list
  pub card_is : card_due card held ≡ Ok words
  pub within : number_of steps ≤ 10000000
  pub files : after ≡ Some held
  pub text : put ≡ option_map (λ bytes. bytes ++ run_text (machine_runs value.program list words (number_of steps))) before

-- where the words are a trace, it was put
abbrev pub TraceStands : List (List ℕ) → Held → Option Held → (before put : Option (List ℕ)) → Type 0
TraceStands words held after before put =
    (cart answers : List ℕ) (card : Option (List ℕ)) (steps : List ℕ) → command_of words ≡ Some (Trace cart answers card steps)
    → IsTraced cart answers card steps held after before put
