-- A status 0 of a trace says that its text was put.
use Rattle.std.proofs.Common.{ℕ, ◌≡◌, ◌≤◌, Bool, true, false, List, [], refl, sym, ap, subst, ◌∙◌, arith}
use Rattle.std.specs.Prelude.{Option, Some, None, Ok, Err, IfSome, nat_lt, if◌then◌else◌}
use Rattle.kit_base.specs.Held.{Held}
use Rattle.kit_base.specs.Effects.{all_done}
use Rattle.kit_base.specs.declared.failure.Failure.TheVariants as failures
use Rattle.v32_isa.specs.Runs.{machine_runs}
use Rattle.trace_core.specs.Texts.{run_text}
use Rattle.kit_tools.specs.declared.refusal.DueRefusal.TheVariants as dues
use Rattle.kit_tools.specs.declared.refusal.RefusalCause.TheVariants as refusals
use Rattle.kit_tools.specs.Inputs.{cart_due, answers_due, card_due}
use Rattle.kit_tools.specs.Tracing.{steps_due, traced_due, IsTraced, TraceStands, trace_due}
use Rattle.kit_words.specs.Number.{number_of}
use Rattle.kit_tools.specs.Work.{Work}
use Rattle.kit_core.specs.Due.{form_due}
use Rattle.kit_core.specs.Outcome.{putting, IsOutcome}
use Rattle.kit_words.specs.Command.{command_of}
use Rattle.kit_core.specs.Generating.{front_of}
use Rattle.kit_core.proofs.Behind.{plain_ends}
use Rattle.kit_core.proofs.Headlines.{bind_ok, done_at_zero}

within_by : (n : ℕ) (over : Bool) (word : List ℕ) (count : ℕ) → nat_lt 10000000 n ≡ over → (if over then Err (failures.Cause (refusals.Due (dues.OutOfRange word))) else Ok n) ≡ Ok count → (n ≤ 10000000) × (count ≡ n)
within_by n true word count e h = cc
within_by n false word count e h = (grind arith, cc h)

steps_ok : (word : List ℕ) (count : ℕ) → steps_due word ≡ Ok count → (number_of word ≤ 10000000) × (count ≡ number_of word)
steps_ok word count h = within_by (number_of word) (nat_lt 10000000 (number_of word)) word count refl h

traced_into : (cart answers : List ℕ) (card : Option (List ℕ)) (steps : List ℕ) (m : Held) (after : Option Held) (before put : Option (List ℕ)) (work : Work)
    → trace_due cart answers card steps m ≡ Ok work → after ≡ all_done work.effects (Some m) → put ≡ putting work.text before → IsTraced cart answers card steps m after before put
traced_into cart answers card steps m after before put work d e p =
    let t = bind_ok (traced_due cart answers card steps m) _ work d in
    let a = bind_ok (cart_due cart m) _ t.0 t.1 in
    let b = bind_ok (answers_due answers m) _ t.0 a.2 in
    let w = bind_ok (card_due card m) _ t.0 b.2 in
    let n = bind_ok (steps_due steps) _ t.0 w.2 in
    let s = steps_ok steps n.0 n.1 in
    let text : run_text (machine_runs a.0.program b.0 w.0 n.0) ≡ t.0 = cc n.2 in
    let same : t.0 ≡ work.text = cc t.2 in
    let none : [] ≡ work.effects = cc t.2 in
    record {
      value = a.0;
      list = b.0;
      words = w.0;
      cart_is = a.1;
      answers_are = b.1;
      card_is = w.1;
      within = s.0;
      files = e ∙ ap (λ es. all_done es (Some m)) (sym none);
      text = p ∙ ap (λ x. putting x before) (sym same ∙ sym text ∙ ap (λ k. run_text (machine_runs a.0.program b.0 w.0 k)) s.1);
    }

trace_stands : (words : List (List ℕ)) (m : Held) (status : ℕ) (after : Option Held) (before put : Option (List ℕ))
    → IsOutcome words m status after before put → status ≡ 0 → TraceStands words m after before put
trace_stands words m status after before put outcome z = λ cart answers card steps named.
    let done = done_at_zero _ _ m status after before put (plain_ends (command_of words) m status after before put (ap front_of named) outcome) z in
    let is_due : trace_due cart answers card steps m ≡ Ok done.0 = subst (λ o. form_due o m (Ok done.0)) named done.1 in
    traced_into cart answers card steps m after before put done.0 is_due done.2 done.3

pub trace_told : (words : List (List ℕ)) (status : ℕ) (told after : Option Held) (before put : Option (List ℕ))
    → IfSome told (λ m. IsOutcome words m status after before put) → IfSome told (λ m. status ≡ 0 → TraceStands words m after before put)
trace_told words status None after before put outcome = tt
trace_told words status (Some m) after before put outcome = trace_stands words m status after before put outcome
