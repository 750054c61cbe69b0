-- What the statuses 0 and 3 say of a run.
use Rattle.std.proofs.Common.{ℕ, ◌≡◌, ◌⊎◌, List, sym, ap, subst, ◌∙◌}
use Rattle.std.specs.Prelude.{Option, Some, None, Ok, IfSome}
use Rattle.kit_base.specs.Held.{Held}
use Rattle.kit_base.specs.Effects.{all_done}
use Rattle.run_core.specs.Ending.{end_text}
use Rattle.run_core.specs.Outputs.{run_outputs}
use Rattle.kit_tools.specs.Work.{Work}
use Rattle.kit_core.specs.Due.{form_due}
use Rattle.kit_tools.specs.Running.{IsRun, RunStands, end_status, game_due, game_end, names_in, run_due}
use Rattle.kit_words.specs.Command.{RunWords, command_of}
use Rattle.kit_core.specs.Outcome.{putting, IsOutcome}
use Rattle.kit_core.specs.Generating.{front_of}
use Rattle.kit_core.proofs.Behind.{plain_ends}
use Rattle.kit_core.proofs.Headlines.{bind_ok, done_at_three}

run_into : (words : RunWords) (m : Held) (status : ℕ) (after : Option Held) (before put : Option (List ℕ)) (work : Work)
    → run_due words m ≡ Ok work → after ≡ all_done work.effects (Some m) → put ≡ putting work.text before → status ≡ work.status → IsRun words m status after before put
run_into words m status after before put work d e p s =
    let g = bind_ok (game_due words m) _ work d in
    let effects : run_outputs (names_in words) g.0.setup g.0.count ≡ work.effects = cc g.2 in
    let text : end_text g.0.lines (game_end g.0) ≡ work.text = cc g.2 in
    let status_same : end_status (game_end g.0) ≡ work.status = cc g.2 in
    record {
      game = g.0;
      is_due = g.1;
      outputs = e ∙ ap (λ es. all_done es (Some m)) (sym effects);
      status_is = s ∙ sym status_same;
      text = p ∙ ap (λ x. putting x before) (sym text);
    }

run_stands : (words : List (List ℕ)) (m : Held) (status : ℕ) (after : Option Held) (before put : Option (List ℕ))
    → IsOutcome words m status after before put → (status ≡ 0) ⊎ (status ≡ 3) → RunStands words m status after before put
run_stands words m status after before put outcome z = λ run named.
    let done = done_at_three _ _ m status after before put (plain_ends (command_of words) m status after before put (ap front_of named) outcome) z in
    let is_due : run_due run m ≡ Ok done.0 = subst (λ o. form_due o m (Ok done.0)) named done.1 in
    run_into run m status after before put done.0 is_due done.2 done.3 done.4

pub run_told : (words : List (List ℕ)) (status : ℕ) (told after : Option Held) (before put : Option (List ℕ))
    → IfSome told (λ m. IsOutcome words m status after before put) → IfSome told (λ m. (status ≡ 0) ⊎ (status ≡ 3) → RunStands words m status after before put)
run_told words status None after before put outcome = tt
run_told words status (Some m) after before put outcome = run_stands words m status after before put outcome
