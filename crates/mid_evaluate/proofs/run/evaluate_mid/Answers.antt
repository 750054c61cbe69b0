use Rattle.std.proofs.Common.{◌≡◌, IfOk, option_map, ℕ, List, subst}
use Rattle.std.specs.Prelude.{Option}
use Rattle.mid_code.specs.Code.{CodeT}
use Rattle.mid_code.specs.Runs.{mid_runs}
use Rattle.mid_code.specs.View.{code}
use Rattle.mid_evaluate.specs.View.{run}
use Rattle.mid_evaluate.proofs.run.evaluate_mid.Goals as goal

pub returns : goal.returns
returns c =
    let card : Option (List ℕ) = option_map (λ w. w.now) c.args.card in
    subst (λ (x : CodeT ℕ). IfOk c.run_code.result (λ r. run r ≡ mid_runs x c.args.frames.now.sizes c.args.bound c.args.answers.now card)) c.code.ensures.code
    (subst (λ (fs : List ℕ). IfOk c.run_code.result (λ r. run r ≡ mid_runs (code c.code.result.now) fs c.args.bound c.args.answers.now card)) c.as_slice.ensures c.run_code.ensures)
