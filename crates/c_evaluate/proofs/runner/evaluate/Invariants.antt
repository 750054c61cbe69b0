use Rattle.std.proofs.Common.{◌≡◌, ◌++◌, length, option_map}
use Rattle.c_check.specs.View.{program}
use Rattle.c_evaluate.specs.Evaluation.{Left, run_of}
use Rattle.c_evaluate.proofs.runner.evaluate.Given as goal

abbrev pub decreases-events : goal.decreases-events
decreases-events l = length l.runner.left.events

-- the port operations so far, and then those that are left, are the run's
abbrev pub invariant-events : goal.invariant-events
invariant-events l =
    let run : Left = run_of (program l.fn.p) l.fn.f.sizes l.fn.bound l.fn.answers (option_map (λ w. w.now) l.fn.card) in
    (run.events ≡ l.events.items ++ l.runner.left.events) × (run.end ≡ l.runner.left.end)
