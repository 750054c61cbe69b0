use Rattle.std.proofs.Common.{option_map, ap, ◌∙◌}
use Rattle.c_check.specs.View.{program}
use Rattle.c_evaluate.specs.Evaluation.{run_of}
use Rattle.c_evaluate.proofs.runner.Runner.new.Goals as goal

pub returns-clause-whole : goal.returns-clause-whole
returns-clause-whole c = c.in_ok-machine.ensures ∙ ap (λ fs. run_of (program c.args.p.now) fs c.args.bound c.args.answers.now (option_map (λ w. w.now) c.args.card)) c.as_slice-frames.ensures
