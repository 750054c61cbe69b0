use Rattle.std.proofs.Common.{◌≡◌, length, option_map}
use Rattle.c_check.specs.View.{program}
use Rattle.c_meaning.specs.Runs.{final_of}
use Rattle.c_watch.specs.Watching.{watched_by}
use Rattle.c_watch.proofs.Leaving.{watched_left}
use Rattle.c_watch.proofs.watching.watch.Given as goal

abbrev pub decreases-events : goal.decreases-events
decreases-events l = length l.runner.left.events

-- what is left tells the verdict on the whole
abbrev pub invariant-events : goal.invariant-events
invariant-events l =
    watched_left l.left l.fn.goal.ended l.runner.left
    ≡ watched_by l.fn.goal.events l.fn.goal.ended (final_of (program l.fn.p) l.fn.f.sizes l.fn.goal.bound l.fn.answers (option_map (λ w. w.now) l.fn.card))
