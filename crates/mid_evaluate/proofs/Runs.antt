-- The run of a whole program.
use Rattle.std.proofs.Common.{◌≡◌, ℕ, List, sym, ap, ◌∙◌}
use Rattle.std.specs.Prelude.{Option}
use Rattle.obj_mem.specs.Runs.{Ending, Run}
use Rattle.mid_code.specs.Code.{CodeT}
use Rattle.mid_code.specs.Runs.{final, main_called, mid_runs, opening, run_of, start_done}
use Rattle.mid_code.specs.States.{temporaries}
use Rattle.mid_evaluate.specs.inner.Answers.{S}
use Rattle.mid_evaluate.specs.inner.Once.{ran}

pub whole : (x : CodeT ℕ) (fs : List ℕ) (n : ℕ) (answers : List ℕ) (card : Option (List ℕ)) (s t : S) (e : Ending) (r : Run) → s ≡ opening x answers card → start_done (ran x fs n x.start.body s) (main_called temporaries x fs n) ≡ final e t.world → r ≡ run_of x (final e t.world) → r ≡ mid_runs x fs n answers card
whole x fs n answers card s t e r o f h = h ∙ ap (run_of x) (sym f ∙ ap (λ u. start_done (ran x fs n x.start.body u) (main_called temporaries x fs n)) o)
