-- What calls of the evaluator answer.
use Rattle.std.specs.Prelude.{◌≡◌, ℕ, Result, Ok, Err}
use Rattle.mid_code.specs.Meaning.{Did, On, Ends, Res, Next, Leaves, Repeats, Returns, Over}
use Rattle.mid_code.specs.States as states
use Rattle.kit_base.specs.declared.failure.Failure.{Failure}
use Rattle.kit_base.specs.declared.failure.Failure.TheVariants as failure
use Rattle.mid_evaluate.specs.declared.answer.Ending.{Ending}
use Rattle.mid_evaluate.specs.declared.flow.Flow.{Flow}
use Rattle.mid_evaluate.specs.declared.flow.Flow.TheVariants as flow
use Rattle.mid_evaluate.specs.View.{ending}

abbrev pub S : Type 0
S = states.State ℕ

abbrev pub Stop : Type 0
Stop = Failure Ending

-- how code went on, in a state
abbrev pub went : Flow → S → Res S
went flow.Next s = Next s
went (flow.Leaves k) s = Leaves k s
went (flow.Repeats k) s = Repeats k s
went flow.Returns s = Returns s

abbrev pub StopsIn : Stop → S → Did S → Type 0
StopsIn failure.Memory s due = Unit {0}
StopsIn (failure.Cause end) s due = due ≡ Ends (ending end) s

-- What is due was done, and this is the state then, unless memory ran out.
abbrev pub Does : {A : Type 0} → Result A Stop → S → Did S → Type 0
Does (Ok x) s due = due ≡ On s
Does (Err e) s due = StopsIn e s due

abbrev pub Stops : Stop → S → Res S → Type 0
Stops failure.Memory s due = Unit {0}
Stops (failure.Cause end) s due = due ≡ Over (ending end) s

-- Code came to what is due, and this is the state then, unless memory ran out.
abbrev pub Leads : Result Flow Stop → S → Res S → Type 0
Leads (Ok f) s due = due ≡ went f s
Leads (Err e) s due = Stops e s due
