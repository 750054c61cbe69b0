use Rattle.std.proofs.Common.{ℕ, List, ◌∷◌, option_map, sym, ap, ◌∙◌}
use Rattle.c_types.specs.Typed.{TStmtT}
use Rattle.c_types.specs.View.{tstmts}
use Rattle.c_check.specs.View.{program}
use Rattle.obj_mem.specs.declared.cell.Cell.TheVariants.{Unwritten}
use Rattle.obj_mem.specs.Stores.{Store}
use Rattle.c_evaluate.specs.inner.FocusView.{at, stack_of}
use Rattle.c_evaluate.specs.inner.StoreView.{store_of}
use Rattle.c_evaluate.specs.inner.Machine.{FrameT, MainW, Config}
use Rattle.c_evaluate.specs.inner.Steps.{rest_of}
use Rattle.c_evaluate.proofs.Opened.{first_run}
use Rattle.c_evaluate.proofs.Stacks.{none_left}
use Rattle.c_evaluate.proofs.opening.begun.Goals as goal

pub returns : goal.returns
returns c =
    let u : Store = store_of c.in_ok-store.store in
    let list : List TStmtT → ℕ → List FrameT → Config = λ xs main k. rest_of c.args.bound Unwritten (tstmts xs) (MainW c.args.bound main ∷ k) u in
    let p = program c.args.p.now in
    first_run p c.args.frames.now c.args.bound c.args.answers.now (option_map (λ w. w.now) c.args.card) u (at c.in_ok-focus.focus (stack_of c.first_focus.new.stack.items) u)
    c.in_ok-store.ensures
    (sym (ap (λ xs. list xs c.main.result (stack_of c.new-stack.result.items)) c.inits.ensures.inits
    ∙ ap (λ m. list p.inits m (stack_of c.new-stack.result.items)) c.main.ensures.main
    ∙ ap (list p.inits p.main) (ap stack_of c.new-stack.ensures.items ∙ none_left))
    ∙ c.in_ok-focus.ensures u)
