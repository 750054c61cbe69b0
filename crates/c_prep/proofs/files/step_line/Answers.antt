use Rattle.std.proofs.Common.{sym, subst}
use Rattle.std.specs.Prelude.{Result}
use Rattle.kit_base.specs.declared.failure.Failure.{Failure}
use Rattle.c_prep.specs.declared.error.PrepFault.{PrepFault}
use Rattle.c_prep.specs.inner.Inner.{PlacedPut}
use Rattle.c_prep.proofs.Numbering.{step_numbers}
use Rattle.c_prep.proofs.files.step_line.Goals as goal

pub returns-clause-numbers : goal.returns-clause-numbers
returns-clause-numbers c = λ n below good. subst (λ (r : Result (Unit {0}) (Failure PrepFault)). PlacedPut n c.step_at.new.work.out.tokens r) (sym c.refusing.ensures.told)
    (step_numbers n c.args.line.now c.args.work.now c.args.conds.now (c.step_at.new.work, c.step_at.new.conds) c.step_at.result c.step_at.ensures below good)
