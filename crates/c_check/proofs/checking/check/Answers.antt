use Rattle.c_tree.specs.View.{unit}
use Rattle.c_check.specs.View.{program}
use Rattle.c_check.proofs.WholeExact.{checked_good}
use Rattle.c_check.proofs.Answered.{typed, broken}
use Rattle.c_check.proofs.checking.check.Goals as goal

pub returns-clause-typed : goal.returns-clause-typed
returns-clause-typed c = typed program (unit c.args.parsed.now) c.checked.result (rw c.as_slice.ensures at c.checked.ensures)

pub returns-clause-only : goal.returns-clause-only
returns-clause-only c = λ p g. let due = rw c.as_slice.ensures at c.checked.ensures in rw (checked_good g) at due

pub returns-clause-first : goal.returns-clause-first
returns-clause-first c = λ fault is. broken program (unit c.args.parsed.now) c.checked.result fault (rw c.as_slice.ensures at c.checked.ensures) is
