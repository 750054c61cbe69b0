use Rattle.std.proofs.Common.{◌≤◌, length, arith}
use Rattle.std.proofs.Math.Logic.{∥∥₁_elim}
use Rattle.std.proofs.Props.{props}
use Rattle.c_check.specs.View.{program}
use Rattle.c_facts.proofs.Locals.{locals_few}
use Rattle.c_facts.proofs.laws.functions_have_few_locals.Goals as goal

pub returns : goal.returns
returns c = record {
  few = λ k f e. let one : IsProp (length f.locals ≤ 200000) = hlevel props in
      ∥∥₁_elim c.args.checked.now.made one (λ h. omega (arith, locals_few h.0 (program c.args.checked.now) h.1 k f e, h.2));
}
