use Rattle.std.proofs.Common.{◌≤◌, arith}
use Rattle.std.proofs.Math.Logic.{∥∥₁_elim}
use Rattle.std.proofs.Props.{props}
use Rattle.c_check.specs.View.{program}
use Rattle.c_types.specs.Nodes.{program_nodes}
use Rattle.c_facts.proofs.ProgramNodes.{programs_have_few_nodes}
use Rattle.c_facts.proofs.laws.programs_have_few_nodes.Goals as goal

pub returns : goal.returns
returns c = let one : IsProp (program_nodes (program c.args.checked.now) ≤ 200000) = hlevel props in
    record { few = ∥∥₁_elim c.args.checked.now.made one (λ h. omega (arith, programs_have_few_nodes h.0 (program c.args.checked.now) h.1, h.2)) }
