use Rattle.c_check.specs.View.{program}
use Rattle.build_core.proofs.Starting.{checkable, of_one_unit}
use Rattle.build_core.proofs.sources.source_of.Goals as goal

pub invariant_of-result : goal.invariant_of-result
invariant_of-result c = record {
  of_unit = ∣ of_one_unit c.args.parsed (program c.in-Ok.program) c.in-Ok-starts_of.starts.items c.requires.read c.in-Ok.ensures.typed c.in-Ok-starts_of.ensures ∣₁;
  stands = checkable c.functions_are_bodies.ensures.bodies c.args.parsed (program c.in-Ok.program) c.in-Ok-starts_of.starts.items c.requires.read c.in-Ok.ensures.typed c.in-Ok-starts_of.ensures;
}
