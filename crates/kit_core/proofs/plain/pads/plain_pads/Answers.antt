use Rattle.std.proofs.Common.{rules, ◌≡◌}
use Rattle.std.specs.Prelude.{Ok, Err}
use Rattle.run_files.specs.declared.pads.PadsErr.TheVariants as errors
use Rattle.kit_core.proofs.PlainTold.{gives_plain, refuses_nothing}
use Rattle.kit_core.proofs.plain.pads.plain_pads.Goals as goal

pub returns-in-Ok : goal.returns-in-Ok
returns-in-Ok c =
    let is : c.read_pads.result ≡ Ok c.in-Ok.pads = search rules in
    gives_plain c.read_pads.result c.in-Ok.pads c.read_pads.ensures.exact is

pub unreachable-requires : goal.unreachable-requires
unreachable-requires c =
    let is : c.read_pads.result ≡ Err (errors.At c.in-Err-At.field-0-0 c.in-Err-At.field-0-1) = search rules in
    refuses_nothing c.read_pads.result c.in-Err-At.field-0-0 c.in-Err-At.field-0-1 c.read_pads.ensures.exact is
