use Rattle.v32_console.proofs.Alike.{same_sections, tables}
use Rattle.v32_console.proofs.laws.cartridges_run_alike.Goals as goal

pub returns : goal.returns
returns c = record { sections = same_sections; tables = tables }
