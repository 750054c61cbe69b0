use Rattle.asm_laws.proofs.PlacedAgrees.{placed_agrees}
use Rattle.asm_laws.proofs.laws.placed_code_agrees.Goals as goal

pub returns : goal.returns
returns c = placed_agrees
