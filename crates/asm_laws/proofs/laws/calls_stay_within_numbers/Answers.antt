use Rattle.asm_laws.proofs.Bounded.{calls_bounded}
use Rattle.asm_laws.proofs.laws.calls_stay_within_numbers.Goals as goal

pub returns : goal.returns
returns c = calls_bounded
