use Rattle.v32_isa.proofs.Staying.{program_stays}
use Rattle.v32_isa.proofs.laws.programs_stay.Goals as goal

pub returns : goal.returns
returns c s t xs ys a e lo hi = (program_stays s t xs ys e).text a lo hi
