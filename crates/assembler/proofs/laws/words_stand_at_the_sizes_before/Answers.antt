use Rattle.assembler.proofs.Standing.{stands}
use Rattle.assembler.proofs.laws.words_stand_at_the_sizes_before.Goals as goal

pub returns : goal.returns
returns c = stands
