use Rattle.spu_mix.proofs.Others.{stands_for_all, stands_for_ours}
use Rattle.spu_mix.proofs.laws.others_are_nothing_to_sound.Goals as goal

pub returns-clause-all : goal.returns-clause-all
returns-clause-all c sounds past unit h = stands_for_all sounds past unit h

pub returns-clause-ours : goal.returns-clause-ours
returns-clause-ours c sounds past unit h = stands_for_ours sounds past unit h
