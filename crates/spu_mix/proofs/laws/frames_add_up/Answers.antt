use Rattle.spu_mix.proofs.Frames.{sample_later}
use Rattle.spu_mix.proofs.laws.frames_add_up.Goals as goal

pub returns-clause-samples : goal.returns-clause-samples
returns-clause-samples c sounds past n k h = sample_later sounds past n k h
