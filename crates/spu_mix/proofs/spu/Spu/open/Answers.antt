use Rattle.std.proofs.Common.{refl}
use Rattle.spu_mix.proofs.Standing.{first_stands}
use Rattle.spu_mix.proofs.spu.Spu.open.Goals as goal

pub returns : goal.returns
returns c = record { stands = first_stands _ _ c.in_ok-looped.ensures.made refl refl refl refl }
