use Rattle.spu_mix.proofs.Later.{closed_form}
use Rattle.spu_mix.proofs.Sounding.{playing_has_sound}
use Rattle.spu_mix.proofs.Silence.{samples_go_on}
use Rattle.spu_mix.proofs.laws.sound_has_a_closed_form.Goals as goal

pub returns : goal.returns
returns c = record { later = closed_form; sounding = playing_has_sound; samples = samples_go_on }
