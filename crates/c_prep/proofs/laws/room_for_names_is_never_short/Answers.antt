use Rattle.c_prep.proofs.Room.{room_suffices}
use Rattle.c_prep.proofs.laws.room_for_names_is_never_short.Goals as goal

pub returns : goal.returns
returns c = λ room more table t inside kind o enough le. room_suffices table t room more inside kind o enough le
