use Rattle.c_prep.proofs.Standing.{put_is, one_standing}
use Rattle.c_prep.proofs.laws.tokens_are_put_as_what_they_stand_for.Goals as goal

pub returns-clause-put : goal.returns-clause-put
returns-clause-put c = put_is

pub returns-clause-one : goal.returns-clause-one
returns-clause-one c = one_standing
