use Rattle.gpu_state.proofs.Signed.{place_is_sum}
use Rattle.gpu_state.proofs.laws.places_are_sums.Goals as goal

pub returns : goal.returns
returns c = record { sum = place_is_sum }
