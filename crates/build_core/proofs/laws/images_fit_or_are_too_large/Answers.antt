use Rattle.build_core.proofs.Refused.{fits_or_too_large}
use Rattle.build_core.proofs.laws.images_fit_or_are_too_large.Goals as goal

pub returns : goal.returns
returns c = record { either = fits_or_too_large }
