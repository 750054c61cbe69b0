use Rattle.asset_pack.proofs.Fronts.{program_again, texture_again, sound_again}
use Rattle.asset_pack.proofs.laws.texts_read_again.Goals as goal

pub returns-clause-words : goal.returns-clause-words
returns-clause-words c = program_again

pub returns-clause-texture : goal.returns-clause-texture
returns-clause-texture c = texture_again

pub returns-clause-sound : goal.returns-clause-sound
returns-clause-sound c = sound_again
