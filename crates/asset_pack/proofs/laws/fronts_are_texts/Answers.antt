use Rattle.asset_pack.proofs.Fronts.{program_takes, texture_takes, sound_takes}
use Rattle.asset_pack.proofs.laws.fronts_are_texts.Goals as goal

pub returns-clause-words : goal.returns-clause-words
returns-clause-words c = program_takes

pub returns-clause-texture : goal.returns-clause-texture
returns-clause-texture c = texture_takes

pub returns-clause-sound : goal.returns-clause-sound
returns-clause-sound c = sound_takes
