use Rattle.std.proofs.Math.Logic.{∥∥₁_elim}
use Rattle.c_check.specs.View.{program}
use Rattle.c_facts.proofs.OneWay.{sound_one}
use Rattle.c_facts.proofs.Programs.{programs_sound}
use Rattle.c_facts.proofs.laws.programs_are_sound.Goals as goal

pub returns : goal.returns
returns c = record { sound = ∥∥₁_elim c.args.checked.now.made (sound_one (program c.args.checked.now)) (λ h. programs_sound h.0 (program c.args.checked.now) h.1) }
