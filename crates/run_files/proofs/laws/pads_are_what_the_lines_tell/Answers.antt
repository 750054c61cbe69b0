use Rattle.run_files.proofs.PadsWhole.{found, only}
use Rattle.run_files.proofs.laws.pads_are_what_the_lines_tell.Goals as goal

pub returns : goal.returns
returns c = record { pads = λ bytes s. (found bytes s, only bytes s) }
