use Rattle.std.proofs.Math.Logic.{∥∥₁_elim}
use Rattle.mid_code.specs.Whole.{placed}
use Rattle.mid_code.proofs.Mere.{placed_mere}
use Rattle.mid_code.proofs.laws.placed_code_is_sound.Goals as goal

pub returns : goal.returns
returns c = record { sound = ∥∥₁_elim c.args.x.now.placed (placed_mere (placed c.args.x.now)) (λ h. h) }
