use Rattle.std.proofs.Math.Logic.{∥∥₁_elim}
use Rattle.mid_code.specs.Whole.{mid}
use Rattle.mid_code.proofs.Mere.{mid_mere}
use Rattle.mid_code.proofs.laws.mid_code_is_sound.Goals as goal

pub returns : goal.returns
returns c = record { sound = ∥∥₁_elim c.args.m.now.mid (mid_mere (mid c.args.m.now)) (λ h. h) }
