use Rattle.v32_isa.proofs.Decoded.{decoded-begins, begins-decoded}
use Rattle.v32_isa.proofs.laws.decoding_is_inverse.Goals as goal

pub returns : goal.returns
returns c = λ first second i. (decoded-begins first second i, begins-decoded first second i)
