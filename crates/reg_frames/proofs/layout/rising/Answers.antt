use Rattle.std.proofs.Common.{rules, arith, ◌≡◌, ◌<◌, ◌++◌, ◌∷◌, []}
use Rattle.reg_frames.specs.inner.Placing.{rising}
use Rattle.reg_frames.proofs.Steps.{rising_turn}
use Rattle.reg_frames.proofs.layout.rising.Goals as goal

pub loop-left-preserved : goal.loop-left-preserved
loop-left-preserved c =
    let lt : 0 < c.loop-left.left = search rules in
    let pushed : c.push.new.self.items ≡ c.loop-left.found.items ++ c.loop-left.from ∷ [] = search rules in
    let i = c.loop-left.invariant in
    (omega (arith, lt, i.0), rising_turn c.loop-left.found.items c.push.new.self.items (rising 0 c.args.count) c.loop-left.from c.loop-left.left lt pushed i.1)
