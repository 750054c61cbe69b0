use Rattle.std.proofs.Common.{rules, ◌≡◌, length}
use Rattle.gpu_state.proofs.Opaque.{whole_written}
use Rattle.gpu_state.proofs.gpu.Gpu.draw.Goals as goal

pub invariant_of-self : goal.invariant_of-self
invariant_of-self c =
    let n : length c.draw-self-inside.new.screen ≡ length c.self.inside.screen.items = search rules in
    let m : c.self.inside.screen.len ≡ length c.self.inside.screen.items = search rules in
    rw (whole_written c.self.inside.screen.items c.draw-self-inside.new.screen c.self.inside.screen.len n m) (search rules)
