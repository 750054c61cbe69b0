use Rattle.std.proofs.Common.{◌≡◌}
use Rattle.std.specs.Prelude.{map}
use Rattle.spu_mix.specs.Sounds.{first_sound}
use Rattle.spu_mix.proofs.spu.looped.Given as goal

-- the sounds so far
abbrev pub invariant-each : goal.invariant-each
invariant-each l = l.made.items ≡ map first_sound l.yielded
