use Rattle.std.proofs.Common.{rules, ◌+◌, ◌*◌, length, arith, refl}
use Rattle.gpu_state.specs.Places.{place}
use Rattle.gpu_state.proofs.Standing.{zero_stands}
use Rattle.gpu_state.proofs.gpu.Gpu.open.Goals as goal

pub returns : goal.returns
returns c = record {
  opened = record {
    textures_are = refl;
    settings_are = c.open.ensures.stand (length c.args.textures.items);
    regions_full = search rules;
    regions_are = λ t r a l e. zero_stands (length c.args.textures.items) t r a (c.in_ok-regions.ensures.zero (t * 4096 + r) a e);
    left_is = refl;
    screen_is = λ x y h k. c.in_ok-screen.ensures.all (place x y) (omega arith);
  };
}
