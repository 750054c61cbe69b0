use Rattle.std.proofs.Common.{rules, ◌≡◌, map}
use Rattle.c_types.specs.Types.{ArrayY}
use Rattle.c_types.specs.View.{ctype, layout}
use Rattle.c_types.proofs.Walks.{wrapped}
use Rattle.c_types.proofs.layout.wrapped_size.Goals as goal

pub loop-at-preserved : goal.loop-at-preserved
loop-at-preserved c =
    let is : ctype c.loop-at.at.now ≡ ArrayY c.in-Array.of.value c.in-Array.length = search rules in
    let left : ctype c.ty-at.result.now ≡ c.in-Array.of.value = search rules in
    rw left (wrapped (map layout c.args.layouts.now) (ctype c.loop-at.at.now) c.in-Array.of.value c.in-Array.length c.loop-at.times _ is c.loop-at.invariant)
