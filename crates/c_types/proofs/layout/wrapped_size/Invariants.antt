use Rattle.std.proofs.Common.{◌≡◌, ◌*◌, ◌%◌, ◌^◌, map}
use Rattle.c_types.specs.Sizes.{words_of}
use Rattle.c_types.specs.View.{ctype, layout}
use Rattle.c_types.proofs.layout.wrapped_size.Given as goal

abbrev pub invariant-loop-at : goal.invariant-loop-at
invariant-loop-at l = (words_of (map layout l.layouts) (ctype l.at) * l.times) % 2 ^ 32 ≡ words_of (map layout l.layouts) (ctype l.ty) % 2 ^ 32
