use Rattle.std.proofs.Common.{rules, arith, ◌≡◌}
use Rattle.mid_code.specs.Functions.{function}
use Rattle.mid_scalars.specs.inner.Table.{flags}
use Rattle.mid_scalars.proofs.Tabled.{flags_long}
use Rattle.mid_scalars.proofs.building.table_of.Goals as goal

pub numbers_of-requires : goal.numbers_of-requires
numbers_of-requires c =
    let f = function c.args.f.now in
    let is : c.as_slice-2.result.now ≡ flags f = search rules in
    let long = flags_long f c.as_slice-2.result.now is in
    let count = c.requires.count in
    record { fits = omega (arith, long, count) }
