use Rattle.std.proofs.Common.{◌≡◌, false, get_or, [], arith}
use Rattle.std.specs.Str.{bytes_eq}
use Rattle.std.proofs.lemmas.Grind.{common_steps}
use Rattle.std.proofs.lemmas.List.{get_or_default}
use Rattle.kit_base.proofs.Entries.{not_yet}
use Rattle.kit_base.proofs.files_in_memory.place_of.Goals as goal

pub loop-at-preserved : goal.loop-at-preserved
loop-at-preserved c =
    let other : bytes_eq c.args.name.now (get_or c.args.files.now c.loop-at.at ([], [])).0 ≡ false = grind (arith, common_steps, get_or_default) in
    not_yet c.args.files.now c.loop-at.at c.args.name.now c.loop-at-test.true c.loop-at.invariant other
