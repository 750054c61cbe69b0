use Rattle.std.proofs.Common.{sym, arith}
use Rattle.std.proofs.lemmas.Grind.{common_steps}
use Rattle.std.proofs.lemmas.List.{get_or_default}
use Rattle.kit_base.proofs.Entries.{looked_up, not_held}
use Rattle.kit_base.proofs.files_in_memory.content_of.Goals as goal

pub returns-in-Some : goal.returns-in-Some
returns-in-Some c =
    let found = looked_up c.args.files.now c.in-Some.at c.args.name.now c.in-Some.ensures.some in
    grind (arith, common_steps, get_or_default, found)

pub returns-in-None : goal.returns-in-None
returns-in-None c = sym (not_held _ _ c.in-None.ensures.none)
