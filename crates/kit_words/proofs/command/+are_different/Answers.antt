use Rattle.std.proofs.Common.{rules, ◌≡◌, length, sym}
use Rattle.kit_words.proofs.Different.{none_left}
use Rattle.kit_words.proofs.command.+are_different.Goals as goal

pub returns-in-None : goal.returns-in-None
returns-in-None t c =
    let empty : length c.args.names.now ≡ 0 = search rules in
    sym (none_left c.args.names.now empty)
