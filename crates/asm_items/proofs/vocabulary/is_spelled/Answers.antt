use Rattle.std.proofs.Common.{ap, ◌∙◌}
use Rattle.asm_items.specs.Vocabulary.{is_spelled}
use Rattle.asm_items.proofs.Names.{same_test}
use Rattle.asm_items.proofs.vocabulary.is_spelled.Goals as goal

pub returns : goal.returns
returns c =
    same_test c.eq_ignore_ascii_case.result c.args.word.now c.as_bytes.result.now c.eq_ignore_ascii_case.ensures.test
    ∙ ap (is_spelled c.args.word.now) c.as_bytes.ensures.value
