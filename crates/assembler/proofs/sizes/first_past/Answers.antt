use Rattle.std.proofs.Common.{◌+◌}
use Rattle.assembler.specs.Faults.{past_from}
use Rattle.assembler.proofs.Walking.{past_here}
use Rattle.assembler.proofs.sizes.first_past.Goals as goal

pub returns-then-words-gt-MOST_WORDS : goal.returns-then-words-gt-MOST_WORDS
returns-then-words-gt-MOST_WORDS c = past_here _ _ _ (c.each.number + 1) c.each.words c.item_size-words.result (past_from 1 0 c.args.items.now) c.in-Some.ensures.cases.0 c.item_size-words.ensures.value c.if-words-gt-MOST_WORDS.true c.each.invariant.past
