use Rattle.std.proofs.Common.{◌/◌}
use Rattle.mid_live.proofs.Written.{zero_on}
use Rattle.mid_live.proofs.marked.clear_marked.Goals as goal

pub returns-clause-none : goal.returns-clause-none
returns-clause-none c = λ y. zero_on c.zero_marked.new.words.items y (c.zero_marked.ensures.none (y / 64))
