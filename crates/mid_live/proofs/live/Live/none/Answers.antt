use Rattle.std.proofs.Common.{rules, ◌≡◌, ◌+◌, ◌/◌, replicate, ap, ◌∙◌}
use Rattle.mid_live.specs.Sets.{on}
use Rattle.mid_live.proofs.Bits.{none_on}
use Rattle.mid_live.proofs.live.Live.none.Goals as goal

pub returns-clause-is : goal.returns-clause-is
returns-clause-is c = λ y.
    let e : c.resize.new.self.items ≡ replicate (c.args.count / 64 + 1) 0 = search rules in
    ap (λ z. on z y) e ∙ none_on (c.args.count / 64 + 1) y
