use Rattle.std.proofs.Common.{rules, ◌≡◌, [], List, refl, ap, ◌∙◌}
use Rattle.mid_live.specs.declared.words.Held.{Held}
use Rattle.mid_live.specs.Sets.{on}
use Rattle.mid_live.specs.inner.Words.{spread}
use Rattle.mid_live.proofs.Written.{zero_on}
use Rattle.mid_live.proofs.live.Kept.none.Goals as goal

pub returns : goal.returns
returns c = λ y.
    let e : c.new.result.items ≡ [] = search rules in
    ap (λ (es : List Held). on (spread [] es) y) e ∙ zero_on [] y refl
