use Rattle.std.proofs.Common.{rules, ◌≡◌, ◌∷◌, sym, ap, ◌∙◌}
use Rattle.mid_code.specs.Live.{label, ends_of}
use Rattle.mid_live.specs.Sets.{on}
use Rattle.mid_live.specs.Labels.{labels_of}
use Rattle.mid_live.specs.declared.labels.Labels.{the_lemmas}
use Rattle.mid_live.proofs.Facts.{ends_below}
use Rattle.mid_live.proofs.labels.+at_end.Goals as goal

pub returns-else-k-eq0-clause-is : goal.returns-else-k-eq0-clause-is
returns-else-k-eq0-clause-is t c = λ y h.
    let is : labels_of y c.args.m.now ≡ label (on c.in-Inside.field-0.now y) (on c.in-Inside.e.now y) ∷ labels_of y c.in-Inside.rest.now = search (rules, the_lemmas) in
    c.at_end.ensures.is y h ∙ sym (ap (λ z. ends_of z c.args.k) is ∙ ends_below (label (on c.in-Inside.field-0.now y) (on c.in-Inside.e.now y)) (labels_of y c.in-Inside.rest.now) c.args.k (search (rules, c.if-k-eq0.false)))
