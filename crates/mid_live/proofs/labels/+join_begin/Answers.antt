use Rattle.std.proofs.Common.{rules, ◌≡◌, ◌∷◌, ◌||◌, sym, ap, ◌∙◌}
use Rattle.mid_code.specs.Live.{label, begins_of}
use Rattle.mid_live.specs.Sets.{on}
use Rattle.mid_live.specs.Labels.{labels_of}
use Rattle.mid_live.specs.declared.labels.Labels.{the_lemmas}
use Rattle.mid_live.proofs.Facts.{begins_below}
use Rattle.mid_live.proofs.labels.+join_begin.Goals as goal

pub returns-else-k-eq0-clause-is : goal.returns-else-k-eq0-clause-is
returns-else-k-eq0-clause-is t c = λ y h.
    let is : labels_of y c.args.m.now ≡ label (on c.in-Inside.b.now y) (on c.in-Inside.field-1.now y) ∷ labels_of y c.in-Inside.rest.now = search (rules, the_lemmas) in
    c.join_begin.ensures.is y h ∙ ap (λ z. on c.args.s.now y || z) (sym (ap (λ z. begins_of z c.args.k) is ∙ begins_below (label (on c.in-Inside.b.now y) (on c.in-Inside.field-1.now y)) (labels_of y c.in-Inside.rest.now) c.args.k (search (rules, c.if-k-eq0.false))))
