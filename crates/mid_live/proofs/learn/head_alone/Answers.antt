use Rattle.std.proofs.Common.{rules, ◌≡◌, [], ◌∷◌, false, ap, ◌∙◌}
use Rattle.mid_code.specs.Functions.{nodes}
use Rattle.mid_code.specs.Live.{label, is_live}
use Rattle.mid_live.specs.Sets.{on}
use Rattle.mid_live.specs.Labels.{labels_of}
use Rattle.mid_live.proofs.learn.head_alone.Goals as goal

pub returns-clause-is : goal.returns-clause-is
returns-clause-is c = λ y h.
    let s = c.args.s.now in
    let ends : c.in_ok-ends.ends ≡ s = search rules in
    let around : labels_of y c.nested.result ≡ label false (on s y) ∷ [] = c.nested.ensures y ∙ ap (λ z. label z (on c.in_ok-ends.ends y) ∷ labels_of y c.outside.result) (c.none-begins.ensures y) ∙ ap (λ z. label false (on z y) ∷ labels_of y c.outside.result) ends ∙ ap (λ z. label false (on s y) ∷ z) (c.outside.ensures y) in
    c.in_ok-before_nodes.ensures.is y h ∙ ap (λ z. is_live y z (nodes c.args.b.now) (on s y)) around
