use Rattle.std.proofs.Common.{rules, arith, ◌≡◌, ◌*◌, ◌^◌, min, map, ap, sym, ◌∙◌}
use Rattle.c_types.specs.Types.{Ty, ArrayY}
use Rattle.c_types.specs.View.{ctype}
use Rattle.c_rules.specs.Elements.{element_of}
use Rattle.c_rules.proofs.Walks.{stepped}
use Rattle.c_rules.proofs.elements.elements_of.Goals as goal

pub loop-at-preserved : goal.loop-at-preserved
loop-at-preserved c =
    let is : ctype c.loop-at.at.now ≡ ArrayY c.in-Array.of.value c.in-Array.len = search rules in
    let times : c.at_most-count.result ≡ min (c.in-Array.len * c.loop-at.count) (2 ^ 32) = search rules in
    let left : ctype c.ty-at.result.now ≡ c.in-Array.of.value = search rules in
    (omega (arith, times), rw left (ap element_of (sym is) ∙ c.loop-at.invariant.1), rw left (stepped (ctype c.loop-at.at.now) c.in-Array.of.value c.in-Array.len c.loop-at.count c.at_most-count.result _ is times c.loop-at.invariant.2))
