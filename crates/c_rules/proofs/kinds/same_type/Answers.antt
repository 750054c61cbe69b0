use Rattle.std.proofs.Common.{rules, ◌≡◌, Some, ◌∙◌}
use Rattle.c_types.specs.Types.{ArrayY}
use Rattle.c_types.specs.View.{ctype}
use Rattle.c_rules.specs.Kinds.{element, element_count, same_type}
use Rattle.c_rules.proofs.Walks.{arrays_alike, arrays_apart}
use Rattle.c_rules.proofs.kinds.same_type.Goals as goal

pub returns-then-len-count : goal.returns-then-len-count
returns-then-len-count c =
    let is : ctype c.loop-left.left.now ≡ ArrayY c.in-Array.of.value c.in-Array.len = search rules in
    let count : Some c.in-Some-elements.count ≡ element_count (ctype c.loop-left.right.now) = search rules in
    record { same = rw (← c.loop-left.invariant) (rw is (arrays_apart c.in-Array.of.value (ctype c.loop-left.right.now) c.in-Array.len c.in-Some-elements.count count c.if-len-count.true)) }

pub loop-left-preserved : goal.loop-left-preserved
loop-left-preserved c =
    let is : ctype c.loop-left.left.now ≡ ArrayY c.in-Array.of.value c.in-Array.len = search rules in
    let of : Some c.in-Some-elements.other.now ≡ element (ctype c.loop-left.right.now) = search rules in
    let count : Some c.in-Some-elements.count ≡ element_count (ctype c.loop-left.right.now) = search rules in
    let same : same_type (ctype c.further-in-Array.result.0.now) (ctype c.further-in-Array.result.1.now) ≡ same_type c.in-Array.of.value c.in-Some-elements.other.now = search rules in
    rw (← c.loop-left.invariant) (rw is (same ∙ arrays_alike c.in-Array.of.value (ctype c.loop-left.right.now) c.in-Some-elements.other.now c.in-Array.len c.in-Some-elements.count of count c.if-len-count.false))
