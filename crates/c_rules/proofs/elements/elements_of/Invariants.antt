use Rattle.std.proofs.Common.{◌≡◌, ◌≤◌, ◌*◌, ◌^◌, min}
use Rattle.c_types.specs.View.{ctype}
use Rattle.c_rules.specs.Elements.{element_of, elements_in}
use Rattle.c_rules.proofs.elements.elements_of.Given as goal

abbrev pub invariant-loop-at : goal.invariant-loop-at
invariant-loop-at l = (l.count ≤ 2 ^ 32) × (element_of (ctype l.at) ≡ element_of (ctype l.ty)) × (min (elements_in (ctype l.at) * l.count) (2 ^ 32) ≡ min (elements_in (ctype l.ty)) (2 ^ 32))
