use Rattle.std.proofs.Common.{◌≡◌, drop, map, option_map}
use Rattle.c_tree.specs.View.{expr}
use Rattle.c_check.specs.inner.ItemTyping.{enumerators}
use Rattle.c_check.specs.View.{un}
use Rattle.c_check.proofs.enumerators.read_enumerators.Given as goal

abbrev pub invariant-loop-value : goal.invariant-loop-value
invariant-loop-value l =
    enumerators (un l.reading) l.span l.next (map (λ v. (v.0, option_map expr v.1)) (drop l.value-index l.values))
    ≡ enumerators (un l.initial.reading) l.span 0 (map (λ v. (v.0, option_map expr v.1)) l.values)
