use Rattle.std.proofs.Common.{◌≡◌, drop, map}
use Rattle.c_prep.specs.Directives.{class_in}
use Rattle.c_prep.specs.inner.Inner.{listed}
use Rattle.c_prep.proofs.directive.class_among.Given as goal

-- what the entries left say is what all say
abbrev pub invariant-loop-entry : goal.invariant-loop-entry
invariant-loop-entry l = class_in l.word (map listed (drop l.entry-index l.entries)) ≡ class_in l.word (map listed l.entries)
