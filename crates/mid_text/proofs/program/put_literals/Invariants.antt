use Rattle.std.proofs.Common.{◌≡◌, ◌++◌, drop}
use Rattle.std.specs.String.{string_bytes}
use Rattle.mid_text.specs.Text.{literals_text}
use Rattle.mid_text.proofs.program.put_literals.Given as goal

abbrev pub invariant-texts : goal.invariant-texts
invariant-texts l = string_bytes l.out ++ literals_text (drop l.text-index l.texts) ≡ string_bytes l.initial.out ++ literals_text l.texts
