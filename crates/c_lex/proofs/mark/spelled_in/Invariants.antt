use Rattle.std.proofs.Common.{◌≡◌, drop, map}
use Rattle.c_lex.specs.Marks.{listed, spelled_in}
use Rattle.c_lex.proofs.mark.spelled_in.Given as goal

-- what the entries left say is what all say
abbrev pub invariant-loop-entry : goal.invariant-loop-entry
invariant-loop-entry l = spelled_in l.text (map listed (drop l.entry-index l.entries)) ≡ spelled_in l.text (map listed l.entries)
