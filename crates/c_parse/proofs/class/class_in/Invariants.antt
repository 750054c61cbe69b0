use Rattle.std.proofs.Common.{◌≡◌, drop, map}
use Rattle.c_parse.specs.Tok.{listed, class_in}
use Rattle.c_parse.proofs.class.class_in.Given as goal

-- what the entries left say is what all say
abbrev pub invariant-loop-entry : goal.invariant-loop-entry
invariant-loop-entry l = class_in l.word (map listed (drop l.entry-index l.entries)) ≡ class_in l.word (map listed l.entries)
