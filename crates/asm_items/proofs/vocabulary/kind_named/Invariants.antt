use Rattle.std.proofs.Common.{◌≡◌, drop, map}
use Rattle.asm_items.specs.Vocabulary.{listed, named}
use Rattle.asm_items.proofs.vocabulary.kind_named.Given as goal

-- what the entries left say is what all say
abbrev pub invariant-loop-entry : goal.invariant-loop-entry
invariant-loop-entry l = named l.word (map listed (drop l.entry-index l.entries)) ≡ named l.word (map listed l.entries)
