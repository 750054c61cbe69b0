use Rattle.std.proofs.Common.{◌≡◌, drop, map}
use Rattle.asm_items.specs.Vocabulary.{entry, named}
use Rattle.asm_items.proofs.vocabulary.operation_named.Given as goal

-- what the operations left say is what all say
abbrev pub invariant-loop-operation : goal.invariant-loop-operation
invariant-loop-operation l = named l.word (map entry (drop l.operation-index l.operations)) ≡ named l.word (map entry l.operations)
