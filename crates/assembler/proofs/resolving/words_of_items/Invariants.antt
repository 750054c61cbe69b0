use Rattle.std.proofs.Common.{◌≡◌, take}
use Rattle.asm_items.specs.Words.{words_of_items}
use Rattle.assembler.specs.Labels.{address_in}
use Rattle.assembler.proofs.resolving.words_of_items.Given as goal

abbrev pub invariant-each : goal.invariant-each
invariant-each l = l.words.items ≡ words_of_items (address_in l.labels) (take l.item-index l.items)
