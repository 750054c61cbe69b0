use Rattle.std.proofs.Common.{◌≡◌, ◌++◌, length}
use Rattle.asm_items.specs.Disassembled.{disassembled}
use Rattle.asm_items.proofs.disassembly.disassemble.Given as goal

-- what is done, and what the rest gives, is what the whole gives
abbrev pub invariant-each : goal.invariant-each
invariant-each l = l.items.items ++ disassembled l.rest ≡ disassembled l.words

abbrev pub decreases-each : goal.decreases-each
decreases-each l = length l.rest
