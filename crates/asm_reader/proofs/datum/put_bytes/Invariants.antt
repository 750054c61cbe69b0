use Rattle.std.proofs.Common.{◌≡◌, ◌++◌, map, take}
use Rattle.asm_items.specs.declared.item.AsmItem.TheVariants.{Integer}
use Rattle.asm_reader.proofs.datum.put_bytes.Given as goal

abbrev pub invariant-loop-b : goal.invariant-loop-b
invariant-loop-b l = l.items.items ≡ l.initial.items.items ++ map Integer (take l.b-index l.bytes)
