use Rattle.std.proofs.Common.{◌≡◌, ◌++◌, map, take}
use Rattle.asm_reader.specs.Lines.{pointer_of}
use Rattle.asm_reader.proofs.datum.put_names.Given as goal

abbrev pub invariant-loop-operand : goal.invariant-loop-operand
invariant-loop-operand l = l.items.items ≡ l.initial.items.items ++ map pointer_of (take l.operand-index l.operands)
