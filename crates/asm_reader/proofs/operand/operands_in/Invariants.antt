use Rattle.std.proofs.Common.{◌≡◌, ◌+◌, [], length}
use Rattle.std.specs.Option.{option_map_or}
use Rattle.asm_reader.specs.Faults.{onto}
use Rattle.asm_reader.specs.Operands.{is_comma, operands_in}
use Rattle.asm_reader.specs.Parted.{parted}
use Rattle.asm_reader.proofs.operand.operands_in.Given as goal

-- what the parts left give, behind what was read, is what all give
abbrev pub invariant-each : goal.invariant-each
invariant-each l = onto l.written.items (operands_in (option_map_or (λ r. parted is_comma r.now) l.left [])) ≡ operands_in (parted is_comma l.tokens)

abbrev pub decreases-each : goal.decreases-each
decreases-each l = option_map_or (λ r. length r.now + 1) l.left 0
