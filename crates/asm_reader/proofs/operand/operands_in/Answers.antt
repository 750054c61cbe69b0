use Rattle.std.proofs.Common.{◌≡◌, rules}
use Rattle.asm_reader.specs.Faults.{onto}
use Rattle.asm_reader.specs.Operands.{is_comma, operands_in}
use Rattle.asm_reader.specs.Parted.{parted}
use Rattle.asm_reader.proofs.Listing.{fails}
use Rattle.asm_reader.proofs.operand.operands_in.Goals as goal

pub returns-in-Err : goal.returns-in-Err
returns-in-Err c =
    let so_far : onto c.each.written.items (operands_in (parted is_comma c.in-Some.rest.now)) ≡ operands_in (parted is_comma c.args.tokens.now) = search rules in
    fails c.each.written.items (parted is_comma c.in-Some.rest.now) c.first_part.result.0.now _ (operands_in (parted is_comma c.args.tokens.now)) c.first_part.ensures.parts so_far c.in-Err.e c.in-Err.ensures
