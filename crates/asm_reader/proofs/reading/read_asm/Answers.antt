use Rattle.std.proofs.Common.{◌≡◌, Err, arith, rules}
use Rattle.asm_reader.specs.Lines.{line_items}
use Rattle.asm_reader.specs.Parted.{parted}
use Rattle.asm_reader.specs.Reading.{before_items, fault_at, is_newline, read, read_from}
use Rattle.asm_reader.specs.Tokens.{tokens_of}
use Rattle.asm_reader.proofs.Lines.{start, refused}
use Rattle.asm_reader.proofs.reading.read_asm.Goals as goal

pub each-init : goal.each-init
each-init c = record { so_far = start _ _ c.new-items.ensures.items; counted = omega arith }

pub returns-in-Err-Cause-clause-faulty : goal.returns-in-Err-Cause-clause-faulty
returns-in-Err-Cause-clause-faulty c =
    let so_far : before_items c.each.items.items (read_from c.each.number (parted is_newline c.in-Some.rest.now)) ≡ read c.args.bytes.now = search rules in
    let faulty : line_items (tokens_of c.first_line.result.0.now) ≡ Err c.in-Err-Cause.fault = search rules in
    let at : c.fault_at.result ≡ fault_at c.in-Err-Cause.fault c.each.number = search rules in
    rw at (refused c.each.items.items c.each.number (parted is_newline c.in-Some.rest.now) c.first_line.result.0.now _ (read c.args.bytes.now) c.first_line.ensures.parts so_far c.in-Err-Cause.fault faulty)
