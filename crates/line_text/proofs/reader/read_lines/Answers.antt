use Rattle.std.proofs.Common.{arith, refl}
use Rattle.line_text.specs.Lines.{lines_of}
use Rattle.line_text.proofs.Stepping.{next, refused, done, taken_none, taken_more, taken_all}
use Rattle.line_text.proofs.reader.read_lines.Goals as goal

pub returns-in-Err : goal.returns-in-Err
returns-in-Err g c = rw c.placed.ensures (record {
  read = refused g.R.LineReader.step c.each.number c.each.reader (lines_of c.each.rest.now) _ c.line.new.self c.line.new.self c.in-Err.e c.in-Some.line.now (lines_of c.in-Some.after.now) c.in-Some.ensures.some c.in-Err.ensures.made c.each.invariant.reads;
  left = taken_all g.R.LineReader.step c.args.reader.now (lines_of c.args.bytes.now) c.each.number c.each.reader c.line.new.self (lines_of c.each.rest.now) c.in-Err.e c.in-Some.line.now (lines_of c.in-Some.after.now) c.in-Some.ensures.some c.in-Err.ensures.made c.in-Err.ensures.kept c.each.invariant.taken;
})

pub each-init : goal.each-init
each-init g c = record {
  number = omega arith;
  reads = refl;
  taken = taken_none g.R.LineReader.step c.args.reader.now (lines_of c.args.bytes.now);
}

pub each-preserved : goal.each-preserved
each-preserved g c =
    let less = c.in-Some.ensures.shorter in
    record {
      number = omega (arith, less);
      reads = next g.R.LineReader.step c.each.number c.each.reader (lines_of c.each.rest.now) _ c.line.new.self c.in-Some.line.now (lines_of c.in-Some.after.now) c.in-Some.ensures.some c.in-Ok.ensures.made c.each.invariant.reads;
      taken = taken_more g.R.LineReader.step c.args.reader.now (lines_of c.args.bytes.now) c.each.number c.each.reader c.line.new.self (lines_of c.each.rest.now) c.in-Some.line.now (lines_of c.in-Some.after.now) c.in-Some.ensures.some c.in-Ok.ensures.made c.each.invariant.taken;
    }

pub returns : goal.returns
returns g c = record {
  read = done g.R.LineReader.step c.each.number c.each.reader (lines_of c.each.rest.now) _ c.in_default.ensures.none c.each.invariant.reads;
  left = tt;
}
