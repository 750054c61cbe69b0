use Rattle.std.proofs.Common.{refl, arith}
use Rattle.line_text.specs.Lines.{lines_of}
use Rattle.project_text.specs.Reading.{Gives, project_of}
use Rattle.project_text.proofs.Stepping.{next, refused, done}
use Rattle.project_text.proofs.reading.project_of.Goals as goal

pub each-init : goal.each-init
unfolding project_of
each-init c = rw (c.new.ensures.items, c.new-2.ensures.items) (record { number = omega arith; reads = refl })

pub returns-in-Err : goal.returns-in-Err
returns-in-Err c = refused c.each.number c.each.state (lines_of c.each.rest.now) _ c.take_line.new.self c.in-Err.e c.in-Some.line.now (lines_of c.in-Some.after.now) c.in-Some.ensures.some c.in-Err.ensures c.each.invariant.reads

pub each-preserved : goal.each-preserved
each-preserved c =
    let less = c.in-Some.ensures.shorter in
    record {
      number = omega (arith, less);
      reads = next c.each.number c.each.state (lines_of c.each.rest.now) _ c.take_line.new.self c.in-Some.line.now (lines_of c.in-Some.after.now) c.in-Some.ensures.some c.in-Ok.ensures c.each.invariant.reads;
    }

pub returns : goal.returns
returns c = rw (done c.each.number c.each.state (lines_of c.each.rest.now) _ c.in_default.ensures.none c.each.invariant.reads) c.complete.ensures
