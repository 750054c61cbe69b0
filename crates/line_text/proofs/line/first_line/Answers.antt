use Rattle.line_text.proofs.Splitting.{goes_on, ended}
use Rattle.line_text.proofs.line.first_line.Goals as goal

pub returns-then-b-eq10-clause-some : goal.returns-then-b-eq10-clause-some
returns-then-b-eq10-clause-some c = ended c.args.bytes.now c.each.at c.each.rest.now c.in-Some.b.now c.in-Some.after.now _ c.each.invariant c.in-Some.ensures.cases.0 c.if-b-eq10.true c.without_return.ensures

pub each-preserved : goal.each-preserved
each-preserved c = goes_on c.args.bytes.now c.each.at c.each.rest.now c.in-Some.b.now c.in-Some.after.now c.in-Some.ensures.cases.0 c.if-b-eq10.false c.each.invariant
