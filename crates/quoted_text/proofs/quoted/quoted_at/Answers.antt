use Rattle.std.proofs.Common.{sym, ◌∙◌}
use Rattle.quoted_text.proofs.Quoting.{ends, fails}
use Rattle.quoted_text.proofs.quoted.quoted_at.Goals as goal

pub returns-in-Ends : goal.returns-in-Ends
returns-in-Ends c = record { read = rw c.from_vec.ensures (ends c.args.quote c.each.out.items c.each.within c.each.rest.now c.in-Some.b.now c.in-Some.after.now _ c.in-Some.ensures.cases.0 (sym c.in-Ends.is ∙ c.turn_of.ensures) c.each.invariant) }

pub returns-in-Fails : goal.returns-in-Fails
returns-in-Fails c = record { read = fails c.args.quote c.each.out.items c.each.within c.each.rest.now c.in-Some.b.now c.in-Some.after.now _ c.in-Some.ensures.cases.0 (sym c.in-Fails.is ∙ c.turn_of.ensures) c.each.invariant }
