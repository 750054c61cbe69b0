use Rattle.std.proofs.Common.{sym, ◌∙◌}
use Rattle.c_prep.proofs.Directing.{is_text_line}
use Rattle.c_prep.proofs.Numbering.{first_below}
use Rattle.c_prep.proofs.directive.directive_in.Goals as goal

pub returns-else-begins_directive-clause-told : goal.returns-else-begins_directive-clause-told
returns-else-begins_directive-clause-told c = sym (is_text_line c.args.line.now c.in-Some.hash.now c.in-Some.tokens.now c.in-Some.ensures.cases.0 (sym c.begins_directive.ensures ∙ c.if-begins_directive.false))

pub returns-then-begins_directive-clause-numbers : goal.returns-then-begins_directive-clause-numbers
returns-then-begins_directive-clause-numbers c = λ n below. first_below n c.args.line.now c.in-Some.hash.now c.in-Some.tokens.now c.in-Some.ensures.cases.0 below
