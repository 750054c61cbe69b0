use Rattle.std.proofs.Common.{◌≡◌, true, false, sym, ap, ◌∙◌}
use Rattle.std.specs.Prelude.{Some}
use Rattle.c_prep.proofs.Directing.{is_text, is_no_text}
use Rattle.c_prep.proofs.directive.text_in.Goals as goal

pub returns-then-is_text : goal.returns-then-is_text
returns-then-is_text c = ap Some c.as_str.ensures ∙ sym (is_text c.args.kind.now c.in-Text.name c.in-Text.is (c.is_text.ensures.0 c.if-is_text.true))

pub returns-else-is_text : goal.returns-else-is_text
returns-else-is_text c = sym (is_no_text c.args.kind.now c.in-Text.name c.in-Text.is (λ u. let h : true ≡ false = sym (c.is_text.ensures.1 u) ∙ c.if-is_text.false in absurd cc))
