use Rattle.std.proofs.Common.{◌≡◌, sym, ◌∙◌, rules}
use Rattle.asm_reader.specs.Tokens.{token_at}
use Rattle.asm_reader.proofs.Lexing.{blank, comment, token, ended}
use Rattle.asm_reader.proofs.token.tokens_of.Goals as goal

pub each-preserved-then-is_blank : goal.each-preserved-then-is_blank
each-preserved-then-is_blank c =
    blank c.each.tokens.items c.each.rest.now c.in-Some.first.now c.in-Some.after.now _ c.in-Some.ensures.cases.0 c.each.invariant (sym c.is_blank.ensures ∙ c.if-is_blank.true)

pub returns-then-first-eq59 : goal.returns-then-first-eq59
returns-then-first-eq59 c =
    comment c.each.tokens.items c.each.rest.now c.in-Some.first.now c.in-Some.after.now _ c.in-Some.ensures.cases.0 c.each.invariant (sym c.is_blank.ensures ∙ c.if-is_blank.false) c.if-first-eq59.true

pub each-preserved : goal.each-preserved
each-preserved c =
    let found : (c.in_ok-token.token, c.in_ok-token.further) ≡ token_at c.each.rest.now = search rules in
    token c.each.tokens.items c.each.rest.now c.in-Some.first.now c.in-Some.after.now _ c.in-Some.ensures.cases.0 c.each.invariant _ _ (c.in_ok-token.token, c.in_ok-token.further)
    (sym c.is_blank.ensures ∙ c.if-is_blank.false) c.if-first-eq59.false found c.in_ok-push.ensures.items (search rules)

pub returns : goal.returns
returns c = ended c.each.tokens.items c.each.rest.now _ (search rules) c.each.invariant
