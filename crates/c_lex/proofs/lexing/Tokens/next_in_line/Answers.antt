use Rattle.std.proofs.Common.{◌≡◌, sym, ap, ◌∙◌, arith}
use Rattle.std.specs.Prelude.{Some, None}
use Rattle.c_lex.specs.Reading.{goes_on}
use Rattle.c_lex.specs.Found.{token_at}
use Rattle.c_lex.proofs.OneToken.{stands}
use Rattle.c_lex.proofs.Steps.{within, no_more, next_told, next_left, begun}
use Rattle.c_lex.proofs.lexing.Tokens.next_in_line.Goals as goal

pub split_at-requires : goal.split_at-requires
split_at-requires c =
    let is : token_at c.past_gaps.result.1.now ≡ Some (c.in-Some.len, c.in-Some.kind) = sym c.in_ok-token_at.ensures ∙ c.in-Some.is in
    within c.past_gaps.result.1.now c.in-Some.len c.in-Some.kind (stands c.past_gaps.result.1.now c.in-Some.len c.in-Some.kind is)

pub invariant_of-self : goal.invariant_of-self
invariant_of-self c =
    let is : token_at c.past_gaps.result.1.now ≡ Some (c.in-Some.len, c.in-Some.kind) = sym c.in_ok-token_at.ensures ∙ c.in-Some.is in
    let w = within c.past_gaps.result.1.now c.in-Some.len c.in-Some.kind (stands c.past_gaps.result.1.now c.in-Some.len c.in-Some.kind is) in
    let fits = c.self.invariant.byte in
    let byte = c.past_gaps.ensures.byte in
    next_left c.self.inside.place c.past_gaps.result.0 c.self.inside.rest.now c.past_gaps.result.1.now c.past_gaps.ensures.same c.past_gaps.ensures.none c.in-Some.len c.in-Some.kind c.split_at.result.1.now is c.split_at.ensures.back c.self.invariant.reads
    c.past_token-self-inside.result c.past_token-self-inside.ensures (omega (arith, fits, byte)) c.past_gaps.ensures.line w

pub returns-in-None-clause-none : goal.returns-in-None-clause-none
returns-in-None-clause-none c =
    let is : token_at c.past_gaps.result.1.now ≡ None = sym c.in_ok-token_at.ensures ∙ c.in-None.is in
    let none = sym c.self.view_is ∙ no_more c.self.inside.place c.past_gaps.result.0 c.self.inside.rest.now c.past_gaps.result.1.now c.past_gaps.ensures.same c.past_gaps.ensures.none is in
    ap goes_on none

pub returns-in-Some-clause-some : goal.returns-in-Some-clause-some
returns-in-Some-clause-some c =
    let is : token_at c.past_gaps.result.1.now ≡ Some (c.in-Some.len, c.in-Some.kind) = sym c.in_ok-token_at.ensures ∙ c.in-Some.is in
    sym c.self.view_is ∙ next_told c.self.inside.place c.past_gaps.result.0 c.self.inside.rest.now c.past_gaps.result.1.now c.past_gaps.ensures.same c.past_gaps.ensures.none c.in-Some.len c.in-Some.kind c.split_at.result.1.now is c.split_at.ensures.back c.self.invariant.reads
    c.token.result c.past_token-self-inside.result c.token.ensures c.past_token-self-inside.ensures

pub returns-then-place-clause-none : goal.returns-then-place-clause-none
returns-then-place-clause-none c = ap goes_on (sym c.self.view_is) ∙ begun c.self.inside.place c.past_gaps.result.0 c.self.inside.rest.now c.past_gaps.result.1.now c.past_gaps.ensures.same c.past_gaps.ensures.none c.self.invariant.reads c.if-place.true
