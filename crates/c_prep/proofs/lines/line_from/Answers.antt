use Rattle.std.proofs.Common.{◌≡◌, List, [], ◌∷◌, ◌++◌, false, length, sym, ap, subst, ◌∙◌, arith, rules}
use Rattle.c_lex.specs.declared.token.Token.{Token}
use Rattle.c_lex.specs.Reading.{goes_on}
use Rattle.c_prep.specs.Lines.{IsLine}
use Rattle.c_prep.proofs.Taking.{at_some, at_none, line_more, line_whole, parts_more}
use Rattle.c_prep.proofs.lines.line_from.Goals as goal

pub each-init : goal.each-init
each-init c =
    let is : c.push.new.self.items ≡ c.args.first ∷ [] = search rules in
    record { parts = ap (λ (l : List Token). l ++ c.args.tokens.now) (sym is); is_line = subst IsLine (sym is) tt; less = omega arith }

pub each-preserved : goal.each-preserved
each-preserved c =
    let some : c.each.tokens ≡ c.in-Some.token ∷ c.next_in_line.new.self = at_some (λ (t : Token). c.each.tokens ≡ t ∷ c.next_in_line.new.self) _ c.in-Some.token c.in-Some.is c.in_ok-token.ensures.some in
    let here : c.in-Some.token.first ≡ false = at_some (λ (t : Token). t.first ≡ false) _ c.in-Some.token c.in-Some.is c.in_ok-token.ensures.here in
    let is : c.push-in-Some.new.self.items ≡ c.each.line.items ++ c.in-Some.token ∷ [] = search rules in
    let size = ap length some in
    let less = c.each.invariant.less in
    record {
      parts = parts_more _ c.each.line.items c.each.tokens c.next_in_line.new.self c.push-in-Some.new.self.items c.in-Some.token c.each.invariant.parts some is;
      is_line = subst IsLine (sym is) (line_more c.each.line.items c.in-Some.token c.each.invariant.is_line here);
      less = omega (arith, size, less);
    }

pub returns-clause-line : goal.returns-clause-line
returns-clause-line c =
    let end = at_none (goes_on c.each.tokens ≡ false) _ c.in_default.is c.in_ok-token.ensures.none in
    let left = at_none (c.next_in_line.new.self ≡ c.each.tokens) _ c.in_default.is c.in_ok-token.ensures.left in
    line_whole _ c.each.line.items c.each.tokens c.next_in_line.new.self c.each.invariant.parts c.each.invariant.is_line end left

pub returns-clause-parts : goal.returns-clause-parts
returns-clause-parts c =
    let left = at_none (c.next_in_line.new.self ≡ c.each.tokens) _ c.in_default.is c.in_ok-token.ensures.left in
    c.each.invariant.parts ∙ ap (λ (ts : List Token). c.each.line.items ++ ts) (sym left)
