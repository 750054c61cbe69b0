use Rattle.std.proofs.Common.{◌≡◌, ◌||◌, not, List, [], ◌∷◌, false, length, refl, sym, ap, subst, ◌∙◌, arith}
use Rattle.c_lex.specs.declared.token.Token.{Token}
use Rattle.c_prep.specs.Lines.{begins_directive, lines_of}
use Rattle.c_prep.specs.Files.{lines_at}
use Rattle.c_prep.specs.inner.Inner.{ArePlaced}
use Rattle.c_prep.proofs.Taking.{at_some, at_none, both_no, no_lines_left, passed, placed_parts}
use Rattle.c_prep.proofs.lines.next_line.Goals as goal

pub each-init : goal.each-init
each-init c = record { same = λ include p cs skip. refl; placed = λ n a. a; less = omega arith }

pub each-preserved : goal.each-preserved
each-preserved c =
    let some : c.each.tokens ≡ c.in-Some.token ∷ c.next.new.self = at_some (λ (t : Token). c.each.tokens ≡ t ∷ c.next.new.self) _ c.in-Some.token c.in-Some.is c.in_ok-token.ensures.some in
    let kept : (not c.args.skipped || begins_directive c.in-Some.token) ≡ false = sym c.is_kept.ensures ∙ c.if-is_kept.false in
    let no = both_no c.args.skipped (begins_directive c.in-Some.token) kept in
    let size = ap length some in
    let less = c.each.invariant.less in
    record {
      same = λ include p cs skip. c.each.invariant.same include p cs skip ∙ ap (λ (ts : List Token). lines_at include (lines_of ts) p cs) some ∙ passed include p cs (skip ∙ no.0) c.in-Some.token c.next.new.self no.1;
      placed = λ n a. let all : ArePlaced n (c.in-Some.token ∷ c.next.new.self) = subst (ArePlaced n) some (c.each.invariant.placed n a) in all.1;
      less = omega (arith, size, less);
    }

pub each-preserved-else-is_kept : goal.each-preserved-else-is_kept
each-preserved-else-is_kept c =
    let some : c.each.tokens ≡ c.in-Some.token ∷ c.next.new.self = at_some (λ (t : Token). c.each.tokens ≡ t ∷ c.next.new.self) _ c.in-Some.token c.in-Some.is c.in_ok-token.ensures.some in
    let kept : (not c.args.skipped || begins_directive c.in-Some.token) ≡ false = sym c.is_kept.ensures ∙ c.if-is_kept.false in
    let no = both_no c.args.skipped (begins_directive c.in-Some.token) kept in
    let size = ap length some in
    let less = c.each.invariant.less in
    record {
      same = λ include p cs skip. c.each.invariant.same include p cs skip ∙ ap (λ (ts : List Token). lines_at include (lines_of ts) p cs) some ∙ passed include p cs (skip ∙ no.0) c.in-Some.token c.next.new.self no.1;
      placed = λ n a. let all : ArePlaced n (c.in-Some.token ∷ c.next.new.self) = subst (ArePlaced n) some (c.each.invariant.placed n a) in all.1;
      less = omega (arith, size, less);
    }

pub each-preserved-else-is_kept-2 : goal.each-preserved-else-is_kept-2
each-preserved-else-is_kept-2 c =
    let some : c.each.tokens ≡ c.in-Some.token ∷ c.next.new.self = at_some (λ (t : Token). c.each.tokens ≡ t ∷ c.next.new.self) _ c.in-Some.token c.in-Some.is c.in_ok-token.ensures.some in
    let kept : (not c.args.skipped || begins_directive c.in-Some.token) ≡ false = sym c.is_kept.ensures ∙ c.if-is_kept.false in
    let no = both_no c.args.skipped (begins_directive c.in-Some.token) kept in
    let size = ap length some in
    let less = c.each.invariant.less in
    record {
      same = λ include p cs skip. c.each.invariant.same include p cs skip ∙ ap (λ (ts : List Token). lines_at include (lines_of ts) p cs) some ∙ passed include p cs (skip ∙ no.0) c.in-Some.token c.next.new.self no.1;
      placed = λ n a. let all : ArePlaced n (c.in-Some.token ∷ c.next.new.self) = subst (ArePlaced n) some (c.each.invariant.placed n a) in all.1;
      less = omega (arith, size, less);
    }

pub returns-then-is_kept-clause-told : goal.returns-then-is_kept-clause-told
returns-then-is_kept-clause-told c = λ include p cs skip.
    let some : c.each.tokens ≡ c.in-Some.token ∷ c.next.new.self = at_some (λ (t : Token). c.each.tokens ≡ t ∷ c.next.new.self) _ c.in-Some.token c.in-Some.is c.in_ok-token.ensures.some in
    c.each.invariant.same include p cs skip ∙ ap (λ (ts : List Token). lines_at include (lines_of ts) p cs) some ∙ ap (λ (ls : List (List Token)). lines_at include ls p cs) c.in_ok-line_from.ensures.line

pub returns-then-is_kept-clause-less : goal.returns-then-is_kept-clause-less
returns-then-is_kept-clause-less c =
    let some : c.each.tokens ≡ c.in-Some.token ∷ c.next.new.self = at_some (λ (t : Token). c.each.tokens ≡ t ∷ c.next.new.self) _ c.in-Some.token c.in-Some.is c.in_ok-token.ensures.some in
    let size = ap length some in
    let less = c.each.invariant.less in
    let after = c.in_ok-line_from.ensures.less in
    omega (arith, size, less, after)

pub returns-then-is_kept-clause-placed : goal.returns-then-is_kept-clause-placed
returns-then-is_kept-clause-placed c = λ n a.
    let some : c.each.tokens ≡ c.in-Some.token ∷ c.next.new.self = at_some (λ (t : Token). c.each.tokens ≡ t ∷ c.next.new.self) _ c.in-Some.token c.in-Some.is c.in_ok-token.ensures.some in
    (placed_parts n _ _ (subst (ArePlaced n) c.in_ok-line_from.ensures.parts (subst (ArePlaced n) some (c.each.invariant.placed n a)))).0

pub returns-then-is_kept-clause-others : goal.returns-then-is_kept-clause-others
returns-then-is_kept-clause-others c = λ n a.
    let some : c.each.tokens ≡ c.in-Some.token ∷ c.next.new.self = at_some (λ (t : Token). c.each.tokens ≡ t ∷ c.next.new.self) _ c.in-Some.token c.in-Some.is c.in_ok-token.ensures.some in
    (placed_parts n _ _ (subst (ArePlaced n) c.in_ok-line_from.ensures.parts (subst (ArePlaced n) some (c.each.invariant.placed n a)))).1

pub returns-clause-told : goal.returns-clause-told
returns-clause-told c = λ include p cs skip.
    let none = at_none (c.each.tokens ≡ []) _ c.in_default.is c.in_ok-token.ensures.none in
    c.each.invariant.same include p cs skip ∙ ap (λ (ls : List (List Token)). lines_at include ls p cs) (no_lines_left c.each.tokens none)
