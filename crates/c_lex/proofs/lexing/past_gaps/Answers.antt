use Rattle.std.proofs.Common.{◌≡◌, ◌<◌, ◌+◌, ℕ, eqb, take, drop, length, sym, ap, subst, arith, rules}
use Rattle.std.proofs.lemmas.List.Sums.{count_by-le-length}
use Rattle.c_lex.specs.declared.place.Place.{Place}
use Rattle.c_lex.specs.Gaps.{gap_len}
use Rattle.c_lex.specs.Found.{reading_from}
use Rattle.c_lex.proofs.Steps.{another_gap}
use Rattle.c_lex.proofs.lexing.past_gaps.Goals as goal

pub each-preserved : goal.each-preserved
each-preserved c =
    let e = c.past_gap-at.ensures in
    let text = c.split_at.result.0.now in
    let after = c.split_at.result.1.now in
    let total = reading_from 0 c.args.place c.args.bytes.now in
    let size : c.each.gap ≡ gap_len c.each.rest.now = c.each.invariant.size in
    let byte : c.past_gap-at.result.byte ≡ c.each.at.byte + length text = ap (λ (p : Place). p.byte) e in
    let line = ap (λ (p : Place). p.line) e in
    let some : 0 < gap_len c.each.rest.now = rw (← size) (omega arith) in
    let front : text ≡ take (gap_len c.each.rest.now) c.each.rest.now = subst (λ (n : ℕ). text ≡ take n c.each.rest.now) size c.split_at.ensures.front in
    let back : after ≡ drop (gap_len c.each.rest.now) c.each.rest.now = subst (λ (n : ℕ). after ≡ drop n c.each.rest.now) size c.split_at.ensures.back in
    record {
      same = subst (λ (p : Place). reading_from 0 p after ≡ total) (sym e) (another_gap c.each.at c.each.rest.now text after total c.each.invariant.same some front back);
      size = search rules;
      within = search rules;
      byte = omega arith;
      line = omega (arith, count_by-le-length (λ b. eqb b 10) text);
    }
