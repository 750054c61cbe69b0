use Rattle.std.proofs.Common.{◌≡◌, ◌<◌, ◌+◌, eqb, length, sym, ap, subst, ◌∙◌, arith}
use Rattle.std.specs.Prelude.{None}
use Rattle.std.proofs.lemmas.List.Sums.{count_by-le-length}
use Rattle.c_lex.specs.declared.place.Place.{Place}
use Rattle.c_lex.specs.Gaps.{gap_len}
use Rattle.c_lex.specs.Reading.{stuck}
use Rattle.c_lex.specs.Found.{token_at, reading_of}
use Rattle.c_lex.proofs.OneToken.{stands}
use Rattle.c_lex.proofs.Steps.{Continues, sized, none_of, from_start, past_a_gap, past_a_token, refused, ended, ended_left, whole_left, within}
use Rattle.c_lex.proofs.Readings.{reads_so}
use Rattle.c_lex.proofs.lexing.read_tokens.Goals as goal

pub each-init : goal.each-init
each-init c = record {
  byte = omega arith;
  line = omega arith;
  reads = from_start c.args.file c.args.bytes.now;
}

pub each-preserved-then-gap-gt0 : goal.each-preserved-then-gap-gt0
each-preserved-then-gap-gt0 c =
    let e = c.past_gap-place.ensures in
    let byte : c.past_gap-place.result.byte ≡ c.each.place.byte + length c.split_at.result.0.now = ap (λ (p : Place). p.byte) e in
    let line = ap (λ (p : Place). p.line) e in
    let some : 0 < gap_len c.each.rest.now = rw (← c.gap_len-gap.ensures.value) (omega arith) in
    record {
      byte = omega arith;
      line = omega (arith, count_by-le-length (λ b. eqb b 10) c.split_at.result.0.now);
      reads = subst (λ (p : Place). Continues p c.split_at.result.1.now (reading_of c.args.file c.args.bytes.now)) (sym e)
          (past_a_gap c.each.place c.each.rest.now (reading_of c.args.file c.args.bytes.now) c.each.invariant.reads c.split_at.result.0.now c.split_at.result.1.now some (rw (← c.gap_len-gap.ensures.value) c.split_at.ensures.front) (rw (← c.gap_len-gap.ensures.value) c.split_at.ensures.back));
    }

pub returns-in-None-clause-reading : goal.returns-in-None-clause-reading
returns-in-None-clause-reading c =
    let is : token_at c.each.rest.now ≡ None = none_of (token_at c.each.rest.now) (sym c.in-None.is ∙ c.in_ok-len_at.ensures) in
    let no_gap : gap_len c.each.rest.now ≡ 0 = omega arith in
    rw c.reason_of.ensures (refused c.each.place c.each.rest.now (reading_of c.args.file c.args.bytes.now) c.each.invariant.reads (omega arith) no_gap is)

pub returns-in-None-clause-refused : goal.returns-in-None-clause-refused
returns-in-None-clause-refused c = reads_so c.args.file c.args.bytes.now (stuck c.reason_of.result c.each.place.line c.each.place.byte) (sym (returns-in-None-clause-reading c))

pub split_at-requires-in-Some : goal.split_at-requires-in-Some
split_at-requires-in-Some c =
    let z = sized (token_at c.each.rest.now) c.in-Some.len (sym c.in-Some.is ∙ c.in_ok-len_at.ensures) in
    within c.each.rest.now c.in-Some.len z.kind (stands c.each.rest.now c.in-Some.len z.kind z.is)

pub each-smaller : goal.each-smaller
each-smaller c =
    let z = sized (token_at c.each.rest.now) c.in-Some.len (sym c.in-Some.is ∙ c.in_ok-len_at.ensures) in
    let s = stands c.each.rest.now c.in-Some.len z.kind z.is in
    let w = within c.each.rest.now c.in-Some.len z.kind s in
    omega (arith, s.some)

pub each-preserved : goal.each-preserved
each-preserved c =
    let z = sized (token_at c.each.rest.now) c.in-Some.len (sym c.in-Some.is ∙ c.in_ok-len_at.ensures) in
    let s = stands c.each.rest.now c.in-Some.len z.kind z.is in
    let w = within c.each.rest.now c.in-Some.len z.kind s in
    let no_gap : gap_len c.each.rest.now ≡ 0 = omega arith in
    let e = c.past_token-place.ensures in
    let byte : c.past_token-place.result.byte ≡ c.each.place.byte + c.in-Some.len = ap (λ (p : Place). p.byte) e in
    let line : c.past_token-place.result.line ≡ c.each.place.line = ap (λ (p : Place). p.line) e in
    record {
      byte = omega arith;
      line = omega arith;
      reads = subst (λ (p : Place). Continues p c.split_at-in-Some.result.1.now (reading_of c.args.file c.args.bytes.now)) (sym e)
          (past_a_token c.each.place c.each.rest.now (reading_of c.args.file c.args.bytes.now) c.each.invariant.reads c.split_at-in-Some.result.1.now c.in-Some.len z.kind no_gap z.is c.split_at-in-Some.ensures.back);
    }

pub returns-clause-reading : goal.returns-clause-reading
returns-clause-reading c = ended_left c.args.file c.args.bytes.now (ended c.each.place c.each.rest.now (reading_of c.args.file c.args.bytes.now) c.each.invariant.reads (omega arith))

pub invariant_of-result : goal.invariant_of-result
invariant_of-result c = whole_left c.args.file c.args.bytes.now c.requires.fits (ended_left c.args.file c.args.bytes.now (ended c.each.place c.each.rest.now (reading_of c.args.file c.args.bytes.now) c.each.invariant.reads (omega arith)))

pub returns-clause-tokens : goal.returns-clause-tokens
returns-clause-tokens c = reads_so c.args.file c.args.bytes.now _ (sym (returns-clause-reading c))
