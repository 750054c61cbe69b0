use Rattle.std.proofs.Common.{rules, inl, inr, ◌<◌, ◌+◌, ◌*◌, ◌/◌, ◌%◌, ◌^◌, get_or, ap, sym, subst, ◌∙◌, w64}
use Rattle.std.specs.Int.{trailing_zeros}
use Rattle.mid_live.proofs.Bits.{lt_or, none_before}
use Rattle.mid_live.proofs.Written.{none_between}
use Rattle.mid_live.proofs.words.next_held.Goals as goal

pub returns-then-w-eq0-clause-none : goal.returns-then-w-eq0-clause-none
returns-then-w-eq0-clause-none c = λ j a b. elim (lt_or j (64 * c.next_bit-next.result)) [
  | inl l ↦ none_between c.args.words.now c.args.held.now c.args.i c.next_bit-next.result j c.requires.held (ap (λ z. z / 2 ^ (c.args.i % 64)) (sym c.word.ensures) ∙ c.if-w-eq0.true) c.next_bit-next.ensures.none a l
  | inr m ↦ c.next_bit.ensures.none j m b
]

pub returns-else-w-eq0-clause-none : goal.returns-else-w-eq0-clause-none
returns-else-w-eq0-clause-none c = λ j a b.
    let fits : get_or c.args.words.now (c.args.i / 64) 0 < 2 ^ 64 = search rules in
    none_before c.args.words.now c.args.i j fits (λ e. c.if-w-eq0.false (ap (λ z. z / 2 ^ (c.args.i % 64)) c.word.ensures ∙ e)) a (subst (λ z. j < c.args.i + trailing_zeros w64 (z / 2 ^ (c.args.i % 64))) c.word.ensures b)
