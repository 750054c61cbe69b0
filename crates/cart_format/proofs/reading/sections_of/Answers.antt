use Rattle.std.proofs.Common.{arith}
use Rattle.std.proofs.lemmas.Result.{err_from_is_err_and}
use Rattle.cart_format.proofs.Whole.{whole, fails, keeps}
use Rattle.cart_format.proofs.reading.sections_of.Goals as goal

pub returns-in_err-parts : goal.returns-in_err-parts
returns-in_err-parts c =
    let p = err_from_is_err_and c.from_residual.result c.from_residual.ensures.1 in
    rw (p.1, p.2) (fails c.args.bytes.now _ _ _ _ c.word_at-revision.ensures c.word_at-words.ensures c.word_at-textures.ensures c.word_at-sounds.ensures _ c.split_at.ensures.back c.in_err-parts.field-0.0 c.in_err-parts.ensures)

pub of_parts-requires : goal.of_parts-requires
of_parts-requires c =
    rw c.in-Ok.ensures (keeps c.args.bytes.now _ _ _ _ c.word_at-revision.ensures c.word_at-words.ensures c.word_at-textures.ensures c.word_at-sounds.ensures _ c.split_at.ensures.back (λ i. omega (arith, c.type_inv.bytes i)) c.requires _ c.in_ok-parts.ensures)

pub returns : goal.returns
returns c =
    rw (c.of_parts.ensures, c.in-Ok.ensures) (whole c.args.bytes.now _ _ _ _ c.word_at-revision.ensures c.word_at-words.ensures c.word_at-textures.ensures c.word_at-sounds.ensures _ c.split_at.ensures.back _ c.in_ok-parts.ensures)
