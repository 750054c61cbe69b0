use Rattle.assembler.proofs.Pieces.{more}
use Rattle.assembler.proofs.texts.first_piece.Goals as goal

pub returns-in-Some-clause-parts : goal.returns-in-Some-clause-parts
returns-in-Some-clause-parts c =
    more c.args.bytes.now c.split_at.result.0.now c.split_at.result.1.now c.if-bytes-lt-PIECE.least c.line_end.result c.line_end.ensures.value c.split_at.ensures.front c.split_at.ensures.back
    _ c.in-Some.after.now c.in-Some.ensures.cases.0
