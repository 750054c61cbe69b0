use Rattle.std.proofs.Common.{◌≡◌, ◌*◌, length, ap, ◌∙◌, arith}
use Rattle.asset_pack.proofs.Chunks.{length-words}
use Rattle.run_files.proofs.card.read_card.Goals as goal

pub returns-in-Ok : goal.returns-in-Ok
returns-in-Ok c =
    let size : length c.args.bytes.now ≡ 4 * 262144 = omega arith in
    record {
      size = omega arith;
      count = ap length c.in-Ok.ensures ∙ length-words 262144 c.args.bytes.now size;
      words_are = c.in-Ok.ensures;
    }
