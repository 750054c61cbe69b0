use Rattle.std.proofs.Common.{arith, ◌≡◌, length, ◌∙◌}
use Rattle.std.proofs.lemmas.List.{take_at}
use Rattle.asset_pack.proofs.Chunks.{read_each}
use Rattle.asset_pack.proofs.words.words_of.Goals as goal

pub returns : goal.returns
returns c =
    let len : length c.read_u32_into.new.dst ≡ c.in_ok-words.words.len = omega (arith, c.in_ok-words.ensures.len) in
    take_at c.read_u32_into.new.dst _ _ len
    ∙ read_each c.read_u32_into.new.dst c.args.bytes.now (omega (arith, c.in_ok-words.ensures.len)) c.read_u32_into.ensures
