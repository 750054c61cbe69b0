use Rattle.std.proofs.Common.{◌≡◌, ◌++◌, take}
use Rattle.asset_pack.specs.Words.{words_text}
use Rattle.asset_pack.proofs.words.put_words.Given as goal

abbrev pub invariant-each : goal.invariant-each
invariant-each l = l.out.items ≡ l.fn.out.items ++ words_text (take l.word-index l.words)
