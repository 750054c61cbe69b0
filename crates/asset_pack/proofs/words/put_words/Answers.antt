use Rattle.asset_pack.proofs.Refused.{on_refusal, words_begun}
use Rattle.asset_pack.proofs.words.put_words.Goals as goal

-- src/words.rt:71:9
pub returns-in_err-put_word-clause-refused : goal.returns-in_err-put_word-clause-refused
returns-in_err-put_word-clause-refused c =
    on_refusal _ (words_begun c.args.words.now c.args.out.now.items _ c.put_word.new.out.items _ c.each.invariant c.in_err-put_word.ensures.refused)
