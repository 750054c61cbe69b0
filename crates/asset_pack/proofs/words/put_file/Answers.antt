use Rattle.asset_pack.proofs.Refused.{on_refusal, second_begun, third_begun}
use Rattle.asset_pack.proofs.words.put_file.Goals as goal

-- src/words.rt:89:5
pub returns-in_err-put_words-clause-refused : goal.returns-in_err-put_words-clause-refused
returns-in_err-put_words-clause-refused c =
    on_refusal _ (second_begun _ _ _ _ _ _ c.in_ok-extend_from_slice.ensures.items c.in_err-put_words.ensures.refused)

-- src/words.rt:90:5
pub returns-in_err-put_words-2-clause-refused : goal.returns-in_err-put_words-2-clause-refused
returns-in_err-put_words-2-clause-refused c =
    on_refusal _ (third_begun _ _ _ _ _ _ _ c.in_ok-extend_from_slice.ensures.items c.in_ok-put_words.ensures.text c.in_err-put_words-2.ensures.refused)
