use Rattle.cart_format.specs.Table.{row_text}
use Rattle.cart_format.proofs.Laid.{laid4}
use Rattle.cart_format.proofs.writing.put_row.Goals as goal

pub returns-clause-text : goal.returns-clause-text
unfolding row_text
returns-clause-text c = laid4 _ _ _ _ _ _ _ _ _ c.in_ok-put_word.ensures.text c.in_ok-put_word-2.ensures.text c.in_ok-put_word-3.ensures.text c.in_ok-put_name.ensures
