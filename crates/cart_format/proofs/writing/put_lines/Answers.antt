use Rattle.cart_format.specs.Table.{table_text}
use Rattle.cart_format.proofs.Laid.{laid4}
use Rattle.cart_format.proofs.writing.put_lines.Goals as goal

pub returns-clause-text : goal.returns-clause-text
unfolding table_text
returns-clause-text c = laid4 _ _ _ _ _ _ _ _ _ c.in_ok-extend_from_slice.ensures.items c.in_ok-put_words.ensures.text c.in_ok-put_names.ensures c.in_ok-put_rows.ensures.text
