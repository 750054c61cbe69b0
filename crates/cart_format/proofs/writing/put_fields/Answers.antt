use Rattle.cart_format.specs.Cartridge.{header_text}
use Rattle.cart_format.proofs.Laid.{laid4}
use Rattle.cart_format.proofs.writing.put_fields.Goals as goal

pub returns : goal.returns
unfolding header_text
returns c = laid4 _ _ _ _ _ _ _ _ _ c.in_ok-extend_from_slice.ensures.items c.in_ok-put_words.ensures.text c.in_ok-put_title.ensures c.in_ok-put_zeros.ensures
