use Rattle.cart_format.specs.Cartridge.{sections_text}
use Rattle.cart_format.proofs.Laid.{laid4}
use Rattle.cart_format.proofs.writing.put_parts.Goals as goal

pub returns-clause-text : goal.returns-clause-text
unfolding sections_text
returns-clause-text c = λ title. laid4 _ _ _ _ _ _ _ _ _ c.in_ok-put_words_file.ensures.text c.in_ok-put_textures.ensures.text c.in_ok-put_sounds.ensures.text c.in_ok-put_tail.ensures.text
