use Rattle.std.proofs.Common.{◌≡◌, ◌++◌, subst}
use Rattle.std.specs.Prelude.{OnOk}
use Rattle.cart_format.specs.Cartridge.{Cartridge, sections_text}
use Rattle.cart_format.proofs.Limits.{same_parts}
use Rattle.cart_format.proofs.writing.put_sections.Goals as goal

pub returns-clause-text : goal.returns-clause-text
returns-clause-text c =
    subst (λ (x : Cartridge). OnOk c.put_parts.result (c.put_parts.new.out.items ≡ c.args.out.now.items ++ sections_text x))
    (same_parts c.args.cart.now _ _ _ _ c.program.ensures.program c.textures.ensures.textures c.sounds.ensures.sounds c.table.ensures.table) (c.put_parts.ensures.text c.args.cart.now.title)
