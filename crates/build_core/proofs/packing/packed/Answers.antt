use Rattle.std.proofs.Common.{◌≡◌, false, rules, subst}
use Rattle.std.specs.Prelude.{codes}
use Rattle.std.specs.List.{AllByRecursion}
use Rattle.asset_pack.specs.Texts.{HasSides, HasSamples}
use Rattle.cart_format.specs.Cartridge.{is_cart}
use Rattle.c_image.specs.Imaging.{image}
use Rattle.build_core.specs.Due.{assets}
use Rattle.build_core.specs.Build.{cartridge_of}
use Rattle.build_core.proofs.Limits.{too_large}
use Rattle.build_core.proofs.packing.packed.Goals as goal

pub returns-in_default-clause-kinds : goal.returns-in_default-clause-kinds
returns-in_default-clause-kinds c =
    let none : is_cart (cartridge_of c.args.title (image c.args.made) (assets c.args.textures.items c.args.sounds.items)) ≡ false = search rules in
    let named : c.in-Ok.name ≡ codes "cartridge" = search rules in (
      named,
      record {
        sides = subst (AllByRecursion HasSides) c.deref.ensures.value c.have_sides.ensures;
        samples = subst (AllByRecursion HasSamples) c.deref-2.ensures.value c.have_samples.ensures;
        large = too_large c.args.title c.args.made.words.items c.args.textures.items c.args.sounds.items (image c.args.made).table
            c.requires.title c.requires.some c.requires.few c.requires.textures c.requires.sounds c.requires.table none;
      },
    )
