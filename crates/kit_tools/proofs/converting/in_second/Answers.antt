use Rattle.std.proofs.Common.{rules, sym, ap, ◌∙◌}
use Rattle.cart_format.specs.Cartridge.{is_cart}
use Rattle.kit_tools.proofs.Seconds.{second_kept, second_made, second_over, second_long, same_second}
use Rattle.kit_tools.proofs.converting.in_second.Goals as goal

pub returns-then-revision-eq2-clause-given : goal.returns-then-revision-eq2-clause-given
returns-then-revision-eq2-clause-given c = second_kept c.args.cart (search rules) (search rules)

pub returns-in-Some-clause-given : goal.returns-in-Some-clause-given
returns-in-Some-clause-given c =
    let same = same_second c.args.cart c.revision.result c.into_parts-title.result.title c.into_parts-title.result.program.items c.into_parts-title.result.textures.items c.into_parts-title.result.sounds.items
    c.new-files.result.items c.new-rows.result.items (search rules) (search rules) (search rules) (search rules) (search rules) (search rules) (search rules) (search rules) in
    second_made c.args.cart c.in-Some.second (c.in-Some.ensures.made ∙ same) c.in-Some.ensures.limits

pub returns-in-None-clause-given : goal.returns-in-None-clause-given
returns-in-None-clause-given c =
    let same = same_second c.args.cart c.revision.result c.into_parts-title.result.title c.into_parts-title.result.program.items c.into_parts-title.result.textures.items c.into_parts-title.result.sounds.items
    c.new-files.result.items c.new-rows.result.items (search rules) (search rules) (search rules) (search rules) (search rules) (search rules) (search rules) (search rules) in
    second_long c.args.cart (second_over c.args.cart c.requires (ap is_cart (sym same) ∙ c.in-None.ensures.none))

pub returns-in-None-clause-own : goal.returns-in-None-clause-own
returns-in-None-clause-own c =
    let same = same_second c.args.cart c.revision.result c.into_parts-title.result.title c.into_parts-title.result.program.items c.into_parts-title.result.textures.items c.into_parts-title.result.sounds.items
    c.new-files.result.items c.new-rows.result.items (search rules) (search rules) (search rules) (search rules) (search rules) (search rules) (search rules) (search rules) in
    second_over c.args.cart c.requires (ap is_cart (sym same) ∙ c.in-None.ensures.none)
