use Rattle.std.proofs.Common.{◌∙◌, sym, ap, ℕ, map, option_map}
use Rattle.c_types.specs.View.{ctype, layout}
use Rattle.c_stmts.specs.Slots.{has_room, slots_for}
use Rattle.c_stmts.proofs.InitFronts.{item_count-length}
use Rattle.c_stmts.proofs.filling.have_room.Goals as goal

pub returns : goal.returns
returns c = c.has_room.ensures ∙ ap (λ (n : ℕ). has_room n (slots_for (map layout c.args.layouts.now) (option_map (λ t. ctype t.now) c.args.target))) (sym (item_count-length c.args.items.now))
