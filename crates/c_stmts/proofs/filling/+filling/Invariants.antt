use Rattle.std.proofs.Common.{◌≡◌, drop, map, length, option_map}
use Rattle.c_tree.specs.View.{init, inits}
use Rattle.c_types.specs.View.{ctype, layout, tinit}
use Rattle.c_exprs.specs.View.{ctx}
use Rattle.c_stmts.specs.Slots.{slots_for}
use Rattle.c_stmts.specs.inner.Places.{slots_behind}
use Rattle.c_stmts.specs.InitTyping.{all_filled_by}
use Rattle.c_stmts.proofs.InitFronts.{before}
use Rattle.c_stmts.proofs.filling.+filling.Given as goal

abbrev pub invariant-all_filled_by-loop-i : goal.invariant-all_filled_by-loop-i
invariant-all_filled_by-loop-i l = record {
  counted : length l.found.items ≡ l.i-index;
  due : before (map tinit l.found.items) (all_filled_by (ctx l.globals l.scopes) l.texts l.global (slots_behind l.i-index (slots_for (map layout l.globals.layouts.items) (option_map (λ t. ctype t.now) l.target))) (inits (map init (drop l.i-index l.items)))) ≡ all_filled_by (ctx l.globals l.scopes) l.initial.texts l.global (slots_for (map layout l.globals.layouts.items) (option_map (λ t. ctype t.now) l.target)) (inits (map init l.items));
}
