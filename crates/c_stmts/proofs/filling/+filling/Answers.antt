use Rattle.std.proofs.Common.{arith, ◌≡◌, ◌+◌, ◌++◌, ◌∷◌, [], map, option_map, drop, ◌∙◌, sym, refl, add-one}
use Rattle.std.proofs.lemmas.List.{map_push}
use Rattle.std.proofs.Math.Seq.{drop-cons}
use Rattle.std.proofs.Math.ListN.{get_or}
use Rattle.std.proofs.lemmas.List.{drop_all}
use Rattle.c_tree.specs.declared.variable.Init.{Init}
use Rattle.c_tree.specs.View.{init, inits}
use Rattle.c_types.specs.View.{ctype, layout, tinit}
use Rattle.c_exprs.specs.View.{ctx}
use Rattle.c_stmts.specs.Slots.{slots_for}
use Rattle.c_stmts.proofs.InitFronts.{before-push, before-end, length-push}
use Rattle.c_stmts.proofs.filling.+filling.Goals as goal

pub all_filled_by-loop-i-preserved : goal.all_filled_by-loop-i-preserved
all_filled_by-loop-i-preserved t c =
    let i = c.loop-i.i-index in
    let es = c.args.items.now in
    let e : Init = c.i-item.result in
    let here : get_or es i e ≡ e = grind arith in
    let split : drop i es ≡ e ∷ drop (i + 1) es = rw (add-one, drop-cons es i e (omega arith), here) refl in
    let index : c.len.result ≡ i = grind arith in
    let slots = slots_for (map layout c.args.globals.now.layouts.items) (option_map (λ t. ctype t.now) c.args.target) in
    let place = rw (index, c.deref.ensures.value) at c.slot_at-slot.ensures in
    let typed = rw place at c.in_ok-x.ensures in
    let pushed : map tinit c.push.new.self.items ≡ map tinit c.loop-i.found.items ++ tinit c.in_ok-x.x ∷ [] = rw c.in_ok-push.ensures.items (map_push tinit c.loop-i.found.items c.in_ok-x.x) in
    let on = before-push (ctx c.args.globals.now c.args.scopes.now) (map tinit c.loop-i.found.items) c.loop-i.texts c.filled_by.new.texts c.args.global slots i (init e) (inits (map init (drop (i + 1) es))) (tinit c.in_ok-x.x) typed in
    let rest = rw split at c.loop-i.invariant.due in
    record {
      counted = rw c.in_ok-push.ensures.items (length-push c.loop-i.found.items c.in_ok-x.x ∙ omega (arith, c.loop-i.invariant.counted));
      due = rw pushed (on ∙ rest);
    }

pub all_filled_by-returns : goal.all_filled_by-returns
all_filled_by-returns t c =
    let none = drop_all c.loop-i.i-index c.args.items.now c.loop-i-test.false in
    let rest = rw none at c.loop-i.invariant.due in
    sym rest ∙ before-end (map tinit c.loop-i.found.items) c.loop-i.texts
