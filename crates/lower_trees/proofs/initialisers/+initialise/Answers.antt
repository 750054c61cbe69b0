use Rattle.std.proofs.Common.{rules, ◌≡◌, sym, subst, map}
use Rattle.std.specs.Prelude.{OnOk}
use Rattle.c_types.specs.View.{tinit, tinits, or_void}
use Rattle.c_types.specs.Typed.{ListI}
use Rattle.c_types.specs.declared.typed.TInit.{the_lemmas}
use Rattle.lower_trees.specs.Counts.{init_temps, init_sizes}
use Rattle.lower_trees.specs.Initialisers.{low_init}
use Rattle.lower_trees.specs.inner.Adding.{Adds}
use Rattle.lower_trees.specs.View.{shape_of}
use Rattle.lower_trees.proofs.initialisers.+initialise.Goals as goal

pub initialise-returns-in-List : goal.initialise-returns-in-List
initialise-returns-in-List t c =
    let h = shape_of c.args.s.now in
    let e : tinit c.args.of.now ≡ ListI (tinits (map tinit c.as_slice.result.now)) = search (rules, the_lemmas) in
    record { adds = subst (λ z. OnOk c.initialise_all.result (Adds c.args.out.now c.initialise_all.new.out (low_init h z (or_void c.args.part.ty) c.args.part.pointer c.args.part.offset) (init_temps z) (init_sizes h z))) (sym e) c.initialise_all.ensures.adds }
