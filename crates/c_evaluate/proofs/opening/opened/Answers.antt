use Rattle.std.proofs.Common.{option_map}
use Rattle.obj_mem.specs.View.{objects}
use Rattle.c_evaluate.proofs.Opened.{all_opened}
use Rattle.c_evaluate.proofs.opening.opened.Goals as goal

pub returns : goal.returns
returns c =
    all_opened c.args.globals.now c.args.literals.now (option_map (λ w. w.now) c.args.card)
    (objects c.new-os.result) (objects c.make_globals.new.os) (objects c.make_literals.new.os) (objects c.make_card.new.os)
    c.new-os.ensures c.in_ok-make_globals.ensures c.in_ok-make_literals.ensures c.in_ok-make_card.ensures
