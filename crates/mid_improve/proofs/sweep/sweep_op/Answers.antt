use Rattle.std.proofs.Common.{rules, ◌≡◌, true, false}
use Rattle.mid_code.specs.declared.node.Node.{the_lemmas, Do}
use Rattle.mid_code.specs.Functions.{DoN, node}
use Rattle.mid_live.specs.Sets.{on}
use Rattle.mid_live.specs.Labels.{labels_of}
use Rattle.mid_improve.specs.inner.Wanted.{Labels, op_wanted}
use Rattle.mid_improve.proofs.SweepJoined.{not_wanted_left, wanted_left}
use Rattle.mid_improve.proofs.sweep.sweep_op.Goals as goal

pub returns-then-not-is_op_wanted-clause-is : goal.returns-then-not-is_op_wanted-clause-is
returns-then-not-is_op_wanted-clause-is c =
    let ls : Labels = λ y. labels_of y c.args.m.now in
    let e : node (Do c.args.o.now) ≡ DoN c.args.o.now = search (rules, the_lemmas) in
    let w : op_wanted c.args.count c.args.o.now (on c.args.s.now) ≡ false = search rules in
    λ y h. not_wanted_left c.args.count ls (node (Do c.args.o.now)) c.args.o.now (on c.args.s.now) e w y

pub returns-clause-is : goal.returns-clause-is
returns-clause-is c =
    let ls : Labels = λ y. labels_of y c.args.m.now in
    let e : node (Do c.args.o.now) ≡ DoN c.args.o.now = search (rules, the_lemmas) in
    let w : op_wanted c.args.count c.args.o.now (on c.args.s.now) ≡ true = search rules in
    λ y h. wanted_left c.args.count ls (node (Do c.args.o.now)) c.args.o.now (on c.args.s.now) e w y _ (c.before_op.ensures.is y h)
