use Rattle.std.proofs.Common.{rules, ◌≡◌}
use Rattle.mid_code.specs.Whole.{mid}
use Rattle.mid_improve.proofs.Made.{begins, round, falls, done}
use Rattle.mid_improve.proofs.fixpoint.settle.Goals as goal

pub rounds-init : goal.rounds-init
rounds-init c = begins (mid c.args.m) (mid c.in_ok-at.at) c.in_ok-left.left.items c.in_ok-at.ensures.promoted c.in_ok-left.ensures.counts

pub returns-then-are_same : goal.returns-then-are_same
returns-then-are_same c =
    let same : c.in_ok-now.now.items ≡ c.rounds.left.items = search rules in
    record { settled = done (mid c.args.m) (mid c.rounds.at) (mid c.in_ok-improve.field-0) (mid c.in_ok-at-2.at) c.rounds.left.items c.in_ok-now.now.items c.rounds.invariant c.in_ok-improve.ensures.improved c.in_ok-at-2.ensures.promoted c.in_ok-now.ensures.counts same }

pub rounds-smaller : goal.rounds-smaller
rounds-smaller c =
    let differ : c.in_ok-now.now.items ≡ c.rounds.left.items → ⊥ = search rules in
    falls (mid c.args.m) (mid c.rounds.at) (mid c.in_ok-improve.field-0) (mid c.in_ok-at-2.at) c.rounds.left.items c.in_ok-now.now.items c.rounds.invariant c.in_ok-improve.ensures.improved c.in_ok-at-2.ensures.promoted c.in_ok-now.ensures.counts differ

pub rounds-preserved : goal.rounds-preserved
rounds-preserved c =
    round (mid c.args.m) (mid c.rounds.at) (mid c.in_ok-improve.field-0) (mid c.in_ok-at-2.at) c.rounds.left.items c.in_ok-now.now.items c.rounds.invariant c.in_ok-improve.ensures.improved c.in_ok-at-2.ensures.promoted c.in_ok-now.ensures.counts
