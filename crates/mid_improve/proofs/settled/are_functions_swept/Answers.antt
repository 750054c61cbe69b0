use Rattle.std.proofs.Common.{subst}
use Rattle.mid_code.specs.Functions.{function}
use Rattle.mid_code.specs.Invariants.{AllOf}
use Rattle.mid_improve.specs.inner.Named.{IsNamed}
use Rattle.mid_improve.specs.inner.Rounds.{HasSettledRuns}
use Rattle.mid_improve.proofs.Whole.{from_one, one_not, one_then, targets_only}
use Rattle.mid_improve.proofs.settled.are_functions_swept.Goals as goal

pub are_targets_live-requires : goal.are_targets_live-requires
are_targets_live-requires c = record { named = (subst (AllOf IsNamed) (from_one c.args.fs.now c.loop-f.f-index c.f-item.result c.loop-f-test.true c.f-item.is) c.loop-f.invariant.named).0; have = c.loop-f.invariant.room }

pub returns-then-not-swept : goal.returns-then-not-swept
returns-then-not-swept c =
    let e = from_one c.args.fs.now c.loop-f.f-index c.f-item.result c.loop-f-test.true c.f-item.is in
    let runs = (subst (AllOf HasSettledRuns) e c.loop-f.invariant.runs).0 in
    one_not c.args.fs.now c.loop-f.f-index c.f-item.result c.in_ok-swept.swept e (targets_only (function c.f-item.result) c.in_ok-swept.swept runs c.in_ok-swept.ensures.live) c.if-not-swept.true c.loop-f.invariant.settled

pub loop-f-preserved : goal.loop-f-preserved
loop-f-preserved c =
    let e = from_one c.args.fs.now c.loop-f.f-index c.f-item.result c.loop-f-test.true c.f-item.is in
    let runs = subst (AllOf HasSettledRuns) e c.loop-f.invariant.runs in
    record {
      named = (subst (AllOf IsNamed) e c.loop-f.invariant.named).1;
      runs = runs.1;
      room = c.in_ok-swept.ensures.have;
      settled = one_then c.args.fs.now c.loop-f.f-index c.f-item.result c.in_ok-swept.swept e (targets_only (function c.f-item.result) c.in_ok-swept.swept runs.0 c.in_ok-swept.ensures.live) c.if-not-swept.false c.loop-f.invariant.settled;
    }
