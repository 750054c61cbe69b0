use Rattle.std.proofs.Common.{subst}
use Rattle.mid_code.specs.Invariants.{AllOf}
use Rattle.mid_improve.specs.inner.Named.{IsNamed}
use Rattle.mid_improve.proofs.Whole.{from_one, one_not, one_then}
use Rattle.mid_improve.proofs.settled.are_functions_settled.Goals as goal

pub is_function_settled-requires : goal.is_function_settled-requires
is_function_settled-requires c = record { named = (subst (AllOf IsNamed) (from_one c.args.fs.now c.loop-f.f-index c.f-item.result c.loop-f-test.true c.f-item.is) c.loop-f.invariant.named).0; have = c.loop-f.invariant.room }

pub returns-then-not-settled : goal.returns-then-not-settled
returns-then-not-settled c =
    one_not c.args.fs.now c.loop-f.f-index c.f-item.result c.in_ok-settled.settled (from_one c.args.fs.now c.loop-f.f-index c.f-item.result c.loop-f-test.true c.f-item.is) c.in_ok-settled.ensures.settled c.if-not-settled.true c.loop-f.invariant.settled

pub loop-f-preserved : goal.loop-f-preserved
loop-f-preserved c =
    let e = from_one c.args.fs.now c.loop-f.f-index c.f-item.result c.loop-f-test.true c.f-item.is in
    record {
      named = (subst (AllOf IsNamed) e c.loop-f.invariant.named).1;
      room = c.in_ok-settled.ensures.have;
      settled = one_then c.args.fs.now c.loop-f.f-index c.f-item.result c.in_ok-settled.settled e c.in_ok-settled.ensures.settled c.if-not-settled.false c.loop-f.invariant.settled;
    }
