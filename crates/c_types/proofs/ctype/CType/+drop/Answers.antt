use Rattle.std.proofs.Common.{rules, arith, ◌≡◌, ◌≤◌, ◌<◌}
use Rattle.c_types.specs.Types.{PointerY, ArrayY}
use Rattle.c_types.specs.Ctype.{ctype}
use Rattle.c_types.specs.inner.FurtherDown.{run_lower}
use Rattle.c_types.specs.inner.Heights.{height}
use Rattle.c_types.proofs.ctype.CType.+drop.Goals as goal
use Rattle.c_types.proofs.ctype.CType.+drop.Goals.{in-Pointer, in-Array}

pub drop-last-inside-requires : goal.drop-last-inside-requires
drop-last-inside-requires t c =
    let below : height c.in-Some.last < height (ctype c.loop-self.self) = elim c.match-self.branch [
      | in-Pointer w ↦ (let is : ctype c.loop-self.self ≡ PointerY c.in-Some.last = search rules in rw is (omega arith))
      | in-Array w ↦ (let is : ctype c.loop-self.self ≡ ArrayY c.in-Some.last w.in-Array.field-1 = search rules in rw is (omega arith))
    ] in
    let led : height (ctype c.last.inside.to) ≤ height c.in-Some.last = rw (← c.last.view_is) (run_lower (ctype c.last.inside.ty) c.last.inside.times (ctype c.last.inside.to) c.last.invariant) in
    (omega (arith, below, led, c.loop-self.invariant), tt {0})

pub loop-self-preserved : goal.loop-self-preserved
loop-self-preserved t c =
    let below : height c.in-Some.last < height (ctype c.loop-self.self) = elim c.match-self.branch [
      | in-Pointer w ↦ (let is : ctype c.loop-self.self ≡ PointerY c.in-Some.last = search rules in rw is (omega arith))
      | in-Array w ↦ (let is : ctype c.loop-self.self ≡ ArrayY c.in-Some.last w.in-Array.field-1 = search rules in rw is (omega arith))
    ] in
    rw c.last.view_is (omega (arith, below, c.loop-self.invariant))
