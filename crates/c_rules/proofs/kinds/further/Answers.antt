use Rattle.std.proofs.Common.{rules, ◌≡◌, ◌≤◌}
use Rattle.c_types.specs.inner.FurtherDown.{lower}
use Rattle.c_types.specs.inner.Heights.{height}
use Rattle.c_types.specs.Derivations.{repeated}
use Rattle.c_types.specs.Ctype.{ctype}
use Rattle.c_rules.proofs.Walks.{same_further}
use Rattle.c_rules.proofs.kinds.further.Goals as goal

pub returns-then-same_run-clause-same : goal.returns-then-same_run-clause-same
returns-then-same_run-clause-same c =
    let one : c.args.a.now ≡ repeated c.in-Some-Some.one.times c.in-Some-Some.one.derivation (ctype c.in-Some-Some.one.to.now) = search rules in
    let other : c.args.b.now ≡ repeated c.in-Some-Some.other.times c.in-Some-Some.other.derivation (ctype c.in-Some-Some.other.to.now) = search rules in
    let derivation : c.in-Some-Some.one.derivation ≡ c.in-Some-Some.other.derivation = search rules in
    let times : c.in-Some-Some.one.times ≡ c.in-Some-Some.other.times = search rules in
    same_further _ _ _ _ _ _ _ _ one other derivation times

pub returns-then-same_run-clause-further : goal.returns-then-same_run-clause-further
returns-then-same_run-clause-further c =
    let one : c.args.a.now ≡ repeated c.in-Some-Some.one.times c.in-Some-Some.one.derivation (ctype c.in-Some-Some.one.to.now) = search rules in
    rw one (lower c.in-Some-Some.one.times c.in-Some-Some.one.derivation (ctype c.in-Some-Some.one.to.now))
