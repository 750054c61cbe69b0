use Rattle.std.proofs.Common.{◌≡◌, ◌≤◌, [], length, map}
use Rattle.c_prep.specs.Macros.{replaced_at}
use Rattle.c_prep.specs.inner.Frames.{names, unwound, work}
use Rattle.c_prep.proofs.replace.replace_one.Given as goal

abbrev pub invariant-each : goal.invariant-each
invariant-each l = record {
  goes : replaced_at l.macros l.token l.fn.out ≡ unwound l.macros l.token [] l.frames.items l.out;
  counts : length l.frames.items ≤ l.out.replaced;
  inside : map (λ k. k.now) l.inside.keys ≡ names l.frames.items;
}

abbrev pub decreases-each : goal.decreases-each
decreases-each l = work l.out l.frames.items
