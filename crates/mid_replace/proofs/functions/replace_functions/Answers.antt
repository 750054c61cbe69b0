use Rattle.std.proofs.Common.{refl, sym, map, subst}
use Rattle.mid_code.specs.Functions.{function}
use Rattle.mid_replace.specs.inner.Tables.{HaveCounts}
use Rattle.mid_replace.proofs.OneByOne.{all_stay, as_many, one_more, next_counts, next_same}
use Rattle.mid_replace.proofs.functions.replace_functions.Goals as goal

pub loop-f-init : goal.loop-f-init
loop-f-init c = record {
  counts = subst (λ fs. HaveCounts (map function fs)) (sym c.deref_mut-f-items.ensures.value) c.requires.counts;
  same = refl;
  replaced = all_stay (map function c.deref_mut-f-items.result.now);
}

pub loop-f-preserved : goal.loop-f-preserved
loop-f-preserved c =
    let xs = c.deref_mut-f-items.result.now in
    let ys = c.loop-f.f-items in
    let w = c.replace_function.new.f in
    let lt = as_many xs ys c.loop-f.f-index c.loop-f.invariant.replaced c.loop-f-test.true in
    record {
      counts = next_counts ys c.loop-f.f-index w lt c.loop-f.invariant.counts;
      same = next_same xs ys c.loop-f.f-index w lt c.loop-f.invariant.same;
      replaced = one_more xs ys c.loop-f.f-index c.f-item.result w lt c.loop-f.invariant.same c.loop-f.invariant.replaced c.in_ok-replace_function.ensures;
    }
