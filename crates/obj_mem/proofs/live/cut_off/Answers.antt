use Rattle.std.proofs.Common.{◌≡◌, ℕ, ◌-◌, length, map, take, sym, ap, ◌∙◌, subst, rules}
use Rattle.obj_mem.specs.Living.{Rises, live_below}
use Rattle.obj_mem.specs.LiveView.{live_object}
use Rattle.obj_mem.proofs.InMemory.{front_rises}
use Rattle.obj_mem.proofs.live.cut_off.Goals as goal

pub cut-preserved-in-cut : goal.cut-preserved-in-cut
cut-preserved-in-cut c =
    let e : c.pop.new.self.items ≡ take (length c.cut.live.items - 1) c.cut.live.items = search rules in
    record {
      rises = subst (λ ys. (next : ℕ) × Rises 0 next (map live_object ys)) (sym e) (front_rises c.cut.live.items (length c.cut.live.items - 1) c.cut.invariant.rises);
      same = ap (λ ys. live_below c.args.number (map live_object ys)) e ∙ search rules ∙ c.cut.invariant.same;
    }
