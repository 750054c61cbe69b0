use Rattle.std.proofs.Common.{rules, ◌≡◌, filter, not, eqb, ◌||◌, ◌∙◌}
use Rattle.std.proofs.lemmas.Fn.{filter_same}
use Rattle.mid_fold.specs.declared.made.Made.{Made}
use Rattle.mid_fold.specs.inner.Reusing.{is_cell}
use Rattle.mid_fold.proofs.ReuseJoined.{results_left}
use Rattle.mid_fold.proofs.made.forget_results.Goals as goal

pub returns : goal.returns
returns c =
    let kept : c.retain.new.self.items ≡ filter (λ (m : Made). not (eqb m.target c.args.t || (is_cell m.first c.args.t || is_cell m.second c.args.t))) c.args.results.now.items = filter_same _ _ _ (λ x b f' k. search rules) _ _ c.retain.ensures.filtered in
    kept ∙ results_left c.args.results.now.items c.args.t
