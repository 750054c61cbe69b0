use Rattle.std.proofs.Common.{rules, ◌≡◌, filter, not, eqb, ◌∙◌}
use Rattle.std.proofs.lemmas.Fn.{filter_same}
use Rattle.mid_fold.proofs.Joined.{left_behind}
use Rattle.mid_fold.proofs.known.forget.Goals as goal

pub returns : goal.returns
returns c =
    let kept : c.retain.new.self.items ≡ filter (λ e. not (eqb e.0 c.args.t)) c.args.words.now.items = filter_same _ _ _ (λ x b f' k. search rules) _ _ c.retain.ensures.filtered in
    kept ∙ left_behind c.args.words.now.items c.args.t
