use Rattle.std.proofs.Common.{rules, ◌≡◌, filter, not, eqb, ◌||◌, ◌∙◌}
use Rattle.std.proofs.lemmas.Fn.{filter_same}
use Rattle.mid_fold.specs.inner.Reusing.{is_cell}
use Rattle.mid_fold.proofs.ReuseJoined.{operands_left}
use Rattle.mid_fold.proofs.operand.forget_operands.Goals as goal

pub returns : goal.returns
returns c =
    let kept : c.retain.new.self.items ≡ filter (λ e. not (eqb e.0 c.args.t || is_cell e.1 c.args.t)) c.args.operands.now.items = filter_same _ _ _ (λ x b f' k. search rules) _ _ c.retain.ensures.filtered in
    kept ∙ operands_left c.args.operands.now.items c.args.t
