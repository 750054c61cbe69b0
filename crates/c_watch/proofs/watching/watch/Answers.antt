use Rattle.std.proofs.Common.{rules, ◌≡◌, ◌-◌, ◌<◌, ◌⊎◌, inl, inr, true, option_map, ap, subst, sym, ◌∙◌}
use Rattle.c_check.specs.View.{program}
use Rattle.c_meaning.specs.Runs.{Final, final_of}
use Rattle.c_evaluate.specs.declared.answer.Advanced.{Advanced}
use Rattle.c_evaluate.specs.declared.answer.Advanced.TheVariants.{Made, Ended}
use Rattle.c_evaluate.specs.Evaluation.{Gives}
use Rattle.c_watch.specs.Watching.{verdict_of}
use Rattle.c_watch.proofs.Leaving.{watched_left, whole, made_one, at_end, met}
use Rattle.c_watch.proofs.watching.watch.Goals as goal
use Rattle.c_watch.proofs.watching.watch.Goals.{then-goal, else-goal+then-left-gt0}

pub events-init : goal.events-init
events-init c =
    let x : Final = final_of (program c.args.p.now) c.args.f.now.sizes c.args.goal.now.bound c.args.answers.now (option_map (λ w. w.now) c.args.card) in
    ap (watched_left c.args.goal.now.events c.args.goal.now.ended) c.in_ok-runner.ensures.whole ∙ whole c.args.goal.now.events c.args.goal.now.ended x

pub events-preserved : goal.events-preserved
events-preserved c =
    let given : Gives (Made c.in-Made.field-0) c.events.runner.left c.advance.new.self.left =
    subst (λ (a : Advanced). Gives a c.events.runner.left c.advance.new.self.left) c.in-Made.is c.in_ok-advance.ensures.advances in
    let one : c.one_fewer-left.result ≡ c.events.left - 1 = search rules in
    ap (λ n. watched_left n c.args.goal.now.ended c.advance.new.self.left) one
    ∙ made_one c.in-Made.field-0 c.events.left c.args.goal.now.ended c.events.runner.left c.advance.new.self.left given ∙ c.events.invariant

pub returns-in-Ended : goal.returns-in-Ended
returns-in-Ended c =
    let given : Gives (Ended c.in-Ended.end) c.events.runner.left c.advance.new.self.left =
    subst (λ (a : Advanced). Gives a c.events.runner.left c.advance.new.self.left) c.in-Ended.is c.in_ok-advance.ensures.advances in
    let before : (c.args.goal.now.ended ≡ true) ⊎ (0 < c.events.left) = elim c.if-goal.branch [ then-goal w ↦ inl (search rules) | else-goal+then-left-gt0 w ↦ inr (search rules) ] in
    let told : c.verdict.result ≡ verdict_of c.in-Ended.end = search rules in
    told ∙ sym (at_end c.in-Ended.end c.events.left c.args.goal.now.ended c.events.runner.left c.advance.new.self.left before given) ∙ c.events.invariant

pub returns : goal.returns
returns c =
    let none : c.events.left ≡ 0 = search rules in
    sym (met c.events.left c.args.goal.now.ended c.events.runner.left none c.if-goal.false) ∙ c.events.invariant
