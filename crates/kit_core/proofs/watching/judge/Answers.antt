use Rattle.std.proofs.Common.{rules, ◌≡◌, ◌∙◌, ◌+◌, ap}
use Rattle.std.specs.Prelude.{not, length, option_map}
use Rattle.std.proofs.lemmas.Result.{IfOk-weaker}
use Rattle.c_check.specs.View.{program}
use Rattle.c_meaning.specs.Runs.{final_of}
use Rattle.c_watch.specs.Watching.{watched_by}
use Rattle.v32_console.specs.Moments.{goes_on}
use Rattle.kit_core.specs.Watching.{done_in, ends_in, verdict_at}
use Rattle.kit_core.proofs.Watches.{followed}
use Rattle.kit_core.proofs.watching.judge.Goals as goal

pub returns : goal.returns
returns c u count frames is =
    let notes = c.in_ok-noted.ensures.noted u count is.run in
    let end = c.in_ok-noted.ensures.ended u count is.run in
    let events : c.goal_of-goal.result.events ≡ length (done_in u count).events = ap (λ g. g.events) c.goal_of-goal.ensures ∙ notes.events_are in
    let ended : c.goal_of-goal.result.ended ≡ ends_in u count = ap (λ g. g.ended) c.goal_of-goal.ensures ∙ ap (λ e. not (goes_on e)) end in
    let bound : c.goal_of-goal.result.bound ≡ (done_in u count).instructions + 1 = ap (λ g. g.bound) c.goal_of-goal.ensures ∙ ap (λ n. n + 1) notes.instructions_are in
    let answers : c.answers.result.now ≡ (done_in u count).answers = c.answers.ensures ∙ notes.answers_are in
    let card = c.card_words.ensures ∙ is.card_is in
    let source : c.program.result.now ≡ c.args.checked.now.program = search rules in
    let same = followed (program c.args.checked.now.program) frames u count _ _ _ _ _ _ events ended bound is.frames_are answers card in
    let of_source = ap (λ p. watched_by c.goal_of-goal.result.events c.goal_of-goal.result.ended
    (final_of (program p) c.args.opened.frames.sizes c.goal_of-goal.result.bound c.answers.result.now (option_map (λ words. words.now) c.card_words.result))) source in
    let places : c.places.result.now ≡ c.args.checked.now.places = search rules in
    IfOk-weaker c.verdict_of.result _ _ (λ v e. e ∙ ap (λ q. verdict_at q c.in_ok-watched.watched) places ∙ ap (verdict_at c.args.checked.now.places) (c.in_ok-watched.ensures ∙ of_source ∙ same)) c.verdict_of.ensures
