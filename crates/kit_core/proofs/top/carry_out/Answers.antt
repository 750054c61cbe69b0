use Rattle.std.proofs.Common.{rules, ◌≡◌, refl}
use Rattle.std.specs.Prelude.{Some, None}
use Rattle.std.specs.Option.{option_map}
use Rattle.kit_words.specs.Command.{Bounds, Build, Check, Convert, Gen, Play, Run, Trace, Watch, command_of, texts}
use Rattle.kit_words.specs.Parsed.{run_words_from, watch_words_from}
use Rattle.kit_core.proofs.Behind.{no_form, plainly}
use Rattle.kit_core.proofs.Over.{bounds_over, build_over, check_over, convert_over, gen_over, not_none, play_over, run_over, trace_over, watch_over}
use Rattle.kit_core.proofs.top.carry_out.Goals as goal

pub returns-in-None-clause-told : goal.returns-in-None-clause-told
returns-in-None-clause-told g c =
    let is : command_of (texts c.args.words.now) ≡ None = search rules in
    no_form (command_of (texts c.args.words.now)) is (g.F.Reads.held c.args.files.now)

pub returns-in-Some-Build-clause-told : goal.returns-in-Some-Build-clause-told
returns-in-Some-Build-clause-told g c =
    let is : command_of (texts c.args.words.now) ≡ Some (Build c.in-Some-Build.project.now c.in-Some-Build.cart.now c.in-Some-Build.map.now) = search rules in
    plainly _ _ is c.build_command.result (g.F.Reads.held c.args.files.now) (g.F.Reads.held c.build_command.new.files) refl c.build_command.ensures.told

pub returns-in-Some-Convert-clause-told : goal.returns-in-Some-Convert-clause-told
returns-in-Some-Convert-clause-told g c =
    let is : command_of (texts c.args.words.now) ≡ Some (Convert c.in-Some-Convert.conversion c.in-Some-Convert.source.now c.in-Some-Convert.target.now) = search rules in
    plainly _ _ is c.convert_command.result (g.F.Reads.held c.args.files.now) (g.F.Reads.held c.convert_command.new.files) refl c.convert_command.ensures.told

pub returns-in-Some-Trace-clause-told : goal.returns-in-Some-Trace-clause-told
returns-in-Some-Trace-clause-told g c =
    let is : command_of (texts c.args.words.now) ≡ Some (Trace c.in-Some-Trace.cart.now c.in-Some-Trace.answers.now (option_map (λ word. word.now) c.in-Some-Trace.card) c.in-Some-Trace.steps.now) = search rules in
    plainly _ _ is c.trace_command.result (g.F.Reads.held c.args.files.now) (g.F.Reads.held c.trace_command.new.files) refl c.trace_command.ensures.told

pub returns-in-Some-Run-clause-told : goal.returns-in-Some-Run-clause-told
returns-in-Some-Run-clause-told g c =
    let is : command_of (texts c.args.words.now) ≡ Some (Run (run_words_from c.in-Some-Run.words)) = search rules in
    plainly _ _ is c.run_command.result (g.F.Reads.held c.args.files.now) (g.F.Reads.held c.run_command.new.files) refl c.run_command.ensures.told

pub returns-in-Some-Play-clause-told : goal.returns-in-Some-Play-clause-told
returns-in-Some-Play-clause-told g c =
    let is : command_of (texts c.args.words.now) ≡ Some (Play c.in-Some-Play.project.now c.in-Some-Play.map.now (run_words_from c.in-Some-Play.words)) = search rules in
    plainly _ _ is c.play_command.result (g.F.Reads.held c.args.files.now) (g.F.Reads.held c.play_command.new.files) refl c.play_command.ensures.told

pub returns-in-Some-Watch-clause-told : goal.returns-in-Some-Watch-clause-told
returns-in-Some-Watch-clause-told g c =
    let is : command_of (texts c.args.words.now) ≡ Some (Watch (watch_words_from c.in-Some-Watch.words)) = search rules in
    plainly _ _ is c.watch_command.result (g.F.Reads.held c.args.files.now) (g.F.Reads.held c.watch_command.new.files) refl c.watch_command.ensures.told

pub returns-in-Some-Watch-clause-usage : goal.returns-in-Some-Watch-clause-usage
returns-in-Some-Watch-clause-usage g c =
    let is : command_of (texts c.args.words.now) ≡ Some (Watch (watch_words_from c.in-Some-Watch.words)) = search rules in
    λ none. not_none (texts c.args.words.now) _ c.watch_command.result is none

pub returns-in-Some-Watch-clause-causes : goal.returns-in-Some-Watch-clause-causes
returns-in-Some-Watch-clause-causes g c =
    let is : command_of (texts c.args.words.now) ≡ Some (Watch (watch_words_from c.in-Some-Watch.words)) = search rules in
    watch_over (texts c.args.words.now) (g.F.Reads.held c.args.files.now) c.watch_command.result _ _ _ is c.watch_command.ensures.causes

pub returns-in-Some-Check-clause-told : goal.returns-in-Some-Check-clause-told
returns-in-Some-Check-clause-told g c =
    let is : command_of (texts c.args.words.now) ≡ Some (Check c.in-Some-Check.project.now) = search rules in
    plainly _ _ is c.check_command.result (g.F.Reads.held c.args.files.now) (g.F.Reads.held c.check_command.new.files) refl c.check_command.ensures.told

pub returns-in-Some-Build-clause-usage : goal.returns-in-Some-Build-clause-usage
returns-in-Some-Build-clause-usage g c =
    let is : command_of (texts c.args.words.now) ≡ Some (Build c.in-Some-Build.project.now c.in-Some-Build.cart.now c.in-Some-Build.map.now) = search rules in
    λ none. not_none (texts c.args.words.now) _ c.build_command.result is none

pub returns-in-Some-Build-clause-causes : goal.returns-in-Some-Build-clause-causes
returns-in-Some-Build-clause-causes g c =
    let is : command_of (texts c.args.words.now) ≡ Some (Build c.in-Some-Build.project.now c.in-Some-Build.cart.now c.in-Some-Build.map.now) = search rules in
    build_over (texts c.args.words.now) (g.F.Reads.held c.args.files.now) c.build_command.result _ _ _ _ _ is c.build_command.ensures.causes

pub returns-in-Some-Convert-clause-usage : goal.returns-in-Some-Convert-clause-usage
returns-in-Some-Convert-clause-usage g c =
    let is : command_of (texts c.args.words.now) ≡ Some (Convert c.in-Some-Convert.conversion c.in-Some-Convert.source.now c.in-Some-Convert.target.now) = search rules in
    λ none. not_none (texts c.args.words.now) _ c.convert_command.result is none

pub returns-in-Some-Convert-clause-causes : goal.returns-in-Some-Convert-clause-causes
returns-in-Some-Convert-clause-causes g c =
    let is : command_of (texts c.args.words.now) ≡ Some (Convert c.in-Some-Convert.conversion c.in-Some-Convert.source.now c.in-Some-Convert.target.now) = search rules in
    convert_over (texts c.args.words.now) (g.F.Reads.held c.args.files.now) c.convert_command.result _ _ _ _ _ is c.convert_command.ensures.causes

pub returns-in-Some-Trace-clause-usage : goal.returns-in-Some-Trace-clause-usage
returns-in-Some-Trace-clause-usage g c =
    let is : command_of (texts c.args.words.now) ≡ Some (Trace c.in-Some-Trace.cart.now c.in-Some-Trace.answers.now (option_map (λ word. word.now) c.in-Some-Trace.card) c.in-Some-Trace.steps.now) = search rules in
    λ none. not_none (texts c.args.words.now) _ c.trace_command.result is none

pub returns-in-Some-Trace-clause-causes : goal.returns-in-Some-Trace-clause-causes
returns-in-Some-Trace-clause-causes g c =
    let is : command_of (texts c.args.words.now) ≡ Some (Trace c.in-Some-Trace.cart.now c.in-Some-Trace.answers.now (option_map (λ word. word.now) c.in-Some-Trace.card) c.in-Some-Trace.steps.now) = search rules in
    trace_over (texts c.args.words.now) (g.F.Reads.held c.args.files.now) c.trace_command.result _ _ _ _ _ _ is c.trace_command.ensures.causes

pub returns-in-Some-Run-clause-usage : goal.returns-in-Some-Run-clause-usage
returns-in-Some-Run-clause-usage g c =
    let is : command_of (texts c.args.words.now) ≡ Some (Run (run_words_from c.in-Some-Run.words)) = search rules in
    λ none. not_none (texts c.args.words.now) _ c.run_command.result is none

pub returns-in-Some-Run-clause-causes : goal.returns-in-Some-Run-clause-causes
returns-in-Some-Run-clause-causes g c =
    let is : command_of (texts c.args.words.now) ≡ Some (Run (run_words_from c.in-Some-Run.words)) = search rules in
    run_over (texts c.args.words.now) (g.F.Reads.held c.args.files.now) c.run_command.result _ _ _ is c.run_command.ensures.causes

pub returns-in-Some-Play-clause-usage : goal.returns-in-Some-Play-clause-usage
returns-in-Some-Play-clause-usage g c =
    let is : command_of (texts c.args.words.now) ≡ Some (Play c.in-Some-Play.project.now c.in-Some-Play.map.now (run_words_from c.in-Some-Play.words)) = search rules in
    λ none. not_none (texts c.args.words.now) _ c.play_command.result is none

pub returns-in-Some-Play-clause-causes : goal.returns-in-Some-Play-clause-causes
returns-in-Some-Play-clause-causes g c =
    let is : command_of (texts c.args.words.now) ≡ Some (Play c.in-Some-Play.project.now c.in-Some-Play.map.now (run_words_from c.in-Some-Play.words)) = search rules in
    play_over (texts c.args.words.now) (g.F.Reads.held c.args.files.now) c.play_command.result _ _ _ _ _ is c.play_command.ensures.causes

pub returns-in-Some-Check-clause-usage : goal.returns-in-Some-Check-clause-usage
returns-in-Some-Check-clause-usage g c =
    let is : command_of (texts c.args.words.now) ≡ Some (Check c.in-Some-Check.project.now) = search rules in
    λ none. not_none (texts c.args.words.now) _ c.check_command.result is none

pub returns-in-Some-Check-clause-causes : goal.returns-in-Some-Check-clause-causes
returns-in-Some-Check-clause-causes g c =
    check_over (texts c.args.words.now) (g.F.Reads.held c.args.files.now) c.check_command.result _ _ c.check_command.ensures.causes

pub returns-in-Some-Gen-clause-usage : goal.returns-in-Some-Gen-clause-usage
returns-in-Some-Gen-clause-usage g c =
    let is : command_of (texts c.args.words.now) ≡ Some (Gen c.in-Some-Gen.number.now c.in-Some-Gen.project.now c.in-Some-Gen.cart.now c.in-Some-Gen.map.now) = search rules in
    λ none. not_none (texts c.args.words.now) _ c.gen_command.result is none

pub returns-in-Some-Gen-clause-causes : goal.returns-in-Some-Gen-clause-causes
returns-in-Some-Gen-clause-causes g c =
    let is : command_of (texts c.args.words.now) ≡ Some (Gen c.in-Some-Gen.number.now c.in-Some-Gen.project.now c.in-Some-Gen.cart.now c.in-Some-Gen.map.now) = search rules in
    gen_over (texts c.args.words.now) (g.F.Reads.held c.args.files.now) c.gen_command.result _ _ _ _ _ _ is c.gen_command.ensures.causes

pub returns-in-Some-Bounds-clause-told : goal.returns-in-Some-Bounds-clause-told
returns-in-Some-Bounds-clause-told g c =
    let is : command_of (texts c.args.words.now) ≡ Some (Bounds c.in-Some-Bounds.project.now c.in-Some-Bounds.cart.now c.in-Some-Bounds.map.now c.in-Some-Bounds.text.now) = search rules in
    plainly _ _ is c.bounds_command.result (g.F.Reads.held c.args.files.now) (g.F.Reads.held c.bounds_command.new.files) refl c.bounds_command.ensures.told

pub returns-in-Some-Bounds-clause-usage : goal.returns-in-Some-Bounds-clause-usage
returns-in-Some-Bounds-clause-usage g c =
    let is : command_of (texts c.args.words.now) ≡ Some (Bounds c.in-Some-Bounds.project.now c.in-Some-Bounds.cart.now c.in-Some-Bounds.map.now c.in-Some-Bounds.text.now) = search rules in
    λ none. not_none (texts c.args.words.now) _ c.bounds_command.result is none

pub returns-in-Some-Bounds-clause-causes : goal.returns-in-Some-Bounds-clause-causes
returns-in-Some-Bounds-clause-causes g c =
    let is : command_of (texts c.args.words.now) ≡ Some (Bounds c.in-Some-Bounds.project.now c.in-Some-Bounds.cart.now c.in-Some-Bounds.map.now c.in-Some-Bounds.text.now) = search rules in
    bounds_over (texts c.args.words.now) (g.F.Reads.held c.args.files.now) c.bounds_command.result _ _ _ _ _ _ is c.bounds_command.ensures.causes
