use Rattle.std.proofs.Common.{rules, ◌≡◌, ◌∙◌, sym, subst, ap, ℕ}
use Rattle.std.specs.declared.alloc.Global.{Global}
use Rattle.std.specs.Prelude.{Err, IfSome, Vec}
use Rattle.kit_base.specs.declared.failure.Failure.TheVariants as failures
use Rattle.build_core.specs.Build.{IsBuilt}
use Rattle.build_core.specs.Reached.{IsReadToBuild}
use Rattle.kit_words.specs.Parsed.{run_words_from}
use Rattle.kit_tools.specs.Carrying.{FailsIn, GivesBy}
use Rattle.kit_core.specs.inner.Checking.{TextBuilt}
use Rattle.kit_core.specs.Due.{IsReadToPlay, read_play_due}
use Rattle.kit_tools.specs.Gaming.{settings_of}
use Rattle.kit_tools.specs.Running.{IsReadToSet, settings_due}
use Rattle.kit_tools.proofs.Own.{later_causes}
use Rattle.kit_core.proofs.Projects.{Left, left_refused, left_unread}
use Rattle.kit_core.proofs.Setups.{memory_told, unbuilt_reached, unbuilt_told, unset_reached, unset_told}
use Rattle.kit_core.proofs.Plays.{play_left}
use Rattle.kit_core.proofs.playing.play_command.Goals as goal

pub returns-in_err-text-clause-told : goal.returns-in_err-text-clause-told
returns-in_err-text-clause-told g c =
    let is : c.from_residual.result ≡ Err c.in_err-text.field-0.0 = search rules in
    subst (Left c.args.project.now (read_play_due c.args.project.now c.args.map.now (run_words_from c.args.words.now)) (IsReadToPlay (run_words_from c.args.words.now)) (g.F.Reads.held c.args.files.now) (g.F.Reads.held c.read_file.new.files)) (sym is)
    (left_unread c.args.project.now (read_play_due c.args.project.now c.args.map.now (run_words_from c.args.words.now)) (IsReadToPlay (run_words_from c.args.words.now)) (λ (v : Vec ℕ Global). v.items) (λ m f r h. ap Err h) c.in_err-text.field-0.0
    (g.F.Reads.held c.args.files.now) (g.F.Reads.held c.read_file.new.files) c.in_err-text.ensures.told c.in_err-text.ensures.fails c.in_err-text.ensures.held)

pub returns-in_err-built-clause-told : goal.returns-in_err-built-clause-told
returns-in_err-built-clause-told g c =
    let is : c.from_residual-in_err-built.result ≡ Err c.in_err-built.field-0.0 = search rules in
    let given : IfSome (g.F.Reads.held c.read_file.new.files) (λ m. TextBuilt c.args.project.now c.in_ok-text.text.items m (Err c.in_err-built.field-0.0)) = search rules in
    let reached : IfSome (g.F.Reads.held c.read_file.new.files) (λ m. FailsIn (IsReadToBuild m c.in_ok-text.text.items) c.in_err-built.field-0.0) = search rules in
    subst (Left c.args.project.now (read_play_due c.args.project.now c.args.map.now (run_words_from c.args.words.now)) (IsReadToPlay (run_words_from c.args.words.now)) (g.F.Reads.held c.args.files.now) (g.F.Reads.held c.build_text.new.files)) (sym is)
    (left_refused c.args.project.now (read_play_due c.args.project.now c.args.map.now (run_words_from c.args.words.now)) (IsReadToPlay (run_words_from c.args.words.now)) c.in_ok-text.text.items c.in_err-built.field-0.0 (g.F.Reads.held c.args.files.now) (g.F.Reads.held c.read_file.new.files) (g.F.Reads.held c.build_text.new.files)
    c.in_ok-text.ensures.told c.in_ok-text.ensures.held
    (unbuilt_told c.args.project.now c.in_ok-text.text.items (settings_due (run_words_from c.args.words.now)) (IsReadToSet (run_words_from c.args.words.now)) c.in_err-built.field-0.0 (g.F.Reads.held c.read_file.new.files) given)
    (unbuilt_reached c.args.project.now c.in_ok-text.text.items (settings_due (run_words_from c.args.words.now)) (IsReadToSet (run_words_from c.args.words.now)) c.in_err-built.field-0.0 (g.F.Reads.held c.read_file.new.files) reached) c.in_err-built.ensures.held)

pub returns-in_err-settings-clause-told : goal.returns-in_err-settings-clause-told
returns-in_err-settings-clause-told g c =
    let is : c.from_residual-in_err-settings.result ≡ Err c.in_err-settings.field-0.0 = search rules in
    let same : c.deref.result.now ≡ c.in_ok-text.text.items = search rules in
    let built = subst (λ t. IfSome (g.F.Reads.held c.read_file.new.files) (λ m. IsBuilt m t c.in_ok-built.built)) same c.in_ok-built.ensures.told in
    let given : IfSome (g.F.Reads.held c.build_text.new.files) (λ m. GivesBy settings_of (Err c.in_err-settings.field-0.0) (settings_due (run_words_from c.args.words.now) m)) = search rules in
    let fails : IfSome (g.F.Reads.held c.build_text.new.files) (λ m. FailsIn (IsReadToSet (run_words_from c.args.words.now) m) c.in_err-settings.field-0.0) = search rules in
    subst (Left c.args.project.now (read_play_due c.args.project.now c.args.map.now (run_words_from c.args.words.now)) (IsReadToPlay (run_words_from c.args.words.now)) (g.F.Reads.held c.args.files.now) (g.F.Reads.held c.read_settings.new.files)) (sym is)
    (left_refused c.args.project.now (read_play_due c.args.project.now c.args.map.now (run_words_from c.args.words.now)) (IsReadToPlay (run_words_from c.args.words.now)) c.in_ok-text.text.items c.in_err-settings.field-0.0 (g.F.Reads.held c.args.files.now) (g.F.Reads.held c.read_file.new.files) (g.F.Reads.held c.read_settings.new.files)
    c.in_ok-text.ensures.told c.in_ok-text.ensures.held
    (unset_told c.args.project.now c.in_ok-text.text.items (settings_due (run_words_from c.args.words.now)) (IsReadToSet (run_words_from c.args.words.now)) c.in_err-settings.field-0.0 c.in_ok-built.built (g.F.Reads.held c.read_file.new.files) (g.F.Reads.held c.build_text.new.files)
    c.in_ok-built.ensures.held built given)
    (unset_reached c.args.project.now c.in_ok-text.text.items (settings_due (run_words_from c.args.words.now)) (IsReadToSet (run_words_from c.args.words.now)) c.in_err-settings.field-0.0 c.in_ok-built.built (g.F.Reads.held c.read_file.new.files) (g.F.Reads.held c.build_text.new.files)
    c.in_ok-built.ensures.held built fails) (c.in_err-settings.ensures.held ∙ c.in_ok-built.ensures.held))

pub returns-in_err-game-clause-told : goal.returns-in_err-game-clause-told
returns-in_err-game-clause-told g c =
    let is : c.from_residual-in_err-game.result ≡ Err failures.Memory = search rules in
    subst (Left c.args.project.now (read_play_due c.args.project.now c.args.map.now (run_words_from c.args.words.now)) (IsReadToPlay (run_words_from c.args.words.now)) (g.F.Reads.held c.args.files.now) (g.F.Reads.held c.read_settings.new.files)) (sym is)
    (left_refused c.args.project.now (read_play_due c.args.project.now c.args.map.now (run_words_from c.args.words.now)) (IsReadToPlay (run_words_from c.args.words.now)) c.in_ok-text.text.items failures.Memory (g.F.Reads.held c.args.files.now) (g.F.Reads.held c.read_file.new.files) (g.F.Reads.held c.read_settings.new.files)
    c.in_ok-text.ensures.told c.in_ok-text.ensures.held
    ((memory_told c.args.project.now c.in_ok-text.text.items (settings_due (run_words_from c.args.words.now)) (IsReadToSet (run_words_from c.args.words.now)) (g.F.Reads.held c.read_file.new.files)).0) (memory_told c.args.project.now c.in_ok-text.text.items (settings_due (run_words_from c.args.words.now)) (IsReadToSet (run_words_from c.args.words.now)) (g.F.Reads.held c.read_file.new.files)).1 (c.in_ok-settings.ensures.held ∙ c.in_ok-built.ensures.held))

pub returns-clause-told : goal.returns-clause-told
returns-clause-told g c =
    let same : c.deref.result.now ≡ c.in_ok-text.text.items = search rules in
    let built = subst (λ t. IfSome (g.F.Reads.held c.read_file.new.files) (λ m. IsBuilt m t c.in_ok-built.built)) same c.in_ok-built.ensures.told in
    play_left c.args.project.now c.in_ok-text.text.items c.args.map.now (run_words_from c.args.words.now) c.in_ok-built.built c.in_ok-settings.settings c.in_ok-game.game c.in_ok-game.ensures.game c.write_play.result
    (g.F.Reads.held c.args.files.now) (g.F.Reads.held c.read_file.new.files) (g.F.Reads.held c.build_text.new.files) (g.F.Reads.held c.read_settings.new.files) (g.F.Reads.held c.write_play.new.files)
    c.in_ok-text.ensures.told c.in_ok-text.ensures.held built c.in_ok-built.ensures.held c.in_ok-settings.ensures.told c.in_ok-settings.ensures.held c.write_play.ensures.written

pub returns-clause-causes : goal.returns-clause-causes
returns-clause-causes g c =
    later_causes _ _ _ _ c.write_play.result _ _ _ (λ none. none) c.in_ok-text.ensures.causes
    (later_causes _ _ _ _ c.write_play.result _ _ _ (λ none. none) c.in_ok-built.ensures.causes
    (later_causes _ _ _ _ c.write_play.result _ _ _ (λ none. absurd none) c.in_ok-settings.ensures.causes c.write_play.ensures.causes))
