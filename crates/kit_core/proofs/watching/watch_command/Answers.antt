use Rattle.std.proofs.Common.{rules, false, ◌≡◌, ◌⊎◌, ◌∙◌, sym, subst, ap, inr, ℕ}
use Rattle.std.specs.declared.alloc.Global.{Global}
use Rattle.std.specs.Prelude.{Err, IfSome, Vec}
use Rattle.kit_base.specs.declared.failure.Failure.TheVariants as failures
use Rattle.build_core.specs.BuiltFrom.{IsBuiltFrom}
use Rattle.build_core.specs.Reached.{IsReadToBuild}
use Rattle.kit_words.specs.Number.{number_of}
use Rattle.kit_words.specs.Parsed.{watch_words_from}
use Rattle.kit_tools.specs.Carrying.{FailsIn, GivesBy}
use Rattle.kit_core.specs.inner.Checking.{TextBuilt}
use Rattle.kit_core.specs.Due.{IsReadToWatch, read_watch_due}
use Rattle.kit_tools.specs.Gaming.{settings_of}
use Rattle.kit_tools.specs.Watching.{IsReadToSetWatch, is_watch_count, watch_settings_due}
use Rattle.kit_core.specs.Limits.{IsLarge}
use Rattle.kit_tools.proofs.Own.{later_causes}
use Rattle.kit_core.proofs.Projects.{Left, left_refused, left_unread}
use Rattle.kit_core.proofs.Setups.{memory_told, unbuilt_reached, unbuilt_told, unset_reached, unset_told}
use Rattle.kit_core.proofs.Watches.{built_so, watch_left}
use Rattle.kit_core.proofs.watching.watch_command.Goals as goal

pub returns-in_err-text-clause-told : goal.returns-in_err-text-clause-told
returns-in_err-text-clause-told g c =
    let is : c.from_residual.result ≡ Err c.in_err-text.field-0.0 = search rules in
    subst (Left c.args.words.now.project.now (read_watch_due (watch_words_from c.args.words.now)) (IsReadToWatch (watch_words_from c.args.words.now)) (g.F.Reads.held c.args.files.now) (g.F.Reads.held c.read_file.new.files)) (sym is)
    (left_unread c.args.words.now.project.now (read_watch_due (watch_words_from c.args.words.now)) (IsReadToWatch (watch_words_from c.args.words.now)) (λ (v : Vec ℕ Global). v.items) (λ m f r h. ap Err h) c.in_err-text.field-0.0
    (g.F.Reads.held c.args.files.now) (g.F.Reads.held c.read_file.new.files) c.in_err-text.ensures.told c.in_err-text.ensures.fails c.in_err-text.ensures.held)

pub returns-in_err-made-clause-told : goal.returns-in_err-made-clause-told
returns-in_err-made-clause-told g c =
    let is : c.from_residual-in_err-made.result ≡ Err c.in_err-made.field-0.0 = search rules in
    let given : IfSome (g.F.Reads.held c.read_file.new.files) (λ m. TextBuilt c.args.words.now.project.now c.in_ok-text.text.items m (Err c.in_err-made.field-0.0)) = search rules in
    let reached : IfSome (g.F.Reads.held c.read_file.new.files) (λ m. FailsIn (IsReadToBuild m c.in_ok-text.text.items) c.in_err-made.field-0.0) = search rules in
    subst (Left c.args.words.now.project.now (read_watch_due (watch_words_from c.args.words.now)) (IsReadToWatch (watch_words_from c.args.words.now)) (g.F.Reads.held c.args.files.now) (g.F.Reads.held c.build_watchable.new.files)) (sym is)
    (left_refused c.args.words.now.project.now (read_watch_due (watch_words_from c.args.words.now)) (IsReadToWatch (watch_words_from c.args.words.now)) c.in_ok-text.text.items c.in_err-made.field-0.0 (g.F.Reads.held c.args.files.now) (g.F.Reads.held c.read_file.new.files) (g.F.Reads.held c.build_watchable.new.files)
    c.in_ok-text.ensures.told c.in_ok-text.ensures.held
    (unbuilt_told c.args.words.now.project.now c.in_ok-text.text.items (watch_settings_due (watch_words_from c.args.words.now)) (IsReadToSetWatch (watch_words_from c.args.words.now)) c.in_err-made.field-0.0 (g.F.Reads.held c.read_file.new.files) given)
    (unbuilt_reached c.args.words.now.project.now c.in_ok-text.text.items (watch_settings_due (watch_words_from c.args.words.now)) (IsReadToSetWatch (watch_words_from c.args.words.now)) c.in_err-made.field-0.0 (g.F.Reads.held c.read_file.new.files) reached) c.in_err-made.ensures.held)

pub returns-in_err-settings-clause-told : goal.returns-in_err-settings-clause-told
returns-in_err-settings-clause-told g c =
    let is : c.from_residual-in_err-settings.result ≡ Err c.in_err-settings.field-0.0 = search rules in
    let same : c.deref.result.now ≡ c.in_ok-text.text.items = search rules in
    let from = subst (λ t. IfSome (g.F.Reads.held c.read_file.new.files) (λ m. IsBuiltFrom m t c.in_ok-made.made.checked c.in_ok-made.made.built)) same c.in_ok-made.ensures.told in
    let built = built_so c.in_ok-text.text.items c.in_ok-made.made (g.F.Reads.held c.read_file.new.files) from in
    let given : IfSome (g.F.Reads.held c.build_watchable.new.files) (λ m. GivesBy settings_of (Err c.in_err-settings.field-0.0) (watch_settings_due (watch_words_from c.args.words.now) m)) = search rules in
    let fails : IfSome (g.F.Reads.held c.build_watchable.new.files) (λ m. FailsIn (IsReadToSetWatch (watch_words_from c.args.words.now) m) c.in_err-settings.field-0.0) = search rules in
    subst (Left c.args.words.now.project.now (read_watch_due (watch_words_from c.args.words.now)) (IsReadToWatch (watch_words_from c.args.words.now)) (g.F.Reads.held c.args.files.now) (g.F.Reads.held c.read_watch_settings.new.files)) (sym is)
    (left_refused c.args.words.now.project.now (read_watch_due (watch_words_from c.args.words.now)) (IsReadToWatch (watch_words_from c.args.words.now)) c.in_ok-text.text.items c.in_err-settings.field-0.0 (g.F.Reads.held c.args.files.now) (g.F.Reads.held c.read_file.new.files) (g.F.Reads.held c.read_watch_settings.new.files)
    c.in_ok-text.ensures.told c.in_ok-text.ensures.held
    (unset_told c.args.words.now.project.now c.in_ok-text.text.items (watch_settings_due (watch_words_from c.args.words.now)) (IsReadToSetWatch (watch_words_from c.args.words.now)) c.in_err-settings.field-0.0 c.in_ok-made.made.built (g.F.Reads.held c.read_file.new.files) (g.F.Reads.held c.build_watchable.new.files) c.in_ok-made.ensures.held built given)
    (unset_reached c.args.words.now.project.now c.in_ok-text.text.items (watch_settings_due (watch_words_from c.args.words.now)) (IsReadToSetWatch (watch_words_from c.args.words.now)) c.in_err-settings.field-0.0 c.in_ok-made.made.built (g.F.Reads.held c.read_file.new.files) (g.F.Reads.held c.build_watchable.new.files) c.in_ok-made.ensures.held built fails)
    (c.in_err-settings.ensures.held ∙ c.in_ok-made.ensures.held))

pub returns-in_err-cart-clause-told : goal.returns-in_err-cart-clause-told
returns-in_err-cart-clause-told g c =
    let is : c.from_residual-in_err-cart.result ≡ Err failures.Memory = search rules in
    let none = memory_told c.args.words.now.project.now c.in_ok-text.text.items (watch_settings_due (watch_words_from c.args.words.now)) (IsReadToSetWatch (watch_words_from c.args.words.now)) (g.F.Reads.held c.read_file.new.files) in
    subst (Left c.args.words.now.project.now (read_watch_due (watch_words_from c.args.words.now)) (IsReadToWatch (watch_words_from c.args.words.now)) (g.F.Reads.held c.args.files.now) (g.F.Reads.held c.read_watch_settings.new.files)) (sym is)
    (left_refused c.args.words.now.project.now (read_watch_due (watch_words_from c.args.words.now)) (IsReadToWatch (watch_words_from c.args.words.now)) c.in_ok-text.text.items failures.Memory (g.F.Reads.held c.args.files.now) (g.F.Reads.held c.read_file.new.files) (g.F.Reads.held c.read_watch_settings.new.files)
    c.in_ok-text.ensures.told c.in_ok-text.ensures.held none.0 none.1 (c.in_ok-settings.ensures.held ∙ c.in_ok-made.ensures.held))

pub returns-clause-told : goal.returns-clause-told
returns-clause-told g c =
    let same : c.deref.result.now ≡ c.in_ok-text.text.items = search rules in
    let from = subst (λ t. IfSome (g.F.Reads.held c.read_file.new.files) (λ m. IsBuiltFrom m t c.in_ok-made.made.checked c.in_ok-made.made.built)) same c.in_ok-made.ensures.told in
    watch_left (watch_words_from c.args.words.now) c.in_ok-text.text.items c.in_ok-made.made c.in_ok-settings.settings c.in_ok-cart.cart c.in_ok-cart.ensures c.write_watch.result
    (g.F.Reads.held c.args.files.now) (g.F.Reads.held c.read_file.new.files) (g.F.Reads.held c.build_watchable.new.files) (g.F.Reads.held c.read_watch_settings.new.files) (g.F.Reads.held c.write_watch.new.files)
    c.in_ok-text.ensures.told c.in_ok-text.ensures.held from c.in_ok-made.ensures.held c.in_ok-settings.ensures.told c.in_ok-settings.ensures.held c.write_watch.ensures.written

pub returns-clause-causes : goal.returns-clause-causes
returns-clause-causes g c =
    later_causes _ _ _ _ c.write_watch.result _ _ _ (λ none. none) c.in_ok-text.ensures.causes
    (later_causes _ _ _ _ c.write_watch.result _ _ _ (λ none. none) c.in_ok-made.ensures.causes
    (later_causes _ _ _ _ c.write_watch.result _ _ _ (λ none. absurd none) c.in_ok-settings.ensures.causes c.write_watch.ensures.causes))

pub returns-in_err-settings-clause-causes : goal.returns-in_err-settings-clause-causes
returns-in_err-settings-clause-causes g c =
    let is : c.from_residual-in_err-settings.result ≡ Err c.in_err-settings.field-0.0 = search rules in
    let read = later_causes _ _ (IsLarge c.args.words.now.project.now (g.F.Reads.held c.args.files.now) ⊎ (is_watch_count (number_of c.args.words.now.count.now) ≡ false)) _ (Err c.in_err-settings.field-0.0) _ _ _ (λ over. over) c.in_ok-text.ensures.causes
    (later_causes _ _ _ _ (Err c.in_err-settings.field-0.0) _ _ _ (λ over. inr over) c.in_ok-made.ensures.causes c.in_err-settings.ensures.causes) in
    rw is (record { faults_later = read.faults_later; misses_later = read.misses_later; overs_later = read.overs_later; risen = read.risen })
