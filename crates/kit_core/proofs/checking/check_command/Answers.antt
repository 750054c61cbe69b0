use Rattle.std.proofs.Common.{rules, ◌≡◌, refl, sym, subst, ap, ℕ}
use Rattle.std.specs.declared.alloc.Global.{Global}
use Rattle.std.specs.Prelude.{Ok, Err, IfSome, Vec}
use Rattle.build_core.specs.Reached.{IsReadToCheck}
use Rattle.kit_tools.specs.Carrying.{FailsIn}
use Rattle.kit_tools.specs.Work.{accepted}
use Rattle.kit_tools.specs.declared.shown.Shown.TheVariants as shown
use Rattle.kit_core.specs.Due.{read_check_due}
use Rattle.kit_core.specs.inner.Checking.{TextChecked}
use Rattle.kit_core.proofs.Checks.{accepted_due}
use Rattle.kit_core.proofs.Projects.{Left, left_unread, left_refused, left_done}
use Rattle.kit_core.proofs.checking.check_command.Goals as goal

pub returns-in_err-text-clause-told : goal.returns-in_err-text-clause-told
returns-in_err-text-clause-told g c =
    let is : c.from_residual.result ≡ Err c.in_err-text.field-0.0 = search rules in
    subst (Left c.args.project.now (read_check_due c.args.project.now) IsReadToCheck (g.F.Reads.held c.args.files.now) (g.F.Reads.held c.read_file.new.files)) (sym is)
    (left_unread c.args.project.now (read_check_due c.args.project.now) IsReadToCheck (λ (v : Vec ℕ Global). v.items) (λ m f r h. ap Err h) c.in_err-text.field-0.0 (g.F.Reads.held c.args.files.now) (g.F.Reads.held c.read_file.new.files)
    c.in_err-text.ensures.told c.in_err-text.ensures.fails c.in_err-text.ensures.held)

pub returns-in_err-check_text-clause-told : goal.returns-in_err-check_text-clause-told
returns-in_err-check_text-clause-told g c =
    let is : c.from_residual-in_err-check_text.result ≡ Err c.in_err-check_text.field-0.0 = search rules in
    let given : IfSome (g.F.Reads.held c.read_file.new.files) (λ m. TextChecked c.args.project.now c.in_ok-text.text.items m (Err c.in_err-check_text.field-0.0)) = search rules in
    let reached : IfSome (g.F.Reads.held c.read_file.new.files) (λ m. FailsIn (IsReadToCheck m c.in_ok-text.text.items) c.in_err-check_text.field-0.0) = search rules in
    subst (Left c.args.project.now (read_check_due c.args.project.now) IsReadToCheck (g.F.Reads.held c.args.files.now) (g.F.Reads.held c.check_text.new.files)) (sym is)
    (left_refused c.args.project.now (read_check_due c.args.project.now) IsReadToCheck c.in_ok-text.text.items c.in_err-check_text.field-0.0 (g.F.Reads.held c.args.files.now) (g.F.Reads.held c.read_file.new.files) (g.F.Reads.held c.check_text.new.files)
    c.in_ok-text.ensures.told c.in_ok-text.ensures.held given reached c.in_err-check_text.ensures.held)

pub returns-clause-told : goal.returns-clause-told
returns-clause-told g c =
    let given : IfSome (g.F.Reads.held c.read_file.new.files) (λ m. TextChecked c.args.project.now c.in_ok-text.text.items m (Ok tt)) = search rules in
    left_done c.args.project.now (read_check_due c.args.project.now) IsReadToCheck c.in_ok-text.text.items accepted shown.Accepted (g.F.Reads.held c.args.files.now) (g.F.Reads.held c.read_file.new.files) (g.F.Reads.held c.check_text.new.files) (g.F.Reads.held c.check_text.new.files)
    refl refl c.in_ok-text.ensures.told c.in_ok-text.ensures.held (accepted_due c.args.project.now c.in_ok-text.text.items _ given) c.in_ok-check_text.ensures.held refl
