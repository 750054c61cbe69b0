use Rattle.std.proofs.Common.{rules, ◌≡◌, refl, sym, subst, ap, ℕ}
use Rattle.std.specs.declared.alloc.Global.{Global}
use Rattle.std.specs.Prelude.{Err, IfSome, Vec}
use Rattle.kit_base.specs.declared.failure.Failure.TheVariants as failures
use Rattle.build_core.specs.Build.{IsBuilt}
use Rattle.build_core.specs.Reached.{IsReadToBuild}
use Rattle.kit_tools.specs.Carrying.{FailsIn}
use Rattle.kit_tools.specs.declared.shown.Shown.TheVariants as shown
use Rattle.kit_core.specs.Due.{bounds_work, read_bounds_due}
use Rattle.kit_core.specs.inner.Checking.{TextBuilt}
use Rattle.kit_core.proofs.Bounds.{bounds_of, nothing}
use Rattle.kit_core.proofs.Projects.{Left, left_unread, left_refused, left_done, left_cut}
use Rattle.kit_core.proofs.bounding.bounds_command.Goals as goal

pub returns-in_err-source-clause-told : goal.returns-in_err-source-clause-told
returns-in_err-source-clause-told g c =
    let is : c.from_residual.result ≡ Err c.in_err-source.field-0.0 = search rules in
    subst (Left c.args.project.now (read_bounds_due c.args.project.now c.args.cart.now c.args.map.now c.args.text.now) IsReadToBuild (g.F.Reads.held c.args.files.now) (g.F.Reads.held c.read_file.new.files)) (sym is)
    (left_unread c.args.project.now (read_bounds_due c.args.project.now c.args.cart.now c.args.map.now c.args.text.now) IsReadToBuild (λ (v : Vec ℕ Global). v.items) (λ m f r h. ap Err h) c.in_err-source.field-0.0 (g.F.Reads.held c.args.files.now) (g.F.Reads.held c.read_file.new.files)
    c.in_err-source.ensures.told c.in_err-source.ensures.fails c.in_err-source.ensures.held)

pub returns-in_err-built-clause-told : goal.returns-in_err-built-clause-told
returns-in_err-built-clause-told g c =
    let is : c.from_residual-in_err-built.result ≡ Err c.in_err-built.field-0.0 = search rules in
    let given : IfSome (g.F.Reads.held c.read_file.new.files) (λ m. TextBuilt c.args.project.now c.in_ok-source.source.items m (Err c.in_err-built.field-0.0)) = search rules in
    let reached : IfSome (g.F.Reads.held c.read_file.new.files) (λ m. FailsIn (IsReadToBuild m c.in_ok-source.source.items) c.in_err-built.field-0.0) = search rules in
    subst (Left c.args.project.now (read_bounds_due c.args.project.now c.args.cart.now c.args.map.now c.args.text.now) IsReadToBuild (g.F.Reads.held c.args.files.now) (g.F.Reads.held c.build_text.new.files)) (sym is)
    (left_refused c.args.project.now (read_bounds_due c.args.project.now c.args.cart.now c.args.map.now c.args.text.now) IsReadToBuild c.in_ok-source.source.items c.in_err-built.field-0.0 (g.F.Reads.held c.args.files.now) (g.F.Reads.held c.read_file.new.files) (g.F.Reads.held c.build_text.new.files)
    c.in_ok-source.ensures.told c.in_ok-source.ensures.held given reached c.in_err-built.ensures.held)

pub returns-in_err-lines-clause-told : goal.returns-in_err-lines-clause-told
returns-in_err-lines-clause-told g c =
    let is : c.from_residual-in_err-lines.result ≡ Err failures.Memory = search rules in
    subst (Left c.args.project.now (read_bounds_due c.args.project.now c.args.cart.now c.args.map.now c.args.text.now) IsReadToBuild (g.F.Reads.held c.args.files.now) (g.F.Reads.held c.build_text.new.files)) (sym is)
    (left_refused c.args.project.now (read_bounds_due c.args.project.now c.args.cart.now c.args.map.now c.args.text.now) IsReadToBuild c.in_ok-source.source.items failures.Memory (g.F.Reads.held c.args.files.now) (g.F.Reads.held c.read_file.new.files) (g.F.Reads.held c.build_text.new.files)
    c.in_ok-source.ensures.told c.in_ok-source.ensures.held (nothing (g.F.Reads.held c.read_file.new.files)) (nothing (g.F.Reads.held c.read_file.new.files)) c.in_ok-built.ensures.held)

pub returns-in_err-write_three-clause-told : goal.returns-in_err-write_three-clause-told
returns-in_err-write_three-clause-told g c =
    let is : c.from_residual-in_err-write_three.result ≡ Err c.in_err-write_three.field-0.0 = search rules in
    let same : c.deref.result.now ≡ c.in_ok-source.source.items = search rules in
    let built = subst (λ t. IfSome (g.F.Reads.held c.read_file.new.files) (λ m. IsBuilt m t c.in_ok-built.built)) same c.in_ok-built.ensures.told in
    subst (Left c.args.project.now (read_bounds_due c.args.project.now c.args.cart.now c.args.map.now c.args.text.now) IsReadToBuild (g.F.Reads.held c.args.files.now) (g.F.Reads.held c.write_three.new.files)) (sym is)
    (left_cut c.args.project.now (read_bounds_due c.args.project.now c.args.cart.now c.args.map.now c.args.text.now) IsReadToBuild c.in_ok-source.source.items
    (bounds_work c.args.cart.now c.args.map.now c.args.text.now c.in_ok-built.built c.in_ok-lines.lines.items)
    c.in_err-write_three.field-0.0 (g.F.Reads.held c.args.files.now) (g.F.Reads.held c.read_file.new.files) (g.F.Reads.held c.build_text.new.files) (g.F.Reads.held c.write_three.new.files)
    c.in_ok-source.ensures.told c.in_ok-source.ensures.held
    (bounds_of c.args.project.now c.in_ok-source.source.items c.args.cart.now c.args.map.now c.args.text.now c.in_ok-built.built c.in_ok-lines.lines.items _ built c.in_ok-lines.ensures)
    c.in_ok-built.ensures.held c.in_err-write_three.ensures.err)

pub returns-clause-told : goal.returns-clause-told
returns-clause-told g c =
    let same : c.deref.result.now ≡ c.in_ok-source.source.items = search rules in
    let built = subst (λ t. IfSome (g.F.Reads.held c.read_file.new.files) (λ m. IsBuilt m t c.in_ok-built.built)) same c.in_ok-built.ensures.told in
    left_done c.args.project.now (read_bounds_due c.args.project.now c.args.cart.now c.args.map.now c.args.text.now) IsReadToBuild c.in_ok-source.source.items
    (bounds_work c.args.cart.now c.args.map.now c.args.text.now c.in_ok-built.built c.in_ok-lines.lines.items)
    (shown.Lines c.in_ok-lines.lines) (g.F.Reads.held c.args.files.now) (g.F.Reads.held c.read_file.new.files) (g.F.Reads.held c.build_text.new.files) (g.F.Reads.held c.write_three.new.files)
    refl refl c.in_ok-source.ensures.told c.in_ok-source.ensures.held
    (bounds_of c.args.project.now c.in_ok-source.source.items c.args.cart.now c.args.map.now c.args.text.now c.in_ok-built.built c.in_ok-lines.lines.items _ built c.in_ok-lines.ensures)
    c.in_ok-built.ensures.held c.in_ok-write_three.ensures.ok
