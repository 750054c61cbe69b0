use Rattle.std.proofs.Common.{rules, ◌≡◌, refl, sym, subst, ap, ℕ}
use Rattle.std.specs.declared.alloc.Global.{Global}
use Rattle.std.specs.Prelude.{Err, IfSome, Vec}
use Rattle.build_core.specs.Build.{IsBuilt}
use Rattle.build_core.specs.Reached.{IsReadToBuild}
use Rattle.kit_tools.specs.Carrying.{FailsIn}
use Rattle.kit_tools.specs.declared.shown.Shown.TheVariants as shown
use Rattle.kit_core.specs.Due.{built_work, read_build_due}
use Rattle.kit_core.specs.inner.Checking.{TextBuilt}
use Rattle.kit_core.proofs.Builds.{built_due}
use Rattle.kit_core.proofs.Projects.{Left, left_unread, left_refused, left_done, left_cut}
use Rattle.kit_core.proofs.building.build_command.Goals as goal

pub returns-in_err-text-clause-told : goal.returns-in_err-text-clause-told
returns-in_err-text-clause-told g c =
    let is : c.from_residual.result ≡ Err c.in_err-text.field-0.0 = search rules in
    subst (Left c.args.project.now (read_build_due c.args.project.now c.args.cart.now c.args.map.now) IsReadToBuild (g.F.Reads.held c.args.files.now) (g.F.Reads.held c.read_file.new.files)) (sym is)
    (left_unread c.args.project.now (read_build_due c.args.project.now c.args.cart.now c.args.map.now) IsReadToBuild (λ (v : Vec ℕ Global). v.items) (λ m f r h. ap Err h) c.in_err-text.field-0.0 (g.F.Reads.held c.args.files.now) (g.F.Reads.held c.read_file.new.files)
    c.in_err-text.ensures.told c.in_err-text.ensures.fails c.in_err-text.ensures.held)

pub returns-in_err-built-clause-told : goal.returns-in_err-built-clause-told
returns-in_err-built-clause-told g c =
    let is : c.from_residual-in_err-built.result ≡ Err c.in_err-built.field-0.0 = search rules in
    let given : IfSome (g.F.Reads.held c.read_file.new.files) (λ m. TextBuilt c.args.project.now c.in_ok-text.text.items m (Err c.in_err-built.field-0.0)) = search rules in
    let reached : IfSome (g.F.Reads.held c.read_file.new.files) (λ m. FailsIn (IsReadToBuild m c.in_ok-text.text.items) c.in_err-built.field-0.0) = search rules in
    subst (Left c.args.project.now (read_build_due c.args.project.now c.args.cart.now c.args.map.now) IsReadToBuild (g.F.Reads.held c.args.files.now) (g.F.Reads.held c.build_text.new.files)) (sym is)
    (left_refused c.args.project.now (read_build_due c.args.project.now c.args.cart.now c.args.map.now) IsReadToBuild c.in_ok-text.text.items c.in_err-built.field-0.0 (g.F.Reads.held c.args.files.now) (g.F.Reads.held c.read_file.new.files) (g.F.Reads.held c.build_text.new.files)
    c.in_ok-text.ensures.told c.in_ok-text.ensures.held given reached c.in_err-built.ensures.held)

pub returns-in_err-write_outputs-clause-told : goal.returns-in_err-write_outputs-clause-told
returns-in_err-write_outputs-clause-told g c =
    let is : c.from_residual-in_err-write_outputs.result ≡ Err c.in_err-write_outputs.field-0.0 = search rules in
    let built : IfSome (g.F.Reads.held c.read_file.new.files) (λ m. IsBuilt m c.in_ok-text.text.items c.in_ok-built.built) = search rules in
    subst (Left c.args.project.now (read_build_due c.args.project.now c.args.cart.now c.args.map.now) IsReadToBuild (g.F.Reads.held c.args.files.now) (g.F.Reads.held c.write_outputs.new.files)) (sym is)
    (left_cut c.args.project.now (read_build_due c.args.project.now c.args.cart.now c.args.map.now) IsReadToBuild c.in_ok-text.text.items (built_work c.args.cart.now c.args.map.now c.in_ok-built.built)
    c.in_err-write_outputs.field-0.0 (g.F.Reads.held c.args.files.now) (g.F.Reads.held c.read_file.new.files) (g.F.Reads.held c.build_text.new.files) (g.F.Reads.held c.write_outputs.new.files)
    c.in_ok-text.ensures.told c.in_ok-text.ensures.held (built_due c.args.project.now c.in_ok-text.text.items c.args.cart.now c.args.map.now c.in_ok-built.built _ built) c.in_ok-built.ensures.held c.in_err-write_outputs.ensures.err)

pub returns-clause-told : goal.returns-clause-told
returns-clause-told g c =
    let built : IfSome (g.F.Reads.held c.read_file.new.files) (λ m. IsBuilt m c.in_ok-text.text.items c.in_ok-built.built) = search rules in
    left_done c.args.project.now (read_build_due c.args.project.now c.args.cart.now c.args.map.now) IsReadToBuild c.in_ok-text.text.items (built_work c.args.cart.now c.args.map.now c.in_ok-built.built)
    shown.Nothing (g.F.Reads.held c.args.files.now) (g.F.Reads.held c.read_file.new.files) (g.F.Reads.held c.build_text.new.files) (g.F.Reads.held c.write_outputs.new.files)
    refl refl c.in_ok-text.ensures.told c.in_ok-text.ensures.held (built_due c.args.project.now c.in_ok-text.text.items c.args.cart.now c.args.map.now c.in_ok-built.built _ built) c.in_ok-built.ensures.held c.in_ok-write_outputs.ensures.ok
