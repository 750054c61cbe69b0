use Rattle.std.proofs.Common.{rules, ◌≡◌, sym, subst}
use Rattle.std.specs.Prelude.{Err, IfSome}
use Rattle.build_core.specs.Build.{IsBuilt}
use Rattle.build_core.specs.Reached.{IsReadToBuild}
use Rattle.gen_source.specs.Source.{project_text}
use Rattle.kit_tools.specs.Carrying.{FailsIn}
use Rattle.kit_core.specs.inner.Checking.{TextBuilt}
use Rattle.kit_core.proofs.Generates.{GenLeft, gen_left, gen_refused}
use Rattle.kit_core.proofs.generating.build_made.Goals as goal

pub returns-in_err-built-clause-told : goal.returns-in_err-built-clause-told
returns-in_err-built-clause-told g c =
    let is : c.from_residual.result ≡ Err c.in_err-built.field-0.0 = search rules in
    let text : c.project_text.result.now ≡ project_text = search rules in
    let given : IfSome (g.F.Reads.held c.args.files.now) (λ m. TextBuilt c.args.project.now c.project_text.result.now m (Err c.in_err-built.field-0.0)) = search rules in
    let reached : IfSome (g.F.Reads.held c.args.files.now) (λ m. FailsIn (IsReadToBuild m c.project_text.result.now) c.in_err-built.field-0.0) = search rules in
    subst (GenLeft c.args.functions c.args.project.now c.args.cart.now c.args.map.now (g.F.Reads.held c.args.files.now) (g.F.Reads.held c.build_text.new.files)) (sym is)
    (gen_refused c.args.functions c.args.project.now c.args.cart.now c.args.map.now c.in_err-built.field-0.0 (g.F.Reads.held c.args.files.now) (g.F.Reads.held c.build_text.new.files)
    (subst (λ t. IfSome (g.F.Reads.held c.args.files.now) (λ m. TextBuilt c.args.project.now t m (Err c.in_err-built.field-0.0))) text given)
    (subst (λ t. IfSome (g.F.Reads.held c.args.files.now) (λ m. FailsIn (IsReadToBuild m t) c.in_err-built.field-0.0)) text reached) c.in_err-built.ensures.held)

pub returns-clause-told : goal.returns-clause-told
returns-clause-told g c =
    let text : c.project_text.result.now ≡ project_text = search rules in
    let built = subst (λ t. IfSome (g.F.Reads.held c.args.files.now) (λ m. IsBuilt m t c.in_ok-built.built)) text c.in_ok-built.ensures.told in
    gen_left c.args.functions c.args.project.now c.args.cart.now c.args.map.now c.in_ok-built.built c.in_ok-cartridge.cartridge c.in_ok-cartridge.ensures c.generate.result
    (g.F.Reads.held c.args.files.now) (g.F.Reads.held c.build_text.new.files) (g.F.Reads.held c.generate.new.files) built c.in_ok-built.ensures.held c.generate.ensures.written
