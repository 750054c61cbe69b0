use Rattle.std.proofs.Common.{rules, ◌≡◌, [], ◌∷◌, refl, sym, subst}
use Rattle.std.specs.Prelude.{IfSome, Err, Contains}
use Rattle.kit_base.specs.Effects.{all_done, written_file}
use Rattle.kit_tools.specs.declared.shown.Shown.TheVariants as shown
use Rattle.kit_tools.specs.Converting.{convert_due}
use Rattle.kit_tools.specs.Carrying.{IsCut, Leaves}
use Rattle.kit_tools.proofs.Conversions.{conversion_cut, conversion_done}
use Rattle.kit_tools.proofs.converting.convert_command.Goals as goal

pub returns-in_err-write_output-clause-told : goal.returns-in_err-write_output-clause-told
returns-in_err-write_output-clause-told g c =
    let is : c.from_residual-in_err-write_output.result ≡ Err c.in_err-write_output.field-0.0 = search rules in
    let is_cut : IsCut c.in_err-write_output.field-0.0 (written_file c.args.target.now c.in_ok-bytes.bytes.items) (g.F.Reads.held c.made.new.files) (g.F.Reads.held c.write_output.new.files) = search rules in
    subst (λ r. IfSome (g.F.Reads.held c.args.files.now) (λ m. Leaves r (convert_due c.args.conversion c.args.source.now c.args.target.now m) (Contains (c.args.source.now ∷ [])) m (g.F.Reads.held c.write_output.new.files))) (sym is)
    (conversion_cut c.args.conversion c.args.source.now c.args.target.now c.in_ok-bytes.bytes.items c.in_err-write_output.field-0.0 _ (g.F.Reads.held c.made.new.files) _
    c.in_ok-bytes.ensures.told c.in_ok-bytes.ensures.held is_cut)

pub returns-clause-told : goal.returns-clause-told
returns-clause-told g c =
    let done : g.F.Reads.held c.write_output.new.files ≡ all_done (written_file c.args.target.now c.in_ok-bytes.bytes.items) (g.F.Reads.held c.made.new.files) = search rules in
    conversion_done c.args.conversion c.args.source.now c.args.target.now c.in_ok-bytes.bytes.items shown.Nothing _ (g.F.Reads.held c.made.new.files) _
    refl refl c.in_ok-bytes.ensures.told c.in_ok-bytes.ensures.held done
