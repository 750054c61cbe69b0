use Rattle.std.proofs.Common.{rules, ◌≡◌, sym, subst, refl, ap, ◌∙◌}
use Rattle.std.specs.Prelude.{ℕ, List, Err}
use Rattle.kit_base.specs.Effects.{written_file, all_done}
use Rattle.run_files.specs.Screens.{frames_header, samples_header}
use Rattle.run_core.specs.Outputs.{heads}
use Rattle.run_core.specs.Writing.{IsCut, Writes, names_of}
use Rattle.run_core.proofs.Parts.{cut_in_first, writes_last}
use Rattle.run_core.proofs.run.write_heads.Goals as goal

pub returns-in_err-write_bytes-clause-written : goal.returns-in_err-write_bytes-clause-written
returns-in_err-write_bytes-clause-written g c =
    let names = names_of c.args.names.now in
    let is : c.from_residual.result ≡ Err c.in_err-write_bytes.field-0.0 = search rules in
    subst (λ r. Writes names (heads names) r (g.F.Reads.held c.args.files.now) (g.F.Reads.held c.write_bytes.new.files)) (sym is)
    (cut_in_first names c.in_err-write_bytes.field-0.0.output (written_file names.frames frames_header) (written_file names.samples samples_header) _ _
    (subst (λ (head : List ℕ). IsCut names c.in_err-write_bytes.field-0.0.output (written_file names.frames head) (g.F.Reads.held c.args.files.now) (g.F.Reads.held c.write_bytes.new.files))
    c.frames_header.ensures (c.in_err-write_bytes.ensures.written names refl)))

pub returns-clause-written : goal.returns-clause-written
returns-clause-written g c =
    let names = names_of c.args.names.now in
    writes_last names (written_file names.frames frames_header) (written_file names.samples samples_header) c.write_bytes-2.result _ (g.F.Reads.held c.write_bytes.new.files) _
    (c.in_ok-write_bytes.ensures.written names refl ∙ ap (λ (head : List ℕ). all_done (written_file names.frames head) (g.F.Reads.held c.args.files.now)) c.frames_header.ensures)
    (subst (λ (head : List ℕ). Writes names (written_file names.samples head) c.write_bytes-2.result (g.F.Reads.held c.write_bytes.new.files) (g.F.Reads.held c.write_bytes-2.new.files))
    c.samples_header.ensures (c.write_bytes-2.ensures.written names refl))
