use Rattle.std.proofs.Common.{sym, subst}
use Rattle.std.specs.Prelude.{Err}
use Rattle.kit_base.specs.Counts.{counts}
use Rattle.build_core.specs.declared.error.BuildErr.{BuildErr}
use Rattle.build_core.specs.Causes.{HasReadCauses}
use Rattle.build_core.proofs.Checks.{source_unread, typed_causes, unread_causes}
use Rattle.build_core.proofs.Fronting.{source_accepted, source_rejected}
use Rattle.build_core.proofs.Starting.{source_reads}
use Rattle.build_core.specs.declared.checked.Checked.{Checked}
use Rattle.build_core.proofs.Failing.{typed_fails, reading_fails}
use Rattle.build_core.proofs.sources.read_source.Goals as goal

pub returns-in-Ok-clause-told : goal.returns-in-Ok-clause-told
returns-in-Ok-clause-told g c = source_reads (g.F.Reads.held c.args.files.now) c.as_str.result.now c.args.name.now c.as_str.ensures c.in-Ok.parsed c.source_of.result c.in-Ok.ensures.told c.source_of.ensures.typed

pub returns-in-Err-clause-told : goal.returns-in-Err-clause-told
returns-in-Err-clause-told g c = source_unread (g.F.Reads.held c.args.files.now) c.as_str.result.now c.args.name.now c.as_str.ensures c.in-Err.error c.unread.result c.unread.ensures c.in-Err.ensures.told

pub returns-in-Ok-clause-reached : goal.returns-in-Ok-clause-reached
returns-in-Ok-clause-reached g c = typed_fails (g.F.Reads.held c.args.files.now) c.args.name.now c.source_of.result c.source_of.ensures.content

pub returns-in-Err-clause-reached : goal.returns-in-Err-clause-reached
returns-in-Err-clause-reached g c = reading_fails Checked (g.F.Reads.held c.args.files.now) c.as_str.result.now c.args.name.now c.as_str.ensures c.in-Err.error c.unread.result c.unread.ensures c.in-Err.ensures.reached

pub returns-in-Ok-clause-causes : goal.returns-in-Ok-clause-causes
returns-in-Ok-clause-causes g c = typed_causes Checked c.in-Ok.parsed c.source_of.result _ _ c.in-Ok.ensures.faults c.in-Ok.ensures.misses c.in-Ok.ensures.overs c.source_of.ensures.content

pub returns-in-Err-clause-causes : goal.returns-in-Err-clause-causes
returns-in-Err-clause-causes g c =
    let before = counts g.F.Reads.faults g.F.Reads.misses g.F.Reads.overs c.args.files.now in
    let after = counts g.F.Reads.faults g.F.Reads.misses g.F.Reads.overs c.read_unit.new.files in
    subst (λ (e : BuildErr). HasReadCauses {T = Checked} (Err e) before after) (sym c.unread.ensures)
    (unread_causes Checked c.in-Err.error before after c.in-Err.ensures.codes c.in-Err.ensures.faults c.in-Err.ensures.misses c.in-Err.ensures.overs)

pub returns-in-Ok-clause-accepts : goal.returns-in-Ok-clause-accepts
returns-in-Ok-clause-accepts g c = source_accepted (g.F.Reads.held c.args.files.now) c.as_str.result.now c.args.name.now c.as_str.ensures c.in-Ok.parsed c.source_of.result c.in-Ok.ensures.derived c.source_of.ensures.only

pub returns-in-Err-clause-accepts : goal.returns-in-Err-clause-accepts
returns-in-Err-clause-accepts g c = source_rejected (g.F.Reads.held c.args.files.now) c.as_str.result.now c.args.name.now c.as_str.ensures c.in-Err.error c.unread.result c.unread.ensures c.in-Err.ensures.derived
