use Rattle.kit_words.specs.Command.{command_of, texts}
use Rattle.kit_core.proofs.Behind.{done_told, refused_told}
use Rattle.kit_core.proofs.Reasons.{failed_reason, limit_reason, line_put, missing_reason, source_reason, text_put, usage_reason, usage_status}
use Rattle.kit_core.proofs.top.status_for.Goals as goal

pub returns-in-Ok-clause-told : goal.returns-in-Ok-clause-told
returns-in-Ok-clause-told g c =
    done_told (command_of (texts c.args.words.now)) (g.F.Reads.held c.args.files.now) c.finish.result (g.F.Reads.held c.carry_out.new.files) (g.S.Sink.written c.args.out.now)
    (g.S.Sink.written c.finish.new.out) c.in-Ok.shown c.in-Ok.ensures.told c.finish.ensures.shows

pub returns-in-Err-clause-told : goal.returns-in-Err-clause-told
returns-in-Err-clause-told g c =
    refused_told (command_of (texts c.args.words.now)) (g.F.Reads.held c.args.files.now) c.report.result (g.F.Reads.held c.carry_out.new.files) (g.S.Sink.written c.args.out.now)
    (g.S.Sink.written c.report.new.out) c.in-Err.refusal c.in-Err.ensures.told c.report.ensures.shows

pub returns-in-Err-clause-missing : goal.returns-in-Err-clause-missing
returns-in-Err-clause-missing g c = missing_reason _ _ _ _ _ _ c.in-Err.refusal _ c.in-Err.ensures.causes c.report.ensures.shows

pub returns-in-Err-clause-failed : goal.returns-in-Err-clause-failed
returns-in-Err-clause-failed g c = failed_reason _ _ _ _ _ _ c.in-Err.refusal _ c.in-Err.ensures.causes c.report.ensures.shows

pub returns-in-Err-clause-limit : goal.returns-in-Err-clause-limit
returns-in-Err-clause-limit g c = limit_reason _ _ _ _ _ _ c.in-Err.refusal _ c.in-Err.ensures.causes c.report.ensures.shows

pub returns-in-Err-clause-usage : goal.returns-in-Err-clause-usage
returns-in-Err-clause-usage g c = usage_reason _ _ _ _ _ _ c.in-Err.refusal _ c.in-Err.ensures.causes c.report.ensures.shows

pub returns-in-Err-clause-no_form : goal.returns-in-Err-clause-no_form
returns-in-Err-clause-no_form g c none = usage_status c.in-Err.refusal _ _ _ _ (c.in-Err.ensures.usage none) c.report.ensures.shows

pub returns-in-Err-clause-sources : goal.returns-in-Err-clause-sources
returns-in-Err-clause-sources g c = source_reason _ _ _ _ _ _ c.in-Err.refusal _ c.in-Err.ensures.causes c.report.ensures.shows

pub returns-in-Err-clause-line : goal.returns-in-Err-clause-line
returns-in-Err-clause-line g c = line_put c.in-Err.refusal _ _ _ c.report.ensures.shows

pub returns-in-Ok-clause-line : goal.returns-in-Ok-clause-line
returns-in-Ok-clause-line g c = text_put c.in-Ok.shown _ _ _ c.finish.ensures.shows

pub returns-in-Ok-clause-no_form : goal.returns-in-Ok-clause-no_form
returns-in-Ok-clause-no_form g c none = absurd (c.in-Ok.ensures.usage none)
