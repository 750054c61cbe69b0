use Rattle.kit_words.specs.Command.{texts}
use Rattle.kit_core.proofs.Headlines.{headline_told}
use Rattle.kit_core.proofs.Traces.{trace_told}
use Rattle.kit_core.proofs.Runs.{run_told}
use Rattle.kit_core.proofs.Plays.{play_told}
use Rattle.kit_core.proofs.Holdings.{hold_told}
use Rattle.kit_core.proofs.Leaving.{fronts_told}
use Rattle.kit_core.proofs.Generates.{gen_told}
use Rattle.kit_core.proofs.WatchedRuns.{watch_told}
use Rattle.kit_core.proofs.Bounds.{bounds_told}
use Rattle.kit_core.proofs.Ends.{complete_told, untouched_told}
use Rattle.kit_core.proofs.top.kit.Goals as goal

pub returns-clause-agrees : goal.returns-clause-agrees
returns-clause-agrees g c =
    headline_told c.built_cartridges_are_read_back.ensures.read (texts c.args.words.now) c.status_for.result (g.F.Reads.held c.args.files.now) (g.F.Reads.held c.status_for.new.files)
    (g.S.Sink.written c.args.out.now) (g.S.Sink.written c.status_for.new.out) c.status_for.ensures.told

pub returns-clause-traces : goal.returns-clause-traces
returns-clause-traces g c =
    trace_told (texts c.args.words.now) c.status_for.result (g.F.Reads.held c.args.files.now) (g.F.Reads.held c.status_for.new.files)
    (g.S.Sink.written c.args.out.now) (g.S.Sink.written c.status_for.new.out) c.status_for.ensures.told

pub returns-clause-runs : goal.returns-clause-runs
returns-clause-runs g c =
    run_told (texts c.args.words.now) c.status_for.result (g.F.Reads.held c.args.files.now) (g.F.Reads.held c.status_for.new.files)
    (g.S.Sink.written c.args.out.now) (g.S.Sink.written c.status_for.new.out) c.status_for.ensures.told

pub returns-clause-plays : goal.returns-clause-plays
returns-clause-plays g c =
    play_told c.played_runs_are_the_sources.ensures.played c.played_runs_are_the_sources.ensures.whole (texts c.args.words.now) c.status_for.result (g.F.Reads.held c.args.files.now) (g.F.Reads.held c.status_for.new.files)
    (g.S.Sink.written c.args.out.now) (g.S.Sink.written c.status_for.new.out) c.status_for.ensures.told

pub returns-clause-holds : goal.returns-clause-holds
returns-clause-holds g c =
    hold_told (texts c.args.words.now) c.status_for.result (g.F.Reads.held c.args.files.now) (g.F.Reads.held c.status_for.new.files)
    (g.S.Sink.written c.args.out.now) (g.S.Sink.written c.status_for.new.out)
    (run_told (texts c.args.words.now) c.status_for.result (g.F.Reads.held c.args.files.now) (g.F.Reads.held c.status_for.new.files)
    (g.S.Sink.written c.args.out.now) (g.S.Sink.written c.status_for.new.out) c.status_for.ensures.told)

pub returns-clause-watches : goal.returns-clause-watches
returns-clause-watches g c =
    watch_told c.runs_are_of_instructions.ensures.runs c.kept_runs_are_the_sources.ensures.decides c.kept_runs_are_the_sources.ensures.follows c.kept_runs_are_the_sources.ensures.whole
    (texts c.args.words.now) c.status_for.result (g.F.Reads.held c.args.files.now) (g.F.Reads.held c.status_for.new.files)
    (g.S.Sink.written c.args.out.now) (g.S.Sink.written c.status_for.new.out) c.status_for.ensures.told

pub returns-clause-bounded : goal.returns-clause-bounded
returns-clause-bounded g c =
    bounds_told c.calls_stay_within_bounds.ensures c.built_cartridges_are_read_back.ensures.read (texts c.args.words.now) c.status_for.result (g.F.Reads.held c.args.files.now) (g.F.Reads.held c.status_for.new.files)
    (g.S.Sink.written c.args.out.now) (g.S.Sink.written c.status_for.new.out) c.status_for.ensures.told

pub returns-clause-fronts : goal.returns-clause-fronts
returns-clause-fronts g c =
    fronts_told (texts c.args.words.now) c.status_for.result (g.F.Reads.held c.args.files.now) (g.F.Reads.held c.status_for.new.files)
    (g.S.Sink.written c.args.out.now) (g.S.Sink.written c.status_for.new.out) c.status_for.ensures.told

pub returns-clause-generates : goal.returns-clause-generates
returns-clause-generates g c =
    gen_told c.played_runs_are_the_sources.ensures.played c.played_runs_are_the_sources.ensures.whole (texts c.args.words.now) c.status_for.result (g.F.Reads.held c.args.files.now) (g.F.Reads.held c.status_for.new.files)
    (g.S.Sink.written c.args.out.now) (g.S.Sink.written c.status_for.new.out) c.status_for.ensures.told

pub returns-clause-untouched : goal.returns-clause-untouched
returns-clause-untouched g c =
    untouched_told c.builds_are_due_or_refused.ensures.either (texts c.args.words.now) c.status_for.result (g.F.Reads.held c.args.files.now) (g.F.Reads.held c.status_for.new.files)
    (g.S.Sink.written c.args.out.now) (g.S.Sink.written c.status_for.new.out) c.status_for.ensures.told

pub returns-clause-complete : goal.returns-clause-complete
returns-clause-complete g c =
    complete_told (texts c.args.words.now) c.status_for.result (g.F.Reads.held c.args.files.now) (g.F.Reads.held c.status_for.new.files)
    (g.S.Sink.written c.args.out.now) (g.S.Sink.written c.status_for.new.out) _ _ _ _ c.status_for.ensures.failed c.status_for.ensures.unput c.status_for.ensures.told
