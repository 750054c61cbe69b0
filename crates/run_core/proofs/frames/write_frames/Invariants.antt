use Rattle.std.proofs.Common.{◌+◌, ◌≤◌}
use Rattle.v32_console.specs.Setup.{Setup}
use Rattle.v32_console.specs.Moments.{opening_moment}
use Rattle.v32_console.specs.Stands.{ConsoleStands, frames_in}
use Rattle.run_core.specs.Writing.{IsThere, names_of}
use Rattle.run_core.proofs.Going.{Going}
use Rattle.run_core.proofs.frames.write_frames.Given as goal

abbrev pub decreases-frames : goal.decreases-frames
decreases-frames g l = l.left

abbrev pub invariant-frames : goal.invariant-frames
invariant-frames g l =
    ((u : Setup) → ConsoleStands u (opening_moment u) l.fn.console
    → Going (names_of l.names) u (opening_moment u) l.fn.count l.left l.end l.console (g.F.Reads.held l.fn.files) (g.F.Reads.held l.files))
    × IsThere l.names.frames.now (g.F.Reads.held l.files)
    × IsThere l.names.samples.now (g.F.Reads.held l.files)
    × (frames_in l.console + l.left ≤ 1000000000)
    × (g.F.Reads.faults l.fn.files ≤ g.F.Reads.faults l.files)
    × (g.F.Reads.misses l.fn.files ≤ g.F.Reads.misses l.files)
    × (g.F.Reads.overs l.fn.files ≤ g.F.Reads.overs l.files)
