use Rattle.std.proofs.Common.{◌+◌, ◌*◌, ◌≤◌}
use Rattle.v32_console.specs.Setup.{Setup}
use Rattle.v32_console.specs.Moments.{opening_moment}
use Rattle.v32_console.specs.Stands.{ConsoleStands, frames_in}
use Rattle.noted_run.proofs.Noting.{Follows}
use Rattle.noted_run.proofs.frames.note_frames.Given as goal

abbrev pub decreases-frames : goal.decreases-frames
decreases-frames l = l.left

abbrev pub invariant-frames : goal.invariant-frames
invariant-frames l =
    ((u : Setup) → ConsoleStands u (opening_moment u) l.fn.console → Follows u l.fn.count l.left l.end l.console l.notes)
    × (frames_in l.console + l.left ≤ 1000000000)
    × (l.notes.instructions + 250000 * l.left ≤ 250000 * l.fn.count)
