use Rattle.std.proofs.Common.{◌+◌, ◌≤◌}
use Rattle.v32_console.specs.Setup.{Setup}
use Rattle.v32_console.specs.Moments.{opening_moment}
use Rattle.v32_console.specs.Stands.{ConsoleStands, frames_in}
use Rattle.kit_core.proofs.PlainFollowing.{Follows}
use Rattle.kit_core.proofs.plain.run.run_frames.Given as goal

abbrev pub decreases-frames : goal.decreases-frames
decreases-frames l = l.left

abbrev pub invariant-frames : goal.invariant-frames
invariant-frames l =
    ((u : Setup) → ConsoleStands u (opening_moment u) l.fn.console → Follows u l.fn.count l.left l.end l.console)
    × (frames_in l.console + l.left ≤ 1000000000)
