use Rattle.std.proofs.Common.{◌≡◌, ◌≤◌, ◌+◌, List}
use Rattle.cpu_core.specs.Machine.{state_of}
use Rattle.port_history.specs.Past.{Happening}
use Rattle.v32_console.specs.Setup.{Setup}
use Rattle.v32_console.specs.Moments.{Running, moment}
use Rattle.v32_console.specs.Stands.{BoardStands}
use Rattle.v32_console.proofs.Steps.{Came}
use Rattle.v32_console.proofs.running.run_frame.Given as goal

abbrev pub invariant-loop-done : goal.invariant-loop-done
invariant-loop-done l =
    (l.board.cycles ≡ l.done) × (l.board.devices.frames ≡ l.fn.board.devices.frames) × (l.board.tape.events ≤ l.fn.board.tape.events + l.done)
    × ((u : Setup) (past : List Happening) → BoardStands u past l.fn.board → Came u 250000 (moment (state_of l.fn.cpu) past (Running 0)) l.fn.board.tape l.done (state_of l.cpu) l.board)
