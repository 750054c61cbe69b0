-- The position of a channel that plays, after some samples (the system specification, sound chip, on loops).
use Rattle.std.specs.Prelude.{ℕ, Bool, ◌+◌, ◌-◌, ◌%◌, ◌==◌, ◌&&◌, nat_le, nat_lt, Option, Some, None, if◌then◌else◌}

-- One more sample: at the loop end a looping channel goes to the loop start; any other goes to the next position, and
-- past the last of its `count` samples it has stopped.
abbrev pub next_position : Bool → ℕ → ℕ → ℕ → Option ℕ → Option ℕ
next_position looping loop_start loop_end count None = None
next_position looping loop_start loop_end count (Some p) =
    if looping && (p == loop_end) then Some loop_start else (if nat_lt (p + 1) count then Some (p + 1) else None)

-- from position p, after j samples: none where the channel has stopped
unfoldable pub position_after : Bool → ℕ → ℕ → ℕ → ℕ → ℕ → Option ℕ
position_after looping loop_start loop_end count p j =
    if looping && nat_le p loop_end && nat_lt loop_end (p + j)
    then Some (loop_start + (p + j - loop_start) % (loop_end - loop_start + 1))
    else (if nat_lt (p + j) count then Some (p + j) else None)
