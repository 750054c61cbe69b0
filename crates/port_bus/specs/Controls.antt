-- How long a control of a gamepad has been as it is (the system specification, section on the gamepads).
use Rattle.std.specs.Prelude.{ℕ, zero, suc, ◌+◌, ◌-◌, min, ◌==◌, nat_lt, Bool, true, false, not, ◌&&◌, ◌||◌, List, [], ◌∷◌, if◌then◌else◌}
use Rattle.run_files.specs.declared.pads.PadEvent.{PadEvent}

-- ---- whether it is down

abbrev pub concerns : ℕ → ℕ → PadEvent → Bool
concerns pad control e = e.pad == pad && e.control == control

-- a control that was so, after these events in their order
abbrev pub after_events : ℕ → ℕ → Bool → List PadEvent → Bool
after_events pad control down [] = down
after_events pad control down (e ∷ es) = after_events pad control (if concerns pad control e then e.down else down) es

-- the events of the first n frames
abbrev pub events_before : ℕ → List PadEvent → List PadEvent
events_before n [] = []
events_before n (e ∷ es) = if nat_lt e.frame n then e ∷ events_before n es else events_before n es

-- whether a control is down after the events at the beginning of frame n
unfoldable pub is_down_in : List PadEvent → ℕ → ℕ → ℕ → Bool
is_down_in events n pad control = after_events pad control false (events_before (n + 1) events)

-- the same for each of the first n frames, the latest first
unfoldable pub downs_of : List PadEvent → ℕ → ℕ → ℕ → List Bool
downs_of events zero pad control = []
downs_of events (suc n) pad control = is_down_in events n pad control ∷ downs_of events n pad control

-- ---- for how long

abbrev pub same : Bool → Bool → Bool
same true b = b
same false b = not b

-- how many of the frames before, without a break, were like this one
abbrev pub run_before : Bool → List Bool → ℕ
run_before now [] = 0
run_before now (b ∷ before) = if same now b then 1 + run_before now before else 0

abbrev pub was_down : List Bool → Bool
was_down [] = false
was_down (b ∷ before) = b || was_down before

-- whether it is down now: not so before the first frame
abbrev pub down_now : List Bool → Bool
down_now [] = false
down_now (now ∷ before) = now

-- for how many frames it is as it is now, this one included, up to 3,600; and 3,600 where it was never down
abbrev pub count_now : List Bool → ℕ
count_now [] = 3600
count_now (now ∷ before) = if now || was_down before then min 3600 (1 + run_before now before) else 3600

-- the word of a count: itself where the control is down, else its negative
abbrev pub signed_count : Bool → ℕ → ℕ
signed_count down count = if down then count else 4294967296 - count

-- what the control's port answers in the last of the first n frames
unfoldable pub control_word : List PadEvent → ℕ → ℕ → ℕ → ℕ
control_word events n pad control = signed_count (down_now (downs_of events n pad control)) (count_now (downs_of events n pad control))
