-- What the devices keep behind their state: the events before an index were applied, and each control's place has its
-- last event and its count.
use Rattle.std.specs.Prelude.{◌≡◌, ℕ, ◌+◌, ◌*◌, ◌<◌, ◌≤◌, Bool, false, List, Some, take, length, slice_get, slice_index_or, slice_index}
use Rattle.run_files.specs.declared.pads.PadEvent.{PadEvent}
use Rattle.port_bus.specs.Controls.{after_events, downs_of, count_now}

-- where a control of a gamepad stands among the 44
abbrev pub place : ℕ → ℕ → ℕ
place pad control = 11 * pad + control

-- the events below the index are of the first n frames, and the others are not
pub record PartsAt (events : List PadEvent) (n index : ℕ) : Type 0 where
  pub within : index ≤ length events
  pub before : (i : ℕ) (e : PadEvent) → i < index → slice_get events i ≡ Some e → e.frame < n
  pub after : (i : ℕ) (e : PadEvent) → index ≤ i → slice_get events i ≡ Some e → n ≤ e.frame

-- each control is as the events below the index left it
pub record AreDowns (events : List PadEvent) (index : ℕ) (downs : List Bool) : Type 0 where
  pub size : length downs ≡ 44
  pub at : (pad control : ℕ) → pad ≤ 3 → control ≤ 10 → slice_index_or downs (place pad control) false ≡ after_events pad control false (take index events)

-- each count is that of its control after n frames
pub record AreCounts (events : List PadEvent) (n : ℕ) (counts : List ℕ) : Type 0 where
  pub size : length counts ≡ 44
  pub at : (pad control : ℕ) → pad ≤ 3 → control ≤ 10 → slice_index counts (place pad control) ≡ count_now (downs_of events n pad control)

pub record IsKept (events : List PadEvent) (n index pad : ℕ) (downs : List Bool) (counts : List ℕ) : Type 0 where
  pub selected : pad ≤ 3
  pub parts : PartsAt events n index
  pub downs_are : AreDowns events index downs
  pub counts_are : AreCounts events n counts
