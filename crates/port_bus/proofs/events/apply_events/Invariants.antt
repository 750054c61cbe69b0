use Rattle.std.proofs.Common.{◌≡◌, ℕ, ◌<◌, ◌≤◌, ◌+◌, ◌-◌, length, Some, slice_get}
use Rattle.run_files.specs.declared.pads.PadEvent.{PadEvent}
use Rattle.port_bus.specs.inner.Kept.{AreDowns}
use Rattle.port_bus.proofs.events.apply_events.Given as goal

abbrev pub invariant-each : goal.invariant-each
invariant-each l = record {
  within : l.at ≤ length l.pads.events;
  further : l.next ≤ l.at;
  before : (i : ℕ) (e : PadEvent) → i < l.at → slice_get l.pads.events i ≡ Some e → e.frame < l.frame + 1;
  downs : AreDowns l.pads.events l.at l.downs;
}

abbrev pub decreases-each : goal.decreases-each
decreases-each l = length l.pads.events - l.at
