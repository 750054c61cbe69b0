use Rattle.std.proofs.Common.{◌≡◌, ◌-◌, length, Some, slice_get, sym, ap, ◌∙◌}
use Rattle.std.specs.Option.{option_copied}
use Rattle.run_files.proofs.Scripts.{last_frame-last}
use Rattle.run_files.proofs.pads.Pads.last_frame.Goals as goal

pub returns-in-Some : goal.returns-in-Some
returns-in-Some c =
    let read : slice_get c.as_slice.result.now (length c.as_slice.result.now - 1) ≡ Some c.in-Some.event.now =
    sym c.last.ensures.value ∙ ap option_copied c.in-Some.is in
    rw (← c.self.view_is, ← c.as_slice.ensures.value) (last_frame-last 0 c.as_slice.result.now c.in-Some.event.now read)
