use Rattle.std.proofs.Common.{◌≡◌, ◌∙◌, ap, List, slice_get}
use Rattle.run_files.specs.declared.pads.PadEvent.{PadEvent}
use Rattle.port_bus.proofs.Applying.{pad_in_range, control_in_range}
use Rattle.port_bus.proofs.events.event_at.Goals as goal

pub returns-clause-pad : goal.returns-clause-pad
returns-clause-pad c =
    let read : c.element.result ≡ slice_get c.args.pads.now.events c.args.at =
    c.element.ensures.element ∙ ap (λ (es : List PadEvent). slice_get es c.args.at) c.events.ensures.value in
    pad_in_range c.args.pads.now c.args.at c.element.result c.events.ensures.kept read

pub returns-clause-control : goal.returns-clause-control
returns-clause-control c =
    let read : c.element.result ≡ slice_get c.args.pads.now.events c.args.at =
    c.element.ensures.element ∙ ap (λ (es : List PadEvent). slice_get es c.args.at) c.events.ensures.value in
    control_in_range c.args.pads.now c.args.at c.element.result c.events.ensures.kept read
