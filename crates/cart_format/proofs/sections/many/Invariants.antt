use Rattle.std.proofs.Common.{◌≡◌, ◌-◌, ◌+◌, ◌≤◌}
use Rattle.cart_format.specs.Reading.{many}
use Rattle.cart_format.proofs.Many.{with_front}
use Rattle.cart_format.proofs.sections.many.Given as goal

abbrev pub invariant-each : goal.invariant-each
invariant-each g l = record {
  index : l.at ≤ l.index + l.counter;
  reads : with_front l.items.items (many g.X.Part.at l.step l.at (l.count - l.counter) l.rest) ≡ many g.X.Part.at l.step l.index l.count l.bytes;
}
