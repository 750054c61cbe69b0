use Rattle.std.proofs.Common.{◌≡◌, ◌==◌, drop, map}
use Rattle.std.specs.Prelude.{find}
use Rattle.v32_isa.specs.Ports.{listed}
use Rattle.v32_isa.proofs.port_table.entry_by_number.Given as goal

abbrev pub invariant-loop-entry : goal.invariant-loop-entry
invariant-loop-entry l =
    find (λ e. e.number == l.number) (map listed l.entries) ≡ find (λ e. e.number == l.number) (map listed (drop l.entry-index l.entries))
