use Rattle.std.proofs.Common.{◌≡◌, drop, map}
use Rattle.std.specs.Prelude.{find}
use Rattle.std.specs.Str.{bytes_eq}
use Rattle.v32_isa.specs.Ports.{listed}
use Rattle.v32_isa.proofs.port_table.entry_by_name.Given as goal

abbrev pub invariant-loop-entry : goal.invariant-loop-entry
invariant-loop-entry l =
    find (λ e. bytes_eq e.name l.name) (map listed l.entries) ≡ find (λ e. bytes_eq e.name l.name) (map listed (drop l.entry-index l.entries))
