use Rattle.std.proofs.Common.{Some, sym, ap, ◌∙◌}
use Rattle.std.specs.Option.{option_map}
use Rattle.v32_isa.specs.Ports.{listed, port_spelled, port_table}
use Rattle.v32_isa.proofs.port_table.port_spelled_as.Goals as goal

pub returns-in_err-entry : goal.returns-in_err-entry
unfolding port_spelled port_table
returns-in_err-entry c =
    rw c.from_residual.ensures (ap (option_map listed) (sym c.in_err-entry.was) ∙ c.entry_by_name.ensures)

pub returns : goal.returns
unfolding port_spelled port_table
returns c = ap Some c.row_of.ensures ∙ (ap (option_map listed) (sym c.in_ok-entry.was) ∙ c.entry_by_name.ensures)
