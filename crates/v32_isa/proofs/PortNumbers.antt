-- The numbers of the port table can be named by an instruction.
use Rattle.std.proofs.Common.{◌≡◌, ℕ, ◌<◌, Bool, true, Option, Some, None, List, [], ◌∷◌, refl, sym, arith}
use Rattle.std.specs.Prelude.{find, nat_lt, IfSome}
use Rattle.std.specs.List.{list_all}
use Rattle.std.specs.Option.{option_map}
use Rattle.v32_isa.specs.declared.port_table.PortRow.{PortRow}
use Rattle.v32_isa.specs.Ports.{PortEntry, port_table, port_spelled, entry_of}

abbrev in_range : PortEntry → Bool
in_range e = nat_lt e.number 16384

all_in_range : list_all in_range port_table ≡ true
unfolding port_table
all_in_range = refl

found_in_range : (p : PortEntry → Bool) (es : List PortEntry) (e : PortEntry) → list_all in_range es ≡ true → find p es ≡ Some e → e.number < 16384
found_in_range p [] e h f = absurd cc
found_in_range p (x ∷ xs) e h f = grind (arith, found_in_range p xs e)

row_in_range : (p : PortEntry → Bool) (r : Option PortRow) → option_map entry_of r ≡ find p port_table → IfSome r (λ row. row.number < 16384)
row_in_range p None h = tt
row_in_range p (Some row) h = found_in_range p port_table (entry_of row) all_in_range (sym h)

pub spelled_in_range : (name : List ℕ) (r : Option PortRow) → option_map entry_of r ≡ port_spelled name → IfSome r (λ row. row.number < 16384)
unfolding port_spelled
spelled_in_range name r h = row_in_range _ r h
