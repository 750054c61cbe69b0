-- The text of a run: a line for each port operation, and last a line that says how the run ended.
-- (The command line, the lines that `trace` puts.)
use Rattle.std.specs.Prelude.{ℕ, List, [], ◌∷◌, ◌++◌, flat_map, codes}
use Rattle.std.specs.Fmt.{decimal}
use Rattle.kit_base.specs.declared.event.Event.{Event}
use Rattle.kit_base.specs.declared.event.Event.TheVariants as event
use Rattle.v32_isa.specs.Runs.{End, Run}
use Rattle.v32_isa.specs.Runs.End.{Going, Halted, Starved, Fault, Undecodable}
use Rattle.kit_base.specs.Digits.{word_digits}
use Rattle.trace_core.specs.Digits.{port_digits}

-- a port operation with its port and its word; each line ends with LF
abbrev pub port_line : List ℕ → ℕ → ℕ → List ℕ
port_line kind port word = kind ++ codes " 0x" ++ port_digits port ++ codes " 0x" ++ word_digits word ++ 10 ∷ []

abbrev pub event_line : Event → List ℕ
event_line (event.In port word) = port_line (codes "in") port word
event_line (event.Out port word) = port_line (codes "out") port word
event_line event.Wait = codes "wait" ++ 10 ∷ []

-- the end of a run whose counter is at that address
abbrev pub end_line : End → ℕ → List ℕ
end_line Going address = codes "going" ++ 10 ∷ []
end_line Halted address = codes "halted" ++ 10 ∷ []
end_line Starved address = codes "starved" ++ 10 ∷ []
end_line (Fault number) address = codes "fault " ++ decimal number ++ codes " at 0x" ++ word_digits address ++ 10 ∷ []
end_line (Undecodable at) address = codes "undecodable at 0x" ++ word_digits at ++ 10 ∷ []

unfoldable pub run_text : Run → List ℕ
run_text r = flat_map event_line r.events ++ end_line r.end r.state.counter
