-- What the parts of a line in the code say.
use Rattle.std.specs.Prelude.{[]}
use Rattle.run_files.specs.declared.pad_lines.EventLine.{EventLine}
use Rattle.run_files.specs.declared.pad_lines.Header.{Header}
use Rattle.run_files.specs.PadsText as said
use Rattle.run_files.specs.Script.{Script}

abbrev pub event_view : EventLine → said.EventLine
event_view e = record { frame = e.frame; pad = e.pad; down = e.down; name = e.name.now }

abbrev pub header_view : Header → Script
header_view h = record { date = h.date; time = h.time; connected = h.connected; events = [] }
