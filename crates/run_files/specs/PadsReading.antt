-- A pads file read line by line, up to the first faulty line: 103 where the first line is no header, 102 where only a
-- control's name is wrong, 101 where only a frame is lower than that of the line before, 100 for any other faulty line.
use Rattle.std.specs.Prelude.{ℕ, List, [], ◌∷◌, ◌++◌, Bool, true, false, nat_le, bytes_eq, Option, Some, None, Ok, Err}
use Rattle.std.specs.List.{position_from}
use Rattle.line_text.specs.Reading.{Step, Reading, read_from}
use Rattle.line_text.specs.Lines.{lines_of}
use Rattle.run_files.specs.declared.pads.PadEvent.{PadEvent}
use Rattle.run_files.specs.Script.{Script}
use Rattle.run_files.specs.PadsText.{EventLine, control_names, header_of, event_of}

-- the number of a control
unfoldable pub control_of : List ℕ → Option ℕ
control_of name = position_from (λ n. bytes_eq name n) 0 control_names

-- the frame of the last event
abbrev pub last_frame : ℕ → List PadEvent → ℕ
last_frame frame [] = frame
last_frame frame (e ∷ es) = last_frame e.frame es

abbrev pub with_event : Script → PadEvent → Script
with_event s e = record s { events = s.events ++ e ∷ [] }

-- by the control's number, and by whether the frame does not fall
abbrev pub event_step : Script → EventLine → Option ℕ → Bool → Step Script
event_step s e (Some control) true = Ok (with_event s (record { frame = e.frame; pad = e.pad; control = control; down = e.down }))
event_step s e (Some control) false = Err 101
event_step s e None true = Err 102
event_step s e None false = Err 100

abbrev pub said_step : Script → Option EventLine → Step Script
said_step s None = Err 100
said_step s (Some e) = event_step s e (control_of e.name) (nat_le (last_frame 0 s.events) e.frame)

abbrev pub header_step : Option Script → Step (Option Script)
header_step None = Err 103
header_step (Some s) = Ok (Some s)

abbrev pub read_on : Step Script → Step (Option Script)
read_on (Ok s) = Ok (Some s)
read_on (Err code) = Err code

-- before the first line there is no script yet
abbrev pub pads_step : Option Script → List ℕ → Step (Option Script)
pads_step None line = header_step (header_of line)
pads_step (Some s) line = read_on (said_step s (event_of s.connected line))

abbrev pub with_script : Option Script → Reading Script
with_script None = Err (103, 1)
with_script (Some s) = Ok s

abbrev pub complete : Reading (Option Script) → Reading Script
complete (Ok o) = with_script o
complete (Err e) = Err e

unfoldable pub pads_of : List ℕ → Reading Script
pads_of bytes = complete (read_from pads_step 1 None (lines_of bytes))
