-- The text of a pads file as a whole: a header, then one line for each event, in the order of their frames.
use Rattle.std.specs.Prelude.{◌≡◌, ℕ, List, [], ◌∷◌, Some}
use Rattle.std.specs.List.{AllZip}
use Rattle.line_text.specs.Lines.{lines_of}
use Rattle.run_files.specs.declared.pads.PadEvent.{PadEvent}
use Rattle.run_files.specs.Script.{Script, NeverFall}
use Rattle.run_files.specs.PadsText.{IsHeaderLine, IsEventLine}
use Rattle.run_files.specs.PadsReading.{control_of}

-- the line tells the event, and names its control
pub record TellsEvent (connected : ℕ) (line : List ℕ) (e : PadEvent) : Type 0 where
  pub name : List ℕ
  pub line_is : IsEventLine connected line (record { frame = e.frame; pad = e.pad; down = e.down; name = name })
  pub control_is : control_of name ≡ Some e.control

pub record IsPadsFile (bytes : List ℕ) (s : Script) : Type 0 where
  pub first : List ℕ
  pub others : List (List ℕ)
  pub lines : lines_of bytes ≡ first ∷ others
  pub header : IsHeaderLine first (record s { events = [] })
  pub events : AllZip (TellsEvent s.connected) others s.events
  pub order : NeverFall 0 s.events
