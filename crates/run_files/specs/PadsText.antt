-- The lines of a pads file. The first is `pads DATE TIME MASK`; each other is `FRAME PAD press CONTROL` or
-- `FRAME PAD release CONTROL`: four fields, with one space between. Hold it against the kit's page on files.
use Rattle.std.specs.Prelude.{◌≡◌, ℕ, ◌≤◌, List, [], ◌∷◌, ◌++◌, codes, bytes_eq, Bool, true, false, ◌&&◌, not, nat_le, if◌then◌else◌, Option, Some}
use Rattle.std.specs.Prelude.{None, option_and_then}
use Rattle.std.specs.List.{list_all}
use Rattle.line_text.specs.Fields.{field_at, is_space}
use Rattle.line_text.specs.Numbers.{decimal_word}
use Rattle.run_files.specs.Script.{Script, is_connected}

-- what an event's line says; the name may be of no control
pub record EventLine : Type 0 where
  pub frame : ℕ
  pub pad : ℕ
  pub down : Bool
  pub name : List ℕ

abbrev pub spaced : List ℕ → List ℕ → List ℕ → List ℕ → List ℕ
spaced a b c d = a ++ 32 ∷ (b ++ 32 ∷ (c ++ 32 ∷ d))

abbrev pub action_word : Bool → List ℕ
action_word true = codes "press"
action_word false = codes "release"

-- no space stands in it
abbrev pub is_one_field : List ℕ → Bool
is_one_field text = list_all (λ b. not (is_space b)) text

-- ---- the grammar

pub record IsHeaderLine (line : List ℕ) (s : Script) : Type 0 where
  pub date_text : List ℕ
  pub time_text : List ℕ
  pub mask_text : List ℕ
  pub spelled : line ≡ spaced (codes "pads") date_text time_text mask_text
  pub date : decimal_word date_text ≡ Some s.date
  pub time : decimal_word time_text ≡ Some s.time
  pub connected : decimal_word mask_text ≡ Some s.connected
  pub of_a_day : s.time ≤ 86399
  pub of_four_pads : s.connected ≤ 15
  pub events : s.events ≡ []

pub record IsEventLine (connected : ℕ) (line : List ℕ) (e : EventLine) : Type 0 where
  pub frame_text : List ℕ
  pub pad_text : List ℕ
  pub spelled : line ≡ spaced frame_text pad_text (action_word e.down) e.name
  pub frame : decimal_word frame_text ≡ Some e.frame
  pub pad : decimal_word pad_text ≡ Some e.pad
  pub few : e.frame ≤ 3599
  pub of_a_pad : is_connected connected e.pad ≡ true
  pub four : is_one_field e.name ≡ true

-- the controls, numbered from 0
abbrev pub control_names : List (List ℕ)
control_names =
    codes "left" ∷ codes "right" ∷ codes "up" ∷ codes "down" ∷ codes "start" ∷ codes "a" ∷ codes "b" ∷ codes "x" ∷ codes "y" ∷ codes "l"
    ∷ codes "r" ∷ []

-- ---- the same, as what a line says

infixl 10 ◌>>=◌
abbrev ◌>>=◌ : {A B : Type 0} → Option A → (A → Option B) → Option B
o >>= f = option_and_then f o

abbrev pub checked_header : List ℕ → Script → Option Script
checked_header word s = if bytes_eq word (codes "pads") && (nat_le s.time 86399 && nat_le s.connected 15) then Some s else None

unfoldable pub header_of : List ℕ → Option Script
header_of line = do
  word ← field_at line
  date ← field_at word.1
  time ← field_at date.1
  d ← decimal_word date.0
  t ← decimal_word time.0
  m ← decimal_word time.1
  checked_header word.0 (record { date = d; time = t; connected = m; events = [] })

unfoldable pub action_of : List ℕ → Option Bool
action_of word = if bytes_eq word (codes "press") then Some true else (if bytes_eq word (codes "release") then Some false else None)

abbrev pub checked_event : ℕ → EventLine → Option EventLine
checked_event connected e = if nat_le e.frame 3599 && (is_connected connected e.pad && is_one_field e.name) then Some e else None

unfoldable pub event_of : ℕ → List ℕ → Option EventLine
event_of connected line = do
  frame ← field_at line
  pad ← field_at frame.1
  action ← field_at pad.1
  f ← decimal_word frame.0
  p ← decimal_word pad.0
  d ← action_of action.0
  checked_event connected (record { frame = f; pad = p; down = d; name = action.1 })
