-- What the parts of a build answer, each by itself, and a source that is read and checked.
use Rattle.std.specs.Prelude.{ℕ, ◌≡◌, ◌≤◌, List, length, Result, Ok, Err}
use Rattle.std.specs.List.{AllByRecursion, list_all}
use Rattle.std.specs.Str.{is_utf8}
use Rattle.std.specs.Prelude.{true}
use Rattle.kit_base.specs.Held.{Held}
use Rattle.c_tree.specs.View.{unit}
use Rattle.c_parse.specs.Tok.{toks}
use Rattle.c_parse.specs.Units.{Derives}
use Rattle.c_check.specs.View.{program}
use Rattle.c_check.specs.Whole.{WellTyped}
use Rattle.c_front.specs.declared.unit.Parsed.{Parsed}
use Rattle.c_front.specs.Due.{IsUnit}
use Rattle.c_front.specs.Over.{over}
use Rattle.build_core.specs.declared.error.BuildErr.{BuildErr}
use Rattle.build_core.specs.declared.error.BuildErr.TheVariants as errors
use Rattle.build_core.specs.declared.checked.Checked.{Checked}
use Rattle.build_core.specs.Checked.{Breaks, ChecksSource}
use Rattle.build_core.specs.Starts.{starts_of}

-- the answer of a part is the one that is due, unless memory ran out or a call of the files failed
abbrev pub GivesBy : {X Y : Type 0} → (X → Y) → Result X BuildErr → Result Y BuildErr → Type 0
GivesBy view (Ok x) d = d ≡ Ok (view x)
GivesBy view (Err errors.Memory) d = Unit {0}
GivesBy view (Err (errors.Failed name)) d = Unit {0}
GivesBy view (Err e) d = d ≡ Err e

abbrev pub Gives : {X : Type 0} → Result X BuildErr → Result X BuildErr → Type 0
Gives = GivesBy (λ x. x)

-- Tokens that are a unit, each with a line and of a file whose name is a text.
pub record IsRead (parsed : Parsed) : Type 0 where
  pub derived : Derives (toks parsed.places.tokens) (unit parsed.unit)
  pub few : length parsed.places.tokens ≤ 200000
  pub source : is_utf8 parsed.places.source ≡ true
  pub texts : list_all is_utf8 parsed.places.names ≡ true
  pub lines : AllByRecursion (λ t. 1 ≤ t.line) parsed.places.tokens

-- a source with its program, of a unit
pub record IsOfUnit (parsed : Parsed) (s : Checked) : Type 0 where
  pub typed : WellTyped (unit parsed.unit) (program s.program)
  pub places : s.places ≡ parsed.places
  pub starts : s.starts.items ≡ starts_of (unit parsed.unit)

-- the program of a unit, or the rule that it breaks first, unless memory ran out
abbrev pub TypesSource : Parsed → Result Checked BuildErr → Type 0
TypesSource parsed (Ok s) = IsOfUnit parsed s
TypesSource parsed (Err e) = Breaks parsed e

-- a source that was read
pub record IsSourceOf (m : Held) (source : List ℕ) (s : Checked) : Type 0 where
  pub parsed : Parsed
  pub is_unit : IsUnit (over m) source parsed
  pub of_unit : IsOfUnit parsed s

-- the answer for a source, which is refused as by a check
abbrev pub ReadsSource : Held → List ℕ → Result Checked BuildErr → Type 0
ReadsSource m source (Ok s) = IsSourceOf m source s
ReadsSource m source (Err e) = ChecksSource m source (Err e)
