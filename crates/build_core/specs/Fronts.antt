-- What the front of a build answers: the project's source, read and typed.
use Rattle.std.specs.Prelude.{ℕ, ◌≡◌, List, Result, Ok, Err}
use Rattle.kit_base.specs.Held.{Held}
use Rattle.c_tree.specs.Tree.{ItemT}
use Rattle.c_prep.specs.Files.{Expansion, expansion_of}
use Rattle.c_parse.specs.Tok.{toks}
use Rattle.c_parse.specs.Units.{Derives}
use Rattle.c_front.specs.Over.{over}
use Rattle.c_check.specs.View.{program}
use Rattle.c_check.specs.Whole.{WellTyped}
use Rattle.c_types.specs.Programs.{ProgramT}
use Rattle.project_text.specs.declared.project.Project.{Project}
use Rattle.project_text.specs.ProjectText.{IsProject}
use Rattle.build_core.specs.declared.checked.Checked.{Checked}
use Rattle.build_core.specs.declared.error.BuildErr.{BuildErr}
use Rattle.build_core.specs.declared.error.BuildErr.TheVariants as errors
use Rattle.build_core.specs.Checked.{Checks}
use Rattle.build_core.specs.Gathered.{IsSourceOf}

-- The project's text is of its grammar, and its source was read and typed.
pub record IsFrontOf (m : Held) (project : List ℕ) (c : Checked) : Type 0 where
  pub parts : Project
  pub project_is : IsProject project parts
  pub source_is : IsSourceOf m parts.source c

-- The answer is one that is due, a refusal as by a check.
abbrev pub Fronts : Held → List ℕ → Result Checked BuildErr → Type 0
Fronts m project (Ok c) = IsFrontOf m project c
Fronts m project (Err e) = Checks m project (Err e)

-- this program, unless a call of the files failed or memory ran out
abbrev pub IsCheckedOf : ProgramT → Result Checked BuildErr → Type 0
IsCheckedOf p (Ok c) = program c.program ≡ p
IsCheckedOf p (Err errors.Memory) = Unit {0}
IsCheckedOf p (Err (errors.Failed name)) = Unit {0}
IsCheckedOf p (Err e) = ⊥

-- where the source's tokens are a well typed unit, its program is in the answer
abbrev pub AcceptsSource : Held → List ℕ → Result Checked BuildErr → Type 0
AcceptsSource m source r = (x : Expansion) (ds : List ItemT) (p : ProgramT) → expansion_of (over m) source ≡ Ok x → Derives (toks x.tokens) ds
    → WellTyped ds p → IsCheckedOf p r

abbrev pub AcceptsFront : Held → List ℕ → Result Checked BuildErr → Type 0
AcceptsFront m project r = (parts : Project) (x : Expansion) (ds : List ItemT) (p : ProgramT)
    → IsProject project parts → expansion_of (over m) parts.source ≡ Ok x → Derives (toks x.tokens) ds → WellTyped ds p → IsCheckedOf p r
