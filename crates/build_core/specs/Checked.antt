-- What the check of a project's source answers.
use Rattle.std.specs.Prelude.{ℕ, ◌≡◌, true, List, Some, None, Result, Ok, Err, codes}
use Rattle.kit_base.specs.Held.{Held}
use Rattle.kit_base.specs.SourceCodes.{between}
use Rattle.c_tree.specs.Tree.{ItemT}
use Rattle.c_tree.specs.View.{unit}
use Rattle.c_prep.specs.Files.{Expansion, expansion_of}
use Rattle.c_parse.specs.Tok.{toks}
use Rattle.c_parse.specs.Units.{Derives}
use Rattle.c_front.specs.declared.error.FrontErr.{FrontErr}
use Rattle.c_front.specs.declared.error.FrontErr.TheVariants as front
use Rattle.c_front.specs.declared.places.Places.{Places}
use Rattle.c_front.specs.declared.unit.Parsed.{Parsed}
use Rattle.c_front.specs.Due.{IsUnit}
use Rattle.c_front.specs.Due as front_due
use Rattle.c_front.specs.Over.{over}
use Rattle.c_front.specs.Places.{place_at}
use Rattle.c_rules.specs.Rules.{number_of}
use Rattle.c_exprs.specs.declared.error.Fault.{Fault}
use Rattle.c_check.specs.declared.program.Program.{Program}
use Rattle.c_check.specs.View.{program}
use Rattle.c_check.specs.Whole.{WellTyped, FirstBroken}
use Rattle.c_types.specs.Programs.{ProgramT}
use Rattle.project_text.specs.declared.error.ProjectErr.TheVariants as project_errors
use Rattle.project_text.specs.declared.project.Project.{Project}
use Rattle.project_text.specs.ProjectText.{IsProject}
use Rattle.project_text.specs.Reading.{project_of}
use Rattle.build_core.specs.declared.error.BuildErr.{BuildErr}
use Rattle.build_core.specs.declared.error.BuildErr.TheVariants as errors
use Rattle.build_core.specs.Due.{project_due}

-- why a source has no syntax tree, as a build tells it
abbrev pub unread : FrontErr → BuildErr
unread (front.Source code file line) = errors.Source code file line
unread (front.Missing name) = errors.Missing name
unread (front.Failed name) = errors.Failed name
unread (front.Limit name) = errors.Limit name
unread front.Memory = errors.Memory

-- the rule that is broken, at the first token of the node that breaks it
abbrev pub broken : Places → Fault → BuildErr
broken places fault = errors.Source (number_of fault.code) (place_at places fault.span.first).0 (place_at places fault.span.first).1

-- The source stands, with the headers laid over the files, for tokens that are a well typed unit, and this is its program.
pub record HasProgram (m : Held) (source : List ℕ) (p : ProgramT) : Type 0 where
  pub parsed : Parsed
  pub is_unit : IsUnit (over m) source parsed
  pub typed : WellTyped (unit parsed.unit) p

-- The source stands for no unit, or for a unit that breaks a rule, the first of which is told.
pub data HasNoProgram (m : Held) (source : List ℕ) (e : BuildErr) : Type 0 where
  no_unit : (why : FrontErr) → front_due.IsRefused (over m) source why → e ≡ unread why → HasNoProgram m source e
  breaks : (parsed : Parsed) (fault : Fault) → IsUnit (over m) source parsed → FirstBroken (unit parsed.unit) fault → e ≡ broken parsed.places fault
      → HasNoProgram m source e

-- The project's text is of its grammar, and its source has this program.
pub record IsAccepted (m : Held) (project : List ℕ) (p : ProgramT) : Type 0 where
  pub parts : Project
  pub project_is : IsProject project parts
  pub program_is : HasProgram m parts.source p

-- The project's text is not of its grammar, or its source has no program.
pub data IsRejected (m : Held) (project : List ℕ) (e : BuildErr) : Type 0 where
  no_project : project_due (project_of project) ≡ Err e → IsRejected m project e
  no_program : (parts : Project) → IsProject project parts → HasNoProgram m parts.source e → IsRejected m project e

-- The answer is one that is due, unless a call of the files failed or memory ran out.
abbrev pub Checks : Held → List ℕ → Result Program BuildErr → Type 0
Checks m project (Ok p) = IsAccepted m project (program p)
Checks m project (Err errors.Memory) = Unit {0}
Checks m project (Err (errors.Failed name)) = Unit {0}
Checks m project (Err e) = IsRejected m project e

-- this program, unless a call of the files failed or memory ran out
abbrev pub IsProgramOf : ProgramT → Result Program BuildErr → Type 0
IsProgramOf p (Ok q) = program q ≡ p
IsProgramOf p (Err errors.Memory) = Unit {0}
IsProgramOf p (Err (errors.Failed name)) = Unit {0}
IsProgramOf p (Err e) = ⊥

-- where the text is a project whose source's tokens are a well typed unit, its program is the answer
abbrev pub Accepts : Held → List ℕ → Result Program BuildErr → Type 0
Accepts m project r = (parts : Project) (x : Expansion) (ds : List ItemT) (p : ProgramT)
    → IsProject project parts → expansion_of (over m) parts.source ≡ Ok x → Derives (toks x.tokens) ds → WellTyped ds p → IsProgramOf p r

-- The refusals that can come: a listed code (`HasSourceCause`) at a place of a source; 90 to 93 at the first faulty line of the project's text; that the
-- source is missing; and those of the files and of memory.
abbrev pub CanBeRefused : List ℕ → BuildErr → Type 0
CanBeRefused project (errors.Bad code name (Some line)) = (name ≡ codes "project") × (project_of project ≡ Err (project_errors.At code line))
CanBeRefused project (errors.Bad code name None) = ⊥
CanBeRefused project (errors.Missing name) = (parts : Project) × (project_of project ≡ Ok parts) × (name ≡ parts.source)
CanBeRefused project e = Unit {0}

-- ---- what private clauses cite

-- the answer for a source, as for a project
abbrev pub ChecksSource : Held → List ℕ → Result Program BuildErr → Type 0
ChecksSource m source (Ok p) = HasProgram m source (program p)
ChecksSource m source (Err errors.Memory) = Unit {0}
ChecksSource m source (Err (errors.Failed name)) = Unit {0}
ChecksSource m source (Err e) = HasNoProgram m source e

-- this refusal, unless memory ran out
abbrev pub Tells : BuildErr → BuildErr → Type 0
Tells errors.Memory e = Unit {0}
Tells f e = f ≡ e

-- a unit breaks a rule, unless memory ran out
abbrev pub Breaks : Parsed → BuildErr → Type 0
Breaks parsed errors.Memory = Unit {0}
Breaks parsed e = (fault : Fault) × FirstBroken (unit parsed.unit) fault × (e ≡ broken parsed.places fault)

-- the program of a unit, or the rule that it breaks first, unless memory ran out
abbrev pub Types : Parsed → Result Program BuildErr → Type 0
Types parsed (Ok p) = WellTyped (unit parsed.unit) (program p)
Types parsed (Err e) = Breaks parsed e

-- only a source is missing
abbrev pub MissesOnly : List ℕ → BuildErr → Type 0
MissesOnly source (errors.Missing name) = name ≡ source
MissesOnly source (errors.Bad code name line) = ⊥
MissesOnly source e = Unit {0}

-- a refusal of the rules, by their codes, or of memory
abbrev pub IsOfRules : BuildErr → Type 0
IsOfRules (errors.Source code file line) = between 40 50 code ≡ true
IsOfRules errors.Memory = Unit {0}
IsOfRules e = ⊥
