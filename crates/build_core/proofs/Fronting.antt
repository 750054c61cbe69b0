-- The front of a build, from its parts, and a check from the front.
use Rattle.std.proofs.Common.{ℕ, ◌≡◌, List, refl, sym, subst}
use Rattle.std.specs.Prelude.{Option, Some, None, Result, Ok, Err, IfErr, IfSome}
use Rattle.kit_base.specs.Held.{Held}
use Rattle.c_front.specs.Over.{over}
use Rattle.c_prep.specs.Files.{expansion_of}
use Rattle.c_types.specs.Programs.{ProgramT}
use Rattle.c_tree.specs.View.{unit}
use Rattle.c_check.specs.Whole.{WellTyped}
use Rattle.c_front.specs.declared.error.FrontErr.{FrontErr}
use Rattle.c_front.specs.declared.unit.Parsed.{Parsed}
use Rattle.c_check.specs.declared.program.Program.{Program}
use Rattle.project_text.specs.declared.project.Project.{Project}
use Rattle.project_text.specs.ProjectText.{IsProject}
use Rattle.project_text.specs.Reading.{project_of}
use Rattle.build_core.specs.declared.checked.Checked.{Checked}
use Rattle.build_core.specs.declared.error.BuildErr.{BuildErr}
use Rattle.build_core.specs.declared.error.BuildErr.TheVariants as errors
use Rattle.build_core.specs.Due.{project_due}
use Rattle.build_core.specs.Checked.{Accepts, CanBeRefused, Checks, IsProgramOf, MissesOnly, unread}
use Rattle.build_core.specs.Fronts.{AcceptsFront, AcceptsSource, Fronts, IsCheckedOf}
use Rattle.build_core.specs.Gathered.{Gives, ReadsSource}
use Rattle.build_core.proofs.Checks.{Derived, source_not_derived, project_checks, project_refused, same_parts, refused_accepts, source_kinds}

as_checked : (e : BuildErr) (p : ProgramT) → IsProgramOf p (Err e) → IsCheckedOf p (Err e)
as_checked (errors.Source c f l) p h = h
as_checked (errors.Missing n) p h = h
as_checked (errors.Failed n) p h = h
as_checked (errors.Bad c n l) p h = h
as_checked (errors.Limit n) p h = h
as_checked errors.Memory p h = h

as_program : (e : BuildErr) (p : ProgramT) → IsCheckedOf p (Err e) → IsProgramOf p (Err e)
as_program (errors.Source c f l) p h = h
as_program (errors.Missing n) p h = h
as_program (errors.Failed n) p h = h
as_program (errors.Bad c n l) p h = h
as_program (errors.Limit n) p h = h
as_program errors.Memory p h = h

-- a source that was read and typed, and one that was not read
pub source_accepted : (held : Option Held) (named source : List ℕ) → named ≡ source → (parsed : Parsed) (r : Result Checked BuildErr)
    → IfSome held (Derived named (Ok parsed)) → ((p : ProgramT) → WellTyped (unit parsed.unit) p → IsCheckedOf p r) → IfSome held (λ m. AcceptsSource m source r)
source_accepted None named source same parsed r d h = tt
source_accepted (Some m) named source same parsed r d h =
    subst (λ (name : List ℕ). AcceptsSource m name r) same (λ x ds p ex de w. h p (subst (λ is. WellTyped is p) (sym (d x ds ex de)) w))

pub source_rejected : (held : Option Held) (named source : List ℕ) → named ≡ source → (e : FrontErr) (f : BuildErr) → f ≡ unread e → IfSome held (Derived named (Err e))
    → IfSome held (λ m. AcceptsSource m source (Err f))
source_rejected None named source same e f is d = tt
source_rejected (Some m) named source same e f is d =
    subst (λ (k : BuildErr). AcceptsSource m source (Err k)) (sym is)
    (subst (λ (name : List ℕ). AcceptsSource m name (Err (unread e))) same (λ x ds p ex de w. as_checked (unread e) p (source_not_derived (Some m) named e d x ds p ex de w)))

module _ (text : List ℕ) where
  pub front_told : (held : Option Held) (parts : Project) (r : Result Checked BuildErr) → IsProject text parts → IfSome held (λ m. ReadsSource m parts.source r) → IfSome held (λ m. Fronts m text r)
  front_told None parts r is h = tt
  front_told (Some m) parts (Ok c) is h = record { parts = parts; project_is = is; source_is = h }
  front_told (Some m) parts (Err e) is h = project_checks text (Some m) parts (Err e) is h

  pub front_refused : (held : Option Held) (e : BuildErr) → Gives {X = Project} (Err e) (project_due (project_of text)) → IfSome held (λ m. Fronts m text (Err e))
  front_refused held e h = project_refused text held e h

  pub front_accepts : (held : Option Held) (parts : Project) (r : Result Checked BuildErr) → IsProject text parts → IfSome held (λ m. AcceptsSource m parts.source r) → IfSome held (λ m. AcceptsFront m text r)
  front_accepts None parts r is h = tt
  front_accepts (Some m) parts r is h = λ other x ds p k ex de w. h x ds p (subst (λ (q : Project). expansion_of (over m) q.source ≡ Ok x) (same_parts text other parts k is) ex) de w

  pub front_rejects : (held : Option Held) (e : BuildErr) → Gives {X = Project} (Err e) (project_due (project_of text)) → IfSome held (λ m. AcceptsFront m text (Err e))
  front_rejects None e h = tt
  front_rejects (Some m) e h = λ other x ds p k ex de w. as_checked e p (refused_accepts text (Some m) e h other x ds p k ex de w)

  pub front_kinds : (parts : Project) (r : Result Checked BuildErr) → IsProject text parts → IfErr r (MissesOnly parts.source) → IfErr r (CanBeRefused text)
  front_kinds parts (Ok c) is h = tt
  front_kinds parts (Err e) is h = source_kinds text parts (Err e) is h

  -- a check is the front
  pub check_told : (held : Option Held) (c : Checked) → IfSome held (λ m. Fronts m text (Ok c)) → IfSome held (λ m. Checks m text (Ok c.program))
  check_told None c h = tt
  check_told (Some m) c h = record {
    parts = h.parts;
    project_is = h.project_is;
    program_is = record { parsed = h.source_is.parsed; is_unit = h.source_is.is_unit; typed = h.source_is.of_unit.typed };
  }

  pub check_refuses : (held : Option Held) (e : BuildErr) → IfSome held (λ m. AcceptsFront m text (Err e)) → IfSome held (λ m. Accepts m text (Err e))
  check_refuses None e h = tt
  check_refuses (Some m) e h = λ parts x ds p is ex de w. as_program e p (h parts x ds p is ex de w)
