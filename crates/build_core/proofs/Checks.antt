-- From the front and the rules to the answer of a check.
use Rattle.std.proofs.Common.{ℕ, ◌≡◌, inl, List, refl, sym, subst, ◌∙◌}
use Rattle.std.specs.Prelude.{Option, Some, None, Result, Ok, Err, IfErr, IfSome}
use Rattle.kit_base.specs.Held.{Held}
use Rattle.kit_base.specs.Counts.{Counts}
use Rattle.c_tree.specs.Tree.{ItemT}
use Rattle.c_tree.specs.View.{unit}
use Rattle.c_prep.specs.Causes.{Caused}
use Rattle.c_prep.specs.Files.{Expansion, expansion_of}
use Rattle.c_parse.specs.Tok.{toks}
use Rattle.c_parse.specs.Units.{Derives}
use Rattle.c_front.specs.declared.error.FrontErr.{FrontErr}
use Rattle.c_front.specs.declared.error.FrontErr.TheVariants as front
use Rattle.c_front.specs.declared.unit.Parsed.{Parsed}
use Rattle.c_front.specs.Answer.{IsUnitOf}
use Rattle.c_front.specs.Causes.{HasFailed, IsOver, Lacks}
use Rattle.c_front.specs.Causes.{MissesOnly as FrontMisses}
use Rattle.c_front.specs.Codes.{HasFrontCode}
use Rattle.c_front.specs.Due.{Answers, IsUnit}
use Rattle.c_front.specs.Over.{over}
use Rattle.c_exprs.specs.declared.error.Fault.{Fault}
use Rattle.kit_base.specs.Gives.{Gives}
use Rattle.kit_base.specs.declared.failure.Failure.{Failure}
use Rattle.kit_base.specs.declared.failure.Failure.TheVariants as failures
use Rattle.c_check.specs.declared.program.Program.{Program}
use Rattle.c_check.specs.View.{program}
use Rattle.c_check.specs.Whole.{WellTyped, FirstBroken}
use Rattle.c_types.specs.Programs.{ProgramT}
use Rattle.project_text.specs.declared.error.ProjectErr.{ProjectErr}
use Rattle.project_text.specs.declared.error.ProjectErr.TheVariants as project_errors
use Rattle.project_text.specs.declared.project.Project.{Project}
use Rattle.project_text.specs.ProjectText.{IsProject}
use Rattle.project_text.specs.Reading.{project_of}
use Rattle.project_text.proofs.Whole.{only}
use Rattle.build_core.specs.declared.error.BuildErr.{BuildErr}
use Rattle.build_core.specs.declared.error.BuildErr.TheVariants as errors
use Rattle.build_core.specs.Due.{project_due}
use Rattle.build_core.specs.Causes.{CanCome, Cause, HasReadCauses, IsOfContent}
use Rattle.build_core.specs.Gathered as build
use Rattle.build_core.specs.Checked.{unread, broken, no_unit, breaks, no_project, no_program, Checks, IsProgramOf, Accepts, CanBeRefused, ChecksSource, Tells, Breaks, Types, IsOfRules, MissesOnly}
use Rattle.build_core.proofs.Listing.{front_cause, rule_cause}

-- ---- a unit

pub breaks_so : (parsed : Parsed) (fault : Fault) (e : BuildErr) → FirstBroken (unit parsed.unit) fault → Tells e (broken parsed.places fault) → Breaks parsed e
breaks_so parsed fault (errors.Source c f l) h t = (fault, h, t)
breaks_so parsed fault (errors.Missing n) h t = (fault, h, t)
breaks_so parsed fault (errors.Failed n) h t = (fault, h, t)
breaks_so parsed fault (errors.Bad c n l) h t = (fault, h, t)
breaks_so parsed fault (errors.Limit n) h t = (fault, h, t)
breaks_so parsed fault errors.Memory h t = tt

pub gave_program : (p : ProgramT) (q : Program) → Gives {E = Fault} program (Ok q) (Ok p) → IsProgramOf p (Ok q)
gave_program p q h =
    let one : Result ProgramT Fault = Ok p in
    let two : Result ProgramT Fault = Ok (program q) in
    let same : one ≡ two = h in
    cc

-- what is not refused
pub not_broken : (p : ProgramT) (k : Failure Fault) (e : BuildErr) → (k ≡ failures.Memory → e ≡ errors.Memory) → Gives {X = Program} program (Err k) (Ok p) → IsProgramOf p (Err e)
not_broken p failures.Memory e mem h = subst (λ x. IsProgramOf p (Err x)) (sym (mem refl)) tt
not_broken p (failures.Cause fault) e mem h = absurd cc

-- ---- a source

module _ (m : Held) (source : List ℕ) where
  unit_typed : (parsed : Parsed) (r : Result Program BuildErr) → IsUnit (over m) source parsed → Types parsed r → ChecksSource m source r
  unit_typed parsed (Ok p) u h = record { parsed = parsed; is_unit = u; typed = h }
  unit_typed parsed (Err (errors.Source c f l)) u h = breaks parsed h.0 u h.1 h.2
  unit_typed parsed (Err (errors.Missing n)) u h = breaks parsed h.0 u h.1 h.2
  unit_typed parsed (Err (errors.Failed n)) u h = tt
  unit_typed parsed (Err (errors.Bad c n l)) u h = breaks parsed h.0 u h.1 h.2
  unit_typed parsed (Err (errors.Limit n)) u h = breaks parsed h.0 u h.1 h.2
  unit_typed parsed (Err errors.Memory) u h = tt

  no_unit_read : (e : FrontErr) → Answers (over m) source (Err e) → ChecksSource m source (Err (unread e))
  no_unit_read (front.Source c f l) h = no_unit (front.Source c f l) h refl
  no_unit_read (front.Missing n) h = no_unit (front.Missing n) h refl
  no_unit_read (front.Failed n) h = tt
  no_unit_read (front.Limit n) h = no_unit (front.Limit n) h refl
  no_unit_read front.Memory h = tt

pub source_typed : (held : Option Held) (name source : List ℕ) → name ≡ source → (parsed : Parsed) (r : Result Program BuildErr)
    → IfSome held (λ m. Answers (over m) name (Ok parsed)) → Types parsed r → IfSome held (λ m. ChecksSource m source r)
source_typed None name source same parsed r u h = tt
source_typed (Some m) name source same parsed r u h = subst (λ s. ChecksSource m s r) same (unit_typed m name parsed r u h)

pub source_unread : (held : Option Held) (name source : List ℕ) → name ≡ source → (e : FrontErr) (f : BuildErr) → f ≡ unread e
    → IfSome held (λ m. Answers (over m) name (Err e)) → IfSome held (λ m. ChecksSource m source (Err f))
source_unread None name source same e f is h = tt
source_unread (Some m) name source same e f is h =
    subst (λ s. ChecksSource m s (Err f)) same (subst (λ g. ChecksSource m name (Err g)) (sym is) (no_unit_read m name e h))

-- where its tokens are a well typed unit
abbrev pub AcceptsSource : List ℕ → Result Program BuildErr → Held → Type 0
AcceptsSource source r m = (x : Expansion) (ds : List ItemT) (p : ProgramT)
    → expansion_of (over m) source ≡ Ok x → Derives (toks x.tokens) ds → WellTyped ds p → IsProgramOf p r

abbrev pub Derived : List ℕ → Result Parsed FrontErr → Held → Type 0
Derived source r m = (x : Expansion) (ds : List ItemT) → expansion_of (over m) source ≡ Ok x → Derives (toks x.tokens) ds → IsUnitOf ds r

pub source_accepts : (held : Option Held) (source : List ℕ) (parsed : Parsed) (r : Result Program BuildErr)
    → IfSome held (Derived source (Ok parsed)) → ((p : ProgramT) → WellTyped (unit parsed.unit) p → IsProgramOf p r) → IfSome held (AcceptsSource source r)
source_accepts None source parsed r d h = tt
source_accepts (Some m) source parsed r d h = λ x ds p ex de w. h p (subst (λ is. WellTyped is p) (sym (d x ds ex de)) w)

no_other : (ds : List ItemT) (p : ProgramT) (e : FrontErr) → IsUnitOf ds (Err e) → IsProgramOf p (Err (unread e))
no_other ds p (front.Source c f l) h = absurd h
no_other ds p (front.Missing n) h = absurd h
no_other ds p (front.Failed n) h = tt
no_other ds p (front.Limit n) h = absurd h
no_other ds p front.Memory h = tt

pub source_not_derived : (held : Option Held) (source : List ℕ) (e : FrontErr) → IfSome held (Derived source (Err e)) → IfSome held (AcceptsSource source (Err (unread e)))
source_not_derived None source e d = tt
source_not_derived (Some m) source e d = λ x ds p ex de w. no_other ds p e (d x ds ex de)

-- ---- which refusals come, and why

module _ (T : Type 0) where
  rules_cause : (r : Result T BuildErr) (before after : Counts) → IfErr r IsOfRules → Cause (λ n. ⊥) r before after
  rules_cause (Ok x) b a h = tt
  rules_cause (Err (errors.Source c n l)) b a h = rule_cause c b a h
  rules_cause (Err (errors.Missing n)) b a h = absurd h
  rules_cause (Err (errors.Failed n)) b a h = absurd h
  rules_cause (Err (errors.Bad c n l)) b a h = absurd h
  rules_cause (Err (errors.Limit n)) b a h = absurd h
  rules_cause (Err errors.Memory) b a h = tt

  pub rules_miss : (source : List ℕ) (r : Result T BuildErr) → IfErr r IsOfRules → IfErr r (MissesOnly source)
  rules_miss source (Ok x) h = tt
  rules_miss source (Err (errors.Source c f l)) h = tt
  rules_miss source (Err (errors.Missing n)) h = absurd h
  rules_miss source (Err (errors.Failed n)) h = absurd h
  rules_miss source (Err (errors.Bad c n l)) h = absurd h
  rules_miss source (Err (errors.Limit n)) h = absurd h
  rules_miss source (Err errors.Memory) h = tt

  pub unread_misses : (source : List ℕ) (e : FrontErr) → FrontMisses source e → MissesOnly source (unread e)
  unread_misses source (front.Source c f l) h = tt
  unread_misses source (front.Missing n) h = h
  unread_misses source (front.Failed n) h = tt
  unread_misses source (front.Limit n) h = tt
  unread_misses source front.Memory h = tt

  unread_cause : (e : FrontErr) (before after : Counts) → HasFrontCode e → Caused (HasFailed (Err e)) before.faults after.faults → Caused (Lacks (Err e)) before.misses after.misses → Caused (IsOver (Err e)) before.overs after.overs
      → Cause {T = T} (λ n. ⊥) (Err (unread e)) before after
  unread_cause (front.Source c n l) b a k cf cm co = front_cause c b a k cm.rose
  unread_cause (front.Missing n) b a k cf cm co = cm.rose tt
  unread_cause (front.Failed n) b a k cf cm co = cf.rose tt
  unread_cause (front.Limit n) b a k cf cm co = inl (co.rose tt)
  unread_cause front.Memory b a k cf cm co = tt

  pub unread_causes : (e : FrontErr) (before after : Counts) → HasFrontCode e → Caused (HasFailed (Err e)) before.faults after.faults → Caused (Lacks (Err e)) before.misses after.misses → Caused (IsOver (Err e)) before.overs after.overs
      → HasReadCauses {T = T} (Err (unread e)) before after
  unread_causes e b a k cf cm co =
      record { faults_later = cf.later; misses_later = cm.later; overs_later = co.later; cause = unread_cause e b a k cf cm co }

  pub typed_causes : (parsed : Parsed) (r : Result T BuildErr) (before after : Counts) → Caused (HasFailed (Ok parsed)) before.faults after.faults → Caused (Lacks (Ok parsed)) before.misses after.misses → Caused (IsOver (Ok parsed)) before.overs after.overs
      → IfErr r IsOfRules → HasReadCauses r before after
  typed_causes parsed r b a cf cm co h =
      record { faults_later = cf.later; misses_later = cm.later; overs_later = co.later; cause = rules_cause r b a h }

-- ---- a project

module _ (text : List ℕ) where
  checks_so : (m : Held) (parts : Project) (r : Result Program BuildErr) → IsProject text parts → ChecksSource m parts.source r → Checks m text r
  checks_so m parts (Ok p) is h = record { parts = parts; project_is = is; program_is = h }
  checks_so m parts (Err (errors.Source c f l)) is h = no_program parts is h
  checks_so m parts (Err (errors.Missing n)) is h = no_program parts is h
  checks_so m parts (Err (errors.Failed n)) is h = tt
  checks_so m parts (Err (errors.Bad c n l)) is h = no_program parts is h
  checks_so m parts (Err (errors.Limit n)) is h = no_program parts is h
  checks_so m parts (Err errors.Memory) is h = tt

  pub project_checks : (held : Option Held) (parts : Project) (r : Result Program BuildErr) → IsProject text parts → IfSome held (λ m. ChecksSource m parts.source r) → IfSome held (λ m. Checks m text r)
  project_checks None parts r is h = tt
  project_checks (Some m) parts r is h = checks_so m parts r is h

  refused_so : (m : Held) (e : BuildErr) → build.Gives {X = Project} (Err e) (project_due (project_of text)) → Checks m text (Err e)
  refused_so m (errors.Source c f l) h = no_project h
  refused_so m (errors.Missing n) h = no_project h
  refused_so m (errors.Failed n) h = tt
  refused_so m (errors.Bad c n l) h = no_project h
  refused_so m (errors.Limit n) h = no_project h
  refused_so m errors.Memory h = tt

  pub project_refused : (held : Option Held) (e : BuildErr) → build.Gives {X = Project} (Err e) (project_due (project_of text)) → IfSome held (λ m. Checks m text (Err e))
  project_refused None e h = tt
  project_refused (Some m) e h = refused_so m e h

  pub same_parts : (p q : Project) → IsProject text p → IsProject text q → p ≡ q
  same_parts p q h k =
      let one : Result Project ProjectErr = Ok p in
      let two : Result Project ProjectErr = Ok q in
      let same : one ≡ two = sym (only text p h) ∙ only text q k in
      cc

  pub project_accepts : (held : Option Held) (parts : Project) (r : Result Program BuildErr) → IsProject text parts → IfSome held (AcceptsSource parts.source r) → IfSome held (λ m. Accepts m text r)
  project_accepts None parts r is h = tt
  project_accepts (Some m) parts r is h = λ other x ds p k ex de w. h x ds p (subst (λ (q : Project). expansion_of (over m) q.source ≡ Ok x) (same_parts other parts k is) ex) de w

  none_due : (e : BuildErr) (p : ProgramT) (parts : Project) → build.Gives {X = Project} (Err e) (Ok parts) → IsProgramOf p (Err e)
  none_due (errors.Source c f l) p parts h = absurd cc
  none_due (errors.Missing n) p parts h = absurd cc
  none_due (errors.Failed n) p parts h = tt
  none_due (errors.Bad c n l) p parts h = absurd cc
  none_due (errors.Limit n) p parts h = absurd cc
  none_due errors.Memory p parts h = tt

  pub refused_accepts : (held : Option Held) (e : BuildErr) → build.Gives {X = Project} (Err e) (project_due (project_of text)) → IfSome held (λ m. Accepts m text (Err e))
  refused_accepts None e h = tt
  refused_accepts (Some m) e h = λ parts x ds p k ex de w. none_due e p parts (subst (λ r. build.Gives {X = Project} (Err e) (project_due r)) (only text parts k) h)

  bad_so : (code : ℕ) (name : List ℕ) (r : Result Project ProjectErr) → project_due r ≡ Err (errors.Bad code name None) → ⊥
  bad_so code name (Ok p) h = cc
  bad_so code name (Err (project_errors.At c l)) h = cc
  bad_so code name (Err project_errors.Memory) h = cc

  pub refused_kinds : (e : BuildErr) → build.Gives {X = Project} (Err e) (project_due (project_of text)) → CanCome text e → IsOfContent e → CanBeRefused text e
  refused_kinds (errors.Source c f l) h can content = absurd content
  refused_kinds (errors.Missing n) h can content = absurd content
  refused_kinds (errors.Failed n) h can content = tt
  refused_kinds (errors.Bad c n (Some l)) h can content = can
  refused_kinds (errors.Bad c n None) h can content = bad_so c n (project_of text) h
  refused_kinds (errors.Limit n) h can content = tt
  refused_kinds errors.Memory h can content = tt

  pub source_kinds : (parts : Project) (r : Result Program BuildErr) → IsProject text parts → IfErr r (MissesOnly parts.source) → IfErr r (CanBeRefused text)
  source_kinds parts (Ok p) is h = tt
  source_kinds parts (Err (errors.Source c f l)) is h = tt
  source_kinds parts (Err (errors.Missing n)) is h = (parts, only text parts is, h)
  source_kinds parts (Err (errors.Failed n)) is h = tt
  source_kinds parts (Err (errors.Bad c n l)) is h = absurd h
  source_kinds parts (Err (errors.Limit n)) is h = tt
  source_kinds parts (Err errors.Memory) is h = tt
