-- A project is accepted or rejected, never both, and accepted with one program at most.
use Rattle.std.proofs.Common.{◌≡◌, ℕ, List, ◌∷◌, [], Ok, Err, Result, sym, subst, ◌∙◌, append_assoc}
use Rattle.kit_base.specs.Held.{Held}
use Rattle.c_tree.specs.Tree.{ItemT}
use Rattle.c_tree.specs.View.{unit}
use Rattle.c_prep.specs.Files.{Expansion, Stop, expansion_of}
use Rattle.c_parse.specs.Tok.{Tok, toks}
use Rattle.c_parse.specs.Units.{Derives}
use Rattle.c_parse.specs.Places.{FirstDeep}
use Rattle.c_parse.proofs.UnitReads.{one_unit}
use Rattle.c_front.specs.declared.error.FrontErr.{FrontErr}
use Rattle.c_front.specs.declared.places.Places.{Places}
use Rattle.c_front.specs.declared.unit.Parsed.{Parsed}
use Rattle.c_front.specs.Due.{IsUnit, IsNoUnit, IsRefused, bad, deep, unread, unparsed, places_of}
use Rattle.c_front.specs.Over.{over}
use Rattle.c_check.specs.Whole.{WellTyped}
use Rattle.c_types.specs.Programs.{ProgramT}
use Rattle.c_check.proofs.WholeExact.{one_program, not_both}
use Rattle.project_text.specs.declared.project.Project.{Project}
use Rattle.project_text.specs.declared.error.ProjectErr.{ProjectErr}
use Rattle.project_text.specs.ProjectText.{IsProject}
use Rattle.project_text.specs.Reading.{project_of}
use Rattle.project_text.proofs.Whole.{only}
use Rattle.build_core.specs.declared.error.BuildErr.{BuildErr}
use Rattle.build_core.specs.Due.{project_due}
use Rattle.build_core.specs.Checked.{HasProgram, HasNoProgram, no_unit, breaks, IsAccepted, IsRejected, no_project, no_program}

-- ---- tokens

-- tokens that are a unit go on at each of theirs
not_deep : (ts : List Tok) (t : ℕ) (ds : List ItemT) → Derives ts ds → FirstDeep ts t → ⊥
not_deep ts t ds d f = f.deep (record { more = f.after; items = ds; unit = subst (λ us. Derives us ds) (f.is ∙ sym (append_assoc f.before (f.token ∷ []) f.after)) d })

is_unit : (p : Places) (ds : List ItemT) (why : FrontErr) → Derives (toks p.tokens) ds → IsNoUnit p why → ⊥
is_unit p ds why d (bad t what f e) = f.whole ds d.0
is_unit p ds why d (deep t f e) = not_deep (toks p.tokens) t ds d f

one_expansion : (m : Held) (source : List ℕ) (x y : Expansion) → expansion_of m source ≡ Ok x → expansion_of m source ≡ Ok y → x ≡ y
one_expansion m source x y e f = cc

no_expansion : (m : Held) (source : List ℕ) (x : Expansion) (s : Stop) → expansion_of m source ≡ Ok x → expansion_of m source ≡ Err s → ⊥
no_expansion m source x s e f = cc

-- a source that stands for a unit is not refused
not_refused : (m : Held) (source : List ℕ) (parsed : Parsed) (why : FrontErr) → IsUnit m source parsed → IsRefused m source why → ⊥
not_refused m source parsed why u (unread s e told) = no_expansion m source _ s u.expanded e
not_refused m source parsed why u (unparsed x e n) =
    let same : record { tokens = parsed.places.tokens; names = parsed.places.names } ≡ x = one_expansion m source _ x u.expanded e in
    is_unit (places_of source x) (unit parsed.unit) why (subst (λ (y : Expansion). Derives (toks y.tokens) (unit parsed.unit)) same u.derived) n

-- a source stands for one unit at most
same_unit : (m : Held) (source : List ℕ) (one other : Parsed) → IsUnit m source one → IsUnit m source other → unit one.unit ≡ unit other.unit
same_unit m source one other u v =
    let same : record { tokens = one.places.tokens; names = one.places.names } ≡ record { tokens = other.places.tokens; names = other.places.names } = one_expansion m source _ _ u.expanded v.expanded in
    let moved : Derives (toks other.places.tokens) (unit one.unit) = subst (λ (y : Expansion). Derives (toks y.tokens) (unit one.unit)) same u.derived in
    one_unit (toks other.places.tokens) (unit one.unit) (unit other.unit) moved.0 v.derived.0

-- ---- sources

one_of_source : (m : Held) (source : List ℕ) (p q : ProgramT) → HasProgram m source p → HasProgram m source q → p ≡ q
one_of_source m source p q h k = one_program h.typed (subst (λ us. WellTyped us q) (same_unit (over m) source k.parsed h.parsed k.is_unit h.is_unit) k.typed)

not_both_of_source : (m : Held) (source : List ℕ) (p : ProgramT) (e : BuildErr) → HasProgram m source p → HasNoProgram m source e → ⊥
not_both_of_source m source p e h (no_unit why r told) = not_refused (over m) source h.parsed why h.is_unit r
not_both_of_source m source p e h (breaks parsed fault u b told) = not_both (subst (λ us. WellTyped us p) (same_unit (over m) source h.parsed parsed h.is_unit u) h.typed) b

-- ---- projects

pub one_project : (text : List ℕ) (p q : Project) → IsProject text p → IsProject text q → p ≡ q
one_project text p q h k = same p q (only text p h) (only text q k)
  where
    same : (p q : Project) → project_of text ≡ Ok p → project_of text ≡ Ok q → p ≡ q
    same p q e f = cc

no_project_due : (text : List ℕ) (p : Project) (e : BuildErr) (r : Result Project ProjectErr) → r ≡ Ok p → project_due r ≡ Err e → ⊥
no_project_due text p e (Ok q) h k = cc
no_project_due text p e (Err f) h k = cc

pub one_accepted : (m : Held) (text : List ℕ) (p q : ProgramT) → IsAccepted m text p → IsAccepted m text q → p ≡ q
one_accepted m text p q h k =
    let same : k.parts ≡ h.parts = one_project text k.parts h.parts k.project_is h.project_is in
    one_of_source m h.parts.source p q h.program_is (subst (λ (one : Project). HasProgram m one.source q) same k.program_is)

pub accepted_or_rejected : (m : Held) (text : List ℕ) (p : ProgramT) (e : BuildErr) → IsAccepted m text p → IsRejected m text e → ⊥
accepted_or_rejected m text p e h (no_project due) = no_project_due text h.parts e (project_of text) (only text h.parts h.project_is) due
accepted_or_rejected m text p e h (no_program parts is none) =
    let same : h.parts ≡ parts = one_project text h.parts parts h.project_is is in
    not_both_of_source m parts.source p e (subst (λ (one : Project). HasProgram m one.source p) same h.program_is) none
