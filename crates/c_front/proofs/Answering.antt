-- The answer for a source is one that is due, and the only one where its tokens are a unit.
use Rattle.std.proofs.Common.{ℕ, ◌≡◌, ◌≤◌, ◌<◌, List, [], ◌∷◌, refl, sym, ap, subst, ◌∙◌, append_assoc, arith}
use Rattle.std.specs.Prelude.{Option, Some, None, Result, Ok, Err, Vec, IfSome}
use Rattle.std.specs.declared.alloc.Global.{Global}
use Rattle.kit_base.specs.Held.{Held}
use Rattle.kit_base.specs.declared.failure.Failure.TheVariants.{Cause}
use Rattle.c_lex.specs.declared.token.Token.{Token}
use Rattle.c_tree.specs.Depth.{unit_depth}
use Rattle.c_tree.specs.Tree.{ItemT}
use Rattle.c_tree.specs.View.{unit}
use Rattle.c_prep.specs.declared.error.PrepFault.{PrepFault}
use Rattle.c_prep.specs.declared.error.PrepFault.TheVariants as prep
use Rattle.c_prep.specs.Files as expanding
use Rattle.c_prep.specs.Files.{Expansion, Stop, expansion_of}
use Rattle.c_parse.specs.Tok.{Tok, toks}
use Rattle.c_parse.specs.Places.{FirstDeep}
use Rattle.c_parse.specs.Units.{Derives, Unit_}
use Rattle.c_front.specs.declared.error.FrontErr.{FrontErr}
use Rattle.c_front.specs.declared.error.FrontErr.TheVariants as errors
use Rattle.c_front.specs.declared.places.Places.{Places}
use Rattle.c_front.specs.declared.unit.Parsed.{Parsed}
use Rattle.c_front.specs.Over.{over}
use Rattle.c_front.specs.Due.{Answers, IsNoUnit, bad, deep, IsRefused, unread, unparsed, IsUnit, told_as}
use Rattle.c_front.specs.Answer.{IsTooDeep, IsUnitOf}
use Rattle.c_front.specs.inner.Inner.{Parses, Tells}

abbrev Answer : Type 0
Answer = Result Parsed FrontErr

-- what an expansion to these tokens is
abbrev tokens_of : Places → Expansion
tokens_of p = record { tokens = p.tokens; names = p.names }

module _ (m : Held) (source : List ℕ) where
  no_unit : (p : Places) (e : FrontErr) → p.source ≡ source → expansion_of m source ≡ Ok (tokens_of p) → IsNoUnit p e → IsRefused m source e
  no_unit p e named x none = unparsed (tokens_of p) x (subst (λ (s : List ℕ). IsNoUnit (record { source = s; names = p.names; tokens = p.tokens }) e) named none)

  unit_due : (p : Places) (r : Answer) → p.source ≡ source → expansion_of m source ≡ Ok (tokens_of p) → Parses p r → Answers m source r
  unit_due p (Ok q) named x parsed = record {
    named = ap (λ (k : Places). k.source) parsed.0 ∙ named;
    expanded = x ∙ ap (λ (k : Places). Ok (tokens_of k)) (sym parsed.0);
    derived = subst (λ (k : Places). Derives (toks k.tokens) (unit q.unit)) (sym parsed.0) parsed.1;
  }
  unit_due p (Err (errors.Source code file line)) named x faults = no_unit p _ named x faults
  unit_due p (Err (errors.Missing name)) named x faults = no_unit p _ named x faults
  unit_due p (Err (errors.Failed name)) named x faults = tt
  unit_due p (Err (errors.Limit name)) named x faults = no_unit p _ named x faults
  unit_due p (Err errors.Memory) named x faults = tt

  stopped : (s : Stop) → expansion_of m source ≡ Err s → (e : FrontErr) → Tells e (told_as source s.names s.fault) → Answers m source (Err e)
  stopped s x (errors.Source code file line) tells = unread s x tells
  stopped s x (errors.Missing name) tells = unread s x tells
  stopped s x (errors.Failed name) tells = tt
  stopped s x (errors.Limit name) tells = unread s x tells
  stopped s x errors.Memory tells = tt

  failed : (name : List ℕ) (e : FrontErr) → Tells e (errors.Failed name) → Answers m source (Err e)
  failed name (errors.Source code file line) tells = cc
  failed name (errors.Missing other) tells = cc
  failed name (errors.Failed other) tells = tt
  failed name (errors.Limit other) tells = cc
  failed name errors.Memory tells = tt

  refusal_due : (names : List (List ℕ)) (x : PrepFault) (e : FrontErr) → expanding.Answers (Err (Cause x)) names (expansion_of m source) → Tells e (told_as source names x) → Answers m source (Err e)
  refusal_due names (prep.At code file line) e due_one tells = stopped _ due_one e tells
  refusal_due names prep.NoSource e due_one tells = stopped _ due_one e tells
  refusal_due names (prep.Failed file) e due_one tells = failed _ e tells
  refusal_due names (prep.TooLong file) e due_one tells = stopped _ due_one e tells

  module _ (x : Expansion) (is : expansion_of m source ≡ Ok x) (ds : List ItemT) (reads : Unit_ (toks x.tokens) ds) where
    same : (y : Expansion) → expansion_of m source ≡ Ok y → y ≡ x
    same y other = cc

    again : (y : Expansion) → expansion_of m source ≡ Ok y → Unit_ (toks y.tokens) ds
    again y other = subst (λ (z : Expansion). Unit_ (toks z.tokens) ds) (sym (same y other)) reads

    module _ (one : (ts : List Tok) (a b : List ItemT) → Unit_ ts a → Unit_ ts b → a ≡ b) where
      is_it : (p : Parsed) → IsUnit m source p → unit p.unit ≡ ds
      is_it p found = one _ _ _ found.derived.0 (again _ found.expanded)

      not_shallow : (t : ℕ) (y : Expansion) → expansion_of m source ≡ Ok y → FirstDeep (toks y.tokens) t → unit_depth ds ≤ 200 → ⊥
      not_shallow t y other first few = first.deep (record {
        more = first.after;
        items = ds;
        unit = (subst (λ ts. Unit_ ts ds) (first.is ∙ sym (append_assoc first.before (first.token ∷ []) first.after)) (again y other), few);
      })

      refused_never : (e : FrontErr) → unit_depth ds ≤ 200 → IsRefused m source e → ⊥
      refused_never e few (unread s other told) = cc
      refused_never e few (unparsed y other (bad t what first told)) = first.whole ds (again y other)
      refused_never e few (unparsed y other (deep t first told)) = not_shallow t y other first few

      unit_only : (r : Answer) → unit_depth ds ≤ 200 → Answers m source r → IsUnitOf ds r
      unit_only (Ok p) few found = is_it p found
      unit_only (Err (errors.Source code file line)) few found = refused_never _ few found
      unit_only (Err (errors.Missing name)) few found = refused_never _ few found
      unit_only (Err (errors.Failed name)) few found = tt
      unit_only (Err (errors.Limit name)) few found = refused_never _ few found
      unit_only (Err errors.Memory) few found = tt

      says_deep : (e : FrontErr) → IsRefused m source e → IsTooDeep (Err e)
      says_deep e (unread s other told) = cc
      says_deep e (unparsed y other (bad t what first told)) = absurd (first.whole ds (again y other))
      says_deep e (unparsed y other (deep t first told)) = subst (λ (k : FrontErr). IsTooDeep (Err k)) (sym told) refl

      deep_only : (r : Answer) → 200 < unit_depth ds → Answers m source r → IsTooDeep r
      deep_only (Ok p) many found =
          let few : unit_depth ds ≤ 200 = subst (λ us. unit_depth us ≤ 200) (is_it p found) found.derived.1 in
          absurd (omega arith)
      deep_only (Err (errors.Source code file line)) many found = says_deep _ found
      deep_only (Err (errors.Missing name)) many found = says_deep _ found
      deep_only (Err (errors.Failed name)) many found = tt
      deep_only (Err (errors.Limit name)) many found = says_deep _ found
      deep_only (Err errors.Memory) many found = tt

abbrev pub One : Type 0
One = (ts : List Tok) (a b : List ItemT) → Unit_ ts a → Unit_ ts b → a ≡ b

-- what is said of a source where it is told what is held

pub derived_told : (o : Option Held) (source : List ℕ) (r : Answer) → One → IfSome o (λ m. Answers (over m) source r)
    → IfSome o (λ m. (x : Expansion) (ds : List ItemT) → expansion_of (over m) source ≡ Ok x → Derives (toks x.tokens) ds → IsUnitOf ds r)
derived_told None source r one told = tt
derived_told (Some m) source r one told = λ x ds is reads. unit_only (over m) source x is ds reads.0 one r reads.1 told

pub deeper_told : (o : Option Held) (source : List ℕ) (r : Answer) → One → IfSome o (λ m. Answers (over m) source r)
    → IfSome o (λ m. (x : Expansion) (ds : List ItemT) → expansion_of (over m) source ≡ Ok x → Unit_ (toks x.tokens) ds → 200 < unit_depth ds → IsTooDeep r)
deeper_told None source r one told = tt
deeper_told (Some m) source r one told = λ x ds is reads many. deep_only (over m) source x is ds reads one r many told

pub unit_told : (o : Option Held) (source named : List ℕ) (names : List (List ℕ)) (v : Vec Token Global) (p : Places) (r : Answer)
    → named ≡ source → p ≡ record { source = named; names = names; tokens = v.items } → Parses p r
    → IfSome o (λ m. expanding.Answers (Ok v) names (expansion_of (over m) named)) → IfSome o (λ m. Answers (over m) source r)
unit_told None source named names v p r is placed parsed told = tt
unit_told (Some m) source named names v p r is placed parsed told =
    unit_due (over m) source p r (ap (λ (k : Places). k.source) placed ∙ is)
    (ap (expansion_of (over m)) (sym is) ∙ told ∙ ap (λ (k : Places). Ok (tokens_of k)) (sym placed)) parsed

pub refusal_told : (o : Option Held) (source named : List ℕ) (names : List (List ℕ)) (x : PrepFault) (e : FrontErr)
    → named ≡ source → Tells e (told_as named names x)
    → IfSome o (λ m. expanding.Answers (Err (Cause x)) names (expansion_of (over m) named)) → IfSome o (λ m. Answers (over m) source (Err e))
refusal_told None source named names x e is tells told = tt
refusal_told (Some m) source named names x e is tells told = subst (λ (s : List ℕ). Answers (over m) s (Err e)) is (refusal_due (over m) named names x e told tells)
