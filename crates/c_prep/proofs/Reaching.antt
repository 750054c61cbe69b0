-- Names only come behind those that are there.
use Rattle.std.proofs.Common.{◌≡◌, ℕ, zero, suc, Bool, true, false, List, [], ◌∷◌, ◌++◌, length, append_assoc, refl, sym, ap, ◌∙◌, subst}
use Rattle.std.specs.Prelude.{Option, Some, None, Result, Ok, Err, IfErr, nat_lt, if◌then◌else◌}
use Rattle.std.proofs.lemmas.List.{append-nil}
use Rattle.kit_base.specs.Held.{Held}
use Rattle.kit_base.specs.declared.failure.Failure.{Failure}
use Rattle.kit_base.specs.declared.failure.Failure.TheVariants.{Memory, Cause}
use Rattle.c_lex.specs.declared.token.Token.{Token}
use Rattle.c_prep.specs.declared.error.PrepFault.{PrepFault}
use Rattle.c_prep.specs.declared.error.PrepFault.TheVariants as e
use Rattle.c_prep.specs.declared.conditions.Condition.{Condition}
use Rattle.c_prep.specs.declared.work.Work.{Work}
use Rattle.c_prep.specs.Faults.{◌>>=◌}
use Rattle.c_prep.specs.Conditions.{closed}
use Rattle.c_prep.specs.Lines.{lines_of}
use Rattle.c_prep.specs.Steps.{step_at}
use Rattle.c_prep.specs.Files.{Progress, Stop, InFile, Including, Inclusion, stopping, refusing, line_by, include_in, lines_at, tokens_of, ended, with_name, file_at, missing_at, too_deep, include_at, opening, expansion_of}
use Rattle.c_prep.specs.inner.Inner.{IsOfText, IsFailedAt, so_far}
use Rattle.c_prep.specs.Reached.{AreFirst, Reaches, names_of, read_by}
use Rattle.c_prep.proofs.Including.{by_include}

abbrev Names : Type 0
Names = List (List ℕ)

abbrev in_file : InFile → Names
in_file q = q.0.names

-- ---- the first of a list

pub all_first : (ns : Names) → AreFirst ns ns
all_first ns = record { rest = []; is = sym (append-nil ns) }

pub before_one : (ns : Names) (n : List ℕ) → AreFirst ns (ns ++ n ∷ [])
before_one ns n = record { rest = n ∷ []; is = refl }

pub first_of_first : {a b c : Names} → AreFirst a b → AreFirst b c → AreFirst a c
first_of_first {a = a} f g = record { rest = f.rest ++ g.rest; is = g.is ∙ ap (λ (ns : Names). ns ++ g.rest) f.is ∙ append_assoc a f.rest g.rest }

-- ---- parts that go on

stopped_first : {X : Type 0} (names_in : X → Names) (ns : Names) (r : Result X PrepFault) → ((x : X) → AreFirst ns (names_in x)) → AreFirst ns (read_by names_in (stopping ns r))
stopped_first names_in ns (Ok x) h = h x
stopped_first names_in ns (Err x) h = all_first ns

then_first : {X Y : Type 0} (names_in : X → Names) (names_out : Y → Names) (ns : Names) (r : Result X Stop) (go : X → Result Y Stop)
    → AreFirst ns (read_by names_in r) → ((x : X) → AreFirst (names_in x) (read_by names_out (go x))) → AreFirst ns (read_by names_out (r >>= go))
then_first names_in names_out ns (Ok x) go f g = first_of_first f (g x)
then_first names_in names_out ns (Err s) go f g = f

abbrev Grows : Including → Type 0
Grows include = (i : Inclusion) (p : Progress) → AreFirst p.names (read_by so_far (include i p))

module _ (include : Including) (grows : Grows include) where
  abbrev always : {X : Type 0} → Names → X → Names
  always ns x = ns

  line_first : (o : Option Inclusion) (line : List Token) (p : Progress) (cs : List Condition) → AreFirst p.names (read_by in_file (line_by o include line p cs))
  line_first (Some i) line p cs = then_first so_far in_file p.names (include i p) (λ p'. Ok (p', cs)) (grows i p) (λ p'. all_first p'.names)
  line_first None line p cs =
      then_first (always p.names) in_file p.names (stopping p.names (refusing (step_at line p.work cs))) (λ (q : Work × List Condition). Ok (record { work = q.0; names = p.names }, q.1))
      (stopped_first (always p.names) p.names (refusing (step_at line p.work cs)) (λ q. all_first p.names)) (λ q. all_first p.names)

  lines_first : (lines : List (List Token)) (p : Progress) (cs : List Condition) → AreFirst p.names (read_by in_file (lines_at include lines p cs))
  unfolding lines_at
  lines_first [] p cs = all_first p.names
  lines_first (line ∷ lines) p cs =
      then_first in_file in_file p.names (line_by (include_in line cs) include line p cs) (λ q. lines_at include lines q.0 q.1)
      (line_first (include_in line cs) line p cs) (λ q. lines_first lines q.0 q.1)

  end_first : (file : ℕ) (q : InFile) → AreFirst q.0.names (read_by so_far (ended file q))
  end_first file q =
      then_first (always q.0.names) so_far q.0.names (stopping q.0.names (refusing (closed file q.1))) (λ x. Ok q.0)
      (stopped_first (always q.0.names) q.0.names (refusing (closed file q.1)) (λ x. all_first q.0.names)) (λ x. all_first q.0.names)

  rest_first : (file : ℕ) (lines : List (List Token)) (p : Progress) (cs : List Condition) → AreFirst p.names (read_by so_far (lines_at include lines p cs >>= ended file))
  rest_first file lines p cs = then_first in_file so_far p.names (lines_at include lines p cs) (ended file) (lines_first lines p cs) (end_first file)

  file_first : (m : Held) (missing : PrepFault) (name : List ℕ) (p : Progress) → AreFirst (p.names ++ name ∷ []) (read_by so_far (file_at m include missing name p))
  unfolding file_at
  file_first m missing name p =
      let ns = p.names ++ name ∷ [] in
      then_first (always ns) so_far ns (stopping ns (tokens_of m missing name (length p.names))) (λ tokens. lines_at include (lines_of tokens) (with_name name p) [] >>= ended (length p.names))
      (stopped_first (always ns) ns (tokens_of m missing name (length p.names)) (λ tokens. all_first ns)) (λ tokens. rest_first (length p.names) (lines_of tokens) (with_name name p) [])

  -- what a file has read when so much of it is left
  pub now_first : (file : ℕ) (lines : List (List Token)) (p : Progress) (cs : List Condition) (total : Result Progress Stop) → (lines_at include lines p cs >>= ended file) ≡ total → AreFirst p.names (read_by so_far total)
  now_first file lines p cs total is = subst (λ (r : Result Progress Stop). AreFirst p.names (read_by so_far r)) is (rest_first file lines p cs)

  -- what a file inside it has read
  inner_by : (file : ℕ) (after : List (List Token)) (cs : List Condition) (r : Result Progress Stop)
      → AreFirst (read_by so_far r) (read_by so_far (((r >>= λ (p : Progress). Ok (p, cs)) >>= λ (q : InFile). lines_at include after q.0 q.1) >>= ended file))
  inner_by file after cs (Ok p) = rest_first file after p cs
  inner_by file after cs (Err s) = all_first s.names

  pub inner_first : (file : ℕ) (lines : List (List Token)) (line : List Token) (after : List (List Token)) (p : Progress) (cs : List Condition) (total : Result Progress Stop)
      → lines ≡ line ∷ after → (lines_at include lines p cs >>= ended file) ≡ total → (i : Inclusion) → include_in line cs ≡ Some i → AreFirst (read_by so_far (include i p)) (read_by so_far total)
  inner_first file lines line after p cs total whole is i here =
      subst (λ (r : Result Progress Stop). AreFirst (read_by so_far (include i p)) (read_by so_far r)) (by_include include file lines line after p cs total whole is i here) (inner_by file after cs (include i p))

-- ---- files inside files

include_by : (b : Bool) (p : Progress) (r s : Result Progress Stop) → AreFirst p.names (read_by so_far r) → AreFirst p.names (read_by so_far s) → AreFirst p.names (read_by so_far (if b then r else s))
include_by true p r s f g = f
include_by false p r s f g = g

pub includes_grow : (m : Held) (room : ℕ) → Grows (include_at m room)
unfolding include_at
includes_grow m zero i p = all_first p.names
includes_grow m (suc room) i p =
    include_by (nat_lt (length p.names) 10000) p (file_at m (include_at m room) (missing_at i.hash) i.name p) (too_deep i p)
    (first_of_first (before_one p.names i.name) (file_first (include_at m room) (includes_grow m room) m (missing_at i.hash) i.name p)) (all_first p.names)

-- ---- refusals

pub text_failed : (file : ℕ) (x : Failure PrepFault) → IsOfText x → IsFailedAt file x
text_failed file (Cause (e.At code at line)) h = tt
text_failed file (Cause e.NoSource) h = tt
text_failed file (Cause (e.Failed at)) h = absurd h
text_failed file (Cause (e.TooLong at)) h = tt
text_failed file Memory h = tt

-- one of what a file says, or of memory
pub text_reached : (x : Failure PrepFault) (ns : Names) (total : Result Progress Stop) → IsOfText x → AreFirst ns (read_by so_far total) → Reaches {T = Unit {0}} so_far (Err x) ns total
text_reached (Cause (e.At code file line)) ns total h f = tt
text_reached (Cause e.NoSource) ns total h f = tt
text_reached (Cause (e.Failed file)) ns total h f = absurd h
text_reached (Cause (e.TooLong file)) ns total h f = tt
text_reached Memory ns total h f = f

pub close_reached : (r : Result (Unit {0}) (Failure PrepFault)) (ns : Names) (total : Result Progress Stop) → IfErr r IsOfText → AreFirst ns (read_by so_far total) → Reaches so_far r ns total
close_reached (Ok x) ns total h f = tt
close_reached (Err x) ns total h f = text_reached x ns total h f

module _ (m : Held) (room : ℕ) (missing : PrepFault) (name : List ℕ) (p : Progress) where
  abbrev whole : Result Progress Stop
  whole = file_at m (include_at m room) missing name p

  -- before the file has its number
  pub unnumbered : (ns : Names) → ns ≡ p.names → AreFirst ns (read_by so_far whole)
  unnumbered ns is = subst (λ (k : Names). AreFirst k (read_by so_far whole)) (sym is)
      (first_of_first (before_one p.names name) (file_first (include_at m room) (includes_grow m room) m missing name p))

  -- one of reading the file
  module _ (file : ℕ) (ns : Names) (numbered : suc file ≡ length ns) (named : ns ≡ p.names ++ name ∷ []) where
    first : AreFirst ns (read_by so_far whole)
    first = subst (λ (k : Names). AreFirst k (read_by so_far whole)) (sym named) (file_first (include_at m room) (includes_grow m room) m missing name p)

    pub unread : (x : Failure PrepFault) → IsFailedAt file x → Reaches {T = Unit {0}} so_far (Err x) ns whole
    unread (Cause (e.At code at line)) h = tt
    unread (Cause e.NoSource) h = tt
    unread (Cause (e.Failed at)) h = (ap suc h ∙ numbered, first)
    unread (Cause (e.TooLong at)) h = tt
    unread Memory h = first

-- A file inside another: what was reached there was reached in the whole.
module _ (inner total : Result Progress Stop) where
  pub inner_reached : (x : Failure PrepFault) (ns : Names) → AreFirst (read_by so_far inner) (read_by so_far total) → Reaches {T = Unit {0}} so_far (Err x) ns inner → Reaches {T = Unit {0}} so_far (Err x) ns total
  inner_reached (Cause (e.At code file line)) ns f h = tt
  inner_reached (Cause e.NoSource) ns f h = tt
  inner_reached (Cause (e.Failed file)) ns f h = (h.0, first_of_first h.1 f)
  inner_reached (Cause (e.TooLong file)) ns f h = tt
  inner_reached Memory ns f h = first_of_first h f

-- ---- the whole

shown_names : (r : Result Progress Stop) → read_by names_of (r >>= λ p. Ok (record { tokens = p.work.out.tokens; names = p.names })) ≡ read_by so_far r
shown_names (Ok p) = refl
shown_names (Err s) = refl

module _ (m : Held) (name : List ℕ) (p : Progress) (first : p ≡ opening) where
  same_names : read_by names_of (expansion_of m name) ≡ read_by so_far (file_at m (include_at m 16) e.NoSource name p)
  unfolding expansion_of
  same_names = shown_names (file_at m (include_at m 16) e.NoSource name opening) ∙ ap (λ (q : Progress). read_by so_far (file_at m (include_at m 16) e.NoSource name q)) (sym first)

  pub source_reached : (Y : Type 0) (x : Failure PrepFault) (ns : Names) → Reaches {T = Unit {0}} so_far (Err x) ns (file_at m (include_at m 16) e.NoSource name p) → Reaches {T = Y} names_of (Err x) ns (expansion_of m name)
  source_reached Y (Cause (e.At code file line)) ns h = tt
  source_reached Y (Cause e.NoSource) ns h = tt
  source_reached Y (Cause (e.Failed file)) ns h = (h.0, subst (AreFirst ns) (sym same_names) h.1)
  source_reached Y (Cause (e.TooLong file)) ns h = tt
  source_reached Y Memory ns h = subst (AreFirst ns) (sym same_names) h
