-- The definitions on stores are those of the meaning, with the work that they do.
use Rattle.std.proofs.Common.{◌≡◌, ℕ, zero, suc, ◌+◌, ◌-◌, ◌*◌, ◌≤◌, arith, Bool, true, false, List, [], ◌∷◌, Option, Some, None, option_map, Ok, Err, refl, ap, ◌∙◌}
use Rattle.std.specs.Prelude.{if◌then◌else◌}
use Rattle.c_tree.specs.declared.span.Span.{Span}
use Rattle.c_types.specs.Types.{Ty, VoidY, IntY, BoolY, EnumY, StructY, UnionY, PointerY, ArrayY}
use Rattle.obj_mem.specs.declared.cell.Cell.{Cell}
use Rattle.obj_mem.specs.declared.refusal.Refusal.TheVariants.{Strays, Faults}
use Rattle.obj_mem.specs.Stores.{Store, local_object, with_objects, with_temporary, next_object}
use Rattle.obj_mem.specs.Worlds.{World}
use Rattle.obj_mem.specs.Queries.{Answer, write, further, first_cell}
use Rattle.c_meaning.specs.Outcomes as out
use Rattle.c_meaning.specs.Outcomes.{Val, Stops, Went, Through, CutOff, nowhere, asked, then_went}
use Rattle.c_types.specs.Kinds.{is_structure}
use Rattle.c_meaning.specs.Setting.{Setting, words, literal_at, literal_words}
use Rattle.c_meaning.specs.Operators.{read_as}
use Rattle.c_meaning.specs.Cells.{cell_set, next_turn, cells_set, structure_read, scalar_read, fetched, stored}
use Rattle.c_meaning.specs.Initialisers.{text_filled, rest_filled}
use Rattle.c_meaning.specs.Statements.{params_stored}
use Rattle.c_evaluate.specs.inner.Storing.{Kept, With, at_span, then_ok, next_in, cells_in, structure_in, scalar_in, fetched_in, stored_in, text_in, rest_in, params_in}

-- a store where so much work was done, and nothing else that is seen
abbrev pub spent : ℕ → Store → World
spent d u = record { store = u; events = []; work = d }

-- what comes of stores comes of the part of the meaning, with some work, at least so much
abbrev pub Keeps : ℕ → Went → Kept → Type 0
Keeps low r (Ok u) = (d : ℕ) × (low ≤ d) × (r ≡ Through (spent d u))
Keeps low r (Err end) = (d : ℕ) × (u : Store) × (low ≤ d) × (r ≡ CutOff end (spent d u))

abbrev pub Holds : ℕ → Val → With Cell → Type 0
Holds low r (Ok t) = (d : ℕ) × (low ≤ d) × (r ≡ out.Value t.0 (spent d t.1))
Holds low r (Err end) = (d : ℕ) × (u : Store) × (low ≤ d) × (r ≡ Stops end (spent d u))

-- ---- going on

module _ {A : Type 0} (low : ℕ) (span : Span) (d : ℕ) (le : low ≤ d) (u : Store) where
  pub asked_kept : (x : Answer A) (go : A → Went) (next : A → Kept) → ((a : A) → Keeps low (go a) (next a)) → Keeps low (asked CutOff span (spent d u) x go) (then_ok (at_span span x) next)
  asked_kept (Ok a) go next h = h a
  asked_kept (Err Strays) go next h = (d, u, le, refl)
  asked_kept (Err (Faults k)) go next h = (d, u, le, refl)

  pub asked_held : (x : Answer A) (go : A → Val) (next : A → With Cell) → ((a : A) → Holds low (go a) (next a)) → Holds low (asked Stops span (spent d u) x go) (then_ok (at_span span x) next)
  asked_held (Ok a) go next h = h a
  asked_held (Err Strays) go next h = (d, u, le, refl)
  asked_held (Err (Faults k)) go next h = (d, u, le, refl)

keeps_on : (low : ℕ) (r r' : Went) (k : Kept) → r ≡ r' → Keeps low r' k → Keeps low r k
keeps_on low r r' (Ok u) e x = (x.0, x.1, e ∙ x.2)
keeps_on low r r' (Err end) e x = (x.0, x.1, x.2, e ∙ x.3)

holds_on : (low : ℕ) (r r' : Val) (k : With Cell) → r ≡ r' → Holds low r' k → Holds low r k
holds_on low r r' (Ok t) e x = (x.0, x.1, e ∙ x.2)
holds_on low r r' (Err end) e x = (x.0, x.1, x.2, e ∙ x.3)

module _ (low : ℕ) (go : World → Went) (next : Store → Kept) (h : (d : ℕ) (u : Store) → low ≤ d → Keeps low (go (spent d u)) (next u)) where
  pub then_kept : (r : Went) (k : Kept) → Keeps low r k → Keeps low (then_went CutOff r go) (then_ok k next)
  then_kept r (Ok u) x = keeps_on low _ _ (next u) (ap (λ z. then_went CutOff z go) x.2) (h x.0 u x.1)
  then_kept r (Err end) x = (x.0, x.1, x.2, ap (λ z. then_went CutOff z go) x.3)

module _ (low : ℕ) (go : World → Val) (next : Store → With Cell) (h : (d : ℕ) (u : Store) → low ≤ d → Holds low (go (spent d u)) (next u)) where
  pub then_held : (r : Went) (k : Kept) → Keeps low r k → Holds low (then_went Stops r go) (then_ok k next)
  then_held r (Ok u) x = holds_on low _ _ (next u) (ap (λ z. then_went Stops z go) x.2) (h x.0 u x.1)
  then_held r (Err end) x = (x.0, x.1, x.2, ap (λ z. then_went Stops z go) x.3)

-- ---- loops over cells

next_kept : (low left n d : ℕ) → low ≤ d → (u : Store) (go : ℕ → World → Went) (next : ℕ → Kept) → ((m : ℕ) → Keeps low (go m (spent d u)) (next m)) → Keeps low (next_turn left n (spent d u) go) (next_in left n u next)
next_kept low zero n d le u go next h = (d, le, refl)
next_kept low (suc left) zero d le u go next h = (d, u, le, refl)
next_kept low (suc left) (suc n) d le u go next h = h n

more : (low d cost : ℕ) → low ≤ d → low ≤ d + cost
more low d cost le = omega (arith, le)

pub cells_kept : (low : ℕ) (span : Span) (cost n count : ℕ) (from : Option Cell) (to : Cell) (d : ℕ) (u : Store) → low ≤ d → Keeps low (cells_set span cost n count from to (spent d u)) (cells_in span n count from to u)
cells_kept low span cost n zero from to d u le = (d, le, refl)
cells_kept low span cost n (suc left) from to d u le =
    asked_kept low span (d + cost) (more low d cost le) u (cell_set from to u.objects) _ _ (λ os.
    next_kept low left n (d + cost) (more low d cost le) (with_objects os u) _ _ (λ m.
    cells_kept low span cost m left (option_map (λ p. further p 1) from) (further to 1) (d + cost) (with_objects os u) (more low d cost le)))

-- ---- reading and storing

module _ (s : Setting) (n : ℕ) (low : ℕ) where
  structure_held : (span : Span) (size : ℕ) (p : Cell) (d : ℕ) (u : Store) → low ≤ d → Holds low (structure_read span n size p (spent d u)) (structure_in span n size p u)
  structure_held span size p d u le = then_held low (λ v. out.Value (next_object u) v) (λ v. Ok (next_object u, v)) (λ e v l. (e, l, refl)) _ _ (cells_kept low span 1 n size (Some p) (next_object u) d (with_temporary size u) le)

  scalar_held : (ty : Ty) (span : Span) (p : Cell) (d : ℕ) (u : Store) → low ≤ d → Holds low (scalar_read ty span p (spent d u)) (scalar_in ty span p u)
  scalar_held ty span p d u le = asked_held low span d le u (read_as ty u.objects p) _ _ (λ c. (d, le, refl))

  pub fetched_held : (ty : Ty) (span : Span) (p : Cell) (d : ℕ) (u : Store) → low ≤ d → Holds low (fetched s n ty span p (spent d u)) (fetched_in s n ty span p u)
  fetched_held VoidY span p d u le = (d, u, le, refl)
  fetched_held IntY span p d u le = scalar_held IntY span p d u le
  fetched_held BoolY span p d u le = scalar_held BoolY span p d u le
  fetched_held (EnumY k) span p d u le = scalar_held (EnumY k) span p d u le
  fetched_held (StructY k) span p d u le = structure_held span (words s (StructY k)) p d u le
  fetched_held (UnionY k) span p d u le = structure_held span (words s (UnionY k)) p d u le
  fetched_held (PointerY to) span p d u le = scalar_held (PointerY to) span p d u le
  fetched_held (ArrayY of len) span p d u le = (d, le, refl)

  if_kept : (b : Bool) (x y : Went) (k l : Kept) → Keeps low x k → Keeps low y l → Keeps low (if b then x else y) (if b then k else l)
  if_kept true x y k l f g = f
  if_kept false x y k l f g = g

  pub stored_kept : (extra : ℕ) (ty : Ty) (span : Span) (p c : Cell) (d : ℕ) (u : Store) → low ≤ d → Keeps low (stored s n extra ty span p c (spent d u)) (stored_in s n ty span p c u)
  stored_kept extra ty span p c d u le =
      if_kept (is_structure ty) _ _ _ _ (cells_kept low span (extra + 1) n (words s ty) (Some c) p d u le)
      (asked_kept low span (d + extra) (more low d extra le) u (write u.objects p c) _ _ (λ os. (d + extra, more low d extra le, refl)))

  pub text_kept : (number size : ℕ) (p : Cell) (d : ℕ) (u : Store) → low ≤ d → Keeps low (text_filled s n number size p (spent d u)) (text_in s n number size p u)
  text_kept number size p d u le =
      then_kept low _ _ (λ e v l. cells_kept low nowhere 1 n (size - literal_words s number) None (further p (literal_words s number)) e v l) _ _
      (cells_kept low nowhere 1 n (literal_words s number) (Some (literal_at s number)) p d u le)

  pub rest_kept : (ty : Ty) (k : ℕ) (p : Cell) (d : ℕ) (u : Store) → low ≤ d → Keeps low (rest_filled s n ty k p (spent d u)) (rest_in s n ty k p u)
  rest_kept (ArrayY of len) k p d u le = cells_kept low nowhere 1 n (words s of * (len - k)) None p d u le
  rest_kept VoidY k p d u le = (d, le, refl)
  rest_kept IntY k p d u le = (d, le, refl)
  rest_kept BoolY k p d u le = (d, le, refl)
  rest_kept (EnumY j) k p d u le = (d, le, refl)
  rest_kept (StructY j) k p d u le = (d, le, refl)
  rest_kept (UnionY j) k p d u le = (d, le, refl)
  rest_kept (PointerY to) k p d u le = (d, le, refl)

  pub params_kept : (k : ℕ) (tys : List Ty) (cs : List Cell) (d : ℕ) (u : Store) → low ≤ d → Keeps low (params_stored s n k tys cs (spent d u)) (params_in s n k tys cs u)
  params_kept k [] [] d u le = (d, le, refl)
  params_kept k [] (c ∷ cs) d u le = (d, u, le, refl)
  params_kept k (ty ∷ tys) [] d u le = (d, u, le, refl)
  params_kept k (ty ∷ tys) (c ∷ cs) d u le =
      asked_kept low nowhere d le u (first_cell (local_object u.locals k)) _ _ (λ p.
      then_kept low _ _ (λ e v l. params_kept (k + 1) tys cs e v l) _ _ (stored_kept 0 ty nowhere p c d u le))
