-- Values and conditions that are used, and choices: mid code follows them.
use Rattle.std.proofs.Common.{◌≡◌, ℕ, zero, suc, ◌+◌, ◌<◌, ◌≤◌, Bool, true, false, not, ◌==◌, ◌||◌, List, [], ◌∷◌, ◌++◌, length, Option, Ok, Err, refl, sym, ap, ◌∙◌, subst, arith, if◌then◌else◌}
use Rattle.std.proofs.lemmas.Bool.{false≢true}
use Rattle.c_tree.specs.declared.span.Span.{Span}
use Rattle.c_types.specs.Types.{Ty, VoidY, IntY, BoolY, EnumY, StructY, UnionY, PointerY, ArrayY}
use Rattle.c_types.specs.Typed.{TExprT}
use Rattle.c_exprs.specs.Nodes.{is_place}
use Rattle.obj_mem.specs.declared.cell.Cell.{Cell}
use Rattle.obj_mem.specs.declared.refusal.Refusal.TheVariants.{Strays, Faults}
use Rattle.obj_mem.specs.Stores.{local_object}
use Rattle.obj_mem.specs.Worlds.{World}
use Rattle.obj_mem.specs.Queries.{Answer, first_cell}
use Rattle.c_meaning.specs.declared.end.End.{End}
use Rattle.c_meaning.specs.declared.end.End.TheVariants.{Stray, Fault}
use Rattle.c_meaning.specs.Kinds.{type_of, span_of}
use Rattle.c_types.specs.Kinds.{is_structure}
use Rattle.c_meaning.specs.Outcomes.{Val, Value, Place, NoValue, Stops, asked, then_value}
use Rattle.c_meaning.specs.Operators.{read_as}
use Rattle.c_meaning.specs.Cells.{fetched, end_temporary}
use Rattle.c_meaning.specs.Expressions.{value_of, with_value, dropped, dropped_value, evaluated}
use Rattle.mid_code.specs.Code.{LoadO, NodesT, Do}
use Rattle.mid_code.specs.Meaning.{Res}
use Rattle.lower_trees.specs.Shape.{Shape, shape_in}
use Rattle.lower_trees.specs.Flags.{is_flag}
use Rattle.lower_trees.specs.Pieces.{coded}
use Rattle.lower_trees.specs.Expressions.{low, value, test}
use Rattle.lower_trees.specs.Expressions as low
use Rattle.lower_trees.specs.Counts.{sizes, read_sizes, value_sizes}
use Rattle.mid_lower.proofs.Grows.{Mid, Grows}
use Rattle.mid_lower.proofs.Under.{Alike, same}
use Rattle.mid_lower.proofs.Flagged.{IsFlag, flag_value, no_flag}
use Rattle.mid_lower.proofs.Fits.{Site}
use Rattle.mid_lower.proofs.Room.{Room, room_at, room_first}
use Rattle.mid_lower.proofs.Following.{base_of, Fit, Side, mk, Goal, goal, Now, SimV, Way, Free, Before, scratch, spare, kept_wider, value_now, above_free, eqb_less, eqb_more, M, M_grows}
use Rattle.mid_lower.proofs.Storing.{loads}

-- the first objects of a list of locals
pub local_front : (l e : List (Option ℕ)) (k : ℕ) → Alike (first_cell (local_object l k)) (first_cell (local_object (l ++ e) k))
local_front [] e zero = tt
local_front [] e (suc k) = tt
local_front (o ∷ l) e zero = same (first_cell o) (first_cell o) refl
local_front (o ∷ l) e (suc k) = local_front l e k

not_zero : (i : ℕ) → not (suc i == 0) ≡ true
not_zero i = ap not (eqb_more (suc i) 0 (omega arith))

or_false : (b : Bool) → b || false ≡ true → b ≡ true
or_false true e = e
or_false false e = e

-- what is made of a value, of no value, and of an end
pub record Makes {A : Type 0} (stop : End → World → A) (make : Val → A) (go : Cell → World → A) : Type 0 where
  pub of_value : (c : Cell) (w : World) → make (Value c w) ≡ go c w
  pub of_stop : (f : End) (w : World) → make (Stops f w) ≡ stop f w

value_asked : {A : Type 0} (stop : End → World → A) (make : Val → A) (go : Cell → World → A) → Makes stop make go → (span : Span) (w : World) (q : Answer Cell) → make (asked Stops span w q (λ c. Value c w)) ≡ asked stop span w q (λ c. go c w)
value_asked stop make go k span w (Ok c) = k.of_value c w
value_asked stop make go k span w (Err Strays) = k.of_stop (Stray span) w
value_asked stop make go k span w (Err (Faults n)) = k.of_stop (Fault n) w

abbrev IsScalar : Ty → Type 0
IsScalar (ArrayY of len) = ⊥
IsScalar _ = Unit {0}

no_array : (ty : Ty) (of : Ty) (len : ℕ) → IsScalar ty → ty ≡ ArrayY of len → ⊥
no_array ty of len s e = subst IsScalar e s

module _ (S : Site) where
  abbrev R : NodesT ℕ → Mid → Res Mid
  R = M S

  abbrev R_grows : (c : NodesT ℕ) (t : Mid) → Grows t (R c t)
  R_grows = M_grows S

  abbrev h : Shape
  h = shape_in S.s

  -- that mid code follows an expression wherever it stands
  abbrev pub Follow : TExprT → Type 0
  Follow e = (t n m : ℕ) (c : NodesT ℕ) (w : World) (x : Side) → scratch ≤ t → t < n → Fit w x → Room S (base_of w x) m (sizes h e) → SimV (goal (is_place e) t n w x) (R c) (is_place e) (evaluated S.s S.bound S.prev e w) (R (coded (low h e t n m) c) (mk w x))

  -- what follows a value in t: where it is told to be a flag it is one
  abbrev pub Uses : (γ : Goal) (σ : Way γ) → (s0 t n : ℕ) → Side → NodesT ℕ → TExprT → (Cell → World → σ.R) → Type 0
  Uses γ σ s0 t n x c e go = (v : Cell) (wa : World) (xa : Side) → (is_flag e ≡ true → IsFlag v) → Now γ s0 wa xa → xa.temps t ≡ v → Before t n x xa → σ.T (go v wa) (R c (mk wa xa))

  module _ (γ : Goal) (σ : Way γ) (s0 t n m : ℕ) (w : World) (x : Side) (c : NodesT ℕ) (h0 : Now γ s0 w x) (free : Free γ t) (le : γ.first ≤ n) (st : scratch ≤ t) (tn : t < n) where
    -- a place that is read
    fetch : (ty : Ty) (span : Span) (p : Cell) (wa : World) (xa : Side) → is_structure ty ≡ false → Now γ (s0 + 52) wa xa → xa.temps n ≡ p → ((j : ℕ) → scratch ≤ j → j < n → xa.temps j ≡ x.temps j) → (go : Cell → World → σ.R) → ((v : Cell) (ya : Side) → Now γ (s0 + 28) wa ya → ya.temps t ≡ v → Before t n x ya → σ.T (go v wa) (R c (mk wa ya)))
        → σ.T (asked σ.stop span wa (read_as ty wa.store.objects p) (λ v. go v wa)) (R (Do (LoadO t n) c) (mk wa xa))
    fetch ty span p wa xa ns ha ep keep go f =
        loads S γ σ span wa (s0 + 44) xa ty t n p c (spare γ (s0 + 52) (s0 + 44 + 8) wa xa (omega arith) ha) free ep (λ v. go v wa)
        (λ v y hy at rest. f v y (spare γ (s0 + 44) (s0 + 28) wa y (omega arith) hy) at (λ j a b ne. rest j ne ∙ keep j a b))

    fetches : (ty : Ty) (span : Span) (p : Cell) (wa : World) (xa : Side) → is_structure ty ≡ false → (array : (of : Ty) (len : ℕ) → ty ≡ ArrayY of len → ⊥) → Now γ (s0 + 52) wa xa → xa.temps n ≡ p → ((j : ℕ) → scratch ≤ j → j < n → xa.temps j ≡ x.temps j) → (make : Val → σ.R) (go : Cell → World → σ.R) → Makes σ.stop make go → ((v : Cell) (ya : Side) → Now γ (s0 + 28) wa ya → ya.temps t ≡ v → Before t n x ya → σ.T (go v wa) (R c (mk wa ya)))
        → σ.T (make (fetched S.s S.bound ty span p wa)) (R (Do (LoadO t n) c) (mk wa xa))
    fetches VoidY span p wa xa ns na ha ep keep make go k f = subst (λ r. σ.T r (R (Do (LoadO t n) c) (mk wa xa))) (sym (k.of_stop (Stray span) wa)) (σ.stops (Stray span) wa (R (Do (LoadO t n) c) (mk wa xa)) (R_grows (Do (LoadO t n) c) (mk wa xa)))
    fetches (StructY k) span p wa xa ns na ha ep keep make go mk_is f = absurd (false≢true (sym ns))
    fetches (UnionY k) span p wa xa ns na ha ep keep make go mk_is f = absurd (false≢true (sym ns))
    fetches (ArrayY of len) span p wa xa ns na ha ep keep make go mk_is f = absurd (na of len refl)
    fetches IntY span p wa xa ns na ha ep keep make go mk_is f = subst (λ r. σ.T r (R (Do (LoadO t n) c) (mk wa xa))) (sym (value_asked σ.stop make go mk_is span wa (read_as IntY wa.store.objects p))) (fetch IntY span p wa xa ns ha ep keep go f)
    fetches BoolY span p wa xa ns na ha ep keep make go mk_is f = subst (λ r. σ.T r (R (Do (LoadO t n) c) (mk wa xa))) (sym (value_asked σ.stop make go mk_is span wa (read_as BoolY wa.store.objects p))) (fetch BoolY span p wa xa ns ha ep keep go f)
    fetches (EnumY k) span p wa xa ns na ha ep keep make go mk_is f = subst (λ r. σ.T r (R (Do (LoadO t n) c) (mk wa xa))) (sym (value_asked σ.stop make go mk_is span wa (read_as (EnumY k) wa.store.objects p))) (fetch (EnumY k) span p wa xa ns ha ep keep go f)
    fetches (PointerY of) span p wa xa ns na ha ep keep make go mk_is f = subst (λ r. σ.T r (R (Do (LoadO t n) c) (mk wa xa))) (sym (value_asked σ.stop make go mk_is span wa (read_as (PointerY of) wa.store.objects p))) (fetch (PointerY of) span p wa xa ns ha ep keep go f)

    module _ (e : TExprT) (ns : is_structure (type_of e) ≡ false) (make : Val → σ.R) (go : Cell → World → σ.R) (mk_is : Makes σ.stop make go) (none : (wa : World) (xa : Side) → Now γ (s0 + 28) wa xa → σ.T (make (NoValue wa)) (R c (mk wa xa))) where
      -- what came to no place is a value
      plain_value : (r : Val) (q : Res Mid) → SimV (goal false t n w x) (R c) false r q → ((v : Cell) (wa : World) → r ≡ Value v wa → is_flag e ≡ true → IsFlag v) → Uses γ σ (s0 + 28) t n x c e go → σ.T (make (value_of S.s S.bound e r)) q
      plain_value (Value v wa) q a flag f = subst (λ r. σ.T r q) (sym (mk_is.of_value v wa)) (subst (σ.T (go v wa)) (sym a.2) (f v wa a.1 (flag v wa refl) (value_now γ s0 t n false w wa x a.1 h0 free le a.3) a.4 (λ j d b ne. a.3.below j (omega (arith, d)) b ne)))
      plain_value (Place p wa) q a flag f = absurd (false≢true a.0)
      plain_value (NoValue wa) q a flag f = subst (σ.T (make (NoValue wa))) (sym a.2) (none wa a.1 (value_now γ s0 t n false w wa x a.1 h0 free le a.3))
      plain_value (Stops g wa) q a flag f = subst (λ r. σ.T r q) (sym (mk_is.of_stop g wa)) (σ.stops g wa q (kept_wider γ (goal false t n w x) (omega (arith, h0.cost)) g wa q a))

      -- a scalar's place stands in n
      placed_value : (array : (of : Ty) (len : ℕ) → type_of e ≡ ArrayY of len → ⊥) → (is_flag e ≡ false) → (r : Val) (q : Res Mid) → SimV (goal true n (n + 1) w x) (R (Do (LoadO t n) c)) true r q → Uses γ σ (s0 + 28) t n x c e go → σ.T (make (value_of S.s S.bound e r)) q
      placed_value na nf (Place p wa) q a f =
          subst (σ.T (make (fetched S.s S.bound (type_of e) (span_of e) p wa))) (sym a.2)
          (fetches (type_of e) (span_of e) p wa a.1 ns na (value_now γ s0 n (n + 1) true w wa x a.1 h0 (above_free γ n le) (omega (arith, le)) a.3) a.4 (λ j d b. a.3.below j (omega (arith, d)) (omega (arith, b)) (eqb_less j n b)) make go mk_is
          (λ v ya hy at keep. f v wa ya (λ fl. absurd (false≢true (sym nf ∙ fl))) hy at keep))
      placed_value na nf (Value p wa) q a f = absurd (false≢true (sym a.0))
      placed_value na nf (NoValue wa) q a f = absurd (false≢true (sym a.0))
      placed_value na nf (Stops g wa) q a f = subst (λ r. σ.T r q) (sym (mk_is.of_stop g wa)) (σ.stops g wa q (kept_wider γ (goal true n (n + 1) w x) (omega (arith, h0.cost)) g wa q a))

      -- an array is its place
      array_value : (of : Ty) (len : ℕ) → type_of e ≡ ArrayY of len → (is_flag e ≡ false) → (r : Val) (q : Res Mid) → SimV (goal true t n w x) (R c) true r q → Uses γ σ (s0 + 28) t n x c e go → σ.T (make (value_of S.s S.bound e r)) q
      array_value of len et nf (Place p wa) q a f =
          subst (σ.T (make (fetched S.s S.bound (type_of e) (span_of e) p wa))) (sym a.2)
          (subst (λ ty. σ.T (make (fetched S.s S.bound ty (span_of e) p wa)) (R c (mk wa a.1))) (sym et)
          (subst (λ r. σ.T r (R c (mk wa a.1))) (sym (mk_is.of_value p wa)) (f p wa a.1 (λ fl. absurd (false≢true (sym nf ∙ fl))) (spare γ (s0 + 52) (s0 + 28) wa a.1 (omega arith) (value_now γ s0 t n true w wa x a.1 h0 free (omega (arith, le)) a.3)) a.4 (λ j d b ne. a.3.below j (omega (arith, d)) (omega (arith, b)) ne))))
      array_value of len et nf (Value p wa) q a f = absurd (false≢true (sym a.0))
      array_value of len et nf (NoValue wa) q a f = absurd (false≢true (sym a.0))
      array_value of len et nf (Stops g wa) q a f = subst (λ r. σ.T r q) (sym (mk_is.of_stop g wa)) (σ.stops g wa q (kept_wider γ (goal true t n w x) (omega (arith, h0.cost)) g wa q a))

      -- of void nothing is read
      void_value : type_of e ≡ VoidY → (r : Val) (q : Res Mid) → SimV (goal true t n w x) (R c) true r q → σ.T (make (value_of S.s S.bound e r)) q
      void_value et (Place p wa) q a =
          subst (σ.T (make (fetched S.s S.bound (type_of e) (span_of e) p wa))) (sym a.2)
          (subst (λ ty. σ.T (make (fetched S.s S.bound ty (span_of e) p wa)) (R c (mk wa a.1))) (sym et)
          (subst (λ r. σ.T r (R c (mk wa a.1))) (sym (mk_is.of_stop (Stray (span_of e)) wa)) (σ.stops (Stray (span_of e)) wa (R c (mk wa a.1)) (R_grows c (mk wa a.1)))))
      void_value et (Value p wa) q a = absurd (false≢true (sym a.0))
      void_value et (NoValue wa) q a = absurd (false≢true (sym a.0))
      void_value et (Stops g wa) q a = subst (λ r. σ.T r q) (sym (mk_is.of_stop g wa)) (σ.stops g wa q (kept_wider γ (goal true t n w x) (omega (arith, h0.cost)) g wa q a))

      -- the value of what came to a place or not
      by_type : (ty : Ty) → type_of e ≡ ty → (k : ℕ) (place : low.Low) (r : Val) → is_flag e ≡ false → ((u v : ℕ) (d : NodesT ℕ) → scratch ≤ u → u < v → SimV (goal true u v w x) (R d) true r (R (coded (place u v m) d) (mk w x))) → Uses γ σ (s0 + 28) t n x c e go → σ.T (make (value_of S.s S.bound e r)) (R (coded (low.read h ty k place t n m) c) (mk w x))
      by_type (ArrayY of len) et k place r nf sim f = array_value of len et nf r (R (coded (place t n m) c) (mk w x)) (sim t n c st tn) f
      by_type VoidY et k place r nf sim f = void_value et r (R (coded (place t n m) c) (mk w x)) (sim t n c st tn)
      by_type IntY et k place r nf sim f = placed_value (λ of len q. (no_array IntY of len tt (sym et ∙ q))) nf r (R (coded (place n (n + 1) m) (Do (LoadO t n) c)) (mk w x)) (sim n (n + 1) (Do (LoadO t n) c) (omega (arith, st, tn)) (omega arith)) f
      by_type BoolY et k place r nf sim f = placed_value (λ of len q. (no_array BoolY of len tt (sym et ∙ q))) nf r (R (coded (place n (n + 1) m) (Do (LoadO t n) c)) (mk w x)) (sim n (n + 1) (Do (LoadO t n) c) (omega (arith, st, tn)) (omega arith)) f
      by_type (EnumY i) et k place r nf sim f = placed_value (λ of len q. (no_array (EnumY i) of len tt (sym et ∙ q))) nf r (R (coded (place n (n + 1) m) (Do (LoadO t n) c)) (mk w x)) (sim n (n + 1) (Do (LoadO t n) c) (omega (arith, st, tn)) (omega arith)) f
      by_type (PointerY i) et k place r nf sim f = placed_value (λ of len q. (no_array (PointerY i) of len tt (sym et ∙ q))) nf r (R (coded (place n (n + 1) m) (Do (LoadO t n) c)) (mk w x)) (sim n (n + 1) (Do (LoadO t n) c) (omega (arith, st, tn)) (omega arith)) f
      by_type (StructY i) et k place r nf sim f = absurd (false≢true (sym (sym (ap is_structure et) ∙ ns)))
      by_type (UnionY i) et k place r nf sim f = absurd (false≢true (sym (sym (ap is_structure et) ∙ ns)))

      by_place : (b : Bool) (k : ℕ) (part : low.Low) (r : Val) → (b ≡ true → is_flag e ≡ false) → ((v : Cell) (wa : World) → r ≡ Value v wa → is_flag e ≡ true → IsFlag v) → ((u v : ℕ) (d : NodesT ℕ) → scratch ≤ u → u < v → SimV (goal b u v w x) (R d) b r (R (coded (part u v m) d) (mk w x))) → Uses γ σ (s0 + 28) t n x c e go → σ.T (make (value_of S.s S.bound e r)) (R (coded (low.value_of h b (type_of e) k part t n m) c) (mk w x))
      by_place true k part r nf flag sim f = by_type (type_of e) refl k part r (nf refl) sim f
      by_place false k part r nf flag sim f = plain_value r (R (coded (part t n m) c) (mk w x)) (sim t n c st tn) flag f

      made_sim : Follow e → Room S γ.base m (value_sizes h e) → Uses γ σ (s0 + 28) t n x c e go → σ.T (make (value_of S.s S.bound e (evaluated S.s S.bound S.prev e w))) (R (coded (value h e (low h e) t n m) c) (mk w x))
      made_sim sim room f = by_place (is_place e) (m + length (sizes h e)) (low h e) (evaluated S.s S.bound S.prev e w) (no_flag e) (λ v wa q fl. flag_value S.s S.bound S.prev e w v wa q fl) (λ u v d su uv. sim u v m d w x su uv h0.stays.fit (room_at S γ.base m (sizes h e) w x (room_first S γ.base m (sizes h e) (read_sizes h (is_place e) (type_of e)) room) h0.stays)) f

    -- a value that is used
    pub uses : (e : TExprT) → is_structure (type_of e) ≡ false → Room S γ.base m (value_sizes h e) → (go : Cell → World → σ.R) → Follow e → Uses γ σ (s0 + 28) t n x c e go → σ.T (with_value σ.stop S.s S.bound e (evaluated S.s S.bound S.prev e w) go) (R (coded (value h e (low h e) t n m) c) (mk w x))
    uses e ns room go sim f = made_sim e ns (λ v. then_value σ.stop (span_of e) v go) go (record { of_value = λ d u. refl; of_stop = λ g u. refl }) (λ wa xa ha. σ.stops (Stray (span_of e)) wa (R c (mk wa xa)) (R_grows c (mk wa xa))) sim room f

    -- a value that is dropped; there may be none
    pub drops : (e : TExprT) → is_structure (type_of e) ≡ false → Room S γ.base m (value_sizes h e) → (go : World → σ.R) → Follow e → ((wa : World) (xa : Side) → Now γ (s0 + 28) wa xa → σ.T (go wa) (R c (mk wa xa))) → σ.T (dropped σ.stop S.s S.bound e (evaluated S.s S.bound S.prev e w) go) (R (coded (value h e (low h e) t n m) c) (mk w x))
    drops e ns room go sim f =
        made_sim e ns (λ v. dropped_value σ.stop e v go) (λ d u. go u) (record { of_value = λ d u. ap (λ b. go (record u { store = if b then end_temporary d u.store else u.store })) ns; of_stop = λ g u. refl }) f sim room (λ v wa xa flag ha at keep. f wa xa ha)
