-- Functions, and every bound: mid code follows the trees.
use Rattle.std.proofs.Common.{◌≡◌, ℕ, zero, suc, ◌+◌, ◌*◌, ◌^◌, ◌<◌, ◌≤◌, Bool, true, false, cond, eqb, List, [], ◌∷◌, ◌++◌, length, get_or, slice_get, nat_lt, Some, None, refl, sym, ap, ◌∙◌, subst, arith, if◌then◌else◌}
use Rattle.std.proofs.lemmas.Bool.{eq-eqb, ltb-true, false≢true}
use Rattle.std.specs.Option.{option_map_or}
use Rattle.c_types.specs.Types.{Ty, VoidY}
use Rattle.c_types.specs.Sizes.{words_of}
use Rattle.c_types.specs.Typed.{WhileZ, DoWhileZ}
use Rattle.c_types.specs.Programs.{TFunctionT}
use Rattle.obj_mem.specs.declared.cell.Cell.{Cell}
use Rattle.obj_mem.specs.Stores.{with_objects, local_object, entered}
use Rattle.obj_mem.specs.Worlds.{World, on_store, spend}
use Rattle.obj_mem.specs.Queries.{Answer, write, first_cell}
use Rattle.c_types.specs.Kinds.{is_structure}
use Rattle.c_meaning.specs.Outcomes.{Went, Through, CutOff, Done, Goes, Breaks, Continues, Returns, Ended, Turn, DoTurn, nowhere, asked, then_went}
use Rattle.c_meaning.specs.Setting.{Setting}
use Rattle.c_meaning.specs.Cells.{cells_set, stored}
use Rattle.c_meaning.specs.Statements.{does_all, params_stored, body_of, below}
use Rattle.mid_code.specs.Code.{LocalO, StoreO, NodesT, Stop, Do, Block, CodeT}
use Rattle.mid_code.specs.Meaning.{Res, Next, then_next, block_done}
use Rattle.mid_code.specs.Meaning.{below as mid_below}
use Rattle.mid_code.specs.States.{temporaries, received, function_at, over_worlds}
use Rattle.mid_code.specs.inner.Passing.{Prefix}
use Rattle.lower_trees.specs.Shape.{Shape, shape_in, words}
use Rattle.lower_trees.specs.Parts as part
use Rattle.lower_trees.specs.Pieces.{coded}
use Rattle.lower_trees.specs.Statements.{ToEnd, low_stmt, low_stmts}
use Rattle.lower_trees.specs.Lowered.{args_from, with_result, all_received, first_of, low_body}
use Rattle.lower_trees.specs.Statements as low
use Rattle.lower_trees.specs.Lowered as lowered
use Rattle.mid_lower.proofs.Grows.{Mid, Grows, all_of, more, then_grows, block_grows}
use Rattle.mid_lower.proofs.Lives.{later_then}
use Rattle.mid_lower.proofs.Trees.{PlainStmts, Below}
use Rattle.mid_lower.proofs.Fits.{Site, Fits}
use Rattle.mid_lower.proofs.Giving.{Giving, giving, handed}
use Rattle.mid_lower.proofs.Lives.{Gone}
use Rattle.lower_trees.specs.Counts.{value_sizes, stmt_sizes, maybe_sizes, stmts_sizes}
use Rattle.mid_lower.proofs.Room.{Room, room_at, get_first, get_second}
use Rattle.mid_lower.proofs.Following.{base_of, events_of, Side, mk, Goal, stays_here, Now, Way, paid, paid_now, spare, now_work, kept_wider, kept_through, low_free, eqb_less, eqb_more, M, M_grows, op}
use Rattle.mid_lower.proofs.Words.{in_words}
use Rattle.mid_lower.proofs.Storing.{stores, went_asked}
use Rattle.mid_lower.proofs.Values.{local_front}
use Rattle.mid_lower.proofs.Calling.{SimF, body_goal, at_entry, unmade, BodiesFollow}
use Rattle.mid_lower.proofs.CellLoops.{below_grows, copies_on}
use Rattle.mid_lower.proofs.FillParts.{went_went}
use Rattle.mid_lower.proofs.Outcomes.{AtPlace, has_place, SimD, plain, turning, turn_wide, turn_now}
use Rattle.mid_lower.proofs.Locals.{HomeOf, mades}
use Rattle.mid_lower.proofs.LoopForms.{Earlier, while_sim, do_sim, for_sim}
use Rattle.mid_lower.proofs.EveryStatement.{all_sim, stmt_sim}

-- the functions of the code are those of the program, lowered
pub record Lowers (s : Setting) (code : CodeT ℕ) (frames : List ℕ) : Type 0 where
  pub fits : Fits s code frames
  pub body : (f : ℕ) (g : TFunctionT) → slice_get s.functions f ≡ Some g → (function_at code f).body ≡ coded (low_body (shape_in s) g) Stop
  pub own : (f : ℕ) (g : TFunctionT) → slice_get s.functions f ≡ Some g → s.sizes.locals f ≡ g.locals
  pub behind : (f : ℕ) (g : TFunctionT) → slice_get s.functions f ≡ Some g → fits.more f ≡ stmts_sizes (shape_in s) g.body
  pub made : (f : ℕ) (g : TFunctionT) → slice_get s.functions f ≡ Some g → Below (length g.locals) g.made
  pub tidy : (f : ℕ) (g : TFunctionT) → slice_get s.functions f ≡ Some g → PlainStmts (shape_in s) (length g.locals) g.gives g.body

-- ---- parameters

abbrev Firsts : ℕ → List Ty → List Cell → (ℕ → Cell) → Type 0
Firsts a [] vs ρ = Unit {0}
Firsts a (ty ∷ tys) [] ρ = Unit {0}
Firsts a (ty ∷ tys) (v ∷ vs) ρ = (ρ a ≡ v) × Firsts (a + 1) tys vs ρ

firsts_same : (a : ℕ) (tys : List Ty) (vs : List Cell) (ρ ρ' : ℕ → Cell) → ((j : ℕ) → a ≤ j → ρ' j ≡ ρ j) → Firsts a tys vs ρ → Firsts a tys vs ρ'
firsts_same a [] vs ρ ρ' e h = tt
firsts_same a (ty ∷ tys) [] ρ ρ' e h = tt
firsts_same a (ty ∷ tys) (v ∷ vs) ρ ρ' e h = (e a (omega arith) ∙ h.0, firsts_same (a + 1) tys vs ρ ρ' (λ j le. e j (omega (arith, le))) h.1)

firsts_received : (a : ℕ) (tys : List Ty) (vs : List Cell) → Firsts a tys vs (received temporaries (args_from a tys) vs)
firsts_received a [] vs = tt
firsts_received a (ty ∷ tys) [] = tt
firsts_received a (ty ∷ tys) (v ∷ vs) = (
  ap (λ b. cond b v (received temporaries (args_from (a + 1) tys) vs a)) (eq-eqb a a refl),
  firsts_same (a + 1) tys vs (received temporaries (args_from (a + 1) tys) vs) (received temporaries (args_from a (ty ∷ tys)) (v ∷ vs)) (λ j le. ap (λ b. cond b v (received temporaries (args_from (a + 1) tys) vs j)) (eqb_more j a (omega (arith, le)))) (firsts_received (a + 1) tys vs),
)

-- what is handed to a function stands there as it begins
handed_received : (ty : Ty) (r : Cell) (tys : List Ty) (vs : List Cell) → Firsts part.first_param tys vs (received temporaries (with_result ty (args_from part.first_param tys)) (handed ty r vs)) × AtPlace ty r (received temporaries (with_result ty (args_from part.first_param tys)) (handed ty r vs))
handed_received ty r tys vs = by (is_structure ty)
  where
    args : List ℕ
    args = args_from part.first_param tys

    by : (b : Bool) → Firsts part.first_param tys vs (received temporaries (if b then part.result_at ∷ args else args) (if b then r ∷ vs else vs)) × (b ≡ true → received temporaries (if b then part.result_at ∷ args else args) (if b then r ∷ vs else vs) part.result_at ≡ r)
    by false = (firsts_received part.first_param tys vs, λ e. absurd (false≢true e))
    by true = (
      firsts_same part.first_param tys vs (received temporaries args vs) (received temporaries (part.result_at ∷ args) (r ∷ vs)) (λ j le. ap (λ b. cond b r (received temporaries args vs j)) (eqb_more j part.result_at (omega (arith, le)))) (firsts_received part.first_param tys vs),
      λ e. refl,
    )

-- the address of a parameter stands in a fixed temporary
param_fixed : (k : ℕ) → part.param_at k < 16
param_fixed k = by (nat_lt k 7) refl
  where
    by : (b : Bool) → nat_lt k 7 ≡ b → (if b then 9 + k else part.to) < 16
    by true e = let lt : k < 7 = ltb-true k 7 e in omega (arith, lt)
    by false e = omega arith

-- which is not that of the place of a result
param_elsewhere : (k : ℕ) → eqb part.result_at (part.param_at k) ≡ false
param_elsewhere k = by (nat_lt k 7)
  where
    by : (b : Bool) → eqb part.result_at (if b then 9 + k else part.to) ≡ false
    by true = eqb_less part.result_at (9 + k) (omega arith)
    by false = refl

unmade_none : (l : List ℕ) (k : ℕ) → local_object (unmade l) k ≡ None
unmade_none [] k = refl
unmade_none (x ∷ l) zero = refl
unmade_none (x ∷ l) (suc k) = unmade_none l k

unmade_length : (l : List ℕ) → length (unmade l) ≡ length l
unmade_length [] = refl
unmade_length (x ∷ l) = ap suc (unmade_length l)

-- what is done with a bound
abbrev pub site : (s : Setting) (code : CodeT ℕ) (frames : List ℕ) → Fits s code frames → ℕ → Site
site s code frames fits n = record { s = s; code = code; frames = frames; fits = fits; bound = n; prev = below s n; prev' = mid_below (over_worlds temporaries code frames) n; grows = below_grows code frames n; is_below = refl }

module _ (S : Site) (v : Giving) where
  abbrev R : NodesT ℕ → Mid → Res Mid
  R = M S

  abbrev R_grows : (c : NodesT ℕ) (t : Mid) → Grows t (R c t)
  R_grows = M_grows S

  abbrev h : Shape
  h = shape_in S.s

  abbrev way_f : (γ : Goal) → Way γ
  way_f γ = record { R = Done; stop = Ended; T = SimF v γ; stops = λ f w m a. a }

  abbrev way_w : (γ : Goal) → (World → Done) → Way γ
  way_w γ go = record { R = Went; stop = CutOff; T = λ r q. SimF v γ (then_went Ended r go) q; stops = λ f w m a. a }

  zero_now : (γ : Goal) (s0 : ℕ) (w : World) (x : Side) → Now γ s0 w x → Now γ s0 (spend 0 w) x
  zero_now γ s0 w x h0 = now_work γ s0 s0 w (spend 0 w) x x.work refl (omega (arith, h0.cost)) h0

  -- what a parameter leaves: the place of a result, and the arguments
  abbrev Beyond : Side → Side → Type 0
  Beyond x y = (y.temps part.result_at ≡ x.temps part.result_at) × ((j : ℕ) → 16 ≤ j → y.temps j ≡ x.temps j)

  -- what follows a parameter
  abbrev Onward : Goal → ℕ → Side → NodesT ℕ → (World → Went) → (World → Done) → Type 0
  Onward γ s x c rest go = (u : World) (y : Side) → Now γ s u y → Beyond x y → SimF v γ (then_went Ended (rest u) go) (R c (mk u y))

  -- a cell is stored
  cell_received : (γ : Goal) (ty : Ty) (z : Cell) (s k a : ℕ) (w : World) (x : Side) (c : NodesT ℕ) → γ.first ≡ 0 → is_structure ty ≡ false → 16 ≤ a → Now γ (s + 16) w x → x.temps a ≡ z → (rest : World → Went) (go : World → Done) → Onward γ s x c rest go
      → SimF v γ (then_went Ended (asked CutOff nowhere w (first_cell (local_object w.store.locals k)) (λ p. then_went CutOff (stored S.s S.bound 0 ty nowhere p z w) rest)) go) (R (coded (lowered.received h ty k a) c) (mk w x))
  cell_received γ ty z s k a w x c e scalar sa h0 at rest go f =
      let t : ℕ = part.param_at k in
      let small : t < 16 = param_fixed k in
      let inside : Cell → Went = λ p. then_went CutOff (stored S.s S.bound 0 ty nowhere p z w) rest in
      subst (λ q. SimF v γ (then_went Ended (asked CutOff nowhere w (first_cell (local_object w.store.locals k)) inside) go) (R (if q then Do (LocalO part.to k) (coded (part.copied_on (words h ty) a) c) else Do (LocalO t k) (Do (StoreO t a) c)) (mk w x))) (sym scalar)
      (op S γ (way_w γ go) (s + 8) nowhere w x t (first_cell (local_object w.store.locals k)) (first_cell (local_object (w.store.locals ++ x.extra) k)) (LocalO t k) (Do (StoreO t a) c)
      (spare γ (s + 16) (s + 8 + 8) w x (omega arith) h0) (λ j g l ne. absurd (omega (arith, l, e))) (local_front w.store.locals x.extra k) refl inside
      (λ p y hy ey keep.
      subst (λ d. SimF v γ d (R (Do (StoreO t a) c) (mk w y))) (sym (went_went Ended (stored S.s S.bound 0 ty nowhere p z w) rest go))
      (subst (λ q. SimF v γ (then_went Ended (if q then cells_set nowhere (0 + 1) S.bound (words h ty) (Some z) p w else asked CutOff nowhere (spend 0 w) (write w.store.objects p z) (λ os. Through (on_store (with_objects os) (spend 0 w)))) (λ u. then_went Ended (rest u) go)) (R (Do (StoreO t a) c) (mk w y))) (sym scalar)
      (subst (λ d. SimF v γ d (R (Do (StoreO t a) c) (mk w y))) (sym (went_asked Ended nowhere (spend 0 w) (write w.store.objects p z) (λ os. on_store (with_objects os) (spend 0 w)) (λ u. then_went Ended (rest u) go)))
      (stores S γ (way_f γ) nowhere (spend 0 w) s y t a p z c (zero_now γ (s + 8) w y hy) ey (keep a (eqb_more a t (omega (arith, sa, small))) ∙ at) (λ u. then_went Ended (rest u) go)
      (λ os u hu alike. f (on_store (with_objects os) (spend 0 w)) u hu (alike part.result_at ∙ keep part.result_at (param_elsewhere k), λ j le. alike j ∙ keep j (eqb_more j t (omega (arith, le, small))))))))))

  -- a structure is copied: where the run ends at that, there is more to spare
  structure_received : (γ : Goal) (ty : Ty) (z : Cell) (s k a : ℕ) (w : World) (x : Side) (c : NodesT ℕ) → 16 ≤ γ.ends → 16 ≤ a → is_structure ty ≡ true → Now γ (s + 16) w x → x.temps a ≡ z → (rest : World → Went) (go : World → Done) → Onward γ s x c rest go
      → SimF v γ (then_went Ended (asked CutOff nowhere w (first_cell (local_object w.store.locals k)) (λ p. then_went CutOff (stored S.s S.bound 0 ty nowhere p z w) rest)) go) (R (coded (lowered.received h ty k a) c) (mk w x))
  structure_received γ ty z s k a w x c more_at_ends sa structure h0 at rest go f =
      let size : ℕ = words h ty in
      let few : size < 2 ^ 32 = in_words (words_of h.layouts ty) in
      let first : Answer Cell = first_cell (local_object w.store.locals k) in
      let inside : Cell → Went = λ p. then_went CutOff (cells_set nowhere 1 S.bound size (Some z) p w) rest in
      let γ1 : Goal = record γ { from = γ.from + 16; ends = 0 } in
      let σ : Way γ1 = record { R = Done; stop = Ended; T = SimF v γ; stops = λ g u m q. kept_wider γ γ1 (omega (arith, more_at_ends)) g u m q } in
      let c2 : NodesT ℕ = coded (part.copied_on size a) c in
      subst (λ q. SimF v γ (then_went Ended (asked CutOff nowhere w first (λ p. then_went CutOff (if q then cells_set nowhere (0 + 1) S.bound size (Some z) p w else asked CutOff nowhere (spend 0 w) (write w.store.objects p z) (λ os. Through (on_store (with_objects os) (spend 0 w)))) rest)) go) (R (if q then Do (LocalO part.to k) c2 else Do (LocalO (part.param_at k) k) (Do (StoreO (part.param_at k) a) c)) (mk w x))) (sym structure)
      (op S γ (way_w γ go) (s + 8) nowhere w x part.to first (first_cell (local_object (w.store.locals ++ x.extra) k)) (LocalO part.to k) c2 (spare γ (s + 16) (s + 8 + 8) w x (omega arith) h0) (low_free γ part.to (omega arith)) (local_front w.store.locals x.extra k) refl inside (λ p u hu eu rest1.
      subst (λ d. SimF v γ d (R c2 (mk w u))) (sym (went_went Ended (cells_set nowhere 1 S.bound size (Some z) p w) rest go))
      (copies_on S γ1 nowhere 1 (omega arith) σ s size (omega (arith, few)) a z p w u c (record { stays = hu.stays; below = hu.below; cost = omega (arith, hu.cost) }) (omega (arith, sa)) (rest1 a (eqb_more a part.to (omega (arith, sa))) ∙ at) eu (λ q. then_went Ended (rest q) go) (λ wb xb hb others.
      f wb xb (record { stays = hb.stays; below = hb.below; cost = omega (arith, hb.cost) })
      (others part.result_at (omega arith) ∙ rest1 part.result_at refl, λ j le. others j (omega (arith, le)) ∙ rest1 j (eqb_more j part.to (omega (arith, le))))))))

  received_sim : (γ : Goal) (ty : Ty) (z : Cell) (s k a : ℕ) (w : World) (x : Side) (c : NodesT ℕ) → γ.first ≡ 0 → 16 ≤ γ.ends → 16 ≤ a → Now γ (s + 16) w x → x.temps a ≡ z → (rest : World → Went) (go : World → Done) → Onward γ s x c rest go
      → SimF v γ (then_went Ended (asked CutOff nowhere w (first_cell (local_object w.store.locals k)) (λ p. then_went CutOff (stored S.s S.bound 0 ty nowhere p z w) rest)) go) (R (coded (lowered.received h ty k a) c) (mk w x))
  received_sim γ ty z s k a w x c e more_at_ends sa h0 at rest go f = by (is_structure ty) refl
    where
      by : (b : Bool) → is_structure ty ≡ b → SimF v γ (then_went Ended (asked CutOff nowhere w (first_cell (local_object w.store.locals k)) (λ p. then_went CutOff (stored S.s S.bound 0 ty nowhere p z w) rest)) go) (R (coded (lowered.received h ty k a) c) (mk w x))
      by true structure = structure_received γ ty z s k a w x c more_at_ends sa structure h0 at rest go f
      by false scalar = cell_received γ ty z s k a w x c e scalar sa h0 at rest go f

  params_sim : (γ : Goal) (tys : List Ty) (vs : List Cell) (s0 k a : ℕ) (w : World) (x : Side) (c : NodesT ℕ) → γ.first ≡ 0 → 16 ≤ γ.ends → 16 ≤ a → Now γ (s0 + 16 * length vs) w x → Firsts a tys vs x.temps → (go : World → Done) → ((wa : World) (xa : Side) → Now γ s0 wa xa → xa.temps part.result_at ≡ x.temps part.result_at → SimF v γ (go wa) (R c (mk wa xa)))
      → SimF v γ (then_went Ended (params_stored S.s S.bound k tys vs w) go) (R (coded (all_received h tys k a) c) (mk w x))
  params_sim γ [] [] s0 k a w x c e more_at_ends sa h0 fs go f = f w x (spare γ (s0 + 16 * 0) s0 w x (omega arith) h0) refl
  params_sim γ [] (z ∷ vs) s0 k a w x c e more_at_ends sa h0 fs go f = R_grows c (mk w x)
  params_sim γ (ty ∷ tys) [] s0 k a w x c e more_at_ends sa h0 fs go f = R_grows (coded (all_received h (ty ∷ tys) k a) c) (mk w x)
  params_sim γ (ty ∷ tys) (z ∷ vs) s0 k a w x c e more_at_ends sa h0 fs go f =
      received_sim γ ty z (s0 + 16 * length vs) k a w x (coded (all_received h tys (k + 1) (a + 1)) c) e more_at_ends sa (spare γ (s0 + 16 * suc (length vs)) (s0 + 16 * length vs + 16) w x (omega arith) h0) fs.0 (params_stored S.s S.bound (k + 1) tys vs) go
      (λ u y hu beyond. params_sim γ tys vs s0 (k + 1) (a + 1) u y c e more_at_ends (omega (arith, sa)) hu (firsts_same (a + 1) tys vs x.temps y.temps (λ j le. beyond.1 j (omega (arith, le, sa))) fs.1) go
      (λ wa xa ha kept. f wa xa ha (kept ∙ beyond.0)))

  -- the body stands in a block
  blocked : (γ : Goal) (w0 : World) (x0 : Side) (m : ℕ) → Now γ 0 w0 x0 → (d : Done) (q : Res Mid) → SimD v (plain m w0 x0) 0 (ToEnd 0) (λ t. Next t) d q → SimF v γ d (then_next (block_done q) (R Stop))
  blocked γ w0 x0 m h0 (Goes w) q a = (a.0, ap (λ r. then_next (block_done r) (R Stop)) a.1, record { under = a.2.stays.fit.under; later = later_then γ.base.objects w0.store.objects w.store.objects h0.stays.later a.2.stays.later; cost = omega (arith, h0.cost, a.2.cost) })
  blocked γ w0 x0 m h0 (Breaks w) q a = subst (λ r. Prefix w.events (events_of (then_next (block_done r) (R Stop)))) (sym a.1) (all_of w.events)
  blocked γ w0 x0 m h0 (Continues w) q a = subst (λ r. Prefix w.events (events_of (then_next (block_done r) (R Stop)))) (sym a.1) (all_of w.events)
  blocked γ w0 x0 m h0 (Returns None w) q a = (a.0, ap (λ r. then_next (block_done r) (R Stop)) a.1, record { under = a.2.under; later = later_then γ.base.objects w0.store.objects w.store.objects h0.stays.later a.2.later; cost = omega (arith, h0.cost, a.2.cost) })
  blocked γ w0 x0 m h0 (Returns (Some c) w) q a = (a.0, ap (λ r. then_next (block_done r) (R Stop)) a.1, record { under = a.2.under; later = later_then γ.base.objects w0.store.objects w.store.objects h0.stays.later a.2.later; cost = omega (arith, h0.cost, a.2.cost) }, a.3)
  blocked γ w0 x0 m h0 (Ended f w) q a = kept_through γ f w q (λ r. then_next (block_done r) (R Stop)) (λ g t. refl) (λ r. more _ _ _ (block_grows r) (then_grows (block_done r) (R Stop) (R_grows Stop))) (kept_wider γ (plain m w0 x0) (omega (arith, h0.cost)) f w q a)

module _ (s : Setting) (code : CodeT ℕ) (frames : List ℕ) (lowers : Lowers s code frames) where
  abbrev at : ℕ → Site
  at n = site s code frames lowers.fits n

  function_sim : (n : ℕ) → Earlier (at n) → BodiesFollow (at (suc n))
  function_sim i before f g eg vs r w x u =
      let S : Site = at i in
      let us : List Cell = handed g.gives r vs in
      let w1 : World = on_store (entered s.sizes f) w in
      let x1 : Side = at_entry S f us x in
      let γ : Goal = body_goal vs w1 x1 in
      let own : ℕ = length g.locals in
      let v : Giving = giving g.gives r in
      let n : ℕ = first_of g.params in
      let cb : NodesT ℕ = coded (low_stmts (shape_in s) g.gives g.body n (length g.locals) 0 (ToEnd 0)) Stop in
      let counts : length w1.store.locals ≡ own = unmade_length (s.sizes.locals f) ∙ ap (λ l. length l) (lowers.own f g eg) in
      let home : HomeOf s code frames g.gives (Some f) own = record {
        words = λ k lt. ap (λ l. get_or l k 0) (lowers.fits.locals f) ∙ get_first (s.sizes.locals f) (lowers.fits.more f) k (omega (arith, lt, ap (λ l. length l) (lowers.own f g eg)));
        result = ap (λ o. option_map_or (λ k. k.gives) o VoidY) eg;
      } in
      let handed_there : Firsts part.first_param g.params vs x1.temps × AtPlace g.gives r x1.temps = subst (λ ps. Firsts part.first_param g.params vs (received temporaries ps us) × AtPlace g.gives r (received temporaries ps us)) (sym (lowers.fits.params f g eg)) (handed_received g.gives r g.params vs) in
      subst (λ o. SimF v γ (body_of s i (below s i) o vs r w1) (M S (function_at code f).body (mk w1 x1))) (sym eg)
      (subst (λ c. SimF v γ (body_of s i (below s i) (Some g) vs r w1) (M S c (mk w1 x1))) (sym (lowers.body f g eg))
      (mades S g.gives γ (8 + 16 * length vs) (SimF v γ) g.made w1 x1 (coded (all_received (shape_in s) g.params 0 part.first_param) (Block cb Stop)) (subst (λ o. HomeOf s code frames g.gives (Some f) o) (sym counts) home) (subst (λ o. Below o g.made) (sym counts) (lowers.made f g eg))
      (record { stays = stays_here w1 x1 (record { under = u; unused = λ k le. subst (Gone w1.store.objects) (sym (unmade_none (lowers.fits.more f) k)) tt }); below = λ j a lt ne. refl; cost = omega arith })
      (λ y. then_went Ended (params_stored s i 0 g.params vs y) (does_all s i (below s i) r g.body))
      (λ wa xa ha same_temps. params_sim S v γ g.params vs 8 0 part.first_param wa xa (Block cb Stop) refl (omega arith) (omega arith) ha (subst (Firsts part.first_param g.params vs) (sym same_temps) handed_there.0) (does_all s i (below s i) r g.body)
      (λ wb xb hb kept. blocked S v γ wb (paid xb) n (paid_now γ 0 wb xb hb) (does_all s i (below s i) r g.body wb) (M S cb (mk wb (paid xb)))
      (all_sim S before r g.gives own g.body (lowers.tidy f g eg) n (length g.locals) 0 (ToEnd 0) Stop wb (paid xb) (omega arith) hb.stays.fit (λ structure. kept ∙ ap (λ temps. temps part.result_at) same_temps ∙ handed_there.1 structure) (subst (λ fn. HomeOf s code frames g.gives fn own) (sym hb.stays.same_function) home) (hb.stays.same_own ∙ counts) (room_at S γ.base own (stmts_sizes (shape_in s) g.body) wb xb (room_for own counts) hb.stays))))))
    where
      room_for : (own : ℕ) → length (unmade (s.sizes.locals f)) ≡ own → Room (at i) (base_of (on_store (entered s.sizes f) w) (at_entry (at i) f (handed g.gives r vs) x)) own (stmts_sizes (shape_in s) g.body)
      room_for own e =
          let el = unmade_length (s.sizes.locals f) in
          let em = unmade_length (lowers.fits.more f) in
          let eb : length (lowers.fits.more f) ≡ length (stmts_sizes (shape_in s) g.body) = ap (λ l. length l) (lowers.behind f g eg) in
          record {
            free = omega (arith, e);
            fits = omega (arith, e, em, eb);
            words = λ j lt. ap (λ l. get_or l (own + j) 0) (lowers.fits.locals f) ∙ get_second (s.sizes.locals f) (lowers.fits.more f) (own + j) j (omega (arith, e, el)) ∙ ap (λ l. get_or l j 0) (lowers.behind f g eg);
          }

  abbrev its_shape : Shape
  its_shape = shape_in s

  abbrev k_next : Mid → Res Mid
  k_next t = Next t

  -- a step of the induction on the bound
  step : (n : ℕ) → Earlier (at n) → Earlier (at (suc n))
  step i before = record {
    called = function_sim i before;
    while_turn = λ r ty own e a n m b j w x u place home eo sce sca sn room. while_sim (at i) before r ty own e a sce (stmt_sim (at i) before r ty own a sca) (turning n w x) (omega arith) n m b j Stop w x sn (omega arith) (has_place ty r n w x sn place) home eo (turn_now n w x u) (below s i (Turn r (Some e) None a)) room
        (λ wa xa ha. turn_wide (giving ty r) (turning n w x) (omega arith) n b j k_next wa xa ha (omega arith) (below s i (Turn r (Some e) None a) wa) (mid_below (over_worlds temporaries code frames) i (coded (low_stmt its_shape ty (WhileZ e a) n m 0 (ToEnd 0)) Stop) (mk wa xa)) (before.while_turn r ty own e a n m b j wa xa ha.stays.fit (has_place ty r n w x sn place xa.temps ha.below) (subst (λ fn. HomeOf s code frames ty fn own) (sym ha.stays.same_function) home) (ha.stays.same_own ∙ eo) sce sca sn (room_at (at i) (base_of w x) m (value_sizes its_shape e ++ stmt_sizes its_shape a) wa xa room ha.stays)));
    do_turn = λ r ty own e a n m b j w x u place home eo sce sca sn room. do_sim (at i) before r ty own e a sce (stmt_sim (at i) before r ty own a sca) (turning n w x) (omega arith) n m b j Stop w x sn (omega arith) (has_place ty r n w x sn place) home eo (turn_now n w x u) (below s i (DoTurn r a e)) room
        (λ wa xa ha. turn_wide (giving ty r) (turning n w x) (omega arith) n b j k_next wa xa ha (omega arith) (below s i (DoTurn r a e) wa) (mid_below (over_worlds temporaries code frames) i (coded (low_stmt its_shape ty (DoWhileZ a e) n m 0 (ToEnd 0)) Stop) (mk wa xa)) (before.do_turn r ty own e a n m b j wa xa ha.stays.fit (has_place ty r n w x sn place xa.temps ha.below) (subst (λ fn. HomeOf s code frames ty fn own) (sym ha.stays.same_function) home) (ha.stays.same_own ∙ eo) sce sca sn (room_at (at i) (base_of w x) m (stmt_sizes its_shape a ++ value_sizes its_shape e) wa xa room ha.stays)));
    for_turn = λ r ty own test each a n m b j w x u place home eo sct scs sca sn room. for_sim (at i) before r ty own test each a sct scs (stmt_sim (at i) before r ty own a sca) (turning n w x) (omega arith) n m b j Stop w x sn (omega arith) (has_place ty r n w x sn place) home eo (turn_now n w x u) room (below s i (Turn r test each a))
        (λ wa xa ha. turn_wide (giving ty r) (turning n w x) (omega arith) n b j k_next wa xa ha (omega arith) (below s i (Turn r test each a) wa) (mid_below (over_worlds temporaries code frames) i (coded (low.turns its_shape test each a (λ k l. low_stmt its_shape ty a k l 1 (ToEnd 0)) n m) Stop) (mk wa xa)) (before.for_turn r ty own test each a n m b j wa xa ha.stays.fit (has_place ty r n w x sn place xa.temps ha.below) (subst (λ fn. HomeOf s code frames ty fn own) (sym ha.stays.same_function) home) (ha.stays.same_own ∙ eo) sct scs sca sn (room_at (at i) (base_of w x) m (maybe_sizes its_shape test ++ (stmt_sizes its_shape a ++ maybe_sizes its_shape each)) wa xa room ha.stays)));
  }

  -- with a bound of 0 all is out of bound
  none : Earlier (at 0)
  none = record {
    called = λ f g e vs r w x u. (at_entry (at 0) f (handed g.gives r vs) x, refl, record { under = u; cost = omega arith });
    while_turn = λ r ty own e a n m b j w x u place home eo sce sca sn room. (x, refl, record { under = u.under; cost = omega arith });
    do_turn = λ r ty own e a n m b j w x u place home eo sce sca sn room. (x, refl, record { under = u.under; cost = omega arith });
    for_turn = λ r ty own test each a n m b j w x u place home eo sct scs sca sn room. (x, refl, record { under = u.under; cost = omega arith });
  }

  -- at every bound mid code follows
  pub earlier : (n : ℕ) → Earlier (at n)
  earlier zero = none
  earlier (suc n) = step n (earlier n)
