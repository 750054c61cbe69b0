-- Locals that are made, and that end: mid code makes them, and ends none.
use Rattle.std.proofs.Common.{◌≡◌, ℕ, zero, suc, ◌+◌, ◌<◌, List, [], ◌∷◌, ◌++◌, length, set, Option, Some, None, refl, sym, ap, ◌∙◌, subst, arith}
use Rattle.c_types.specs.Types.{Ty}
use Rattle.obj_mem.specs.Objects.{ObjectT, object, made, unwritten}
use Rattle.obj_mem.specs.declared.cell.ObjectKind.TheVariants as kind
use Rattle.obj_mem.specs.Stores.{Store, with_objects, local_object, words_here, end_local, fresh, fresh_all, end_one, end_all}
use Rattle.obj_mem.specs.Worlds.{World, on_store}
use Rattle.c_meaning.specs.Outcomes.{Done, Goes, Breaks, Continues, Returns, Ended}
use Rattle.c_meaning.specs.Setting.{Setting, result_of}
use Rattle.c_meaning.specs.Statements.{left}
use Rattle.mid_code.specs.Code.{FreshO, NodesT, Do, CodeT}
use Rattle.mid_code.specs.Meaning.{Res}
use Rattle.mid_code.specs.States.{sizes_of}
use Rattle.lower_trees.specs.Pieces.{coded}
use Rattle.lower_trees.specs.Statements.{Jump}
use Rattle.lower_trees.specs.Parts as part
use Rattle.mid_lower.proofs.Grows.{Mid}
use Rattle.mid_lower.proofs.Under.{Under, under_length, under_join, under_end_local, end_both}
use Rattle.mid_lower.proofs.Lives.{Later, later_same, later_then, later_end_local, later_join}
use Rattle.mid_lower.proofs.Fits.{Site}
use Rattle.mid_lower.proofs.Giving.{Giving}
use Rattle.mid_lower.proofs.Following.{Side, mk, Goal, stays_later, Now, Out, M}
use Rattle.mid_lower.proofs.Outcomes.{SimD}
use Rattle.mid_lower.proofs.Trees.{Below}

pub local_own : (l e : List (Option ℕ)) (k : ℕ) → k < length l → local_object (l ++ e) k ≡ local_object l k
local_own [] e k lt = absurd (omega (arith, lt))
local_own (o ∷ l) e zero lt = refl
local_own (o ∷ l) e (suc k) lt = local_own l e k (omega (arith, lt))

pub set_own : (l e : List (Option ℕ)) (k : ℕ) (v : Option ℕ) → k < length l → set (l ++ e) k v ≡ set l k v ++ e
set_own [] e k v lt = absurd (omega (arith, lt))
set_own (o ∷ l) e zero v lt = refl
set_own (o ∷ l) e (suc k) v lt = ap (λ r. o ∷ r) (set_own l e k v (omega (arith, lt)))

pub set_length : (l : List (Option ℕ)) (k : ℕ) (v : Option ℕ) → length (set l k v) ≡ length l
set_length [] k v = refl
set_length (o ∷ l) zero v = refl
set_length (o ∷ l) (suc k) v = ap suc (set_length l k v)

-- ---- what ends

-- the objects without those of these locals
abbrev pub closed : List ℕ → List (Option ℕ) → List ObjectT → List ObjectT
closed [] at os = os
closed (k ∷ ks) at os = closed ks at (end_local (local_object at k) os)

pub closed_is : (ks : List ℕ) (u : Store) → end_all ks u ≡ with_objects (closed ks u.locals u.objects) u
closed_is [] u = refl
closed_is (k ∷ ks) u = closed_is ks (end_one k u)

pub closed_under : (ks : List ℕ) (at : List (Option ℕ)) (os os' : List ObjectT) → Under os os' → Under (closed ks at os) os'
closed_under [] at os os' u = u
closed_under (k ∷ ks) at os os' u = closed_under ks at (end_local (local_object at k) os) os' (under_end_local (local_object at k) os os' u)

closed_later : (ks : List ℕ) (at : List (Option ℕ)) (os : List ObjectT) → Later os (closed ks at os)
closed_later [] at os = later_same os
closed_later (k ∷ ks) at os = later_then os (end_local (local_object at k) os) (closed ks at (end_local (local_object at k) os)) (later_end_local (local_object at k) os) (closed_later ks at (end_local (local_object at k) os))

closes_now : (γ : Goal) (s : ℕ) (ks : List ℕ) (w : World) (x : Side) → Now γ s w x → Now γ s (on_store (with_objects (closed ks w.store.locals w.store.objects)) w) x
closes_now γ s ks w x h = record { stays = stays_later γ.base w x (on_store (with_objects (closed ks w.store.locals w.store.objects)) w) x refl refl refl refl (closed_under ks w.store.locals w.store.objects x.objs h.stays.fit.under) (closed_later ks w.store.locals w.store.objects) h.stays; below = h.below; cost = h.cost }

closes_fin : (γ : Goal) (ks : List ℕ) (w : World) (x : Side) → Out γ w x → Out γ (on_store (with_objects (closed ks w.store.locals w.store.objects)) w) x
closes_fin γ ks w x h = record { under = closed_under ks w.store.locals w.store.objects x.objs h.under; later = later_then γ.base.objects w.store.objects (closed ks w.store.locals w.store.objects) h.later (closed_later ks w.store.locals w.store.objects); cost = h.cost }

pub ends : (v : Giving) (γ : Goal) (b : ℕ) (j : Jump) (k : Mid → Res Mid) (ks : List ℕ) (d : Done) (q : Res Mid) → SimD v γ b j k d q → SimD v γ b j k (left ks d) q
ends v γ b j k ks (Goes w) q a = subst (λ st. SimD v γ b j k (Goes (record w { store = st })) q) (sym (closed_is ks w.store)) (a.0, a.1, closes_now γ 0 ks w a.0 a.2)
ends v γ b j k ks (Breaks w) q a = subst (λ st. SimD v γ b j k (Breaks (record w { store = st })) q) (sym (closed_is ks w.store)) (a.0, a.1, closes_now γ 0 ks w a.0 a.2)
ends v γ b j k ks (Continues w) q a = subst (λ st. SimD v γ b j k (Continues (record w { store = st })) q) (sym (closed_is ks w.store)) (a.0, a.1, closes_now γ 0 ks w a.0 a.2)
ends v γ b j k ks (Returns None w) q a = subst (λ st. SimD v γ b j k (Returns None (record w { store = st })) q) (sym (closed_is ks w.store)) (a.0, a.1, closes_fin γ ks w a.0 a.2)
ends v γ b j k ks (Returns (Some c) w) q a = subst (λ st. SimD v γ b j k (Returns (Some c) (record w { store = st })) q) (sym (closed_is ks w.store)) (a.0, a.1, closes_fin γ ks w a.0 a.2, a.3)
ends v γ b j k ks (Ended f w) q a = a

-- ---- what is made

-- what is known of the function that is called: the words of its own locals, and the type of its result
pub record HomeOf (s : Setting) (code : CodeT ℕ) (frames : List ℕ) (ty : Ty) (fn : Option ℕ) (own : ℕ) : Type 0 where
  pub words : (k : ℕ) → k < own → words_here (sizes_of code frames) fn k ≡ words_here s.sizes fn k
  pub result : result_of s fn ≡ ty

module _ (S : Site) where
  abbrev R : NodesT ℕ → Mid → Res Mid
  R = M S

  abbrev fresh_side : ℕ → World → Side → Side
  fresh_side k w x = record x { objs = made (end_local (local_object w.store.locals k) x.objs) kind.Local (unwritten (words_here S.s.sizes w.store.function k)); work = x.work + 0 }

  abbrev fresh_state : Option ℕ → ℕ → List (Option ℕ) → World → Side → Mid
  fresh_state lo size ls w x = record { world = record { store = record w.store { objects = made (end_local lo x.objs) kind.Local (unwritten size); locals = ls }; events = w.events; work = x.work + 0 }; cells = x.temps; given = x.given }

  freshed : (k : ℕ) (c : NodesT ℕ) (w : World) (x : Side) → Under w.store.objects x.objs → k < length w.store.locals → words_here (sizes_of S.code S.frames) w.store.function k ≡ words_here S.s.sizes w.store.function k → R (Do (FreshO k) c) (mk w x) ≡ R c (mk (on_store (fresh S.s.sizes k) w) (fresh_side k w x))
  freshed k c w x u lt e =
      ap (λ lo. R c (fresh_state lo (words_here (sizes_of S.code S.frames) w.store.function k) (set (w.store.locals ++ x.extra) k (Some (length x.objs))) w x)) (local_own w.store.locals x.extra k lt)
      ∙ ap (λ z. R c (fresh_state (local_object w.store.locals k) z (set (w.store.locals ++ x.extra) k (Some (length x.objs))) w x)) e
      ∙ ap (λ l. R c (fresh_state (local_object w.store.locals k) (words_here S.s.sizes w.store.function k) (set (w.store.locals ++ x.extra) k (Some l)) w x)) (under_length w.store.objects x.objs u)
      ∙ ap (λ ls. R c (fresh_state (local_object w.store.locals k) (words_here S.s.sizes w.store.function k) ls w x)) (set_own w.store.locals x.extra k (Some (length w.store.objects)) lt)

  fresh_now : (γ : Goal) (s0 k : ℕ) (w : World) (x : Side) → Now γ s0 w x → Now γ s0 (on_store (fresh S.s.sizes k) w) (fresh_side k w x)
  fresh_now γ s0 k w x h =
      let lo : Option ℕ = local_object w.store.locals k in
      let size : ℕ = words_here S.s.sizes w.store.function k in
      record {
        stays = stays_later γ.base w x (on_store (fresh S.s.sizes k) w) (fresh_side k w x) refl (set_length w.store.locals k (Some (length w.store.objects))) refl refl
            (under_join (end_local lo w.store.objects) (end_local lo x.objs) (object kind.Local (unwritten size)) refl (end_both lo w.store.objects x.objs h.stays.fit.under))
            (later_then w.store.objects (end_local lo w.store.objects) (made (end_local lo w.store.objects) kind.Local (unwritten size)) (later_end_local lo w.store.objects) (later_join (end_local lo w.store.objects) (object kind.Local (unwritten size) ∷ []))) h.stays;
        below = h.below;
        cost = omega (arith, h.cost);
      }

  words_at : (ty : Ty) (γ : Goal) (s0 k : ℕ) (w : World) (x : Side) → HomeOf S.s S.code S.frames ty γ.base.function γ.base.own → Now γ s0 w x → k < γ.base.own → words_here (sizes_of S.code S.frames) w.store.function k ≡ words_here S.s.sizes w.store.function k
  words_at ty γ s0 k w x home h lt = subst (λ fn. words_here (sizes_of S.code S.frames) fn k ≡ words_here S.s.sizes fn k) (sym h.stays.same_function) (home.words k lt)

  pub mades : (ty : Ty) (γ : Goal) (s0 : ℕ) {A : Type 0} (T : A → Res Mid → Type 0) (ks : List ℕ) (w : World) (x : Side) (c : NodesT ℕ) → HomeOf S.s S.code S.frames ty γ.base.function γ.base.own → Below γ.base.own ks → Now γ s0 w x → (go : World → A) → ((wa : World) (xa : Side) → Now γ s0 wa xa → xa.temps ≡ x.temps → T (go wa) (R c (mk wa xa))) → T (go (on_store (fresh_all S.s.sizes ks) w)) (R (coded (part.made ks) c) (mk w x))
  mades ty γ s0 T [] w x c home bl h go f = f w x h refl
  mades ty γ s0 T (y ∷ ks) w x c home bl h go f =
      subst (T (go (on_store (fresh_all S.s.sizes ks) (on_store (fresh S.s.sizes y) w)))) (sym (freshed y (coded (part.made ks) c) w x h.stays.fit.under (omega (arith, h.stays.same_own, bl.0)) (words_at ty γ s0 y w x home h bl.0)))
      (mades ty γ s0 T ks (on_store (fresh S.s.sizes y) w) (fresh_side y w x) c home bl.1 (fresh_now γ s0 y w x h) go f)
