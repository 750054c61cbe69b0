-- A structure that is a value stands in a local that was not in use, and the local is no longer in use once the value was used.
use Rattle.std.proofs.Common.{◌≡◌, ℕ, zero, suc, ◌+◌, ◌<◌, ◌≤◌, ◌^◌, false, eqb, ◌%◌, List, [], ◌∷◌, ◌++◌, length, set, Option, Some, None, Ok, refl, sym, ap, ◌∙◌, subst, arith}
use Rattle.std.proofs.lemmas.Bool.{false≢true}
use Rattle.c_tree.specs.declared.span.Span.{Span}
use Rattle.obj_mem.specs.Objects.{ObjectT, object, made, unwritten, end_object}
use Rattle.obj_mem.specs.declared.cell.Cell.{Cell}
use Rattle.obj_mem.specs.declared.cell.Cell.TheVariants.{Unwritten, Num, Ptr, Null}
use Rattle.obj_mem.specs.declared.cell.ObjectKind.TheVariants as kind
use Rattle.obj_mem.specs.Stores.{local_object, words_here, end_local, with_objects, with_temporary, next_object}
use Rattle.obj_mem.specs.Queries.{write, further, first_cell}
use Rattle.obj_mem.specs.Worlds.{World, on_store, spend}
use Rattle.c_meaning.specs.declared.end.End.TheVariants.{Stray}
use Rattle.c_meaning.specs.Cells.{cells_set}
use Rattle.c_meaning.specs.Outcomes.{Went, asked, then_went}
use Rattle.mid_code.specs.Code.{FreshO, ConstO, MoveO, LocalO, StepO, LoadO, StoreO, NodesT, Stop, Do, Loop}
use Rattle.mid_code.specs.Meaning.{Res}
use Rattle.mid_code.specs.States.{temporaries, sizes_of, to, spent}
use Rattle.lower_trees.specs.Pieces.{coded}
use Rattle.lower_trees.specs.Parts as part
use Rattle.mid_lower.proofs.Grows.{Mid}
use Rattle.mid_lower.proofs.Under.{Under, under_join, under_length}
use Rattle.mid_lower.proofs.Lives.{Ended, Gone, later_gone, later_join}
use Rattle.mid_lower.proofs.Fits.{Site}
use Rattle.mid_lower.proofs.Following.{Side, mk, base_of, Goal, Fit, stays_here, Now, Way, Free, Rest, spare, kept_wider, low_free, eqb_less, eqb_more, M, M_grows, sets}
use Rattle.mid_lower.proofs.Instructions.{step_eq}
use Rattle.mid_lower.proofs.Storing.{stores}
use Rattle.mid_lower.proofs.CellLoops.{copies, Turns, cell_first, word_behind, turn_goes}

-- ---- locals behind the function's own

local_behind : (l e : List (Option ℕ)) (k i : ℕ) → k ≡ length l + i → local_object (l ++ e) k ≡ local_object e i
local_behind [] e k i eq = ap (local_object e) (omega (arith, eq))
local_behind (o ∷ l) e zero i eq = absurd (omega (arith, eq))
local_behind (o ∷ l) e (suc k) i eq = local_behind l e k i (omega (arith, eq))

set_behind : (l e : List (Option ℕ)) (k i : ℕ) (v : Option ℕ) → k ≡ length l + i → set (l ++ e) k v ≡ l ++ set e i v
set_behind [] e k i v eq = ap (λ j. set e j v) (omega (arith, eq))
set_behind (o ∷ l) e zero i v eq = absurd (omega (arith, eq))
set_behind (o ∷ l) e (suc k) i v eq = ap (λ r. o ∷ r) (set_behind l e k i v (omega (arith, eq)))

pub set_there : (e : List (Option ℕ)) (i : ℕ) (v : Option ℕ) → i < length e → local_object (set e i v) i ≡ v
set_there [] i v lt = absurd (omega (arith, lt))
set_there (o ∷ e) zero v lt = refl
set_there (o ∷ e) (suc i) v lt = set_there e i v (omega (arith, lt))

pub set_elsewhere : (e : List (Option ℕ)) (i j : ℕ) (v : Option ℕ) → (j ≡ i → ⊥) → local_object (set e i v) j ≡ local_object e j
set_elsewhere [] i j v ne = refl
set_elsewhere (o ∷ e) zero zero v ne = absurd (ne refl)
set_elsewhere (o ∷ e) zero (suc j) v ne = refl
set_elsewhere (o ∷ e) (suc i) zero v ne = refl
set_elsewhere (o ∷ e) (suc i) (suc j) v ne = set_elsewhere e i j v (λ q. ne (ap suc q))

-- mid code ends what has ended
under_gone : (xs ys : List ObjectT) (o : ℕ) → Under xs ys → o < length xs → Ended xs o → Under xs (end_object ys o)
under_gone [] ys o u lt e = absurd (omega (arith, lt))
under_gone (x ∷ xs) [] o u lt e = absurd u
under_gone (x ∷ xs) (y ∷ ys) zero u lt e = ((λ l. absurd (false≢true (sym e ∙ l)), (u.0).1), u.1)
under_gone (x ∷ xs) (y ∷ ys) (suc o) u lt e = (u.0, under_gone xs ys o u.1 (omega (arith, lt)) e)

under_gone_local : (l : Option ℕ) (xs ys : List ObjectT) → Under xs ys → Gone xs l → Under xs (end_local l ys)
under_gone_local None xs ys u g = u
under_gone_local (Some o) xs ys u g = under_gone xs ys o u g.0 g.1

-- ---- a local that is taken, and left

-- the same goal from here on
abbrev pub anew : Goal → World → Side → Goal
anew γ w x = record γ { base = base_of w x }

abbrev pub with_value : ℕ → World → World
with_value size w = on_store (with_temporary size) w

-- the local behind so many is taken
abbrev pub taken : (i size : ℕ) → World → Side → Side
taken i size w x = record x {
  objs = made (end_local (local_object x.extra i) x.objs) kind.Local (unwritten size);
  work = x.work + 0;
  extra = set x.extra i (Some (length w.store.objects));
  floor = suc i;
}

pub end_long : (l : Option ℕ) (xs : List ObjectT) → length (end_local l xs) ≡ length xs
end_long None xs = refl
end_long (Some o) xs = go xs o
  where
    go : (xs : List ObjectT) (o : ℕ) → length (end_object xs o) ≡ length xs
    go [] o = refl
    go (x ∷ xs) zero = refl
    go (x ∷ xs) (suc o) = ap suc (go xs o)

pub join_one : (xs : List ObjectT) (y : ObjectT) → length (xs ++ y ∷ []) ≡ suc (length xs)
join_one [] y = refl
join_one (x ∷ xs) y = ap suc (join_one xs y)

taken_fit : (i size : ℕ) (w : World) (x : Side) → Fit w x → x.floor ≤ i → Fit (with_value size w) (taken i size w x)
taken_fit i size w x h le = record {
  under = under_join w.store.objects (end_local (local_object x.extra i) x.objs) (object kind.Local (unwritten size)) refl (under_gone_local (local_object x.extra i) w.store.objects x.objs h.under (h.unused i le));
  unused = λ j lt. subst (Gone (w.store.objects ++ object kind.Local (unwritten size) ∷ [])) (sym (set_elsewhere x.extra i j (Some (length w.store.objects)) (λ e. omega (arith, lt, e))))
      (later_gone w.store.objects (w.store.objects ++ object kind.Local (unwritten size) ∷ []) (local_object x.extra j) (later_join w.store.objects (object kind.Local (unwritten size) ∷ [])) (h.unused j (omega (arith, lt, le))));
}

pub taken_now : (γ : Goal) (s i size : ℕ) (w : World) (x : Side) → Now γ s w x → x.floor ≤ i → Now (anew γ (with_value size w) (taken i size w x)) s (with_value size w) (taken i size w x)
taken_now γ s i size w x h le = record {
  stays = stays_here (with_value size w) (taken i size w x) (taken_fit i size w x h.stays.fit le);
  below = h.below;
  cost = omega (arith, h.cost);
}

-- a pointer to it
pub cell_there : (γ : Goal) (q k i size : ℕ) (w : World) (x : Side) (v : World) (y : Side) → k ≡ length w.store.locals + i → i < length x.extra → Now (anew γ (with_value size w) (taken i size w x)) q v y → first_cell (local_object (v.store.locals ++ y.extra) k) ≡ Ok (next_object w.store)
cell_there γ q k i size w x v y at lt n = ap first_cell (local_behind v.store.locals y.extra k i (at ∙ ap (λ l. l + i) (sym n.stays.same_own)) ∙ n.stays.keep i (omega arith) ∙ set_there x.extra i (Some (length w.store.objects)) lt)

-- no longer in use
abbrev pub back_to : ℕ → Side → Side
back_to floor y = record y { floor = floor }

-- ---- a structure that is read

module _ (S : Site) where
  abbrev R : NodesT ℕ → Mid → Res Mid
  R = M S

  abbrev taking : Option ℕ → ℕ → List (Option ℕ) → World → Side → Mid
  taking lo size ls w x = record { world = record { store = record w.store { objects = made (end_local lo x.objs) kind.Local (unwritten size); locals = ls }; events = w.events; work = x.work + 0 }; cells = x.temps; given = x.given }

  pub taken_is : (i size k : ℕ) (c : NodesT ℕ) (w : World) (x : Side) → Fit w x → k ≡ length w.store.locals + i → words_here (sizes_of S.code S.frames) w.store.function k ≡ size → x.floor ≤ i → R (Do (FreshO k) c) (mk w x) ≡ R c (mk (with_value size w) (taken i size w x))
  taken_is i size k c w x h at e le =
      ap (λ lo. R c (taking lo (words_here (sizes_of S.code S.frames) w.store.function k) (set (w.store.locals ++ x.extra) k (Some (length x.objs))) w x)) (local_behind w.store.locals x.extra k i at)
      ∙ ap (λ z. R c (taking (local_object x.extra i) z (set (w.store.locals ++ x.extra) k (Some (length x.objs))) w x)) e
      ∙ ap (λ l. R c (taking (local_object x.extra i) size (set (w.store.locals ++ x.extra) k (Some l)) w x)) (under_length w.store.objects x.objs h.under)
      ∙ ap (λ ls. R c (taking (local_object x.extra i) size ls w x)) (set_behind w.store.locals x.extra k i (Some (length w.store.objects)) at)

  -- the structure at the place in t is copied to a local; what follows has a pointer to that in t
  module _ (γ : Goal) (σ : Way γ) (s t k i size : ℕ) (span : Span) (w : World) (x : Side) (c : NodesT ℕ) (h : Now γ (s + 52) w x) (free : Free γ t) (six : 5 ≤ t) (at : k ≡ length w.store.locals + i) (words : words_here (sizes_of S.code S.frames) w.store.function k ≡ size) (few : size ≤ 2 ^ 32) (le : x.floor ≤ i) (lt : i < length x.extra) where
    abbrev γ1 : Goal
    γ1 = anew γ (with_value size w) (taken i size w x)

    abbrev σ1 : Way γ1
    σ1 = record { R = σ.R; stop = σ.stop; T = σ.T; stops = λ f v m q. σ.stops f v m (kept_wider γ γ1 (omega arith) f v m q) }

    abbrev value_at : Cell
    value_at = Ptr (length w.store.objects) 0

    here : (v : World) (y : Side) (q : ℕ) → Now γ1 q v y → first_cell (local_object (v.store.locals ++ y.extra) k) ≡ Ok value_at
    here v y q n = cell_there γ q k i size w x v y at lt n

    -- what follows the copy
    abbrev Goes : (World → σ.R) → Type 0
    Goes go = (v : World) (y : Side) → Now γ1 (s + 28) v y → y.temps t ≡ value_at → ((j : ℕ) → 5 ≤ j → eqb j t ≡ false → y.temps j ≡ x.temps j) → σ.T (go v) (R c (mk v y))

    abbrev w1 : World
    w1 = with_value size w

    abbrev x1 : Side
    x1 = taken i size w x

    h1 : Now γ1 (s + 52) w1 x1
    h1 = taken_now γ (s + 52) i size w x h le

    -- the pointer to the copy comes to t
    local_set : (T : σ.R → Res Mid → Type 0) (s0 : ℕ) (v : World) (y : Side) (d : NodesT ℕ) → Now γ1 (s0 + 8) v y → (r : σ.R) → ((z : Side) → Now γ1 s0 v z → z.temps t ≡ value_at → Rest t y z → T r (R d (mk v z))) → T r (R (Do (LocalO t k) d) (mk v y))
    local_set T s0 v y d hy r f = sets S T γ1 s0 v y t value_at (LocalO t k) d hy free (ap (λ q. to temporaries t q (spent 8 (mk v y))) (here v y (s0 + 8) hy)) r f

    below_t : (j : ℕ) → j < 5 → eqb j t ≡ false
    below_t j lt = eqb_less j t (omega (arith, lt, six))

    one_copied : (p : Cell) → x.temps t ≡ p → (go : World → σ.R) → Goes go → σ.T (then_went σ.stop (cells_set span 1 S.bound (suc zero) (Some p) value_at w1) go) (R (coded (part.local_filled (suc zero) k t) c) (mk w1 x1))
    one_copied p ep go f =
        let w2 : World = spend 1 w1 in
        cell_first S γ1 span 1 (omega arith) σ1 (s + 52) S.bound zero t p value_at w1 x1 (Do (LocalO t k) (Do (StoreO t part.cell) c)) h1 ep go (λ v y hy at rest.
        local_set σ.T (s + 100) w2 y (Do (StoreO t part.cell) c) (spare γ1 (s + 52 + 56) (s + 100 + 8) w2 y (omega arith) hy) (asked σ.stop span w2 (write w1.store.objects value_at v) (λ os. go (on_store (with_objects os) w2))) (λ z hz ez rest2.
        stores S γ1 σ1 span w2 (s + 92) z t part.cell value_at v c (spare γ1 (s + 100) (s + 92 + 8) w2 z (omega arith) hz) ez (rest2 part.cell (below_t part.cell (omega arith)) ∙ at) go (λ os u hu alike.
        f (on_store (with_objects os) w2) u (spare γ1 (s + 92) (s + 28) (on_store (with_objects os) w2) u (omega arith) hu) (alike t ∙ ez) (λ j five ne. alike j ∙ rest2 j ne ∙ rest j (eqb_more j part.cell (omega (arith, five)))))))

    two_copied : (p : Cell) → x.temps t ≡ p → (go : World → σ.R) → Goes go → σ.T (then_went σ.stop (cells_set span 1 S.bound (suc (suc zero)) (Some p) value_at w1) go) (R (coded (part.local_filled (suc (suc zero)) k t) c) (mk w1 x1))
    two_copied (Ptr o j) ep go f =
        cell_first S γ1 span 1 (omega arith) σ1 (s + 52) S.bound (suc zero) t (Ptr o j) value_at w1 x1 behind h1 ep go (λ v y hy at rest.
        let r : σ.R = asked σ.stop span w2 (write w1.store.objects value_at v) (λ os. turns (on_store (with_objects os) w2)) in
        sets S σ.T γ1 (s + 100) w2 y part.count (Num 1) (ConstO part.count 1) (Do (StepO part.from t part.count) (Do (LocalO t k) (Do (StoreO t part.cell) later))) (spare γ1 (s + 52 + 56) (s + 100 + 8) w2 y (omega arith) hy) (low_free γ1 part.count (omega arith)) refl r (λ z hz ez rest2.
        sets S σ.T γ1 (s + 92) w2 z part.from (further (Ptr o j) 1) (StepO part.from t part.count) (Do (LocalO t k) (Do (StoreO t part.cell) later)) (spare γ1 (s + 100) (s + 92 + 8) w2 z (omega arith) hz) (low_free γ1 part.from (omega arith))
        (ap (λ u. to temporaries part.from u (spent 8 (mk w2 z))) (step_eq (Ptr o j) (Num 1) (z.temps t) (z.temps part.count) (rest2 t (eqb_more t part.count (omega (arith, six))) ∙ rest t (eqb_more t part.cell (omega (arith, six))) ∙ ep) ez)) r (λ b hb eb rest3.
        local_set σ.T (s + 84) w2 b (Do (StoreO t part.cell) later) (spare γ1 (s + 92) (s + 84 + 8) w2 b (omega arith) hb) r (λ d hd ed rest4.
        stores S γ1 σ1 span w2 (s + 76) d t part.cell value_at v later (spare γ1 (s + 84) (s + 76 + 8) w2 d (omega arith) hd) ed (rest4 part.cell (below_t part.cell (omega arith)) ∙ rest3 part.cell refl ∙ rest2 part.cell refl ∙ at) turns (λ os e he alike.
        let w3 : World = on_store (with_objects os) w2 in
        turn_goes S γ1 span 1 (omega arith) σ1 (s + 28) w3 e last (spare γ1 (s + 76) (s + 28 + 48) w3 e (omega arith) he) (alike part.count ∙ rest4 part.count (below_t part.count (omega arith)) ∙ rest3 part.count refl ∙ ez) turn go (λ m g hg rest5.
        word_behind S γ1 span 1 (omega arith) σ1 (s + 28) m o ((j + 1) % 2 ^ 32) t (length w.store.objects) 0 w3 g c hg (omega (arith, six))
        (rest5 part.from refl ∙ alike part.from ∙ rest4 part.from (below_t part.from (omega arith)) ∙ eb)
        (rest5 t (eqb_more t part.count (omega (arith, six))) ∙ alike t ∙ ed) go (λ v2 u hu others.
        f v2 u (spare γ1 (s + 28 + 32) (s + 28) v2 u (omega arith) hu)
        (others t (eqb_more t part.cell (omega (arith, six))) (eqb_more t part.to (omega (arith, six))) (eqb_more t part.one (omega (arith, six))) ∙ rest5 t (eqb_more t part.count (omega (arith, six))) ∙ alike t ∙ ed)
        (λ k five ne. others k (eqb_more k part.cell (omega (arith, five))) (eqb_more k part.to (omega (arith, five))) (eqb_more k part.one (omega (arith, five))) ∙ rest5 k (eqb_more k part.count (omega (arith, five))) ∙ alike k ∙ rest4 k ne ∙ rest3 k (eqb_more k part.from (omega (arith, five))) ∙ rest2 k (eqb_more k part.count (omega (arith, five))) ∙ rest k (eqb_more k part.cell (omega (arith, five)))))))))))
      where
        w2 : World
        w2 = spend 1 w1

        last : NodesT ℕ
        last = Do (LoadO part.cell part.from) (Do (ConstO part.one 1) (Do (StepO part.to t part.one) (Do (StoreO part.to part.cell) c)))

        later : NodesT ℕ
        later = Loop (coded part.ask_turn Stop) last

        behind : NodesT ℕ
        behind = Do (ConstO part.count 1) (Do (StepO part.from t part.count) (Do (LocalO t k) (Do (StoreO t part.cell) later)))

        turn : ℕ → World → Went
        turn m v = cells_set span 1 m (suc zero) (Some (further (Ptr o j) 1)) (further value_at 1) v

        turns : World → σ.R
        turns u = then_went σ.stop (Turns S γ1 span 1 (omega arith) (suc zero) S.bound (Ptr o j) value_at u) go
    two_copied Unwritten ep go f = σ.stops (Stray span) (spend 1 w1) _ (M_grows S (coded (part.local_filled (suc (suc zero)) k t) c) (mk w1 x1))
    two_copied (Num n) ep go f = σ.stops (Stray span) (spend 1 w1) _ (M_grows S (coded (part.local_filled (suc (suc zero)) k t) c) (mk w1 x1))
    two_copied Null ep go f = σ.stops (Stray span) (spend 1 w1) _ (M_grows S (coded (part.local_filled (suc (suc zero)) k t) c) (mk w1 x1))

    filled_copied : (size : ℕ) → size ≤ 2 ^ 32 → (p : Cell) → x.temps t ≡ p → (go : World → σ.R) → Goes go → σ.T (then_went σ.stop (cells_set span 1 S.bound size (Some p) value_at w1) go) (R (coded (part.local_filled size k t) c) (mk w1 x1))
    filled_copied zero few p ep go f = local_set σ.T (s + 44) w1 x1 c (spare γ1 (s + 52) (s + 44 + 8) w1 x1 (omega arith) h1) (go w1) (λ y hy ey rest. f w1 y (spare γ1 (s + 44) (s + 28) w1 y (omega arith) hy) ey (λ j five ne. rest j ne))
    filled_copied (suc zero) few p ep go f = one_copied p ep go f
    filled_copied (suc (suc zero)) few p ep go f = two_copied p ep go f
    filled_copied (suc (suc (suc left))) few p ep go f =
        let many : ℕ = suc (suc (suc left)) in
        let c3 : NodesT ℕ = Do (LocalO t k) c in
        let c2 : NodesT ℕ = coded (part.copied many) c3 in
        let r : σ.R = then_went σ.stop (cells_set span 1 S.bound many (Some p) value_at w1) go in
        sets S σ.T γ1 (s + 44) w1 x1 part.from (x.temps t) (MoveO part.from t) (Do (LocalO part.to k) c2) (spare γ1 (s + 52) (s + 44 + 8) w1 x1 (omega arith) h1) (low_free γ1 part.from (omega arith)) refl r (λ y hy ey rest.
        sets S σ.T γ1 (s + 36) w1 y part.to value_at (LocalO part.to k) c2 (spare γ1 (s + 44) (s + 36 + 8) w1 y (omega arith) hy) (low_free γ1 part.to (omega arith)) (ap (λ q. to temporaries part.to q (spent 8 (mk w1 y))) (here w1 y (s + 44) hy)) r (λ z hz ez rest2.
        copies S γ1 span 1 (omega arith) σ1 (s + 20) many few p value_at w1 z c3 (spare γ1 (s + 36) (s + 20 + 16) w1 z (omega arith) hz) (rest2 part.from refl ∙ ey ∙ ep) ez go (λ v u hu others.
        local_set σ.T (s + 28) v u c (spare γ1 (s + 20 + 16) (s + 28 + 8) v u (omega arith) hu) (go v) (λ b hb eb rest3.
        f v b hb eb (λ j five ne. rest3 j ne ∙ others j five ∙ rest2 j (eqb_more j part.to (omega (arith, five))) ∙ rest j (eqb_more j part.from (omega (arith, five))))))))

    pub structure_copied : (p : Cell) → x.temps t ≡ p → (go : World → σ.R) → ((v : World) (y : Side) → Now γ1 (s + 28) v y → y.temps t ≡ value_at → ((j : ℕ) → 5 ≤ j → eqb j t ≡ false → y.temps j ≡ x.temps j) → σ.T (go v) (R c (mk v y)))
        → σ.T (then_went σ.stop (cells_set span 1 S.bound size (Some p) (next_object w.store) (with_value size w)) go) (R (coded (part.structure_read size k t) c) (mk w x))
    structure_copied p ep go f =
        subst (σ.T (then_went σ.stop (cells_set span 1 S.bound size (Some p) value_at w1) go)) (sym (taken_is i size k (coded (part.local_filled size k t) c) w x h.stays.fit at words le)) (filled_copied size few p ep go f)
