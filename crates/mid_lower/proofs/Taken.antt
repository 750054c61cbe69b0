-- Values that are structures and were not used yet: the objects that they stand in, and those of their locals.
use Rattle.std.proofs.Common.{◌≡◌, ℕ, suc, ◌+◌, ◌*◌, ◌<◌, ◌≤◌, ◌⊎◌, inl, inr, Bool, true, false, eqb, nat_lt, List, [], ◌∷◌, ◌++◌, length, get_or, Option, Some, refl, sym, ap, ◌∙◌, subst, arith}
use Rattle.std.proofs.lemmas.Bool.{ltb-true}
use Rattle.std.proofs.lemmas.Bool.Decides.{nat_tests}
use Rattle.obj_mem.specs.Objects.{ObjectT, object, unwritten, end_object}
use Rattle.obj_mem.specs.declared.cell.Cell.TheVariants.{Ptr}
use Rattle.obj_mem.specs.declared.cell.ObjectKind.TheVariants as kind
use Rattle.obj_mem.specs.Stores.{local_object, words_here, with_objects}
use Rattle.mid_code.specs.States.{sizes_of}
use Rattle.obj_mem.specs.Worlds.{World, on_store}
use Rattle.c_meaning.specs.Cells.{end_temporary}
use Rattle.mid_lower.proofs.Under.{under_end}
use Rattle.mid_lower.proofs.Lives.{Gone, Later, later_then, later_gone, later_end, later_join, end_ends}
use Rattle.mid_lower.proofs.Fits.{Site}
use Rattle.mid_lower.proofs.Trees.{Below}
use Rattle.mid_lower.proofs.Following.{Side, Goal, Fit, Now, stays_here, scratch}
use Rattle.mid_lower.proofs.Room.{Room}
use Rattle.mid_lower.proofs.Locals.{set_length}
use Rattle.mid_lower.proofs.StructureValues.{anew, with_value, taken, back_to, end_long, join_one, set_there, set_elsewhere}

-- one of these objects stands in this local, or what stood there has ended
abbrev pub Mine : (taken : List ℕ) → List ObjectT → Option ℕ → Type 0
Mine [] os l = Gone os l
Mine (o ∷ more) os l = (l ≡ Some o) ⊎ Mine more os l

-- A point on the way at which these objects were taken: locals behind those in use at the beginning, and before `hi`, have them alone.
pub record TakenAll (γ : Goal) (s hi : ℕ) (taken : List ℕ) (w : World) (x : Side) : Type 0 where
  pub fit : Fit w x
  pub same_function : w.store.function ≡ γ.base.function
  pub same_own : length w.store.locals ≡ γ.base.own
  pub later : Later γ.base.objects w.store.objects
  pub over : γ.base.floor ≤ x.floor
  pub most : γ.base.own + x.floor ≤ hi
  pub long : length x.extra ≡ length γ.base.extra
  pub keep : (i : ℕ) → i < γ.base.floor → local_object x.extra i ≡ local_object γ.base.extra i
  pub there : Below (length w.store.objects) taken
  pub mine : (i : ℕ) → γ.base.floor ≤ i → i < x.floor → Mine taken w.store.objects (local_object x.extra i)
  pub below : (j : ℕ) → scratch + γ.skip ≤ j → j < γ.first → eqb j γ.at ≡ false → x.temps j ≡ γ.temps j
  pub cost : x.work + γ.less + s ≤ γ.from + 64 * w.work

-- one was
abbrev pub Taken : (γ : Goal) (s hi o : ℕ) (w : World) (x : Side) → Type 0
Taken γ s hi o w x = TakenAll γ s hi (o ∷ []) w x

not_below : (i n : ℕ) → nat_lt i n ≡ false → n ≤ i
not_below i n e = grind (arith, nat_tests, e)

-- ---- lists of objects

mine_over : (ts : List ℕ) (os : List ObjectT) (l : Option ℕ) → Gone os l → Mine ts os l
mine_over [] os l g = g
mine_over (o ∷ ts) os l g = inr (mine_over ts os l g)

mine_later : (ts : List ℕ) (os os' : List ObjectT) (l l' : Option ℕ) → Later os os' → l' ≡ l → Mine ts os l → Mine ts os' l'
mine_later [] os os' l l' la e g = subst (Gone os') (sym e) (later_gone os os' l la g)
mine_later (o ∷ ts) os os' l l' la e (inl q) = inl (e ∙ q)
mine_later (o ∷ ts) os os' l l' la e (inr m) = inr (mine_later ts os os' l l' la e m)

-- one of them has ended
mine_ended : (ts : List ℕ) (o : ℕ) (us : List ℕ) (os os' : List ObjectT) (l : Option ℕ) → Later os os' → Gone os' (Some o) → Mine (ts ++ o ∷ us) os l → Mine (ts ++ us) os' l
mine_ended [] o us os os' l la at (inl q) = mine_over us os' l (subst (Gone os') (sym q) at)
mine_ended [] o us os os' l la at (inr m) = mine_later us os os' l l la refl m
mine_ended (t ∷ ts) o us os os' l la at (inl q) = inl q
mine_ended (t ∷ ts) o us os os' l la at (inr m) = inr (mine_ended ts o us os os' l la at m)

-- more of them
mine_front : (ts us : List ℕ) (os : List ObjectT) (l : Option ℕ) → Mine ts os l → Mine (ts ++ us) os l
mine_front [] us os l g = mine_over us os l g
mine_front (t ∷ ts) us os l (inl q) = inl q
mine_front (t ∷ ts) us os l (inr m) = inr (mine_front ts us os l m)

mine_behind : (ts us : List ℕ) (os : List ObjectT) (l : Option ℕ) → Mine us os l → Mine (ts ++ us) os l
mine_behind [] us os l m = m
mine_behind (t ∷ ts) us os l m = inr (mine_behind ts us os l m)

below_long : (n k : ℕ) (ts : List ℕ) → n ≤ k → Below n ts → Below k ts
below_long n k [] le b = tt
below_long n k (t ∷ ts) le b = (omega (arith, le, b.0), below_long n k ts le b.1)

below_both : (n : ℕ) (ts us : List ℕ) → Below n ts → Below n us → Below n (ts ++ us)
below_both n [] us b d = d
below_both n (t ∷ ts) us b d = (b.0, below_both n ts us b.1 d)

below_at : (n : ℕ) (ts : List ℕ) (o : ℕ) (us : List ℕ) → Below n (ts ++ o ∷ us) → o < n
below_at n [] o us b = b.0
below_at n (t ∷ ts) o us b = below_at n ts o us b.1

below_without : (n : ℕ) (ts : List ℕ) (o : ℕ) (us : List ℕ) → Below n (ts ++ o ∷ us) → Below n (ts ++ us)
below_without n [] o us b = b.1
below_without n (t ∷ ts) o us b = (b.0, below_without n ts o us b.1)

-- ---- points

-- with less to spare
pub taken_less : (γ : Goal) (s s' hi hi2 : ℕ) (ts : List ℕ) (w : World) (x : Side) → s' ≤ s → hi ≤ hi2 → TakenAll γ s hi ts w x → TakenAll γ s' hi2 ts w x
taken_less γ s s' hi hi2 ts w x few le h = let m = h.most in record { fit = h.fit; same_function = h.same_function; same_own = h.same_own; later = h.later; over = h.over; most = omega (arith, m, le); long = h.long; keep = h.keep; there = h.there; mine = h.mine; below = h.below; cost = omega (arith, h.cost, few) }

-- none was taken yet
pub none_taken : (γ : Goal) (s hi : ℕ) (w : World) (x : Side) → γ.base.own + γ.base.floor ≤ hi → Now γ s w x → TakenAll γ s hi [] w x
none_taken γ s hi w x le h = let fl = h.stays.same_floor in record {
  fit = h.stays.fit;
  same_function = h.stays.same_function;
  same_own = h.stays.same_own;
  later = h.stays.later;
  over = omega (arith, fl);
  most = omega (arith, fl, le);
  long = h.stays.long;
  keep = h.stays.keep;
  there = tt;
  mine = λ i g lt. absurd (omega (arith, g, lt, fl));
  below = h.below;
  cost = h.cost;
}

-- what follows begins anew
pub taken_here : (γ : Goal) (s hi : ℕ) (ts : List ℕ) (w : World) (x : Side) → TakenAll γ s hi ts w x → Now (anew γ w x) s w x
taken_here γ s hi ts w x h = record { stays = stays_here w x h.fit; below = h.below; cost = h.cost }

-- and has them still
pub taken_on : (γ : Goal) (s s' hi : ℕ) (ts : List ℕ) (w : World) (x : Side) (v : World) (y : Side) → TakenAll γ s hi ts w x → Now (anew γ w x) s' v y → TakenAll γ s' hi ts v y
taken_on γ s s' hi ts w x v y h p =
    let fl = p.stays.same_floor in
    record {
      fit = p.stays.fit;
      same_function = p.stays.same_function ∙ h.same_function;
      same_own = p.stays.same_own ∙ h.same_own;
      later = later_then γ.base.objects w.store.objects v.store.objects h.later p.stays.later;
      over = let a = h.over in omega (arith, a, fl);
      most = let a = h.most in omega (arith, a, fl);
      long = p.stays.long ∙ h.long;
      keep = λ i lt. p.stays.keep i (let a = h.over in omega (arith, lt, a)) ∙ h.keep i lt;
      there = below_long (length w.store.objects) (length v.store.objects) ts p.stays.later.longer h.there;
      mine = λ i g lt. mine_later ts w.store.objects v.store.objects (local_object x.extra i) (local_object y.extra i) p.stays.later (p.stays.keep i (omega (arith, lt, fl))) (h.mine i g (omega (arith, lt, fl)));
      below = p.below;
      cost = p.cost;
    }

-- what follows takes more
pub taken_more : (γ : Goal) (s s' hi hi2 : ℕ) (ts us : List ℕ) (w : World) (x : Side) (v : World) (y : Side) → TakenAll γ s hi ts w x → TakenAll (anew γ w x) s' hi2 us v y → TakenAll γ s' hi2 (ts ++ us) v y
taken_more γ s s' hi hi2 ts us w x v y h p =
    record {
      fit = p.fit;
      same_function = p.same_function ∙ h.same_function;
      same_own = p.same_own ∙ h.same_own;
      later = later_then γ.base.objects w.store.objects v.store.objects h.later p.later;
      over = let a = h.over in let b = p.over in omega (arith, a, b);
      most = let a = p.most in let e = h.same_own in omega (arith, a, e);
      long = p.long ∙ h.long;
      keep = λ i lt. p.keep i (let a = h.over in omega (arith, lt, a)) ∙ h.keep i lt;
      there = below_both (length v.store.objects) ts us (below_long (length w.store.objects) (length v.store.objects) ts p.later.longer h.there) p.there;
      mine = λ i g lt. either i g lt (nat_lt i x.floor) refl;
      below = p.below;
      cost = p.cost;
    }
  where
    either : (i : ℕ) → γ.base.floor ≤ i → i < y.floor → (b : Bool) → nat_lt i x.floor ≡ b → Mine (ts ++ us) v.store.objects (local_object y.extra i)
    either i g lt true e =
        let lx : i < x.floor = ltb-true i x.floor e in
        mine_front ts us v.store.objects (local_object y.extra i) (mine_later ts w.store.objects v.store.objects (local_object x.extra i) (local_object y.extra i) p.later (p.keep i lx) (h.mine i g lx))
    either i g lt false e = mine_behind ts us v.store.objects (local_object y.extra i) (p.mine i (not_below i x.floor e) lt)

-- one of them has ended
pub taken_ended : (γ : Goal) (s hi : ℕ) (ts : List ℕ) (o : ℕ) (us : List ℕ) (w : World) (x : Side) → TakenAll γ s hi (ts ++ o ∷ us) w x → TakenAll γ s hi (ts ++ us) (on_store (with_objects (end_object w.store.objects o)) w) x
taken_ended γ s hi ts o us w x h =
    let os : List ObjectT = w.store.objects in
    let later : Later os (end_object os o) = later_end os o in
    let long : length (end_object os o) ≡ length os = end_long (Some o) os in
    let at : o < length os = below_at (length os) ts o us h.there in
    record {
      fit = record { under = under_end os x.objs o h.fit.under; unused = λ i g. later_gone os (end_object os o) (local_object x.extra i) later (h.fit.unused i g) };
      same_function = h.same_function;
      same_own = h.same_own;
      later = later_then γ.base.objects os (end_object os o) h.later later;
      over = h.over;
      most = h.most;
      long = h.long;
      keep = h.keep;
      there = below_long (length os) (length (end_object os o)) (ts ++ us) (omega (arith, long)) (below_without (length os) ts o us h.there);
      mine = λ i g lt. mine_ended ts o us os (end_object os o) (local_object x.extra i) later (omega (arith, long, at), end_ends os o) (h.mine i g lt);
      below = h.below;
      cost = h.cost;
    }

-- all were used
pub none_left : (γ : Goal) (s hi : ℕ) (w : World) (x : Side) → TakenAll γ s hi [] w x → Now γ s w (back_to γ.base.floor x)
none_left γ s hi w x h =
    record {
      stays = record {
        fit = record { under = h.fit.under; unused = λ i g. free i g (nat_lt i x.floor) refl };
        same_function = h.same_function;
        same_own = h.same_own;
        later = h.later;
        same_floor = refl;
        long = h.long;
        keep = h.keep;
      };
      below = h.below;
      cost = h.cost;
    }
  where
    free : (i : ℕ) → γ.base.floor ≤ i → (b : Bool) → nat_lt i x.floor ≡ b → Gone w.store.objects (local_object x.extra i)
    free i g true e = h.mine i g (ltb-true i x.floor e)
    free i g false e = h.fit.unused i (not_below i x.floor e)

-- the one was used
pub taken_left : (γ : Goal) (s hi o j : ℕ) (w : World) (x : Side) → Taken γ s hi o w x → Now γ s (on_store (end_temporary (Ptr o j)) w) (back_to γ.base.floor x)
taken_left γ s hi o j w x h = none_left γ s hi (on_store (end_temporary (Ptr o j)) w) x (taken_ended γ s hi [] o [] w x h)

-- a structure that was copied to a local has its object
pub taken_of : (γ : Goal) (s s' hi i size : ℕ) (w : World) (x : Side) (v : World) (y : Side) → Now γ s w x → x.floor ≤ i → i < length x.extra → γ.base.own + suc i ≤ hi → Now (anew γ (with_value size w) (taken i size w x)) s' v y → Taken γ s' hi (length w.store.objects) v y
taken_of γ s s' hi i size w x v y h le lt most p =
    let o : ℕ = length w.store.objects in
    let w1 : World = with_value size w in
    let fl = p.stays.same_floor in
    let fh = h.stays.same_floor in
    let before : Later w.store.objects v.store.objects = later_then w.store.objects w1.store.objects v.store.objects (later_join w.store.objects (object kind.Local (unwritten size) ∷ [])) p.stays.later in
    record {
      fit = p.stays.fit;
      same_function = p.stays.same_function ∙ h.stays.same_function;
      same_own = p.stays.same_own ∙ h.stays.same_own;
      later = later_then γ.base.objects w.store.objects v.store.objects h.stays.later before;
      over = omega (arith, fl, fh, le);
      most = omega (arith, fl, most);
      long = p.stays.long ∙ set_length x.extra i (Some o) ∙ h.stays.long;
      keep = λ k g. p.stays.keep k (omega (arith, g, fh, le)) ∙ set_elsewhere x.extra i k (Some o) (λ e. omega (arith, g, fh, le, e)) ∙ h.stays.keep k g;
      there = let l = p.stays.later.longer in let m = join_one w.store.objects (object kind.Local (unwritten size)) in (omega (arith, l, m), tt);
      mine = λ k g k_less. its k (omega (arith, g, fh)) (omega (arith, k_less, fl)) (nat_lt k i) refl before;
      below = p.below;
      cost = p.cost;
    }
  where
    its : (k : ℕ) → x.floor ≤ k → k < suc i → (b : Bool) → nat_lt k i ≡ b → Later w.store.objects v.store.objects → Mine (length w.store.objects ∷ []) v.store.objects (local_object y.extra k)
    its k g k_less true e before =
        let lk : k < i = ltb-true k i e in
        inr (subst (Gone v.store.objects) (sym (p.stays.keep k k_less ∙ set_elsewhere x.extra i k (Some (length w.store.objects)) (λ q. omega (arith, lk, q))))
        (later_gone w.store.objects v.store.objects (local_object x.extra k) before (h.stays.fit.unused k g)))
    its k g k_less false e before =
        let ge : i ≤ k = not_below k i e in
        let same : k ≡ i = omega (arith, ge, k_less) in
        inl (ap (λ q. local_object y.extra q) same ∙ p.stays.keep i (omega arith) ∙ set_there x.extra i (Some (length w.store.objects)) lt)

-- the locals that are there for what follows
pub taken_room : (S : Site) (γ : Goal) (s hi m : ℕ) (ts zs : List ℕ) (w : World) (x : Side) → TakenAll γ s hi ts w x → hi ≤ m → Room S γ.base m zs → Room S (anew γ w x).base m zs
taken_room S γ s hi m ts zs w x h le r =
    let eo = h.same_own in
    let el = h.long in
    let most = h.most in
    let fits = r.fits in
    record {
      free = omega (arith, eo, most, le);
      fits = omega (arith, fits, eo, el);
      words = λ j lt. subst (λ f. words_here (sizes_of S.code S.frames) f (m + j) ≡ get_or zs j 0) (sym h.same_function) (r.words j lt);
    }
