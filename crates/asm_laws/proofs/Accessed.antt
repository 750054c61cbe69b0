-- The machine does an access at an address that nothing else asks for in one go with the operations that work it out, and holds what is live behind it.
use Rattle.std.proofs.Common.{◌≡◌, ◌≢◌, ℕ, zero, suc, ◌<◌, inl, inr, Bool, true, false, List, [], ◌∷◌, ◌++◌, Option, Some, None, refl, sym, ap, ◌∙◌, subst, arith, append-nil}
use Rattle.std.specs.Prelude.{◌==◌, ◌&&◌, ◌||◌, not}
use Rattle.std.proofs.lemmas.Bool.{eqb-true, eqb-false, eq-eqb}
use Rattle.kit_base.specs.Word.{add}
use Rattle.v32_isa.specs.State as machine
use Rattle.v32_isa.specs.State.{written}
use Rattle.v32_isa.specs.Runs as runs
use Rattle.v32_isa.proofs.Steps.{Reaches, reaches_here, nested_none}
use Rattle.asm_items.specs.declared.item.AsmItem.TheVariants as item
use Rattle.obj_mem.specs.Runs.{Halted, Fault, Starved, Stray, Deep, OutOfBound}
use Rattle.mid_code.specs.declared.placed.Where.{Where}
use Rattle.mid_code.specs.declared.placed.Where.TheVariants.{Reg, Slot}
use Rattle.mid_code.specs.Code.{NodesT, Stop, Do, Call, Choose, Block, Loop, Leave, Again, Return, OpT, ConstO, LocalO, StepO, LoadO, StoreO, uses}
use Rattle.mid_code.specs.Invariants.{AllOf}
use Rattle.mid_code.specs.Meaning.{Did, On, Ends}
use Rattle.mid_code.specs.States.{State, spent, op_weight, registers_and_slots, acted}
use Rattle.asm_laws.specs.declared.access.Base.{Base}
use Rattle.asm_laws.specs.declared.access.Base.TheVariants.{Local, Place}
use Rattle.asm_laws.specs.declared.access.Address.{Address}
use Rattle.asm_laws.specs.declared.access.Transfer.{Transfer}
use Rattle.asm_laws.specs.declared.access.Transfer.TheVariants.{Load, Store}
use Rattle.asm_laws.specs.Live.{is_place, live_soon, ahead}
use Rattle.asm_laws.specs.Accesses.{is_free, is_left, left_or_none, are_left, takes_two, accessed}
use Rattle.asm_laws.specs.Spare.{Stays}
use Rattle.asm_laws.specs.Operations.{Frame, before_it, access_item}
use Rattle.asm_laws.specs.Standing.{Stand}
use Rattle.asm_laws.specs.inner.Following.{Begin, begin, DidBy, did_then, front_acts}
use Rattle.asm_laws.specs.Addresses.{Addr, Does, Console, readable, writable, word_of, local_address, store, put, having, Room, Good, loaded, saved, HasEnded, Held, Follows, does}
use Rattle.asm_laws.specs.Addresses as words
use Rattle.asm_laws.specs.Holds.{Setting, sizes, Fits, Ctx}
use Rattle.asm_laws.specs.Acting.{Holds, DoesAs, Fitting, FrontFits}
use Rattle.asm_laws.specs.Calling.{Mach, Like, lang, holder}
use Rattle.asm_laws.proofs.Stepping.{same_or_not, written_same, written_other, took, kept, same_word}
use Rattle.asm_laws.proofs.Hands.{with_reg}
use Rattle.asm_laws.proofs.Alongside.{written_alike}
use Rattle.asm_laws.proofs.Spared.{FrontStays}
use Rattle.asm_laws.proofs.First.{good, room}
use Rattle.asm_laws.proofs.Ops.{acts}
use Rattle.asm_laws.proofs.Parts.{stopped, passes_by, none_more}
use Rattle.asm_laws.proofs.PutBack.{keeps}
use Rattle.asm_laws.proofs.LiveParts.{behind_front}
use Rattle.asm_laws.proofs.AccessForms.{Transfers, Told, local_one, place_two, local_three, accessed_case}
use Rattle.asm_laws.proofs.AccessStep.{accessed_at, access_does, GoodBase, access_follows}

both : (p q : Bool) → p && q ≡ true → (p ≡ true) × (q ≡ true)
both true q e = (refl, e)
both false q e = absurd cc

apart_from : (r t : ℕ) → r ≢ t → (r == t) ≡ false
apart_from r t ne = elim (same_or_not r t) [ inl z ↦ absurd (ne z.0) | inr z ↦ z.1 ]

-- ---- what is done at an address

-- it goes on, or the run ends
abbrev outcome : Bool → runs.End → List ℕ → Addr → Does
outcome true how xs c = words.Goes [] xs c
outcome false how xs c = words.Ends how

abbrev is_fine : Console → Transfer → ℕ → Bool
is_fine C (Load v) q = readable C q
is_fine C (Store y) q = writable C q

abbrev fault_at : Transfer → runs.End
fault_at (Load v) = runs.Fault 0
fault_at (Store y) = runs.Fault 1

-- what is changed, with words that are read of b
abbrev changed : Frame → Transfer → ℕ → (b : Addr) → Addr → Addr
changed F (Load v) q b c = with_reg v (b.memory q) c
changed F (Store y) q b c = store q (word_of F y b) c

load_outcome : (F : Frame) (ok : Bool) (v y : ℕ) (xs : List ℕ) (c : Addr) → loaded ok F (Reg v) y xs c ≡ outcome ok (runs.Fault 0) xs (with_reg v y c)
load_outcome F true v y xs c = refl
load_outcome F false v y xs c = refl

store_outcome : (ok : Bool) (q y : ℕ) (xs : List ℕ) (c : Addr) → saved ok q y xs c ≡ outcome ok (runs.Fault 1) xs (store q y c)
store_outcome true q y xs c = refl
store_outcome false q y xs c = refl

does_outcome : (C : Console) (F : Frame) (x : Transfer) (q : ℕ) (xs : List ℕ) (c : Addr) → access_does C F x q xs c ≡ outcome (is_fine C x q) (fault_at x) xs (changed F x q c c)
does_outcome C F (Load v) q xs c = load_outcome F (readable C q) v (c.memory q) xs c
does_outcome C F (Store y) q xs c = store_outcome (writable C q) q (word_of F y c) xs c

-- the register that takes the word is not the one
abbrev Skips : Transfer → ℕ → Type 0
Skips (Load v) r = r ≢ v
Skips (Store y) r = Unit {0}

-- the same memory, and words that are read
abbrev SameWord : Frame → Transfer → (b c : Addr) → Type 0
SameWord F (Load v) b c = Unit {0}
SameWord F (Store y) b c = word_of F y c ≡ word_of F y b

-- none of the registers that an address is worked out in
abbrev OtherThan : Option ℕ → ℕ → Type 0
OtherThan None r = Unit {0}
OtherThan (Some q) r = r ≢ q

abbrev Apart : Address → ℕ → Type 0
Apart y r = (r ≢ y.into) × OtherThan y.number r × OtherThan y.local r

module _ (C : Console) (address : List ℕ → ℕ) (F : Frame) where
  -- the machine may have another word in a register where the run has ended
  ended_with : (n t v : ℕ) (f : ℕ → ℕ) (s : machine.State) (xs : List ℕ) (how : runs.End) (a : Addr) → t < 9 → HasEnded C n s xs how (having f a) → HasEnded C n s xs how (having (written f t v) a)
  ended_with n t v f s xs how a lt e =
      let u = took C 0 t v e.shown in
      let h = kept C (having f a) e.shown 0 t v (omega (arith, lt)) e.held in
      record { steps = e.steps; to = e.to; by = e.by; nested = e.nested; shown = u; held = h; memory = λ q. e.memory q ∙ same_word C (having f a) (having (written f t v) a) e.shown u e.held h (λ r. refl) q; few = e.few }

module _ (S : Setting) (fits : Fits S) where
  abbrev C : Console
  C = S.console

  abbrev Of : Ctx → Frame
  Of κ = S.whole.frames κ.fn

  module _ (κ : Ctx) (J : ℕ → Bool) where
    abbrev N : ℕ
    N = (S.whole.frames κ.fn).registers

    abbrev R : State Where → machine.State → Type 0
    R = Like J (Mach S κ)

    -- the last operation: what the machine does to its words, in all registers that are asked for
    last_like : (p w : ℕ) (o : OpT Where) (s : State Where) (m : machine.State) (a : Addr) (registers g later : ℕ → ℕ) (ok : Bool) (how : runs.End) (f : Addr → Addr) → Fitting S κ.fn o → Holds S κ s (having g a) → op_weight o ≡ w →
        does C S.address S.whole (S.whole.frames κ.fn) o s.world.store.answers (having g a) ≡ outcome ok how s.world.store.answers (f (having g a)) →
        Follows C w m s.world.store.answers p (having registers a) (outcome ok how s.world.store.answers (f (having registers a))) →
        having (f (having registers a)).regs (f (having g a)) ≡ f (having registers a) → ((r : ℕ) → r < (S.whole.frames κ.fn).registers → J r ≡ true → (f (having registers a)).regs r ≡ (f (having g a)).regs r) →
        ((r : ℕ) → r < (S.whole.frames κ.fn).registers → later r ≡ g r) → ((e : runs.End) → HasEnded C w m s.world.store.answers e (having registers a) → HasEnded C w m s.world.store.answers e (having later a)) →
        DidBy (holder S) m (begin (holder S) s) p (Like J (Mach S κ)) ((lang S).act o s)
    last_like p w o s m a registers g later ok how f fit h weight is fo same agree like lift =
        let s1 = spent (op_weight o) s in
        subst (λ k. DidBy (holder S) m (begin (holder S) s) p (Like J (Mach S κ)) (acted registers_and_slots (sizes S) o (spent k s))) (sym weight)
        (go (acted registers_and_slots (sizes S) o (spent w s)) ok fo (subst (λ e. DoesAs S κ (spent w s) (having g a) (acted registers_and_slots (sizes S) o (spent w s)) e) is (acts S fits κ (spent w s) h.place (having g a) h.at o fit)))
      where
        go : (d : Did (State Where)) (ok : Bool) → Follows C w m s.world.store.answers p (having registers a) (outcome ok how s.world.store.answers (f (having registers a))) → DoesAs S κ (spent w s) (having g a) d (outcome ok how s.world.store.answers (f (having g a))) →
            DidBy (holder S) m (begin (holder S) s) p (Like J (Mach S κ)) d
        go (On t) true fo k = record {
          steps = fo.steps;
          made = [];
          to = fo.to;
          by = subst (λ xs. Reaches fo.steps m s.world.store.answers [] fo.to xs) k.answers fo.by;
          at = fo.at;
          held = keeps S κ J t k.holds.place (f (having g a)) (f (having registers a)).regs fo.to k.holds.at agree (subst (λ z. Held C z fo.to) (sym same) fo.held);
          events = k.events;
          cost = let n = k.work in let few = fo.few in omega (arith, n, few);
          many = omega arith;
        }
        go (On t) false fo k = absurd k
        go (Ends Stray t) ok fo k = λ n. record { steps = 0; made = []; to = m; left = s.world.store.answers; by = (reaches_here m s.world.store.answers).runs; nested = λ ls. nested_none ls m s.world.store.answers; events = k.0 ∙ sym (append-nil s.world.events); cost = let z = k.1 in omega (arith, z); many = omega arith }
        go (Ends Halted t) true fo k = absurd k
        go (Ends Halted t) false fo k = λ n. stopped S fits κ s t m (having g a) later w Halted how runs.Halted like k.same k.holds k.events k.work (lift how fo)
        go (Ends (Fault i) t) true fo k = absurd k
        go (Ends (Fault i) t) false fo k = λ n. stopped S fits κ s t m (having g a) later w (Fault i) how (runs.Fault i) like k.same k.holds k.events k.work (lift how fo)
        go (Ends Starved t) true fo k = absurd k
        go (Ends Starved t) false fo k = λ n. stopped S fits κ s t m (having g a) later w Starved how runs.Starved like k.same k.holds k.events k.work (lift how fo)
        go (Ends Deep t) true fo k = absurd k
        go (Ends Deep t) false fo k = absurd k.same
        go (Ends OutOfBound t) true fo k = absurd k
        go (Ends OutOfBound t) false fo k = absurd k.same

    alone_by : (m : machine.State) (b : Begin) (p : ℕ) (c : NodesT Where) (d : Did (State Where)) → DidBy (holder S) m b p (Like J (Mach S κ)) d → DidBy (holder S) m b p (Like J (Mach S κ)) (did_then d (front_acts (lang S) c zero))
    alone_by m b p c (On t) f = subst (λ r. DidBy (holder S) m b p (Like J (Mach S κ)) r) (sym (none_more S fits c t)) f
    alone_by m b p c (Ends g t) f = f

    -- an operation that the machine does not do by itself
    op_passes : (p : ℕ) (o : OpT Where) (s : State Where) (m : machine.State) (a b : Addr) (go : State Where → Did (State Where)) → Fitting S κ.fn o → Holds S κ s a → does C S.address S.whole (S.whole.frames κ.fn) o s.world.store.answers a ≡ words.Goes [] s.world.store.answers b →
        ((t : State Where) → Holds S κ t b → DidBy (holder S) m (begin (holder S) t) p (Like J (Mach S κ)) (go t)) → DidBy (holder S) m (begin (holder S) s) p (Like J (Mach S κ)) (did_then ((lang S).act o s) go)
    op_passes p o s m a b go fit h is f =
        let s1 = spent (op_weight o) s in
        passes_by S fits κ (Like J (Mach S κ)) s m a b (op_weight o) p (acted registers_and_slots (sizes S) o s1) go (subst (λ d. DoesAs S κ s1 a (acted registers_and_slots (sizes S) o s1) d) is (acts S fits κ s1 h.place a h.at o fit)) f

  module _ (κ : Ctx) (d : NodesT Where) where
    abbrev H : List Bool
    H = (S.whole.frames κ.fn).lasting

    abbrev Asked : ℕ → Bool
    Asked = live_soon ahead (S.whole.frames κ.fn).lasting d

    not_free : (q r : ℕ) → r ≡ q → live_soon ahead (S.whole.frames κ.fn).lasting d r ≡ true → is_free (S.whole.frames κ.fn).lasting d q ≡ false
    unfolding is_free
    not_free q r e j = ap (λ z. not (live_soon ahead (S.whole.frames κ.fn).lasting d z)) (sym e) ∙ ap not j

    left_other : (x : Transfer) (q r : ℕ) → is_left (S.whole.frames κ.fn).lasting x d q ≡ true → live_soon ahead (S.whole.frames κ.fn).lasting d r ≡ true → Skips x r → r ≢ q
    left_other (Load v) q r left j skips e = skips (e ∙ eqb-true q v (or_none (q == v) (ap (λ z. (q == v) || z) (sym (not_free q r e j)) ∙ left)))
      where
        or_none : (b : Bool) → b || false ≡ true → b ≡ true
        or_none true i = refl
        or_none false i = i
    left_other (Store y) q r left j skips e = let i = (both (not (is_place y q)) (is_free H d q) left).1 in let n = sym i ∙ not_free q r e j in absurd cc

    stored_other : (q t : ℕ) → is_left (S.whole.frames κ.fn).lasting (Store (Reg q)) d t ≡ true → q ≢ t
    stored_other q t left e = let i = (both (not (q == t)) (is_free H d t) left).0 in let n = sym i ∙ ap not (eq-eqb q t e) in absurd cc

    or_other : (x : Transfer) (r : ℕ) (q : Option ℕ) → ((q : ℕ) → is_left (S.whole.frames κ.fn).lasting x d q ≡ true → r ≢ q) → left_or_none (S.whole.frames κ.fn).lasting x d q ≡ true → OtherThan q r
    or_other x r None f e = tt
    or_other x r (Some q) f e = f q e

    all_apart : (x : Transfer) (y : Address) (r : ℕ) → ((q : ℕ) → is_left (S.whole.frames κ.fn).lasting x d q ≡ true → r ≢ q) → are_left (S.whole.frames κ.fn).lasting x d y ≡ true → Apart y r
    all_apart x y r f e =
        let w = both (is_left H x d y.into) (left_or_none H x d y.number && left_or_none H x d y.local) e in
        let v = both (left_or_none H x d y.number) (left_or_none H x d y.local) w.1 in
        (f y.into w.0, or_other x r y.number f v.0, or_other x r y.local f v.1)

    -- where operations have worked out an address
    record Worked (y : Address) (a : Addr) (registers g later : ℕ → ℕ) : Type 0 where
      at : g y.into ≡ accessed_at (S.whole.frames κ.fn) y.base y.offset (having registers a)
      same : (r : ℕ) → Apart y r → g r ≡ a.regs r
      like : (r : ℕ) → r < (S.whole.frames κ.fn).registers → later r ≡ g r
      lift : (n : ℕ) (m : machine.State) (xs : List ℕ) (e : runs.End) → HasEnded C n m xs e (having registers a) → HasEnded C n m xs e (having later a)

    module _ (pc p : ℕ) (a : Addr) (registers : ℕ → ℕ) (alike : (r : ℕ) → r < (S.whole.frames κ.fn).registers → registers r ≡ a.regs r) (roomy : Room (S.whole.frames κ.fn) (having registers a)) (m : machine.State) (e : m.counter ≡ pc) (held : Held S.console (having registers a) m) where
      abbrev F : Frame
      F = S.whole.frames κ.fn

      abbrev b : Addr
      b = having registers a

      load_like : (y : Address) (v : ℕ) (s : State Where) (g later : ℕ → ℕ) → are_left (S.whole.frames κ.fn).lasting (Load v) d y ≡ true → Fitting S κ.fn (LoadO (Reg v) (Reg y.into)) → Holds S κ s (having g a) → Worked y a registers g later →
          Follows C 8 m s.world.store.answers p (having registers a) (access_does C (S.whole.frames κ.fn) (Load v) (accessed_at (S.whole.frames κ.fn) y.base y.offset (having registers a)) s.world.store.answers (having registers a)) →
          DidBy (holder S) m (begin (holder S) s) p (Like (live_soon ahead (S.whole.frames κ.fn).lasting d) (Mach S κ)) ((lang S).act (LoadO (Reg v) (Reg y.into)) s)
      unfolding does
      load_like y v s g later left fit h w f =
          let xs = s.world.store.answers in
          let A = accessed_at F y.base y.offset b in
          let Y = a.memory A in
          last_like κ Asked p 8 (LoadO (Reg v) (Reg y.into)) s m a registers g later (readable C A) (runs.Fault 0) (λ c. with_reg v Y c) fit h refl
          (ap (λ z. loaded (readable C z) F (Reg v) (a.memory z) xs (having g a)) w.at ∙ load_outcome F (readable C A) v Y xs (having g a))
          (subst (λ z. Follows C 8 m xs p b z) (load_outcome F (readable C A) v Y xs b) f) refl
          (λ r lt j. elim (same_or_not r v) [
            | inl i ↦ written_same registers v Y r i.0 ∙ sym (written_same g v Y r i.0)
            | inr i ↦ written_other registers v Y r i.0 ∙ alike r lt ∙ sym (w.same r (all_apart (Load v) y r (λ q l. left_other (Load v) q r l j i.0) left)) ∙ sym (written_other g v Y r i.0)
          ]) w.like (λ how k. w.lift 8 m xs how k)

      stored_word : (y : Address) (x : Where) (g later : ℕ → ℕ) → are_left (S.whole.frames κ.fn).lasting (Store x) d y ≡ true → Stays (S.whole.frames κ.fn).registers x → Worked y a registers g later → word_of (S.whole.frames κ.fn) x (having g a) ≡ word_of (S.whole.frames κ.fn) x (having registers a)
      stored_word y (Reg q) g later left stays w = w.same q (all_apart (Store (Reg q)) y q (λ t l. stored_other q t l) left) ∙ sym (alike q stays)
      stored_word y (Slot j) g later left stays w = refl

      store_like : (y : Address) (x : Where) (s : State Where) (g later : ℕ → ℕ) → are_left (S.whole.frames κ.fn).lasting (Store x) d y ≡ true → Fitting S κ.fn (StoreO (Reg y.into) x) → Stays (S.whole.frames κ.fn).registers x → Holds S κ s (having g a) → Worked y a registers g later →
          Follows C 8 m s.world.store.answers p (having registers a) (access_does C (S.whole.frames κ.fn) (Store x) (accessed_at (S.whole.frames κ.fn) y.base y.offset (having registers a)) s.world.store.answers (having registers a)) →
          DidBy (holder S) m (begin (holder S) s) p (Like (live_soon ahead (S.whole.frames κ.fn).lasting d) (Mach S κ)) ((lang S).act (StoreO (Reg y.into) x) s)
      unfolding does
      store_like y x s g later left fit stays h w f =
          let xs = s.world.store.answers in
          let A = accessed_at F y.base y.offset b in
          let V = word_of F x b in
          last_like κ Asked p 8 (StoreO (Reg y.into) x) s m a registers g later (writable C A) (runs.Fault 1) (λ c. store A V c) fit h refl
          ((λ i. saved (writable C (w.at i)) (w.at i) (stored_word y x g later left stays w i) xs (having g a)) ∙ store_outcome (writable C A) A V xs (having g a))
          (subst (λ z. Follows C 8 m xs p b z) (store_outcome (writable C A) A V xs b) f) refl
          (λ r lt j. alike r lt ∙ sym (w.same r (all_apart (Store x) y r (λ q l. left_other (Store x) q r l j tt) left))) w.like (λ how k. w.lift 8 m xs how k)

      access_like : (y : Address) (x : Transfer) (last : OpT Where) (s : State Where) (g later : ℕ → ℕ) → Transfers y.into last x → takes_two y.base x ≡ false → are_left (S.whole.frames κ.fn).lasting x d y ≡ true → GoodBase (S.whole.frames κ.fn) y.base → Fitting S κ.fn last → AllOf (Stays (S.whole.frames κ.fn).registers) (uses last) →
          Stand C.words S.address pc (before_it (access_item (S.whole.frames κ.fn) y.base y.offset x).0 ++ item.Op (access_item (S.whole.frames κ.fn) y.base y.offset x).1 ∷ []) p → Holds S κ s (having g a) → Worked y a registers g later →
          DidBy (holder S) m (begin (holder S) s) p (Like (live_soon ahead (S.whole.frames κ.fn).lasting d) (Mach S κ)) ((lang S).act last s)
      access_like y (Load v) last s g later i two left gb fit stays st h w =
          let fits1 = subst (Fitting S κ.fn) i fit in
          subst (λ o. DidBy (holder S) m (begin (holder S) s) p (Like (live_soon ahead (S.whole.frames κ.fn).lasting d) (Mach S κ)) ((lang S).act o s)) (sym i)
          (load_like y v s g later left fits1 h w (access_follows C S.address F b roomy y.base y.offset (Load v) m s.world.store.answers pc p gb fits1.0 two held e st))
      access_like y (Store x) last s g later i two left gb fit stays st h w =
          let fits1 = subst (Fitting S κ.fn) i fit in
          let stays1 = subst (λ o. AllOf (Stays F.registers) (uses o)) i stays in
          subst (λ o. DidBy (holder S) m (begin (holder S) s) p (Like (live_soon ahead (S.whole.frames κ.fn).lasting d) (Mach S κ)) ((lang S).act o s)) (sym i)
          (store_like y x s g later left fits1 stays1.1.0 h w (access_follows C S.address F b roomy y.base y.offset (Store x) m s.world.store.answers pc p gb (good S fits κ x fits1.1) two held e st))

  -- ---- the three forms

  module _ (κ : Ctx) (pc p : ℕ) (s : State Where) (m : machine.State) (e : m.counter ≡ pc) (h : Mach S κ s m) where
    abbrev Fr : Frame
    Fr = S.whole.frames κ.fn

    abbrev a : Addr
    a = h.words

    abbrev roomy_at : Room (S.whole.frames κ.fn) (having h.registers h.words)
    roomy_at = let r = room S fits κ s.world.store s.cells h.place h.words h.at in record { top = r.top; low = r.low; high = r.high }

    -- the same registers with one more word
    more_like : (f g : ℕ → ℕ) (t v : ℕ) → ((r : ℕ) → r < (S.whole.frames κ.fn).registers → f r ≡ g r) → (r : ℕ) → r < (S.whole.frames κ.fn).registers → written f t v r ≡ written g t v r
    more_like f g t v same r lt = written_alike C S.address S.whole Fr Fr.registers (having g h.words) f same t v r lt

    Items : Base → ℕ → Transfer → Type 0
    Items b n x = Stand C.words S.address pc (before_it (access_item (S.whole.frames κ.fn) b n x).0 ++ item.Op (access_item (S.whole.frames κ.fn) b n x).1 ∷ []) p

    Done : NodesT Where → OpT Where → NodesT Where → ℕ → Type 0
    Done d o c k = DidBy (holder S) m (begin (holder S) s) p (Like (live_soon ahead (S.whole.frames κ.fn).lasting d) (Mach S κ)) (did_then ((lang S).act o s) (front_acts (lang S) c k))

    one_done : (t l : ℕ) (last : OpT Where) (d : NodesT Where) (x : Transfer) → Transfers t last x → Told (S.whole.frames κ.fn).lasting (Local l) (local_one t l) x d → Fitting S κ.fn (LocalO (Reg t) l) → FrontFits S κ.fn (Do last d) 1 → FrontStays (S.whole.frames κ.fn).registers (Do (LocalO (Reg t) l) (Do last d)) 2 →
        Items (Local l) 0 x → Done d (LocalO (Reg t) l) (Do last d) 1
    unfolding does Items Done
    one_done t l last d x i told fit ff stays st =
        let L = local_address Fr l a in
        let J = live_soon ahead Fr.lasting d in
        op_passes κ J p (LocalO (Reg t) l) s m a (with_reg t L a) (front_acts (lang S) (Do last d) 1) fit (record { place = h.place; at = h.at }) refl
        (λ t1 h1. alone_by κ J m (begin (holder S) t1) p d ((lang S).act last t1)
        (access_like κ d pc p a h.registers h.like roomy_at m e h.held (local_one t l) x last t1 (written a.regs t L) (written h.registers t L) i told.0 told.1 fit.2 ff.0 stays.1.0 st h1
        (record {
          at = written_same a.regs t L t refl ∙ whole;
          same = λ r apart. written_other a.regs t L r apart.0;
          like = more_like h.registers a.regs t L h.like;
          lift = λ n u xs end f. ended_with C S.address Fr n t L h.registers u xs end a fit.0 f;
        })))
      where
        whole : local_address (S.whole.frames κ.fn) l h.words ≡ add (local_address (S.whole.frames κ.fn) l h.words) 0
        whole = let r = roomy_at.high in omega (arith, r)

    two_done : (r n u : ℕ) (q : Where) (last : OpT Where) (d : NodesT Where) (x : Transfer) → is_place q r ≡ false → Transfers u last x → Told (S.whole.frames κ.fn).lasting (Place q) (place_two r n u q) x d → Fitting S κ.fn (ConstO (Reg r) n) → FrontFits S κ.fn (Do (StepO (Reg u) q (Reg r)) (Do last d)) 2 →
        FrontStays (S.whole.frames κ.fn).registers (Do (ConstO (Reg r) n) (Do (StepO (Reg u) q (Reg r)) (Do last d))) 3 → Items (Place q) n x → Done d (ConstO (Reg r) n) (Do (StepO (Reg u) q (Reg r)) (Do last d)) 2
    unfolding does Items Done
    two_done r n u q last d x apart i told fit ff stays st =
        let J = live_soon ahead Fr.lasting d in
        let g1 = written a.regs r n in
        let V = add (word_of Fr q (with_reg r n a)) (written a.regs r n r) in
        op_passes κ J p (ConstO (Reg r) n) s m a (with_reg r n a) (front_acts (lang S) (Do (StepO (Reg u) q (Reg r)) (Do last d)) 2) fit (record { place = h.place; at = h.at }) refl
        (λ t1 h1. op_passes κ J p (StepO (Reg u) q (Reg r)) t1 m (with_reg r n a) (with_reg u V (with_reg r n a)) (front_acts (lang S) (Do last d) 1) ff.0 h1 refl
        (λ t2 h2. alone_by κ J m (begin (holder S) t2) p d ((lang S).act last t2)
        (access_like κ d pc p a h.registers h.like roomy_at m e h.held (place_two r n u q) x last t2 (written g1 u V) (written (written h.registers r n) u V) i told.0 told.1 (good S fits κ q ff.0.1) ff.1.0 stays.1.1.0 st h2
        (record {
          at = written_same g1 u V u refl ∙ (λ j. add (word q apart stays.1.0.0 j) (written_same a.regs r n r refl j));
          same = λ y far. written_other g1 u V y far.0 ∙ written_other a.regs r n y far.1;
          like = more_like (written h.registers r n) g1 u V (more_like h.registers a.regs r n h.like);
          lift = λ k v xs end f. ended_with C S.address Fr k u V (written h.registers r n) v xs end a ff.0.0 (ended_with C S.address Fr k r n h.registers v xs end a fit f);
        }))))
      where
        word : (q : Where) → is_place q r ≡ false → Stays (S.whole.frames κ.fn).registers q → word_of (S.whole.frames κ.fn) q (with_reg r n h.words) ≡ word_of (S.whole.frames κ.fn) q (having h.registers h.words)
        word (Reg j) apart stays = written_other a.regs r n j (eqb-false j r apart) ∙ sym (h.like j stays)
        word (Slot j) apart stays = refl

    three_done : (t l r n u : ℕ) (last : OpT Where) (d : NodesT Where) (x : Transfer) → (t == r) ≡ false → Transfers u last x → Told (S.whole.frames κ.fn).lasting (Local l) (local_three t l r n u) x d → Fitting S κ.fn (LocalO (Reg t) l) →
        FrontFits S κ.fn (Do (ConstO (Reg r) n) (Do (StepO (Reg u) (Reg t) (Reg r)) (Do last d))) 3 → FrontStays (S.whole.frames κ.fn).registers (Do (LocalO (Reg t) l) (Do (ConstO (Reg r) n) (Do (StepO (Reg u) (Reg t) (Reg r)) (Do last d)))) 4 →
        Items (Local l) n x → Done d (LocalO (Reg t) l) (Do (ConstO (Reg r) n) (Do (StepO (Reg u) (Reg t) (Reg r)) (Do last d))) 3
    unfolding does Items Done
    three_done t l r n u last d x apart i told fit ff stays st =
        let J = live_soon ahead Fr.lasting d in
        let L = local_address Fr l a in
        let g1 = written a.regs t L in
        let g2 = written g1 r n in
        let V = add (g2 t) (g2 r) in
        op_passes κ J p (LocalO (Reg t) l) s m a (with_reg t L a) (front_acts (lang S) (Do (ConstO (Reg r) n) (Do (StepO (Reg u) (Reg t) (Reg r)) (Do last d))) 3) fit (record { place = h.place; at = h.at }) refl
        (λ t1 h1. op_passes κ J p (ConstO (Reg r) n) t1 m (with_reg t L a) (with_reg r n (with_reg t L a)) (front_acts (lang S) (Do (StepO (Reg u) (Reg t) (Reg r)) (Do last d)) 2) ff.0 h1 refl
        (λ t2 h2. op_passes κ J p (StepO (Reg u) (Reg t) (Reg r)) t2 m (with_reg r n (with_reg t L a)) (with_reg u V (with_reg r n (with_reg t L a))) (front_acts (lang S) (Do last d) 1) ff.1.0 h2 refl
        (λ t3 h3. alone_by κ J m (begin (holder S) t3) p d ((lang S).act last t3)
        (access_like κ d pc p a h.registers h.like roomy_at m e h.held (local_three t l r n u) x last t3 (written g2 u V) (written (written (written h.registers t L) r n) u V) i told.0 told.1 fit.2 ff.1.1.0 stays.1.1.1.0 st h3
        (record {
          at = written_same g2 u V u refl ∙ (λ j. add ((written_other g1 r n t (eqb-false t r apart) ∙ written_same a.regs t L t refl) j) (written_same g1 r n r refl j));
          same = λ y far. written_other g2 u V y far.0 ∙ written_other g1 r n y far.1 ∙ written_other a.regs t L y far.2;
          like = more_like (written (written h.registers t L) r n) g2 u V (more_like (written h.registers t L) g1 r n (more_like h.registers a.regs t L h.like));
          lift = λ k v xs end f. ended_with C S.address Fr k u V (written (written h.registers t L) r n) v xs end a ff.1.0.0
              (ended_with C S.address Fr k r n (written h.registers t L) v xs end a ff.0 (ended_with C S.address Fr k t L h.registers v xs end a fit.0 f));
        })))))

    last_behind : (last : OpT Where) (d : NodesT Where) → behind_front S (Do last d) 1 ≡ d
    unfolding behind_front
    last_behind last Stop = refl
    last_behind last (Do o c) = refl
    last_behind last (Call t g args c) = refl
    last_behind last (Choose w x y c) = refl
    last_behind last (Block b c) = refl
    last_behind last (Loop b c) = refl
    last_behind last (Leave j c) = refl
    last_behind last (Again j c) = refl
    last_behind last (Return w c) = refl

    -- in all registers that are asked for behind the access
    abbrev pub AccessDone : OpT Where → NodesT Where → Option (ℕ × Address × Transfer) → Type 0
    AccessDone o c None = Unit {0}
    AccessDone o c (Some (k, y, x)) = Fitting S κ.fn o → FrontFits S κ.fn c k → FrontStays (S.whole.frames κ.fn).registers (Do o c) (suc k)
        → Stand C.words S.address pc (before_it (access_item (S.whole.frames κ.fn) y.base y.offset x).0 ++ item.Op (access_item (S.whole.frames κ.fn) y.base y.offset x).1 ∷ []) p
        → DidBy (holder S) m (begin (holder S) s) p (Like (live_soon ahead (S.whole.frames κ.fn).lasting (behind_front S c k)) (Mach S κ)) (did_then ((lang S).act o s) (front_acts (lang S) c k))

    pub access_done : (o : OpT Where) (c : NodesT Where) → AccessDone o c (accessed (S.whole.frames κ.fn).lasting (S.whole.frames κ.fn).registers o c)
    unfolding Items Done behind_front
    access_done = accessed_case Fr.lasting Fr.registers AccessDone (λ o c. tt)
        (λ t l last d x i told fit ff stays st. subst (λ z. Done z (LocalO (Reg t) l) (Do last d) 1) (sym (last_behind last d)) (one_done t l last d x i told fit ff stays st))
        (λ r n u q last d x lt apart i told fit ff stays st.
        subst (λ z. Done z (ConstO (Reg r) n) (Do (StepO (Reg u) q (Reg r)) (Do last d)) 2) (sym (last_behind last d)) (two_done r n u q last d x apart i told fit ff stays st))
        (λ t l r n u last d x lt apart i told fit ff stays st.
        subst (λ z. Done z (LocalO (Reg t) l) (Do (ConstO (Reg r) n) (Do (StepO (Reg u) (Reg t) (Reg r)) (Do last d))) 3) (sym (last_behind last d)) (three_done t l r n u last d x apart i told fit ff stays st))
