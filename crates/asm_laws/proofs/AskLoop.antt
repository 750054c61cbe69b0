-- A loop that only asks for one more turn is followed by no instruction, or by one that puts 0 into its register; and an operation before it by none.
use Rattle.std.proofs.Common.{◌≡◌, ℕ, zero, suc, ◌+◌, ◌<◌, ◌≤◌, inl, inr, Bool, true, false, cond, List, [], ◌++◌, Option, Some, None, refl, sym, ap, ◌∙◌, subst, arith, append-nil}
use Rattle.std.specs.Prelude.{◌==◌, ◌&&◌, ◌||◌, not}
use Rattle.std.proofs.lemmas.Bool.{eqb-true, eq-eqb}
use Rattle.v32_isa.specs.State as machine
use Rattle.v32_isa.proofs.Steps.{Reaches, reaches_here, nested_none}
use Rattle.obj_mem.specs.declared.cell.Cell.{Cell}
use Rattle.obj_mem.specs.declared.cell.Cell.TheVariants.{Unwritten, Num, Ptr, Null}
use Rattle.mid_code.specs.declared.placed.Where.{Where}
use Rattle.mid_code.specs.declared.placed.Where.TheVariants.{Reg, Slot}
use Rattle.mid_code.specs.Code.{OpT, ConstO, NodesT, Stop, Do, Call, Choose, Block, Loop, Leave, Again, Return}
use Rattle.mid_code.specs.Meaning.{On, Next, then_next, choose, turn_done, does, below, node_weight}
use Rattle.mid_code.specs.States.{State, spent, word_tested, registers_and_slots, put_in}
use Rattle.mid_code.specs.Invariants.{Names}
use Rattle.asm_laws.specs.Copies.{copy_at, lead}
use Rattle.asm_laws.specs.Asks.{ask_of, is_unread, asked_items}
use Rattle.asm_laws.specs.Live.{live_soon, ahead}
use Rattle.asm_laws.specs.Placing.{Bounds}
use Rattle.asm_laws.specs.Standing.{Stand}
use Rattle.asm_laws.specs.Operations.{op_items, led_items, led_more}
use Rattle.asm_laws.specs.inner.Following.{begin, Came, Going, Sim, DidBy, did_then, front_acts, at_front}
use Rattle.asm_laws.specs.Holds.{Setting, Named, Fits, Ctx, HoldsAt}
use Rattle.asm_laws.specs.Calling.{Mach, Ready, Like, live_at, lang, holder, live_holder, shapes}
use Rattle.asm_laws.proofs.Asks.{ask_turn, ask_is, at_none, live_ask, unread_is, unread_dead}
use Rattle.asm_laws.proofs.LiveParts.{covers, spent_same, soon_live}
use Rattle.asm_laws.proofs.Parts.{op_done}

module _ (S : Setting) (fits : Fits S) where
  none_more : (c : NodesT Where) (t : State Where) → front_acts (lang S) c zero t ≡ On t
  none_more Stop t = refl
  none_more (Do o c) t = refl
  none_more (Call r g args c) t = refl
  none_more (Choose w x y c) t = refl
  none_more (Block b c) t = refl
  none_more (Loop b c) t = refl
  none_more (Leave j c) t = refl
  none_more (Again j c) t = refl
  none_more (Return w c) t = refl

  front_like : (κ : Ctx) (c : NodesT Where) (u : State Where) (m : machine.State) → Like (live_at S κ c) (Mach S κ) u m → at_front (live_holder S) κ c zero u m
  front_like κ Stop u m h = h
  front_like κ (Do o c) u m h = h
  front_like κ (Call r g args c) u m h = h
  front_like κ (Choose w x y c) u m h = h
  front_like κ (Block b c) u m h = h
  front_like κ (Loop b c) u m h = record { other = h.other; same = h.same; held = h.held }
  front_like κ (Leave j c) u m h = h
  front_like κ (Again j c) u m h = h
  front_like κ (Return w c) u m h = h

  -- the machine holds a state where the world has the same objects
  held_in : (κ : Ctx) (t u : State Where) (m : machine.State) → t.world.store ≡ u.world.store → ((p : Where) → t.cells p ≡ u.cells p) → Mach S κ t m → Mach S κ u m
  held_in κ t u m e f g = record {
    place = g.place;
    words = g.words;
    at = subst (λ w. HoldsAt S κ w u.cells g.place g.words) e (subst (λ x. HoldsAt S κ t.world.store x g.place g.words) (λ i p. f p i) g.at);
    registers = g.registers;
    like = g.like;
    held = g.held;
  }

  -- ---- an operation whose word is not asked for

  module _ (κ : Ctx) (pc : ℕ) (r n : ℕ) (c : NodesT Where) (s : State Where) (m : machine.State) (dead : live_at S κ c r ≡ false) (e : m.counter ≡ pc) (h : Like (live_at S κ (Do (ConstO (Reg r) n) c)) (Mach S κ) s m) where
    abbrev o : OpT Where
    o = ConstO (Reg r) n

    -- the state behind it
    abbrev u : State Where
    u = put_in registers_and_slots (Reg r) (Num n) (spent node_weight s)

    other_kept : (q : ℕ) → live_at S κ c q ≡ true → (q == r) ≡ false
    other_kept q l = go (q == r) refl
      where
        go : (b : Bool) → (q == r) ≡ b → (q == r) ≡ false
        go true i = (let w = sym l ∙ ap (live_at S κ c) (eqb-true q r i) ∙ dead in absurd cc)
        go false i = i

    regs_kept : (q : ℕ) → q < 9 → live_at S κ c q ≡ true → h.other.cells (Reg q) ≡ cond (q == r) (Num n) (s.cells (Reg q))
    regs_kept q lt l = elim (covers (S.whole.frames κ.fn).lasting (ConstO (Reg r) n) c q l) [
      | inl p ↦ (let w = sym (other_kept q l) ∙ eq-eqb q r (sym (eqb-true r q (or_none (r == q) p))) in absurd cc)
      | inr p ↦ h.same.regs q lt p ∙ sym (ap (λ b. cond b (Num n) (s.cells (Reg q))) (other_kept q l))
    ]
      where
        or_none : (b : Bool) → b || false ≡ true → b ≡ true
        or_none true i = refl
        or_none false i = i

    unread_came : Came (live_holder S) m (begin (live_holder S) s) u pc 0 0 (at_front (live_holder S) κ c zero u)
    unread_came = record {
      steps = 0;
      made = [];
      to = m;
      by = reaches_here m s.world.store.answers;
      at = e;
      held = front_like κ c u m (record {
        other = spent node_weight h.other;
        same = record { world = (spent_same S κ (live_at S κ (Do o c)) node_weight h.other s h.same).world; given = h.same.given; slots = h.same.slots; regs = regs_kept };
        held = held_in κ h.other (spent node_weight h.other) m refl (λ p. refl) h.held;
      });
      events = sym (append-nil s.world.events);
      cost = omega arith;
      many = omega arith;
    }

  pub unread_like : (κ : Ctx) (pc p more : ℕ) (o : OpT Where) (c : NodesT Where) (s : State Where) (m : machine.State) → is_unread (Do o c) ≡ true → (shapes S).op κ.fn pc o c more p → m.counter ≡ pc → Like (live_at S κ (Do o c)) (Mach S κ) s m →
      DidBy (live_holder S) m (begin (live_holder S) s) p (at_front (live_holder S) κ c more) (did_then ((lang S).act o s) (front_acts (lang S) c more))
  unread_like κ pc p more o c s m is st e h =
      let F = S.whole.frames κ.fn in
      let u = unread_is o c is in
      let k : more ≡ zero = st.3 ∙ ap (λ b. cond b 0 (led_more S.whole F o c (lead (Do o c)))) is in
      let q : pc ≡ p = subst (λ b. Stand S.console.words S.address pc (cond b [] (led_items S.whole F o c (lead (Do o c)))) p) is st.2 in
      subst (λ z. DidBy (live_holder S) m (begin (live_holder S) s) z (at_front (live_holder S) κ c more) (did_then ((lang S).act o s) (front_acts (lang S) c more))) q
      (subst (λ z. DidBy (live_holder S) m (begin (live_holder S) s) pc (at_front (live_holder S) κ c z) (did_then ((lang S).act o s) (front_acts (lang S) c z))) (sym k)
      (go o u.op (unread_dead F.lasting o c u) h))
    where
      go : (o : OpT Where) {r n : ℕ} → o ≡ ConstO (Reg r) n → live_at S κ c r ≡ false → Like (live_at S κ (Do o c)) (Mach S κ) s m →
          DidBy (live_holder S) m (begin (live_holder S) s) pc (at_front (live_holder S) κ c zero) (did_then ((lang S).act o s) (front_acts (lang S) c zero))
      go o {r} {n} w dead h =
          subst (λ z. DidBy (live_holder S) m (begin (live_holder S) s) pc (at_front (live_holder S) κ c zero) (did_then ((lang S).act z s) (front_acts (lang S) c zero))) (sym w)
          (subst (λ d. DidBy (live_holder S) m (begin (live_holder S) s) pc (at_front (live_holder S) κ c zero) d) (sym (none_more c _))
          (unread_came κ pc r n c s m dead e (subst (λ z. Like (live_at S κ (Do z c)) (Mach S κ) s m) w h)))

  -- ---- the loop

  module _ (κ : Ctx) (pc p f : ℕ) (b c : NodesT Where) (s : State Where) (m : machine.State) (is : ask_of b ≡ Some f) (named : Named S κ.fn (Reg f))
      (st : Stand S.console.words S.address pc (asked_items f (live_soon ahead (S.whole.frames κ.fn).lasting c f)) p) (e : m.counter ≡ pc) (h : Like (live_at S κ (Loop b c)) (Mach S κ) s m) where
    abbrev J : ℕ → Bool
    J = live_soon ahead (S.whole.frames κ.fn).lasting c

    -- what is live behind it is live before, but for its register
    live_there : (r : ℕ) → live_at S κ c r ≡ true → (r == f) ≡ false → live_at S κ (Loop b c) r ≡ true
    live_there r l d = live_ask (S.whole.frames κ.fn).lasting b c f r is ∙ (λ i. not (d i) && live_at S κ c r) ∙ l

    -- a state behind it, with 0 in its register
    record Behind (z : State Where) : Type 0 where
      store : z.world.store ≡ s.world.store
      events : z.world.events ≡ s.world.events
      work : s.world.work + 8 ≤ z.world.work
      given : z.given ≡ s.given
      slots : (k : ℕ) → z.cells (Slot k) ≡ s.cells (Slot k)
      regs : (r : ℕ) → (r == f) ≡ false → z.cells (Reg r) ≡ s.cells (Reg r)
      flag : z.cells (Reg f) ≡ Num 0

    store_same : (z : State Where) → Behind z → h.other.world.store ≡ z.world.store
    store_same z l = ap (λ w. w.store) h.same.world ∙ sym l.store

    -- without an instruction
    lands_here : (z : State Where) → Behind z → J f ≡ false → pc ≡ p → Came (live_holder S) m (begin (live_holder S) s) z p 0 0 (Like (live_at S κ c) (Mach S κ) z)
    lands_here z l off q = record {
      steps = 0;
      made = [];
      to = m;
      by = subst (λ w. Reaches 0 m s.world.store.answers [] m w.answers) (sym l.store) (reaches_here m s.world.store.answers);
      at = e ∙ q;
      held = record {
        other = record { world = z.world; cells = h.other.cells; given = h.other.given };
        same = record { world = refl; given = h.same.given ∙ sym l.given; slots = λ k. h.same.slots k ∙ sym (l.slots k); regs = regs };
        held = held_in κ h.other (record { world = z.world; cells = h.other.cells; given = h.other.given }) m (store_same z l) (λ w. refl) h.held;
      };
      events = l.events ∙ sym (append-nil s.world.events);
      cost = (let w = l.work in omega (arith, w));
      many = omega arith;
    }
      where
        regs : (r : ℕ) → r < 9 → live_at S κ c r ≡ true → h.other.cells (Reg r) ≡ z.cells (Reg r)
        regs r lt i = go (r == f) refl
          where
            go : (x : Bool) → (r == f) ≡ x → h.other.cells (Reg r) ≡ z.cells (Reg r)
            go true d = (let w = sym (soon_live ahead (S.whole.frames κ.fn).lasting c r i) ∙ ap J (eqb-true r f d) ∙ off in absurd cc)
            go false d = h.same.regs r lt (live_there r i d) ∙ sym (l.regs r d)

    -- by the one that puts 0 there
    lands_set : (z : State Where) → Behind z → Stand S.console.words S.address pc (op_items S.whole (S.whole.frames κ.fn) (ConstO (Reg f) 0)) p → Came (live_holder S) m (begin (live_holder S) s) z p 0 0 (Like (live_at S κ c) (Mach S κ) z)
    lands_set z l items =
        let t = h.other in
        let t1 = put_in registers_and_slots (Reg f) (Num 0) (spent node_weight t) in
        let g : Came (holder S) m (begin (holder S) t) t1 p 0 0 (Mach S κ t1) = op_done S fits κ pc p t m e h.held (ConstO (Reg f) 0) named tt items in
        record {
          steps = g.steps;
          made = g.made;
          to = g.to;
          by = subst (λ w. Reaches g.steps m s.world.store.answers g.made g.to w.answers) (store_same z l) (subst (λ w. Reaches g.steps m w.store.answers g.made g.to t.world.store.answers) h.same.world g.by);
          at = g.at;
          held = record {
            other = record { world = z.world; cells = t1.cells; given = t.given };
            same = record { world = refl; given = h.same.given ∙ sym l.given; slots = λ k. h.same.slots k ∙ sym (l.slots k); regs = regs };
            held = held_in κ t1 (record { world = z.world; cells = t1.cells; given = t.given }) g.to (store_same z l) (λ w. refl) g.held;
          };
          events = l.events ∙ sym (ap (λ w. w.events) h.same.world) ∙ g.events ∙ ap (λ w. w.events ++ g.made) h.same.world;
          cost = (let w = l.work in let v = ap (λ x. x.work) h.same.world in let k = g.cost in omega (arith, w, v, k));
          many = omega arith;
        }
      where
        regs : (r : ℕ) → r < 9 → live_at S κ c r ≡ true → cond (r == f) (Num 0) (h.other.cells (Reg r)) ≡ z.cells (Reg r)
        regs r lt i = go (r == f) refl
          where
            go : (x : Bool) → (r == f) ≡ x → cond (r == f) (Num 0) (h.other.cells (Reg r)) ≡ z.cells (Reg r)
            go true d = ap (λ x. cond x (Num 0) (h.other.cells (Reg r))) d ∙ sym l.flag ∙ ap (λ x. z.cells (Reg x)) (sym (eqb-true r f d))
            go false d = ap (λ x. cond x (Num 0) (h.other.cells (Reg r))) d ∙ h.same.regs r lt (live_there r i d) ∙ sym (l.regs r d)

    lands : (z : State Where) → Behind z → Came (live_holder S) m (begin (live_holder S) s) z p 0 0 (Like (live_at S κ c) (Mach S κ) z)
    unfolding op_items
    lands z l = go (J f) refl st
      where
        go : (x : Bool) → J f ≡ x → Stand S.console.words S.address pc (asked_items f x) p → Came (live_holder S) m (begin (live_holder S) s) z p 0 0 (Like (live_at S κ c) (Mach S κ) z)
        go true q k = lands_set z l k
        go false q k = lands_here z l q k

    -- where it strays, or is out of bound
    stands : (z : State Where) → z.world.events ≡ s.world.events → s.world.work ≤ z.world.work → Going (live_holder S) m (begin (live_holder S) s) z 0
    stands z ev wk = record { steps = 0; made = []; to = m; left = s.world.store.answers; by = (reaches_here m s.world.store.answers).runs; nested = λ ls. nested_none ls m s.world.store.answers; events = ev ∙ sym (append-nil s.world.events); cost = omega (arith, wk); many = omega arith }

    zero_word : (x : Cell) → word_tested x ≡ Some zero → x ≡ Num 0
    zero_word (Num v) q = ap Num (cc)
    zero_word Unwritten q = absurd cc
    zero_word (Ptr o i) q = absurd cc
    zero_word Null q = absurd cc

    -- its last turn
    last_turn : (k : ℕ) (v : State Where) → word_tested (v.cells (Reg f)) ≡ Some zero → does (lang S) k (below (lang S) k) (Loop (ask_turn f) Stop) v ≡ Next (spent node_weight (spent node_weight v))
    last_turn k v q = ap (λ x. then_next (turn_done (then_next (choose x (spent node_weight (spent node_weight v)) (does (lang S) k (below (lang S) k) (Do (ConstO (Reg f) 0) (Again zero Stop))) (does (lang S) k (below (lang S) k) Stop))
        (does (lang S) k (below (lang S) k) Stop)) (below (lang S) k (Loop (ask_turn f) Stop))) (does (lang S) k (below (lang S) k) Stop)) q

    abbrev u2 : State Where
    u2 = spent node_weight (spent node_weight s)

    -- the state behind the turn that is asked for
    abbrev asked : State Where
    asked = spent node_weight (put_in registers_and_slots (Reg f) (Num 0) (spent node_weight (spent node_weight (spent node_weight s))))

    flag_cleared : asked.cells (Reg f) ≡ Num 0
    flag_cleared = ap (λ x. cond x (Num 0) (s.cells (Reg f))) (eq-eqb f f refl)

    turns : (n : ℕ) (ls : List Bounds) → Sim (live_holder S) κ (Like (live_at S κ c) (Mach S κ)) m (begin (live_holder S) s) p n ls (turn_done (does (lang S) n (below (lang S) n) (ask_turn f) (spent node_weight s)) (below (lang S) n (Loop (ask_turn f) Stop)))
    turns n ls = go (word_tested (s.cells (Reg f))) refl
      where
        second : (n : ℕ) → Sim (live_holder S) κ (Like (live_at S κ c) (Mach S κ)) m (begin (live_holder S) s) p n ls (below (lang S) n (Loop (ask_turn f) Stop) asked)
        second zero = stands asked refl (omega arith)
        second (suc k) =
            subst (λ r. Sim (live_holder S) κ (Like (live_at S κ c) (Mach S κ)) m (begin (live_holder S) s) p (suc k) ls r) (sym (last_turn k asked (ap word_tested flag_cleared)))
            (lands (spent node_weight (spent node_weight asked)) (record {
              store = refl;
              events = refl;
              work = omega arith;
              given = refl;
              slots = λ k. refl;
              regs = λ r d. ap (λ x. cond x (Num 0) (s.cells (Reg r))) d;
              flag = flag_cleared;
            }))

        go : (x : Option ℕ) → word_tested (s.cells (Reg f)) ≡ x → Sim (live_holder S) κ (Like (live_at S κ c) (Mach S κ)) m (begin (live_holder S) s) p n ls
            (turn_done (then_next (choose x u2 (does (lang S) n (below (lang S) n) (Do (ConstO (Reg f) 0) (Again zero Stop))) (does (lang S) n (below (lang S) n) Stop)) (does (lang S) n (below (lang S) n) Stop)) (below (lang S) n (Loop (ask_turn f) Stop)))
        go None q = stands u2 refl (omega arith)
        go (Some zero) q = lands u2 (record { store = refl; events = refl; work = omega arith; given = refl; slots = λ k. refl; regs = λ r d. refl; flag = zero_word (s.cells (Reg f)) q })
        go (Some (suc v)) q = second n

  pub ask_like : (κ : Ctx) (pc p k : ℕ) (b c : NodesT Where) (s : State Where) (m : machine.State) → (shapes S).ask κ.fn pc b c p → m.counter ≡ pc → Like (live_at S κ (Loop b c)) (Ready S κ (live_soon ahead (S.whole.frames κ.fn).lasting c) (copy_at k b)) s m → (n : ℕ) (ls : List Bounds) →
      Sim (live_holder S) κ (Like (live_at S κ c) (Mach S κ)) m (begin (live_holder S) s) p n ls (turn_done (does (lang S) n (below (lang S) n) b (spent node_weight s)) (below (lang S) n (Loop b Stop)))
  ask_like κ pc p k b c s m at e h n ls =
      let f = at.0 in
      let t = ask_is b f at.1 in
      let mach = subst (λ z. Ready S κ (live_soon ahead (S.whole.frames κ.fn).lasting c) z h.other m) (at_none k b f at.1) h.held in
      let names = subst (λ z. Names (Named S κ.fn) z) t.0 at.3 in
      subst (λ z. Sim (live_holder S) κ (Like (live_at S κ c) (Mach S κ)) m (begin (live_holder S) s) p n ls (turn_done (does (lang S) n (below (lang S) n) z (spent node_weight s)) (below (lang S) n (Loop z Stop)))) (sym t.0)
      (turns κ pc p f b c s m at.1 names.0.0.0 at.2 e (record { other = h.other; same = h.same; held = mach }) n ls)
