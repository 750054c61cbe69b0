-- Copies, results, tests and calls are followed by a machine that holds what is live.
use Rattle.std.proofs.Common.{◌≡◌, ℕ, zero, suc, ◌+◌, ◌*◌, ◌≤◌, inl, inr, Bool, true, false, List, [], ◌∷◌, length, Option, Some, None, refl, sym, ap, ◌∙◌, subst}
use Rattle.std.specs.Prelude.{◌==◌, ◌||◌, map}
use Rattle.std.proofs.lemmas.Bool.{eqb-true}
use Rattle.v32_isa.specs.State.{going_to}
use Rattle.v32_isa.specs.State as machine
use Rattle.v32_isa.proofs.Steps.{Reaches}
use Rattle.obj_mem.specs.declared.cell.Cell.TheVariants.{Unwritten}
use Rattle.obj_mem.specs.Runs.{Deep}
use Rattle.obj_mem.specs.Stores.{has_room, entered, returned_to}
use Rattle.obj_mem.specs.Worlds.{on_store, spend}
use Rattle.mid_code.specs.declared.placed.Where.{Where}
use Rattle.mid_code.specs.declared.placed.Where.TheVariants.{Reg, Slot}
use Rattle.mid_code.specs.Placed.{is_same_place}
use Rattle.mid_code.specs.Code.{OpT, TwoO, NodesT, Stop, Do, Call, Choose, Loop, Return, maybe}
use Rattle.mid_code.specs.Invariants.{AllOf, Names}
use Rattle.mid_code.specs.Meaning.{Res, did, turn_done, does, below, node_weight}
use Rattle.mid_code.specs.States.{State, spent, word_tested, registers_and_slots, function_at, begun, back, after_call, if_room, cell_of, put_in_maybe, entry_weight, received}
use Rattle.asm_laws.specs.Live.{lasts, is_place, is_among, copy_reads, live_soon, ahead}
use Rattle.asm_laws.specs.inner.Following.{Begin, begin, spare, Came, Sim, Enters, CallSim, TestSim}
use Rattle.asm_laws.specs.Placing.{Bounds, Jumps}
use Rattle.asm_laws.specs.Holds.{Setting, sizes, Named, Fits, Ctx}
use Rattle.asm_laws.specs.Acting.{Fitting, FrontFits}
use Rattle.asm_laws.specs.Copies.{copy_at, copy_of}
use Rattle.asm_laws.specs.declared.copying.Copying.{Copying}
use Rattle.asm_laws.specs.Calling.{Mach, Given, ExitAt, Ready, Same, Like, live_at, lang, holder, live_holder, CallAt, MadeAt, GivingAt, Callable, FunctionAt, shapes}
use Rattle.asm_laws.proofs.Asks.{no_ask, live_other}
use Rattle.asm_laws.proofs.Leads.{copying, filling, copy_is}
use Rattle.asm_laws.proofs.Parts.{jump_sim, test_sim, give_sim}
use Rattle.asm_laws.proofs.GivenBack.{made_sim}
use Rattle.asm_laws.proofs.Calls.{call_sim}
use Rattle.asm_laws.proofs.BlockLoop.{copy_sim}
use Rattle.asm_laws.proofs.Results.{made_is}
use Rattle.asm_laws.proofs.Likeness.{same_self, same_weaker, same_trans, cell_same, cells_same}
use Rattle.asm_laws.proofs.LiveParts.{all_read, soon_live, begin_same, came_like, final_like, act_same, ResSame, did_same, spent_same, loop_same, reads_live, behind_live, cell_or, copy_turn_same, fill_turn_same, given_like, sim_like, or_first, or_second}

-- two places that are one
one_place : (p q : Where) → is_same_place p q ≡ true → p ≡ q
one_place (Reg a) (Reg b) e = ap Reg (eqb-true a b e)
one_place (Slot a) (Slot b) e = ap Slot (eqb-true a b e)
one_place (Reg a) (Slot b) e = absurd cc
one_place (Slot a) (Reg b) e = absurd cc

module _ (S : Setting) (fits : Fits S) where
  -- ---- a loop that copies or fills

  module _ (κ : Ctx) (b c : NodesT Where) (y : Copying) (is : copy_of b ≡ Some y) (cell : ℕ) (cell_is : y.cell ≡ cell) where
    abbrev A : ℕ → Bool
    A = live_at S κ (Loop b c)

    -- what is live behind the loop is the same there
    live_behind : (r : ℕ) → live_at S κ c r ≡ true → cell_or S κ cell (live_at S κ (Loop b c)) r ≡ true
    live_behind r e = subst (λ z. (r == z) || live_at S κ (Loop b c) r ≡ true) cell_is (behind_live S κ b c y is r e)

    live_stop : (r : ℕ) → live_at S κ Stop r ≡ true → cell_or S κ cell (live_at S κ (Loop b c)) r ≡ true
    live_stop r e = or_second (r == cell) (live_at S κ (Loop b c) r) (live_other (S.whole.frames κ.fn).lasting b c r (no_ask b y is) ∙ or_first (lasts (S.whole.frames κ.fn).lasting r) _ e)

    module _ (p n : ℕ) (ls : List Bounds) (s : State Where) (m : machine.State) where
      abbrev done : State Where → Res (State Where)
      done u = turn_done (does (lang S) n (below (lang S) n) b (spent node_weight u)) (below (lang S) n (Loop b Stop))

      copied_like : (turn : (n : ℕ) (prev : NodesT Where → State Where → Res (State Where)) (t s : State Where) → Same (live_at S κ (Loop b c)) t s →
          ResSame S κ (cell_or S κ cell (live_at S κ (Loop b c))) (does (lang S) n prev b t) (does (lang S) n prev b s)) → (t : State Where) → Same (live_at S κ (Loop b c)) t s →
          Sim (holder S) κ (Like (live_soon ahead (S.whole.frames κ.fn).lasting c) (Mach S κ)) m (begin (holder S) t) p n ls (done t) →
          Sim (live_holder S) κ (Like (live_at S κ c) (Mach S κ)) m (begin (live_holder S) s) p n ls (done s)
      copied_like turn t h old =
          let J = cell_or S κ cell (live_at S κ (Loop b c)) in
          let soon = live_soon ahead (S.whole.frames κ.fn).lasting c in
          let same = loop_same S κ b (live_at S κ (Loop b c)) J (λ r lt e. or_second (r == cell) (live_at S κ (Loop b c) r) e) turn n t s h in
          sim_like S κ J (Like soon (Mach S κ)) (Like (live_at S κ c) (Mach S κ)) m (begin (live_holder S) s) p n ls (done t) (done s) same
          (λ u v m1 g w. record {
            other = w.other;
            same = same_trans (live_at S κ c) w.other u v (same_weaker soon (live_at S κ c) w.other u (λ r lt e. soon_live ahead (S.whole.frames κ.fn).lasting c r e) w.same) (same_weaker J (live_at S κ c) u v (λ r lt e. live_behind r e) g);
            held = w.held;
          })
          live_stop
          (subst (λ d. Sim (holder S) κ (Like soon (Mach S κ)) m d p n ls (done t)) (begin_same S t s h.world) old)

  pub copy_like : (κ : Ctx) (pc p k : ℕ) (b c : NodesT Where) (s : State Where) (m : machine.State) → (shapes S).copy κ.fn pc b c k p → m.counter ≡ pc → Like (live_at S κ (Loop b c)) (Ready S κ (live_soon ahead (S.whole.frames κ.fn).lasting c) (copy_at k b)) s m → (n : ℕ) (ls : List Bounds) →
      Sim (live_holder S) κ (Like (live_at S κ c) (Mach S κ)) m (begin (live_holder S) s) p n ls (turn_done (does (lang S) n (below (lang S) n) b (spent node_weight s)) (below (lang S) n (Loop b Stop)))
  copy_like κ pc p zero b c s m at e h n ls = let z = at.1 in absurd cc
  copy_like κ pc p (suc k) b c s m at e h n ls =
      let y = at.0 in
      let A = live_at S κ (Loop b c) in
      let old = copy_sim S fits κ pc p (suc k) b c h.other m at e h.held n ls in
      elim (copy_is b y at.1) [
        | inl q ↦
            let v = q.registers in
            let names = subst (λ z. Names (Named S κ.fn) z) q.nodes at.3 in
            let reads : (r : ℕ) → copy_reads (copying v) r ≡ true → live_at S κ (Loop b c) r ≡ true = λ r i. reads_live S κ b c y at.1 r (subst (λ z. copy_reads z r ≡ true) q.same i) in
            copied_like κ b c y at.1 v.cell (ap (λ z. z.cell) (sym q.same)) p n ls s m
            (λ j prev t u g. subst (λ d. ResSame S κ (cell_or S κ v.cell A) (does (lang S) j prev d t) (does (lang S) j prev d u)) (sym q.nodes)
            (copy_turn_same S κ v A names.0.0.0 names.1.0.0.0 names.0.1.0 names.1.1.0.1.0 names.1.1.0.0.1.0 reads j prev t u g)) h.other h.same old
        | inr q ↦
            let v = q.registers in
            let names = subst (λ z. Names (Named S κ.fn) z) q.nodes at.3 in
            let reads : (r : ℕ) → copy_reads (filling v) r ≡ true → live_at S κ (Loop b c) r ≡ true = λ r i. reads_live S κ b c y at.1 r (subst (λ z. copy_reads z r ≡ true) q.same i) in
            copied_like κ b c y at.1 v.cell (ap (λ z. z.cell) (sym q.same)) p n ls s m
            (λ j prev t u g. subst (λ d. ResSame S κ (cell_or S κ v.cell A) (does (lang S) j prev d t) (does (lang S) j prev d u)) (sym q.nodes)
            (fill_turn_same S κ v A names.0.0.0 names.0.0.1.0 names.1.0.1.0 names.1.0.0.1.0 reads j prev t u g)) h.other h.same old
      ]

  -- ---- results

  returns_same : (κ : Ctx) (p : Option Where) (d : NodesT Where) (t s : State Where) → AllOf (Named S κ.fn) (maybe p) → Same (live_at S κ (Return p d)) t s →
      Same (λ r. false) ((lang S).give p (spent node_weight t)) ((lang S).give p (spent node_weight s))
  returns_same κ p d t s named h = record { world = (spent_same S κ (live_at S κ (Return p d)) node_weight t s h).world; given = cells p named (λ r e. e); slots = h.slots; regs = λ r lt e. cc }
    where
      cells : (q : Option Where) → AllOf (Named S κ.fn) (maybe q) → ((r : ℕ) → is_among (maybe q) r ≡ true → is_among (maybe p) r ≡ true) → cell_of t.cells q ≡ cell_of s.cells q
      cells None n f = refl
      cells (Some q) n f = cell_same (live_at S κ (Return p d)) t s h q (all_read S κ.fn (is_among (maybe p)) (q ∷ []) n f).0

  pub made_like : (κ : Ctx) (pc : ℕ) (o : OpT Where) (c : NodesT Where) (s : State Where) (m : machine.State) → MadeAt S κ.fn pc o c → m.counter ≡ pc → Like (live_at S κ (Do o c)) (Mach S κ) s m → (e n : ℕ) (ls : List Bounds) →
      Sim (live_holder S) κ (Like (live_at S κ Stop) (Mach S κ)) m (begin (live_holder S) s) e n ls (did ((lang S).act o s) (does (lang S) n (below (lang S) n) c))
  made_like κ pc o c s m at ec h e n ls =
      let t = h.other in
      let go = does (lang S) n (below (lang S) n) in
      let old = subst (λ d. Sim (holder S) κ (Mach S κ) m d e n ls (did ((lang S).act o t) (does (lang S) n (below (lang S) n) c))) (begin_same S t s h.same.world) (made_sim S fits κ pc o c t m at ec h.held e n ls) in
      sim_like S κ (λ r. true) (Mach S κ) (Like (live_at S κ Stop) (Mach S κ)) m (begin (live_holder S) s) e n ls (did ((lang S).act o t) (go c)) (did ((lang S).act o s) (go c)) (same t h.same)
      (λ u v m1 g w. record { other = u; same = same_weaker (λ r. true) (live_at S κ Stop) u v (λ r lt i. refl) g; held = w }) (λ r i. refl) old
    where
      named_place : (p q : Where) → is_same_place p q ≡ true → Named S κ.fn q → Named S κ.fn p
      named_place p q i n = subst (Named S κ.fn) (sym (one_place p q i)) n

      same : (t : State Where) → Same (live_at S κ (Do o c)) t s → ResSame S κ (λ r. true) (did ((lang S).act o t) (does (lang S) n (below (lang S) n) c)) (did ((lang S).act o s) (does (lang S) n (below (lang S) n) c))
      same t g =
          did_same S κ (live_at S κ c) (λ r. true) ((lang S).act o t) ((lang S).act o s) (does (lang S) n (below (lang S) n) c) (act_same S κ o c t s at.fits g)
          (λ u v i. elim (made_is S.whole (S.whole.frames κ.fn) o c at.more at.made at.is) [
            | inl x ↦
                let fit : Fitting S κ.fn (TwoO x.operator x.target x.first x.second) = subst (Fitting S κ.fn) x.op at.fits in
                subst (λ d. ResSame S κ (λ r. true) (does (lang S) n (below (lang S) n) d u) (does (lang S) n (below (lang S) n) d v)) (sym x.nodes)
                (returns_same κ (Some x.place) x.behind u v (named_place x.place x.target x.same fit.0, tt) (subst (λ d. Same (live_at S κ d) u v) x.nodes i))
            | inr x ↦
                let op = TwoO x.operator x.target x.first x.second in
                let nodes = Do op (Return (Some x.place) x.behind) in
                let front : FrontFits S κ.fn nodes 2 = subst (λ k. FrontFits S κ.fn nodes k) x.count (subst (λ d. FrontFits S κ.fn d at.more) x.nodes at.front) in
                subst (λ d. ResSame S κ (λ r. true) (does (lang S) n (below (lang S) n) d u) (does (lang S) n (below (lang S) n) d v)) (sym x.nodes)
                (did_same S κ (live_at S κ (Return (Some x.place) x.behind)) (λ r. true) ((lang S).act op u) ((lang S).act op v) (does (lang S) n (below (lang S) n) (Return (Some x.place) x.behind)) (act_same S κ op (Return (Some x.place) x.behind) u v front.0 (subst (λ d. Same (live_at S κ d) u v) x.nodes i))
                (λ u1 v1 j. returns_same κ (Some x.place) x.behind u1 v1 (named_place x.place x.target x.same front.0.0, tt) j))
          ])

  pub give_like : (κ : Ctx) (pc : ℕ) (w : Option Where) (c : NodesT Where) (s : State Where) (m : machine.State) → GivingAt S κ.fn pc w → m.counter ≡ pc → Like (live_at S κ (Return w c)) (Mach S κ) s m →
      (q : ℕ) × ExitAt S κ.fn q × Came (live_holder S) m (begin (live_holder S) s) ((lang S).give w (spent node_weight s)) q 0 0 (Given S κ ((lang S).give w (spent node_weight s)))
  give_like κ pc w c s m at e h =
      let t = h.other in
      let old = give_sim S fits κ pc w t m at e h.held in
      let same = returns_same κ w c t s at.named h.same in
      let tg = (lang S).give w (spent node_weight t) in
      let sg = (lang S).give w (spent node_weight s) in (
        old.0,
        old.1,
        came_like S [] [] m (begin (live_holder S) s) tg sg old.0 0 0 (Given S κ tg) (Given S κ sg) same.world (λ m1 g. given_like S κ tg sg m1 same g)
            (subst (λ b. Came (holder S) m b ((lang S).give w (spent node_weight h.other)) old.0 0 0 (Given S κ ((lang S).give w (spent node_weight h.other)))) (begin_same S t s h.same.world) old.2),
      )

  -- ---- tests

  pub test_like : (κ : Ctx) (pc py px : ℕ) (w : Where) (x y c : NodesT Where) (s : State Where) (m : machine.State) → (shapes S).test κ.fn pc w py px → m.counter ≡ pc → Like (live_at S κ (Choose w x y c)) (Mach S κ) s m →
      TestSim (live_holder S) (Like (live_at S κ (Choose w x y c)) (Mach S κ) (spent node_weight s)) py px m (begin (live_holder S) s) (spent node_weight s) (word_tested (s.cells w))
  test_like κ pc py px w x y c s m at e h =
      go (word_tested (h.other.cells w)) (word_tested (s.cells w)) (ap word_tested (cell_same J h.other s h.same w (all_read S κ.fn J (w ∷ []) (at.0, tt) (λ r i. among r i)).0))
      (subst (λ b. TestSim (holder S) (Mach S κ (spent node_weight h.other)) py px m b (spent node_weight h.other) (word_tested (h.other.cells w))) (begin_same S h.other s h.same.world) (test_sim S fits κ pc py px w h.other m at e h.held))
    where
      J : ℕ → Bool
      J = live_at S κ (Choose w x y c)

      among : (r : ℕ) → is_among (w ∷ []) r ≡ true → live_at S κ (Choose w x y c) r ≡ true
      among r i = or_first (is_place w r) (live_at S κ x r || live_at S κ y r) (none (is_place w r) i)
        where
          none : (b : Bool) → b || false ≡ true → b ≡ true
          none true i = refl
          none false i = i

      after_test : (q : ℕ) → Came (holder S) m (spare 1 (begin (live_holder S) s)) (spent node_weight h.other) q 1 0 (Mach S κ (spent node_weight h.other)) → Came (live_holder S) m (spare 1 (begin (live_holder S) s)) (spent node_weight s) q 1 0 (Like (live_at S κ (Choose w x y c)) (Mach S κ) (spent node_weight s))
      after_test q f =
          let g = spent_same S κ (live_at S κ (Choose w x y c)) node_weight h.other s h.same in
          came_like S [] [] m (spare 1 (begin (live_holder S) s)) (spent node_weight h.other) (spent node_weight s) q 1 0 (Mach S κ (spent node_weight h.other)) (Like (live_at S κ (Choose w x y c)) (Mach S κ) (spent node_weight s)) g.world
          (λ m1 i. record { other = spent node_weight h.other; same = g; held = i }) f

      go : (u v : Option ℕ) → u ≡ v → TestSim (holder S) (Mach S κ (spent node_weight h.other)) py px m (begin (live_holder S) s) (spent node_weight h.other) u →
          TestSim (live_holder S) (Like (live_at S κ (Choose w x y c)) (Mach S κ) (spent node_weight s)) py px m (begin (live_holder S) s) (spent node_weight s) v
      go u v q f = subst (λ z. TestSim (live_holder S) (Like (live_at S κ (Choose w x y c)) (Mach S κ) (spent node_weight s)) py px m (begin (live_holder S) s) (spent node_weight s) z) q (case u f)
        where
          case : (u : Option ℕ) → TestSim (holder S) (Mach S κ (spent node_weight h.other)) py px m (begin (live_holder S) s) (spent node_weight h.other) u →
              TestSim (live_holder S) (Like (live_at S κ (Choose w x y c)) (Mach S κ) (spent node_weight s)) py px m (begin (live_holder S) s) (spent node_weight s) u
          case None f = tt
          case (Some zero) f = after_test py f
          case (Some (suc k)) f = after_test px f

  -- ---- calls

  same_of : (J : ℕ → Bool) (t s : State Where) → t ≡ s → Same J t s
  same_of J t s e = subst (λ z. Same J t z) e (same_self J t)

  after_same : (J : ℕ → Bool) (t s : State Where) → Same J t s → (q : Where) → after_call registers_and_slots t.cells q ≡ after_call registers_and_slots s.cells q
  after_same J t s h (Reg r) = refl
  after_same J t s h (Slot k) = h.slots k

  back_same : (J : ℕ → Bool) (x : Option Where) (t s v : State Where) → Same J t s → back registers_and_slots x t v ≡ back registers_and_slots x s v
  back_same J x t s v h = λ i. put_in_maybe registers_and_slots x v.given (record {
    world = on_store (returned_to (h.world i).store) v.world;
    cells = λ q. after_same J t s h q i;
    given = h.given i;
  })

  begun_same : (J : ℕ → Bool) (g : ℕ) (args : List Where) (t s : State Where) → Same J t s → map t.cells args ≡ map s.cells args → begun registers_and_slots (sizes S) (function_at S.code g).params g args t ≡ begun registers_and_slots (sizes S) (function_at S.code g).params g args s
  begun_same J g args t s h e = λ i. record {
    world = on_store (entered (sizes S) g) (spend entry_weight (h.world i));
    cells = received registers_and_slots (function_at S.code g).params (e i);
    given = Unwritten;
  }

  enters_like : (J : ℕ → Bool) (κ : Ctx) (p : ℕ) (x : Option Where) (g : ℕ) (args : List Where) (c : NodesT Where) (t s : State Where) (m : machine.State) (b : Begin) → Same J t s → map t.cells args ≡ map s.cells args →
      Enters (holder S) (shapes S) (Mach S κ) p x g t (begun registers_and_slots (sizes S) (function_at S.code g).params g args t) m b →
      Enters (live_holder S) (shapes S) (Like (live_at S κ c) (Mach S κ)) p x g s (begun registers_and_slots (sizes S) (function_at S.code g).params g args s) m b
  enters_like J κ p x g args c t s m b h e en =
      let t0 = begun registers_and_slots (sizes S) (function_at S.code g).params g args t in
      let s0 = begun registers_and_slots (sizes S) (function_at S.code g).params g args s in
      let q = begun_same J g args t s h e in
      record {
        inner = en.inner;
        link = en.link;
        end = en.end;
        exit = en.exit;
        placed = en.placed;
        goes = came_like S [] (en.link ∷ []) m (spare 8 b) t0 s0 (S.enters g) 1 0 (Mach S en.inner t0) (Like (live_at S en.inner (function_at S.code g).body) (Mach S en.inner) s0) (ap (λ z. z.world) q)
            (λ m1 i. record { other = t0; same = same_of (live_at S en.inner (function_at S.code g).body) t0 s0 q; held = i }) en.goes;
        back = λ v m1 gv out.
            let r = back_same J x t s v h in
            let tb = back registers_and_slots x t v in
            let sb = back registers_and_slots x s v in
            came_like S (en.link ∷ []) [] m1 (begin (live_holder S) v) tb sb p 0 8 (Mach S κ tb) (Like (live_at S κ c) (Mach S κ) sb) (ap (λ z. z.world) r)
            (λ m2 i. record { other = tb; same = same_of (live_at S κ c) tb sb r; held = i }) (en.back v m1 gv out);
      }

  pub call_like : (functions : (g : ℕ) → Callable S g → FunctionAt S g) (κ : Ctx) (pc p : ℕ) (x : Option Where) (g : ℕ) (args : List Where) (c : NodesT Where) (s : State Where) (m : machine.State) (w : ℕ) → 3 * length args ≤ 4 + w → CallAt S κ.fn pc x g args p → m.counter ≡ pc →
      Like (live_at S κ (Call x g args c)) (Mach S κ) s m → CallSim (live_holder S) (shapes S) (Like (live_at S κ c) (Mach S κ)) p x g (spent w s) m (begin (live_holder S) s) ((lang S).enter g args (spent w s))
  call_like functions κ pc p x g args c s m w paid at e h =
      let t = h.other in
      let J = live_at S κ (Call x g args c) in
      let u = spent_same S κ J w t s h.same in
      let old = subst (λ b. CallSim (holder S) (shapes S) (Mach S κ) p x g (spent w h.other) m b ((lang S).enter g args (spent w h.other))) (begin_same S t s h.same.world) (call_sim S fits functions κ pc p x g args t m w paid at e h.held) in
      go (has_room (sizes S) g (spent w t).world.store) (has_room (sizes S) g (spent w s).world.store) (ap (λ z. has_room (sizes S) g z.store) u.world) u (cells_same J (spent w t) (spent w s) u args (all_read S κ.fn J args at.args_named (λ r i. i))) old
    where
      go : (y z : Bool) → y ≡ z → Same (live_at S κ (Call x g args c)) (spent w h.other) (spent w s) → map (spent w h.other).cells args ≡ map (spent w s).cells args →
          CallSim (holder S) (shapes S) (Mach S κ) p x g (spent w h.other) m (begin (live_holder S) s) (if_room y (spent w h.other) (begun registers_and_slots (sizes S) (function_at S.code g).params g args (spent w h.other))) →
          CallSim (live_holder S) (shapes S) (Like (live_at S κ c) (Mach S κ)) p x g (spent w s) m (begin (live_holder S) s) (if_room z (spent w s) (begun registers_and_slots (sizes S) (function_at S.code g).params g args (spent w s)))
      go y z q u cs f = subst (λ k. CallSim (live_holder S) (shapes S) (Like (live_at S κ c) (Mach S κ)) p x g (spent w s) m (begin (live_holder S) s) (if_room k (spent w s) (begun registers_and_slots (sizes S) (function_at S.code g).params g args (spent w s)))) q (case y f)
        where
          case : (y : Bool) → CallSim (holder S) (shapes S) (Mach S κ) p x g (spent w h.other) m (begin (live_holder S) s) (if_room y (spent w h.other) (begun registers_and_slots (sizes S) (function_at S.code g).params g args (spent w h.other))) →
              CallSim (live_holder S) (shapes S) (Like (live_at S κ c) (Mach S κ)) p x g (spent w s) m (begin (live_holder S) s) (if_room y (spent w s) (begun registers_and_slots (sizes S) (function_at S.code g).params g args (spent w s)))
          case true f = enters_like (live_at S κ (Call x g args c)) κ p x g args c (spent w h.other) (spent w s) m (begin (live_holder S) s) u cs f
          case false f = λ n. final_like S n m (begin (live_holder S) s) Deep Deep (spent w h.other) (spent w s) refl u.world (f n)

  pub jump_like : (κ : Ctx) (c : NodesT Where) (s : State Where) (m : machine.State) (pc to : ℕ) → Like (live_at S κ c) (Mach S κ) s m → m.counter ≡ pc → Jumps S.console.words pc to →
      Reaches 1 m s.world.store.answers [] (going_to to m) s.world.store.answers × Like (live_at S κ c) (Mach S κ) s (going_to to m)
  jump_like κ c s m pc to h e j =
      let g = jump_sim S fits κ h.other m pc to h.held e j in
      (subst (λ w. Reaches 1 m w.store.answers [] (going_to to m) w.store.answers) h.same.world g.0, record { other = h.other; same = h.same; held = g.1 })
