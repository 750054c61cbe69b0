-- The parts of placed code are followed by a machine that holds what is live.
use Rattle.std.proofs.Common.{◌≡◌, ℕ, zero, suc, ◌+◌, ◌<◌, ◌⊎◌, inl, inr, Bool, true, false, List, [], ◌∷◌, length, Option, Some, None, refl, sym, ap, ◌∙◌, subst, arith}
use Rattle.std.specs.Prelude.{◌==◌, ◌&&◌, ◌||◌, not}
use Rattle.std.proofs.lemmas.Bool.{eqb-true, eq-eqb}
use Rattle.v32_isa.specs.State as machine
use Rattle.v32_isa.specs.Runs as runs
use Rattle.v32_isa.specs.Calls.{Link}
use Rattle.v32_isa.proofs.Steps.{Moves}
use Rattle.obj_mem.specs.Runs.{Ending, Halted, Fault, Starved, Stray, Deep, OutOfBound}
use Rattle.obj_mem.specs.Worlds.{World}
use Rattle.mid_code.specs.declared.placed.Where.{Where}
use Rattle.mid_code.specs.declared.placed.Where.TheVariants.{Reg, Slot}
use Rattle.v32_isa.specs.declared.instruction.Two.TheVariants.{ISUB}
use Rattle.v32_isa.specs.State.{register_of}
use Rattle.mid_code.specs.Code.{OpT, LoadO, StoreO, TwoO, StepO, NodesT, Stop, Do, Call, Choose, Block, Loop, Leave, Again, Return, uses}
use Rattle.mid_code.specs.Invariants.{AllOf}
use Rattle.mid_code.specs.Meaning.{Did, On, Ends, Res, Next, Repeats, Returns, Over, then_next, did, turn_done, choose, does, below, node_weight}
use Rattle.mid_code.specs.States.{State, spent, word_tested}
use Rattle.asm_laws.specs.Live.{lasts, is_among, is_read, is_put, live, live_soon, ahead, live_at_copy, live_at_loop, copy_reads}
use Rattle.asm_laws.specs.inner.Following.{Begin, begin, CameBy, Stopped, Going, Final, Sim, DidBy, did_then, front_acts, at_front}
use Rattle.asm_laws.specs.Placing.{Bounds, begin_of, owed, due}
use Rattle.asm_laws.specs.Holds.{Setting, sizes, Named, Ctx, Stands, HoldsAt}
use Rattle.asm_laws.specs.Acting.{Fitting, FrontFits}
use Rattle.asm_laws.specs.Copies.{copy_of}
use Rattle.asm_laws.specs.Asks.{ask_of}
use Rattle.asm_laws.specs.declared.copying.Copying.{Copying}
use Rattle.asm_laws.specs.Calling.{Mach, Given, Same, Like, live_at, lang, holder, live_holder}
use Rattle.asm_laws.proofs.Asks.{no_ask, live_other}
use Rattle.asm_laws.proofs.Leads.{Copier, Filler, copying, filling, copy_turn, fill_turn}
use Rattle.asm_laws.proofs.Spared.{named_uses}
use Rattle.asm_laws.proofs.KnownWords.{AreOps}
use Rattle.asm_laws.proofs.Likeness.{Reads, DidSame, same_self, same_weaker, same_trans, cell_same, op_same}

pub or_second : (p q : Bool) → q ≡ true → p || q ≡ true
or_second true q e = refl
or_second false q e = e

pub or_first : (p q : Bool) → p ≡ true → p || q ≡ true
or_first p q e = ap (λ b. b || q) e

either : (p q : Bool) → p || q ≡ true → (p ≡ true) ⊎ (q ≡ true)
either true q e = inl refl
either false q e = inr e

-- ---- what is live

-- places that are named, of which the registers are among these
pub all_read : (S : Setting) (f : ℕ) (J : ℕ → Bool) (ps : List Where) → AllOf (Named S f) ps → ((r : ℕ) → is_among ps r ≡ true → J r ≡ true) → AllOf (Reads J) ps
all_read S f J [] named h = tt
all_read S f J (Reg q ∷ ps) named h = ((named.0, h q (or_first (q == q) (is_among ps q) (eq-eqb q q refl))), all_read S f J ps named.1 (λ r e. h r (or_second (q == r) (is_among ps r) e)))
all_read S f J (Slot k ∷ ps) named h = (tt, all_read S f J ps named.1 h)

-- those of an operation, and what comes behind it
pub op_reads : (S : Setting) (f : ℕ) (h : List Bool) (o : OpT Where) (c : NodesT Where) → Fitting S f o → AllOf (Reads (live h (Do o c))) (uses o)
op_reads S f h o c fit = all_read S f (live h (Do o c)) (uses o) (named_uses S f o fit) (λ r e. or_first (is_read o r) (not (is_put o r) && live h c r) e)

pub covers : (h : List Bool) (o : OpT Where) (c : NodesT Where) (r : ℕ) → live h c r ≡ true → (is_put o r ≡ true) ⊎ (live h (Do o c) r ≡ true)
covers h o c r e = go (is_put o r) refl
  where
    go : (b : Bool) → is_put o r ≡ b → (is_put o r ≡ true) ⊎ (live h (Do o c) r ≡ true)
    go true p = inl p
    go false p = inr (or_second (is_read o r) (not (is_put o r) && live h c r) ((λ i. not (p i) && live h c r) ∙ e))

and_more : (b p q : Bool) → (p ≡ true → q ≡ true) → b && p ≡ true → b && q ≡ true
and_more true p q f e = f e
and_more false p q f e = absurd cc

or_more : (b p q : Bool) → (p ≡ true → q ≡ true) → b || p ≡ true → b || q ≡ true
or_more true p q f e = refl
or_more false p q f e = f e

copy_more : (y : Option Copying) (r : ℕ) (p q : Bool) → (p ≡ true → q ≡ true) → live_at_copy y r p ≡ true → live_at_copy y r q ≡ true
copy_more None r p q f e = absurd cc
copy_more (Some y) r p q f e = or_more (copy_reads y r) (not (r == y.cell) && p) (not (r == y.cell) && q) (and_more (not (r == y.cell)) p q f) e

loop_more : (y : Option ℕ) (r : ℕ) (p q o s : Bool) → (p ≡ true → q ≡ true) → (o ≡ true → s ≡ true) → live_at_loop y r p o ≡ true → live_at_loop y r q s ≡ true
loop_more None r p q o s f g e = g e
loop_more (Some y) r p q o s f g e = and_more (not (r == y)) p q f e

-- what is live as so many nodes tell
pub soon_live : (n : ℕ) (h : List Bool) (c : NodesT Where) (r : ℕ) → live h c r ≡ true → live_soon n h c r ≡ true
soon_live zero h c r e = refl
soon_live (suc n) h Stop r e = e
soon_live (suc n) h (Do o c) r e =
    or_more (is_read o r) (not (is_put o r) && live h c r) (not (is_put o r) && live_soon n h c r) (and_more (not (is_put o r)) (live h c r) (live_soon n h c r) (λ q. soon_live n h c r q)) e
soon_live (suc n) h (Call t f args c) r e = e
soon_live (suc n) h (Choose p a b c) r e = refl
soon_live (suc n) h (Block b c) r e = soon_live n h b r e
soon_live (suc n) h (Loop b c) r e =
    loop_more (ask_of b) r (live h c r) (live_soon n h c r) (lasts h r || live_at_copy (copy_of b) r (live h c r)) (lasts h r || live_at_copy (copy_of b) r (live_soon n h c r)) (λ q. soon_live n h c r q)
    (or_more (lasts h r) (live_at_copy (copy_of b) r (live h c r)) (live_at_copy (copy_of b) r (live_soon n h c r)) (copy_more (copy_of b) r (live h c r) (live_soon n h c r) (λ q. soon_live n h c r q))) e
soon_live (suc n) h (Leave k c) r e = e
soon_live (suc n) h (Again k c) r e = e
soon_live (suc n) h (Return p c) r e = e

module _ (S : Setting) where
  pub like_self : (J : ℕ → Bool) (R : State Where → machine.State → Type 0) (s : State Where) (m : machine.State) → R s m → Like J R s m
  like_self J R s m h = record { other = s; same = same_self J s; held = h }

  pub like_weaker : (J K : ℕ → Bool) (R : State Where → machine.State → Type 0) (s : State Where) (m : machine.State) → ((r : ℕ) → r < 9 → K r ≡ true → J r ≡ true) → Like J R s m → Like K R s m
  like_weaker J K R s m f h = record { other = h.other; same = same_weaker J K h.other s f h.same; held = h.held }

  -- ---- from one holder to the other

  pub begin_same : (t s : State Where) → t.world ≡ s.world → begin (holder S) t ≡ begin (live_holder S) s
  begin_same t s e = λ i. record { answers = (e i).store.answers; events = (e i).events; work = (e i).work }

  pub came_like : (is js : List Link) (m : machine.State) (b : Begin) (t s : State Where) (pc least more : ℕ) (P Q : machine.State → Type 0) → t.world ≡ s.world → ((m1 : machine.State) → P m1 → Q m1) → CameBy is js (holder S) m b t pc least more P → CameBy is js (live_holder S) m b s pc least more Q
  came_like is js m b t s pc least more P Q e f c = record {
    steps = c.steps;
    made = c.made;
    to = c.to;
    by = subst (λ w. Moves is js c.steps m b.answers c.made c.to w.store.answers) e c.by;
    at = c.at;
    held = f c.to c.held;
    events = sym (ap (λ w. w.events) e) ∙ c.events;
    cost = let w = ap (λ w. w.work) e in let k = c.cost in omega (arith, w, k);
    many = c.many;
  }

  stopped_like : (m : machine.State) (b : Begin) (t s : State Where) (how : runs.End) → t.world ≡ s.world → Stopped (holder S) m b t how → Stopped (live_holder S) m b s how
  stopped_like m b t s how e c = record {
    steps = c.steps;
    made = c.made;
    to = c.to;
    by = c.by;
    nested = c.nested;
    held = (t, e, c.held);
    events = sym (ap (λ w. w.events) e) ∙ c.events;
    cost = let w = ap (λ w. w.work) e in let k = c.cost in omega (arith, w, k);
  }

  going_like : (m : machine.State) (b : Begin) (t s : State Where) (n : ℕ) → t.world ≡ s.world → Going (holder S) m b t n → Going (live_holder S) m b s n
  going_like m b t s n e c = record {
    steps = c.steps;
    made = c.made;
    to = c.to;
    left = c.left;
    by = c.by;
    nested = c.nested;
    events = sym (ap (λ w. w.events) e) ∙ c.events;
    cost = let w = ap (λ w. w.work) e in let k = c.cost in omega (arith, w, k);
    many = c.many;
  }

  pub final_like : (n : ℕ) (m : machine.State) (b : Begin) (f g : Ending) (t s : State Where) → f ≡ g → t.world ≡ s.world → Final (holder S) n m b f t → Final (live_holder S) n m b g s
  final_like n m b f g t s q e h = subst (λ z. Final (live_holder S) n m b z s) q (go f h)
    where
      go : (f : Ending) → Final (holder S) n m b f t → Final (live_holder S) n m b f s
      go Halted c = stopped_like m b t s runs.Halted e c
      go (Fault k) c = stopped_like m b t s (runs.Fault k) e c
      go Starved c = stopped_like m b t s runs.Starved e c
      go Stray c = going_like m b t s 0 e c
      go Deep c = going_like m b t s 0 e c
      go OutOfBound c = going_like m b t s n e c

  pub did_like : (J : ℕ → Bool) (m : machine.State) (b : Begin) (p : ℕ) (P Q : State Where → machine.State → Type 0) (d e : Did (State Where)) → DidSame J d e → ((t s : State Where) (m1 : machine.State) → Same J t s → P t m1 → Q s m1) → DidBy (holder S) m b p P d → DidBy (live_holder S) m b p Q e
  did_like J m b p P Q (On t) (On s) same f c = came_like [] [] m b t s p 0 0 (P t) (Q s) same.world (λ m1 h. f t s m1 same h) c
  did_like J m b p P Q (On t) (Ends g s) same f c = absurd same
  did_like J m b p P Q (Ends g t) (On s) same f c = absurd same
  did_like J m b p P Q (Ends g t) (Ends k s) same f c = λ n. final_like n m b g k t s same.0 same.1.world (c n)

  -- ---- operations

  -- what comes behind the first operations, so many
  unfoldable pub behind_front : NodesT Where → ℕ → NodesT Where
  behind_front (Do o c) zero = Do o c
  behind_front (Do o c) (suc k) = behind_front c k
  behind_front Stop k = Stop
  behind_front (Call t g args c) k = Call t g args c
  behind_front (Choose w x y c) k = Choose w x y c
  behind_front (Block b c) k = Block b c
  behind_front (Loop b c) k = Loop b c
  behind_front (Leave j c) k = Leave j c
  behind_front (Again j c) k = Again j c
  behind_front (Return w c) k = Return w c

  module _ (κ : Ctx) where
    then_same : (J K : ℕ → Bool) (d e : Did (State Where)) (go : State Where → Did (State Where)) → DidSame J d e → ((t s : State Where) → Same J t s → DidSame K (go t) (go s)) → DidSame K (did_then d go) (did_then e go)
    then_same J K (On t) (On s) go h f = f t s h
    then_same J K (On t) (Ends g s) go h f = absurd h
    then_same J K (Ends g t) (On s) go h f = absurd h
    then_same J K (Ends g t) (Ends k s) go h f = h

    pub spent_same : (J : ℕ → Bool) (n : ℕ) (t s : State Where) → Same J t s → Same J (spent n t) (spent n s)
    spent_same J n t s h = record { world = ap {A = World} (λ w. record w { work = w.work + n }) h.world; given = h.given; slots = h.slots; regs = h.regs }

    pub act_same : (o : OpT Where) (c : NodesT Where) (t s : State Where) → Fitting S κ.fn o → Same (live_at S κ (Do o c)) t s → DidSame (live_at S κ c) ((lang S).act o t) ((lang S).act o s)
    act_same o c t s fit h =
        op_same (sizes S) (live_at S κ (Do o c)) (live_at S κ c) o (spent _ t) (spent _ s) (spent_same (live_at S κ (Do o c)) _ t s h) (op_reads S κ.fn (S.whole.frames κ.fn).lasting o c fit) (λ r lt e. covers (S.whole.frames κ.fn).lasting o c r e)

    front_same : (c : NodesT Where) (k : ℕ) (t s : State Where) → FrontFits S κ.fn c k → Same (live_at S κ c) t s → DidSame (live_at S κ (behind_front c k)) (front_acts (lang S) c k t) (front_acts (lang S) c k s)
    unfolding behind_front
    front_same (Do o c) zero t s fit h = h
    front_same (Do o c) (suc k) t s fit h = then_same (live_at S κ c) (live_at S κ (behind_front c k)) _ _ (front_acts (lang S) c k) (act_same o c t s fit.0 h) (λ u v g. front_same c k u v fit.1 g)
    front_same Stop k t s fit h = h
    front_same (Call x g args c) k t s fit h = h
    front_same (Choose w x y c) k t s fit h = h
    front_same (Block b c) k t s fit h = h
    front_same (Loop b c) k t s fit h = h
    front_same (Leave j c) k t s fit h = h
    front_same (Again j c) k t s fit h = h
    front_same (Return w c) k t s fit h = h

    stands_like : (c : NodesT Where) (k : ℕ) (t s : State Where) (m : machine.State) → Same (live_at S κ (behind_front c k)) t s → at_front (holder S) κ c k t m → at_front (live_holder S) κ c k s m
    unfolding behind_front
    stands_like (Do o c) zero t s m g h = record { other = t; same = g; held = h }
    stands_like (Do o c) (suc k) t s m g h = stands_like c k t s m g h
    stands_like Stop k t s m g h = record { other = t; same = g; held = h }
    stands_like (Call x f args c) k t s m g h = record { other = t; same = g; held = h }
    stands_like (Choose w x y c) k t s m g h = record { other = t; same = g; held = h }
    stands_like (Block b c) k t s m g h = record { other = t; same = g; held = h }
    stands_like (Loop b c) k t s m g h = record { other = t; same = g; held = h }
    stands_like (Leave j c) k t s m g h = record { other = t; same = g; held = h }
    stands_like (Again j c) k t s m g h = record { other = t; same = g; held = h }
    stands_like (Return w c) k t s m g h = record { other = t; same = g; held = h }

    -- so many operations come first, and the machine holds what is live behind them
    ops_like : (k : ℕ) (c : NodesT Where) (t : State Where) (m : machine.State) → AreOps k c → Like (live_at S κ (behind_front c k)) (Mach S κ) t m → at_front (live_holder S) κ c k t m
    unfolding behind_front
    ops_like zero Stop t m a h = h
    ops_like zero (Do o c) t m a h = h
    ops_like zero (Call x f args c) t m a h = h
    ops_like zero (Choose w x y c) t m a h = h
    ops_like zero (Block b c) t m a h = h
    ops_like zero (Loop b c) t m a h = h
    ops_like zero (Leave j c) t m a h = h
    ops_like zero (Again j c) t m a h = h
    ops_like zero (Return w c) t m a h = h
    ops_like (suc k) (Do o c) t m a h = ops_like k c t m a.1 h
    ops_like (suc k) _ t m a h = absurd a

    -- how the machine stands behind operations that are done together: it holds the state, or what is asked for of it
    abbrev pub StoodBehind : NodesT Where → ℕ → State Where → machine.State → Type 0
    StoodBehind c k t m = at_front (holder S) κ c k t m ⊎ (AreOps k c × Like (live_soon ahead (S.whole.frames κ.fn).lasting (behind_front c k)) (Mach S κ) t m)

    stood_like : (c : NodesT Where) (k : ℕ) (t u : State Where) (m : machine.State) → Same (live_at S κ (behind_front c k)) t u → StoodBehind c k t m → at_front (live_holder S) κ c k u m
    stood_like c k t u m g (inl h) = stands_like c k t u m g h
    stood_like c k t u m g (inr h) =
        let d = behind_front c k in
        let soon = live_soon ahead (S.whole.frames κ.fn).lasting d in
        let w = h.1 in
        ops_like k c u m h.0 (record {
          other = w.other;
          same = same_trans (live_at S κ d) w.other t u (same_weaker soon (live_at S κ d) w.other t (λ r lt e. soon_live ahead (S.whole.frames κ.fn).lasting d r e) w.same) g;
          held = w.held;
        })

    pub op_like : (m : machine.State) (p more : ℕ) (o : OpT Where) (c : NodesT Where) (s : State Where) → Fitting S κ.fn o → FrontFits S κ.fn c more → (h : Like (live_at S κ (Do o c)) (Mach S κ) s m) →
        DidBy (holder S) m (begin (holder S) h.other) p (StoodBehind c more) (did_then ((lang S).act o h.other) (front_acts (lang S) c more)) →
        DidBy (live_holder S) m (begin (live_holder S) s) p (at_front (live_holder S) κ c more) (did_then ((lang S).act o s) (front_acts (lang S) c more))
    op_like m p more o c s fit front h d =
        did_like (live_at S κ (behind_front c more)) m (begin (live_holder S) s) p (StoodBehind c more) (at_front (live_holder S) κ c more) _ _
        (then_same (live_at S κ c) (live_at S κ (behind_front c more)) _ _ (front_acts (lang S) c more) (act_same o c h.other s fit h.same) (λ u v g. front_same c more u v front g))
        (λ t u m1 g e. stood_like c more t u m1 g e)
        (subst (λ b. DidBy (holder S) m b p (StoodBehind c more) (did_then ((lang S).act o h.other) (front_acts (lang S) c more))) (begin_same h.other s h.same.world) d)

    -- ---- loops that copy or fill, and results

    -- both go on alike; a turn may begin anew
    abbrev pub ResSame : (ℕ → Bool) → Res (State Where) → Res (State Where) → Type 0
    ResSame J (Next t) (Next s) = Same J t s
    ResSame J (Repeats zero t) (Repeats zero s) = Same J t s
    ResSame J (Returns t) (Returns s) = Same (λ r. false) t s
    ResSame J (Over f t) (Over g s) = (f ≡ g) × Same (λ r. false) t s
    ResSame J _ _ = ⊥

    pub did_same : (J K : ℕ → Bool) (d e : Did (State Where)) (go : State Where → Res (State Where)) → DidSame J d e → ((t s : State Where) → Same J t s → ResSame K (go t) (go s)) → ResSame K (did d go) (did e go)
    did_same J K (On t) (On s) go h f = f t s h
    did_same J K (On t) (Ends g s) go h f = absurd h
    did_same J K (Ends g t) (On s) go h f = absurd h
    did_same J K (Ends g t) (Ends k s) go h f = h

    next_same : (J K : ℕ → Bool) (d e : Res (State Where)) (go : State Where → Res (State Where)) → ResSame J d e → ((t s : State Where) → Same J t s → Same K t s) → ((t s : State Where) → Same J t s → ResSame K (go t) (go s)) → ResSame K (then_next d go) (then_next e go)
    next_same J K (Next t) (Next s) go h w f = f t s h
    next_same J K (Repeats zero t) (Repeats zero s) go h w f = w t s h
    next_same J K (Returns t) (Returns s) go h w f = h
    next_same J K (Over f t) (Over g s) go h w k = h
    next_same J K _ _ go h w f = absurd h

    -- nodes that read these and do not leave
    abbrev Simple : (ℕ → Bool) → NodesT Where → Type 0
    Simple J Stop = Unit {0}
    Simple J (Do o c) = AllOf (Reads J) (uses o) × Simple J c
    Simple J (Choose p a b c) = Reads J p × Simple J a × Simple J b × Simple J c
    Simple J (Again zero c) = Unit {0}
    Simple J _ = ⊥

    chosen_same : (J : ℕ → Bool) (x y : Option ℕ) (t s : State Where) (go other : State Where → Res (State Where)) → x ≡ y → Same J t s → (ResSame J (go t) (go s)) → (ResSame J (other t) (other s)) → ResSame J (choose x t go other) (choose y s go other)
    chosen_same J x y t s go other e h f g = subst (λ z. ResSame J (choose x t go other) (choose z s go other)) e (case x)
      where
        case : (x : Option ℕ) → ResSame J (choose x t go other) (choose x s go other)
        case None = (refl, same_weaker J (λ r. false) t s (λ r lt e. cc) h)
        case (Some zero) = g
        case (Some (suc v)) = f

    simple_same : (J : ℕ → Bool) (n : ℕ) (prev : NodesT Where → State Where → Res (State Where)) (c : NodesT Where) (t s : State Where) → Simple J c → Same J t s → ResSame J (does (lang S) n prev c t) (does (lang S) n prev c s)
    simple_same J n prev Stop t s c h = h
    simple_same J n prev (Do o c) t s q h =
        did_same J J _ _ (does (lang S) n prev c) (op_same (sizes S) J J o (spent _ t) (spent _ s) (spent_same J _ t s h) q.0 (λ r lt e. inr e)) (λ u v g. simple_same J n prev c u v q.1 g)
    simple_same J n prev (Choose p a b c) t s q h =
        let u = spent_same J node_weight t s h in
        next_same J J _ _ (does (lang S) n prev c) (chosen_same J _ _ (spent node_weight t) (spent node_weight s) (does (lang S) n prev a) (does (lang S) n prev b) (ap word_tested (cell_same J t s h p q.0)) u (simple_same J n prev a (spent node_weight t) (spent node_weight s) q.1 u) (simple_same J n prev b (spent node_weight t) (spent node_weight s) q.2 u))
        (λ u v g. g) (λ u v g. simple_same J n prev c u v q.3 g)
    simple_same J n prev (Again zero c) t s q h = spent_same J node_weight t s h
    simple_same J n prev (Again (suc k) c) t s q h = absurd q
    simple_same J n prev (Call x f args c) t s q h = absurd q
    simple_same J n prev (Block b c) t s q h = absurd q
    simple_same J n prev (Loop b c) t s q h = absurd q
    simple_same J n prev (Leave k c) t s q h = absurd q
    simple_same J n prev (Return p c) t s q h = absurd q

    pub none_of : (J : ℕ → Bool) (t s : State Where) → Same J t s → Same (λ r. false) t s
    none_of J t s h = record { world = h.world; given = h.given; slots = h.slots; regs = λ r lt e. cc }

    turn_same : (J : ℕ → Bool) (d e : Res (State Where)) (again : State Where → Res (State Where)) → ResSame J d e → ((t s : State Where) → Same J t s → ResSame J (again t) (again s)) → ResSame J (turn_done d again) (turn_done e again)
    turn_same J (Next t) (Next s) again h f = h
    turn_same J (Repeats zero t) (Repeats zero s) again h f = f t s h
    turn_same J (Returns t) (Returns s) again h f = h
    turn_same J (Over f t) (Over g s) again h k = h
    turn_same J _ _ again h f = absurd h

    -- turns that begin in such states
    module _ (b : NodesT Where) (A J : ℕ → Bool) (begins : (r : ℕ) → r < 9 → A r ≡ true → J r ≡ true)
        (turn : (n : ℕ) (prev : NodesT Where → State Where → Res (State Where)) (t s : State Where) → Same A t s → ResSame J (does (lang S) n prev b t) (does (lang S) n prev b s)) where
      pub loop_same : (n : ℕ) (t s : State Where) → Same A t s →
          ResSame J (turn_done (does (lang S) n (below (lang S) n) b (spent node_weight t)) (below (lang S) n (Loop b Stop))) (turn_done (does (lang S) n (below (lang S) n) b (spent node_weight s)) (below (lang S) n (Loop b Stop)))
      loop_same zero t s h =
          turn_same J _ _ (below (lang S) zero (Loop b Stop)) (turn zero (below (lang S) zero) (spent node_weight t) (spent node_weight s) (spent_same A node_weight t s h)) (λ u v g. (refl, none_of J u v g))
      loop_same (suc k) t s h =
          turn_same J _ _ (below (lang S) (suc k) (Loop b Stop)) (turn (suc k) (below (lang S) (suc k)) (spent node_weight t) (spent node_weight s) (spent_same A node_weight t s h))
          (λ u v g. next_same J J _ _ (does (lang S) k (below (lang S) k) Stop) (loop_same k u v (same_weaker J A u v begins g)) (λ x y i. i) (λ x y i. i))

    -- what such a loop reads is live before it
    module _ (b c : NodesT Where) (y : Copying) (is : copy_of b ≡ Some y) where
      abbrev A : ℕ → Bool
      A = live_at S κ (Loop b c)

      in_loop : (r : ℕ) → lasts (S.whole.frames κ.fn).lasting r || live_at_copy (copy_of b) r (live_at S κ c r) ≡ true → live_at S κ (Loop b c) r ≡ true
      in_loop r e = live_other (S.whole.frames κ.fn).lasting b c r (no_ask b y is) ∙ e

      pub reads_live : (r : ℕ) → copy_reads y r ≡ true → live_at S κ (Loop b c) r ≡ true
      reads_live r e = in_loop r (or_second (lasts (S.whole.frames κ.fn).lasting r) (live_at_copy (copy_of b) r (live_at S κ c r))
          (subst (λ z. live_at_copy z r (live_at S κ c r) ≡ true) (sym is) (or_first (copy_reads y r) (not (r == y.cell) && live_at S κ c r) e)))

      -- what is live behind it
      pub behind_live : (r : ℕ) → live_at S κ c r ≡ true → (r == y.cell) || live_at S κ (Loop b c) r ≡ true
      behind_live r e = go (r == y.cell) refl
        where
          go : (x : Bool) → (r == y.cell) ≡ x → (r == y.cell) || live_at S κ (Loop b c) r ≡ true
          go true q = or_first (r == y.cell) (live_at S κ (Loop b c) r) q
          go false q = or_second (r == y.cell) (live_at S κ (Loop b c) r) (in_loop r (or_second (lasts (S.whole.frames κ.fn).lasting r) (live_at_copy (copy_of b) r (live_at S κ c r))
              (subst (λ z. live_at_copy z r (live_at S κ c r) ≡ true) (sym is) (or_second (copy_reads y r) (not (r == y.cell) && live_at S κ c r) ((λ i. not (q i) && live_at S κ c r) ∙ e)))))

    abbrev pub cell_or : (cell : ℕ) → (ℕ → Bool) → ℕ → Bool
    cell_or cell A r = (r == cell) || A r

    cell_in : (A : ℕ → Bool) (cell : ℕ) → cell_or cell A cell ≡ true
    cell_in A cell = or_first (cell == cell) (A cell) (eq-eqb cell cell refl)

    in_cells : (A : ℕ → Bool) (cell r : ℕ) → A r ≡ true → cell_or cell A r ≡ true
    in_cells A cell r e = or_second (r == cell) (A r) e

    -- a turn of each kind, whose registers are low
    pub copy_turn_same : (v : Copier) (A : ℕ → Bool) → v.from < 9 → v.to < 9 → v.cell < 9 → v.count < 9 → v.one < 9 → ((r : ℕ) → copy_reads (copying v) r ≡ true → A r ≡ true) →
        (n : ℕ) (prev : NodesT Where → State Where → Res (State Where)) (t s : State Where) → Same A t s → ResSame (cell_or v.cell A) (does (lang S) n prev (copy_turn v) t) (does (lang S) n prev (copy_turn v) s)
    copy_turn_same v A lf lt lc ln lo reads n prev t s h =
        let J = cell_or v.cell A in
        let to_in = reads v.to (or_first (v.to == v.to) _ (eq-eqb v.to v.to refl)) in
        let from_in = reads v.from (or_second (v.from == v.to) _ (or_first (v.from == v.from) _ (eq-eqb v.from v.from refl))) in
        let count_in = reads v.count (or_second (v.count == v.to) _ (or_second (v.count == v.from) _ (or_first (v.count == v.count) _ (eq-eqb v.count v.count refl)))) in
        let one_in = reads v.one (or_second (v.one == v.to) _ (or_second (v.one == v.from) _ (or_second (v.one == v.count) _ (or_first (v.one == v.one) _ (eq-eqb v.one v.one refl))))) in
        let from_at : Reads J (Reg v.from) = (lf, in_cells A v.cell v.from from_in) in
        let to_at : Reads J (Reg v.to) = (lt, in_cells A v.cell v.to to_in) in
        let cell_at : Reads J (Reg v.cell) = (lc, cell_in A v.cell) in
        let count_at : Reads J (Reg v.count) = (ln, in_cells A v.cell v.count count_in) in
        let one_at : Reads J (Reg v.one) = (lo, in_cells A v.cell v.one one_in) in
        let rest = Do (StoreO (Reg v.to) (Reg v.cell)) (Do (TwoO ISUB (Reg v.count) (Reg v.count) (Reg v.one)) (Choose (Reg v.count) (Do (StepO (Reg v.from) (Reg v.from) (Reg v.one)) (Do (StepO (Reg v.to) (Reg v.to) (Reg v.one)) (Again zero Stop))) Stop Stop)) in
        let simple : Simple J rest = ((to_at, (cell_at, tt)), ((count_at, (one_at, tt)), (count_at, ((from_at, (one_at, tt)), ((to_at, (one_at, tt)), tt)), tt, tt))) in
        did_same J J _ _ (does (lang S) n prev rest)
        (op_same (sizes S) A J (LoadO (Reg v.cell) (Reg v.from)) (spent _ t) (spent _ s) (spent_same A _ t s h) ((lf, from_in), tt) (λ r lt2 e. elim (either (r == v.cell) (A r) e) [ inl q ↦ inl (or_first (v.cell == r) false (eq-eqb v.cell r (sym (eqb-true r v.cell q)))) | inr q ↦ inr q ]))
        (λ u w g. simple_same J n prev rest u w simple g)

    pub fill_turn_same : (v : Filler) (A : ℕ → Bool) → v.to < 9 → v.cell < 9 → v.count < 9 → v.one < 9 → ((r : ℕ) → copy_reads (filling v) r ≡ true → A r ≡ true) →
        (n : ℕ) (prev : NodesT Where → State Where → Res (State Where)) (t s : State Where) → Same A t s → ResSame (cell_or v.cell A) (does (lang S) n prev (fill_turn v) t) (does (lang S) n prev (fill_turn v) s)
    fill_turn_same v A lt lc ln lo reads n prev t s h =
        let J = cell_or v.cell A in
        let to_in = reads v.to (or_first (v.to == v.to) _ (eq-eqb v.to v.to refl)) in
        let count_in = reads v.count (or_second (v.count == v.to) _ (or_first (v.count == v.count) _ (eq-eqb v.count v.count refl))) in
        let one_in = reads v.one (or_second (v.one == v.to) _ (or_second (v.one == v.count) _ (or_first (v.one == v.one) _ (eq-eqb v.one v.one refl)))) in
        let to_at : Reads J (Reg v.to) = (lt, in_cells A v.cell v.to to_in) in
        let cell_at : Reads J (Reg v.cell) = (lc, cell_in A v.cell) in
        let count_at : Reads J (Reg v.count) = (ln, in_cells A v.cell v.count count_in) in
        let one_at : Reads J (Reg v.one) = (lo, in_cells A v.cell v.one one_in) in
        let simple : Simple J (fill_turn v) = ((to_at, (cell_at, tt)), ((count_at, (one_at, tt)), (count_at, ((to_at, (one_at, tt)), tt), tt, tt))) in
        let cell_here = reads v.cell (or_second (v.cell == v.to) _ (or_second (v.cell == v.count) _ (or_second (v.cell == v.one) _ (eq-eqb v.cell v.cell refl)))) in
        simple_same J n prev (fill_turn v) t s simple (same_weaker A J t s (λ r lt2 e. elim (either (r == v.cell) (A r) e) [ inl q ↦ ap A (eqb-true r v.cell q) ∙ cell_here | inr q ↦ q ]) h)

    -- ---- from one holder to the other

    pub given_like : (t s : State Where) (m : machine.State) → Same (λ r. false) t s → Given S κ t m → Given S κ s m
    given_like t s m h g = record {
      place = g.place;
      cells = g.cells;
      words = g.words;
      at = subst (λ w. HoldsAt S κ w.store g.cells g.place g.words) h.world g.at;
      registers = g.registers;
      like = g.like;
      held = g.held;
      given = subst (λ w. Stands (length w.store.objects) g.place s.given (register_of m 9)) h.world (subst (λ c. Stands (length t.world.store.objects) g.place c (register_of m 9)) h.given g.given);
    }

    pub sim_like : (J : ℕ → Bool) (P Q : State Where → machine.State → Type 0) (m : machine.State) (b : Begin) (e n : ℕ) (ls : List Bounds) (d r : Res (State Where)) → ResSame J d r → ((t s : State Where) (m1 : machine.State) → Same J t s → P t m1 → Q s m1) →
        ((r : ℕ) → live_at S κ Stop r ≡ true → J r ≡ true) → Sim (holder S) κ P m b e n ls d → Sim (live_holder S) κ Q m b e n ls r
    sim_like J P Q m b e n ls (Next t) (Next s) h f w c = came_like [] [] m b t s e 0 0 (P t) (Q s) h.world (λ m1 p. f t s m1 h p) c
    sim_like J P Q m b e n ls (Repeats zero t) (Repeats zero s) h f w c =
        came_like [] [] m b t s (begin_of ls zero) (due (owed ls zero)) 0 (Mach S κ t) (Like (live_at S κ Stop) (Mach S κ) s) h.world (λ m1 p. record { other = t; same = same_weaker J (live_at S κ Stop) t s (λ r lt e. w r e) h; held = p }) c
    sim_like J P Q m b e n ls (Returns t) (Returns s) h f w (q, x, c) = (q, x, came_like [] [] m b t s q 0 0 (Given S κ t) (Given S κ s) h.world (λ m1 g. given_like t s m1 h g) c)
    sim_like J P Q m b e n ls (Over g t) (Over k s) h f w c = final_like n m b g k t s h.0 h.1.world c
    sim_like J P Q m b e n ls _ _ h f w c = absurd h
