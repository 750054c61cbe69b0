-- The parts of placed code but calls are followed.
use Rattle.std.proofs.Common.{◌≡◌, ℕ, zero, suc, ◌+◌, ◌<◌, ◌≤◌, ◌⊎◌, inl, inr, Bool, true, false, cond, List, [], ◌∷◌, ◌++◌, length, Option, Some, None, refl, sym, ap, ◌∙◌, subst, arith, append-nil}
use Rattle.std.specs.Prelude.{if◌then◌else◌, ◌==◌, ◌&&◌, not, get_or, option_map}
use Rattle.either.specs.declared.Either.TheVariants.{Left}
use Rattle.kit_base.specs.Word.{add, sub}
use Rattle.v32_isa.specs.declared.instruction.Go.TheVariants.{JMP}
use Rattle.v32_isa.specs.declared.instruction.Branch.TheVariants.{JT, JF}
use Rattle.v32_isa.specs.declared.instruction.Src.TheVariants as src
use Rattle.v32_isa.specs.declared.instruction.Mov.TheVariants.{RegAtOff}
use Rattle.v32_isa.specs.declared.instruction.Instr.{Instr}
use Rattle.v32_isa.specs.declared.instruction.Two.TheVariants.{IADD, ISUB}
use Rattle.v32_isa.specs.declared.instruction.Instr.TheVariants as instr
use Rattle.v32_isa.specs.declared.stepped.Stepped.TheVariants as stepped
use Rattle.v32_isa.specs.State.{register_of, going_to, written}
use Rattle.v32_isa.specs.Arithmetic.{two_of}
use Rattle.v32_isa.specs.declared.instruction.Two.{Two as TwoOf}
use Rattle.kit_base.specs.declared.event.Event.TheVariants as event
use Rattle.std.proofs.lemmas.Bool.{eqb-true, eqb-false}
use Rattle.asm_items.specs.declared.item.AsmItem.TheVariants as item
use Rattle.mid_code.specs.Code.{uses, maybe}
use Rattle.mid_code.specs.Invariants.{AllOf}
use Rattle.v32_isa.specs.State as machine
use Rattle.v32_isa.specs.Machine.{act, effect_of}
use Rattle.v32_isa.specs.Machine.Effect.{Ends as EndsIn}
use Rattle.v32_isa.specs.Calls.{turn}
use Rattle.v32_isa.specs.Calls.Turn.{Other as Onwards}
use Rattle.v32_isa.specs.Runs.{run}
use Rattle.v32_isa.specs.Runs as runs
use Rattle.v32_isa.proofs.Steps.{Reaches, reaches_here, reaches_on, reaches_went, nested_none}
use Rattle.obj_mem.specs.declared.cell.Cell.{Cell}
use Rattle.obj_mem.specs.declared.cell.Cell.TheVariants.{Unwritten, Num, Ptr, Null}
use Rattle.obj_mem.specs.Runs.{Ending, Halted, Fault, Starved, Stray, Deep, OutOfBound}
use Rattle.asm_items.specs.Items.{Imm}
use Rattle.mid_code.specs.declared.placed.Where.{Where}
use Rattle.mid_code.specs.declared.placed.Where.TheVariants.{Reg, Slot}
use Rattle.mid_code.specs.Code.{NodesT, Stop, Do, Call, Choose, Block, Loop, Leave, Again, Return, OpT, ConstO, NullO, MoveO, OneO, TwoO, GlobalO, LocalO, LiteralO, CardO, StepO, ApartO, PtrTestO, LoadO, StoreO, FreshO, EndO, InO, OutO, WaitO, HaltO}
use Rattle.mid_code.specs.Meaning.{Did, On, Ends, node_weight}
use Rattle.mid_code.specs.States.{State, spent, op_weight, word_tested, registers_and_slots, acted}
use Rattle.asm_laws.specs.Operations.{Frame, fetch, hand, word_put, summed, first_place, unturned, copied, copied_address, with_copy, with_sum, with_word, addend, using_it, is_spared, with_known, with_more, with_next, before_it, one_or_more, more_of, op_items}
use Rattle.asm_laws.specs.declared.used.Used.{Used}
use Rattle.asm_laws.specs.declared.used.Used.TheVariants.{Computed, Loaded, Indexed, Offset, Element, Stored, Sent}
use Rattle.asm_laws.specs.Spare.{beside, operand, in_slots, at_address, at_sum, index, index_behind, indexed, offset_load, offset_sum, offset_step, offset_behind, offset, adds, element_behind, element, or_else, used_by, puts, Stays, Sparing}
use Rattle.asm_laws.specs.Spare as groups
use Rattle.asm_laws.specs.Pieces.{register, is_in, turned, other_word, loads_there}
use Rattle.asm_laws.specs.Placing.{Line, Jumps, Passes}
use Rattle.asm_laws.specs.inner.Following.{Begin, begin, spare, Came, Stopped, DidBy, DidSim, TestSim, did_then, front_acts}
use Rattle.asm_laws.specs.Standing.{Stand}
use Rattle.asm_laws.specs.Tests.{Tests}
use Rattle.asm_laws.specs.Addresses.{Addr, Does, Console, readable, writable, word_of, put, having, Room, Good, GoodOp, computed, loaded, saved, Held, Follows, does}
use Rattle.asm_laws.specs.Addresses as words
use Rattle.asm_laws.proofs.Stepping.{same_or_not, written_same, written_other, line_effect, line_turn, took, scratch, moved, reg_same, fetches_so}
use Rattle.asm_laws.proofs.Control.{earlier_did}
use Rattle.asm_laws.proofs.Hands.{with_reg, hand_fits, brings_at}
use Rattle.asm_laws.proofs.OperationsStep.{op_follows, sum_turned, TurnsTo, turns}
use Rattle.asm_laws.proofs.Lists.{below_or_not}
use Rattle.asm_laws.proofs.Alongside.{Alongside, word_alike, written_alike, computed_alike, loaded_alike, saved_alike, does_alongside}
use Rattle.asm_laws.proofs.Spared.{FrontStays, other_stays, uses_stay, old_stays, spared_is}
use Rattle.asm_laws.proofs.UsedStep.{address_with, sum_made, computed_follows, loaded_follows, before_load, indexed_follows, stored_follows, sent_follows}
use Rattle.asm_laws.proofs.InOneStep.{both, twice, Sums, sums, lea_follows, load_follows, Copies, copies, Stepped, step_is, two_copied, step_copied, load_copied}
use Rattle.asm_laws.specs.Holds.{Setting, sizes, Named, Fits, Ctx, Stands}
use Rattle.asm_laws.specs.Acting.{Holds, DoesAs, Fitting, FrontFits}
use Rattle.asm_laws.specs.Calling.{Mach, Given, ExitAt, lang, holder, GivingAt, shapes}
use Rattle.asm_laws.proofs.First.{good, room, word_stands}
use Rattle.asm_laws.proofs.Ops.{acts}

jump_effect : (m : machine.State) (to next : ℕ) → act (instr.Go JMP (src.Imm to)) next m ≡ EndsIn stepped.Went (going_to to m)
unfolding act
jump_effect m to next = refl

-- one jump
pub jump_reaches : (C : Console) (a : Addr) (m : machine.State) (xs : List ℕ) (pc to : ℕ) → Held C a m → m.counter ≡ pc → Jumps C.words pc to → Reaches 1 m xs [] (going_to to m) xs
jump_reaches C a m xs pc to h e j = reaches_went m (going_to to m) xs (line_effect C a m pc (instr.Go JMP (src.Imm to)) j.0 h e j.1 (omega arith, omega arith, omega arith) ∙ jump_effect m to j.0) (line_turn C a m pc (instr.Go JMP (src.Imm to)) j.0 h e j.1 (omega arith, omega arith, omega arith))

not_zero : (v a b : ℕ) → (if suc v == 0 then a else b) ≡ b
not_zero v a b = elim (same_or_not (suc v) 0) [ inl x ↦ absurd (omega (arith, x.0)) | inr x ↦ ap (λ t. if t then a else b) x.1 ]

branch_effect : (m : machine.State) (r to next v : ℕ) → register_of m r ≡ v → act (instr.Branch JF r (src.Imm to)) next m ≡ EndsIn stepped.Went (going_to (if v == 0 then to else next) m)
unfolding act
branch_effect m r to next v is = rw is refl

when_effect : (m : machine.State) (r to next v : ℕ) → register_of m r ≡ v → act (instr.Branch JT r (src.Imm to)) next m ≡ EndsIn stepped.Went (going_to (if v == 0 then next else to) m)
unfolding act
when_effect m r to next v is = rw is refl

-- the machine stands at an address, by a jump or without one
pub record Gone (C : Console) (a : Addr) (m : machine.State) (xs : List ℕ) (to : ℕ) : Type 0 where
  pub steps : ℕ
  pub there : machine.State
  pub by : Reaches steps m xs [] there xs
  pub at : there.counter ≡ to
  pub held : Held C a there
  pub nine : register_of there 9 ≡ register_of m 9
  pub few : steps ≤ 1

nine_same : (m : machine.State) (to : ℕ) → register_of (going_to to m) 9 ≡ register_of m 9
nine_same m to = refl

pub gone : (C : Console) (a : Addr) (m : machine.State) (xs : List ℕ) (pc to : ℕ) → Held C a m → m.counter ≡ pc → Passes C.words pc to → Gone C a m xs to
gone C a m xs pc to h e (inl j) = record { steps = 1; there = going_to to m; by = jump_reaches C a m xs pc to h e j; at = refl; held = moved C a m to h; nine = nine_same m to; few = omega arith }
gone C a m xs pc to h e (inr q) = record { steps = 0; there = m; by = reaches_here m xs; at = e ∙ q; held = h; nine = refl; few = omega arith }

module _ (S : Setting) (fits : Fits S) where
  abbrev C : Console
  C = S.console

  abbrev Of : Ctx → Frame
  Of κ = S.whole.frames κ.fn

  -- ---- operations

  good_op : (κ : Ctx) (o : OpT Where) → Fitting S κ.fn o → GoodOp (Of κ) o
  good_op κ (ConstO t n) g = good S fits κ t g
  good_op κ (NullO t) g = good S fits κ t g
  good_op κ (MoveO t p) g = (good S fits κ t g.0, good S fits κ p g.1)
  good_op κ (OneO o t p) g = (g.0, good S fits κ t g.1, good S fits κ p g.2)
  good_op κ (TwoO o t p q) g = (good S fits κ t g.0, good S fits κ p g.1, good S fits κ q g.2)
  good_op κ (GlobalO t k) g = good S fits κ t g.0
  good_op κ (LocalO t k) g = (good S fits κ t g.0, g.2)
  good_op κ (LiteralO t k) g = good S fits κ t g.0
  good_op κ (CardO t) g = good S fits κ t g
  good_op κ (StepO t p n) g = (good S fits κ t g.0, good S fits κ p g.1, good S fits κ n g.2)
  good_op κ (ApartO t p q) g = (good S fits κ t g.0, good S fits κ p g.1, good S fits κ q g.2)
  good_op κ (PtrTestO o t p q) g = (good S fits κ t g.1, good S fits κ p g.2, good S fits κ q g.3)
  good_op κ (LoadO t p) g = (good S fits κ t g.0, good S fits κ p g.1)
  good_op κ (StoreO p q) g = (good S fits κ p g.0, good S fits κ q g.1)
  good_op κ (FreshO k) g = tt
  good_op κ (EndO k) g = tt
  good_op κ (InO t port) g = (good S fits κ t g.0, g.1, g.2)
  good_op κ (OutO port p) g = (good S fits κ p g.0, g.1, g.2)
  good_op κ WaitO g = tt
  good_op κ HaltO g = tt

  abbrev Number : Ctx → ℕ
  Number κ = (S.whole.frames κ.fn).registers

  abbrev AreLike : Ctx → (ℕ → ℕ) → Addr → Type 0
  AreLike κ registers a = (r : ℕ) → r < (S.whole.frames κ.fn).registers → registers r ≡ a.regs r

  pub stopped : (κ : Ctx) (s t : State Where) (m : machine.State) (a : Addr) (registers : ℕ → ℕ) (w : ℕ) (f : Ending) (how end : runs.End) → AreLike κ registers a → how ≡ end → Holds S κ t a → t.world.events ≡ s.world.events → t.world.work ≡ s.world.work + w → words.HasEnded C w m s.world.store.answers how (having registers a) → Stopped (holder S) m (begin (holder S) s) t end
  stopped κ s t m a registers w f how end like e h ev wk f1 = record {
    steps = f1.steps;
    made = [];
    to = f1.to;
    nested = f1.nested;
    by = λ n. f1.by n ∙ ap (λ x. record { events = []; end = x; state = f1.to }) e;
    held = record { context = κ; shown = f1.shown; mach = record { place = h.place; words = a; at = h.at; registers = registers; like = like; held = f1.held }; memory = f1.memory };
    events = ev ∙ sym (append-nil s.world.events);
    cost = omega (arith, f1.few, wk);
  }

  -- what the words do is what is done to the state, where the machine's words do the same
  join : (κ : Ctx) (s : State Where) (m : machine.State) (a : Addr) (registers : ℕ → ℕ) (w p : ℕ) (d : Did (State Where)) (e g : Does) → AreLike κ registers a → DoesAs S κ (spent w s) a d e → Alongside (Number κ) e g → Follows C w m s.world.store.answers p (having registers a) g → DidSim (holder S) κ m (begin (holder S) s) p d
  join κ s m a registers w p (On t) (words.Goes es ys b) (words.Goes fs zs c) like g al f = record {
    steps = f.steps;
    made = fs;
    to = f.to;
    by = subst (λ xs. Reaches f.steps m s.world.store.answers fs f.to xs) (al.1 ∙ g.answers) f.by;
    at = f.at;
    held = record { place = g.holds.place; words = b; at = g.holds.at; registers = c.regs; like = al.2.regs; held = subst (λ z. Held C z f.to) al.2.same f.held };
    events = g.events ∙ ap (λ z. s.world.events ++ z) (sym al.0);
    cost = omega (arith, f.few, g.work);
    many = omega arith;
  }
  join κ s m a registers w p (On t) (words.Goes es ys b) (words.Ends how) like g al f = absurd al
  join κ s m a registers w p (On t) (words.Ends how) e like g al f = absurd g
  join κ s m a registers w p (Ends Stray t) d e like g al f = λ n. record { steps = 0; made = []; to = m; left = s.world.store.answers; by = (reaches_here m s.world.store.answers).runs; nested = λ ls. nested_none ls m s.world.store.answers; events = g.0 ∙ sym (append-nil s.world.events); cost = omega (arith, g.1); many = omega arith }
  join κ s m a registers w p (Ends Halted t) (words.Goes es ys b) e like g al f = absurd g
  join κ s m a registers w p (Ends Halted t) (words.Ends how) (words.Goes fs zs c) like g al f = absurd al
  join κ s m a registers w p (Ends Halted t) (words.Ends how) (words.Ends end) like g al f = λ n. stopped κ s t m a registers w Halted end runs.Halted like (al ∙ g.same) g.holds g.events g.work f
  join κ s m a registers w p (Ends (Fault k) t) (words.Goes es ys b) e like g al f = absurd g
  join κ s m a registers w p (Ends (Fault k) t) (words.Ends how) (words.Goes fs zs c) like g al f = absurd al
  join κ s m a registers w p (Ends (Fault k) t) (words.Ends how) (words.Ends end) like g al f = λ n. stopped κ s t m a registers w (Fault k) end (runs.Fault k) like (al ∙ g.same) g.holds g.events g.work f
  join κ s m a registers w p (Ends Starved t) (words.Goes es ys b) e like g al f = absurd g
  join κ s m a registers w p (Ends Starved t) (words.Ends how) (words.Goes fs zs c) like g al f = absurd al
  join κ s m a registers w p (Ends Starved t) (words.Ends how) (words.Ends end) like g al f = λ n. stopped κ s t m a registers w Starved end runs.Starved like (al ∙ g.same) g.holds g.events g.work f
  join κ s m a registers w p (Ends Deep t) (words.Goes es ys b) e like g al f = absurd g
  join κ s m a registers w p (Ends Deep t) (words.Ends how) e like g al f = absurd g.same
  join κ s m a registers w p (Ends OutOfBound t) (words.Goes es ys b) e like g al f = absurd g
  join κ s m a registers w p (Ends OutOfBound t) (words.Ends how) e like g al f = absurd g.same

  -- an operation whose words come first, and then those of the operations behind it, where the machine has not gone on yet
  pub passes_by : (κ : Ctx) (R : State Where → machine.State → Type 0) (s : State Where) (m : machine.State) (a b : Addr) (w p : ℕ) (d : Did (State Where)) (go : State Where → Did (State Where)) → DoesAs S κ (spent w s) a d (words.Goes [] s.world.store.answers b) →
      ((t : State Where) → Holds S κ t b → DidBy (holder S) m (begin (holder S) t) p R (go t)) → DidBy (holder S) m (begin (holder S) s) p R (did_then d go)
  passes_by κ R s m a b w p (On t) go g f = earlier_did (lang S) (holder S) m (begin (holder S) s) (begin (holder S) t) p R (go t) (sym g.answers) (g.events ∙ append-nil s.world.events) (let n = g.work in omega (arith, n)) (f t g.holds)
  passes_by κ R s m a b w p (Ends Stray t) go g f = λ n. record { steps = 0; made = []; to = m; left = s.world.store.answers; by = (reaches_here m s.world.store.answers).runs; nested = λ ls. nested_none ls m s.world.store.answers; events = g.0 ∙ sym (append-nil s.world.events); cost = omega (arith, g.1); many = omega arith }
  passes_by κ R s m a b w p (Ends Halted t) go g f = absurd g
  passes_by κ R s m a b w p (Ends (Fault k) t) go g f = absurd g
  passes_by κ R s m a b w p (Ends Starved t) go g f = absurd g
  passes_by κ R s m a b w p (Ends Deep t) go g f = absurd g
  passes_by κ R s m a b w p (Ends OutOfBound t) go g f = absurd g

  passes : (κ : Ctx) (s : State Where) (m : machine.State) (a b : Addr) (w p : ℕ) (d : Did (State Where)) (go : State Where → Did (State Where)) → DoesAs S κ (spent w s) a d (words.Goes [] s.world.store.answers b) →
      ((t : State Where) → Holds S κ t b → DidSim (holder S) κ m (begin (holder S) t) p (go t)) → DidSim (holder S) κ m (begin (holder S) s) p (did_then d go)
  passes κ s m a b w p d go g f = passes_by κ (Mach S κ) s m a b w p d go g f

  -- the last one, whose words the machine makes in such a way
  last_by : (κ : Ctx) (p : ℕ) (o : OpT Where) (s : State Where) (m : machine.State) (a : Addr) (registers : ℕ → ℕ) (e : Does) → AreLike κ registers a → (h : Holds S κ s a) → Fitting S κ.fn o →
      Alongside (Number κ) (does C S.address S.whole (Of κ) o s.world.store.answers a) e → Follows C (op_weight o) m s.world.store.answers p (having registers a) e → DidSim (holder S) κ m (begin (holder S) s) p ((lang S).act o s)
  last_by κ p o s m a registers e like h fit al f =
      let s1 = spent (op_weight o) s in
      join κ s m a registers (op_weight o) p (acted registers_and_slots (sizes S) o s1) (does C S.address S.whole (Of κ) o s.world.store.answers a) e like (acts S fits κ s1 h.place a h.at o fit) al f

  last_sim : (κ : Ctx) (p : ℕ) (o : OpT Where) (s : State Where) (m : machine.State) (a : Addr) (registers : ℕ → ℕ) → AreLike κ registers a → (h : Holds S κ s a) → Fitting S κ.fn o → AllOf (Stays (Number κ)) (uses o) →
      Follows C (op_weight o) m s.world.store.answers p (having registers a) (does C S.address S.whole (Of κ) o s.world.store.answers (having registers a)) → DidSim (holder S) κ m (begin (holder S) s) p ((lang S).act o s)
  last_sim κ p o s m a registers like h fit stays f =
      last_by κ p o s m a registers (does C S.address S.whole (Of κ) o s.world.store.answers (having registers a)) like h fit (does_alongside C S.address S.whole (Of κ) (Number κ) a registers like o s.world.store.answers stays) f

  pub none_more : (c : NodesT Where) (t : State Where) → front_acts (lang S) c zero t ≡ On t
  none_more Stop t = refl
  none_more (Do o c) t = refl
  none_more (Call r g args c) t = refl
  none_more (Choose w x y c) t = refl
  none_more (Block b c) t = refl
  none_more (Loop b c) t = refl
  none_more (Leave j c) t = refl
  none_more (Again j c) t = refl
  none_more (Return w c) t = refl

  alone : (κ : Ctx) (m : machine.State) (b : Begin) (p : ℕ) (c : NodesT Where) (d : Did (State Where)) → DidSim (holder S) κ m b p d → DidSim (holder S) κ m b p (did_then d (front_acts (lang S) c zero))
  alone κ m b p c (On t) a = subst (λ r. DidSim (holder S) κ m b p r) (sym (none_more c t)) a
  alone κ m b p c (Ends f t) a = a

  module _ (κ : Ctx) (pc p : ℕ) (s : State Where) (m : machine.State) (e : m.counter ≡ pc) (h : Mach S κ s m) where
    abbrev a : Addr
    a = h.words

    -- the words of the machine
    abbrev b : Addr
    b = having h.registers h.words

    abbrev xs : List ℕ
    xs = s.world.store.answers

    -- where these items stand, so many operations are done
    abbrev Done : OpT Where → NodesT Where → Option (ℕ × Option (Instr Imm) × Instr Imm) → Type 0
    Done o c x = FrontFits S κ.fn c (more_of x) → Stand C.words S.address pc (one_or_more S.whole (Of κ) o x) p → DidSim (holder S) κ m (begin (holder S) s) p (did_then ((lang S).act o s) (front_acts (lang S) c (more_of x)))

    -- and where the words that they read stay
    abbrev Ready : OpT Where → NodesT Where → Option (ℕ × Option (Instr Imm) × Instr Imm) → Type 0
    Ready o c x = FrontStays (Number κ) (Do o c) (suc (more_of x)) → Done o c x

    -- the words of the address at hand
    roomy : Room (Of κ) b
    roomy = let r = room S fits κ s.world.store s.cells h.place h.words h.at in record { top = r.top; low = r.low; high = r.high }

    one_done : (o : OpT Where) (c : NodesT Where) → Fitting S κ.fn o → AllOf (Stays (Number κ)) (uses o) → Done o c None
    one_done o c fit stays ff st =
        alone κ m (begin (holder S) s) p c ((lang S).act o s)
        (last_sim κ p o s m a h.registers h.like (record { place = h.place; at = h.at }) fit stays (op_follows C S.address S.whole (Of κ) b roomy o m xs pc p (good_op κ o fit) h.held e st))

    -- the first operation puts a word into a register
    abbrev Puts : OpT Where → (k w : ℕ) → Type 0
    Puts o k w = (ys : List ℕ) → does C S.address S.whole (Of κ) o ys a ≡ words.Goes [] ys (with_reg k w a)

    put_done : (o : OpT Where) (k w : ℕ) (go : State Where → Did (State Where)) → Fitting S κ.fn o → Puts o k w → ((t : State Where) → Holds S κ t (with_reg k w a) → DidSim (holder S) κ m (begin (holder S) t) p (go t)) →
        DidSim (holder S) κ m (begin (holder S) s) p (did_then ((lang S).act o s) go)
    put_done o k w go fit puts f =
        let s1 = spent (op_weight o) s in
        passes κ s m a (with_reg k w a) (op_weight o) p (acted registers_and_slots (sizes S) o s1) go (subst (λ d. DoesAs S κ s1 a (acted registers_and_slots (sizes S) o s1) d) (puts xs) (acts S fits κ s1 h.place a h.at o fit)) f

    -- the words are alike then
    put_like : (k w : ℕ) → AreLike κ (written h.registers k w) (with_reg k w a)
    put_like k w r lt = written_alike C S.address S.whole (Of κ) (Number κ) a h.registers h.like k w r lt

    next_like : (k w : ℕ) (u : OpT Where) (ys : List ℕ) (c d : Addr) → AllOf (Stays (Number κ)) (uses u) → does C S.address S.whole (Of κ) u ys (with_reg k w a) ≡ words.Goes [] ys c → does C S.address S.whole (Of κ) u ys (with_reg k w b) ≡ words.Goes [] ys d → AreLike κ d.regs c
    next_like k w u ys c d stays ec ed =
        let al = does_alongside C S.address S.whole (Of κ) (Number κ) (with_reg k w a) (written h.registers k w) (put_like k w) u ys stays in
        (subst (λ z. Alongside (Number κ) z (words.Goes [] ys d)) ec (subst (λ z. Alongside (Number κ) (does C S.address S.whole (Of κ) u ys (with_reg k w a)) z) ed al)).2.regs

    -- a sum that an operation makes of the word put before
    abbrev MakesSum : OpT Where → (k w q v : ℕ) → Type 0
    MakesSum u k w q v = (c : Addr) → Fitting S κ.fn u → Sums C S.address S.whole (Of κ) c k w u q v

    two_done : (o u : OpT Where) (c : NodesT Where) (k w q v : ℕ) → k < 9 → Fitting S κ.fn o → Puts o k w → MakesSum u k w q v → Ready o (Do u c) (Some (1, None, instr.Lea (register k) q (Some (Left v))))
    two_done o u c k w q v lt fit puts is stays ff st =
        put_done o k w (front_acts (lang S) (Do u c) 1) fit puts (λ t ht. alone κ m (begin (holder S) t) p c ((lang S).act u t)
        (last_sim κ p u t m (with_reg k w a) (written h.registers k w) (put_like k w) ht ff.0 stays.1.0 (lea_follows C S.address S.whole (Of κ) b k w u q v m t.world.store.answers pc p lt (is b ff.0) h.held e st)))

    three_done : (o u : OpT Where) (c : NodesT Where) (k w q v : ℕ) → k < 9 → Fitting S κ.fn o → Puts o k w → MakesSum u k w q v → loads_there (register k) c ≡ true → Ready o (Do u c) (Some (2, None, instr.Mov (RegAtOff (register k) q (Left v))))
    three_done o u (Do (LoadO (Reg t) (Reg x)) c) k w q v lt fit puts is there stays ff st =
        let r = is a ff.0 in
        let rb = is b ff.0 in
        put_done o k w (front_acts (lang S) (Do u (Do (LoadO (Reg t) (Reg x)) c)) 2) fit puts (λ s1 h1.
        let s2 = spent (op_weight u) s1 in
        passes κ s1 m (with_reg k w a) (with_reg k (add (a.regs q) v) (with_reg k w a)) (op_weight u) p (acted registers_and_slots (sizes S) u s2) (front_acts (lang S) (Do (LoadO (Reg t) (Reg x)) c) 1)
        (subst (λ d. DoesAs S κ s2 (with_reg k w a) (acted registers_and_slots (sizes S) u s2) d) (r.so s1.world.store.answers) (acts S fits κ s2 h1.place (with_reg k w a) h1.at u ff.0))
        (λ s3 h3. alone κ m (begin (holder S) s3) p c ((lang S).act (LoadO (Reg t) (Reg x)) s3)
        (last_sim κ p (LoadO (Reg t) (Reg x)) s3 m (with_reg k (add (a.regs q) v) (with_reg k w a)) (written (written h.registers k w) k (add (h.registers q) v))
        (next_like k w u xs (with_reg k (add (a.regs q) v) (with_reg k w a)) (with_reg k (add (b.regs q) v) (with_reg k w b)) stays.1.0 (r.so xs) (rb.so xs)) h3 ff.1.0 stays.1.1.0
        (load_follows C S.address S.whole (Of κ) b 8 k w t x q v m s3.world.store.answers pc p (omega arith) lt rb.low ff.1.0.0 ff.1.0.1 there h.held e st))))
    three_done o u _ k w q v lt fit puts is there stays ff st = absurd cc

    good_place : (c : Addr) (k w : ℕ) (t x y q : Where) → Good (Of κ) x → Copies C S.address S.whole (Of κ) c k w t x y q → Good (Of κ) q
    good_place c k w t x y q g is = subst (λ z. Good (Of κ) z) (sym is.place) g

    load_done : (o : OpT Where) (t x y : Where) (c : NodesT Where) (k w : ℕ) (q : Where) → k < 9 → Fitting S κ.fn o → Puts o k w → unturned (Some IADD) (first_place (register k) t x y) ≡ Some q → loads_there (register k) c ≡ true →
        Ready o (Do (StepO t x y) c) (Some (2, Some (fetch (Of κ) q (register k)), instr.Mov (RegAtOff (register k) (register k) (Left w))))
    load_done o t x y (Do (LoadO (Reg d) (Reg z)) c) k w q lt fit puts is there stays ff st =
        let u = StepO t x y in
        let g = good_op κ u ff.0 in
        let r = copies C S.address S.whole (Of κ) a k w (Some IADD) t x y q lt g.0 g.1 g.2 is in
        let rb = copies C S.address S.whole (Of κ) b k w (Some IADD) t x y q lt g.0 g.1 g.2 is in
        put_done o k w (front_acts (lang S) (Do u (Do (LoadO (Reg d) (Reg z)) c)) 2) fit puts (λ s1 h1.
        let s2 = spent (op_weight u) s1 in
        passes κ s1 m (with_reg k w a) (Stepped C S.address S.whole (Of κ) a k w q) (op_weight u) p (acted registers_and_slots (sizes S) u s2) (front_acts (lang S) (Do (LoadO (Reg d) (Reg z)) c) 1)
        (subst (λ d. DoesAs S κ s2 (with_reg k w a) (acted registers_and_slots (sizes S) u s2) d) (step_is C S.address S.whole (Of κ) a k w t x y q s1.world.store.answers r) (acts S fits κ s2 h1.place (with_reg k w a) h1.at u ff.0))
        (λ s3 h3. alone κ m (begin (holder S) s3) p c ((lang S).act (LoadO (Reg d) (Reg z)) s3)
        (last_sim κ p (LoadO (Reg d) (Reg z)) s3 m (Stepped C S.address S.whole (Of κ) a k w q) (written (written h.registers k w) k (add (word_of (Of κ) q b) w))
        (next_like k w u xs (Stepped C S.address S.whole (Of κ) a k w q) (Stepped C S.address S.whole (Of κ) b k w q) stays.1.0 (step_is C S.address S.whole (Of κ) a k w t x y q xs r) (step_is C S.address S.whole (Of κ) b k w t x y q xs rb)) h3 ff.1.0 stays.1.1.0
        (load_copied C S.address S.whole (Of κ) b k w d z q m s3.world.store.answers pc p lt ff.1.0.0 ff.1.0.1 roomy (good_place b k w t x y q g.1 rb) there h.held e st))))
    load_done o t x y _ k w q lt fit puts is there stays ff st = absurd cc

    copy_done : (o u : OpT Where) (c : NodesT Where) (k w : ℕ) → k < 9 → Fitting S κ.fn o → Puts o k w → Ready o (Do u c) (with_copy (Of κ) (register k) w u c)
    copy_done o (TwoO i t x y) c k w lt fit puts = go (unturned (turned i) (first_place (register k) t x y)) refl
      where
        go : (q : Option Where) → unturned (turned i) (first_place (register k) t x y) ≡ q → Ready o (Do (TwoO i t x y) c) (copied (Of κ) (register k) w i q)
        go None is stays ff st = one_done o (Do (TwoO i t x y) c) fit stays.0 ff st
        go (Some q) is stays ff st =
            let g = good_op κ (TwoO i t x y) ff.0 in
            let r = copies C S.address S.whole (Of κ) b k w (turned i) t x y q lt g.0 g.1 g.2 is in
            put_done o k w (front_acts (lang S) (Do (TwoO i t x y) c) 1) fit puts
            (λ s1 h1. alone κ m (begin (holder S) s1) p c ((lang S).act (TwoO i t x y) s1)
            (last_sim κ p (TwoO i t x y) s1 m (with_reg k w a) (written h.registers k w) (put_like k w) h1 ff.0 stays.1.0 (two_copied C S.address S.whole (Of κ) b k w i t x y q m s1.world.store.answers pc p lt roomy (good_place b k w t x y q g.1 r) r h.held e st)))
    copy_done o (StepO t x y) c k w lt fit puts = go (unturned (Some IADD) (first_place (register k) t x y)) refl
      where
        step_done : (q : Where) → unturned (Some IADD) (first_place (register k) t x y) ≡ Some q → Ready o (Do (StepO t x y) c) (Some (1, Some (fetch (Of κ) q (register k)), instr.Two IADD (register k) (src.Imm (Left w))))
        step_done q is stays ff st =
            let g = good_op κ (StepO t x y) ff.0 in
            let r = copies C S.address S.whole (Of κ) b k w (Some IADD) t x y q lt g.0 g.1 g.2 is in
            put_done o k w (front_acts (lang S) (Do (StepO t x y) c) 1) fit puts
            (λ s1 h1. alone κ m (begin (holder S) s1) p c ((lang S).act (StepO t x y) s1)
            (last_sim κ p (StepO t x y) s1 m (with_reg k w a) (written h.registers k w) (put_like k w) h1 ff.0 stays.1.0 (step_copied C S.address S.whole (Of κ) b k w t x y q m s1.world.store.answers pc p lt roomy (good_place b k w t x y q g.1 r) r h.held e st)))

        load_or_not : (q : Where) → unturned (Some IADD) (first_place (register k) t x y) ≡ Some q → (there : Bool) → loads_there (register k) c ≡ there →
            Ready o (Do (StepO t x y) c) (Some (cond there (2, Some (fetch (Of κ) q (register k)), instr.Mov (RegAtOff (register k) (register k) (Left w))) (1, Some (fetch (Of κ) q (register k)), instr.Two IADD (register k) (src.Imm (Left w)))))
        load_or_not q is true there = load_done o t x y c k w q lt fit puts is there
        load_or_not q is false there = step_done q is

        go : (q : Option Where) → unturned (Some IADD) (first_place (register k) t x y) ≡ q → Ready o (Do (StepO t x y) c) (copied_address (Of κ) (register k) w q c)
        go None is stays ff st = one_done o (Do (StepO t x y) c) fit stays.0 ff st
        go (Some q) is stays ff st = load_or_not q is (loads_there (register k) c) refl stays ff st
    copy_done o u c k w lt fit puts = λ stays. one_done o (Do u c) fit stays.0

    sum_done : (o u : OpT Where) (c : NodesT Where) (k w : ℕ) → k < 9 → Fitting S κ.fn o → Puts o k w → Ready o (Do u c) (with_sum (register k) (summed (register k) w u) (with_copy (Of κ) (register k) w u c) c)
    sum_done o u c k w lt fit puts = go (summed (register k) w u) refl
      where
        load_or_not : (q v : ℕ) → MakesSum u k w q v → (there : Bool) → loads_there (register k) c ≡ there → Ready o (Do u c) (Some (cond there (2, None, instr.Mov (RegAtOff (register k) q (Left v))) (1, None, instr.Lea (register k) q (Some (Left v)))))
        load_or_not q v is true there = three_done o u c k w q v lt fit puts is there
        load_or_not q v is false there = two_done o u c k w q v lt fit puts is

        go : (x : Option (ℕ × ℕ)) → summed (register k) w u ≡ x → Ready o (Do u c) (with_sum (register k) x (with_copy (Of κ) (register k) w u c) c)
        go None is = copy_done o u c k w lt fit puts
        go (Some (q, v)) is = load_or_not q v (λ d ff. sums C S.address S.whole (Of κ) d k w u q v lt (good_op κ u ff) is) (loads_there (register k) c) refl

    word_done : (o u : OpT Where) (c : NodesT Where) → Fitting S κ.fn o → Ready o (Do u c) (with_word (Of κ) (word_put S.whole o) u c)
    unfolding does
    word_done (ConstO (Reg k) n) u c fit = sum_done (ConstO (Reg k) n) u c k n fit fit (λ ys. refl)
    word_done (GlobalO (Reg k) j) u c fit = sum_done (GlobalO (Reg k) j) u c k (get_or S.whole.globals j 0) fit.0 fit (λ ys. refl)
    word_done o u c fit = λ stays. one_done o (Do u c) fit stays.0

    -- ---- a known word in register 8, where that is spare

    module _ (eight : (Of κ).registers ≡ 8) (o : OpT Where) (w : ℕ) (fit : Fitting S κ.fn o) (stays : AllOf (Stays (Number κ)) (uses o)) (puts : Puts o 8 w) where
      -- the words behind operations that put words there
      spared_like : (v : ℕ) → AreLike κ h.registers (with_reg 8 v a)
      spared_like v r lt = h.like r lt ∙ sym (written_other a.regs 8 v r (λ z. omega (arith, lt, eight, z)))

      twice_like : (v : ℕ) → AreLike κ h.registers (with_reg 8 v (with_reg 8 w a))
      twice_like v r lt = spared_like w r lt ∙ sym (written_other (with_reg 8 w a).regs 8 v r (λ z. omega (arith, lt, eight, z)))

      -- a place that is register 8, and another one
      there : (q : Where) (v : ℕ) (c : Addr) → Named S κ.fn q → is_in q 8 ≡ true → word_of (Of κ) q (with_reg 8 v c) ≡ v
      there (Reg r) v c n is = let z = eqb-true (register r) 8 is in written_same c.regs 8 v r (omega (arith, n, z))
      there (Slot k) v c n is = absurd cc

      elsewhere : (q : Where) → Named S κ.fn q → is_in q 8 ≡ false → word_of (Of κ) q (with_reg 8 w a) ≡ word_of (Of κ) q b
      elsewhere q n is = sym (word_alike C S.address S.whole (Of κ) (Number κ) (with_reg 8 w a) h.registers (spared_like w) q (other_stays S κ.fn (Number κ) q eight n is))

      -- what an operator makes of the word of a place and the known one
      record Makes (u : OpT Where) (i : TwoOf) (t : ℕ) (x : Where) : Type 0 where
        low : t < 9
        good : Good (Of κ) x
        so : (ys : List ℕ) → does C S.address S.whole (Of κ) u ys (with_reg 8 w a) ≡ computed (Of κ) (Reg t) (two_of i (word_of (Of κ) x b) w) ys (with_reg 8 w a)

      computed_done : (u : OpT Where) (c : NodesT Where) (i : TwoOf) (t : ℕ) (x : Where) → op_weight u ≡ 8 → (Fitting S κ.fn u → Makes u i t x) → Done o (Do u c) (Some (1, (using_it S.whole.globals (Of κ) w (Computed i (register t) x)).0, (using_it S.whole.globals (Of κ) w (Computed i (register t) x)).1))
      computed_done u c i t x heavy makes ff st =
          let is = makes ff.0 in
          put_done o 8 w (front_acts (lang S) (Do u c) 1) fit puts (λ s1 h1. alone κ m (begin (holder S) s1) p c ((lang S).act u s1)
          (let ys = s1.world.store.answers in
          last_by κ p u s1 m (with_reg 8 w a) h.registers (computed (Of κ) (Reg t) (two_of i (word_of (Of κ) x b) w) ys b) (spared_like w) h1 ff.0
          (subst (λ z. Alongside (Number κ) z (computed (Of κ) (Reg t) (two_of i (word_of (Of κ) x b) w) ys b)) (sym (is.so ys))
          (computed_alike C S.address S.whole (Of κ) (Number κ) (with_reg 8 w a) h.registers (spared_like w) (Reg t) (two_of i (word_of (Of κ) x b) w) (two_of i (word_of (Of κ) x b) w) ys refl))
          (subst (λ n. Follows C n m ys p b (computed (Of κ) (Reg t) (two_of i (word_of (Of κ) x b) w) ys b)) (sym heavy) (computed_follows C S.address (Of κ) b roomy S.whole.globals t i x w m ys pc p is.low is.good h.held e st))))

      abbrev Operates : OpT Where → ℕ → Option (TwoOf × Where) → Type 0
      Operates u t None = Unit {0}
      Operates u t (Some (j, z)) = Fitting S κ.fn u → Named S κ.fn z × Makes u j t z

      -- an operator, where just one of its places is register 8
      module _ (u : OpT Where) (c : NodesT Where) (i : TwoOf) (x y : Where) (heavy : op_weight u ≡ 8) where
        made_done : (t : ℕ) (j : TwoOf) (z : Where) → (Fitting S κ.fn u → Makes u j t z) → Done o (Do u c) (with_known S.whole.globals (Of κ) (Some (8, w)) (groups.computed (Reg t) (Some (j, z))))
        made_done t j z makes = go (register t == 8)
          where
            go : (f : Bool) → Done o (Do u c) (with_known S.whole.globals (Of κ) (Some (8, w)) (cond f None (Some (1, Computed j (register t) z))))
            go true = one_done o (Do u c) fit stays
            go false = computed_done u c j t z heavy makes

        operates : (t : ℕ) → (Fitting S κ.fn u → Named S κ.fn (Reg t) × Named S κ.fn x × Named S κ.fn y) → ((ys : List ℕ) (d : Addr) → does C S.address S.whole (Of κ) u ys d ≡ computed (Of κ) (Reg t) (two_of i (word_of (Of κ) x d) (word_of (Of κ) y d)) ys d) → Operates u t (operand i x y)
        operates t names is = go (is_in x 8) refl (is_in y 8) refl (turned i) (turns i)
          where
            go : (f : Bool) → is_in x 8 ≡ f → (g : Bool) → is_in y 8 ≡ g → (z : Option TwoOf) → TurnsTo i z → Operates u t (cond f (cond g None (option_map (λ j. (j, y)) z)) (cond g (Some (i, x)) None))
            go true ex true ey z turns = tt
            go false ex false ey z turns = tt
            go false ex true ey z turns = λ ff. let n = names ff in (
              n.1,
              record {
                low = n.0;
                good = good S fits κ x n.1;
                so = λ ys. is ys (with_reg 8 w a) ∙ (λ f. computed (Of κ) (Reg t) (two_of i (elsewhere x n.1 ex f) (there y w a n.2 ey f)) ys (with_reg 8 w a));
              },
            )
            go true ex false ey None turns = tt
            go true ex false ey (Some j) turns = λ ff. let n = names ff in (
              n.2,
              record {
                low = n.0;
                good = good S fits κ y n.2;
                so = λ ys. is ys (with_reg 8 w a) ∙ (λ f. computed (Of κ) (Reg t) (two_of i (there x w a n.1 ex f) (elsewhere y n.2 ey f)) ys (with_reg 8 w a)) ∙ ap (λ z. computed (Of κ) (Reg t) z ys (with_reg 8 w a)) (sym (turns w (word_of (Of κ) y b)));
              },
            )

        operand_done : (t : Where) → (Fitting S κ.fn u → Named S κ.fn t × Named S κ.fn x × Named S κ.fn y) → ((ys : List ℕ) (d : Addr) → does C S.address S.whole (Of κ) u ys d ≡ computed (Of κ) t (two_of i (word_of (Of κ) x d) (word_of (Of κ) y d)) ys d) →
            Done o (Do u c) (with_known S.whole.globals (Of κ) (Some (8, w)) (groups.computed t (operand i x y)))
        operand_done (Slot k) names is = one_done o (Do u c) fit stays
        operand_done (Reg t) names is = go (operand i x y) (operates t names is)
          where
            go : (k : Option (TwoOf × Where)) → Operates u t k → Done o (Do u c) (with_known S.whole.globals (Of κ) (Some (8, w)) (groups.computed (Reg t) k))
            go None m = one_done o (Do u c) fit stays
            go (Some (j, z)) m = made_done t j z (λ ff. (m ff).1)

      -- a load or a store as the last operation, at an address in register 8
      module _ (x : Option Where) (inner : ℕ → ℕ) (like : AreLike κ h.registers (having inner h.words)) (at : (q : Where) → Named S κ.fn q → is_in q 8 ≡ true → address_with (Of κ) x w b ≡ word_of (Of κ) q (having inner h.words)) where
        abbrev z : Addr
        z = having inner h.words

        abbrev n : ℕ
        n = address_with (Of κ) x w b

        -- what is done by an instruction that uses the known word
        abbrev Finish : NodesT Where → Used → Type 0
        Finish c u = (s1 : State Where) → Holds S κ s1 (having inner h.words) → AllOf (Good (Of κ)) (maybe x) → FrontFits S κ.fn c 1 → Stand C.words S.address pc (before_it (using_it S.whole.globals (Of κ) w u).0 ++ item.Op (using_it S.whole.globals (Of κ) w u).1 ∷ []) p → DidSim (holder S) κ m (begin (holder S) s1) p (front_acts (lang S) c 1 s1)

        loaded_last : (t : ℕ) (q : Where) (c : NodesT Where) → is_in q 8 ≡ true → Finish (Do (LoadO (Reg t) q) c) (Loaded (register t) x)
        unfolding does
        loaded_last t q c is s1 h1 good ff st =
            let ys = s1.world.store.answers in
            alone κ m (begin (holder S) s1) p c ((lang S).act (LoadO (Reg t) q) s1)
            (last_by κ p (LoadO (Reg t) q) s1 m z h.registers (loaded (readable C n) (Of κ) (Reg t) (h.words.memory n) ys b) like h1 ff.0
            (loaded_alike C S.address S.whole (Of κ) (Number κ) z h.registers like (Reg t) (word_of (Of κ) q z) n ys (at q ff.0.1 is))
            (loaded_follows C S.address (Of κ) b roomy S.whole.globals t x w m ys pc p ff.0.0 good h.held e st))

        stored_last : (q y : Where) (c : NodesT Where) → is_in q 8 ≡ true → is_in y 8 ≡ false → in_slots x y ≡ false → Finish (Do (StoreO q y) c) (Stored x y)
        unfolding does
        stored_last q y c is other apart s1 h1 fine ff st =
            let ys = s1.world.store.answers in
            alone κ m (begin (holder S) s1) p c ((lang S).act (StoreO q y) s1)
            (last_by κ p (StoreO q y) s1 m z h.registers (saved (writable C n) n (word_of (Of κ) y b) ys b) like h1 ff.0
            (saved_alike C S.address S.whole (Of κ) (Number κ) z h.registers like (word_of (Of κ) q z) n (word_of (Of κ) y z) (word_of (Of κ) y b) ys (at q ff.0.0 is)
            (word_alike C S.address S.whole (Of κ) (Number κ) z h.registers like y (other_stays S κ.fn (Number κ) y eight ff.0.1 other)))
            (stored_follows C S.address (Of κ) b roomy S.whole.globals x y w m ys pc p fine (good S fits κ y ff.0.1) apart h.held e st))

        address_case : (k : ℕ) (c : NodesT Where) (Q : Option (ℕ × Used) → Type 0) → Q None → ((u : Used) → Finish c u → Q (Some (k, u))) → Q (at_address k x c)
        address_case k (Do (LoadO (Reg t) q) c) Q none some = go (is_in q 8) refl (register t == 8)
          where
            go : (f : Bool) → is_in q 8 ≡ f → (g : Bool) → Q (cond (f && not g) (Some (k, Loaded (register t) x)) None)
            go true is false = some (Loaded (register t) x) (loaded_last t q c is)
            go true is true = none
            go false is g = none
        address_case k (Do (StoreO q y) c) Q none some = go (is_in q 8) refl (is_in y 8) refl (in_slots x y) refl
          where
            go : (f : Bool) → is_in q 8 ≡ f → (g : Bool) → is_in y 8 ≡ g → (i : Bool) → in_slots x y ≡ i → Q (cond (f && not g) (cond i None (Some (k, Stored x y))) None)
            go true is false other false apart = some (Stored x y) (stored_last q y c is other apart)
            go true is false other true apart = none
            go true is true other i apart = none
            go false is g other i apart = none
        address_case k _ Q none some = none

      -- behind a sum in register 8
      sum_at : (t : Where) (v : ℕ) (c : Addr) → Named S κ.fn t → is_in t 8 ≡ true → put (Of κ) t v c ≡ with_reg 8 v c
      sum_at (Reg r) v c named is = let n = eqb-true (register r) 8 is in let same : r ≡ 8 = omega (arith, named, n) in ap (λ k. with_reg k v c) same
      sum_at (Slot k) v c named is = absurd cc

      summed_done : (t x y z : Where) (c : NodesT Where) → is_in t 8 ≡ true → (Fitting S κ.fn (StepO t x y) → Named S κ.fn z × (add (word_of (Of κ) x (with_reg 8 w a)) (word_of (Of κ) y (with_reg 8 w a)) ≡ add (word_of (Of κ) z b) w)) →
          Done o (Do (StepO t x y) c) (with_known S.whole.globals (Of κ) (Some (8, w)) (at_address 2 (Some z) c))
      unfolding does
      summed_done t x y z c is facts =
          let v = add (word_of (Of κ) z b) w in
          let u = StepO t x y in
          address_case (Some z) (written (written a.regs 8 w) 8 v) (twice_like v) (λ q named there_is. sym (there q v (with_reg 8 w a) named there_is)) 2 c (λ k. Done o (Do u c) (with_known S.whole.globals (Of κ) (Some (8, w)) k)) (one_done o (Do u c) fit stays)
          (λ k ends ff st.
          let f = facts ff.0 in
          put_done o 8 w (front_acts (lang S) (Do u c) 2) fit puts (λ s1 h1.
          let ys = s1.world.store.answers in
          let s2 = spent (op_weight u) s1 in
          let so : does C S.address S.whole (Of κ) u ys (with_reg 8 w a) ≡ words.Goes [] ys (with_reg 8 v (with_reg 8 w a)) = ap (λ q. words.Goes [] ys (put (Of κ) t q (with_reg 8 w a))) f.1 ∙ ap (λ q. words.Goes [] ys q) (sum_at t v (with_reg 8 w a) ff.0.0 is) in
          passes κ s1 m (with_reg 8 w a) (with_reg 8 v (with_reg 8 w a)) (op_weight u) p (acted registers_and_slots (sizes S) u s2) (front_acts (lang S) c 1) (subst (λ d. DoesAs S κ s2 (with_reg 8 w a) (acted registers_and_slots (sizes S) u s2) d) so (acts S fits κ s2 h1.place (with_reg 8 w a) h1.at u ff.0))
          (λ s3 h3. ends s3 h3 (good S fits κ z f.0, tt) ff.1 st)))

      -- a sum with the known word is that of the other place's word and it
      abbrev SumIs : (t x y : Where) → Option Where → Type 0
      SumIs t x y None = Unit {0}
      SumIs t x y (Some z) = Fitting S κ.fn (StepO t x y) → Named S κ.fn z × (add (word_of (Of κ) x (with_reg 8 w a)) (word_of (Of κ) y (with_reg 8 w a)) ≡ add (word_of (Of κ) z b) w)

      sum_is : (t x y : Where) → SumIs t x y (beside x y)
      sum_is t x y = go (is_in x 8) refl (is_in y 8) refl
        where
          go : (f : Bool) → is_in x 8 ≡ f → (g : Bool) → is_in y 8 ≡ g → SumIs t x y (cond f (cond g None (Some y)) (cond g (Some x) None))
          go true ex true ey = tt
          go false ex false ey = tt
          go true ex false ey = λ n. (n.2, (λ i. add (there x w a n.1 ex i) (elsewhere y n.2 ey i)) ∙ sum_turned (word_of (Of κ) y b) w)
          go false ex true ey = λ n. (n.1, λ i. add (elsewhere x n.1 ex i) (there y w a n.2 ey i))

      sum_behind : (t x y : Where) (c : NodesT Where) → is_in t 8 ≡ true → Done o (Do (StepO t x y) c) (with_known S.whole.globals (Of κ) (Some (8, w)) (at_sum (beside x y) c))
      sum_behind t x y c is = go (beside x y) (sum_is t x y)
        where
          go : (z : Option Where) → SumIs t x y z → Done o (Do (StepO t x y) c) (with_known S.whole.globals (Of κ) (Some (8, w)) (at_sum z c))
          go None f = one_done o (Do (StepO t x y) c) fit stays
          go (Some z) f = summed_done t x y z c is f

      -- behind a sum of a register's own word and the known one, which stands there too: a sum with another register's, and a load from there into it
      index_case : (t : ℕ) (Q : NodesT Where → Option (ℕ × Used) → Type 0) → ((c : NodesT Where) → Q c None) →
          ((u i j : Where) (d g q : ℕ) (c : NodesT Where) → other_word t u i j ≡ Some q → (q == 8) ≡ false → (register d == t) && (register g == t) ≡ true → Q (Do (StepO u i j) (Do (LoadO (Reg d) (Reg g)) c)) (Some (3, Indexed t q))) →
          (c : NodesT Where) → Q c (index_behind t c)
      index_case t Q none some (Do (StepO u i j) (Do (LoadO (Reg d) (Reg g)) c)) = go ((register d == t) && (register g == t)) refl (other_word t u i j) refl
        where
          apart : (q : ℕ) (f : Bool) → (q == 8) ≡ f → other_word t u i j ≡ Some q → (register d == t) && (register g == t) ≡ true → Q (Do (StepO u i j) (Do (LoadO (Reg d) (Reg g)) c)) (cond f None (Some (3, Indexed t q)))
          apart q true is other there = none _
          apart q false is other there = some u i j d g q c other is there

          go : (f : Bool) → (register d == t) && (register g == t) ≡ f → (x : Option ℕ) → other_word t u i j ≡ x → Q (Do (StepO u i j) (Do (LoadO (Reg d) (Reg g)) c)) (cond f (index t x) None)
          go false there x other = none _
          go true there None other = none _
          go true there (Some q) other = apart q (q == 8) refl other there
      index_case t Q none some c = none c

      three_summed : (x y z : ℕ) → add (add x y) z ≡ add y (add x z)
      three_summed x y z = omega arith

      index_done : (t z q d g : ℕ) (x y u i j : Where) (c : NodesT Where) → (register t == 8) ≡ false → (register z == register t) ≡ true → SumIs (Reg t) x y (Some (Reg z)) → other_word (register t) u i j ≡ Some q → (q == 8) ≡ false → (register d == register t) && (register g == register t) ≡ true →
          Done o (Do (StepO (Reg t) x y) (Do (StepO u i j) (Do (LoadO (Reg d) (Reg g)) c))) (with_known S.whole.globals (Of κ) (Some (8, w)) (Some (3, Indexed (register t) q)))
      unfolding does
      index_done t z q d g x y u i j c apart same is other elsewhere_q there ff st =
          let one = StepO (Reg t) x y in
          let two = StepO u i j in
          let load = LoadO (Reg d) (Reg g) in
          let lt : t < 9 = ff.0.0 in
          let f = is ff.0 in
          let lz : z < 9 = f.0 in
          let equal : register z ≡ register t = eqb-true (register z) (register t) same in
          let z_is : z ≡ t = omega (arith, lz, lt, equal) in
          let v = add (h.registers z) w in
          let a1 = with_reg 8 w a in
          let a2 = with_reg t v a1 in
          let made = sums C S.address S.whole (Of κ) a1 t v two q v lt (good_op κ two ff.1.0) (ap (λ r. option_map (λ k. (k, v)) r) other) in
          let low = made.low in
          let stays_q : q < Number κ = below_eight q low elsewhere_q in
          let n = add (a1.regs q) v in
          let a3 = with_reg t n a2 in
          let m1 = add (add (h.registers t) (h.registers q)) w in
          let n_is : m1 ≡ n = three_summed (h.registers t) (h.registers q) w ∙ (λ k. add (spared_like w q stays_q k) (add (h.registers (sym z_is k)) w)) in
          put_done o 8 w (front_acts (lang S) (Do one (Do two (Do load c))) 3) fit puts (λ s1 h1.
          let s2 = spent (op_weight one) s1 in
          passes κ s1 m a1 a2 (op_weight one) p (acted registers_and_slots (sizes S) one s2) (front_acts (lang S) (Do two (Do load c)) 2)
          (subst (λ e. DoesAs S κ s2 a1 (acted registers_and_slots (sizes S) one s2) e) (ap (λ r. words.Goes [] s1.world.store.answers (with_reg t r a1)) f.1) (acts S fits κ s2 h1.place a1 h1.at one ff.0))
          (λ s3 h3.
          let s4 = spent (op_weight two) s3 in
          passes κ s3 m a2 a3 (op_weight two) p (acted registers_and_slots (sizes S) two s4) (front_acts (lang S) (Do load c) 1)
          (subst (λ e. DoesAs S κ s4 a2 (acted registers_and_slots (sizes S) two s4) e) (made.so s3.world.store.answers) (acts S fits κ s4 h3.place a2 h3.at two ff.1.0))
          (λ s5 h5. alone κ m (begin (holder S) s5) p c ((lang S).act load s5)
          (last_sim κ p load s5 m a3 (written h.registers t m1)
          (λ r lr. written_alike C S.address S.whole (Of κ) (Number κ) a1 h.registers (spared_like w) t m1 r lr ∙ ap (λ k. written a1.regs t k r) n_is ∙ twice a1.regs t n v r)
          h5 ff.1.1.0 (other_stays S κ.fn (Number κ) (Reg g) eight ff.1.1.0.1 (ap (λ r. r == 8) (eqb-true (register g) (register t) (both (register d == register t) (register g == register t) there).1) ∙ apart), tt)
          (indexed_follows C S.address (Of κ) b roomy S.whole t q w d g m s5.world.store.answers pc p lt low ff.1.1.0.0 ff.1.1.0.1 there h.held e st)))))
        where
          below_eight : (q : ℕ) → q < 9 → (q == 8) ≡ false → q < Number κ
          below_eight q lt ne = elim (below_or_not q 8) [
            | inl le ↦ omega (arith, le, eight)
            | inr ge ↦ let same : q ≡ 8 = omega (arith, ge, lt) in absurd (eqb-false q 8 ne same)
          ]

      indexed_done : (t x y : Where) (z : Option Where) (rest : Option (ℕ × Used)) (c : NodesT Where) → is_in t 8 ≡ false → SumIs t x y z → Done o (Do (StepO t x y) c) (with_known S.whole.globals (Of κ) (Some (8, w)) rest) → Done o (Do (StepO t x y) c) (with_known S.whole.globals (Of κ) (Some (8, w)) (or_else (indexed t z c) rest))
      indexed_done (Reg t) x y (Some (Reg z)) rest c apart is done = go (register z == register t) refl
        where
          go : (f : Bool) → (register z == register t) ≡ f → Done o (Do (StepO (Reg t) x y) c) (with_known S.whole.globals (Of κ) (Some (8, w)) (or_else (cond f (index_behind (register t) c) None) rest))
          go false same = done
          go true same =
              index_case (register t) (λ c k. Done o (Do (StepO (Reg t) x y) c) (with_known S.whole.globals (Of κ) (Some (8, w)) rest) → Done o (Do (StepO (Reg t) x y) c) (with_known S.whole.globals (Of κ) (Some (8, w)) (or_else k rest)))
              (λ c d. d) (λ u i j d g q c other elsewhere_q there rest_done. index_done t z q d g x y u i j c apart same is other elsewhere_q there) c done
      indexed_done (Reg t) x y (Some (Slot k)) rest c apart is done = done
      indexed_done (Reg t) x y None rest c apart is done = done
      indexed_done (Slot k) x y z rest c apart is done = done

      -- a word is put into register 8 and added to what stands in another register there, and that register is loaded from there
      load_case : (t : ℕ) (u : Used) (Q : NodesT Where → Option (ℕ × Used) → Type 0) → ((c : NodesT Where) → Q c None) →
          ((s i j g : Where) (d q : ℕ) (c : NodesT Where) → beside i j ≡ Some (Reg q) → (register q == t) && is_in s 8 ≡ true → (register d == t) && is_in g 8 ≡ true →
          Q (Do (StepO s i j) (Do (LoadO (Reg d) g) c)) (Some (4, u))) → (c : NodesT Where) → Q c (offset_step t u c)
      load_case t u Q none some (Do (StepO s i j) (Do (LoadO (Reg d) g) c)) = go (beside i j) refl
        where
          last : (q : ℕ) → beside i j ≡ Some (Reg q) → (register q == t) && is_in s 8 ≡ true → (f : Bool) → (register d == t) && is_in g 8 ≡ f → Q (Do (StepO s i j) (Do (LoadO (Reg d) g) c)) (cond f (Some (4, u)) None)
          last q by sum false there = none _
          last q by sum true there = some s i j g d q c by sum there

          made : (q : ℕ) → beside i j ≡ Some (Reg q) → (f : Bool) → (register q == t) && is_in s 8 ≡ f → Q (Do (StepO s i j) (Do (LoadO (Reg d) g) c)) (cond f (offset_load t u (Do (LoadO (Reg d) g) c)) None)
          made q by false sum = none _
          made q by true sum = last q by sum ((register d == t) && is_in g 8) refl

          go : (x : Option Where) → beside i j ≡ x → Q (Do (StepO s i j) (Do (LoadO (Reg d) g) c)) (offset_sum t u s x (Do (LoadO (Reg d) g) c))
          go None by = none _
          go (Some (Slot k)) by = none _
          go (Some (Reg q)) by = made q by ((register q == t) && is_in s 8) refl
      load_case t u Q none some (Do (StepO s i j) c) = go (beside i j)
        where
          made : (f : Bool) → Q (Do (StepO s i j) c) (cond f (offset_load t u c) None)
          made false = none _
          made true = none _

          go : (x : Option Where) → Q (Do (StepO s i j) c) (offset_sum t u s x c)
          go None = none _
          go (Some (Slot k)) = none _
          go (Some (Reg q)) = made ((register q == t) && is_in s 8)
      load_case t u Q none some c = none c

      -- behind a sum in another register: a number
      offset_case : (t : ℕ) (z : Where) (Q : NodesT Where → Option (ℕ × Used) → Type 0) → ((c : NodesT Where) → Q c None) →
          ((r s i j g : Where) (d q n : ℕ) (c : NodesT Where) → is_in r 8 ≡ true → beside i j ≡ Some (Reg q) → (register q == t) && is_in s 8 ≡ true → (register d == t) && is_in g 8 ≡ true →
          Q (Do (ConstO r n) (Do (StepO s i j) (Do (LoadO (Reg d) g) c))) (Some (4, Offset t z n))) → (c : NodesT Where) → Q c (offset_behind t z c)
      offset_case t z Q none some (Do (ConstO r n) c) = go (is_in r 8) refl
        where
          go : (f : Bool) → is_in r 8 ≡ f → Q (Do (ConstO r n) c) (cond f (offset_step t (Offset t z n) c) None)
          go false eight_r = none _
          go true eight_r = load_case t (Offset t z n) (λ e x. Q (Do (ConstO r n) e) x) (λ e. none _) (λ s i j g d q e by sum there. some r s i j g d q n e eight_r by sum there) c
      offset_case t z Q none some c = none c

      -- and the address of a global
      element_case : (o : TwoOf) (t : ℕ) (z : Where) (Q : NodesT Where → Option (ℕ × Used) → Type 0) → ((c : NodesT Where) → Q c None) →
          ((r s i j g : Where) (d q k : ℕ) (c : NodesT Where) → is_in r 8 ≡ true → beside i j ≡ Some (Reg q) → (register q == t) && is_in s 8 ≡ true → (register d == t) && is_in g 8 ≡ true →
          Q (Do (GlobalO r k) (Do (StepO s i j) (Do (LoadO (Reg d) g) c))) (Some (4, Element o t z k))) → (c : NodesT Where) → Q c (element_behind o t z c)
      element_case o t z Q none some (Do (GlobalO r k) c) = go (is_in r 8) refl
        where
          go : (f : Bool) → is_in r 8 ≡ f → Q (Do (GlobalO r k) c) (cond f (offset_step t (Element o t z k) c) None)
          go false eight_r = none _
          go true eight_r = load_case t (Element o t z k) (λ e x. Q (Do (GlobalO r k) e) x) (λ e. none _) (λ s i j g d q e by sum there. some r s i j g d q k e eight_r by sum there) c
      element_case o t z Q none some c = none c

      -- a sum of the word of a place and one that stands in register 8
      sum_with : (v : ℕ) (c : Addr) (x y z : Where) → Named S κ.fn x → Named S κ.fn y → beside x y ≡ Some z → Named S κ.fn z × (is_in z 8 ≡ false) × (add (word_of (Of κ) x (with_reg 8 v c)) (word_of (Of κ) y (with_reg 8 v c)) ≡ add (word_of (Of κ) z (with_reg 8 v c)) v)
      sum_with v c x y z nx ny by = go (is_in x 8) refl (is_in y 8) refl by
        where
          go : (f : Bool) → is_in x 8 ≡ f → (g : Bool) → is_in y 8 ≡ g → cond f (cond g None (Some y)) (cond g (Some x) None) ≡ Some z → Named S κ.fn z × (is_in z 8 ≡ false) × (add (word_of (Of κ) x (with_reg 8 v c)) (word_of (Of κ) y (with_reg 8 v c)) ≡ add (word_of (Of κ) z (with_reg 8 v c)) v)
          go true ex true ey e = absurd cc
          go false ex false ey e = absurd cc
          go true ex false ey e = let same : y ≡ z = cc in subst (λ k. Named S κ.fn k × (is_in k 8 ≡ false) × (add (word_of (Of κ) x (with_reg 8 v c)) (word_of (Of κ) y (with_reg 8 v c)) ≡ add (word_of (Of κ) k (with_reg 8 v c)) v)) same (ny, ey, ap (λ k. add k (word_of (Of κ) y (with_reg 8 v c))) (there x v c nx ex) ∙ sum_turned (word_of (Of κ) y (with_reg 8 v c)) v)
          go false ex true ey e = let same : x ≡ z = cc in subst (λ k. Named S κ.fn k × (is_in k 8 ≡ false) × (add (word_of (Of κ) x (with_reg 8 v c)) (word_of (Of κ) y (with_reg 8 v c)) ≡ add (word_of (Of κ) k (with_reg 8 v c)) v)) same (nx, ex, ap (λ k. add (word_of (Of κ) x (with_reg 8 v c)) k) (there y v c ny ey))

      sums_turned : (x y z : ℕ) → add (add x y) z ≡ add x (add y z)
      sums_turned x y z = omega arith

      -- a word is added in register t to that of a place, one more is put into register 8 and added, and register t is loaded from there
      added_done : (one two : OpT Where) (u : Used) (t d q n v1 : ℕ) (z r s i j g : Where) (c : NodesT Where) → (register t == 8) ≡ false →
          (Fitting S κ.fn one → (t < 9) × Named S κ.fn z × ((ys : List ℕ) → does C S.address S.whole (Of κ) one ys (with_reg 8 w a) ≡ words.Goes [] ys (with_reg t (add (word_of (Of κ) z b) v1) (with_reg 8 w a)))) →
          (Fitting S κ.fn two → Named S κ.fn r) → ((ys : List ℕ) (e : Addr) → does C S.address S.whole (Of κ) two ys e ≡ words.Goes [] ys (put (Of κ) r n e)) →
          using_it S.whole.globals (Of κ) w u ≡ using_it S.whole.globals (Of κ) (add v1 n) (Loaded (register t) (Some z)) →
          is_in r 8 ≡ true → beside i j ≡ Some (Reg q) → (register q == register t) && is_in s 8 ≡ true → (register d == register t) && is_in g 8 ≡ true →
          Done o (Do one (Do two (Do (StepO s i j) (Do (LoadO (Reg d) g) c)))) (with_known S.whole.globals (Of κ) (Some (8, w)) (Some (4, u)))
      unfolding does
      added_done one two u t d q n v1 z r s i j g c apart facts named puts_it using eight_r by sum into ff st =
          let three = StepO s i j in
          let load = LoadO (Reg d) g in
          let f = facts ff.0 in
          let lt : t < 9 = f.0 in
          let v = add (word_of (Of κ) z b) v1 in
          let a1 = with_reg 8 w a in
          let a2 = with_reg t v a1 in
          let a3 = with_reg 8 n a2 in
          let added = sum_with n a2 i j (Reg q) ff.1.1.0.1 ff.1.1.0.2 by in
          let lq : q < 9 = added.0 in
          let q_register : register q ≡ register t = eqb-true (register q) (register t) (both (register q == register t) (is_in s 8) sum).0 in
          let q_is : q ≡ t = omega (arith, lq, lt, q_register) in
          let held : written a2.regs 8 n q ≡ v = written_other a2.regs 8 n q (λ k. eqb-false (register q) 8 added.1 (ap register k)) ∙ written_same a1.regs t v q q_is in
          let m1 = add v n in
          let a4 = with_reg 8 m1 a3 in
          let m2 = add (word_of (Of κ) z b) (add v1 n) in
          let sum_at_8 : add (word_of (Of κ) i a3) (word_of (Of κ) j a3) ≡ m1 = added.2 ∙ ap (λ k. add k n) held in
          let ld : d < 9 = ff.1.1.1.0.0 in
          let d_register : register d ≡ register t = eqb-true (register d) (register t) (both (register d == register t) (is_in g 8) into).0 in
          let d_is : d ≡ t = omega (arith, ld, lt, d_register) in
          let like : AreLike κ (written h.registers t v) a4 = (λ k lk. written_alike C S.address S.whole (Of κ) (Number κ) a1 h.registers (spared_like w) t v k lk ∙ sym (written_other a2.regs 8 n k (λ z. omega (arith, lk, eight, z))) ∙ sym (written_other a3.regs 8 m1 k (λ z. omega (arith, lk, eight, z)))) in
          put_done o 8 w (front_acts (lang S) (Do one (Do two (Do three (Do load c)))) 4) fit puts (λ s1 h1.
          let s2 = spent (op_weight one) s1 in
          passes κ s1 m a1 a2 (op_weight one) p (acted registers_and_slots (sizes S) one s2) (front_acts (lang S) (Do two (Do three (Do load c))) 3)
          (subst (λ e. DoesAs S κ s2 a1 (acted registers_and_slots (sizes S) one s2) e) (f.2 s1.world.store.answers) (acts S fits κ s2 h1.place a1 h1.at one ff.0))
          (λ s3 h3.
          let s4 = spent (op_weight two) s3 in
          passes κ s3 m a2 a3 (op_weight two) p (acted registers_and_slots (sizes S) two s4) (front_acts (lang S) (Do three (Do load c)) 2)
          (subst (λ e. DoesAs S κ s4 a2 (acted registers_and_slots (sizes S) two s4) e) (puts_it s3.world.store.answers a2 ∙ ap (λ k. words.Goes [] s3.world.store.answers k) (sum_at r n a2 (named ff.1.0) eight_r)) (acts S fits κ s4 h3.place a2 h3.at two ff.1.0))
          (λ s5 h5.
          let s6 = spent (op_weight three) s5 in
          passes κ s5 m a3 a4 (op_weight three) p (acted registers_and_slots (sizes S) three s6) (front_acts (lang S) (Do load c) 1)
          (subst (λ e. DoesAs S κ s6 a3 (acted registers_and_slots (sizes S) three s6) e)
          (ap (λ k. words.Goes [] s5.world.store.answers (put (Of κ) s k a3)) sum_at_8 ∙ ap (λ k. words.Goes [] s5.world.store.answers k) (sum_at s m1 a3 ff.1.1.0.0 (both (register q == register t) (is_in s 8) sum).1)) (acts S fits κ s6 h5.place a3 h5.at three ff.1.1.0))
          (λ s7 h7.
          let ys = s7.world.store.answers in
          alone κ m (begin (holder S) s7) p c ((lang S).act load s7)
          (last_by κ p load s7 m a4 (written h.registers t v) (loaded (readable C m2) (Of κ) (Reg t) (h.words.memory m2) ys (with_reg t v b)) like h7 ff.1.1.1.0
          (subst (λ k. Alongside (Number κ) (loaded (readable C (word_of (Of κ) g a4)) (Of κ) (Reg d) (h.words.memory (word_of (Of κ) g a4)) ys a4) (loaded (readable C m2) (Of κ) (Reg k) (h.words.memory m2) ys (with_reg t v b))) d_is
          (loaded_alike C S.address S.whole (Of κ) (Number κ) a4 (written h.registers t v) like (Reg d) (word_of (Of κ) g a4) m2 ys
          (sym (sums_turned (word_of (Of κ) z b) v1 n) ∙ sym (there g m1 a3 ff.1.1.1.0.1 (both (register d == register t) (is_in g 8) into).1))))
          (before_load C S.address (Of κ) b roomy t v (h.words.memory m2) 8 (readable C m2) m ys p lt
          (loaded_follows C S.address (Of κ) b roomy S.whole.globals t (Some z) (add v1 n) m ys pc p lt (good S fits κ z f.1, tt) h.held e
          (subst (λ k. Stand C.words S.address pc (before_it k.0 ++ item.Op k.1 ∷ []) p) using st))))))))

      offset_done : (t d q n : ℕ) (x y z r s i j g : Where) (c : NodesT Where) → (register t == 8) ≡ false → SumIs (Reg t) x y (Some z) → is_in r 8 ≡ true → beside i j ≡ Some (Reg q) → (register q == register t) && is_in s 8 ≡ true → (register d == register t) && is_in g 8 ≡ true →
          Done o (Do (StepO (Reg t) x y) (Do (ConstO r n) (Do (StepO s i j) (Do (LoadO (Reg d) g) c)))) (with_known S.whole.globals (Of κ) (Some (8, w)) (Some (4, Offset (register t) z n)))
      unfolding does
      offset_done t d q n x y z r s i j g c apart is eight_r by sum into =
          added_done (StepO (Reg t) x y) (ConstO r n) (Offset (register t) z n) t d q n w z r s i j g c apart
          (λ f. let k = is f in (f.0, k.0, λ ys. ap (λ v. words.Goes [] ys (with_reg t v (with_reg 8 w a))) k.1)) (λ f. f) (λ ys e. refl) refl eight_r by sum into

      at_offset_done : (t x y : Where) (z : Option Where) (rest : Option (ℕ × Used)) (c : NodesT Where) → is_in t 8 ≡ false → SumIs t x y z → Done o (Do (StepO t x y) c) (with_known S.whole.globals (Of κ) (Some (8, w)) rest) → Done o (Do (StepO t x y) c) (with_known S.whole.globals (Of κ) (Some (8, w)) (or_else (offset t z c) rest))
      at_offset_done (Reg t) x y (Some z) rest c apart is done =
          offset_case (register t) z (λ c k. Done o (Do (StepO (Reg t) x y) c) (with_known S.whole.globals (Of κ) (Some (8, w)) rest) → Done o (Do (StepO (Reg t) x y) c) (with_known S.whole.globals (Of κ) (Some (8, w)) (or_else k rest)))
          (λ c d. d) (λ r s i j g d q n c eight_r by sum into rest_done. offset_done t d q n x y z r s i j g c apart is eight_r by sum into) c done
      at_offset_done (Reg t) x y None rest c apart is done = done
      at_offset_done (Slot k) x y z rest c apart is done = done

      two_added : (j : TwoOf) (x : ℕ) → adds j ≡ true → two_of j x w ≡ Some (add x (addend j w))
      two_added IADD x e = sum_made IADD w w x refl
      two_added ISUB x e = sum_made ISUB w (sub 0 w) x refl
      two_added _ x e = absurd cc

      -- behind what an operator makes that adds or takes away: the address of a global is put into register 8 and added there, and the register is loaded
      element_done : (u : OpT Where) (t : ℕ) (k : Option (TwoOf × Where)) (rest : Option (ℕ × Used)) (c : NodesT Where) → Operates u t k → Done o (Do u c) (with_known S.whole.globals (Of κ) (Some (8, w)) rest) → Done o (Do u c) (with_known S.whole.globals (Of κ) (Some (8, w)) (or_else (element (Reg t) k c) rest))
      unfolding does
      element_done u t None rest c m done = done
      element_done u t (Some (o1, z)) rest c m done = test (adds o1) refl (register t == 8) refl
        where
          test : (f : Bool) → adds o1 ≡ f → (g : Bool) → (register t == 8) ≡ g → Done o (Do u c) (with_known S.whole.globals (Of κ) (Some (8, w)) (or_else (cond (f && not g) (element_behind o1 (register t) z c) None) rest))
          test false is g apart = done
          test true is true apart = done
          test true is false apart =
              element_case o1 (register t) z (λ c k. Done o (Do u c) (with_known S.whole.globals (Of κ) (Some (8, w)) rest) → Done o (Do u c) (with_known S.whole.globals (Of κ) (Some (8, w)) (or_else k rest)))
              (λ c d. d) (λ r s i j g d q k c eight_r by sum into rest_done.
              added_done u (GlobalO r k) (Element o1 (register t) z k) t d q (get_or S.whole.globals k 0) (addend o1 w) z r s i j g c apart
              (λ ff. let n = m ff in (n.1.low, n.0, λ ys. n.1.so ys ∙ ap (λ v. computed (Of κ) (Reg t) v ys (with_reg 8 w a)) (two_added o1 (word_of (Of κ) z b) is))) (λ f. f.0) (λ ys e. refl) refl eight_r by sum into) c done

      two_done_with : (i : TwoOf) (t x y : Where) (c : NodesT Where) → Done o (Do (TwoO i t x y) c) (with_known S.whole.globals (Of κ) (Some (8, w)) (used_by (Do (TwoO i t x y) c)))
      unfolding does
      two_done_with i (Reg t) x y c =
          element_done (TwoO i (Reg t) x y) t (operand i x y) (groups.computed (Reg t) (operand i x y)) c (operates (TwoO i (Reg t) x y) c i x y refl t (λ n. n) (λ ys d. refl))
          (operand_done (TwoO i (Reg t) x y) c i x y refl (Reg t) (λ n. n) (λ ys d. refl))
      two_done_with i (Slot k) x y c = operand_done (TwoO i (Slot k) x y) c i x y refl (Slot k) (λ n. n) (λ ys d. refl)

      sent_done : (port : ℕ) (q : Where) (c : NodesT Where) → Done o (Do (OutO port q) c) (with_known S.whole.globals (Of κ) (Some (8, w)) (cond (is_in q 8) (Some (1, Sent port)) None))
      unfolding does
      sent_done port q c = go (is_in q 8) refl
        where
          go : (f : Bool) → is_in q 8 ≡ f → Done o (Do (OutO port q) c) (with_known S.whole.globals (Of κ) (Some (8, w)) (cond f (Some (1, Sent port)) None))
          go false is = one_done o (Do (OutO port q) c) fit stays
          go true is = λ ff st.
              put_done o 8 w (front_acts (lang S) (Do (OutO port q) c) 1) fit puts (λ s1 h1. alone κ m (begin (holder S) s1) p c ((lang S).act (OutO port q) s1)
              (last_by κ p (OutO port q) s1 m (with_reg 8 w a) h.registers (words.Goes (event.Out port w ∷ []) s1.world.store.answers b) (spared_like w) h1 ff.0
              (ap (λ v. event.Out port v ∷ []) (sym (there q w a ff.0.0 is)), refl, record { same = refl; regs = spared_like w })
              (sent_follows C S.address (Of κ) b roomy port w m s1.world.store.answers pc p ff.0.1 ff.0.2 h.held e st)))

      address_done : (u : OpT Where) (c : NodesT Where) → Done o (Do u c) (with_known S.whole.globals (Of κ) (Some (8, w)) (at_address 1 None (Do u c)))
      address_done u c =
          address_case None (written a.regs 8 w) (spared_like w) (λ q named is. sym (there q w a named is)) 1 (Do u c) (λ k. Done o (Do u c) (with_known S.whole.globals (Of κ) (Some (8, w)) k)) (one_done o (Do u c) fit stays)
          (λ k ends ff st. put_done o 8 w (front_acts (lang S) (Do u c) 1) fit puts (λ s1 h1. ends s1 h1 tt ff st))

      used_done : (u : OpT Where) (c : NodesT Where) → Done o (Do u c) (with_known S.whole.globals (Of κ) (Some (8, w)) (used_by (Do u c)))
      unfolding does
      used_done (TwoO i t x y) c = two_done_with i t x y c
      used_done (StepO t x y) c = go (is_in t 8) refl
        where
          go : (f : Bool) → is_in t 8 ≡ f → Done o (Do (StepO t x y) c) (with_known S.whole.globals (Of κ) (Some (8, w)) (cond f (at_sum (beside x y) c) (or_else (indexed t (beside x y) c) (or_else (offset t (beside x y) c) (groups.computed t (operand IADD x y))))))
          go true is = sum_behind t x y c is
          go false is =
              indexed_done t x y (beside x y) (or_else (offset t (beside x y) c) (groups.computed t (operand IADD x y))) c is (sum_is t x y)
              (at_offset_done t x y (beside x y) (groups.computed t (operand IADD x y)) c is (sum_is t x y) (operand_done (StepO t x y) c IADD x y refl t (λ n. n) (λ ys d. refl)))
      used_done (OutO port q) c = sent_done port q c
      used_done (LoadO t q) c = address_done (LoadO t q) c
      used_done (StoreO q y) c = address_done (StoreO q y) c
      used_done u c = one_done o (Do u c) fit stays

    -- ---- all of them

    known_done : (o u : OpT Where) (c : NodesT Where) → (Of κ).registers ≡ 8 → puts o ≡ true → Fitting S κ.fn o → Done o (Do u c) (with_known S.whole.globals (Of κ) (word_put S.whole o) (used_by (Do u c)))
    unfolding does
    known_done (ConstO (Reg k) n) u c eight is fit =
        let q = eqb-true (register k) 8 is in
        let same : k ≡ 8 = omega (arith, fit, q) in
        subst (λ r. Done (ConstO (Reg k) n) (Do u c) (with_known S.whole.globals (Of κ) (Some (r, n)) (used_by (Do u c)))) (sym q) (used_done eight (ConstO (Reg k) n) n fit tt (λ ys. ap (λ r. words.Goes [] ys (with_reg r n a)) same) u c)
    known_done (GlobalO (Reg k) j) u c eight is fit =
        let q = eqb-true (register k) 8 is in
        let named = fit.0 in
        let same : k ≡ 8 = omega (arith, named, q) in
        let w = get_or S.whole.globals j 0 in
        subst (λ r. Done (GlobalO (Reg k) j) (Do u c) (with_known S.whole.globals (Of κ) (Some (r, w)) (used_by (Do u c)))) (sym q) (used_done eight (GlobalO (Reg k) j) w fit tt (λ ys. ap (λ r. words.Goes [] ys (with_reg r w a)) same) u c)
    known_done _ u c eight is fit = absurd cc

    more_done : (o u : OpT Where) (c : NodesT Where) → Fitting S κ.fn o → Sparing (Number κ) (Do o (Do u c)) zero → Done o (Do u c) (with_more S.whole.globals (Of κ) (word_put S.whole o) u c)
    more_done o u c fit sp = go (is_spared (Of κ) (word_put S.whole o)) refl
      where
        go : (f : Bool) → is_spared (Of κ) (word_put S.whole o) ≡ f → Done o (Do u c) (cond f (with_known S.whole.globals (Of κ) (word_put S.whole o) (used_by (Do u c))) (with_word (Of κ) (word_put S.whole o) u c))
        go true is = let d = spared_is S κ.fn S.whole (Of κ) o (Do u c) sp is in known_done o u c d.0 d.1 fit
        go false is = λ ff st. word_done o u c fit (old_stays S κ.fn S.whole (Of κ) o u c sp is (fit, ff)) ff st

    pub done : (o : OpT Where) (c : NodesT Where) → Fitting S κ.fn o → Sparing (Number κ) (Do o c) zero → Done o c (with_next S.whole (Of κ) o c)
    done o (Do u c) fit sp = more_done o u c fit sp
    done o c fit sp = one_done o c fit (uses_stay S κ.fn (Number κ) o c sp fit)

  -- one operation alone
  pub op_done : (κ : Ctx) (pc p : ℕ) (s : State Where) (m : machine.State) → m.counter ≡ pc → (h : Mach S κ s m) → (o : OpT Where) → Fitting S κ.fn o → AllOf (Stays (Number κ)) (uses o) → Stand C.words S.address pc (op_items S.whole (Of κ) o) p → DidSim (holder S) κ m (begin (holder S) s) p ((lang S).act o s)
  op_done κ pc p s m e h o fit stays st =
      last_sim κ p o s m h.words h.registers h.like (record { place = h.place; at = h.at }) fit stays (op_follows C S.address S.whole (Of κ) (having h.registers h.words) (roomy κ pc p s m e h) o m s.world.store.answers pc p (good_op κ o fit) h.held e st)

  -- ---- jumps, tests, results

  pub jump_sim : (κ : Ctx) (s : State Where) (m : machine.State) (pc to : ℕ) → Mach S κ s m → m.counter ≡ pc → Jumps C.words pc to → Reaches 1 m s.world.store.answers [] (going_to to m) s.world.store.answers × Mach S κ s (going_to to m)
  jump_sim κ s m pc to h e j = (jump_reaches C (having h.registers h.words) m s.world.store.answers pc to h.held e j, record { place = h.place; words = h.words; at = h.at; registers = h.registers; like = h.like; held = moved C (having h.registers h.words) m to h.held })

  real_room : (κ : Ctx) (s : State Where) (m : machine.State) (h : Mach S κ s m) → Room (Of κ) (having h.registers h.words)
  real_room κ s m h = let r = room S fits κ s.world.store s.cells h.place h.words h.at in record { top = r.top; low = r.low; high = r.high }

  same_word : (κ : Ctx) (s : State Where) (m : machine.State) (h : Mach S κ s m) (p : Where) → Stays (Number κ) p → word_of (Of κ) p (having h.registers h.words) ≡ word_of (Of κ) p h.words
  same_word κ s m h p stays = word_alike C S.address S.whole (Of κ) (Number κ) h.words h.registers h.like p stays

  branched : (u : machine.State) (at r to next v : ℕ) (p : Where) (a : Addr) → Held C a u → u.counter ≡ at → Line C.words at (instr.Branch JF r (src.Imm to)) next ⊎ Line C.words at (instr.Branch JT r (src.Imm next)) to → r < 16 → register_of u r ≡ v →
      effect_of u ≡ EndsIn stepped.Went (going_to (if v == 0 then to else next) u)
  branched u at r to next v p a h e (inl l) lt is = line_effect C a u at (instr.Branch JF r (src.Imm to)) next h e l (lt, omega arith, omega arith) ∙ branch_effect u r to next v is
  branched u at r to next v p a h e (inr l) lt is = line_effect C a u at (instr.Branch JT r (src.Imm next)) to h e l (lt, omega arith, omega arith) ∙ when_effect u r next to v is

  branch_turn : (u : machine.State) (at r to next : ℕ) (a : Addr) → Held C a u → u.counter ≡ at → Line C.words at (instr.Branch JF r (src.Imm to)) next ⊎ Line C.words at (instr.Branch JT r (src.Imm next)) to → r < 16 → turn u ≡ Onwards
  branch_turn u at r to next a h e (inl l) lt = line_turn C a u at (instr.Branch JF r (src.Imm to)) next h e l (lt, omega arith, omega arith)
  branch_turn u at r to next a h e (inr l) lt = line_turn C a u at (instr.Branch JT r (src.Imm next)) to h e l (lt, omega arith, omega arith)

  tested : (κ : Ctx) (s : State Where) (m : machine.State) (pc to next : ℕ) (p : Where) (q : ℕ) → Named S κ.fn p → Stays (Number κ) p → (h : Mach S κ s m) → m.counter ≡ pc → Tests C.words S.address (Of κ) pc p to next → (if word_of (Of κ) p h.words == 0 then to else next) ≡ q → Came (holder S) m (spare 1 (begin (holder S) s)) (spent node_weight s) q 1 0 (Mach S κ (spent node_weight s))
  tested κ s m pc to next p q named stays h e t is =
      let F = Of κ in
      let xs = s.world.store.answers in
      let v = word_of F p h.words in
      let real = having h.registers h.words in
      let b = brings_at C F S.address real m xs pc t.0 p 9 (real_room κ s m h) (good S fits κ p named) (omega arith) (omega arith) h.held e t.1 in
      let r = hand p 9 in
      let u = b.to in
      let eff = branched u t.0 r to next v p real b.held b.at t.2 (hand_fits p 9 (omega arith)) (b.is ∙ same_word κ s m h p stays) in
      record {
        steps = b.steps + 1;
        made = [];
        to = going_to (if v == 0 then to else next) u;
        by = reaches_on b.steps 1 m u (going_to (if v == 0 then to else next) u) xs xs xs [] [] b.by (reaches_went u (going_to (if v == 0 then to else next) u) xs eff (branch_turn u t.0 r to next real b.held b.at t.2 (hand_fits p 9 (omega arith))));
        at = is;
        held = record { place = h.place; words = h.words; at = h.at; registers = h.registers; like = h.like; held = moved C real u (if v == 0 then to else next) b.held };
        events = sym (append-nil s.world.events);
        cost = let n = b.few in omega (arith, n);
        many = omega arith;
      }

  pub test_sim : (κ : Ctx) (pc py px : ℕ) (w : Where) (s : State Where) (m : machine.State) → (shapes S).test κ.fn pc w py px → m.counter ≡ pc → Mach S κ s m → TestSim (holder S) (Mach S κ (spent node_weight s)) py px m (begin (holder S) s) (spent node_weight s) (word_tested (s.cells w))
  test_sim κ pc py px w s m st e h = go (s.cells w) (word_stands S fits κ s.world.store s.cells h.place h.words w st.0 h.at)
    where
      go : (c : Cell) → Stands (length s.world.store.objects) h.place c (word_of (S.whole.frames κ.fn) w h.words) → TestSim (holder S) (Mach S κ (spent node_weight s)) py px m (begin (holder S) s) (spent node_weight s) (word_tested c)
      go Unwritten r = tt
      go (Ptr o i) r = tt
      go Null r = tt
      go (Num zero) r = tested κ s m pc py px w py st.0 st.2 h e st.1 (ap (λ v. if v == 0 then py else px) r)
      go (Num (suc v)) r = tested κ s m pc py px w px st.0 st.2 h e st.1 (ap (λ z. if z == 0 then py else px) r ∙ not_zero v py px)

  pub give_sim : (κ : Ctx) (pc : ℕ) (w : Option Where) (s : State Where) (m : machine.State) → GivingAt S κ.fn pc w → m.counter ≡ pc → Mach S κ s m →
      (q : ℕ) × ExitAt S κ.fn q × Came (holder S) m (begin (holder S) s) ((lang S).give w (spent node_weight s)) q 0 0 (Given S κ ((lang S).give w (spent node_weight s)))
  give_sim κ pc None s m st e h =
      let xs = s.world.store.answers in
      let g = gone C (having h.registers h.words) m xs pc st.out h.held e (subst (λ z. Passes C.words z st.out) (sym st.stands) st.passes) in (
        st.out,
        st.exit,
        record {
          steps = g.steps;
          made = [];
          to = g.there;
          by = g.by;
          at = g.at;
          held = record { place = h.place; cells = s.cells; words = h.words; at = h.at; registers = h.registers; like = h.like; held = g.held; given = tt };
          events = sym (append-nil s.world.events);
          cost = let n = g.few in omega (arith, n);
          many = omega arith;
        },
      )
  give_sim κ pc (Some p) s m st e h =
      let F = Of κ in
      let xs = s.world.store.answers in
      let out = st.out in
      let g = st.stands in
      let real = having h.registers h.words in
      let v = word_of F p real in
      let u = took C g.0 9 v m in
      let hu = scratch C real m g.0 9 v (omega arith) (omega arith) h.held in
      let on = gone C real u xs g.0 out hu refl (subst (λ z. Passes C.words z out) (sym g.2) st.passes) in
      let nine : register_of on.there 9 ≡ v = on.nine ∙ reg_same C m 9 v (omega (arith, h.held.sixteen)) in (
        out,
        st.exit,
        record {
          steps = 1 + on.steps;
          made = [];
          to = on.there;
          by = reaches_on 1 on.steps m u on.there xs xs xs [] [] (fetches_so C F S.address real m xs pc p 9 g.0 (real_room κ s m h) (good S fits κ p st.named.0) (omega arith) h.held e g.1) on.by;
          at = on.at;
          held = record { place = h.place; cells = s.cells; words = h.words; at = h.at; registers = h.registers; like = h.like; held = on.held; given = subst (λ z. Stands (length s.world.store.objects) h.place (s.cells p) z) (sym (nine ∙ same_word κ s m h p st.stays.0)) (word_stands S fits κ s.world.store s.cells h.place h.words p st.named.0 h.at) };
          events = sym (append-nil s.world.events);
          cost = let n = on.few in omega (arith, n);
          many = omega arith;
        },
      )
