-- Placed code that stands among the words is followed by the machine, for every bound.
use Rattle.std.proofs.Common.{◌≡◌, ℕ, ◌<◌, Bool, true, false, List, refl, ◌∙◌, subst, arith}
use Rattle.std.specs.Prelude.{◌||◌}
use Rattle.v32_isa.specs.State as machine
use Rattle.obj_mem.specs.declared.cell.Cell.TheVariants.{Unwritten}
use Rattle.mid_code.specs.declared.placed.Where.{Where}
use Rattle.mid_code.specs.Code.{OpT, NodesT, Stop, Do, Choose, Loop}
use Rattle.mid_code.specs.Meaning.{runs, call_weight}
use Rattle.mid_code.specs.States.{State, spent}
use Rattle.asm_laws.specs.Live.{lasts, is_place, live_soon, ahead}
use Rattle.asm_laws.specs.Placing.{Bounds, At}
use Rattle.asm_laws.specs.inner.Following.{Parts, Sim, DidBy, begin, at_front, did_then, front_acts}
use Rattle.asm_laws.proofs.Control as control
use Rattle.asm_laws.specs.Holds.{Setting, Fits, Ctx}
use Rattle.asm_laws.specs.Calling.{Callable, Mach, Ready, Like, live_at, lang, live_holder, shapes, FunctionAt}
use Rattle.asm_laws.specs.Asks.{is_unread}
use Rattle.asm_laws.proofs.Asks.{live_other}
use Rattle.asm_laws.proofs.AskLoop.{unread_like, ask_like}
use Rattle.asm_laws.proofs.Led.{op_sim}
use Rattle.asm_laws.proofs.LiveParts.{like_weaker, op_like, spent_same, given_like, or_first, or_second}
use Rattle.asm_laws.proofs.LiveSims.{copy_like, made_like, give_like, test_like, call_like, jump_like}

module _ (S : Setting) (fits : Fits S) (functions : (g : ℕ) → Callable S g → FunctionAt S g) where
  -- the machine holds no less of a state
  less : (κ : Ctx) (c d : NodesT Where) (s : State Where) (m : machine.State) → ((r : ℕ) → r < 9 → live_at S κ d r ≡ true → live_at S κ c r ≡ true) → Like (live_at S κ c) (Mach S κ) s m → Like (live_at S κ d) (Mach S κ) s m
  less κ c d s m f h = like_weaker S (live_at S κ c) (live_at S κ d) (Mach S κ) s m f h

  -- an operation that takes instructions, and one that takes none
  op_or_none : (κ : Ctx) (pc p more : ℕ) (o : OpT Where) (c : NodesT Where) (s : State Where) (m : machine.State) → (shapes S).op κ.fn pc o c more p → m.counter ≡ pc → Like (live_at S κ (Do o c)) (Mach S κ) s m →
      DidBy (live_holder S) m (begin (live_holder S) s) p (at_front (live_holder S) κ c more) (did_then ((lang S).act o s) (front_acts (lang S) c more))
  op_or_none κ pc p more o c s m st e h = go (is_unread (Do o c)) refl
    where
      go : (b : Bool) → is_unread (Do o c) ≡ b → DidBy (live_holder S) m (begin (live_holder S) s) p (at_front (live_holder S) κ c more) (did_then ((lang S).act o s) (front_acts (lang S) c more))
      go true q = unread_like S fits κ pc p more o c s m q st e h
      go false q = op_like S κ m p more o c s st.0 st.1 h (op_sim S fits κ pc p more o c h.other m q st e h.held)

  pub parts : Parts (lang S) (live_holder S) (shapes S)
  parts = record {
    tick_answers = λ n s. refl;
    tick_events = λ n s. refl;
    tick_work = λ n s. omega arith;
    ticks = λ κ c n s m h. let g = h.held in record {
      other = spent n h.other;
      same = spent_same S κ (live_at S κ c) n h.other s h.same;
      held = record { place = g.place; words = g.words; at = g.at; registers = g.registers; like = g.like; held = g.held };
    };
    jump = jump_like S fits;
    opens = λ κ c s m o h. less κ Stop c s m o h;
    first = λ κ p x y c s m h. less κ (Choose p x y c) x s m (λ r lt e. or_second (is_place p r) (live_at S κ x r || live_at S κ y r) (or_first (live_at S κ x r) (live_at S κ y r) e)) h;
    second = λ κ p x y c s m h. less κ (Choose p x y c) y s m (λ r lt e. or_second (is_place p r) (live_at S κ x r || live_at S κ y r) (or_second (live_at S κ x r) (live_at S κ y r) e)) h;
    block = λ κ b c s m h. h;
    loop = λ κ b c s m q h. less κ (Loop b c) Stop s m (λ r lt e. live_other (S.whole.frames κ.fn).lasting b c r q.0 ∙ or_first (lasts (S.whole.frames κ.fn).lasting r) _ e) h;
    leave = λ κ k c s m h. h;
    again = λ κ k c s m h. h;
    none = λ κ s m h.
        let t = h.other in
        let g = h.held in
        let tn = record t { given = Unwritten } in
        let sn = record s { given = Unwritten } in
        given_like S κ tn sn m (record { world = h.same.world; given = refl; slots = h.same.slots; regs = λ r lt e. cc })
        (record { place = g.place; cells = t.cells; words = g.words; at = g.at; registers = g.registers; like = g.like; held = g.held; given = tt });
    none_answers = λ s. refl;
    none_events = λ s. refl;
    none_work = λ s. refl;
    op = op_or_none;
    made = made_like S fits;
    nothing = λ f r lt e. e;
    plain_first = λ b k q. (q.0, refl);
    ready_first = λ κ b c s m h. record { other = h.other; same = h.same; held = h.held };
    ready_plain = λ κ b c k s m q h. record { other = h.other; same = h.same; held = subst (λ z. Ready S κ (live_soon ahead (S.whole.frames κ.fn).lasting c) z h.other m) q.1 h.held };
    ask = ask_like S fits;
    copy = copy_like S fits;
    test = test_like S fits;
    give = give_like S fits;
    call = λ κ pc p t f args c s m at e h. call_like S fits functions κ pc p t f args c s m (call_weight args) (omega arith) at e h;
  }

  pub follows : (n : ℕ) (κ : Ctx) (pc e : ℕ) (ls : List Bounds) (c : NodesT Where) (s : State Where) (m : machine.State) → At (shapes S) κ.fn ls pc c e → m.counter ≡ pc → Like (live_at S κ c) (Mach S κ) s m →
      Sim (live_holder S) κ (Like (live_at S κ Stop) (Mach S κ)) m (begin (live_holder S) s) e n ls (runs (lang S) n c s)
  follows n κ pc e ls c s m at eq h = control.follows (lang S) (live_holder S) (shapes S) parts n κ pc e ls c s m at eq h
