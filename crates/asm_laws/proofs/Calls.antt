-- Calls of placed code are followed.
use Rattle.std.proofs.Common.{◌≡◌, ◌≢◌, ℕ, zero, suc, ◌+◌, ◌-◌, ◌*◌, ◌<◌, ◌≤◌, ◌⊎◌, inl, inr, Bool, true, false, List, [], ◌∷◌, length, Option, Some, None, refl, sym, ap, ◌∙◌, subst, arith, append-nil}
use Rattle.std.specs.Prelude.{map, leb, ltb, cond, ◌==◌}
use Rattle.std.proofs.lemmas.Bool.{leb-true, lt-ltb, eqb-true}
use Rattle.v32_isa.specs.declared.instruction.Plain.TheVariants.{RET}
use Rattle.v32_isa.specs.declared.instruction.Go.TheVariants.{CALL}
use Rattle.v32_isa.specs.declared.instruction.Two.TheVariants.{IADD}
use Rattle.v32_isa.specs.declared.instruction.Src.TheVariants as src
use Rattle.v32_isa.specs.declared.instruction.Instr.TheVariants as instr
use Rattle.v32_isa.specs.State.{register_of, with_register, going_to, written}
use Rattle.v32_isa.specs.State as machine
use Rattle.v32_isa.specs.Runs.{run}
use Rattle.v32_isa.specs.Calls.{Link}
use Rattle.v32_isa.proofs.Steps.{Moves, reaches_here, reaches_in, reaches_went, moves_on, nested_none}
use Rattle.asm_items.specs.declared.item.AsmItem.TheVariants as item
use Rattle.either.specs.declared.Either.TheVariants.{Left, Right}
use Rattle.obj_mem.specs.Stores.{Store, entered, returned_to}
use Rattle.mid_code.specs.declared.placed.Where.{Where}
use Rattle.mid_code.specs.declared.placed.Where.TheVariants.{Reg, Slot}
use Rattle.mid_code.specs.Code.{maybe}
use Rattle.mid_code.specs.States.{State, spent, registers_and_slots, function_at, received, after_call, begun, back, if_room}
use Rattle.mid_code.specs.Invariants.{AllOf}
use Rattle.asm_laws.specs.Names.{function_label}
use Rattle.asm_laws.specs.Operations.{Frame, args_items, keeps_some}
use Rattle.asm_laws.specs.Placing.{Line}
use Rattle.asm_laws.specs.inner.Following.{begin, spare, CameBy, Enters, CallSim}
use Rattle.asm_laws.specs.Standing.{Stand}
use Rattle.asm_laws.specs.Addresses.{Addr, Console, store, put, having, Good, Held, ArrivesBy}
use Rattle.asm_laws.specs.Spare.{Stays}
use Rattle.asm_laws.proofs.Words.{below_not}
use Rattle.obj_mem.specs.declared.cell.Cell.{Cell}
use Rattle.obj_mem.specs.declared.cell.Cell.TheVariants.{Unwritten}
use Rattle.asm_laws.specs.Framing.{frame_gone}
use Rattle.asm_laws.specs.inner.Links.{all_passed, all_arrived, new_slot, called, way_back, gone_back}
use Rattle.asm_laws.proofs.Stepping.{line_effect, line_turn, reg_other, moved, keeps_so, written_same, written_other}
use Rattle.asm_laws.proofs.LinksStep.{Roomy, calls, part, top_held, based, more_act, ret_act, returns_by, link_at}
use Rattle.asm_laws.proofs.LinksStep as emitted_calls
use Rattle.asm_laws.specs.Holds.{Setting, sizes, Named, Fits, Ctx, slot_place, Stands, Temps, HoldsAt}
use Rattle.asm_laws.specs.Calling.{Callable, Mach, Given, ExitAt, lang, holder, CallAt, shapes, FunctionAt}
use Rattle.asm_laws.proofs.Lists.{length_end_from}
use Rattle.asm_laws.proofs.First.{stands_more, room, set_target}
use Rattle.asm_laws.proofs.Frames.{top_of, below, inner, room_of, low_write, enter_holds, link_stays, back_holds}
use Rattle.asm_laws.proofs.Args.{all_passed_holds, slots_passed, regs_arrived}

-- steps that change something are some
reaches_same : (is js : List Link) (s t : machine.State) (xs : List ℕ) → Moves is js 0 s xs [] t xs → s ≡ t
unfolding run
reaches_same is js s t xs r = ap (λ x. x.state) (r.runs 0)

some_steps : (is js : List Link) (steps : ℕ) (s t : machine.State) (xs : List ℕ) → Moves is js steps s xs [] t xs → register_of s 15 ≢ register_of t 15 → 1 ≤ steps
some_steps is js zero s t xs r n = absurd (n (ap (λ x. register_of x 15) (reaches_same is js s t xs r)))
some_steps is js (suc k) s t xs r n = omega arith

-- From a function's end to the address that its call left, with register 9 as it was. Where its frame has words, it is taken away before.
record Returned (C : Console) (l : Link) (base size : ℕ) (a : Addr) (s : machine.State) (xs : List ℕ) : Type 0 where
  to : machine.State
  steps : ℕ
  few : steps ≤ 2
  by : Moves (l ∷ []) [] steps s xs [] to xs
  at : to.counter ≡ a.memory (way_back size a)
  held : Held C (gone_back size base a) to
  nine : register_of to 9 ≡ register_of s 9

returns : (C : Console) (l : Link) (base : ℕ) (address : List ℕ → ℕ) (F : Frame) (a : Addr) (s : machine.State) (xs : List ℕ) (size pc e : ℕ) → way_back size a < 0x400000 → way_back size a ≡ l.top → a.memory (way_back size a) ≡ l.back → Held C a s → s.counter ≡ pc → Stand C.words address pc (frame_gone size) e → Returned C l base size a s xs
returns C l base address F a s xs size pc e hi top back h c k = go (size == 0) refl k
  where
    go : (b : Bool) → (size == 0) ≡ b → Stand C.words address pc (cond b (item.Op (instr.Plain RET) ∷ []) (item.Op (instr.Two IADD 15 (src.Imm (Left size))) ∷ item.Op (instr.Plain RET) ∷ [])) e → Returned C l base size a s xs
    go true is k =
        let z : size ≡ 0 = eqb-true size 0 is in
        let d : a.top ≡ way_back size a = omega (arith, z) in
        let u = going_to (a.memory a.top) (with_register 15 (a.top + 1) s) in
        record {
          to = u;
          steps = 1;
          few = omega arith;
          by = returns_by C a s u xs pc k.0 l h c k.1 (ret_act C address F F a s k.0 (omega (arith, hi, z)) h) (omega (arith, hi, z)) (d ∙ top) (ap a.memory d ∙ back);
          at = ap a.memory d;
          held = based C (record a { top = way_back size a + 1 }) u base (subst (λ q. Held C (record a { top = q + 1 }) u) d (moved C (record a { top = a.top + 1 }) (with_register 15 (a.top + 1) s) (a.memory a.top) (top_held C a s (a.top + 1) h)));
          nine = reg_other C s 15 (a.top + 1) 9 (omega arith);
        }
    go false is k =
        let w = way_back size a in
        let a1 = record a { top = w } in
        let u1 = going_to k.0 (with_register 15 w s) in
        let h1 : Held C a1 u1 = moved C a1 (with_register 15 w s) k.0 (top_held C a s w h) in
        let e1 = line_effect C a s pc (instr.Two IADD 15 (src.Imm size)) k.0 h c k.1 (omega arith, omega arith, omega arith) ∙ more_act C address F F a s size k.0 (omega (arith, hi)) h in
        let u2 = going_to (a.memory w) (with_register 15 (w + 1) u1) in
        record {
          to = u2;
          steps = 2;
          few = omega arith;
          by = moves_on (l ∷ []) (l ∷ []) [] 1 1 s u1 u2 xs xs xs [] [] (reaches_in l 1 s u1 xs xs [] (reaches_went s u1 xs e1 (line_turn C a s pc (instr.Two IADD 15 (src.Imm size)) k.0 h c k.1 (omega arith, omega arith, omega arith))))
              (returns_by C a1 u1 u2 xs k.0 k.2.0 l h1 refl k.2.1 (ret_act C address F F a1 u1 k.2.0 hi h1) hi top back);
          at = refl;
          held = based C (record a { top = w + 1 }) u2 base (moved C (record a1 { top = w + 1 }) (with_register 15 (w + 1) u1) (a.memory w) (top_held C a1 u1 (w + 1) h1));
          nine = reg_other C u1 15 (w + 1) 9 (omega arith) ∙ reg_other C s 15 w 9 (omega arith);
        }

-- wherever a function ends, what takes its frame away stands
gone_at : (S : Setting) (f pc ends : ℕ) → Stand S.console.words S.address (S.leaves f) (frame_gone (S.whole.frames f).size) ends → ExitAt S f pc → (e : ℕ) × Stand S.console.words S.address pc (frame_gone (S.whole.frames f).size) e
gone_at S f pc ends exit (inl e) = (ends, subst (λ q. Stand S.console.words S.address q (frame_gone (S.whole.frames f).size) ends) (sym e) exit)
gone_at S f pc ends exit (inr r) = (r.1, r.2)

-- the cells of places that stay, the others unwritten
held_cells : ℕ → (Where → Cell) → Where → Cell
held_cells n cells (Reg r) = cond (ltb r n) (cells (Reg r)) Unwritten
held_cells n cells (Slot k) = cells (Slot k)

held_cell : (n : ℕ) (cells : Where → Cell) (p : Where) → Stays n p → held_cells n cells p ≡ cells p
unfolding held_cells
held_cell n cells (Reg r) lt = ap (λ b. cond b (cells (Reg r)) Unwritten) (lt-ltb r n lt)
held_cell n cells (Slot k) h = refl

held_args : (n : ℕ) (cells : Where → Cell) (args : List Where) → AllOf (Stays n) args → map (held_cells n cells) args ≡ map cells args
held_args n cells [] h = refl
held_args n cells (p ∷ ps) h = λ i. held_cell n cells p h.0 i ∷ held_args n cells ps h.1 i

-- the words of the machine hold them
really_held : (S : Setting) (κ : Ctx) (s : State Where) (m : machine.State) (h : Mach S κ s m) → HoldsAt S κ s.world.store (held_cells (S.whole.frames κ.fn).registers s.cells) h.place (having h.registers h.words)
unfolding held_cells
really_held S κ s m h = record {
  temps = record { in_regs = λ r lt. go r lt (below_not r (S.whole.frames κ.fn).registers); in_slots = h.at.temps.in_slots };
  ranges = h.at.ranges;
  objects = h.at.objects;
  kept = h.at.kept;
  stack = h.at.stack;
}
  where
    Here : ℕ → Bool → Type 0
    Here r b = Stands (length s.world.store.objects) h.place (cond b (s.cells (Reg r)) Unwritten) (h.registers r)

    go : (r : ℕ) → r < 9 → ((r < (S.whole.frames κ.fn).registers) × (ltb r (S.whole.frames κ.fn).registers ≡ true)) ⊎ (ltb r (S.whole.frames κ.fn).registers ≡ false) → Here r (ltb r (S.whole.frames κ.fn).registers)
    go r lt (inl b) = subst (Here r) (sym b.1) (subst (λ v. Stands (length s.world.store.objects) h.place (s.cells (Reg r)) v) (sym (h.like r b.0)) (h.at.temps.in_regs r lt))
    go r lt (inr b) = subst (Here r) (sym b) tt

-- after a call registers hold none
after_held : (S : Setting) (κ : Ctx) (st : Store) (n : ℕ) (cells : Where → Cell) (place : ℕ → ℕ) (a : Addr) → HoldsAt S κ st (after_call registers_and_slots (held_cells n cells)) place a → HoldsAt S κ st (after_call registers_and_slots cells) place a
unfolding held_cells
after_held S κ st n cells place a h = record { temps = record { in_regs = h.temps.in_regs; in_slots = h.temps.in_slots }; ranges = h.ranges; objects = h.objects; kept = h.kept; stack = h.stack }

itself : (F : Frame) (t : Where) (v : ℕ) (a : Addr) (C : Console) (m : machine.State) → Held C (put F t v a) m → Held C (having (put F t v a).regs (put F t v a)) m
itself F (Reg r) v a C m h = h
itself F (Slot k) v a C m h = h

module _ (S : Setting) (fits : Fits S) where
  abbrev C : Console
  C = S.console

  all_good : (f : ℕ) (F G : Frame) (ps : List Where) → ((p : Where) → Named S f p → Good (S.whole.frames f) p) → AllOf (Named S f) ps → emitted_calls.AllOf C S.address F G (Good (S.whole.frames f)) ps
  all_good f F G [] go named = tt
  all_good f F G (p ∷ ps) go named = (go p named.0, all_good f F G ps go named.1)

  good_at : (f : ℕ) (p : Where) → Named S f p → Good (S.whole.frames f) p
  good_at f (Reg r) n = n
  good_at f (Slot k) n = fits.slot_in f k n

  module _ (functions : (g : ℕ) → Callable S g → FunctionAt S g) (κ : Ctx) (pc p : ℕ) (t : Option Where) (g : ℕ) (args : List Where) (s : State Where) (m : machine.State) (at : CallAt S κ.fn pc t g args p) (epc : m.counter ≡ pc) (h : Mach S κ s m)
      (fit : s.world.store.used + ((sizes S).frame g + 2) + (sizes S).globals ≤ 4194304) (w : ℕ) (paid : 3 * length args ≤ 4 + w) where
    abbrev F : Frame
    F = S.whole.frames κ.fn

    abbrev G : Frame
    G = S.whole.frames g

    abbrev ps : List Where
    ps = S.whole.params g

    -- the words of the machine, and the cells that they hold
    abbrev a : Addr
    a = having h.registers h.words

    abbrev cells : Where → Cell
    cells = held_cells (S.whole.frames κ.fn).registers s.cells

    abbrev at_a : HoldsAt S κ s.world.store cells h.place a
    at_a = really_held S κ s m h

    same_args : map cells args ≡ map s.cells args
    same_args = held_args (S.whole.frames κ.fn).registers s.cells args at.args_stay

    abbrev T : ℕ
    T = top_of S κ

    abbrev st : Store
    st = s.world.store

    abbrev N : ℕ
    N = length st.objects

    abbrev xs : List ℕ
    xs = st.answers

    big : (sizes S).globals + G.size + 2 ≤ T
    big = room_of S fits κ st cells h.place a g at.callable at_a fit

    top_a : a.top ≡ T
    top_a = let e = at_a.stack.top_is in omega (arith, e)

    low_t : T ≤ 0x400000
    low_t = let e = at_a.stack.high in omega (arith, e)

    abbrev split : (q : ℕ) × Stand C.words S.address pc (args_items F G ps args) q × Stand C.words S.address q (item.Op (instr.Go CALL (src.Imm (Right (function_label S.whole.names g)))) ∷ keeps_some F t) p
    split = part C S.address F G (args_items F G ps args) (item.Op (instr.Go CALL (src.Imm (Right (function_label S.whole.names g)))) ∷ keeps_some F t) pc p at.stands

    abbrev next : ℕ
    next = split.2.0

    -- the words after the arguments and the link, with the stack's top as before
    abbrev a1 : Addr
    a1 = all_passed F G ps args a

    abbrev P : Addr
    P = all_arrived F ps args a1

    abbrev aT : Addr
    aT = record a1 { top = T }

    abbrev a3 : Addr
    a3 = store (T - 1) next aT

    h1 : HoldsAt S κ st cells h.place a1
    h1 = all_passed_holds S fits κ st cells h.place g at.callable at.depth big ps args a at.callable.params_named at_a

    top_1 : a1.top ≡ T
    top_1 = let e = h1.stack.top_is in omega (arith, e)

    hT : HoldsAt S κ st cells h.place aT
    hT = subst (λ q. HoldsAt S κ st cells h.place (record a1 { top = q })) top_1 h1

    h3 : HoldsAt S κ st cells h.place a3
    h3 = low_write S fits κ st cells h.place aT (T - 1) next (omega (arith, big)) (omega (arith, big)) at.depth hT

    -- the link
    link_next : a3.memory (T - 1) ≡ next
    link_next = written_same a1.memory (T - 1) next (T - 1) refl

    link_under : (q : ℕ) → q < T - 1 → a3.memory q ≡ a1.memory q
    link_under q lt = written_other a1.memory (T - 1) next q (omega (arith, lt))

    P_top : P.top ≡ T
    P_top = top_1

    abbrev b : Addr
    b = called F G ps args next a

    memory_is : b.memory ≡ a3.memory
    memory_is = ap (λ x. written a1.memory (x - 1) next) P_top

    abbrev κ2 : Ctx
    κ2 = inner S κ g st.objects h.place a3.memory

    slot_at : (k : ℕ) → S.has_slot g k → Stands N h.place (received registers_and_slots ps (map cells args) (Slot k)) (b.memory (slot_place S κ2 k))
    slot_at k has =
        let u = fits.slot_in g k has in
        let q = slot_place S κ2 k in
        let e1 : q ≡ new_slot G k a = omega (arith, top_a) in
        let wq : b.memory q ≡ a1.memory (new_slot G k a) =
        ap (λ f. f q) memory_is ∙ link_under q (omega (arith, u, big)) ∙ ap a1.memory e1 in
        subst (λ z. Stands N h.place (received registers_and_slots ps (map cells args) (Slot k)) z) (sym wq) (slots_passed S fits κ st cells h.place g at.callable at.depth big ps args a at.callable.params_named at.callable.params_differ at.args_named at_a k has)

    temps : Temps S κ2 N h.place (received registers_and_slots ps (map cells args)) b.regs b.memory
    temps = record {
      in_regs = λ r lt. regs_arrived S fits κ st cells h.place g at.callable at.depth big ps args a1 at.args_named h1 r;
      in_slots = slot_at;
    }

    -- the end of the frame, and the top of the stack, in the call
    base_b : b.base ≡ below S κ g
    base_b = ap (λ x. x - 1) P_top

    top_b : b.top + G.size ≡ below S κ g
    top_b = omega (arith, P_top, big)

    inside : HoldsAt S κ2 (entered (sizes S) g st) (received registers_and_slots (function_at S.code g).params (map s.cells args)) h.place b
    inside = subst (λ cs. HoldsAt S κ2 (entered (sizes S) g st) (received registers_and_slots (function_at S.code g).params cs) h.place b) same_args
        (subst (λ qs. HoldsAt S κ2 (entered (sizes S) g st) (received registers_and_slots qs (map cells args)) h.place b) at.callable.params
        (enter_holds S fits κ st cells h.place a3 b g ps (map cells args) at.callable h3 at.depth fit memory_is base_b top_b temps))

    roomy : Roomy C S.address F G a
    roomy = record { room = room S fits κ st cells h.place a at_a; below = omega (arith, big, top_a); above = omega (arith, low_t, top_a) }

    -- the link
    abbrev link : Link
    link = link_at C S.address F G P next

    -- the machine is at the body
    comes : (fn : FunctionAt S g) → ArrivesBy [] (link ∷ []) C (3 * length args + 2) m xs (S.enters g) [] xs b
    comes fn = calls C S.address F G a m xs pc split.0 next fn.begins (S.enters g) ps args roomy at.count (all_good g F G ps (good_at g) at.callable.params_named) at.callable.params_differ (all_good κ.fn F G args (good_at κ.fn) at.args_named) h.held epc split.1
        (subst (λ z. Line C.words split.0 (instr.Go CALL (src.Imm z)) next) fn.label split.2.1) fn.entry

    goes : FunctionAt S g → CameBy [] (link ∷ []) (holder S) m (spare 8 (begin (holder S) s)) (begun registers_and_slots (sizes S) (function_at S.code g).params g args (spent w s)) (S.enters g) 1 0 (Mach S κ2 (begun registers_and_slots (sizes S) (function_at S.code g).params g args (spent w s)))
    goes fn =
        let r = comes fn in
        let top_m : register_of m 15 ≡ T = h.held.top ∙ top_a in
        let top_t : register_of r.to 15 ≡ b.top = r.held.top in
        record {
          steps = r.steps;
          made = [];
          to = r.to;
          by = r.by;
          at = r.at;
          held = record { place = h.place; words = b; at = inside; registers = b.regs; like = λ q lt. refl; held = r.held };
          events = sym (append-nil s.world.events);
          cost = let f = r.few in omega (arith, f, paid);
          many = some_steps [] (link ∷ []) r.steps m r.to xs r.by (λ e. omega (arith, e, top_m, top_t, top_b, big));
        }

    -- ---- the way back

    back_at : FunctionAt S g → (s1 : State Where) (m1 : machine.State) → Given S κ2 s1 m1 → ExitAt S g m1.counter → CameBy (link ∷ []) [] (holder S) m1 (begin (holder S) s1) (back registers_and_slots t (spent w s) s1) p 0 8 (Mach S κ (back registers_and_slots t (spent w s) s1))
    back_at fn s1 m1 gv out = go t at.target split.2.2
      where
        top_v : gv.words.top + G.size ≡ below S κ g
        top_v = let e = gv.at.stack.top_is in let d = at.callable.depth in omega (arith, e, d)

        -- where the way back stands
        back_v : way_back G.size gv.words ≡ T - 1
        back_v = top_v

        link_same : (q : ℕ) → below S κ g ≤ q → q < T → gv.words.memory q ≡ a3.memory q
        link_same q le lt = link_stays S fits κ st s1.world.store cells gv.cells h.place a3.memory gv.place a3 gv.words g q h3 gv.at (omega (arith, le, big)) le lt

        -- and the way back
        link_2 : gv.words.memory (way_back G.size gv.words) ≡ next
        link_2 = ap gv.words.memory back_v ∙ link_same (T - 1) (omega arith) (omega (arith, big)) ∙ link_next

        home : Returned C link κ.base G.size (having gv.registers gv.words) m1 s1.world.store.answers
        home =
            let gone = gone_at S g m1.counter fn.ends fn.exit out in
            returns C link κ.base S.address F (having gv.registers gv.words) m1 s1.world.store.answers G.size m1.counter gone.0 (omega (arith, back_v, low_t, big)) (omega (arith, back_v, P_top)) link_2 gv.held refl gone.1

        back_real : HoldsAt S κ (returned_to st s1.world.store) (after_call registers_and_slots cells) gv.place (gone_back G.size κ.base (having gv.registers gv.words))
        back_real = back_holds S fits κ st s1.world.store cells gv.cells h.place gv.place a3 gv.words (gone_back G.size κ.base (having gv.registers gv.words)) g h3 at.depth gv.at refl refl (let q = at_a.stack.top_is in omega (arith, back_v, q, big, top_a))

        holds : HoldsAt S κ (returned_to st s1.world.store) (after_call registers_and_slots s.cells) gv.place (gone_back G.size κ.base (having gv.registers gv.words))
        holds = after_held S κ (returned_to st s1.world.store) (S.whole.frames κ.fn).registers s.cells gv.place (gone_back G.size κ.base (having gv.registers gv.words)) back_real

        given : Stands (length (returned_to st s1.world.store).objects) gv.place s1.given (register_of m1 9)
        given = stands_more (length s1.world.store.objects) (length (returned_to st s1.world.store).objects) gv.place gv.place s1.given (register_of m1 9) (let l = length_end_from (length st.objects) s1.world.store.objects in omega (arith, l)) (λ o q. refl) gv.given

        go : (t : Option Where) → AllOf (Named S κ.fn) (maybe t) → Stand C.words S.address next (keeps_some F t) p → CameBy (link ∷ []) [] (holder S) m1 (begin (holder S) s1) (back registers_and_slots t (spent w s) s1) p 0 8 (Mach S κ (back registers_and_slots t (spent w s) s1))
        go None named k = record {
          steps = home.steps;
          made = [];
          to = home.to;
          by = home.by;
          at = home.at ∙ link_2 ∙ k;
          held = record { place = gv.place; words = gone_back G.size κ.base (having gv.registers gv.words); at = holds; registers = (gone_back G.size κ.base (having gv.registers gv.words)).regs; like = λ r lt. refl; held = home.held };
          events = sym (append-nil s1.world.events);
          cost = omega (arith, home.few);
          many = omega arith;
        }
        go (Some q) named k =
            let ys = s1.world.store.answers in
            let r = keeps_so C F S.address (gone_back G.size κ.base (having gv.registers gv.words)) home.to ys next q 9 (register_of m1 9) k.0 (omega arith) (room S fits κ (returned_to st s1.world.store) (after_call registers_and_slots s.cells) gv.place (gone_back G.size κ.base (having gv.registers gv.words)) holds) (good_at κ.fn q named.0) home.held (home.at ∙ link_2) home.nine k.1 in
            record {
              steps = home.steps + r.steps;
              made = [];
              to = r.to;
              by = moves_on (link ∷ []) [] [] home.steps r.steps m1 home.to r.to ys ys ys [] [] home.by r.by;
              at = r.at ∙ k.2;
              held = record { place = gv.place; words = put F q (register_of m1 9) (gone_back G.size κ.base (having gv.registers gv.words)); at = set_target S fits κ (returned_to st s1.world.store) (after_call registers_and_slots s.cells) gv.place (gone_back G.size κ.base (having gv.registers gv.words)) q s1.given (register_of m1 9) named.0 holds given; registers = (put F q (register_of m1 9) (gone_back G.size κ.base (having gv.registers gv.words))).regs; like = λ i lt. refl; held = itself F q (register_of m1 9) (gone_back G.size κ.base (having gv.registers gv.words)) C r.to r.held };
              events = sym (append-nil s1.world.events);
              cost = let f = r.few in omega (arith, f, home.few);
              many = omega arith;
            }

    pub enters : FunctionAt S g → Enters (holder S) (shapes S) (Mach S κ) p t g (spent w s) (begun registers_and_slots (sizes S) (function_at S.code g).params g args (spent w s)) m (begin (holder S) s)
    enters fn = record { inner = κ2; link = link; end = S.leaves g; exit = inl refl; placed = fn.body; goes = goes fn; back = back_at fn }

  pub call_sim : (functions : (g : ℕ) → Callable S g → FunctionAt S g) (κ : Ctx) (pc p : ℕ) (t : Option Where) (g : ℕ) (args : List Where) (s : State Where) (m : machine.State) (w : ℕ) → 3 * length args ≤ 4 + w → CallAt S κ.fn pc t g args p → m.counter ≡ pc → Mach S κ s m →
      CallSim (holder S) (shapes S) (Mach S κ) p t g (spent w s) m (begin (holder S) s) ((lang S).enter g args (spent w s))
  call_sim functions κ pc p t g args s m w paid at epc h = go (leb (s.world.store.used + ((sizes S).frame g + 2) + (sizes S).globals) 4194304) refl
    where
      go : (x : Bool) → leb (s.world.store.used + ((sizes S).frame g + 2) + (sizes S).globals) 4194304 ≡ x →
          CallSim (holder S) (shapes S) (Mach S κ) p t g (spent w s) m (begin (holder S) s) (if_room x (spent w s) (begun registers_and_slots (sizes S) (function_at S.code g).params g args (spent w s)))
      go true e = enters functions κ pc p t g args s m at epc h (leb-true (s.world.store.used + ((sizes S).frame g + 2) + (sizes S).globals) 4194304 e) w paid (functions g at.callable)
      go false e = λ n. record { steps = 0; made = []; to = m; left = s.world.store.answers; by = (reaches_here m s.world.store.answers).runs; nested = λ ls. nested_none ls m s.world.store.answers; events = sym (append-nil s.world.events); cost = omega arith; many = omega arith }
