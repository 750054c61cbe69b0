-- The machine's steps of a call up to the body of the function, and of the way back.
use Rattle.std.proofs.lemmas.Bool.{eqb-true}
use Rattle.std.specs.Prelude.{◌==◌}
use Rattle.std.proofs.Common.{◌≡◌, ℕ, ◌+◌, ◌-◌, ◌*◌, ◌<◌, ◌≤◌, true, List, [], ◌∷◌, ◌++◌, length, Some, inl, inr, refl, sym, ap, ◌∙◌, subst, arith, Bool, false, cond}
use Rattle.std.specs.Prelude.{get_or}
use Rattle.std.proofs.lemmas.List.{length-set}
use Rattle.kit_base.specs.Word.{add, sub}
use Rattle.v32_isa.specs.declared.instruction.Plain.TheVariants.{RET}
use Rattle.v32_isa.specs.declared.instruction.Go.TheVariants.{CALL}
use Rattle.v32_isa.specs.declared.instruction.Two.TheVariants.{IADD, ISUB}
use Rattle.v32_isa.specs.declared.instruction.Src.TheVariants as src
use Rattle.v32_isa.specs.declared.instruction.Mov.TheVariants.{RegReg, AtOffReg}
use Rattle.v32_isa.specs.declared.instruction.Instr.{Instr}
use Rattle.v32_isa.specs.declared.instruction.Instr.TheVariants as instr
use Rattle.v32_isa.specs.declared.stepped.Stepped.TheVariants as stepped
use Rattle.v32_isa.specs.Table.{Fits}
use Rattle.v32_isa.specs.State.{State, register_of, with_register, going_to, stored, is_writable_at, word_at}
use Rattle.v32_isa.specs.Machine.{act}
use Rattle.v32_isa.specs.Machine.Effect.{Ends as EndsIn}
use Rattle.v32_isa.specs.Calls.{turn_of, Link}
use Rattle.v32_isa.specs.Calls.Turn.{Other}
use Rattle.v32_isa.proofs.Steps.{Moves, Reaches, reaches_here, reaches_in, moves_on, reaches_on, reaches_went, moves_entered, moves_returned}
use Rattle.either.specs.declared.Either.TheVariants.{Left}
use Rattle.asm_items.specs.Items.{instr_with}
use Rattle.asm_items.specs.Words.{imm_word}
use Rattle.asm_items.specs.declared.item.AsmItem.{AsmItem}
use Rattle.asm_items.specs.declared.item.AsmItem.TheVariants as item
use Rattle.mid_code.specs.declared.placed.Where.{Where}
use Rattle.mid_code.specs.declared.placed.Where.TheVariants.{Reg, Slot}
use Rattle.mid_code.specs.Invariants.{in_registers, AreDifferent}
use Rattle.asm_laws.specs.Operations.{Frame, arg_word, fetch, hand, brings, slot_arg, slot_args, moved_items, args_items}
use Rattle.asm_laws.specs.Pieces.{register}
use Rattle.asm_laws.specs.Moves.{Move, in_order}
use Rattle.asm_laws.specs.Placing.{Line}
use Rattle.asm_laws.specs.Standing.{Stand}
use Rattle.asm_laws.specs.Addresses.{Addr, Console, word_of, store, Room, Good, Held, ArrivesBy, Arrives}
use Rattle.asm_laws.specs.Framing.{frame_made}
use Rattle.asm_laws.specs.inner.Links.{new_slot, passed, all_passed, push, all_arrived, moved as moved_by, entered, slot_steps, called}
use Rattle.asm_laws.proofs.Stepping.{same_or_not, written_same, written_other, readable_word, ram_readable, ram_writable, writes_at, line_effect, line_turn, reg_same, reg_other, took, moved, kept, stores, fetches_so}
use Rattle.asm_laws.proofs.Hands.{with_reg, held_alike, hand_fits, brings_at}
use Rattle.asm_laws.proofs.Ordering.{Every, moved_same, in_order_is, in_order_fine, in_order_few}
use Rattle.asm_laws.proofs.Ordering as ordering

module _ (C : Console) where
  -- the top of the stack is another address
  pub top_held : (a : Addr) (s : State) (x : ℕ) → Held C a s → Held C (record a { top = x }) (with_register 15 x s)
  top_held a s x h = record {
    program_length = h.program_length;
    card = h.card;
    short = h.short;
    text = h.text;
    sixteen = length-set s.registers 15 x ∙ h.sixteen;
    regs = λ q lt. reg_other C s 15 x q (omega arith) ∙ h.regs q lt;
    top = reg_same C s 15 x (omega (arith, h.sixteen));
    memory = h.memory;
  }

  -- no register has the end of the frame
  pub based : (a : Addr) (s : State) (x : ℕ) → Held C a s → Held C (record a { base = x }) s
  based a s x h = record { program_length = h.program_length; card = h.card; short = h.short; text = h.text; sixteen = h.sixteen; regs = h.regs; top = h.top; memory = h.memory }

  chain_by : (is js ks : List Link) (i j : ℕ) (s : State) (xs : List ℕ) (p q : ℕ) (a b : Addr) → ArrivesBy is js C i s xs p [] xs a → ((t : State) → t.counter ≡ p → Held C a t → ArrivesBy js ks C j t xs q [] xs b) → ArrivesBy is ks C (i + j) s xs q [] xs b
  chain_by is js ks i j s xs p q a b f g =
      let r = g f.to f.at f.held in
      record { steps = f.steps + r.steps; to = r.to; by = moves_on is js ks f.steps r.steps s f.to r.to xs xs xs [] [] f.by r.by; at = r.at; held = r.held; few = omega (arith, f.few, r.few) }

  chain : (i j : ℕ) (s : State) (xs : List ℕ) (p q : ℕ) (a b : Addr) → Arrives C i s xs p [] xs a → ((t : State) → t.counter ≡ p → Held C a t → Arrives C j t xs q [] xs b) → Arrives C (i + j) s xs q [] xs b
  chain i j s xs p q a b f g = chain_by [] [] [] i j s xs p q a b f g

  -- inside a call
  arrives_in : (l : Link) (i : ℕ) (s : State) (xs : List ℕ) (p : ℕ) (a : Addr) → Arrives C i s xs p [] xs a → ArrivesBy (l ∷ []) (l ∷ []) C i s xs p [] xs a
  arrives_in l i s xs p a f = record { steps = f.steps; to = f.to; by = reaches_in l f.steps s f.to xs xs [] f.by; at = f.at; held = f.held; few = f.few }

  pub one : (a b : Addr) (s t : State) (xs : List ℕ) (pc : ℕ) (i : Instr ℕ) (next : ℕ) → Held C a s → s.counter ≡ pc → Line C.words pc i next → Fits i → act i next s ≡ EndsIn stepped.Went t → turn_of i next s ≡ Other → Held C b t → Arrives C 1 s xs t.counter [] xs b
  one a b s t xs pc i next h e l fits is other held = record { steps = 1; to = t; by = reaches_went s t xs (line_effect C a s pc i next h e l fits ∙ is) (line_turn C a s pc i next h e l fits ∙ other); at = refl; held = held; few = omega arith }

  -- a RET that comes back to a link
  pub returns_by : (a : Addr) (s t : State) (xs : List ℕ) (pc next : ℕ) (l : Link) → Held C a s → s.counter ≡ pc → Line C.words pc (instr.Plain RET) next → act (instr.Plain RET) next s ≡ EndsIn stepped.Went t → a.top < 0x400000 → a.top ≡ l.top → a.memory a.top ≡ l.back → Moves (l ∷ []) [] 1 s xs [] t xs
  returns_by a s t xs pc next l h e k is hi top back =
      moves_returned s t xs l (line_effect C a s pc (instr.Plain RET) next h e k (omega arith, omega arith, omega arith) ∙ is) (line_turn C a s pc (instr.Plain RET) next h e k (omega arith, omega arith, omega arith))
      (h.top ∙ top) (subst (λ q. word_at s q ≡ Some l.back) top (readable_word C a s a.top h (ram_readable C a.top hi) ∙ ap Some back))

  nothing : (s : State) (xs : List ℕ) (pc p : ℕ) (a : Addr) → Held C a s → s.counter ≡ pc → pc ≡ p → Arrives C 0 s xs p [] xs a
  nothing s xs pc p a h e k = record { steps = 0; to = s; by = reaches_here s xs; at = e ∙ k; held = h; few = omega arith }

  -- a word is pushed
  push_held : (a : Addr) (s : State) (v next : ℕ) → 1 ≤ a.top → a.top ≤ 0x400000 → Held C a s → Held C (push v a) (going_to next (with_register 15 (a.top - 1) (stored s (a.top - 1) v)))
  push_held a s v next lo hi h =
      moved C (push v a) (with_register 15 (a.top - 1) (stored s (a.top - 1) v)) next
      (top_held (store (a.top - 1) v a) (stored s (a.top - 1) v) (a.top - 1) (moved C (store (a.top - 1) v a) (going_to s.counter (stored s (a.top - 1) v)) s.counter (stores C a s s.counter (a.top - 1) v (ram_writable C (a.top - 1) (omega (arith, lo, hi))) h)))

  -- ---- arguments

  module _ (address : List ℕ → ℕ) (F G : Frame) where
    abbrev Here : ℕ → List AsmItem → ℕ → Type 0
    Here = Stand C.words address

    pub part : (x y : List AsmItem) (pc e : ℕ) → Here pc (x ++ y) e → (q : ℕ) × Here pc x q × Here q y e
    part [] y pc e h = (pc, refl, h)
    part (i ∷ x) y pc e h = let r = part x y h.0 e h.2 in (r.0, (h.0, h.1, r.1), r.2)

    -- the frame lies in RAM, and so will the next one
    pub record Roomy (a : Addr) : Type 0 where
      pub room : Room F a
      pub below : G.size + 1 ≤ a.top
      pub above : a.top ≤ 0x400000

    store_act : (a : Addr) (s : State) (k m v next : ℕ) → Roomy a → get_or G.slots k k < G.size → register_of s m ≡ v → Held C a s → act (instr.Mov (AtOffReg 15 (arg_word G k) m)) next s ≡ EndsIn stepped.Went (going_to next (stored s (new_slot G k a) v))
    unfolding act
    store_act a s k m v next r good is h =
        let d : add (register_of s 15) (arg_word G k) ≡ new_slot G k a = omega (arith, h.top, r.below, r.above, good) in
        let w : is_writable_at s (new_slot G k a) ≡ true = writes_at C a s (new_slot G k a) h ∙ ram_writable C (new_slot G k a) (omega (arith, r.below, r.above)) in
        rw (d, w, is) refl

    passes : (a : Addr) (s : State) (xs : List ℕ) (pc e : ℕ) (p x : Where) → Roomy a → Good G p → Good F x → Held C a s → s.counter ≡ pc → Here pc (slot_arg F G p x) e → Arrives C 2 s xs e [] xs (passed F G p x a)
    passes a s xs pc e (Reg q) x r gp gx h c k = let n = nothing s xs pc e a h c k in record { steps = n.steps; to = n.to; by = n.by; at = n.at; held = n.held; few = omega (arith, n.few) }
    passes a s xs pc e (Slot i) x r gp gx h c k =
        let v = word_of F x a in
        let o = instr.Mov (AtOffReg 15 (arg_word G i) (hand x 9)) in
        let d = part (brings F x 9) (item.Op (instr.Mov (AtOffReg 15 (Left (arg_word G i)) (hand x 9))) ∷ []) pc e k in
        let b = brings_at C F address a s xs pc d.0 x 9 r.room gx (omega arith) (omega arith) h c d.1 in
        let t = b.to in
        let l = d.2 in
        let f : Arrives C 1 t xs l.0 [] xs (passed F G (Slot i) x a) =
        one a (passed F G (Slot i) x a) t (going_to l.0 (stored t (new_slot G i a) v)) xs d.0 o l.0 b.held b.at l.1 (omega arith, hand_fits x 9 (omega arith), omega arith)
        (store_act a t i (hand x 9) v l.0 r gp b.is b.held) refl (stores C a t l.0 (new_slot G i a) v (ram_writable C (new_slot G i a) (omega (arith, r.below, r.above))) b.held) in
        subst (λ q. Arrives C 2 s xs q [] xs (passed F G (Slot i) x a)) l.2
        (record { steps = b.steps + f.steps; to = f.to; by = reaches_on b.steps f.steps s t f.to xs xs xs [] [] b.by f.by; at = f.at; held = f.held; few = let n = f.few in let m = b.few in omega (arith, n, m) })

    abbrev pub AllOf : (Where → Type 0) → List Where → Type 0
    AllOf P [] = Unit {0}
    AllOf P (p ∷ ps) = P p × AllOf P ps

    roomy_passed : (p x : Where) (a : Addr) → Roomy a → Roomy (passed F G p x a)
    roomy_passed (Reg q) x a r = r
    roomy_passed (Slot k) x a r = record { room = record { top = r.room.top; low = r.room.low; high = r.room.high }; below = r.below; above = r.above }

    all_passes : (a : Addr) (s : State) (xs : List ℕ) (pc e : ℕ) (ps args : List Where) → Roomy a → AllOf (Good G) ps → AllOf (Good F) args → Held C a s → s.counter ≡ pc → Here pc (slot_args F G ps args) e → Arrives C (slot_steps ps) s xs e [] xs (all_passed F G ps args a)
    all_passes a s xs pc e [] args r gp gx h c k = let n = nothing s xs pc e a h c k in record { steps = n.steps; to = n.to; by = n.by; at = n.at; held = n.held; few = omega (arith, n.few) }
    all_passes a s xs pc e (p ∷ ps) [] r gp gx h c k = let n = nothing s xs pc e a h c k in record { steps = n.steps; to = n.to; by = n.by; at = n.at; held = n.held; few = omega (arith, n.few) }
    all_passes a s xs pc e (Reg q ∷ ps) (x ∷ args) r gp gx h c k = all_passes a s xs pc e ps args r gp.1 gx.1 h c k
    all_passes a s xs pc e (Slot i ∷ ps) (x ∷ args) r gp gx h c k =
        let d = part (slot_arg F G (Slot i) x) (slot_args F G ps args) pc e k in
        chain 2 (slot_steps ps) s xs d.0 e (passed F G (Slot i) x a) (all_passed F G ps args (passed F G (Slot i) x a)) (passes a s xs pc d.0 (Slot i) x r gp.0 gx.0 h c d.1)
        (λ t c1 h1. all_passes (passed F G (Slot i) x a) t xs d.0 e ps args (roomy_passed (Slot i) x a r) gp.1 gx.1 h1 c1 d.2)

    roomy : (a b : Addr) → b.base ≡ a.base → b.top ≡ a.top → Room F a → Room F b
    roomy a b e t r = record { top = omega (arith, e, t, r.top); low = omega (arith, e, r.low); high = omega (arith, e, r.high) }

    -- ---- moves

    -- a place whose word a move takes: of a register of temporaries or of the emitter's own, or of a slot inside the frame
    abbrev pub Source : Where → Type 0
    Source (Reg r) = r < 11
    Source (Slot k) = get_or F.slots k k < F.size

    low_number : (r : ℕ) → r < 11 → register r ≡ r
    low_number r lt = omega arith

    pub copy_act : (s : State) (r q next : ℕ) → act (instr.Mov (RegReg r q)) next s ≡ EndsIn stepped.Went (going_to next (with_register r (register_of s q) s))
    unfolding act
    copy_act s r q next = refl

    -- the emitter's own registers are held too
    abbrev Alike : Addr → State → Type 0
    Alike a s = (r : ℕ) → r < 11 → register_of s r ≡ a.regs r

    move_so : (a : Addr) (s : State) (xs : List ℕ) (pc t : ℕ) (x : Where) (next : ℕ) → Room F a → Source x → t < 11 → Held C a s → Alike a s → s.counter ≡ pc → Line C.words pc (instr_with (imm_word address) (fetch F x (register t))) next → Reaches 1 s xs [] (took C next t (word_of F x a) s) xs
    move_so a s xs pc t (Slot k) next room good lt h like e l =
        subst (λ r. Reaches 1 s xs [] (took C next r (word_of F (Slot k) a) s) xs) (low_number t lt) (fetches_so C F address a s xs pc (Slot k) (register t) next room good (omega arith) h e l)
    move_so a s xs pc t (Reg q) next room good lt h like e l =
        let same : register_of s (register q) ≡ a.regs q = ap (λ r. register_of s r) (low_number q good) ∙ like q good in
        let is : act (instr.Mov (RegReg (register t) (register q))) next s ≡ EndsIn stepped.Went (took C next t (a.regs q) s) =
        copy_act s (register t) (register q) next ∙ (λ i. EndsIn stepped.Went (took C next (low_number t lt i) (same i) s)) in
        reaches_went s (took C next t (a.regs q) s) xs (line_effect C a s pc (instr.Mov (RegReg (register t) (register q))) next h e l (omega arith, omega arith, omega arith) ∙ is) (line_turn C a s pc (instr.Mov (RegReg (register t) (register q))) next h e l (omega arith, omega arith, omega arith))

    alike_on : (a : Addr) (s : State) (next t v : ℕ) → t < 11 → Held C a s → Alike a s → Alike (with_reg t v a) (took C next t v s)
    alike_on a s next t v lt h like r low = elim (same_or_not r t) [
      | inl x ↦ ap (λ k. register_of (with_register t v s) k) x.0 ∙ reg_same C s t v (let n = h.sixteen in omega (arith, n, lt)) ∙ sym (written_same a.regs t v r x.0)
      | inr x ↦ reg_other C s t v r x.0 ∙ like r low ∙ sym (written_other a.regs t v r x.0)
    ]

    moves_so : (ms : List Move) (a : Addr) (s : State) (xs : List ℕ) (pc e : ℕ) → Every (λ m. (m.0 < 11) × Source m.1) ms → Room F a → Held C a s → Alike a s → s.counter ≡ pc → Here pc (moved_items F ms) e → Arrives C (length ms) s xs e [] xs (moved_by F ms a)
    moves_so [] a s xs pc e good room h like c k = let n = nothing s xs pc e a h c k in record { steps = n.steps; to = n.to; by = n.by; at = n.at; held = n.held; few = omega (arith, n.few) }
    moves_so ((t, x) ∷ ms) a s xs pc e good room h like c k =
        let v = word_of F x a in
        let u = took C k.0 t v s in
        let m = move_so a s xs pc t x k.0 room good.0.1 good.0.0 h like c k.1 in
        let f = moves_so ms (with_reg t v a) u xs k.0 e good.1 (record { top = room.top; low = room.low; high = room.high }) (kept C a s k.0 t v good.0.0 h) (alike_on a s k.0 t v good.0.0 h like) refl k.2 in
        record { steps = 1 + f.steps; to = f.to; by = reaches_on 1 f.steps s u f.to xs xs xs [] [] m f.by; at = f.at; held = f.held; few = omega (arith, f.few) }

    params_low : (ps : List Where) → AllOf (Good G) ps → ordering.AllOf F (ordering.Low F) ps
    params_low [] g = tt
    params_low (Reg q ∷ ps) g = (g.0, params_low ps g.1)
    params_low (Slot k ∷ ps) g = (tt, params_low ps g.1)

    sources : (args : List Where) → AllOf (Good F) args → ordering.AllOf F Source args
    sources [] g = tt
    sources (Reg q ∷ args) g = (omega (arith, g.0), sources args g.1)
    sources (Slot k ∷ args) g = (g.0, sources args g.1)

    same_words : (a : Addr) (s : State) (args : List Where) → AllOf (Good F) args → Held C a s → ordering.AllOf F (λ x. word_of F x (record a { regs = register_of s }) ≡ word_of F x a) args
    same_words a s [] g h = tt
    same_words a s (Reg q ∷ args) g h = (h.regs q g.0, same_words a s args g.1 h)
    same_words a s (Slot k ∷ args) g h = (refl, same_words a s args g.1 h)

    -- the arguments that go into registers come there
    all_moves : (a : Addr) (s : State) (xs : List ℕ) (pc e : ℕ) (ps args : List Where) → Room F a → AllOf (Good G) ps → AreDifferent ps → AllOf (Good F) args → Held C a s → s.counter ≡ pc → Here pc (moved_items F (in_order ps args)) e → Arrives C (2 * in_registers ps) s xs e [] xs (all_arrived F ps args a)
    all_moves a s xs pc e ps args room gp differ gx h c k =
        let b = record a { regs = register_of s } in
        let ms = in_order ps args in
        let fine = in_order_fine Source (λ r lt. lt) F ps args (params_low ps gp) differ (sources args gx) in
        let f = moves_so ms b s xs pc e fine (record { top = room.top; low = room.low; high = room.high }) (held_alike C a b s (λ r lt. sym (h.regs r lt)) (λ q. refl) refl refl h) (λ r lt. refl) c k in
        let same = moved_same F ms b in
        record {
          steps = f.steps;
          to = f.to;
          by = f.by;
          at = f.at;
          held = held_alike C (moved_by F ms b) (all_arrived F ps args a) f.to (λ r lt. in_order_is F ps args a b (params_low ps gp) differ (same_words a s args gx h) r lt (h.regs r lt)) (λ q. ap (λ m. m q) same.0) same.1 same.2 f.held;
          few = omega (arith, f.few, in_order_few ps args);
        }

    -- ---- the call, and the new frame

    call_act : (a : Addr) (s : State) (to next : ℕ) → 1 ≤ a.top → a.top ≤ 0x400000 → Held C a s → act (instr.Go CALL (src.Imm to)) next s ≡ EndsIn stepped.Went (going_to to (with_register 15 (a.top - 1) (stored s (a.top - 1) next)))
    unfolding act
    call_act a s to next lo hi h =
        let d : sub (register_of s 15) 1 ≡ a.top - 1 = omega (arith, h.top, lo, hi) in
        let w : is_writable_at s (a.top - 1) ≡ true = writes_at C a s (a.top - 1) h ∙ ram_writable C (a.top - 1) (omega (arith, lo, hi)) in
        rw (d, w) refl

    less_act : (a : Addr) (s : State) (n next : ℕ) → n ≤ a.top → a.top ≤ 0x400000 → Held C a s → act (instr.Two ISUB 15 (src.Imm n)) next s ≡ EndsIn stepped.Went (going_to next (with_register 15 (a.top - n) s))
    unfolding act
    less_act a s n next lo hi h = let d : sub (register_of s 15) n ≡ a.top - n = omega (arith, h.top, lo, hi) in rw d refl

    -- the link that a call makes
    abbrev pub link_at : Addr → ℕ → Link
    link_at a next = record { top = a.top - 1; back = next }

    pub more_act : (a : Addr) (s : State) (n next : ℕ) → a.top + n ≤ 0x400000 → Held C a s → act (instr.Two IADD 15 (src.Imm n)) next s ≡ EndsIn stepped.Went (going_to next (with_register 15 (a.top + n) s))
    unfolding act
    more_act a s n next hi h = let d : add (register_of s 15) n ≡ a.top + n = omega (arith, h.top, hi) in rw d refl

    -- from the call to the function's body: where its frame has words, room is made for them
    pub enters : (a : Addr) (s : State) (xs : List ℕ) (pc next begins body : ℕ) → G.size + 1 ≤ a.top → a.top ≤ 0x400000 → Held C a s → s.counter ≡ pc → Line C.words pc (instr.Go CALL (src.Imm begins)) next → Here begins (frame_made G.size) body → ArrivesBy [] (link_at a next ∷ []) C 2 s xs body [] xs (entered G next a)
    enters a s xs pc next begins body lo hi h e l k = go (G.size == 0) refl k
      where
        a1 : Addr
        a1 = push next a

        ok : Fits (instr.Go CALL (src.Imm begins))
        ok = (omega arith, omega arith, omega arith)

        f1 : ArrivesBy [] (link_at a next ∷ []) C 1 s xs begins [] xs a1
        f1 =
            let t = going_to begins (with_register 15 (a.top - 1) (stored s (a.top - 1) next)) in
            let d : sub (register_of s 15) 1 ≡ a.top - 1 = omega (arith, h.top, lo, hi) in
            record {
              steps = 1;
              to = t;
              by = subst (λ q. Moves [] (record { top = q; back = next } ∷ []) 1 s xs [] t xs) d (moves_entered s t xs begins next (line_effect C a s pc (instr.Go CALL (src.Imm begins)) next h e l ok ∙ call_act a s begins next (omega (arith, lo)) hi h) (line_turn C a s pc (instr.Go CALL (src.Imm begins)) next h e l ok));
              at = refl;
              held = push_held a s next begins (omega (arith, lo)) hi h;
              few = omega arith;
            }

        go : (b : Bool) → (G.size == 0) ≡ b → Here begins (cond b [] (item.Op (instr.Two ISUB 15 (src.Imm (Left G.size))) ∷ [])) body → ArrivesBy [] (link_at a next ∷ []) C 2 s xs body [] xs (entered G next a)
        go true is k =
            let z : G.size ≡ 0 = eqb-true G.size 0 is in
            let d : a1.top ≡ a.top - 1 - G.size = omega (arith, z) in
            record { steps = f1.steps; to = f1.to; by = f1.by; at = f1.at ∙ k; held = held_alike C (record a1 { base = a.top - 1 }) (entered G next a) f1.to (λ r lt. refl) (λ q. refl) refl d (based a1 f1.to (a.top - 1) f1.held); few = omega (arith, f1.few) }
        go false is k =
            let a3 = record a1 { base = a.top - 1 } in
            chain_by [] (link_at a next ∷ []) (link_at a next ∷ []) 1 1 s xs begins body a1 (entered G next a) f1 (λ t1 e1 h1.
            arrives_in (link_at a next) 1 t1 xs body (entered G next a)
            (let h3 = based a1 t1 (a.top - 1) h1 in
            let u4 = going_to k.0 (with_register 15 (a3.top - G.size) t1) in
            subst (λ q. Arrives C 1 t1 xs q [] xs (entered G next a)) k.2
            (one a3 (entered G next a) t1 u4 xs begins (instr.Two ISUB 15 (src.Imm G.size)) k.0 h3 e1 k.1 (omega arith, omega arith, omega arith) (less_act a3 t1 G.size k.0 (omega (arith, lo)) (omega (arith, hi)) h3) refl
            (moved C (record a3 { top = a3.top - G.size }) (with_register 15 (a3.top - G.size) t1) k.0 (top_held a3 t1 (a3.top - G.size) h3)))))

    -- ---- the way back

    pub ret_act : (a : Addr) (s : State) (next : ℕ) → a.top < 0x400000 → Held C a s → act (instr.Plain RET) next s ≡ EndsIn stepped.Went (going_to (a.memory a.top) (with_register 15 (a.top + 1) s))
    unfolding act
    ret_act a s next hi h =
        let w = readable_word C a s a.top h (ram_readable C a.top hi) in
        let u : add a.top 1 ≡ a.top + 1 = omega (arith, hi) in
        rw (h.top, w, u) refl

    -- ---- the whole call

    pub passed_same : (ps args : List Where) (a : Addr) → ((all_passed F G ps args a).base ≡ a.base) × ((all_passed F G ps args a).top ≡ a.top)
    passed_same [] args a = (refl, refl)
    passed_same (p ∷ ps) [] a = (refl, refl)
    passed_same (Reg q ∷ ps) (x ∷ args) a = passed_same ps args a
    passed_same (Slot k ∷ ps) (x ∷ args) a = passed_same ps args (passed F G (Slot k) x a)

    few_steps : (ps : List Where) → slot_steps ps + 2 * in_registers ps ≤ 3 * length ps
    few_steps [] = omega arith
    few_steps (Reg q ∷ ps) = let r = few_steps ps in omega (arith, r)
    few_steps (Slot k ∷ ps) = let r = few_steps ps in omega (arith, r)

    -- from a call to the body of its function, in at most three steps for each argument and two more
    pub calls : (a : Addr) (s : State) (xs : List ℕ) (pc call next begins body : ℕ) (ps args : List Where) → Roomy a → length args ≡ length ps → AllOf (Good G) ps → AreDifferent ps → AllOf (Good F) args → Held C a s → s.counter ≡ pc →
        Here pc (args_items F G ps args) call → Line C.words call (instr.Go CALL (src.Imm begins)) next → Here begins (frame_made G.size) body → ArrivesBy [] (link_at (all_arrived F ps args (all_passed F G ps args a)) next ∷ []) C (3 * length args + 2) s xs body [] xs (called F G ps args next a)
    calls a s xs pc call next begins body ps args r n gp differ gx h c k l m =
        let d = part (slot_args F G ps args) (moved_items F (in_order ps args)) pc call k in
        let a1 = all_passed F G ps args a in
        let a2 = all_arrived F ps args a1 in
        let same = passed_same ps args a in
        let ls = link_at a2 next ∷ [] in
        let f = chain_by [] [] ls (slot_steps ps) (2 * in_registers ps + 2) s xs d.0 body a1 (entered G next a2) (all_passes a s xs pc d.0 ps args r gp gx h c d.1) (λ s1 c1 h1.
        chain_by [] [] ls (2 * in_registers ps) 2 s1 xs call body a2 (entered G next a2) (all_moves a1 s1 xs d.0 call ps args (roomy a a1 same.0 same.1 r.room) gp differ gx h1 c1 d.2) (λ s2 c2 h2.
        enters a2 s2 xs call next begins body (omega (arith, same.1, r.below)) (omega (arith, same.1, r.above)) h2 c2 l m)) in
        record { steps = f.steps; to = f.to; by = f.by; at = f.at; held = f.held; few = omega (arith, f.few, few_steps ps, n) }
