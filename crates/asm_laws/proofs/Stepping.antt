-- Operations are followed by the machine.
use Rattle.std.proofs.Common.{◌≡◌, ◌≢◌, ℕ, suc, ◌+◌, ◌<◌, ◌≤◌, ◌⊎◌, inl, inr, Bool, true, false, cond, List, [], ◌∷◌, ◌++◌, length, Some, None, refl, sym, ap, ◌∙◌, subst, arith, append_assoc, length-append}
use Rattle.std.specs.Prelude.{◌==◌, get_or, slice_index}
use Rattle.std.proofs.lemmas.Bool.{eqb-true, eqb-false, eq-eqb}
use Rattle.std.proofs.lemmas.Bool.Decides.{nat_tests}
use Rattle.std.proofs.lemmas.List.{get_or-set_same, get_or-set_other, length-set}
use Rattle.std.proofs.Math.Seq.{get_or-append_seam}
use Rattle.kit_base.specs.Word.{add}
use Rattle.v32_isa.specs.declared.instruction.Instr.{Instr}
use Rattle.v32_isa.specs.declared.stepped.Stepped.TheVariants as stepped
use Rattle.v32_isa.specs.Table.{Fits, spelling}
use Rattle.v32_isa.specs.State.{State, register_of, with_register, going_to, stored, written, word_at, is_readable_at, is_writable_at}
use Rattle.v32_isa.specs.Machine.{act, effect_of}
use Rattle.v32_isa.specs.Machine.Effect.{Ends}
use Rattle.v32_isa.specs.Calls.{turn_of, turn}
use Rattle.v32_isa.specs.Calls.Turn.{Other}
use Rattle.v32_isa.proofs.Steps.{HoldsWords, effect-spelled, turn-spelled, Reaches, reaches_went}
use Rattle.asm_items.specs.Items.{instr_with}
use Rattle.asm_items.specs.Words.{imm_word}
use Rattle.mid_code.specs.declared.placed.Where.{Where}
use Rattle.mid_code.specs.declared.placed.Where.TheVariants.{Reg, Slot}
use Rattle.asm_laws.specs.Operations.{Frame, slot_word, fetch, keep}
use Rattle.asm_laws.specs.Pieces.{register}
use Rattle.asm_laws.specs.Placing.{Line}
use Rattle.asm_laws.specs.Addresses.{Addr, Console, readable, writable, slot_address, word_of, store, put, Room, Good, Held, Arrives}

pub same_or_not : (a b : ℕ) → ((a ≡ b) × ((a == b) ≡ true)) ⊎ ((a ≢ b) × ((a == b) ≡ false))
same_or_not a b = go (a == b) refl
  where
    go : (t : Bool) → (a == b) ≡ t → ((a ≡ b) × ((a == b) ≡ true)) ⊎ ((a ≢ b) × ((a == b) ≡ false))
    go true e = inl (eqb-true a b e, e)
    go false e = inr (eqb-false a b e, e)

pub written_same : (f : ℕ → ℕ) (k v q : ℕ) → q ≡ k → written f k v q ≡ v
unfolding written
written_same f k v q e = ap (λ b. cond b v (f q)) (eq-eqb q k e)

pub written_other : (f : ℕ → ℕ) (k v q : ℕ) → q ≢ k → written f k v q ≡ f q
unfolding written
written_other f k v q h = elim (same_or_not q k) [ inl x ↦ absurd (h x.0) | inr x ↦ ap (λ b. cond b v (f q)) x.1 ]

pub written_alike : (f g : ℕ → ℕ) (k v : ℕ) → ((q : ℕ) → f q ≡ g q) → (q : ℕ) → written f k v q ≡ written g k v q
unfolding written
written_alike f g k v h q = ap (λ x. cond (q == k) v x) (h q)

module _ (C : Console) where
  reads_at : (a : Addr) (s : State) (q : ℕ) → Held C a s → is_readable_at s q ≡ readable C q
  unfolding is_readable_at readable
  reads_at a s q h = rw (h.program_length, h.card) refl

  pub writes_at : (a : Addr) (s : State) (q : ℕ) → Held C a s → is_writable_at s q ≡ writable C q
  unfolding is_writable_at writable
  writes_at a s q h = rw h.card refl

  pub readable_word : (a : Addr) (s : State) (q : ℕ) → Held C a s → readable C q ≡ true → word_at s q ≡ Some (a.memory q)
  unfolding word_at
  readable_word a s q h r = rw (reads_at a s q h ∙ r) (ap Some (h.memory q))

  pub unreadable_word : (a : Addr) (s : State) (q : ℕ) → Held C a s → readable C q ≡ false → word_at s q ≡ None
  unfolding word_at
  unreadable_word a s q h r = rw (reads_at a s q h ∙ r) refl

  -- machines that hold the same memory read the same words
  pub same_word : (a b : Addr) (s t : State) → Held C a s → Held C b t → ((q : ℕ) → a.memory q ≡ b.memory q) → (q : ℕ) → word_at s q ≡ word_at t q
  same_word a b s t h g e q = go (readable C q) refl
    where
      go : (r : Bool) → readable C q ≡ r → word_at s q ≡ word_at t q
      go true is = readable_word a s q h is ∙ ap Some (e q) ∙ sym (readable_word b t q g is)
      go false is = unreadable_word a s q h is ∙ sym (unreadable_word b t q g is)

  pub ram_readable : (q : ℕ) → q < 0x400000 → readable C q ≡ true
  unfolding readable
  ram_readable q lt = grind (arith, nat_tests)

  pub ram_writable : (q : ℕ) → q < 0x400000 → writable C q ≡ true
  unfolding writable
  ram_writable q lt = grind (arith, nat_tests)

  text_readable : (j : ℕ) → j < length C.words → readable C (0x20000000 + j) ≡ true
  unfolding readable
  text_readable j lt = grind (arith, nat_tests)

  -- ---- reading an instruction

  text_word : (a : Addr) (s : State) (j : ℕ) → Held C a s → j < length C.words → word_at s (0x20000000 + j) ≡ Some (slice_index C.words j)
  text_word a s j h lt = readable_word a s (0x20000000 + j) h (text_readable j lt) ∙ ap Some (sym (h.memory (0x20000000 + j)) ∙ h.text j lt)

  holds : (a : Addr) (s : State) (ws front rest : List ℕ) → Held C a s → C.words ≡ front ++ (ws ++ rest) → HoldsWords s (0x20000000 + length front) ws
  holds a s [] front rest h e = tt
  holds a s (w ∷ ws) front rest h e =
      let count : length C.words ≡ length front + suc (length (ws ++ rest)) = ap length e ∙ length-append front (w ∷ (ws ++ rest)) in
      let here : slice_index C.words (length front) ≡ w = ap (λ l. slice_index l (length front)) e ∙ get_or-append_seam front w (ws ++ rest) 0 in
      let first : word_at s (0x20000000 + length front) ≡ Some w = text_word a s (length front) h (omega arith) ∙ ap Some here in
      let others = holds a s ws (front ++ w ∷ []) rest h (e ∙ sym (append_assoc front (w ∷ []) (ws ++ rest))) in
      let more = length-append front (w ∷ []) in
      let next : add (0x20000000 + length front) 1 ≡ 0x20000000 + length (front ++ w ∷ []) = omega (arith, more, count, h.short) in
      (first, subst (λ q. HoldsWords s q ws) (sym next) others)

  -- the step at a line is what its instruction does
  pub line_effect : (a : Addr) (s : State) (pc : ℕ) (i : Instr ℕ) (next : ℕ) → Held C a s → s.counter ≡ pc → Line C.words pc i next → Fits i → effect_of s ≡ act i next s
  line_effect a s pc i next h e l fits =
      let held = subst (λ q. HoldsWords s q (spelling i)) (sym l.place_is ∙ sym e) (holds a s (spelling i) l.front l.rest h l.words_are) in
      let count : length C.words ≡ length l.front + length (spelling i ++ l.rest) = ap length l.words_are ∙ length-append l.front (spelling i ++ l.rest) in
      let more = length-append (spelling i) l.rest in
      let same : add s.counter (length (spelling i)) ≡ next = omega (arith, e, l.place_is, l.next_is, count, more, h.short) in
      effect-spelled s i fits held ∙ ap (λ n. act i n s) same

  -- and its kind
  pub line_turn : (a : Addr) (s : State) (pc : ℕ) (i : Instr ℕ) (next : ℕ) → Held C a s → s.counter ≡ pc → Line C.words pc i next → Fits i → turn s ≡ turn_of i next s
  line_turn a s pc i next h e l fits =
      let held = subst (λ q. HoldsWords s q (spelling i)) (sym l.place_is ∙ sym e) (holds a s (spelling i) l.front l.rest h l.words_are) in
      let count : length C.words ≡ length l.front + length (spelling i ++ l.rest) = ap length l.words_are ∙ length-append l.front (spelling i ++ l.rest) in
      let more = length-append (spelling i) l.rest in
      let same : add s.counter (length (spelling i)) ≡ next = omega (arith, e, l.place_is, l.next_is, count, more, h.short) in
      turn-spelled s i fits held ∙ ap (λ n. turn_of i n s) same

  -- ---- what the state holds after a change

  pub reg_same : (s : State) (r v : ℕ) → r < length s.registers → register_of (with_register r v s) r ≡ v
  reg_same s r v lt = get_or-set_same s.registers r v 0 lt

  pub reg_other : (s : State) (r v q : ℕ) → q ≢ r → register_of (with_register r v s) q ≡ register_of s q
  reg_other s r v q ne = get_or-set_other s.registers r q v 0 ne

  abbrev pub took : ℕ → ℕ → ℕ → State → State
  took next r v s = going_to next (with_register r v s)

  -- a register of the emitter's own
  pub scratch : (a : Addr) (s : State) (next r v : ℕ) → 9 ≤ r → r ≤ 10 → Held C a s → Held C a (took next r v s)
  scratch a s next r v lo hi h = record {
    program_length = h.program_length;
    card = h.card;
    short = h.short;
    text = h.text;
    sixteen = length-set s.registers r v ∙ h.sixteen;
    regs = λ q lt. reg_other s r v q (omega arith) ∙ h.regs q lt;
    top = reg_other s r v 15 (omega arith) ∙ h.top;
    memory = h.memory;
  }

  pub moved : (a : Addr) (s : State) (next : ℕ) → Held C a s → Held C a (going_to next s)
  moved a s next h = record {
    program_length = h.program_length;
    card = h.card;
    short = h.short;
    text = h.text;
    sixteen = h.sixteen;
    regs = h.regs;
    top = h.top;
    memory = h.memory;
  }

  -- a register of temporaries or of the emitter's own
  pub kept : (a : Addr) (s : State) (next r v : ℕ) → r < 11 → Held C a s → Held C (record a { regs = written a.regs r v }) (took next r v s)
  kept a s next r v lt h = record {
    program_length = h.program_length;
    card = h.card;
    short = h.short;
    text = h.text;
    sixteen = length-set s.registers r v ∙ h.sixteen;
    regs = λ q b. elim (same_or_not q r) [
      | inl x ↦ ap (λ k. register_of (with_register r v s) k) x.0 ∙ reg_same s r v (omega (arith, h.sixteen)) ∙ sym (written_same a.regs r v q x.0)
      | inr x ↦ reg_other s r v q x.0 ∙ h.regs q b ∙ sym (written_other a.regs r v q x.0)
    ];
    top = reg_other s r v 15 (omega arith) ∙ h.top;
    memory = h.memory;
  }

  not_text : (q j : ℕ) → writable C q ≡ true → j < length C.words → length C.words < 0x10000000 → 0x20000000 + j ≢ q
  unfolding writable
  not_text q j w lt short = λ e. grind (arith, nat_tests)

  -- a word of memory
  pub stores : (a : Addr) (s : State) (next q v : ℕ) → writable C q ≡ true → Held C a s → Held C (store q v a) (going_to next (stored s q v))
  stores a s next q v w h = record {
    program_length = h.program_length;
    card = h.card;
    short = h.short;
    text = λ j lt. written_other s.memory q v (0x20000000 + j) (not_text q j w lt h.short) ∙ h.text j lt;
    sixteen = h.sixteen;
    regs = h.regs;
    top = h.top;
    memory = written_alike s.memory a.memory q v h.memory;
  }

  -- ---- copies between places and registers

  module _ (F : Frame) (address : List ℕ → ℕ) where
    slot_is : (a : Addr) (s : State) (k : ℕ) → Room F a → get_or F.slots k k < F.size → Held C a s → add (register_of s 15) (slot_word F k) ≡ slot_address F k a
    slot_is a s k room good h = omega (arith, room.low, room.high, room.top, h.top)

    slot_low : (a : Addr) (k : ℕ) → Room F a → get_or F.slots k k < F.size → slot_address F k a < 0x400000
    slot_low a k room good = omega (arith, room.low, room.high)

    pub reg_number : (r : ℕ) → r < 9 → register r ≡ r
    reg_number r lt = omega arith

    pub fetch_act : (a : Addr) (s : State) (p : Where) (r next : ℕ) → Room F a → Good F p → Held C a s → act (instr_with (imm_word address) (fetch F p r)) next s ≡ Ends stepped.Went (took next r (word_of F p a) s)
    unfolding act
    fetch_act a s (Reg q) r next room good h =
        ap (λ v. Ends stepped.Went (took next r v s)) (ap (λ n. register_of s n) (reg_number q good) ∙ h.regs q good)
    fetch_act a s (Slot k) r next room good h =
        let w = readable_word a s (slot_address F k a) h (ram_readable (slot_address F k a) (slot_low a k room good)) in
        rw (slot_is a s k room good h, w) refl

    fetch_fits : (p : Where) (r : ℕ) → r < 16 → Fits (instr_with (imm_word address) (fetch F p r))
    fetch_fits (Reg q) r lt = (omega arith, omega arith, omega arith)
    fetch_fits (Slot k) r lt = (omega arith, omega arith, omega arith)

    pub fetch_effect : (a : Addr) (s : State) (pc : ℕ) (p : Where) (r next : ℕ) → Room F a → Good F p → r < 16 → Held C a s → s.counter ≡ pc → Line C.words pc (instr_with (imm_word address) (fetch F p r)) next → effect_of s ≡ Ends stepped.Went (took next r (word_of F p a) s)
    fetch_effect a s pc p r next room good lt h e l = line_effect a s pc (instr_with (imm_word address) (fetch F p r)) next h e l (fetch_fits p r lt) ∙ fetch_act a s p r next room good h

    pub fetch_turn : (a : Addr) (s : State) (pc : ℕ) (p : Where) (r next : ℕ) → r < 16 → Held C a s → s.counter ≡ pc → Line C.words pc (instr_with (imm_word address) (fetch F p r)) next → turn s ≡ Other
    fetch_turn a s pc (Reg q) r next lt h e l = line_turn a s pc (instr_with (imm_word address) (fetch F (Reg q) r)) next h e l (fetch_fits (Reg q) r lt)
    fetch_turn a s pc (Slot k) r next lt h e l = line_turn a s pc (instr_with (imm_word address) (fetch F (Slot k) r)) next h e l (fetch_fits (Slot k) r lt)

    -- a register takes the word of a place
    pub fetches_so : (a : Addr) (s : State) (xs : List ℕ) (pc : ℕ) (p : Where) (r next : ℕ) → Room F a → Good F p → r < 16 → Held C a s → s.counter ≡ pc →
        Line C.words pc (instr_with (imm_word address) (fetch F p r)) next → Reaches 1 s xs [] (took next r (word_of F p a) s) xs
    fetches_so a s xs pc p r next room good lt h e l =
        reaches_went s (took next r (word_of F p a) s) xs (fetch_effect a s pc p r next room good lt h e l) (fetch_turn a s pc p r next lt h e l)

    keep_fits : (t : Where) (r : ℕ) → r < 16 → Fits (instr_with (imm_word address) (keep F t r))
    keep_fits (Reg q) r lt = (omega arith, omega arith, omega arith)
    keep_fits (Slot k) r lt = (omega arith, omega arith, omega arith)

    -- a place takes the word of a register
    pub keeps_so : (a : Addr) (s : State) (xs : List ℕ) (pc : ℕ) (t : Where) (r v next : ℕ) → r < 16 → Room F a → Good F t → Held C a s → s.counter ≡ pc → register_of s r ≡ v →
        Line C.words pc (instr_with (imm_word address) (keep F t r)) next → Arrives C 1 s xs next [] xs (put F t v a)
    unfolding act
    keeps_so a s xs pc (Reg q) r v next lt room good h e is l =
        let act_is : act (instr_with (imm_word address) (keep F (Reg q) r)) next s ≡ Ends stepped.Went (took next q v s) = rw (reg_number q good, is) refl in
        record {
          steps = 1;
          to = took next q v s;
          by = reaches_went s (took next q v s) xs (line_effect a s pc (instr_with (imm_word address) (keep F (Reg q) r)) next h e l (keep_fits (Reg q) r lt) ∙ act_is) (line_turn a s pc (instr_with (imm_word address) (keep F (Reg q) r)) next h e l (keep_fits (Reg q) r lt));
          at = refl;
          held = kept a s next q v (omega (arith, good)) h;
          few = omega arith;
        }
    keeps_so a s xs pc (Slot k) r v next lt room good h e is l =
        let w : is_writable_at s (slot_address F k a) ≡ true = writes_at a s (slot_address F k a) h ∙ ram_writable (slot_address F k a) (slot_low a k room good) in
        let act_is : act (instr_with (imm_word address) (keep F (Slot k) r)) next s ≡ Ends stepped.Went (going_to next (stored s (slot_address F k a) v)) = rw (slot_is a s k room good h, w, is) refl in
        record {
          steps = 1;
          to = going_to next (stored s (slot_address F k a) v);
          by = reaches_went s _ xs (line_effect a s pc (instr_with (imm_word address) (keep F (Slot k) r)) next h e l (keep_fits (Slot k) r lt) ∙ act_is) (line_turn a s pc (instr_with (imm_word address) (keep F (Slot k) r)) next h e l (keep_fits (Slot k) r lt));
          at = refl;
          held = stores a s next (slot_address F k a) v (ram_writable (slot_address F k a) (slot_low a k room good)) h;
          few = omega arith;
        }
