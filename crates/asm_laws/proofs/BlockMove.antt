-- A step of the machine's block move, and of its block fill.
use Rattle.std.proofs.Common.{◌≡◌, ℕ, ◌<◌, ◌≤◌, true, false, List, [], Some, None, refl, sym, ap, ◌∙◌, subst, arith, length-set}
use Rattle.std.specs.Prelude.{if◌then◌else◌, nat_lt}
use Rattle.std.proofs.lemmas.List.{length-set}
use Rattle.std.proofs.lemmas.Bool.Decides.{nat_tests}
use Rattle.kit_base.specs.Word.{add, sub, below}
use Rattle.v32_isa.specs.declared.instruction.Plain.{Plain}
use Rattle.v32_isa.specs.declared.instruction.Plain.TheVariants.{MOVS, SETS}
use Rattle.v32_isa.specs.declared.instruction.Instr.TheVariants as instr
use Rattle.v32_isa.specs.declared.stepped.Stepped.TheVariants as stepped
use Rattle.v32_isa.specs.State.{State, register_of, with_register, going_to, stored, word_at, is_writable_at}
use Rattle.v32_isa.specs.Machine.{act, effect_of, repeating}
use Rattle.v32_isa.specs.Machine.Effect.{Ends}
use Rattle.v32_isa.proofs.Steps.{Reaches, reaches_went}
use Rattle.asm_laws.specs.Placing.{Line}
use Rattle.asm_laws.specs.Addresses.{Addr, Console, readable, writable, store, Held}
use Rattle.asm_laws.proofs.Pointers.{below_is}
use Rattle.asm_laws.proofs.Stepping.{reg_same, reg_other, writes_at, readable_word, unreadable_word, line_effect, line_turn, stores}

small_below : (a b : ℕ) → a < 0x80000000 → b < 0x80000000 → below a b ≡ nat_lt a b
small_below a b la lb = below_is a b la lb

pub counts_on : (n : ℕ) → 0 < n → n < 0x80000000 → below 0 n ≡ true
counts_on n lo hi = small_below 0 n (omega arith) hi ∙ grind (arith, nat_tests)

pub counts_out : below 0 0 ≡ false
counts_out = small_below 0 0 (omega arith) (omega arith) ∙ grind (arith, nat_tests)

module _ (C : Console) where
  -- a register that holds no place
  pub aside : (a : Addr) (s : State) (r v : ℕ) → 9 ≤ r → r < 15 → Held C a s → Held C a (with_register r v s)
  aside a s r v lo hi h = record {
    program_length = h.program_length;
    card = h.card;
    short = h.short;
    text = h.text;
    sixteen = length-set s.registers r v ∙ h.sixteen;
    regs = λ q lt. reg_other C s r v q (omega arith) ∙ h.regs q lt;
    top = reg_other C s r v 15 (omega arith) ∙ h.top;
    memory = h.memory;
  }

  -- a word is copied, both addresses go on by one, and one less is left
  abbrev copied : (next word : ℕ) → State → State
  copied next word s = going_to (repeating (sub (register_of s 11) 1) next s) (with_register 11 (sub (register_of s 11) 1)
      (with_register 13 (add (register_of s 13) 1) (with_register 12 (add (register_of s 12) 1) (stored s (register_of s 13) word))))

  moves_on : (s : State) (next word : ℕ) → below 0 (register_of s 11) ≡ true → word_at s (register_of s 12) ≡ Some word → is_writable_at s (register_of s 13) ≡ true → act (instr.Plain MOVS) next s ≡ Ends stepped.Went (copied next word s)
  unfolding act
  moves_on s next word b r w = rw (b, r, w) refl

  reads_none : (s : State) (next : ℕ) → below 0 (register_of s 11) ≡ true → word_at s (register_of s 12) ≡ None → act (instr.Plain MOVS) next s ≡ Ends (stepped.Fault 0) s
  unfolding act
  reads_none s next b r = rw (b, r) refl

  writes_none : (s : State) (next word : ℕ) → below 0 (register_of s 11) ≡ true → word_at s (register_of s 12) ≡ Some word → is_writable_at s (register_of s 13) ≡ false → act (instr.Plain MOVS) next s ≡ Ends (stepped.Fault 1) s
  unfolding act
  writes_none s next word b r w = rw (b, r, w) refl

  -- a word is written, the address goes on by one, and one less is left
  abbrev filled : (next word : ℕ) → State → State
  filled next word s = going_to (repeating (sub (register_of s 11) 1) next s) (with_register 11 (sub (register_of s 11) 1)
      (with_register 13 (add (register_of s 13) 1) (stored s (register_of s 13) word)))

  fills_on : (s : State) (next : ℕ) → below 0 (register_of s 11) ≡ true → is_writable_at s (register_of s 13) ≡ true → act (instr.Plain SETS) next s ≡ Ends stepped.Went (filled next (register_of s 12) s)
  unfolding act
  fills_on s next b w = rw (b, w) refl

  fills_none : (s : State) (next : ℕ) → below 0 (register_of s 11) ≡ true → is_writable_at s (register_of s 13) ≡ false → act (instr.Plain SETS) next s ≡ Ends (stepped.Fault 1) s
  unfolding act
  fills_none s next b w = rw (b, w) refl

  -- the machine stands at a block move or fill that has words left
  pub record Copies (i : Plain) (a : Addr) (s : State) (pc next n v w : ℕ) : Type 0 where
    pub held : Held C a s
    pub at : s.counter ≡ pc
    pub line : Line C.words pc (instr.Plain i) next
    pub count : register_of s 11 ≡ n
    pub source : register_of s 12 ≡ v
    pub target : register_of s 13 ≡ w
    pub some : 0 < n
    pub few : n < 0x80000000

  counts : (i : Plain) (a : Addr) (s : State) (pc next n v w : ℕ) → Copies i a s pc next n v w → below 0 (register_of s 11) ≡ true
  counts i a s pc next n v w c = ap (below 0) c.count ∙ counts_on n c.some c.few

  module _ (a : Addr) (s : State) (pc next n v w : ℕ) (c : Copies MOVS a s pc next n v w) where
    effect : effect_of s ≡ act (instr.Plain MOVS) next s
    effect = line_effect C a s pc (instr.Plain MOVS) next c.held c.at c.line (omega arith, omega arith, omega arith)

    some_left : below 0 (register_of s 11) ≡ true
    some_left = counts MOVS a s pc next n v w c

    pub faults_reading : readable C v ≡ false → effect_of s ≡ Ends (stepped.Fault 0) s
    faults_reading r = effect ∙ reads_none s next some_left (ap (word_at s) c.source ∙ unreadable_word C a s v c.held r)

    pub faults_writing : readable C v ≡ true → writable C w ≡ false → effect_of s ≡ Ends (stepped.Fault 1) s
    faults_writing r q = effect ∙ writes_none s next (a.memory v) some_left (ap (word_at s) c.source ∙ readable_word C a s v c.held r) (ap (is_writable_at s) c.target ∙ writes_at C a s w c.held ∙ q)

    -- a step has been made
    pub record Copied (xs : List ℕ) : Type 0 where
      pub to : State
      pub by : Reaches 1 s xs [] to xs
      pub held : Held C (store w (a.memory v) a) to
      pub at : to.counter ≡ (if below 0 (sub n 1) then pc else next)
      pub count : register_of to 11 ≡ sub n 1
      pub source : register_of to 12 ≡ add v 1
      pub target : register_of to 13 ≡ add w 1

    pub copies : (xs : List ℕ) → readable C v ≡ true → writable C w ≡ true → Copied xs
    copies xs r q =
        let x = a.memory v in
        let h0 : Held C (store w x a) (going_to next (stored s w x)) = stores C a s next w x q c.held in
        let hs : Held C (store w x a) (stored s (register_of s 13) x) = subst (λ z. Held C (store w x a) (stored s z x)) (sym c.target) (record { program_length = h0.program_length; card = h0.card; short = h0.short; text = h0.text; sixteen = h0.sixteen; regs = h0.regs; top = h0.top; memory = h0.memory }) in
        let s0 = stored s (register_of s 13) x in
        let s1 = with_register 12 (add (register_of s 12) 1) s0 in
        let s2 = with_register 13 (add (register_of s 13) 1) s1 in
        let s3 = with_register 11 (sub (register_of s 11) 1) s2 in
        let h1 = aside (store w x a) s0 12 (add (register_of s 12) 1) (omega arith) (omega arith) hs in
        let h2 = aside (store w x a) s1 13 (add (register_of s 13) 1) (omega arith) (omega arith) h1 in
        let h3 = aside (store w x a) s2 11 (sub (register_of s 11) 1) (omega arith) (omega arith) h2 in
        let n1 = h1.sixteen in
        let n2 = h2.sixteen in
        let n0 = hs.sixteen in
        record {
          to = copied next x s;
          by = reaches_went s (copied next x s) xs (effect ∙ moves_on s next x some_left (ap (word_at s) c.source ∙ readable_word C a s v c.held r) (ap (is_writable_at s) c.target ∙ writes_at C a s w c.held ∙ q)) (line_turn C a s pc (instr.Plain MOVS) next c.held c.at c.line (omega arith, omega arith, omega arith));
          held = record { program_length = h3.program_length; card = h3.card; short = h3.short; text = h3.text; sixteen = h3.sixteen; regs = h3.regs; top = h3.top; memory = h3.memory };
          at = ap (λ z. if below 0 (sub z 1) then s.counter else next) c.count ∙ ap (λ z. if below 0 (sub n 1) then z else next) c.at;
          count = reg_same C s2 11 (sub (register_of s 11) 1) (omega (arith, n2)) ∙ ap (λ z. sub z 1) c.count;
          source = reg_other C s2 11 (sub (register_of s 11) 1) 12 (omega arith) ∙ reg_other C s1 13 (add (register_of s 13) 1) 12 (omega arith) ∙ reg_same C s0 12 (add (register_of s 12) 1) (omega (arith, n0)) ∙ ap (λ z. add z 1) c.source;
          target = reg_other C s2 11 (sub (register_of s 11) 1) 13 (omega arith) ∙ reg_same C s1 13 (add (register_of s 13) 1) (omega (arith, n1)) ∙ ap (λ z. add z 1) c.target;
        }

  -- the same for a fill
  module _ (a : Addr) (s : State) (pc next n v w : ℕ) (c : Copies SETS a s pc next n v w) where
    fill_effect : effect_of s ≡ act (instr.Plain SETS) next s
    fill_effect = line_effect C a s pc (instr.Plain SETS) next c.held c.at c.line (omega arith, omega arith, omega arith)

    fill_left : below 0 (register_of s 11) ≡ true
    fill_left = counts SETS a s pc next n v w c

    pub faults_filling : writable C w ≡ false → effect_of s ≡ Ends (stepped.Fault 1) s
    faults_filling q = fill_effect ∙ fills_none s next fill_left (ap (is_writable_at s) c.target ∙ writes_at C a s w c.held ∙ q)

    -- a step has been made
    pub record Filled (xs : List ℕ) : Type 0 where
      pub to : State
      pub by : Reaches 1 s xs [] to xs
      pub held : Held C (store w v a) to
      pub at : to.counter ≡ (if below 0 (sub n 1) then pc else next)
      pub count : register_of to 11 ≡ sub n 1
      pub source : register_of to 12 ≡ v
      pub target : register_of to 13 ≡ add w 1

    pub fills : (xs : List ℕ) → writable C w ≡ true → Filled xs
    fills xs q =
        let x = register_of s 12 in
        let h0 : Held C (store w v a) (going_to next (stored s w v)) = stores C a s next w v q c.held in
        let hv : Held C (store w v a) (stored s w v) = record { program_length = h0.program_length; card = h0.card; short = h0.short; text = h0.text; sixteen = h0.sixteen; regs = h0.regs; top = h0.top; memory = h0.memory } in
        let hs : Held C (store w v a) (stored s (register_of s 13) x) = (let p = c.target in let r = c.source in subst (λ z. Held C (store w v a) (stored s z x)) (sym p) (subst (λ z. Held C (store w v a) (stored s w z)) (sym r) hv)) in
        let s0 = stored s (register_of s 13) x in
        let s1 = with_register 13 (add (register_of s 13) 1) s0 in
        let s2 = with_register 11 (sub (register_of s 11) 1) s1 in
        let h1 = aside (store w v a) s0 13 (add (register_of s 13) 1) (omega arith) (omega arith) hs in
        let h2 = aside (store w v a) s1 11 (sub (register_of s 11) 1) (omega arith) (omega arith) h1 in
        let n0 = hs.sixteen in
        let n1 = h1.sixteen in
        record {
          to = filled next x s;
          by = reaches_went s (filled next x s) xs (fill_effect ∙ fills_on s next fill_left (ap (is_writable_at s) c.target ∙ writes_at C a s w c.held ∙ q)) (line_turn C a s pc (instr.Plain SETS) next c.held c.at c.line (omega arith, omega arith, omega arith));
          held = record { program_length = h2.program_length; card = h2.card; short = h2.short; text = h2.text; sixteen = h2.sixteen; regs = h2.regs; top = h2.top; memory = h2.memory };
          at = ap (λ z. if below 0 (sub z 1) then s.counter else next) c.count ∙ ap (λ z. if below 0 (sub n 1) then z else next) c.at;
          count = reg_same C s1 11 (sub (register_of s 11) 1) (omega (arith, n1)) ∙ ap (λ z. sub z 1) c.count;
          source = reg_other C s1 11 (sub (register_of s 11) 1) 12 (omega arith) ∙ reg_other C s0 13 (add (register_of s 13) 1) 12 (omega arith) ∙ c.source;
          target = reg_other C s1 11 (sub (register_of s 11) 1) 13 (omega arith) ∙ reg_same C s0 13 (add (register_of s 13) 1) (omega (arith, n0)) ∙ ap (λ z. add z 1) c.target;
        }
