-- What one instruction does (the system specification, section on the processor; the assembly guide, one entry
-- per instruction).
use Rattle.std.specs.Prelude.{ℕ, ◌/◌, ◌%◌, ◌^◌, ◌==◌, ◌≡◌, Bool, Option, Some, None, if◌then◌else◌}
use Rattle.kit_base.specs.Word.{add, sub, below}
use Rattle.v32_isa.specs.declared.instruction.Plain.{Plain}
use Rattle.v32_isa.specs.declared.instruction.Plain.TheVariants.{HLT, WAIT, RET, MOVS, SETS}
use Rattle.v32_isa.specs.declared.instruction.Go.{Go}
use Rattle.v32_isa.specs.declared.instruction.Go.TheVariants.{JMP, CALL}
use Rattle.v32_isa.specs.declared.instruction.Branch.{Branch}
use Rattle.v32_isa.specs.declared.instruction.Branch.TheVariants.{JT, JF}
use Rattle.v32_isa.specs.declared.instruction.One.{One}
use Rattle.v32_isa.specs.declared.instruction.One.TheVariants.{PUSH, POP, CMPS, CIB, NOT, BNOT, ISGN, IABS}
use Rattle.v32_isa.specs.declared.instruction.Src.{Src}
use Rattle.v32_isa.specs.declared.instruction.Src.TheVariants as src
use Rattle.v32_isa.specs.declared.instruction.Mov.{Mov}
use Rattle.v32_isa.specs.declared.instruction.Mov.TheVariants.{RegImm, RegReg, RegAt, RegAtReg, RegAtOff, AtReg, AtRegReg, AtOffReg}
use Rattle.v32_isa.specs.declared.instruction.Instr.{Instr}
use Rattle.v32_isa.specs.declared.instruction.Instr.TheVariants as instr
use Rattle.v32_isa.specs.declared.stepped.Stepped.{Stepped}
use Rattle.v32_isa.specs.declared.stepped.Stepped.TheVariants.{Went, Waited, Halted, Starved, Fault, Undecodable}
use Rattle.v32_isa.specs.Arithmetic.{two_of, one_of}
use Rattle.v32_isa.specs.Decoding.{decoded}
use Rattle.v32_isa.specs.Ports.{is_readable, is_writable}
use Rattle.v32_isa.specs.State.{State, cr, sr, dr, sp, register_of, with_register, going_to, is_writable_at, word_at, stored}

-- what an instruction does: it ends in a state; or it asks a port, whose answer goes to a register before the
-- next address; or it tells a port a word and goes on at the next address
pub data Effect : Type 0 where
  Ends : Stepped → State → Effect
  Asks : ℕ → ℕ → ℕ → State → Effect
  Tells : ℕ → ℕ → ℕ → State → Effect

-- the word of an operand
abbrev pub value_of : State → Src ℕ → ℕ
value_of s (src.Imm i) = i
value_of s (src.Reg r) = register_of s r

-- goes on with a word that was read; where it can't be read, it is fault 0 and nothing changes
abbrev pub reading : Option ℕ → State → (ℕ → Effect) → Effect
reading None s go = Ends (Fault 0) s
reading (Some word) s go = go word

-- goes on with a word stored at an address; where it can't be written, it is fault 1 and nothing changes
abbrev pub storing : State → ℕ → ℕ → (State → Effect) → Effect
storing s address word go = if is_writable_at s address then go (stored s address word) else Ends (Fault 1) s

-- a register takes a word, and the next address follows
abbrev pub takes : ℕ → ℕ → ℕ → State → Effect
takes r word next s = Ends Went (going_to next (with_register r word s))

-- the same of a computed word; where there is none, it is fault 6 and nothing changes
abbrev pub taking : ℕ → Option ℕ → ℕ → State → Effect
taking r None next s = Ends (Fault 6) s
taking r (Some word) next s = takes r word next s

-- the address of a copying instruction while its count, signed, is above 0, then the next address
abbrev pub repeating : ℕ → ℕ → State → ℕ
repeating count next s = if below 0 count then s.counter else next

abbrev pub act_plain : Plain → ℕ → State → Effect
act_plain HLT next s = Ends Halted s
act_plain WAIT next s = Ends Waited (going_to next s)
act_plain RET next s =
    reading (word_at s (register_of s sp)) s (λ word.
    Ends Went (going_to word (with_register sp (add (register_of s sp) 1) s)))
act_plain MOVS next s =
    if below 0 (register_of s cr) then
    reading (word_at s (register_of s sr)) s (λ word. storing s (register_of s dr) word (λ t.
    Ends Went (going_to (repeating (sub (register_of s cr) 1) next s)
    (with_register cr (sub (register_of s cr) 1)
    (with_register dr (add (register_of s dr) 1)
    (with_register sr (add (register_of s sr) 1) t))))))
    else Ends Went (going_to next s)
act_plain SETS next s =
    if below 0 (register_of s cr) then
    storing s (register_of s dr) (register_of s sr) (λ t.
    Ends Went (going_to (repeating (sub (register_of s cr) 1) next s)
    (with_register cr (sub (register_of s cr) 1)
    (with_register dr (add (register_of s dr) 1) t))))
    else Ends Went (going_to next s)

abbrev pub act_go : Go → Src ℕ → ℕ → State → Effect
act_go JMP x next s = Ends Went (going_to (value_of s x) s)
act_go CALL x next s =
    storing s (sub (register_of s sp) 1) next (λ t.
    Ends Went (going_to (value_of s x) (with_register sp (sub (register_of s sp) 1) t)))

abbrev pub act_branch : Branch → ℕ → Src ℕ → ℕ → State → Effect
act_branch JT a x next s = Ends Went (going_to (if register_of s a == 0 then next else value_of s x) s)
act_branch JF a x next s = Ends Went (going_to (if register_of s a == 0 then value_of s x else next) s)

-- CMPS compares the word at DR with the word at SR; where they are equal it goes on as MOVS does, and then its
-- register becomes 0
abbrev pub act_one : One → ℕ → ℕ → State → Effect
act_one PUSH a next s =
    storing s (sub (register_of s sp) 1) (register_of s a) (λ t. takes sp (sub (register_of s sp) 1) next t)
act_one POP a next s =
    reading (word_at s (register_of s sp)) s (λ word.
    takes a word next (with_register sp (add (register_of s sp) 1) s))
act_one CMPS a next s =
    if below 0 (register_of s cr) then
    reading (word_at s (register_of s dr)) s (λ d. reading (word_at s (register_of s sr)) s (λ e.
    if sub d e == 0 then
    takes a 0 (repeating (sub (register_of s cr) 1) next s)
    (with_register cr (sub (register_of s cr) 1)
    (with_register sr (add (register_of s sr) 1)
    (with_register dr (add (register_of s dr) 1) s)))
    else takes a (sub d e) next s))
    else takes a 0 next s
act_one CIB a next s = taking a (one_of CIB (register_of s a)) next s
act_one NOT a next s = taking a (one_of NOT (register_of s a)) next s
act_one BNOT a next s = taking a (one_of BNOT (register_of s a)) next s
act_one ISGN a next s = taking a (one_of ISGN (register_of s a)) next s
act_one IABS a next s = taking a (one_of IABS (register_of s a)) next s

-- a register takes the word at an address; a word goes to an address
abbrev pub loads : ℕ → ℕ → ℕ → State → Effect
loads a address next s = reading (word_at s address) s (λ word. takes a word next s)

abbrev pub stores : ℕ → ℕ → ℕ → State → Effect
stores address word next s = storing s address word (λ t. Ends Went (going_to next t))

abbrev pub act_mov : Mov ℕ → ℕ → State → Effect
act_mov (RegImm a i) next s = takes a i next s
act_mov (RegReg a b) next s = takes a (register_of s b) next s
act_mov (RegAt a i) next s = loads a i next s
act_mov (RegAtReg a b) next s = loads a (register_of s b) next s
act_mov (RegAtOff a b i) next s = loads a (add (register_of s b) i) next s
act_mov (AtReg i b) next s = stores i (register_of s b) next s
act_mov (AtRegReg a b) next s = stores (register_of s a) (register_of s b) next s
act_mov (AtOffReg a i b) next s = stores (add (register_of s a) i) (register_of s b) next s

-- what an instruction does; `next` is the address after it
unfoldable pub act : Instr ℕ → ℕ → State → Effect
act (instr.Plain p) next s = act_plain p next s
act (instr.Go g x) next s = act_go g x next s
act (instr.Branch b a x) next s = act_branch b a x next s
act (instr.Two t a x) next s = taking a (two_of t (register_of s a) (value_of s x)) next s
act (instr.One o a) next s = act_one o a next s
act (instr.Mov m) next s = act_mov m next s
act (instr.Lea a b None) next s = takes a (register_of s b) next s
act (instr.Lea a b (Some i)) next s = takes a (add (register_of s b) i) next s
act (instr.In a p) next s = if is_readable p then Asks a p next s else Ends (Fault 2) s
act (instr.Out p x) next s = if is_writable p then Tells p (value_of s x) next s else Ends (Fault 3) s

-- whether the flag says that an immediate follows
abbrev pub has_immediate : ℕ → Bool
has_immediate first = first / 2 ^ 25 % 2 == 1

abbrev pub paired : ℕ → Option ℕ → Option (ℕ × Option ℕ)
paired first None = None
paired first (Some second) = Some (first, Some second)

abbrev pub fetched_from : State → Option ℕ → Option (ℕ × Option ℕ)
fetched_from s None = None
fetched_from s (Some first) =
    if has_immediate first then paired first (word_at s (add s.counter 1)) else Some (first, None)

-- the word at the counter, with the word after it where the flag is set; none where one can't be read
unfoldable pub fetched : State → Option (ℕ × Option ℕ)
fetched s = fetched_from s (word_at s s.counter)

-- the address after an instruction
abbrev pub next_of : State → Option ℕ → ℕ
next_of s None = add s.counter 1
next_of s (Some second) = add s.counter 2

abbrev pub effect_decoded : State → Option ℕ → Option (Instr ℕ) → Effect
effect_decoded s second None = Ends (Undecodable s.counter) s
effect_decoded s second (Some i) = act i (next_of s second) s

abbrev pub effect_fetched : State → Option (ℕ × Option ℕ) → Effect
effect_fetched s None = Ends (Fault 0) s
effect_fetched s (Some words) = effect_decoded s words.1 (decoded words.0 words.1)

-- what one step does: it reads the instruction at the counter and acts on it
unfoldable pub effect_of : State → Effect
effect_of s = effect_fetched s (fetched s)

-- what the answer of a port leaves; without one nothing changes
abbrev pub Answered : Option ℕ → ℕ → ℕ → State → Stepped → State → Type 0
Answered None a next s stepped t = (stepped ≡ Starved) × (t ≡ s)
Answered (Some word) a next s stepped t = (stepped ≡ Went) × (t ≡ going_to next (with_register a word s))

-- how an effect goes on over a bus, whose two relations say what it does when it is asked and when it is told:
-- the effect, the bus before, how the step ended, the state after, the bus after
abbrev pub Acts : {B : Type 0} → (B → ℕ → Option ℕ → B → Type 0) → (B → ℕ → ℕ → B → Type 0) → Effect → B → Stepped → State → B → Type 0
Acts input output (Ends stepped' t') b stepped t c = (stepped ≡ stepped') × (t ≡ t') × (c ≡ b)
Acts input output (Asks a p next s) b stepped t c = (answer : Option ℕ) × (input b p answer c × Answered answer a next s stepped t)
Acts input output (Tells p word next s) b stepped t c = output b p word c × (stepped ≡ Went) × (t ≡ going_to next s)

-- one step over a bus
abbrev pub Steps : {B : Type 0} → (B → ℕ → Option ℕ → B → Type 0) → (B → ℕ → ℕ → B → Type 0) → State → B → Stepped → State → B → Type 0
Steps input output s b stepped t c = Acts input output (effect_of s) b stepped t c
