-- Each operation but a call is followed by the machine, in at most eight steps.
use Rattle.std.proofs.Common.{◌≡◌, ℕ, suc, ◌+◌, ◌%◌, ◌^◌, ◌==◌, ◌<◌, ◌≤◌, inl, inr, Bool, true, false, cond, List, [], ◌∷◌, ◌++◌, Option, Some, None, refl, sym, ap, ◌∙◌, subst, arith}
use Rattle.std.specs.Prelude.{get_or, not, ◌&&◌}
use Rattle.std.proofs.lemmas.Bool.{eqb-true}
use Rattle.either.specs.declared.Either.TheVariants.{Left, Right}
use Rattle.std.proofs.lemmas.Nat.{and_comm, or_comm, xor_comm}
use Rattle.std.proofs.Math.Nat.{mul_comm}
use Rattle.kit_base.specs.Word.{add, mul, bool_word}
use Rattle.kit_base.specs.declared.event.Event.TheVariants as event
use Rattle.v32_isa.specs.declared.instruction.Plain.TheVariants.{HLT, WAIT}
use Rattle.v32_isa.specs.declared.instruction.One.{One as OneOf}
use Rattle.v32_isa.specs.declared.instruction.One.TheVariants.{PUSH, POP, CMPS, CIB, NOT, BNOT, ISGN, IABS}
use Rattle.v32_isa.specs.declared.instruction.Two.{Two as TwoOf}
use Rattle.v32_isa.specs.declared.instruction.Two.TheVariants.{IEQ, INE, IGT, IGE, ILT, ILE, AND, OR, XOR, SHL, IADD, ISUB, IMUL, IDIV, IMOD, IMIN, IMAX}
use Rattle.v32_isa.specs.declared.instruction.Src.TheVariants as src
use Rattle.v32_isa.specs.declared.instruction.Mov.TheVariants.{RegImm, RegAtReg, AtRegReg}
use Rattle.v32_isa.specs.declared.instruction.Instr.{Instr}
use Rattle.v32_isa.specs.declared.instruction.Instr.TheVariants as instr
use Rattle.v32_isa.specs.declared.stepped.Stepped.TheVariants as stepped
use Rattle.v32_isa.specs.Table.{Fits}
use Rattle.v32_isa.specs.Arithmetic.{one_of, two_of}
use Rattle.v32_isa.specs.Ports.{is_readable, is_writable}
use Rattle.v32_isa.specs.State.{State, register_of, going_to, stored, word_at, is_writable_at}
use Rattle.v32_isa.specs.Machine.{act, effect_of, taking}
use Rattle.v32_isa.specs.Machine.Effect.{Ends as EndsIn, Asks, Tells}
use Rattle.v32_isa.specs.Runs.{Run, run, ended}
use Rattle.v32_isa.specs.Runs as machine
use Rattle.v32_isa.specs.Calls.{turn}
use Rattle.v32_isa.specs.Calls.Turn.{Other}
use Rattle.v32_isa.proofs.Steps.{before, Reaches, reaches_here, reaches_on, reaches_went, reaches_waited, reaches_told, reaches_asked, run-halted, run-fault, run-starved, nested_stopped, nested_starved}
use Rattle.asm_items.specs.declared.item.AsmItem.{AsmItem}
use Rattle.asm_items.specs.declared.item.AsmItem.TheVariants as item
use Rattle.asm_items.specs.Items.{Imm, instr_with}
use Rattle.asm_items.specs.Words.{imm_word}
use Rattle.mid_code.specs.declared.placed.Where.{Where}
use Rattle.mid_code.specs.declared.placed.Where.TheVariants.{Reg, Slot}
use Rattle.mid_code.specs.Code.{OpT, ConstO, NullO, MoveO, OneO, TwoO, GlobalO, LocalO, LiteralO, CardO, StepO, ApartO, PtrTestO, LoadO, StoreO, FreshO, EndO, InO, OutO, WaitO, HaltO}
use Rattle.mid_code.specs.States.{op_weight}
use Rattle.asm_laws.specs.Names.{literal_label}
use Rattle.asm_laws.specs.Operations.{Frame, Whole, local_word, fetch, keep, fetches, keeps, hand, brings, takes, aim, lays, sets, moves, changes, is_direct, in_place, apart, is_turned, turned_or_apart, computes, op_items}
use Rattle.asm_laws.specs.Pieces.{register, is_in, turned}
use Rattle.asm_laws.specs.Operations as emitted
use Rattle.asm_laws.specs.Placing.{Line}
use Rattle.asm_laws.specs.Standing.{Stand}
use Rattle.asm_laws.specs.Addresses.{Addr, Console, readable, writable, word_of, local_address, put, Room, Good, Does, Goes, Ends, computed, loaded, saved, asked, does, IsPlainOne, GoodOp, Held, Arrives, HasEnded, Follows}
use Rattle.asm_laws.proofs.Stepping.{same_or_not, written_same, written_other, same_word, readable_word, unreadable_word, writes_at, line_effect, line_turn, reg_same, took, scratch, kept, moved, stores, reg_number, fetch_effect, fetch_turn, fetches_so}
use Rattle.asm_laws.proofs.Hands.{like_self, with_reg, like_with, hand_fits, aim_fits, aim_low, hand_other, held_alike, brings_at, takes_at, word_other, kept_at, lays_from, lays_at}
use Rattle.asm_laws.proofs.Split.{split}

-- steps before those that follow
pub later : (C : Console) (j n limit : ℕ) (s t : State) (xs : List ℕ) (pc : ℕ) (a : Addr) (d : Does) → Reaches j s xs [] t xs → j + n ≤ limit → Follows C n t xs pc a d → Follows C limit s xs pc a d
later C j n limit s t xs pc a (Goes es ys b) r le f = record {
  steps = j + f.steps;
  to = f.to;
  by = reaches_on j f.steps s t f.to xs xs ys [] es r f.by;
  at = f.at;
  held = f.held;
  few = omega (arith, f.few);
}
later C j n limit s t xs pc a (Ends how) r le f = record {
  steps = j + f.steps;
  to = f.to;
  by = λ k. (let e : j + f.steps + k ≡ j + (f.steps + k) = omega arith in ap (λ m. run m s xs) e) ∙ r.runs (f.steps + k) ∙ ap (before []) (f.by k);
  nested = λ ls. r.nests ls f.steps (f.nested ls);
  shown = f.shown;
  held = f.held;
  memory = f.memory;
  few = omega (arith, f.few);
}

one_then : (n : ℕ) (s : State) (xs : List ℕ) (r : Run) → run (suc n) s xs ≡ r → run (1 + n) s xs ≡ r
one_then n s xs r e = (let k : 1 + n ≡ suc n = omega arith in ap (λ m. run m s xs) k) ∙ e

-- a fault, where other registers than those of a machine that holds the words may have changed
pub faults_like : (C : Console) (a b : Addr) (s t : State) (xs : List ℕ) (limit k : ℕ) → 1 ≤ limit → Held C b s → Held C a t → ((q : ℕ) → b.memory q ≡ a.memory q) → effect_of s ≡ EndsIn (stepped.Fault k) s → HasEnded C limit s xs (machine.Fault k) a
faults_like C a b s t xs limit k le h g m e = record { steps = 1; to = s; by = λ n. one_then n s xs (ended (machine.Fault k) s) (run-fault n s s k xs e); nested = λ ls. nested_stopped 0 ls s s xs (stepped.Fault k) e refl; shown = t; held = g; memory = same_word C b a s t h g m; few = le }

faults : (C : Console) (a : Addr) (s : State) (xs : List ℕ) (limit k : ℕ) → 1 ≤ limit → Held C a s → effect_of s ≡ EndsIn (stepped.Fault k) s → HasEnded C limit s xs (machine.Fault k) a
faults C a s xs limit k le h e = faults_like C a a s s xs limit k le h h (λ q. refl) e

-- ---- a word in register 9

-- in at most so many steps the machine comes to an address, with a word in register 9 and all else as it was
pub record InNine (C : Console) (limit : ℕ) (s : State) (xs : List ℕ) (pc : ℕ) (a : Addr) (v : ℕ) : Type 0 where
  pub steps : ℕ
  pub to : State
  pub by : Reaches steps s xs [] to xs
  pub at : to.counter ≡ pc
  pub held : Held C a to
  pub nine : register_of to 9 ≡ v
  pub few : steps ≤ limit

-- or the run has ended, where there is no word
abbrev pub MakesNine : Console → ℕ → State → List ℕ → ℕ → Addr → Option ℕ → Type 0
MakesNine C limit s xs pc a None = HasEnded C limit s xs (machine.Fault 6) a
MakesNine C limit s xs pc a (Some v) = InNine C limit s xs pc a v

pub made_later : (C : Console) (j n limit : ℕ) (s t : State) (xs : List ℕ) (pc : ℕ) (a : Addr) (z : Option ℕ) → Reaches j s xs [] t xs → j + n ≤ limit → MakesNine C n t xs pc a z → MakesNine C limit s xs pc a z
made_later C j n limit s t xs pc a None r le f = later C j n limit s t xs pc a (Ends (machine.Fault 6)) r le f
made_later C j n limit s t xs pc a (Some v) r le f = record { steps = j + f.steps; to = f.to; by = reaches_on j f.steps s t f.to xs xs xs [] [] r f.by; at = f.at; held = f.held; nine = f.nine; few = omega (arith, f.few) }

-- the instruction that makes it
pub made_last : (C : Console) (a : Addr) (s : State) (xs : List ℕ) (next p : ℕ) (z : Option ℕ) → Held C a s → effect_of s ≡ taking 9 z next s → turn s ≡ Other → next ≡ p → MakesNine C 1 s xs p a z
made_last C a s xs next p None h e o k = faults C a s xs 1 6 (omega arith) h e
made_last C a s xs next p (Some v) h e o k = record {
  steps = 1;
  to = took C next 9 v s;
  by = reaches_went s (took C next 9 v s) xs e o;
  at = k;
  held = scratch C a s next 9 v (omega arith) (omega arith) h;
  nine = reg_same C s 9 v (omega (arith, h.sixteen));
  few = omega arith;
}

-- operators that work on one word have an answer
one_some : (o : OneOf) (v : ℕ) → IsPlainOne o → (w : ℕ) × (one_of o v ≡ Some w)
one_some PUSH v ok = absurd ok
one_some POP v ok = absurd ok
one_some CMPS v ok = absurd ok
one_some CIB v ok = (_, refl)
one_some NOT v ok = (_, refl)
one_some BNOT v ok = (_, refl)
one_some ISGN v ok = (_, refl)
one_some IABS v ok = (_, refl)

off : (x : Bool) → not x ≡ true → x ≡ false
off true e = absurd cc
off false e = refl

abbrev lays_none : Where → Type 0
lays_none (Reg q) = Unit {0}
lays_none (Slot k) = ⊥

-- a direct operator's second word is not where its target is
direct : (t b : Where) → is_direct t b ≡ true → (is_in b (aim t) ≡ false) × (lays_none t)
direct (Reg q) b e = (off (is_in b (register q)) e, tt)
direct (Slot k) b e = absurd cc

-- ---- operators with their words the other way round

-- such an operator makes the same of them
abbrev pub TurnsTo : TwoOf → Option TwoOf → Type 0
TurnsTo o None = Unit {0}
TurnsTo o (Some u) = (x y : ℕ) → two_of u y x ≡ two_of o x y

pub sum_turned : (x y : ℕ) → add y x ≡ add x y
sum_turned x y = ap (λ z. z % 2 ^ 32) (omega arith)

product_turned : (x y : ℕ) → mul y x ≡ mul x y
product_turned x y = ap (λ z. z % 2 ^ 32) (mul_comm y x)

equal_turned : (x y : ℕ) → (y == x) ≡ (x == y)
equal_turned x y = elim (same_or_not y x) [
  | inl p ↦ elim (same_or_not x y) [
    | inl q ↦ p.1 ∙ sym q.1
    | inr q ↦ absurd (q.0 (sym p.0))
  ]
  | inr p ↦ elim (same_or_not x y) [
    | inl q ↦ absurd (p.0 (sym q.0))
    | inr q ↦ p.1 ∙ sym q.1
  ]
]

pub turns : (o : TwoOf) → TurnsTo o (turned o)
turns IEQ = λ x y. ap (λ b. Some (bool_word b)) (equal_turned x y)
turns INE = λ x y. ap (λ b. Some (bool_word (not b))) (equal_turned x y)
turns IGT = λ x y. refl
turns IGE = λ x y. refl
turns ILT = λ x y. refl
turns ILE = λ x y. refl
turns AND = λ x y. ap Some (and_comm y x)
turns OR = λ x y. ap Some (or_comm y x)
turns XOR = λ x y. ap Some (xor_comm y x)
turns SHL = tt
turns IADD = λ x y. ap Some (sum_turned x y)
turns ISUB = tt
turns IMUL = λ x y. ap Some (product_turned x y)
turns IDIV = tt
turns IMOD = tt
turns IMIN = tt
turns IMAX = tt

second_on : (x y : Bool) → x && y ≡ true → y ≡ true
second_on true y e = e
second_on false y e = absurd cc

turned_direct : (t q r : Where) → is_turned t q r ≡ true → is_direct t q ≡ true
turned_direct (Slot k) q r e = absurd cc
turned_direct (Reg k) q r e = second_on (is_in r (register k)) (not (is_in q (register k))) e

module _ (C : Console) (address : List ℕ → ℕ) (W : Whole) (F : Frame) (a : Addr) (room : Room F a) where
  abbrev Here : ℕ → List AsmItem → ℕ → Type 0
  Here = Stand C.words address

  abbrev with : Instr Imm → Instr ℕ
  with i = instr_with (imm_word address) i

  abbrev parts : (xs ys : List AsmItem) (pc e : ℕ) → Here pc (xs ++ ys) e → (q : ℕ) × Here pc xs q × Here q ys e
  parts = split C.words address

  nine : (s : State) (next v : ℕ) → Held C a s → register_of (took C next 9 v s) 9 ≡ v
  nine s next v h = reg_same C s 9 v (omega (arith, h.sixteen))

  -- a word is made in the register of its place, and laid there
  laid : (s : State) (xs : List ℕ) (next p v : ℕ) (t : Where) → Good F t → Held C a s → effect_of s ≡ EndsIn stepped.Went (took C next (aim t) v s) → turn s ≡ Other → Here next (lays F t) p → Arrives C 2 s xs p [] xs (put F t v a)
  laid s xs next p v t good h e o k = lays_at C F address a a s xs next p v t room good (like_self (aim t) a) h e o k

  -- a word that may not be there, made in register 9
  computed_at : (s : State) (xs : List ℕ) (next p : ℕ) (v : Option ℕ) (t : Where) → Good F t → Held C a s → effect_of s ≡ taking 9 v next s → turn s ≡ Other → Here next (keeps F t ∷ []) p → Follows C 2 s xs p a (computed F t v xs a)
  computed_at s xs next p None t good h e o k = faults C a s xs 2 6 (omega arith) h e
  computed_at s xs next p (Some v) t good h e o k =
      later C 1 1 2 s (took C next 9 v s) xs p a (Goes [] xs (put F t v a)) (reaches_went s (took C next 9 v s) xs e o) (omega arith)
      (kept_at C F address a (took C next 9 v s) xs next p 9 v t (omega arith) room good (scratch C a s next 9 v (omega arith) (omega arith) h) refl (nine s next v h) k)

  sets_at : (s : State) (xs : List ℕ) (pc p : ℕ) (t : Where) (i : Imm) → Good F t → Held C a s → s.counter ≡ pc → Here pc (sets F t i) p → Arrives C 2 s xs p [] xs (put F t (imm_word address i) a)
  unfolding act
  sets_at s xs pc p t i good h e k = laid s xs k.0 p (imm_word address i) t good h (line_effect C a s pc (with (instr.Mov (RegImm (aim t) i))) k.0 h e k.1 (aim_fits t, omega arith, omega arith)) (line_turn C a s pc (with (instr.Mov (RegImm (aim t) i))) k.0 h e k.1 (aim_fits t, omega arith, omega arith)) k.2

  moves_at : (s : State) (xs : List ℕ) (pc p : ℕ) (t q : Where) → Good F t → Good F q → Held C a s → s.counter ≡ pc → Here pc (moves F t q) p → Arrives C 2 s xs p [] xs (put F t (word_of F q a) a)
  moves_at s xs pc p t (Reg q) gt gq h e k = go (is_in t (register q)) refl k
    where
      go : (b : Bool) → is_in t (register q) ≡ b → Here pc (cond b [] (item.Op (keep F t (register q)) ∷ [])) p → Arrives C 2 s xs p [] xs (put F t (a.regs q) a)
      go true is k = record { steps = 0; to = s; by = reaches_here s xs; at = e ∙ k; held = same t gt is; few = omega arith }
        where
          same : (t : Where) → Good F t → is_in t (register q) ≡ true → Held C (put F t (a.regs q) a) s
          same (Reg r) gr is =
              let n : r ≡ q = sym (reg_number C F address r gr) ∙ eqb-true (register r) (register q) is ∙ reg_number C F address q gq in
              held_alike C a (with_reg r (a.regs q) a) s (λ z lt. elim (same_or_not z r) [
                | inl x ↦ ap a.regs (x.0 ∙ n) ∙ sym (written_same a.regs r (a.regs q) z x.0)
                | inr x ↦ sym (written_other a.regs r (a.regs q) z x.0)
              ]) (λ z. refl) refl refl h
          same (Slot j) gr is = absurd cc
      go false is k =
          let r = kept_at C F address a s xs pc p (register q) (a.regs q) t (omega arith) room gt h e (ap (λ n. register_of s n) (reg_number C F address q gq) ∙ h.regs q gq) k in
          record { steps = r.steps; to = r.to; by = r.by; at = r.at; held = r.held; few = let f = r.few in omega (arith, f) }
  moves_at s xs pc p t (Slot j) gt gq h e k = laid s xs k.0 p (word_of F (Slot j) a) t gt h (fetch_effect C F address a s pc (Slot j) (aim t) k.0 room gq (aim_fits t) h e k.1) (fetch_turn C F address a s pc (Slot j) (aim t) k.0 (aim_fits t) h e k.1) k.2

  one_effect : (o : OneOf) (m : ℕ) (s : State) (next : ℕ) → IsPlainOne o → act (instr.One o m) next s ≡ taking m (one_of o (register_of s m)) next s
  unfolding act
  one_effect PUSH m s next ok = absurd ok
  one_effect POP m s next ok = absurd ok
  one_effect CMPS m s next ok = absurd ok
  one_effect CIB m s next ok = refl
  one_effect NOT m s next ok = refl
  one_effect BNOT m s next ok = refl
  one_effect ISGN m s next ok = refl
  one_effect IABS m s next ok = refl

  one_fits : (o : OneOf) (m : ℕ) → m < 16 → Fits (instr.One o m)
  one_fits o m lt = (lt, omega arith, omega arith)

  changes_at : (s : State) (xs : List ℕ) (pc p : ℕ) (o : OneOf) (t q : Where) → IsPlainOne o → Good F t → Good F q → Held C a s → s.counter ≡ pc → Here pc (changes F o t q) p → Follows C 3 s xs p a (computed F t (one_of o (word_of F q a)) xs a)
  changes_at s xs pc p o t q ok gt gq h e k =
      let m = aim t in
      let lt = aim_low F t gt in
      let v = word_of F q a in
      let d = parts (takes F q m) (item.Op (instr.One o m) ∷ lays F t) pc p k in
      let r = takes_at C F address a s xs pc d.0 q m room gq (omega (arith, lt)) h e d.1 in
      let u = r.to in
      let x = one_some o v ok in
      let l = d.2 in
      let eff = line_effect C (with_reg m v a) u d.0 (instr.One o m) l.0 r.held r.at l.1 (one_fits o m (aim_fits t)) ∙ one_effect o m u l.0 ok ∙ ap (λ z. taking m (one_of o z) l.0 u) r.is ∙ ap (λ z. taking m z l.0 u) x.1 in
      subst (λ z. Follows C 3 s xs p a (computed F t z xs a)) (sym x.1)
      (later C r.steps 2 3 s u xs p a (Goes [] xs (put F t x.0 a)) r.by (let f = r.few in omega (arith, f)) (lays_at C F address a (with_reg m v a) u xs l.0 p x.0 t room gt (like_with m v a) r.held eff (line_turn C (with_reg m v a) u d.0 (instr.One o m) l.0 r.held r.at l.1 (one_fits o m (aim_fits t))) l.2))

  -- an operator in the register of its target
  in_place_at : (s : State) (xs : List ℕ) (pc p : ℕ) (o : TwoOf) (t q r : Where) → is_direct t r ≡ true → Good F t → Good F q → Good F r → Held C a s → s.counter ≡ pc → Here pc (in_place F o (aim t) q r) p →
      Follows C 4 s xs p a (computed F t (two_of o (word_of F q a) (word_of F r a)) xs a)
  unfolding act
  in_place_at s xs pc p o t q r ok gt gq gr h e k =
      let m = aim t in
      let lt = aim_low F t gt in
      let v = word_of F q a in
      let w = word_of F r a in
      let b = with_reg m v a in
      let off = direct t r ok in
      let d = parts (takes F q m) (brings F r 10 ++ item.Op (instr.Two o m (src.Reg (hand r 10))) ∷ []) pc p k in
      let f = takes_at C F address a s xs pc d.0 q m room gq (omega (arith, lt)) h e d.1 in
      let g = parts (brings F r 10) (item.Op (instr.Two o m (src.Reg (hand r 10))) ∷ []) d.0 p d.2 in
      let same : word_of F r b ≡ w = word_other C F address a r m v gr off.0 in
      let i = brings_at C F address b f.to xs d.0 g.0 r 10 (record { top = room.top; low = room.low; high = room.high }) gr (omega arith) (omega arith) f.held f.at g.1 in
      let u = i.to in
      let l = g.2 in
      let first : register_of u m ≡ v = i.others m (λ z. omega (arith, lt, z)) ∙ f.is in
      let second : register_of u (hand r 10) ≡ w = i.is ∙ same in
      let eff0 : effect_of u ≡ taking m (two_of o (register_of u m) (register_of u (hand r 10))) l.0 u = line_effect C b u g.0 (instr.Two o m (src.Reg (hand r 10))) l.0 i.held i.at l.1 (aim_fits t, hand_fits r 10 (omega arith), omega arith) in
      let eff : effect_of u ≡ taking m (two_of o v w) l.0 u = eff0 ∙ ap (λ z. taking m (two_of o z (register_of u (hand r 10))) l.0 u) first ∙ ap (λ z. taking m (two_of o v z) l.0 u) second in
      later C f.steps 3 4 s f.to xs p a (computed F t (two_of o v w) xs a) f.by (let n = f.few in omega (arith, n))
      (later C i.steps 2 3 f.to u xs p a (computed F t (two_of o v w) xs a) i.by (let n = i.few in omega (arith, n)) (last (two_of o v w) u l.0 i.held eff (line_turn C b u g.0 (instr.Two o m (src.Reg (hand r 10))) l.0 i.held i.at l.1 (aim_fits t, hand_fits r 10 (omega arith), omega arith)) (no_lays t off.1 l.2)))
    where
      no_lays : {e f : ℕ} (t : Where) → lays_none t → e ≡ f → Here e (lays F t) f
      no_lays (Reg q) n h = h
      no_lays (Slot j) n h = absurd n

      -- a division may fault, with the first word in its target's register
      last : (z : Option ℕ) (u : State) (next : ℕ) → Held C (with_reg (aim t) (word_of F q a) a) u → effect_of u ≡ taking (aim t) z next u → turn u ≡ Other → Here next (lays F t) p → Follows C 2 u xs p a (computed F t z xs a)
      last None u next hu eff o k = faults_like C a (with_reg (aim t) (word_of F q a) a) u s xs 2 6 (omega arith) hu h (λ q. refl) eff
      last (Some x) u next hu eff o k = lays_at C F address a (with_reg (aim t) (word_of F q a) a) u xs next p x t room gt (like_with (aim t) (word_of F q a) a) hu eff o k

  -- an operator in register 9
  apart_at : (s : State) (xs : List ℕ) (pc p : ℕ) (o : TwoOf) (t q r : Where) → Good F t → Good F q → Good F r → Held C a s → s.counter ≡ pc → Here pc (apart F o t q r) p →
      Follows C 4 s xs p a (computed F t (two_of o (word_of F q a) (word_of F r a)) xs a)
  unfolding act
  apart_at s xs pc p o t q r gt gq gr h e k =
      let v = word_of F q a in
      let w = word_of F r a in
      let n = k.0 in
      let u1 = took C n 9 v s in
      let h1 = scratch C a s n 9 v (omega arith) (omega arith) h in
      let d = parts (brings F r 10) (item.Op (instr.Two o 9 (src.Reg (hand r 10))) ∷ keeps F t ∷ []) n p k.2 in
      let i = brings_at C F address a u1 xs n d.0 r 10 room gr (omega arith) (omega arith) h1 refl d.1 in
      let u = i.to in
      let l = d.2 in
      let first : register_of u 9 ≡ v = i.others 9 (omega arith) ∙ nine s n v h in
      let eff0 : effect_of u ≡ taking 9 (two_of o (register_of u 9) (register_of u (hand r 10))) l.0 u = line_effect C a u d.0 (instr.Two o 9 (src.Reg (hand r 10))) l.0 i.held i.at l.1 (omega arith, hand_fits r 10 (omega arith), omega arith) in
      let eff : effect_of u ≡ taking 9 (two_of o v w) l.0 u = eff0 ∙ ap (λ z. taking 9 (two_of o z (register_of u (hand r 10))) l.0 u) first ∙ ap (λ z. taking 9 (two_of o v z) l.0 u) i.is in
      later C 1 3 4 s u1 xs p a (computed F t (two_of o v w) xs a) (fetches_so C F address a s xs pc q 9 n room gq (omega arith) h e k.1) (omega arith)
      (later C i.steps 2 3 u1 u xs p a (computed F t (two_of o v w) xs a) i.by (let z = i.few in omega (arith, z)) (computed_at u xs l.0 p (two_of o v w) t gt i.held eff (line_turn C a u d.0 (instr.Two o 9 (src.Reg (hand r 10))) l.0 i.held i.at l.1 (omega arith, hand_fits r 10 (omega arith), omega arith)) l.2))

  -- the same where its word stays there
  pub both_at : (s : State) (xs : List ℕ) (pc p : ℕ) (o : TwoOf) (q r : Where) → Good F q → Good F r → Held C a s → s.counter ≡ pc → Here pc (fetches F q 9 ∷ (brings F r 10 ++ item.Op (instr.Two o 9 (src.Reg (hand r 10))) ∷ [])) p →
      MakesNine C 3 s xs p a (two_of o (word_of F q a) (word_of F r a))
  unfolding act
  both_at s xs pc p o q r gq gr h e k =
      let v = word_of F q a in
      let w = word_of F r a in
      let n = k.0 in
      let u1 = took C n 9 v s in
      let h1 = scratch C a s n 9 v (omega arith) (omega arith) h in
      let d = parts (brings F r 10) (item.Op (instr.Two o 9 (src.Reg (hand r 10))) ∷ []) n p k.2 in
      let i = brings_at C F address a u1 xs n d.0 r 10 room gr (omega arith) (omega arith) h1 refl d.1 in
      let u = i.to in
      let l = d.2 in
      let first : register_of u 9 ≡ v = i.others 9 (omega arith) ∙ nine s n v h in
      let eff0 : effect_of u ≡ taking 9 (two_of o (register_of u 9) (register_of u (hand r 10))) l.0 u = line_effect C a u d.0 (instr.Two o 9 (src.Reg (hand r 10))) l.0 i.held i.at l.1 (omega arith, hand_fits r 10 (omega arith), omega arith) in
      let eff : effect_of u ≡ taking 9 (two_of o v w) l.0 u = eff0 ∙ ap (λ z. taking 9 (two_of o z (register_of u (hand r 10))) l.0 u) first ∙ ap (λ z. taking 9 (two_of o v z) l.0 u) i.is in
      made_later C 1 2 3 s u1 xs p a (two_of o v w) (fetches_so C F address a s xs pc q 9 n room gq (omega arith) h e k.1) (omega arith)
      (made_later C i.steps 1 2 u1 u xs p a (two_of o v w) i.by (let z = i.few in omega (arith, z))
      (made_last C a u xs l.0 p (two_of o v w) i.held eff (line_turn C a u d.0 (instr.Two o 9 (src.Reg (hand r 10))) l.0 i.held i.at l.1 (omega arith, hand_fits r 10 (omega arith), omega arith)) l.2))

  -- with its words the other way round, where they stand so
  turned_at : (s : State) (xs : List ℕ) (pc p : ℕ) (o : TwoOf) (u : Option TwoOf) (t q r : Where) → TurnsTo o u → Good F t → Good F q → Good F r → Held C a s → s.counter ≡ pc → Here pc (turned_or_apart F o u t q r) p →
      Follows C 4 s xs p a (computed F t (two_of o (word_of F q a) (word_of F r a)) xs a)
  turned_at s xs pc p o None t q r same gt gq gr h e k = apart_at s xs pc p o t q r gt gq gr h e k
  turned_at s xs pc p o (Some u) t q r same gt gq gr h e k = go (is_turned t q r) refl k
    where
      go : (b : Bool) → is_turned t q r ≡ b → Here pc (cond b (in_place F u (aim t) r q) (apart F o t q r)) p → Follows C 4 s xs p a (computed F t (two_of o (word_of F q a) (word_of F r a)) xs a)
      go true is k =
          subst (λ z. Follows C 4 s xs p a (computed F t z xs a)) (same (word_of F q a) (word_of F r a))
          (in_place_at s xs pc p u t r q (turned_direct t q r is) gt gr gq h e k)
      go false is k = apart_at s xs pc p o t q r gt gq gr h e k

  computes_at : (s : State) (xs : List ℕ) (pc p : ℕ) (o : TwoOf) (t q r : Where) → Good F t → Good F q → Good F r → Held C a s → s.counter ≡ pc → Here pc (computes F o t q r) p → Follows C 4 s xs p a (computed F t (two_of o (word_of F q a) (word_of F r a)) xs a)
  computes_at s xs pc p o t q r gt gq gr h e k = go (is_direct t r) refl k
    where
      go : (b : Bool) → is_direct t r ≡ b → Here pc (cond b (in_place F o (aim t) q r) (turned_or_apart F o (turned o) t q r)) p → Follows C 4 s xs p a (computed F t (two_of o (word_of F q a) (word_of F r a)) xs a)
      go true is k = in_place_at s xs pc p o t q r is gt gq gr h e k
      go false is k = turned_at s xs pc p o (turned o) t q r (turns o) gt gq gr h e k

  load_effect : (s : State) (m r q v next : ℕ) → register_of s r ≡ q → word_at s q ≡ Some v → act (instr.Mov (RegAtReg m r)) next s ≡ EndsIn stepped.Went (took C next m v s)
  unfolding act
  load_effect s m r q v next is w = rw (is, w) refl

  load_fails : (s : State) (m r q next : ℕ) → register_of s r ≡ q → word_at s q ≡ None → act (instr.Mov (RegAtReg m r)) next s ≡ EndsIn (stepped.Fault 0) s
  unfolding act
  load_fails s m r q next is w = rw (is, w) refl

  load_at : (s : State) (xs : List ℕ) (pc p : ℕ) (t q : Where) → Good F t → Good F q → Held C a s → s.counter ≡ pc → Here pc (brings F q 9 ++ item.Op (instr.Mov (RegAtReg (aim t) (hand q 9))) ∷ lays F t) p →
      Follows C 3 s xs p a (loaded (readable C (word_of F q a)) F t (a.memory (word_of F q a)) xs a)
  load_at s xs pc p t q gt gq h e k = go (readable C (word_of F q a)) refl
    where
      go : (b : Bool) → readable C (word_of F q a) ≡ b → Follows C 3 s xs p a (loaded b F t (a.memory (word_of F q a)) xs a)
      go b ok =
          let m = aim t in
          let v = word_of F q a in
          let d = parts (brings F q 9) (item.Op (instr.Mov (RegAtReg m (hand q 9))) ∷ lays F t) pc p k in
          let i = brings_at C F address a s xs pc d.0 q 9 room gq (omega arith) (omega arith) h e d.1 in
          let l = d.2 in
          let eff = line_effect C a i.to d.0 (instr.Mov (RegAtReg m (hand q 9))) l.0 i.held i.at l.1 (aim_fits t, hand_fits q 9 (omega arith), omega arith) in
          later C i.steps 2 3 s i.to xs p a (loaded b F t (a.memory v) xs a) i.by (let n = i.few in omega (arith, n)) (last b ok i.to i.held i.is l.0 eff (line_turn C a i.to d.0 (instr.Mov (RegAtReg m (hand q 9))) l.0 i.held i.at l.1 (aim_fits t, hand_fits q 9 (omega arith), omega arith)) l.2)
        where
          last : (b : Bool) → readable C (word_of F q a) ≡ b → (u : State) → Held C a u → register_of u (hand q 9) ≡ word_of F q a → (next : ℕ) → effect_of u ≡ act (instr.Mov (RegAtReg (aim t) (hand q 9))) next u → turn u ≡ Other → Here next (lays F t) p → Follows C 2 u xs p a (loaded b F t (a.memory (word_of F q a)) xs a)
          last true ok u hu is next eff o l = laid u xs next p (a.memory (word_of F q a)) t gt hu (eff ∙ load_effect u (aim t) (hand q 9) (word_of F q a) (a.memory (word_of F q a)) next is (readable_word C a u (word_of F q a) hu ok)) o l
          last false not_so u hu is next eff o l =
              faults C a u xs 2 0 (omega arith) hu (eff ∙ load_fails u (aim t) (hand q 9) (word_of F q a) next is (unreadable_word C a u (word_of F q a) hu not_so))

  store_effect : (s : State) (r m q v next : ℕ) → register_of s r ≡ q → register_of s m ≡ v → is_writable_at s q ≡ true → act (instr.Mov (AtRegReg r m)) next s ≡ EndsIn stepped.Went (going_to next (stored s q v))
  unfolding act
  store_effect s r m q v next isr ism w = rw (ism, isr, w) refl

  store_fails : (s : State) (r m q next : ℕ) → register_of s r ≡ q → is_writable_at s q ≡ false → act (instr.Mov (AtRegReg r m)) next s ≡ EndsIn (stepped.Fault 1) s
  unfolding act
  store_fails s r m q next is w = rw (is, w) refl

  store_at : (s : State) (xs : List ℕ) (pc p : ℕ) (q r : Where) → Good F q → Good F r → Held C a s → s.counter ≡ pc → Here pc (brings F q 9 ++ (brings F r 10 ++ item.Op (instr.Mov (AtRegReg (hand q 9) (hand r 10))) ∷ [])) p →
      Follows C 3 s xs p a (saved (writable C (word_of F q a)) (word_of F q a) (word_of F r a) xs a)
  store_at s xs pc p q r gq gr h e k =
      let d = parts (brings F q 9) (brings F r 10 ++ item.Op (instr.Mov (AtRegReg (hand q 9) (hand r 10))) ∷ []) pc p k in
      let i = brings_at C F address a s xs pc d.0 q 9 room gq (omega arith) (omega arith) h e d.1 in
      let g = parts (brings F r 10) (item.Op (instr.Mov (AtRegReg (hand q 9) (hand r 10))) ∷ []) d.0 p d.2 in
      let j = brings_at C F address a i.to xs d.0 g.0 r 10 room gr (omega arith) (omega arith) i.held i.at g.1 in
      let l = g.2 in
      let eff = line_effect C a j.to g.0 (instr.Mov (AtRegReg (hand q 9) (hand r 10))) l.0 j.held j.at l.1 (hand_fits q 9 (omega arith), hand_fits r 10 (omega arith), omega arith) in
      let first : register_of j.to (hand q 9) ≡ word_of F q a = j.others (hand q 9) (hand_other F q 9 10 gq (omega arith) (omega arith)) ∙ i.is in
      later C i.steps 2 3 s i.to xs p a (saved (writable C (word_of F q a)) (word_of F q a) (word_of F r a) xs a) i.by (let n = i.few in omega (arith, n))
      (later C j.steps 1 2 i.to j.to xs p a (saved (writable C (word_of F q a)) (word_of F q a) (word_of F r a) xs a) j.by (let n = j.few in omega (arith, n)) (last (writable C (word_of F q a)) refl j.to j.held first j.is l.0 eff (line_turn C a j.to g.0 (instr.Mov (AtRegReg (hand q 9) (hand r 10))) l.0 j.held j.at l.1 (hand_fits q 9 (omega arith), hand_fits r 10 (omega arith), omega arith)) l.2))
    where
      last : (b : Bool) → writable C (word_of F q a) ≡ b → (u : State) → Held C a u → register_of u (hand q 9) ≡ word_of F q a → register_of u (hand r 10) ≡ word_of F r a → (next : ℕ) → effect_of u ≡ act (instr.Mov (AtRegReg (hand q 9) (hand r 10))) next u → turn u ≡ Other → next ≡ p →
          Follows C 1 u xs p a (saved b (word_of F q a) (word_of F r a) xs a)
      last true ok u hu isq isr next eff o z =
          let v = word_of F q a in
          let w = word_of F r a in
          let e = eff ∙ store_effect u (hand q 9) (hand r 10) v w next isq isr (writes_at C a u v hu ∙ ok) in
          record { steps = 1; to = going_to next (stored u v w); by = reaches_went u (going_to next (stored u v w)) xs e o; at = z; held = stores C a u next v w ok hu; few = omega arith }
      last false not_so u hu isq isr next eff o z = faults C a u xs 1 1 (omega arith) hu (eff ∙ store_fails u (hand q 9) (hand r 10) (word_of F q a) next isq (writes_at C a u (word_of F q a) hu ∙ not_so))

  asked_effect : (s : State) (m port next : ℕ) → is_readable port ≡ true → act (instr.In m port) next s ≡ Asks m port next s
  unfolding act
  asked_effect s m port next ok = rw ok refl

  told_effect : (s : State) (r port v next : ℕ) → is_writable port ≡ true → register_of s r ≡ v → act (instr.Out port (src.Reg r)) next s ≡ Tells port v next s
  unfolding act
  told_effect s r port v next ok is = rw (ok, is) refl

  port_number : (p : ℕ) → p < 16384 → emitted.port p ≡ p
  port_number p lt = omega arith

  in_line : (m pc next port : ℕ) → port < 16384 → Line C.words pc (instr.In m (emitted.port port)) next → Line C.words pc (instr.In m port) next
  in_line m pc next port lt l = subst (λ n. Line C.words pc (instr.In m n) next) (port_number port lt) l

  out_line : (r pc next port : ℕ) → port < 16384 → Line C.words pc (instr.Out (emitted.port port) (src.Reg r)) next → Line C.words pc (instr.Out port (src.Reg r)) next
  out_line r pc next port lt l = subst (λ n. Line C.words pc (instr.Out n (src.Reg r)) next) (port_number port lt) l

  in_at : (s : State) (xs : List ℕ) (pc p : ℕ) (t : Where) (port : ℕ) → Good F t → port < 16384 → is_readable port ≡ true → Held C a s → s.counter ≡ pc → Here pc (item.Op (instr.In (aim t) (emitted.port port)) ∷ lays F t) p →
      Follows C 2 s xs p a (asked F t port xs a)
  in_at s [] pc p t port gt lt ok h e k =
      let eff = line_effect C a s pc (instr.In (aim t) port) k.0 h e (in_line (aim t) pc k.0 port lt k.1) (aim_fits t, omega arith, lt) ∙ asked_effect s (aim t) port k.0 ok in
      record { steps = 1; to = s; by = λ n. one_then n s [] (ended machine.Starved s) (run-starved n s s (aim t) port k.0 eff); nested = λ ls. nested_starved 0 ls s s (aim t) port k.0 eff; shown = s; held = h; memory = λ q. refl; few = omega arith }
  in_at s (x ∷ xs) pc p t port gt lt ok h e k =
      let m = aim t in
      let low = aim_low F t gt in
      let eff = line_effect C a s pc (instr.In m port) k.0 h e (in_line m pc k.0 port lt k.1) (aim_fits t, omega arith, lt) ∙ asked_effect s m port k.0 ok in
      let u = took C k.0 m x s in
      let r = lays_from C F address a a u xs k.0 p x t room gt (like_self m a) (kept C a s k.0 m x (omega (arith, low)) h) (reg_same C s m x (let n = h.sixteen in omega (arith, n, low))) refl k.2 in
      record {
        steps = 1 + r.steps;
        to = r.to;
        by = reaches_on 1 r.steps s u r.to (x ∷ xs) xs xs (event.In port x ∷ []) [] (reaches_asked s s m port k.0 x xs eff (line_turn C a s pc (instr.In m port) k.0 h e (in_line m pc k.0 port lt k.1) (aim_fits t, omega arith, lt))) r.by;
        at = r.at;
        held = r.held;
        few = let f = r.few in omega (arith, f);
      }

  out_at : (s : State) (xs : List ℕ) (pc p : ℕ) (q : Where) (port : ℕ) → Good F q → port < 16384 → is_writable port ≡ true → Held C a s → s.counter ≡ pc → Here pc (brings F q 9 ++ item.Op (instr.Out (emitted.port port) (src.Reg (hand q 9))) ∷ []) p →
      Arrives C 2 s xs p (event.Out port (word_of F q a) ∷ []) xs a
  out_at s xs pc p q port gq lt ok h e k =
      let v = word_of F q a in
      let d = parts (brings F q 9) (item.Op (instr.Out (emitted.port port) (src.Reg (hand q 9))) ∷ []) pc p k in
      let i = brings_at C F address a s xs pc d.0 q 9 room gq (omega arith) (omega arith) h e d.1 in
      let l = d.2 in
      let eff = line_effect C a i.to d.0 (instr.Out port (src.Reg (hand q 9))) l.0 i.held i.at (out_line (hand q 9) d.0 l.0 port lt l.1) (hand_fits q 9 (omega arith), omega arith, lt) ∙ told_effect i.to (hand q 9) port v l.0 ok i.is in
      record {
        steps = i.steps + 1;
        to = going_to l.0 i.to;
        by = reaches_on i.steps 1 s i.to (going_to l.0 i.to) xs xs xs [] (event.Out port v ∷ []) i.by (reaches_told i.to i.to port v l.0 xs eff (line_turn C a i.to d.0 (instr.Out port (src.Reg (hand q 9))) l.0 i.held i.at (out_line (hand q 9) d.0 l.0 port lt l.1) (hand_fits q 9 (omega arith), omega arith, lt)));
        at = l.2;
        held = moved C a i.to l.0 i.held;
        few = let n = i.few in omega (arith, n);
      }

  local_is : (s : State) (k : ℕ) → get_or F.locals k 0 < F.size → Held C a s → add (register_of s 15) (local_word F k) ≡ local_address F k a
  local_is s k good h = omega (arith, room.low, room.high, room.top, h.top)

  pub local_effect : (s : State) (m k next : ℕ) → get_or F.locals k 0 < F.size → Held C a s → act (with (instr.Lea m 15 (Some (Left (local_word F k))))) next s ≡ EndsIn stepped.Went (took C next m (local_address F k a) s)
  unfolding act
  local_effect s m k next good h = ap (λ v. EndsIn stepped.Went (took C next m v s)) (local_is s k good h)

  wait_effect : (s : State) (next : ℕ) → act (instr.Plain WAIT) next s ≡ EndsIn stepped.Waited (going_to next s)
  unfolding act
  wait_effect s next = refl

  halt_effect : (s : State) (next : ℕ) → act (instr.Plain HLT) next s ≡ EndsIn stepped.Halted s
  unfolding act
  halt_effect s next = refl

  few_more : (n m : ℕ) (s : State) (xs : List ℕ) (pc : ℕ) (d : Does) → n ≤ m → Follows C n s xs pc a d → Follows C m s xs pc a d
  few_more n m s xs pc (Goes es ys b) le f = record { steps = f.steps; to = f.to; by = f.by; at = f.at; held = f.held; few = omega (arith, f.few) }
  few_more n m s xs pc (Ends how) le f = record { steps = f.steps; to = f.to; by = f.by; nested = f.nested; shown = f.shown; held = f.held; memory = f.memory; few = omega (arith, f.few) }

  nothing_at : (s : State) (xs : List ℕ) (pc p : ℕ) → Held C a s → s.counter ≡ pc → pc ≡ p → Arrives C 0 s xs p [] xs a
  nothing_at s xs pc p h e k = record { steps = 0; to = s; by = reaches_here s xs; at = e ∙ k; held = h; few = omega arith }

  -- where the items of an operation stand, the machine does what the operation does, in at most as many steps as it weighs
  pub op_follows : (o : OpT Where) (s : State) (xs : List ℕ) (pc p : ℕ) → GoodOp F o → Held C a s → s.counter ≡ pc → Here pc (op_items W F o) p → Follows C (op_weight o) s xs p a (does C address W F o xs a)
  unfolding op_items does
  op_follows (ConstO t n) s xs pc p good h e k = few_more 2 8 s xs p (Goes [] xs (put F t n a)) (omega arith) (sets_at s xs pc p t (Left n) good h e k)
  op_follows (NullO t) s xs pc p good h e k = few_more 2 8 s xs p (Goes [] xs (put F t 0xFFFFFFFF a)) (omega arith) (sets_at s xs pc p t (Left 0xFFFFFFFF) good h e k)
  op_follows (MoveO t q) s xs pc p good h e k = few_more 2 8 s xs p (Goes [] xs (put F t (word_of F q a) a)) (omega arith) (moves_at s xs pc p t q good.0 good.1 h e k)
  op_follows (OneO o t q) s xs pc p good h e k = few_more 3 8 s xs p (computed F t (one_of o (word_of F q a)) xs a) (omega arith) (changes_at s xs pc p o t q good.0 good.1 good.2 h e k)
  op_follows (TwoO o t q r) s xs pc p good h e k = few_more 4 8 s xs p (computed F t (two_of o (word_of F q a) (word_of F r a)) xs a) (omega arith) (computes_at s xs pc p o t q r good.0 good.1 good.2 h e k)
  op_follows (GlobalO t j) s xs pc p good h e k = few_more 2 8 s xs p (Goes [] xs (put F t (get_or W.globals j 0) a)) (omega arith) (sets_at s xs pc p t (Left (get_or W.globals j 0)) good h e k)
  op_follows (LocalO t j) s xs pc p good h e k =
      let v = local_address F j a in
      let eff = line_effect C a s pc (with (instr.Lea (aim t) 15 (Some (Left (local_word F j))))) k.0 h e k.1 (aim_fits t, omega arith, omega arith) ∙ local_effect s (aim t) j k.0 good.1 h in
      few_more 2 8 s xs p (Goes [] xs (put F t v a)) (omega arith) (laid s xs k.0 p v t good.0 h eff (line_turn C a s pc (with (instr.Lea (aim t) 15 (Some (Left (local_word F j))))) k.0 h e k.1 (aim_fits t, omega arith, omega arith)) k.2)
  op_follows (LiteralO t j) s xs pc p good h e k = few_more 2 8 s xs p (Goes [] xs (put F t (address (literal_label j)) a)) (omega arith) (sets_at s xs pc p t (Right (literal_label j)) good h e k)
  op_follows (CardO t) s xs pc p good h e k = few_more 2 8 s xs p (Goes [] xs (put F t 0x30000000 a)) (omega arith) (sets_at s xs pc p t (Left 0x30000000) good h e k)
  op_follows (StepO t q r) s xs pc p good h e k = few_more 4 8 s xs p (computed F t (two_of IADD (word_of F q a) (word_of F r a)) xs a) (omega arith) (computes_at s xs pc p IADD t q r good.0 good.1 good.2 h e k)
  op_follows (ApartO t q r) s xs pc p good h e k = few_more 4 8 s xs p (computed F t (two_of ISUB (word_of F q a) (word_of F r a)) xs a) (omega arith) (computes_at s xs pc p ISUB t q r good.0 good.1 good.2 h e k)
  op_follows (PtrTestO o t q r) s xs pc p good h e k = few_more 4 8 s xs p (computed F t (two_of o (word_of F q a) (word_of F r a)) xs a) (omega arith) (computes_at s xs pc p o t q r good.0 good.1 good.2 h e k)
  op_follows (LoadO t q) s xs pc p good h e k = few_more 3 8 s xs p (loaded (readable C (word_of F q a)) F t (a.memory (word_of F q a)) xs a) (omega arith) (load_at s xs pc p t q good.0 good.1 h e k)
  op_follows (StoreO q r) s xs pc p good h e k = few_more 3 8 s xs p (saved (writable C (word_of F q a)) (word_of F q a) (word_of F r a) xs a) (omega arith) (store_at s xs pc p q r good.0 good.1 h e k)
  op_follows (FreshO j) s xs pc p good h e k = nothing_at s xs pc p h e k
  op_follows (EndO j) s xs pc p good h e k = nothing_at s xs pc p h e k
  op_follows (InO t port) s xs pc p good h e k = few_more 2 8 s xs p (asked F t port xs a) (omega arith) (in_at s xs pc p t port good.0 good.1 good.2 h e k)
  op_follows (OutO port q) s xs pc p good h e k = few_more 2 8 s xs p (Goes (event.Out port (word_of F q a) ∷ []) xs a) (omega arith) (out_at s xs pc p q port good.0 good.1 good.2 h e k)
  op_follows WaitO s xs pc p good h e k =
      let eff = line_effect C a s pc (instr.Plain WAIT) k.0 h e k.1 (omega arith, omega arith, omega arith) ∙ wait_effect s k.0 in
      record { steps = 1; to = going_to k.0 s; by = reaches_waited s (going_to k.0 s) xs eff (line_turn C a s pc (instr.Plain WAIT) k.0 h e k.1 (omega arith, omega arith, omega arith)); at = k.2; held = moved C a s k.0 h; few = omega arith }
  op_follows HaltO s xs pc p good h e k =
      let eff = line_effect C a s pc (instr.Plain HLT) k.0 h e k.1 (omega arith, omega arith, omega arith) ∙ halt_effect s k.0 in
      record { steps = 1; to = s; by = λ n. one_then n s xs (ended machine.Halted s) (run-halted n s s xs eff); nested = λ ls. nested_stopped 0 ls s s xs stepped.Halted eff refl; shown = s; held = h; memory = λ q. refl; few = omega arith }
