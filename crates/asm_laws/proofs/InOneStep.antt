-- Operations that are done in one go are followed by the machine, in one step, or in two.
use Rattle.std.proofs.Common.{◌≡◌, ◌≢◌, ℕ, ◌<◌, ◌≤◌, ◌==◌, inl, inr, Bool, true, false, cond, List, [], ◌∷◌, Option, Some, None, refl, sym, ap, ◌∙◌, subst, arith}
use Rattle.std.specs.Prelude.{◌&&◌, not, option_map}
use Rattle.std.proofs.lemmas.Bool.{eqb-true, eqb-false}
use Rattle.either.specs.declared.Either.TheVariants.{Left}
use Rattle.kit_base.specs.Word.{add, sub}
use Rattle.v32_isa.specs.declared.instruction.Two.{Two as TwoOf}
use Rattle.v32_isa.specs.declared.instruction.Two.TheVariants.{IADD, ISUB}
use Rattle.v32_isa.specs.declared.instruction.Src.TheVariants as src
use Rattle.v32_isa.specs.declared.instruction.Mov.TheVariants.{RegAtOff}
use Rattle.v32_isa.specs.Arithmetic.{two_of}
use Rattle.v32_isa.specs.declared.instruction.Instr.TheVariants as instr
use Rattle.v32_isa.specs.declared.stepped.Stepped.TheVariants as stepped
use Rattle.v32_isa.specs.State.{State, register_of, written, word_at}
use Rattle.v32_isa.specs.Machine.{act, effect_of, taking}
use Rattle.v32_isa.specs.Machine.Effect.{Ends as EndsIn}
use Rattle.v32_isa.specs.Calls.{turn}
use Rattle.v32_isa.specs.Calls.Turn.{Other}
use Rattle.v32_isa.proofs.Steps.{Reaches, reaches_went}
use Rattle.asm_items.specs.Items.{instr_with}
use Rattle.asm_items.specs.Words.{imm_word}
use Rattle.asm_items.specs.declared.item.AsmItem.{AsmItem}
use Rattle.asm_items.specs.declared.item.AsmItem.TheVariants as item
use Rattle.mid_code.specs.declared.placed.Where.{Where}
use Rattle.mid_code.specs.declared.placed.Where.TheVariants.{Reg, Slot}
use Rattle.mid_code.specs.Code.{OpT, TwoO, StepO, LoadO}
use Rattle.mid_code.specs.States.{op_weight}
use Rattle.asm_laws.specs.Operations.{Frame, Whole, fetch, fetches, first_word, summed, first_place, unturned}
use Rattle.asm_laws.specs.Pieces.{register, is_in, other_word}
use Rattle.asm_laws.specs.Placing.{Line}
use Rattle.asm_laws.specs.Standing.{Stand}
use Rattle.asm_laws.specs.Addresses.{Addr, Console, readable, word_of, put, Room, Good, GoodOp, Goes, computed, loaded, does, Held, Follows}
use Rattle.asm_laws.proofs.Stepping.{same_or_not, written_same, written_other, readable_word, unreadable_word, line_effect, line_turn, took, kept, reg_number, fetches_so}
use Rattle.asm_laws.proofs.Hands.{with_reg, held_alike}
use Rattle.asm_laws.proofs.OperationsStep.{later, faults_like, sum_turned}

pub both : (x y : Bool) → x && y ≡ true → (x ≡ true) × (y ≡ true)
both true true e = (refl, refl)
both true false e = absurd cc
both false y e = absurd cc

first_of : Option (ℕ × ℕ) → ℕ
first_of None = 0
first_of (Some x) = x.0

second_of : Option (ℕ × ℕ) → ℕ
second_of None = 0
second_of (Some x) = x.1

abbrev pair : ℕ → ℕ → ℕ × ℕ
pair a b = (a, b)

same_pair : (a b c d : ℕ) → Some (pair a b) ≡ Some (pair c d) → (a ≡ c) × (b ≡ d)
unfolding first_of second_of
same_pair a b c d e = (ap first_of e, ap second_of e)

-- a register that is written twice
pub twice : (f : ℕ → ℕ) (k x y z : ℕ) → written f k x z ≡ written (written f k y) k x z
twice f k x y z = elim (same_or_not z k) [
  | inl p ↦ written_same f k x z p.0 ∙ sym (written_same (written f k y) k x z p.0)
  | inr p ↦ written_other f k x z p.0 ∙ sym (written_other (written f k y) k x z p.0 ∙ written_other f k y z p.0)
]

nothing : (j : Option TwoOf) (p : Where) → unturned j None ≡ Some p → ⊥
nothing None p e = absurd cc
nothing (Some u) p e = absurd cc

something : (j : Option TwoOf) (x p : Where) → unturned j (Some x) ≡ Some p → p ≡ x
something None x p e = cc
something (Some u) (Reg q) p e = absurd cc
something (Some u) (Slot k) p e = cc

-- a register that is written three times
thrice : (k x y z : ℕ) (a : Addr) → with_reg k x (with_reg k y (with_reg k z a)) ≡ with_reg k x (with_reg k y a)
thrice k x y z a = λ i. record a { regs = λ q. written_thrice i q }
  where
    written_thrice : written (written (written a.regs k z) k y) k x ≡ written (written a.regs k y) k x
    written_thrice = λ i q. (sym (twice (written a.regs k z) k x y q) ∙ sym (twice a.regs k x z q) ∙ twice a.regs k x y q) i

pub less_is : (x w : ℕ) → sub x w ≡ add x (sub 0 w)
less_is x w = omega arith

module _ (C : Console) (address : List ℕ → ℕ) (W : Whole) (F : Frame) (a : Addr) where
  abbrev Here : ℕ → List AsmItem → ℕ → Type 0
  Here = Stand C.words address

  again : (k x y : ℕ) (b : Addr) (u : State) → Held C (with_reg k x b) u → Held C (with_reg k x (with_reg k y b)) u
  again k x y b u h = held_alike C (with_reg k x b) (with_reg k x (with_reg k y b)) u (λ z lt. twice b.regs k x y z) (λ z. refl) refl refl h

  same_register : (j k : ℕ) → j < 9 → k < 9 → (register j == register k) ≡ true → j ≡ k
  same_register j k lj lk e = sym (reg_number C F address j lj) ∙ eqb-true (register j) (register k) e ∙ reg_number C F address k lk

  other_register : (j k : ℕ) → (register j == register k) ≡ false → j ≢ k
  other_register j k e z = eqb-false (register j) (register k) e (ap register z)

  -- the words behind an operation that puts a word into a register, and behind one that puts there the sum with another register's
  abbrev pub Put : ℕ → ℕ → Addr
  Put k w = with_reg k w a

  abbrev pub Sum : ℕ → ℕ → ℕ → ℕ → Addr
  Sum k w q v = with_reg k (add (a.regs q) v) (with_reg k w a)

  -- ---- what an operation makes of the word put before

  sum_at : (k w t x y q v : ℕ) → t ≡ k → add x y ≡ add (a.regs q) v → with_reg t (add x y) (Put k w) ≡ Sum k w q v
  sum_at k w t x y q v e is = ap (λ z. with_reg z (add x y) (Put k w)) e ∙ ap (λ z. with_reg k z (Put k w)) is

  added : (k w : ℕ) (t x y : Where) (q v : ℕ) → k < 9 → Good F t → Good F x → Good F y → option_map (λ r. pair r w) (other_word (register k) t x y) ≡ Some (pair q v) →
      (q < 9) × (put F t (add (word_of F x (Put k w)) (word_of F y (Put k w))) (Put k w) ≡ Sum k w q v)
  added k w (Slot t) x y q v lt gt gx gy e = absurd cc
  added k w (Reg t) (Slot x) y q v lt gt gx gy e = absurd cc
  added k w (Reg t) (Reg x) (Slot y) q v lt gt gx gy e = absurd cc
  added k w (Reg t) (Reg x) (Reg y) q v lt gt gx gy e = go (register t == register k) refl (register x == register k) refl (register y == register k) refl e
    where
      go : (bt : Bool) → (register t == register k) ≡ bt → (bx : Bool) → (register x == register k) ≡ bx → (by : Bool) → (register y == register k) ≡ by →
          option_map (λ r. pair r w) (cond bt (cond bx (cond by None (Some (register y))) (cond by (Some (register x)) None)) None) ≡ Some (pair q v) →
          (q < 9) × (with_reg t (add (written a.regs k w x) (written a.regs k w y)) (Put k w) ≡ Sum k w q v)
      go false et bx ex by ey e = absurd cc
      go true et true ex true ey e = absurd cc
      go true et false ex false ey e = absurd cc
      go true et true ex false ey e =
          let p = same_pair (register y) w q v e in
          let n : y ≡ q = sym (reg_number C F address y gy) ∙ p.0 in
          let is : add (written a.regs k w x) (written a.regs k w y) ≡ add (a.regs q) v =
          ap (λ z. add z (written a.regs k w y)) (written_same a.regs k w x (same_register x k gx lt ex)) ∙ ap (λ z. add w z) (written_other a.regs k w y (other_register y k ey)) ∙ sum_turned (a.regs y) w ∙ ap (λ z. add (a.regs z) w) n ∙ ap (λ z. add (a.regs q) z) p.1 in
          (omega (arith, gy, n), sum_at k w t (written a.regs k w x) (written a.regs k w y) q v (same_register t k gt lt et) is)
      go true et false ex true ey e =
          let p = same_pair (register x) w q v e in
          let n : x ≡ q = sym (reg_number C F address x gx) ∙ p.0 in
          let is : add (written a.regs k w x) (written a.regs k w y) ≡ add (a.regs q) v =
          ap (λ z. add z (written a.regs k w y)) (written_other a.regs k w x (other_register x k ex)) ∙ ap (λ z. add (a.regs x) z) (written_same a.regs k w y (same_register y k gy lt ey)) ∙ ap (λ z. add (a.regs z) w) n ∙ ap (λ z. add (a.regs q) z) p.1 in
          (omega (arith, gx, n), sum_at k w t (written a.regs k w x) (written a.regs k w y) q v (same_register t k gt lt et) is)

  taken : (k w : ℕ) (t x y : Where) (q v : ℕ) → k < 9 → Good F t → Good F x → Good F y → option_map (λ r. pair r (sub 0 w)) (first_word (register k) t x y) ≡ Some (pair q v) →
      (q < 9) × (put F t (sub (word_of F x (Put k w)) (word_of F y (Put k w))) (Put k w) ≡ Sum k w q v)
  taken k w (Slot t) x y q v lt gt gx gy e = absurd cc
  taken k w (Reg t) (Slot x) y q v lt gt gx gy e = absurd cc
  taken k w (Reg t) (Reg x) (Slot y) q v lt gt gx gy e = absurd cc
  taken k w (Reg t) (Reg x) (Reg y) q v lt gt gx gy e = go (register t == register k) refl (register y == register k) refl (register x == register k) refl e
    where
      go : (bt : Bool) → (register t == register k) ≡ bt → (by : Bool) → (register y == register k) ≡ by → (bx : Bool) → (register x == register k) ≡ bx →
          option_map (λ r. pair r (sub 0 w)) (cond bt (cond by (cond bx None (Some (register x))) None) None) ≡ Some (pair q v) →
          (q < 9) × (with_reg t (sub (written a.regs k w x) (written a.regs k w y)) (Put k w) ≡ Sum k w q v)
      go false et by ey bx ex e = absurd cc
      go true et false ey bx ex e = absurd cc
      go true et true ey true ex e = absurd cc
      go true et true ey false ex e =
          let p = same_pair (register x) (sub 0 w) q v e in
          let n : x ≡ q = sym (reg_number C F address x gx) ∙ p.0 in
          let is : sub (written a.regs k w x) (written a.regs k w y) ≡ add (a.regs q) v =
          ap (λ z. sub z (written a.regs k w y)) (written_other a.regs k w x (other_register x k ex)) ∙ ap (λ z. sub (a.regs x) z) (written_same a.regs k w y (same_register y k gy lt ey)) ∙ less_is (a.regs x) w ∙ ap (λ z. add (a.regs z) (sub 0 w)) n ∙ ap (λ z. add (a.regs q) z) p.1 in
          (omega (arith, gx, n), ap (λ z. with_reg z (sub (written a.regs k w x) (written a.regs k w y)) (Put k w)) (same_register t k gt lt et) ∙ ap (λ z. with_reg k z (Put k w)) is)

  -- the other register, what the operation weighs, and what it does
  pub record Sums (k w : ℕ) (p : OpT Where) (q v : ℕ) : Type 0 where
    pub low : q < 9
    pub weight : op_weight p ≡ 8
    pub so : (xs : List ℕ) → does C address W F p xs (Put k w) ≡ Goes [] xs (Sum k w q v)

  pub sums : (k w : ℕ) (p : OpT Where) (q v : ℕ) → k < 9 → GoodOp F p → summed (register k) w p ≡ Some (q, v) → Sums k w p q v
  unfolding does
  sums k w (TwoO IADD t x y) q v lt g e = let r = added k w t x y q v lt g.0 g.1 g.2 e in record { low = r.0; weight = refl; so = λ xs. ap (λ z. Goes [] xs z) r.1 }
  sums k w (TwoO ISUB t x y) q v lt g e = let r = taken k w t x y q v lt g.0 g.1 g.2 e in record { low = r.0; weight = refl; so = λ xs. ap (λ z. Goes [] xs z) r.1 }
  sums k w (StepO t x y) q v lt g e = let r = added k w t x y q v lt g.0 g.1 g.2 e in record { low = r.0; weight = refl; so = λ xs. ap (λ z. Goes [] xs z) r.1 }
  sums k w _ q v lt g e = absurd cc

  -- ---- what the machine does

  lea_effect : (s : State) (k q v next : ℕ) → k < 9 → q < 9 → Held C a s → act (instr.Lea (register k) q (Some v)) next s ≡ EndsIn stepped.Went (took C next k (add (a.regs q) v) s)
  unfolding act
  lea_effect s k q v next lk lq h = ap (λ z. EndsIn stepped.Went (took C next z (add (register_of s q) v) s)) (reg_number C F address k lk) ∙ ap (λ z. EndsIn stepped.Went (took C next k (add z v) s)) (h.regs q lq)

  -- a word that is put and a sum
  pub lea_follows : (k w : ℕ) (o : OpT Where) (q v : ℕ) (s : State) (xs : List ℕ) (pc p : ℕ) → k < 9 → Sums k w o q v → Held C a s → s.counter ≡ pc → Here pc (item.Op (instr.Lea (register k) q (Some (Left v))) ∷ []) p → Follows C (op_weight o) s xs p (Put k w) (does C address W F o xs (Put k w))
  lea_follows k w o q v s xs pc p lt is h e l =
      let x = add (a.regs q) v in
      let low = is.low in
      let heavy = is.weight in
      let eff = line_effect C a s pc (instr.Lea (register k) q (Some v)) l.0 h e l.1 (omega arith, omega (arith, low), omega arith) ∙ lea_effect s k q v l.0 lt low h in
      subst (λ d. Follows C (op_weight o) s xs p (Put k w) d) (sym (is.so xs)) (record {
        steps = 1;
        to = took C l.0 k x s;
        by = reaches_went s (took C l.0 k x s) xs eff (line_turn C a s pc (instr.Lea (register k) q (Some v)) l.0 h e l.1 (omega arith, omega (arith, low), omega arith));
        at = l.2;
        held = again k x w a (took C l.0 k x s) (kept C a s l.0 k x (omega (arith, lt)) h);
        few = omega (arith, heavy);
      })

  load_goes : (s : State) (k q v x y next : ℕ) → k < 9 → q < 9 → Held C a s → add (a.regs q) v ≡ x → word_at s x ≡ Some y → act (instr.Mov (RegAtOff (register k) q v)) next s ≡ EndsIn stepped.Went (took C next k y s)
  unfolding act
  load_goes s k q v x y next lk lq h e w = rw (h.regs q lq, e, w, reg_number C F address k lk) refl

  load_fails : (s : State) (k q v x next : ℕ) → q < 9 → Held C a s → add (a.regs q) v ≡ x → word_at s x ≡ None → act (instr.Mov (RegAtOff (register k) q v)) next s ≡ EndsIn (stepped.Fault 0) s
  unfolding act
  load_fails s k q v x next lq h e w = rw (h.regs q lq, e, w) refl

  load_is : (t x k v : ℕ) (xs : List ℕ) (b : Addr) → t ≡ k → x ≡ k → does C address W F (LoadO (Reg t) (Reg x)) xs (with_reg k v b) ≡ loaded (readable C v) F (Reg k) (b.memory v) xs (with_reg k v b)
  unfolding does
  load_is t x k v xs b et ex =
      ap (λ z. loaded (readable C z) F (Reg t) (b.memory z) xs (with_reg k v b)) (written_same b.regs k v x ex) ∙ ap (λ z. loaded (readable C v) F (Reg z) (b.memory v) xs (with_reg k v b)) et

  -- and a load from there
  pub load_follows : (n k w t x q v : ℕ) (s : State) (xs : List ℕ) (pc p : ℕ) → 1 ≤ n → k < 9 → q < 9 → t < 9 → x < 9 → (register t == register k) && (register x == register k) ≡ true → Held C a s → s.counter ≡ pc → Here pc (item.Op (instr.Mov (RegAtOff (register k) q (Left v))) ∷ []) p →
      Follows C n s xs p (Sum k w q v) (does C address W F (LoadO (Reg t) (Reg x)) xs (Sum k w q v))
  load_follows n k w t x q v s xs pc p le lk lq lt lx there h e l =
      let bs = both (register t == register k) (register x == register k) there in
      let u = add (a.regs q) v in
      let eff = line_effect C a s pc (instr.Mov (RegAtOff (register k) q v)) l.0 h e l.1 (omega arith, omega (arith, lq), omega arith) in
      subst (λ d. Follows C n s xs p (Sum k w q v) d) (sym (load_is t x k u xs (Put k w) (same_register t k lt lk bs.0) (same_register x k lx lk bs.1))) (go (readable C u) refl eff)
    where
      go : (b : Bool) → readable C (add (a.regs q) v) ≡ b → effect_of s ≡ act (instr.Mov (RegAtOff (register k) q v)) l.0 s → Follows C n s xs p (Sum k w q v) (loaded b F (Reg k) (a.memory (add (a.regs q) v)) xs (Sum k w q v))
      go true ok eff =
          let u = add (a.regs q) v in
          let y = a.memory u in
          record {
            steps = 1;
            to = took C l.0 k y s;
            by = reaches_went s (took C l.0 k y s) xs (eff ∙ load_goes s k q v u y l.0 lk lq h refl (readable_word C a s u h ok)) (line_turn C a s pc (instr.Mov (RegAtOff (register k) q v)) l.0 h e l.1 (omega arith, omega (arith, lq), omega arith));
            at = l.2;
            held = again k y u (Put k w) (took C l.0 k y s) (again k y w a (took C l.0 k y s) (kept C a s l.0 k y (omega (arith, lk)) h));
            few = le;
          }
      go false not_so eff =
          let u = add (a.regs q) v in
          let t1 = took C l.0 k u s in
          faults_like C (Sum k w q v) a s t1 xs n 0 le h (again k u w a t1 (kept C a s l.0 k u (omega (arith, lk)) h)) (λ z. refl) (eff ∙ load_fails s k q v u l.0 lq h refl (unreadable_word C a s u h not_so))

  -- ---- a first word that is copied, and the one put before as a number

  -- The target and the second word stand in register k, and the first one elsewhere, at a place.
  pub record Copies (k w : ℕ) (t x y p : Where) : Type 0 where
    pub there : t ≡ Reg k
    pub place : p ≡ x
    pub first : word_of F x (Put k w) ≡ word_of F p a
    pub second : word_of F y (Put k w) ≡ w

  in_it : (t : Where) (k : ℕ) → k < 9 → Good F t → is_in t (register k) ≡ true → t ≡ Reg k
  in_it (Reg j) k lt g e = ap Reg (same_register j k g lt e)
  in_it (Slot j) k lt g e = absurd cc

  not_in_it : (x : Where) (k w : ℕ) → is_in x (register k) ≡ false → word_of F x (Put k w) ≡ word_of F x a
  not_in_it (Reg q) k w e = written_other a.regs k w q (other_register q k e)
  not_in_it (Slot j) k w e = refl

  pub copies : (k w : ℕ) (j : Option TwoOf) (t x y p : Where) → k < 9 → Good F t → Good F x → Good F y → unturned j (first_place (register k) t x y) ≡ Some p → Copies k w t x y p
  copies k w j t x y p lt gt gx gy e = go (is_in t (register k)) refl (is_in y (register k)) refl (is_in x (register k)) refl e
    where
      go : (bt : Bool) → is_in t (register k) ≡ bt → (by : Bool) → is_in y (register k) ≡ by → (bx : Bool) → is_in x (register k) ≡ bx → unturned j (cond (bt && (by && not bx)) (Some x) None) ≡ Some p → Copies k w t x y p
      go false et by ey bx ex e = absurd (nothing j p e)
      go true et false ey bx ex e = absurd (nothing j p e)
      go true et true ey true ex e = absurd (nothing j p e)
      go true et true ey false ex e =
          let is = something j x p e in
          record {
            there = in_it t k lt gt et;
            place = is;
            first = not_in_it x k w ex ∙ ap (λ z. word_of F z a) (sym is);
            second = ap (λ z. word_of F z (Put k w)) (in_it y k lt gy ey) ∙ written_same a.regs k w k refl;
          }

  pub number_effect : (o : TwoOf) (s : State) (k v w next : ℕ) → k < 9 → register_of s k ≡ v → act (instr.Two o (register k) (src.Imm w)) next s ≡ taking k (two_of o v w) next s
  unfolding act
  number_effect o s k v w next lk is = ap (λ z. taking z (two_of o (register_of s z) w) next s) (reg_number C F address k lk) ∙ ap (λ z. taking k (two_of o z w) next s) is

  -- the copy
  fetched : (k : ℕ) (p : Where) (s : State) (xs : List ℕ) (pc next : ℕ) → k < 9 → Room F a → Good F p → Held C a s → s.counter ≡ pc → Line C.words pc (instr_with (imm_word address) (fetch F p (register k))) next →
      Reaches 1 s xs [] (took C next k (word_of F p a) s) xs
  fetched k p s xs pc next lk room gp h e l = subst (λ z. Reaches 1 s xs [] (took C next z (word_of F p a) s) xs) (reg_number C F address k lk) (fetches_so C F address a s xs pc p (register k) next room gp (omega arith) h e l)

  pub copy_follows : (k w : ℕ) (o : TwoOf) (t x y q : Where) (s : State) (xs : List ℕ) (pc p : ℕ) → k < 9 → Room F a → Good F q → Copies k w t x y q → Held C a s → s.counter ≡ pc →
      Here pc (fetches F q (register k) ∷ item.Op (instr.Two o (register k) (src.Imm (Left w))) ∷ []) p → Follows C 8 s xs p (Put k w) (computed F t (two_of o (word_of F x (Put k w)) (word_of F y (Put k w))) xs (Put k w))
  copy_follows k w o t x y q s xs pc p lk room gq is h e l =
      let v = word_of F q a in
      let u = took C l.0 k v s in
      let hu : Held C (with_reg k v a) u = kept C a s l.0 k v (omega (arith, lk)) h in
      let there : register_of u k ≡ v = hu.regs k lk ∙ written_same a.regs k v k refl in
      let eff : effect_of u ≡ taking k (two_of o v w) l.2.0 u = line_effect C (with_reg k v a) u l.0 (instr.Two o (register k) (src.Imm w)) l.2.0 hu refl l.2.1 (omega arith, omega arith, omega arith) ∙ number_effect o u k v w l.2.0 lk there in
      let so : computed F (Reg k) (two_of o v w) xs (Put k w) ≡ computed F t (two_of o (word_of F x (Put k w)) (word_of F y (Put k w))) xs (Put k w) =
      λ i. computed F (sym is.there i) (two_of o (sym is.first i) (sym is.second i)) xs (Put k w) in
      subst (λ d. Follows C 8 s xs p (Put k w) d) so
      (later C 1 7 8 s u xs p (Put k w) (computed F (Reg k) (two_of o v w) xs (Put k w)) (fetched k q s xs pc l.0 lk room gq h e l.1) (omega arith) (last (two_of o v w) u v l.2.0 hu (kept C a s l.0 k w (omega (arith, lk)) h) eff (line_turn C (with_reg k v a) u l.0 (instr.Two o (register k) (src.Imm w)) l.2.0 hu refl l.2.1 (omega arith, omega arith, omega arith)) l.2.2))
    where
      last : {t1 : State} (z : Option ℕ) (u : State) (v next : ℕ) → Held C (with_reg k v a) u → Held C (Put k w) t1 → effect_of u ≡ taking k z next u → turn u ≡ Other → next ≡ p → Follows C 7 u xs p (Put k w) (computed F (Reg k) z xs (Put k w))
      last {t1} None u v next hu ht eff o n = faults_like C (Put k w) (with_reg k v a) u t1 xs 7 6 (omega arith) hu ht (λ j. refl) eff
      last (Some z) u v next hu ht eff o n = record {
        steps = 1;
        to = took C next k z u;
        by = reaches_went u (took C next k z u) xs eff o;
        at = n;
        held = held_alike C (with_reg k z (with_reg k v a)) (with_reg k z (Put k w)) (took C next k z u) (λ j b. sym (twice a.regs k z v j) ∙ twice a.regs k z w j) (λ j. refl) refl refl (kept C (with_reg k v a) u next k z (omega (arith, lk)) hu);
        few = omega arith;
      }

  -- an address and what is added to it
  pub two_copied : (k w : ℕ) (o : TwoOf) (t x y q : Where) (s : State) (xs : List ℕ) (pc p : ℕ) → k < 9 → Room F a → Good F q → Copies k w t x y q → Held C a s → s.counter ≡ pc →
      Here pc (fetches F q (register k) ∷ item.Op (instr.Two o (register k) (src.Imm (Left w))) ∷ []) p → Follows C 8 s xs p (Put k w) (does C address W F (TwoO o t x y) xs (Put k w))
  unfolding does
  two_copied k w o t x y q s xs pc p lk room gq is h e l = copy_follows k w o t x y q s xs pc p lk room gq is h e l

  pub step_copied : (k w : ℕ) (t x y q : Where) (s : State) (xs : List ℕ) (pc p : ℕ) → k < 9 → Room F a → Good F q → Copies k w t x y q → Held C a s → s.counter ≡ pc →
      Here pc (fetches F q (register k) ∷ item.Op (instr.Two IADD (register k) (src.Imm (Left w))) ∷ []) p → Follows C 8 s xs p (Put k w) (does C address W F (StepO t x y) xs (Put k w))
  unfolding does
  step_copied k w t x y q s xs pc p lk room gq is h e l = copy_follows k w IADD t x y q s xs pc p lk room gq is h e l

  abbrev pub Stepped : ℕ → ℕ → Where → Addr
  Stepped k w q = with_reg k (add (word_of F q a) w) (Put k w)

  pub step_is : (k w : ℕ) (t x y q : Where) (xs : List ℕ) → Copies k w t x y q → does C address W F (StepO t x y) xs (Put k w) ≡ Goes [] xs (Stepped k w q)
  unfolding does
  step_is k w t x y q xs is = λ i. Goes [] xs (put F (is.there i) (add (is.first i) (is.second i)) (Put k w))

-- and a load from there
module _ (C : Console) (address : List ℕ → ℕ) (W : Whole) (F : Frame) (a : Addr) where
  pub load_copied : (k w t x : ℕ) (q : Where) (s : State) (xs : List ℕ) (pc p : ℕ) → k < 9 → t < 9 → x < 9 → Room F a → Good F q → (register t == register k) && (register x == register k) ≡ true → Held C a s → s.counter ≡ pc →
      Stand C.words address pc (fetches F q (register k) ∷ item.Op (instr.Mov (RegAtOff (register k) (register k) (Left w))) ∷ []) p → Follows C 8 s xs p (Stepped C address W F a k w q) (does C address W F (LoadO (Reg t) (Reg x)) xs (Stepped C address W F a k w q))
  load_copied k w t x q s xs pc p lk lt lx room gq there h e l =
      let v = word_of F q a in
      let b = with_reg k v a in
      let u = took C l.0 k v s in
      let n = reg_number C F address k lk in
      let one = fetched C address W F a k q s xs pc l.0 lk room gq h e l.1 in
      let here = subst (λ z. Stand C.words address l.0 (item.Op (instr.Mov (RegAtOff (register k) z (Left w))) ∷ []) p) n l.2 in
      let two = load_follows C address W F b 7 k w t x k w u xs l.0 p (omega arith) lk lk lt lx there (kept C a s l.0 k v (omega (arith, lk)) h) refl here in
      let there_is : written a.regs k v k ≡ v = written_same a.regs k v k refl in
      let same : with_reg k (add (written a.regs k v k) w) (with_reg k w b) ≡ Stepped C address W F a k w q = (λ i. with_reg k (add (there_is i) w) (with_reg k w b)) ∙ thrice k (add v w) w v a in
      later C 1 7 8 s u xs p (Stepped C address W F a k w q) (does C address W F (LoadO (Reg t) (Reg x)) xs (Stepped C address W F a k w q)) one (omega arith)
      (subst (λ z. Follows C 7 u xs p z (does C address W F (LoadO (Reg t) (Reg x)) xs z)) same two)
