-- Instructions that use a known word are followed by the machine.
use Rattle.std.proofs.Common.{◌≡◌, ℕ, ◌<◌, ◌≤◌, ◌==◌, Bool, true, false, cond, List, [], ◌∷◌, ◌++◌, Option, Some, None, refl, sym, ap, ◌∙◌, subst, arith}
use Rattle.std.specs.Prelude.{◌&&◌}
use Rattle.either.specs.declared.Either.TheVariants.{Left}
use Rattle.kit_base.specs.Word.{add, sub}
use Rattle.kit_base.specs.declared.event.Event.TheVariants as event
use Rattle.v32_isa.specs.declared.instruction.Two.{Two as TwoOf}
use Rattle.v32_isa.specs.declared.instruction.Two.TheVariants.{IADD, ISUB}
use Rattle.v32_isa.specs.declared.instruction.Src.TheVariants as src
use Rattle.v32_isa.specs.declared.instruction.Mov.TheVariants.{RegAt, RegAtOff, AtReg, AtOffReg}
use Rattle.v32_isa.specs.declared.instruction.Instr.{Instr}
use Rattle.v32_isa.specs.declared.instruction.Instr.TheVariants as instr
use Rattle.v32_isa.specs.declared.stepped.Stepped.TheVariants as stepped
use Rattle.v32_isa.specs.Arithmetic.{two_of}
use Rattle.v32_isa.specs.Ports.{is_writable}
use Rattle.v32_isa.specs.State.{State, register_of, going_to, stored, word_at, is_writable_at, written}
use Rattle.v32_isa.specs.Machine.{act, effect_of, taking}
use Rattle.v32_isa.specs.Machine.Effect.{Ends as EndsIn, Tells}
use Rattle.v32_isa.specs.Calls.{turn}
use Rattle.v32_isa.specs.Calls.Turn.{Other}
use Rattle.v32_isa.proofs.Steps.{reaches_here, reaches_went, reaches_told}
use Rattle.asm_items.specs.declared.item.AsmItem.{AsmItem}
use Rattle.asm_items.specs.declared.item.AsmItem.TheVariants as item
use Rattle.mid_code.specs.declared.placed.Where.{Where}
use Rattle.mid_code.specs.declared.placed.Where.TheVariants.{Reg, Slot}
use Rattle.mid_code.specs.Code.{LoadO, maybe}
use Rattle.mid_code.specs.Invariants.{AllOf}
use Rattle.asm_laws.specs.Pieces.{register, is_in}
use Rattle.asm_laws.specs.Spare.{in_slots}
use Rattle.asm_laws.specs.declared.used.Used.TheVariants.{Computed, Loaded, Indexed, Stored}
use Rattle.asm_laws.specs.Operations.{Frame, Whole, fetch, fetches, hand, brings, takes, before_it, taken, brought, either, added, known, using_it}
use Rattle.asm_laws.specs.Operations as emitted
use Rattle.asm_laws.specs.Placing.{Line}
use Rattle.asm_laws.specs.Standing.{Stand}
use Rattle.asm_laws.specs.Addresses.{Addr, Console, readable, writable, word_of, Room, Good, Goes, computed, loaded, saved, does, Held, Follows}
use Rattle.asm_laws.proofs.Stepping.{written_same, written_other, same_word, readable_word, unreadable_word, writes_at, line_effect, line_turn, took, kept, moved, stores, reg_number}
use Rattle.asm_laws.proofs.Hands.{with_reg, hand_fits, hand_other, held_alike, brings_at, takes_at}
use Rattle.asm_laws.proofs.OperationsStep.{later, faults_like, MakesNine, made_later, made_last}
use Rattle.asm_laws.proofs.InOneStep.{twice, less_is, load_follows}

-- the address that a known word makes with that of a place, where there is one
abbrev pub address_with : Frame → Option Where → ℕ → Addr → ℕ
address_with F None w a = w
address_with F (Some p) w a = add (word_of F p a) w

pub sum_made : (o : TwoOf) (w v x : ℕ) → added o w ≡ Some v → two_of o x w ≡ Some (add x v)
sum_made IADD w v x e = let n : w ≡ v = cc in ap (λ z. Some (add x z)) n
sum_made ISUB w v x e = let n : sub 0 w ≡ v = cc in ap Some (less_is x w) ∙ ap (λ z. Some (add x z)) n
sum_made _ w v x e = absurd cc

module _ (C : Console) (address : List ℕ → ℕ) (F : Frame) (a : Addr) (room : Room F a) where
  abbrev Here : ℕ → List AsmItem → ℕ → Type 0
  Here = Stand C.words address

  -- what comes first
  taken_parts : (p : Where) (m : ℕ) (rest : List AsmItem) (pc e : ℕ) → Here pc (before_it (taken F p m) ++ rest) e → (q : ℕ) × Here pc (takes F p m) q × Here q rest e
  taken_parts p m rest pc e k = go (is_in p m) k
    where
      go : (b : Bool) → Here pc (before_it (cond b None (Some (fetch F p m))) ++ rest) e → (q : ℕ) × Here pc (cond b [] (fetches F p m ∷ [])) q × Here q rest e
      go true k = (pc, refl, k)
      go false k = (k.0, (k.0, k.1, refl), k.2)

  pub brought_parts : (p : Where) (r : ℕ) (rest : List AsmItem) (pc e : ℕ) → Here pc (before_it (brought F p r) ++ rest) e → (q : ℕ) × Here pc (brings F p r) q × Here q rest e
  brought_parts (Reg q) r rest pc e k = (pc, refl, k)
  brought_parts (Slot j) r rest pc e k = (k.0, (k.0, k.1, refl), k.2)

  either_parts : (p x : Where) (rest : List AsmItem) (pc e : ℕ) → in_slots (Some p) x ≡ false → Here pc (before_it (either (brought F p 9) (brought F x 10)) ++ rest) e → (q : ℕ) × Here pc (brings F p 9) q × ((r : ℕ) × Here q (brings F x 10) r × Here r rest e)
  either_parts (Reg q) (Reg r) rest pc e apart k = (pc, refl, (pc, refl, k))
  either_parts (Reg q) (Slot j) rest pc e apart k = (pc, refl, (k.0, (k.0, k.1, refl), k.2))
  either_parts (Slot j) (Reg r) rest pc e apart k = (k.0, (k.0, k.1, refl), (k.0, refl, k.2))
  either_parts (Slot j) (Slot i) rest pc e apart k = absurd cc

  -- ---- an operator

  lea_act : (s : State) (t q v next : ℕ) → t < 9 → q < 9 → Held C a s → act (instr.Lea (register t) (register q) (Some v)) next s ≡ EndsIn stepped.Went (took C next t (add (a.regs q) v) s)
  unfolding act
  lea_act s t q v next lt lq h = ap (λ z. EndsIn stepped.Went (took C next z (add (register_of s (register q)) v) s)) (reg_number C F address t lt) ∙ ap (λ z. EndsIn stepped.Went (took C next t (add z v) s)) (ap (λ n. register_of s n) (reg_number C F address q lq) ∙ h.regs q lq)

  operator_act : (o : TwoOf) (m w next : ℕ) (s : State) → act (instr.Two o m (src.Imm w)) next s ≡ taking m (two_of o (register_of s m) w) next s
  unfolding act
  operator_act o m w next s = refl

  copied_follows : (t : ℕ) (o : TwoOf) (x : Where) (w : ℕ) (s : State) (xs : List ℕ) (pc p : ℕ) → t < 9 → Good F x → Held C a s → s.counter ≡ pc → Here pc (before_it (taken F x (register t)) ++ item.Op (instr.Two o (register t) (src.Imm (Left w))) ∷ []) p →
      Follows C 8 s xs p a (computed F (Reg t) (two_of o (word_of F x a) w) xs a)
  copied_follows t o x w s xs pc p lt good h e k =
      let m = register t in
      let v = word_of F x a in
      let d = taken_parts x m (item.Op (instr.Two o m (src.Imm (Left w))) ∷ []) pc p k in
      let f = takes_at C F address a s xs pc d.0 x m room good (omega (arith, lt)) h e d.1 in
      let u = f.to in
      let l = d.2 in
      let eff = line_effect C (with_reg m v a) u d.0 (instr.Two o m (src.Imm w)) l.0 f.held f.at l.1 (omega arith, omega arith, omega arith) ∙ operator_act o m w l.0 u ∙ ap (λ z. taking m (two_of o z w) l.0 u) f.is in
      later C f.steps 7 8 s u xs p a (computed F (Reg t) (two_of o v w) xs a) f.by (let n = f.few in omega (arith, n))
      (last (two_of o v w) u l.0 f.held eff (line_turn C (with_reg m v a) u d.0 (instr.Two o m (src.Imm w)) l.0 f.held f.at l.1 (omega arith, omega arith, omega arith)) l.2)
    where
      last : (z : Option ℕ) (u : State) (next : ℕ) → Held C (with_reg (register t) (word_of F x a) a) u → effect_of u ≡ taking (register t) z next u → turn u ≡ Other → next ≡ p → Follows C 7 u xs p a (computed F (Reg t) z xs a)
      last None u next hu eff o n = faults_like C a (with_reg (register t) (word_of F x a) a) u s xs 7 6 (omega arith) hu h (λ q. refl) eff
      last (Some z) u next hu eff o n =
          let m = register t in
          let v = word_of F x a in
          record {
            steps = 1;
            to = took C next m z u;
            by = reaches_went u (took C next m z u) xs eff o;
            at = n;
            held = held_alike C (with_reg m z (with_reg m v a)) (with_reg t z a) (took C next m z u) (λ r b. sym (twice a.regs m z v r) ∙ ap (λ k. written a.regs k z r) (reg_number C F address t lt)) (λ r. refl) refl refl (kept C (with_reg m v a) u next m z (omega (arith, lt)) hu);
            few = omega arith;
          }

  sum_follows : (t q : ℕ) (o : TwoOf) (w v : ℕ) (s : State) (xs : List ℕ) (pc p : ℕ) → added o w ≡ Some v → t < 9 → q < 9 → Held C a s → s.counter ≡ pc → Here pc (item.Op (instr.Lea (register t) (register q) (Some (Left v))) ∷ []) p →
      Follows C 8 s xs p a (computed F (Reg t) (two_of o (a.regs q) w) xs a)
  sum_follows t q o w v s xs pc p is lt lq h e k =
      let x = add (a.regs q) v in
      let eff = line_effect C a s pc (instr.Lea (register t) (register q) (Some v)) k.0 h e k.1 (omega arith, omega arith, omega arith) ∙ lea_act s t q v k.0 lt lq h in
      subst (λ z. Follows C 8 s xs p a (computed F (Reg t) z xs a)) (sym (sum_made o w v (a.regs q) is)) (record {
        steps = 1;
        to = took C k.0 t x s;
        by = reaches_went s (took C k.0 t x s) xs eff (line_turn C a s pc (instr.Lea (register t) (register q) (Some v)) k.0 h e k.1 (omega arith, omega arith, omega arith));
        at = k.2;
        held = kept C a s k.0 t x (omega (arith, lt)) h;
        few = omega arith;
      })

  pub computed_follows : (gs : List ℕ) (t : ℕ) (o : TwoOf) (x : Where) (w : ℕ) (s : State) (xs : List ℕ) (pc p : ℕ) → t < 9 → Good F x → Held C a s → s.counter ≡ pc → Here pc (before_it (using_it gs F w (Computed o (register t) x)).0 ++ item.Op (using_it gs F w (Computed o (register t) x)).1 ∷ []) p →
      Follows C 8 s xs p a (computed F (Reg t) (two_of o (word_of F x a) w) xs a)
  computed_follows gs t o x w s xs pc p lt good h e k = go x good (added o w) refl k
    where
      go : (x : Where) → Good F x → (z : Option ℕ) → added o w ≡ z → Here pc (before_it (known F o (register t) x w z).0 ++ item.Op (known F o (register t) x w z).1 ∷ []) p → Follows C 8 s xs p a (computed F (Reg t) (two_of o (word_of F x a) w) xs a)
      go (Reg q) good (Some v) is k = sum_follows t q o w v s xs pc p is lt good h e k
      go (Reg q) good None is k = copied_follows t o (Reg q) w s xs pc p lt good h e k
      go (Slot j) good (Some v) is k = copied_follows t o (Slot j) w s xs pc p lt good h e k
      go (Slot j) good None is k = copied_follows t o (Slot j) w s xs pc p lt good h e k

  -- ---- an operator whose word stays in register 9

  nine_act : (s : State) (q v next : ℕ) → q < 9 → Held C a s → act (instr.Lea 9 (register q) (Some v)) next s ≡ EndsIn stepped.Went (took C next 9 (add (a.regs q) v) s)
  unfolding act
  nine_act s q v next lq h = ap (λ z. EndsIn stepped.Went (took C next 9 (add z v) s)) (ap (λ n. register_of s n) (reg_number C F address q lq) ∙ h.regs q lq)

  nine_copied : (o : TwoOf) (x : Where) (w : ℕ) (s : State) (xs : List ℕ) (pc p : ℕ) → Good F x → Held C a s → s.counter ≡ pc → Here pc (before_it (taken F x 9) ++ item.Op (instr.Two o 9 (src.Imm (Left w))) ∷ []) p → MakesNine C 3 s xs p a (two_of o (word_of F x a) w)
  nine_copied o x w s xs pc p good h e k =
      let v = word_of F x a in
      let d = taken_parts x 9 (item.Op (instr.Two o 9 (src.Imm (Left w))) ∷ []) pc p k in
      let f = takes_at C F address a s xs pc d.0 x 9 room good (omega arith) h e d.1 in
      let u = f.to in
      let l = d.2 in
      let hu : Held C a u = held_alike C (with_reg 9 v a) a u (λ r lt. written_other a.regs 9 v r (λ z. omega (arith, lt, z))) (λ q. refl) refl refl f.held in
      let eff = line_effect C a u d.0 (instr.Two o 9 (src.Imm w)) l.0 hu f.at l.1 (omega arith, omega arith, omega arith) ∙ operator_act o 9 w l.0 u ∙ ap (λ z. taking 9 (two_of o z w) l.0 u) f.is in
      made_later C f.steps 1 3 s u xs p a (two_of o v w) f.by (let n = f.few in omega (arith, n))
      (made_last C a u xs l.0 p (two_of o v w) hu eff (line_turn C a u d.0 (instr.Two o 9 (src.Imm w)) l.0 hu f.at l.1 (omega arith, omega arith, omega arith)) l.2)

  nine_sum : (q : ℕ) (o : TwoOf) (w v : ℕ) (s : State) (xs : List ℕ) (pc p : ℕ) → added o w ≡ Some v → q < 9 → Held C a s → s.counter ≡ pc → Here pc (item.Op (instr.Lea 9 (register q) (Some (Left v))) ∷ []) p → MakesNine C 3 s xs p a (two_of o (a.regs q) w)
  nine_sum q o w v s xs pc p is lq h e k =
      let x = add (a.regs q) v in
      let eff = line_effect C a s pc (instr.Lea 9 (register q) (Some v)) k.0 h e k.1 (omega arith, omega arith, omega arith) ∙ nine_act s q v k.0 lq h in
      subst (λ z. MakesNine C 3 s xs p a z) (sym (sum_made o w v (a.regs q) is))
      (made_later C 0 1 3 s s xs p a (Some x) (reaches_here s xs) (omega arith) (made_last C a s xs k.0 p (Some x) h eff (line_turn C a s pc (instr.Lea 9 (register q) (Some v)) k.0 h e k.1 (omega arith, omega arith, omega arith)) k.2))

  pub known_at : (o : TwoOf) (x : Where) (w : ℕ) (s : State) (xs : List ℕ) (pc p : ℕ) → Good F x → Held C a s → s.counter ≡ pc → Here pc (before_it (known F o 9 x w (added o w)).0 ++ item.Op (known F o 9 x w (added o w)).1 ∷ []) p → MakesNine C 3 s xs p a (two_of o (word_of F x a) w)
  known_at o x w s xs pc p good h e k = go x good (added o w) refl k
    where
      go : (x : Where) → Good F x → (z : Option ℕ) → added o w ≡ z → Here pc (before_it (known F o 9 x w z).0 ++ item.Op (known F o 9 x w z).1 ∷ []) p → MakesNine C 3 s xs p a (two_of o (word_of F x a) w)
      go (Reg q) good (Some v) is k = nine_sum q o w v s xs pc p is good h e k
      go (Reg q) good None is k = nine_copied o (Reg q) w s xs pc p good h e k
      go (Slot j) good (Some v) is k = nine_copied o (Slot j) w s xs pc p good h e k
      go (Slot j) good None is k = nine_copied o (Slot j) w s xs pc p good h e k

  -- ---- a load

  pub read_last : (t v n : ℕ) (i : Instr ℕ) (u : State) (xs : List ℕ) (next p : ℕ) → t < 9 → Held C a u → effect_of u ≡ act i next u → turn u ≡ Other → next ≡ p → ((y : ℕ) → word_at u v ≡ Some y → act i next u ≡ EndsIn stepped.Went (took C next (register t) y u)) →
      (word_at u v ≡ None → act i next u ≡ EndsIn (stepped.Fault 0) u) → 1 ≤ n → Follows C n u xs p a (loaded (readable C v) F (Reg t) (a.memory v) xs a)
  read_last t v n i u xs next p lt hu eff o same goes fails le = go (readable C v) refl
    where
      go : (b : Bool) → readable C v ≡ b → Follows C n u xs p a (loaded b F (Reg t) (a.memory v) xs a)
      go true ok =
          let y = a.memory v in
          record {
            steps = 1;
            to = took C next (register t) y u;
            by = reaches_went u (took C next (register t) y u) xs (eff ∙ goes y (readable_word C a u v hu ok)) o;
            at = same;
            held = subst (λ k. Held C (with_reg k y a) (took C next (register t) y u)) (reg_number C F address t lt) (kept C a u next (register t) y (omega (arith, lt)) hu);
            few = le;
          }
      go false not_so = faults_like C a a u u xs n 0 le hu hu (λ q. refl) (eff ∙ fails (unreadable_word C a u v hu not_so))

  at_goes : (m w y next : ℕ) (s : State) → word_at s w ≡ Some y → act (instr.Mov (RegAt m w)) next s ≡ EndsIn stepped.Went (took C next m y s)
  unfolding act
  at_goes m w y next s e = rw e refl

  at_fails : (m w next : ℕ) (s : State) → word_at s w ≡ None → act (instr.Mov (RegAt m w)) next s ≡ EndsIn (stepped.Fault 0) s
  unfolding act
  at_fails m w next s e = rw e refl

  pub off_goes : (m r w x y next : ℕ) (s : State) → register_of s r ≡ x → word_at s (add x w) ≡ Some y → act (instr.Mov (RegAtOff m r w)) next s ≡ EndsIn stepped.Went (took C next m y s)
  unfolding act
  off_goes m r w x y next s is e = rw (is, e) refl

  pub off_fails : (m r w x next : ℕ) (s : State) → register_of s r ≡ x → word_at s (add x w) ≡ None → act (instr.Mov (RegAtOff m r w)) next s ≡ EndsIn (stepped.Fault 0) s
  unfolding act
  off_fails m r w x next s is e = rw (is, e) refl

  pub loaded_follows : (gs : List ℕ) (t : ℕ) (x : Option Where) (w : ℕ) (s : State) (xs : List ℕ) (pc p : ℕ) → t < 9 → AllOf (Good F) (maybe x) → Held C a s → s.counter ≡ pc → Here pc (before_it (using_it gs F w (Loaded (register t) x)).0 ++ item.Op (using_it gs F w (Loaded (register t) x)).1 ∷ []) p →
      Follows C 8 s xs p a (loaded (readable C (address_with F x w a)) F (Reg t) (a.memory (address_with F x w a)) xs a)
  loaded_follows gs t None w s xs pc p lt good h e k =
      let i = instr.Mov (RegAt (register t) w) in
      read_last t w 8 i s xs k.0 p lt h (line_effect C a s pc i k.0 h e k.1 (omega arith, omega arith, omega arith)) (line_turn C a s pc i k.0 h e k.1 (omega arith, omega arith, omega arith)) k.2 (λ y z. at_goes (register t) w y k.0 s z) (λ z. at_fails (register t) w k.0 s z) (omega arith)
  loaded_follows gs t (Some x) w s xs pc p lt good h e k =
      let i = instr.Mov (RegAtOff (register t) (hand x 9) w) in
      let v = word_of F x a in
      let d = brought_parts x 9 (item.Op (instr.Mov (RegAtOff (register t) (hand x 9) (Left w))) ∷ []) pc p k in
      let f = brings_at C F address a s xs pc d.0 x 9 room good.0 (omega arith) (omega arith) h e d.1 in
      let u = f.to in
      let l = d.2 in
      later C f.steps 7 8 s u xs p a (loaded (readable C (add v w)) F (Reg t) (a.memory (add v w)) xs a) f.by (let n = f.few in omega (arith, n))
      (read_last t (add v w) 7 i u xs l.0 p lt f.held (line_effect C a u d.0 i l.0 f.held f.at l.1 (omega arith, hand_fits x 9 (omega arith), omega arith)) (line_turn C a u d.0 i l.0 f.held f.at l.1 (omega arith, hand_fits x 9 (omega arith), omega arith)) l.2
      (λ y z. off_goes (register t) (hand x 9) w v y l.0 u f.is z) (λ z. off_fails (register t) (hand x 9) w v l.0 u f.is z) (omega arith))

  -- the word that a register holds before does not matter where a load goes into it
  pub before_load : (t v y n : ℕ) (ok : Bool) (s : State) (xs : List ℕ) (p : ℕ) → t < 9 → Follows C n s xs p a (loaded ok F (Reg t) y xs a) → Follows C n s xs p (with_reg t v a) (loaded ok F (Reg t) y xs (with_reg t v a))
  before_load t v y n true s xs p lt f = record {
    steps = f.steps;
    to = f.to;
    by = f.by;
    at = f.at;
    held = held_alike C (with_reg t y a) (with_reg t y (with_reg t v a)) f.to (λ r b. twice a.regs t y v r) (λ r. refl) refl refl f.held;
    few = f.few;
  }
  before_load t v y n false s xs p lt f =
      let u = took C 0 t v f.shown in
      let h = kept C a f.shown 0 t v (omega (arith, lt)) f.held in
      record { steps = f.steps; to = f.to; by = f.by; nested = f.nested; shown = u; held = h; memory = λ q. f.memory q ∙ same_word C a (with_reg t v a) f.shown u f.held h (λ r. refl) q; few = f.few }

  -- ---- a load where a register's own word, another register's and the known one are added

  added_act : (s : State) (t q next : ℕ) → t < 9 → q < 9 → Held C a s → act (instr.Two IADD (register t) (src.Reg q)) next s ≡ EndsIn stepped.Went (took C next t (add (a.regs t) (a.regs q)) s)
  unfolding act
  added_act s t q next lt lq h = ap (λ z. EndsIn stepped.Went (took C next z (add (register_of s z) (register_of s q)) s)) (reg_number C F address t lt) ∙ ap (λ z. EndsIn stepped.Went (took C next t (add z (register_of s q)) s)) (h.regs t lt) ∙ ap (λ z. EndsIn stepped.Went (took C next t (add (a.regs t) z) s)) (h.regs q lq)

  written_again : (t x y z : ℕ) → with_reg t x (with_reg t y (with_reg t z a)) ≡ with_reg t x a
  written_again t x y z = λ i. record a { regs = λ r. is i r }
    where
      is : written (written (written a.regs t z) t y) t x ≡ written a.regs t x
      is = λ i r. (sym (twice (written a.regs t z) t x y r) ∙ sym (twice a.regs t x z r)) i

  pub indexed_follows : (W : Whole) (t q w d x : ℕ) (s : State) (xs : List ℕ) (pc p : ℕ) → t < 9 → q < 9 → d < 9 → x < 9 → (register d == register t) && (register x == register t) ≡ true → Held C a s → s.counter ≡ pc →
      Here pc (before_it (using_it W.globals F w (Indexed (register t) q)).0 ++ item.Op (using_it W.globals F w (Indexed (register t) q)).1 ∷ []) p →
      Follows C 8 s xs p (with_reg t (add (add (a.regs t) (a.regs q)) w) a) (does C address W F (LoadO (Reg d) (Reg x)) xs (with_reg t (add (add (a.regs t) (a.regs q)) w) a))
  indexed_follows W t q w d x s xs pc p lt lq ld lx there h e l =
      let v = add (a.regs t) (a.regs q) in
      let b = with_reg t v a in
      let i = instr.Two IADD (register t) (src.Reg q) in
      let u = took C l.0 t v s in
      let eff = line_effect C a s pc i l.0 h e l.1 (omega arith, omega (arith, lq), omega arith) ∙ added_act s t q l.0 lt lq h in
      let one = reaches_went s u xs eff (line_turn C a s pc i l.0 h e l.1 (omega arith, omega (arith, lq), omega arith)) in
      let here = subst (λ z. Here l.0 (item.Op (instr.Mov (RegAtOff (register t) z (Left w))) ∷ []) p) (reg_number C F address t lt) l.2 in
      let two = load_follows C address W F b 7 t w d x t w u xs l.0 p (omega arith) lt lt ld lx there (kept C a s l.0 t v (omega (arith, lt)) h) refl here in
      let same : with_reg t (add (written a.regs t v t) w) (with_reg t w b) ≡ with_reg t (add v w) a = (λ i. with_reg t (add (written_same a.regs t v t refl i) w) (with_reg t w b)) ∙ written_again t (add v w) w v in
      later C 1 7 8 s u xs p (with_reg t (add v w) a) (does C address W F (LoadO (Reg d) (Reg x)) xs (with_reg t (add v w) a)) one (omega arith)
      (subst (λ z. Follows C 7 u xs p z (does C address W F (LoadO (Reg d) (Reg x)) xs z)) same two)

  -- ---- a store

  pub write_last : (v y n : ℕ) (i : Instr ℕ) (u : State) (xs : List ℕ) (next p : ℕ) → Held C a u → effect_of u ≡ act i next u → turn u ≡ Other → next ≡ p → (is_writable_at u v ≡ true → act i next u ≡ EndsIn stepped.Went (going_to next (stored u v y))) →
      (is_writable_at u v ≡ false → act i next u ≡ EndsIn (stepped.Fault 1) u) → 1 ≤ n → Follows C n u xs p a (saved (writable C v) v y xs a)
  write_last v y n i u xs next p hu eff o same goes fails le = go (writable C v) refl
    where
      go : (b : Bool) → writable C v ≡ b → Follows C n u xs p a (saved b v y xs a)
      go true ok = record {
        steps = 1;
        to = going_to next (stored u v y);
        by = reaches_went u (going_to next (stored u v y)) xs (eff ∙ goes (writes_at C a u v hu ∙ ok)) o;
        at = same;
        held = stores C a u next v y ok hu;
        few = le;
      }
      go false not_so = faults_like C a a u u xs n 1 le hu hu (λ q. refl) (eff ∙ fails (writes_at C a u v hu ∙ not_so))

  to_goes : (m w y next : ℕ) (s : State) → register_of s m ≡ y → is_writable_at s w ≡ true → act (instr.Mov (AtReg w m)) next s ≡ EndsIn stepped.Went (going_to next (stored s w y))
  unfolding act
  to_goes m w y next s is ok = rw (is, ok) refl

  to_fails : (m w next : ℕ) (s : State) → is_writable_at s w ≡ false → act (instr.Mov (AtReg w m)) next s ≡ EndsIn (stepped.Fault 1) s
  unfolding act
  to_fails m w next s apart = rw apart refl

  pub beyond_goes : (m r w x y next : ℕ) (s : State) → register_of s r ≡ x → register_of s m ≡ y → is_writable_at s (add x w) ≡ true → act (instr.Mov (AtOffReg r w m)) next s ≡ EndsIn stepped.Went (going_to next (stored s (add x w) y))
  unfolding act
  beyond_goes m r w x y next s at is ok = rw (is, at, ok) refl

  pub beyond_fails : (m r w x next : ℕ) (s : State) → register_of s r ≡ x → is_writable_at s (add x w) ≡ false → act (instr.Mov (AtOffReg r w m)) next s ≡ EndsIn (stepped.Fault 1) s
  unfolding act
  beyond_fails m r w x next s at apart = rw (at, apart) refl

  pub stored_follows : (gs : List ℕ) (x : Option Where) (y : Where) (w : ℕ) (s : State) (xs : List ℕ) (pc p : ℕ) → AllOf (Good F) (maybe x) → Good F y → in_slots x y ≡ false → Held C a s → s.counter ≡ pc → Here pc (before_it (using_it gs F w (Stored x y)).0 ++ item.Op (using_it gs F w (Stored x y)).1 ∷ []) p →
      Follows C 8 s xs p a (saved (writable C (address_with F x w a)) (address_with F x w a) (word_of F y a) xs a)
  stored_follows gs None y w s xs pc p good gy apart h e k =
      let i = instr.Mov (AtReg w (hand y 10)) in
      let v = word_of F y a in
      let d = brought_parts y 10 (item.Op (instr.Mov (AtReg (Left w) (hand y 10))) ∷ []) pc p k in
      let f = brings_at C F address a s xs pc d.0 y 10 room gy (omega arith) (omega arith) h e d.1 in
      let u = f.to in
      let l = d.2 in
      later C f.steps 7 8 s u xs p a (saved (writable C w) w v xs a) f.by (let n = f.few in omega (arith, n))
      (write_last w v 7 i u xs l.0 p f.held (line_effect C a u d.0 i l.0 f.held f.at l.1 (omega arith, hand_fits y 10 (omega arith), omega arith)) (line_turn C a u d.0 i l.0 f.held f.at l.1 (omega arith, hand_fits y 10 (omega arith), omega arith)) l.2
      (λ z. to_goes (hand y 10) w v l.0 u f.is z) (λ z. to_fails (hand y 10) w l.0 u z) (omega arith))
  stored_follows gs (Some x) y w s xs pc p good gy apart h e k =
      let i = instr.Mov (AtOffReg (hand x 9) w (hand y 10)) in
      let q = word_of F x a in
      let v = word_of F y a in
      let d = either_parts x y (item.Op (instr.Mov (AtOffReg (hand x 9) (Left w) (hand y 10))) ∷ []) pc p apart k in
      let f = brings_at C F address a s xs pc d.0 x 9 room good.0 (omega arith) (omega arith) h e d.1 in
      let g = d.2 in
      let j = brings_at C F address a f.to xs d.0 g.0 y 10 room gy (omega arith) (omega arith) f.held f.at g.1 in
      let u = j.to in
      let l = g.2 in
      let first : register_of u (hand x 9) ≡ q = j.others (hand x 9) (hand_other F x 9 10 good.0 (omega arith) (omega arith)) ∙ f.is in
      later C f.steps 7 8 s f.to xs p a (saved (writable C (add q w)) (add q w) v xs a) f.by (let n = f.few in omega (arith, n))
      (later C j.steps 6 7 f.to u xs p a (saved (writable C (add q w)) (add q w) v xs a) j.by (let n = j.few in omega (arith, n))
      (write_last (add q w) v 6 i u xs l.0 p j.held (line_effect C a u g.0 i l.0 j.held j.at l.1 (hand_fits x 9 (omega arith), hand_fits y 10 (omega arith), omega arith)) (line_turn C a u g.0 i l.0 j.held j.at l.1 (hand_fits x 9 (omega arith), hand_fits y 10 (omega arith), omega arith)) l.2
      (λ z. beyond_goes (hand y 10) (hand x 9) w q v l.0 u first j.is z) (λ z. beyond_fails (hand y 10) (hand x 9) w q l.0 u first z) (omega arith)))

  -- ---- a port

  told_act : (s : State) (port w next : ℕ) → is_writable port ≡ true → act (instr.Out port (src.Imm w)) next s ≡ Tells port w next s
  unfolding act
  told_act s port w next ok = rw ok refl

  port_number : (p : ℕ) → p < 16384 → emitted.port p ≡ p
  port_number p lt = omega arith

  pub sent_follows : (port w : ℕ) (s : State) (xs : List ℕ) (pc p : ℕ) → port < 16384 → is_writable port ≡ true → Held C a s → s.counter ≡ pc → Here pc (item.Op (instr.Out (emitted.port port) (src.Imm (Left w))) ∷ []) p → Follows C 8 s xs p a (Goes (event.Out port w ∷ []) xs a)
  sent_follows port w s xs pc p lt ok h e k =
      let l : Line C.words pc (instr.Out port (src.Imm w)) k.0 = subst (λ n. Line C.words pc (instr.Out n (src.Imm w)) k.0) (port_number port lt) k.1 in
      let eff = line_effect C a s pc (instr.Out port (src.Imm w)) k.0 h e l (omega arith, omega arith, lt) ∙ told_act s port w k.0 ok in
      record {
        steps = 1;
        to = going_to k.0 s;
        by = reaches_told s s port w k.0 xs eff (line_turn C a s pc (instr.Out port (src.Imm w)) k.0 h e l (omega arith, omega arith, lt));
        at = k.2;
        held = moved C a s k.0 h;
        few = omega arith;
      }
