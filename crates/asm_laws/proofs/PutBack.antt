-- Registers that are asked for get what a loop leaves in them.
use Rattle.std.proofs.Common.{◌≡◌, ℕ, ◌<◌, ◌≤◌, Bool, true, false, cond, List, [], length, refl, ap, ◌∙◌, arith}
use Rattle.v32_isa.specs.declared.instruction.Instr.{Instr}
use Rattle.v32_isa.specs.declared.stepped.Stepped.TheVariants as stepped
use Rattle.v32_isa.specs.Table.{Fits as IsInstr}
use Rattle.v32_isa.specs.State.{register_of, with_register, going_to, written}
use Rattle.v32_isa.specs.State as machine
use Rattle.v32_isa.specs.Machine.{act}
use Rattle.v32_isa.specs.Machine.Effect.{Ends as EndsIn}
use Rattle.v32_isa.specs.Calls.{turn_of}
use Rattle.v32_isa.specs.Calls.Turn.{Other}
use Rattle.v32_isa.proofs.Steps.{Reaches, reaches_here, reaches_went}
use Rattle.asm_items.specs.Items.{Imm}
use Rattle.asm_items.specs.declared.item.AsmItem.TheVariants as item
use Rattle.obj_mem.specs.declared.cell.Cell.{Cell}
use Rattle.obj_mem.specs.declared.cell.Cell.TheVariants.{Unwritten}
use Rattle.mid_code.specs.declared.placed.Where.{Where}
use Rattle.mid_code.specs.declared.placed.Where.TheVariants.{Reg, Slot}
use Rattle.mid_code.specs.States.{State}
use Rattle.asm_laws.specs.Copies.{when}
use Rattle.asm_laws.specs.Pieces.{register}
use Rattle.asm_laws.specs.Placing.{Line}
use Rattle.asm_laws.specs.Standing.{ItemAt, Stand}
use Rattle.asm_laws.specs.Addresses.{Addr, Console, having, Held}
use Rattle.asm_laws.specs.Holds.{Setting, Ctx, Stands, HoldsAt}
use Rattle.asm_laws.specs.Calling.{Mach, Like}
use Rattle.asm_laws.proofs.Stepping.{written_same, written_other, line_effect, line_turn, kept, reg_other}

-- the cells of registers that are not among these are unwritten
pub masked : (ℕ → Bool) → (Where → Cell) → Where → Cell
masked J cells (Reg r) = cond (J r) (cells (Reg r)) Unwritten
masked J cells (Slot k) = cells (Slot k)

-- a register takes a word where it is asked for
abbrev pub asked : Bool → (ℕ → ℕ) → ℕ → ℕ → ℕ → ℕ
asked j f r v = cond j (written f r v) f

pub asked_same : (j : Bool) (f : ℕ → ℕ) (r v : ℕ) → j ≡ true → asked j f r v r ≡ v
asked_same j f r v e = ap (λ b. asked b f r v r) e ∙ written_same f r v r refl

pub asked_other : (j : Bool) (f : ℕ → ℕ) (r v q : ℕ) → ((q ≡ r) → ⊥) → asked j f r v q ≡ f q
asked_other true f r v q ne = written_other f r v q ne
asked_other false f r v q ne = refl

module _ (S : Setting) (κ : Ctx) where
  abbrev C : Console
  C = S.console

  pub same_register : (r : ℕ) → r < 9 → register r ≡ r
  same_register r lt = omega arith

  -- an instruction that puts a word into a register of a place
  pub record Puts (b : Addr) (s : machine.State) (xs : List ℕ) (next r v : ℕ) : Type 0 where
    pub by : Reaches 1 s xs [] (going_to next (with_register r v s)) xs
    pub held : Held C (having (written b.regs r v) b) (going_to next (with_register r v s))

  pub put_at : (b : Addr) (s : machine.State) (xs : List ℕ) (pc next r v : ℕ) (i : Instr ℕ) → r < 9 → Held C b s → s.counter ≡ pc → Line S.console.words pc i next → IsInstr i → turn_of i next s ≡ Other → act i next s ≡ EndsIn stepped.Went (going_to next (with_register (register r) v s)) → Puts b s xs next r v
  put_at b s xs pc next r v i lt h e l fit other is =
      let eff = line_effect S.console b s pc i next h e l fit ∙ is ∙ ap (λ q. EndsIn stepped.Went (going_to next (with_register q v s))) (same_register r lt) in
      record { by = reaches_went s (going_to next (with_register r v s)) xs eff (line_turn S.console b s pc i next h e l fit ∙ other); held = kept S.console b s next r v (omega (arith, lt)) h }

  -- an instruction that does so where it stands
  pub record Asked (j : Bool) (b : Addr) (s : machine.State) (xs : List ℕ) (next r v : ℕ) : Type 0 where
    pub to : machine.State
    pub steps : ℕ
    pub few : steps ≤ 1
    pub by : Reaches steps s xs [] to xs
    pub at : to.counter ≡ next
    pub held : Held C (having (asked j b.regs r v) b) to
    pub aside : (q : ℕ) → 9 ≤ q → register_of to q ≡ register_of s q

  pub ask : (j : Bool) (b : Addr) (s : machine.State) (xs : List ℕ) (pc next r v : ℕ) (i : Instr Imm) (x : Instr ℕ) → r < 9 → Held C b s → s.counter ≡ pc → Stand S.console.words S.address pc (when j (item.Op i)) next →
      ((n : ℕ) → ItemAt S.console.words S.address pc (item.Op i) n → Line S.console.words pc x n) → IsInstr x →
      (j ≡ true → (n : ℕ) → (turn_of x n s ≡ Other) × (act x n s ≡ EndsIn stepped.Went (going_to n (with_register (register r) v s)))) → Asked j b s xs next r v
  ask false b s xs pc next r v i x lt h e st line fit so = record { to = s; steps = 0; few = omega arith; by = reaches_here s xs; at = e ∙ st; held = h; aside = λ q le. refl }
  ask true b s xs pc next r v i x lt h e st line fit so =
      let n = st.0 in
      let is = so refl n in
      let p = put_at b s xs pc n r v x lt h e (line n st.1) fit is.0 is.1 in
      record { to = going_to n (with_register r v s); steps = 1; few = omega arith; by = p.by; at = st.2; held = p.held; aside = λ q le. reg_other S.console s r v q (λ z. omega (arith, lt, le, z)) }

  -- the machine holds a state in the registers that are asked for
  pub keeps : (J : ℕ → Bool) (t : State Where) (place : ℕ → ℕ) (a : Addr) (f : ℕ → ℕ) (m : machine.State) → HoldsAt S κ t.world.store t.cells place a → ((r : ℕ) → r < (S.whole.frames κ.fn).registers → J r ≡ true → f r ≡ a.regs r) → Held C (having f a) m → Like J (Mach S κ) t m
  unfolding masked
  keeps J t place a f m at like held = record {
    other = record t { cells = masked J t.cells };
    same = record { world = refl; given = refl; slots = λ k. refl; regs = λ r lt e. ap (λ b. cond b (t.cells (Reg r)) Unwritten) e };
    held = record {
      place = place;
      words = having (λ r. cond (J r) (a.regs r) (f r)) a;
      at = record {
        temps = record { in_regs = λ r lt. stands r (J r) (at.temps.in_regs r lt); in_slots = at.temps.in_slots };
        ranges = at.ranges;
        objects = at.objects;
        kept = at.kept;
        stack = at.stack;
      };
      registers = f;
      like = λ r lt. alike r lt (J r) refl;
      held = held;
    };
  }
    where
      stands : (r : ℕ) (b : Bool) → Stands (length t.world.store.objects) place (t.cells (Reg r)) (a.regs r) → Stands (length t.world.store.objects) place (cond b (t.cells (Reg r)) Unwritten) (cond b (a.regs r) (f r))
      stands r true h = h
      stands r false h = tt

      alike : (r : ℕ) → r < (S.whole.frames κ.fn).registers → (b : Bool) → J r ≡ b → f r ≡ cond b (a.regs r) (f r)
      alike r lt true e = like r lt e
      alike r lt false e = refl
