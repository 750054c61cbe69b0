-- States that are the same but for registers that are not live: an operation that reads live ones does the same to both.
use Rattle.std.proofs.Common.{◌≡◌, ℕ, ◌+◌, ◌<◌, ◌⊎◌, inl, inr, Bool, true, false, cond, List, [], ◌∷◌, Ok, Err, refl, sym, ap, ◌∙◌, subst}
use Rattle.std.specs.Prelude.{◌==◌, ◌||◌, map}
use Rattle.std.proofs.lemmas.Bool.{eqb-true, eq-eqb}
use Rattle.kit_base.specs.declared.event.Event.TheVariants as event
use Rattle.obj_mem.specs.declared.cell.Cell.{Cell}
use Rattle.obj_mem.specs.declared.cell.Cell.TheVariants.{Num, Ptr, Null}
use Rattle.obj_mem.specs.declared.refusal.Refusal.TheVariants.{Strays, Faults}
use Rattle.obj_mem.specs.Objects.{ObjectT}
use Rattle.obj_mem.specs.Stores.{Sizes, fresh, end_one, with_objects, local_object}
use Rattle.obj_mem.specs.Worlds.{World, on_store, happened, answered}
use Rattle.obj_mem.specs.Queries.{Answer, word_of, read, write, first_cell}
use Rattle.mid_code.specs.declared.placed.Where.{Where}
use Rattle.mid_code.specs.declared.placed.Where.TheVariants.{Reg, Slot}
use Rattle.mid_code.specs.Placed.{is_same_place}
use Rattle.mid_code.specs.Code.{OpT, ConstO, NullO, MoveO, OneO, TwoO, GlobalO, LocalO, LiteralO, CardO, StepO, ApartO, PtrTestO, LoadO, StoreO, FreshO, EndO, InO, OutO, WaitO, HaltO, uses}
use Rattle.mid_code.specs.Invariants.{AllOf}
use Rattle.mid_code.specs.Meaning.{Did, On, Ends}
use Rattle.mid_code.specs.States.{State, registers_and_slots, put_in, in_world, to, to_objects, input, output, one_word, two_words, stepped, distance, pointers_tested, acted}
use Rattle.asm_laws.specs.Live.{is_put}
use Rattle.asm_laws.specs.Calling.{Same}

-- a slot, or a register that is among these
abbrev pub Reads : (ℕ → Bool) → Where → Type 0
Reads J (Reg r) = (r < 9) × (J r ≡ true)
Reads J (Slot k) = Unit {0}

pub same_self : (J : ℕ → Bool) (s : State Where) → Same J s s
same_self J s = record { world = refl; given = refl; slots = λ k. refl; regs = λ r lt e. refl }

pub same_weaker : (J K : ℕ → Bool) (t s : State Where) → ((r : ℕ) → r < 9 → K r ≡ true → J r ≡ true) → Same J t s → Same K t s
same_weaker J K t s f h = record { world = h.world; given = h.given; slots = h.slots; regs = λ r lt e. h.regs r lt (f r lt e) }

pub same_trans : (J : ℕ → Bool) (u t s : State Where) → Same J u t → Same J t s → Same J u s
same_trans J u t s g h = record { world = g.world ∙ h.world; given = g.given ∙ h.given; slots = λ k. g.slots k ∙ h.slots k; regs = λ r lt e. g.regs r lt e ∙ h.regs r lt e }

pub cell_same : (J : ℕ → Bool) (t s : State Where) → Same J t s → (p : Where) → Reads J p → t.cells p ≡ s.cells p
cell_same J t s h (Reg r) e = h.regs r e.0 e.1
cell_same J t s h (Slot k) e = h.slots k

pub cells_same : (J : ℕ → Bool) (t s : State Where) → Same J t s → (ps : List Where) → AllOf (Reads J) ps → map t.cells ps ≡ map s.cells ps
cells_same J t s h [] e = refl
cells_same J t s h (p ∷ ps) e = λ i. cell_same J t s h p e.0 i ∷ cells_same J t s h ps e.1 i

-- both go on in such states, or both end alike
abbrev pub DidSame : (ℕ → Bool) → Did (State Where) → Did (State Where) → Type 0
DidSame J (On t) (On s) = Same J t s
DidSame J (On t) (Ends f s) = ⊥
DidSame J (Ends f t) (On s) = ⊥
DidSame J (Ends f t) (Ends g s) = (f ≡ g) × Same (λ r. false) t s

-- the same world and result, with other cells
abbrev pub with_cells : State Where → (Where → Cell) → State Where
with_cells s cells = record s { cells = cells }

pub joined : (J : ℕ → Bool) (t s : State Where) → Same J t s → t ≡ with_cells s t.cells
joined J t s h = λ i. record { world = h.world i; cells = t.cells; given = h.given i }

module _ (z : Sizes) (J K : ℕ → Bool) (s : State Where) (tc : Where → Cell) (slots : (k : ℕ) → tc (Slot k) ≡ s.cells (Slot k)) (regs : (r : ℕ) → r < 9 → J r ≡ true → tc (Reg r) ≡ s.cells (Reg r)) where
  abbrev t0 : State Where
  t0 = with_cells s tc

  -- the registers behind are those before, and what is put somewhere
  abbrev Covers : OpT Where → Type 0
  Covers o = (r : ℕ) → r < 9 → K r ≡ true → (is_put o r ≡ true) ⊎ (J r ≡ true)

  at_place : (p : Where) → Reads J p → tc p ≡ s.cells p
  at_place (Reg r) e = regs r e.0 e.1
  at_place (Slot k) e = slots k

  here : (w : World) → ((r : ℕ) → r < 9 → K r ≡ true → J r ≡ true) → Same K (in_world w (with_cells s tc)) (in_world w s)
  here w f = record { world = refl; given = refl; slots = slots; regs = λ r lt e. regs r lt (f r lt e) }

  ends : Same (λ r. false) (with_cells s tc) s
  ends = record { world = refl; given = refl; slots = slots; regs = λ r lt e. cc }

  or_true : (q r : ℕ) → ((q == r) || false ≡ true) → (r == q) ≡ true
  or_true q r e = eq-eqb r q (sym (eqb-true q r (or_none (q == r) e)))
    where
      or_none : (b : Bool) → b || false ≡ true → b ≡ true
      or_none true e = refl
      or_none false e = e

  -- a place takes a cell
  put_there : (w : World) (x : Where) (c : Cell) → ((r : ℕ) → r < 9 → K r ≡ true → (is_put (MoveO x x) r ≡ true) ⊎ (J r ≡ true)) → Same K (put_in registers_and_slots x c (in_world w (with_cells s tc))) (put_in registers_and_slots x c (in_world w s))
  put_there w x c cover = record {
    world = refl;
    given = refl;
    slots = λ k. ap (λ v. cond (is_same_place (Slot k) x) c v) (slots k);
    regs = λ r lt e. elim (cover r lt e) [ inl p ↦ there r x p | inr j ↦ ap (λ v. cond (is_same_place (Reg r) x) c v) (regs r lt j) ];
  }
    where
      there : (r : ℕ) (x : Where) → is_put (MoveO x x) r ≡ true → cond (is_same_place (Reg r) x) c (tc (Reg r)) ≡ cond (is_same_place (Reg r) x) c (s.cells (Reg r))
      there r (Reg q) p = (ap (λ b. cond b c (tc (Reg r))) (or_true q r p)) ∙ sym (ap (λ b. cond b c (s.cells (Reg r))) (or_true q r p))
      there r (Slot k) p = absurd cc

  to_same : (x : Where) (a b : Answer Cell) → a ≡ b → ((r : ℕ) → r < 9 → K r ≡ true → (is_put (MoveO x x) r ≡ true) ⊎ (J r ≡ true)) → DidSame K (to registers_and_slots x a (with_cells s tc)) (to registers_and_slots x b s)
  to_same x a b e cover = subst (λ v. DidSame K (to registers_and_slots x a (with_cells s tc)) (to registers_and_slots x v s)) e (go a)
    where
      go : (a : Answer Cell) → DidSame K (to registers_and_slots x a (with_cells s tc)) (to registers_and_slots x a s)
      go (Ok c) = put_there s.world x c cover
      go (Err Strays) = (refl, ends)
      go (Err (Faults n)) = (refl, ends)

  nothing : (o : OpT Where) → ((r : ℕ) → is_put o r ≡ false) → Covers o → (r : ℕ) → r < 9 → K r ≡ true → J r ≡ true
  nothing o none cover r lt e = elim (cover r lt e) [ inl p ↦ (let q = sym p ∙ none r in absurd cc) | inr j ↦ j ]

  objects_same : (o : OpT Where) → ((r : ℕ) → is_put o r ≡ false) → Covers o → (a b : Answer (List ObjectT)) → a ≡ b → DidSame K (to_objects a (with_cells s tc)) (to_objects b s)
  objects_same o none cover a b e = subst (λ v. DidSame K (to_objects a (with_cells s tc)) (to_objects v s)) e (go a)
    where
      go : (a : Answer (List ObjectT)) → DidSame K (to_objects a (with_cells s tc)) (to_objects a s)
      go (Ok os) = here (on_store (with_objects os) s.world) (nothing o none cover)
      go (Err Strays) = (refl, ends)
      go (Err (Faults n)) = (refl, ends)

  input_same : (x : Where) (port : ℕ) (xs : List ℕ) → Covers (InO x port) → DidSame K (input registers_and_slots x port xs (with_cells s tc)) (input registers_and_slots x port xs s)
  input_same x port [] cover = (refl, ends)
  input_same x port (v ∷ rest) cover = put_there (answered port v rest s.world) x _ cover

  output_same : (port : ℕ) (q : Where) (a b : Answer ℕ) → a ≡ b → Covers (OutO port q) → DidSame K (output port a (with_cells s tc)) (output port b s)
  output_same port q a b e cover = subst (λ v. DidSame K (output port a (with_cells s tc)) (output port v s)) e (go a)
    where
      go : (a : Answer ℕ) → DidSame K (output port a (with_cells s tc)) (output port a s)
      go (Ok x) = here (happened (event.Out port x) s.world) (nothing (OutO port q) (λ r. refl) cover)
      go (Err Strays) = (refl, ends)
      go (Err (Faults n)) = (refl, ends)

  acted_same : (o : OpT Where) → AllOf (Reads J) (uses o) → Covers o → DidSame K (acted registers_and_slots z o (with_cells s tc)) (acted registers_and_slots z o s)
  acted_same (ConstO x n) h cover = to_same x (Ok (Num n)) (Ok (Num n)) refl cover
  acted_same (NullO x) h cover = to_same x (Ok Null) (Ok Null) refl cover
  acted_same (MoveO x p) h cover = to_same x _ _ (ap Ok (at_place p h.0)) cover
  acted_same (OneO o x p) h cover = to_same x _ _ (ap (one_word o) (at_place p h.0)) cover
  acted_same (TwoO o x p q) h cover = to_same x _ _ (λ i. two_words o (at_place p h.0 i) (at_place q h.1.0 i)) cover
  acted_same (GlobalO x k) h cover = to_same x (Ok (Ptr k 0)) (Ok (Ptr k 0)) refl cover
  acted_same (LocalO x k) h cover = to_same x (first_cell (local_object s.world.store.locals k)) (first_cell (local_object s.world.store.locals k)) refl cover
  acted_same (LiteralO x k) h cover = to_same x (Ok (Ptr (z.first_literal + k) 0)) (Ok (Ptr (z.first_literal + k) 0)) refl cover
  acted_same (CardO x) h cover = to_same x (Ok (Ptr z.card 0)) (Ok (Ptr z.card 0)) refl cover
  acted_same (StepO x p q) h cover = to_same x _ _ (λ i. stepped (at_place p h.0 i) (at_place q h.1.0 i)) cover
  acted_same (ApartO x p q) h cover = to_same x _ _ (λ i. distance s.world.store.objects (at_place p h.0 i) (at_place q h.1.0 i)) cover
  acted_same (PtrTestO o x p q) h cover = to_same x _ _ (λ i. pointers_tested o s.world.store.objects (at_place p h.0 i) (at_place q h.1.0 i)) cover
  acted_same (LoadO x p) h cover = to_same x _ _ (ap (read s.world.store.objects) (at_place p h.0)) cover
  acted_same (StoreO p q) h cover = objects_same (StoreO p q) (λ r. refl) cover _ _ (λ i. write s.world.store.objects (at_place p h.0 i) (at_place q h.1.0 i))
  acted_same (FreshO k) h cover = here (on_store (fresh z k) s.world) (nothing (FreshO k) (λ r. refl) cover)
  acted_same (EndO k) h cover = here (on_store (end_one k) s.world) (nothing (EndO k) (λ r. refl) cover)
  acted_same (InO x port) h cover = input_same x port s.world.store.answers cover
  acted_same (OutO port p) h cover = output_same port p _ _ (ap word_of (at_place p h.0)) cover
  acted_same WaitO h cover = here (happened event.Wait s.world) (nothing WaitO (λ r. refl) cover)
  acted_same HaltO h cover = (refl, ends)

-- an operation on states that are the same where it reads
pub op_same : (z : Sizes) (J K : ℕ → Bool) (o : OpT Where) (t s : State Where) → Same J t s → AllOf (Reads J) (uses o) → ((r : ℕ) → r < 9 → K r ≡ true → (is_put o r ≡ true) ⊎ (J r ≡ true)) →
    DidSame K (acted registers_and_slots z o t) (acted registers_and_slots z o s)
op_same z J K o t s h reads cover =
    subst (λ u. DidSame K (acted registers_and_slots z o u) (acted registers_and_slots z o s)) (sym (joined J t s h)) (acted_same z J K s t.cells h.slots h.regs o reads cover)
