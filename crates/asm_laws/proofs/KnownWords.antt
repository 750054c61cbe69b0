-- What is known before a loop that copies words.
use Rattle.std.proofs.Common.{◌≡◌, ℕ, zero, suc, Bool, true, false, cond, List, Option, Some, None, refl, sym, ap, ◌∙◌}
use Rattle.std.specs.Prelude.{◌==◌, ◌&&◌, not, Ok, Err}
use Rattle.std.proofs.lemmas.Bool.{eqb-true}
use Rattle.v32_isa.specs.declared.instruction.Two.{Two as TwoOf}
use Rattle.v32_isa.specs.declared.instruction.Two.TheVariants.{IADD}
use Rattle.v32_isa.specs.declared.instruction.Instr.{Instr}
use Rattle.asm_items.specs.Items.{Imm}
use Rattle.v32_isa.specs.State as machine
use Rattle.obj_mem.specs.declared.cell.Cell.{Cell}
use Rattle.obj_mem.specs.declared.cell.Cell.TheVariants.{Num}
use Rattle.mid_code.specs.declared.placed.Where.{Where}
use Rattle.mid_code.specs.declared.placed.Where.TheVariants.{Reg, Slot}
use Rattle.mid_code.specs.Code.{NodesT, Stop, Do, Call, Choose, Block, Loop, Leave, Again, Return, OpT, ConstO, TwoO, GlobalO, StepO, LoadO, StoreO, OutO}
use Rattle.mid_code.specs.Meaning.{Did, On, Ends}
use Rattle.mid_code.specs.States.{State, to, registers_and_slots}
use Rattle.obj_mem.specs.declared.refusal.Refusal.TheVariants.{Strays, Faults}
use Rattle.obj_mem.specs.Queries.{Answer}
use Rattle.asm_laws.specs.declared.used.Used.{Used}
use Rattle.asm_laws.specs.declared.used.Used.TheVariants.{Indexed, Offset, Element}
use Rattle.asm_laws.specs.Pieces.{register, is_in, turned, other_word, loads_there}
use Rattle.asm_laws.specs.Spare.{beside, operand, in_slots, at_address, at_sum, index, index_behind, indexed, offset_load, offset_sum, offset_step, offset_behind, offset, adds, element_behind, element, or_else, used_by}
use Rattle.asm_laws.specs.Spare as groups
use Rattle.asm_laws.specs.Copies.{copy_after, lead, is_count, is_one}
use Rattle.asm_laws.specs.Operations.{Frame, Whole, word_put, summed, first_place, unturned, copied, copied_address, with_copy, with_sum, with_word, is_spared, with_known, with_next, with_access, in_one, more_of}
use Rattle.asm_laws.specs.declared.access.Transfer.{Transfer}
use Rattle.asm_laws.specs.declared.access.Transfer.TheVariants.{Load, Store}
use Rattle.asm_laws.specs.inner.Following.{at_front}
use Rattle.asm_laws.specs.Holds.{Setting, Ctx}
use Rattle.asm_laws.specs.Calling.{Mach, holder}
use Rattle.asm_laws.proofs.AccessForms.{Transfers, accessed_case}

-- so many operations come first, which are not led to a block move
abbrev pub AreOps : ℕ → NodesT Where → Type 0
AreOps zero c = Unit {0}
AreOps (suc k) (Do o c) = (lead (Do o c) ≡ None) × AreOps k c
AreOps (suc k) _ = ⊥

abbrev AllOps : Option (ℕ × Used) → NodesT Where → Type 0
AllOps None c = Unit {0}
AllOps (Some (k, u)) c = AreOps k c

-- no operation but those that put a word into a register leads there, and none before an address is worked out
abbrev Alone : OpT Where → Type 0
Alone p = (c : NodesT Where) → lead (Do p c) ≡ None

two_alone : (o : TwoOf) (t a b : Where) → Alone (TwoO o t a b)
unfolding lead
two_alone o t a b c = refl

step_alone : (t a b : Where) → Alone (StepO t a b)
unfolding lead
step_alone t a b c = refl

load_alone : (t p : Where) → Alone (LoadO t p)
unfolding lead
load_alone t p c = refl

store_alone : (p a : Where) → Alone (StoreO p a)
unfolding lead
store_alone p a c = refl

out_alone : (port : ℕ) (p : Where) → Alone (OutO port p)
unfolding lead
out_alone port p c = refl

abbrev BeforeStep : OpT Where → Type 0
BeforeStep p = (s a b : Where) (c : NodesT Where) → lead (Do p (Do (StepO s a b) c)) ≡ None

word_before : (t : Where) (n : ℕ) → BeforeStep (ConstO t n)
unfolding lead copy_after
word_before (Reg r) n s a b c = refl
word_before (Slot k) n s a b c = refl

global_before : (t : Where) (k : ℕ) → BeforeStep (GlobalO t k)
unfolding lead copy_after
global_before (Reg r) k s a b c = refl
global_before (Slot j) k s a b c = refl

if_ops : (b : Bool) (x : Option (ℕ × Used)) (c : NodesT Where) → AllOps x c → AllOps (cond b None x) c
if_ops true x c h = tt
if_ops false x c h = h

when_ops : (b : Bool) (x : Option (ℕ × Used)) (c : NodesT Where) → AllOps x c → AllOps (cond b x None) c
when_ops true x c h = h
when_ops false x c h = tt

computed_ops : (t : Where) (x : Option (TwoOf × Where)) (p : OpT Where) (c : NodesT Where) → Alone p → AllOps (groups.computed t x) (Do p c)
computed_ops (Reg t) (Some (o, q)) p c h = if_ops (register t == 8) _ (Do p c) (h c, tt)
computed_ops (Reg t) None p c h = tt
computed_ops (Slot k) x p c h = tt

one_ops : (x : Option Where) (c : NodesT Where) → AllOps (at_address 1 x c) c
one_ops x (Do (LoadO (Reg t) q) c) = when_ops (is_in q 8 && not (register t == 8)) _ (Do (LoadO (Reg t) q) c) (load_alone (Reg t) q c, tt)
one_ops x (Do (StoreO q a) c) = when_ops (is_in q 8 && not (is_in a 8)) _ (Do (StoreO q a) c) (if_ops (in_slots x a) _ (Do (StoreO q a) c) (store_alone q a c, tt))
one_ops x _ = tt

two_ops : (x : Option Where) (p : OpT Where) (c : NodesT Where) → Alone p → AllOps (at_address 2 x c) (Do p c)
two_ops x p (Do (LoadO (Reg t) q) c) h = when_ops (is_in q 8 && not (register t == 8)) _ (Do p (Do (LoadO (Reg t) q) c)) (h _, (load_alone (Reg t) q c, tt))
two_ops x p (Do (StoreO q a) c) h = when_ops (is_in q 8 && not (is_in a 8)) _ (Do p (Do (StoreO q a) c)) (if_ops (in_slots x a) _ (Do p (Do (StoreO q a) c)) (h _, (store_alone q a c, tt)))
two_ops x p _ h = tt

sum_ops : (x : Option Where) (p : OpT Where) (c : NodesT Where) → Alone p → AllOps (at_sum x c) (Do p c)
sum_ops None p c h = tt
sum_ops (Some x) p c h = two_ops (Some x) p c h

loads_ops : (r : ℕ) (c : NodesT Where) → loads_there r c ≡ true → AreOps 1 c
loads_ops r (Do (LoadO (Reg t) (Reg p)) c) e = (load_alone (Reg t) (Reg p) c, tt)
loads_ops r _ e = absurd cc

index_ops : (t : ℕ) (p : OpT Where) (c : NodesT Where) → Alone p → AllOps (index_behind t c) (Do p c)
index_ops t p (Do (StepO u a b) c) h = go (loads_there t c) refl (other_word t u a b)
  where
    other : (q : ℕ) (f : Bool) → AreOps 1 c → AllOps (cond f None (Some (3, Indexed t q))) (Do p (Do (StepO u a b) c))
    other q true i = tt
    other q false i = (h _, (step_alone u a b c, i))

    go : (f : Bool) → loads_there t c ≡ f → (x : Option ℕ) → AllOps (cond f (index t x) None) (Do p (Do (StepO u a b) c))
    go false e x = tt
    go true e None = tt
    go true e (Some q) = other q (q == 8) (loads_ops t c e)
index_ops t p _ h = tt

indexed_ops : (t : Where) (z : Option Where) (p : OpT Where) (c : NodesT Where) → Alone p → AllOps (indexed t z c) (Do p c)
indexed_ops (Reg t) (Some (Reg q)) p c h = when_ops (register q == register t) (index_behind (register t) c) (Do p c) (index_ops (register t) p c h)
indexed_ops (Reg t) (Some (Slot k)) p c h = tt
indexed_ops (Reg t) None p c h = tt
indexed_ops (Slot k) z p c h = tt

load_ops : (t : ℕ) (u : Used) (p q r : OpT Where) (c : NodesT Where) → (lead (Do p (Do q (Do r c))) ≡ None) → (lead (Do q (Do r c)) ≡ None) → (lead (Do r c) ≡ None) → AllOps (offset_load t u c) (Do p (Do q (Do r c)))
load_ops t u p q r (Do (LoadO (Reg d) y) c) hp hq hr = when_ops ((register d == t) && is_in y 8) _ (Do p (Do q (Do r (Do (LoadO (Reg d) y) c)))) (hp, (hq, (hr, (load_alone (Reg d) y c, tt))))
load_ops t u p q r _ hp hq hr = tt

step_ops : (t : ℕ) (u : Used) (p q : OpT Where) (c : NodesT Where) → Alone p → BeforeStep q → AllOps (offset_step t u c) (Do p (Do q c))
step_ops t u p q (Do (StepO s a b) c) hp hq = go (beside a b)
  where
    go : (x : Option Where) → AllOps (offset_sum t u s x c) (Do p (Do q (Do (StepO s a b) c)))
    go (Some (Reg y)) = when_ops ((register y == t) && is_in s 8) _ (Do p (Do q (Do (StepO s a b) c))) (load_ops t u p q (StepO s a b) c (hp _) (hq s a b c) (step_alone s a b c))
    go (Some (Slot k)) = tt
    go None = tt
step_ops t u p q _ hp hq = tt

behind_ops : (t : ℕ) (z : Where) (p : OpT Where) (c : NodesT Where) → Alone p → AllOps (offset_behind t z c) (Do p c)
behind_ops t z p (Do (ConstO s n) c) h = when_ops (is_in s 8) _ (Do p (Do (ConstO s n) c)) (step_ops t (Offset t z n) p (ConstO s n) c h (word_before s n))
behind_ops t z p _ h = tt

global_ops : (o : TwoOf) (t : ℕ) (z : Where) (p : OpT Where) (c : NodesT Where) → Alone p → AllOps (element_behind o t z c) (Do p c)
global_ops o t z p (Do (GlobalO s k) c) h = when_ops (is_in s 8) _ (Do p (Do (GlobalO s k) c)) (step_ops t (Element o t z k) p (GlobalO s k) c h (global_before s k))
global_ops o t z p _ h = tt

element_ops : (t : Where) (x : Option (TwoOf × Where)) (p : OpT Where) (c : NodesT Where) → Alone p → AllOps (element t x c) (Do p c)
element_ops (Reg t) (Some (o, z)) p c h = when_ops (adds o && not (register t == 8)) (element_behind o (register t) z c) (Do p c) (global_ops o (register t) z p c h)
element_ops (Reg t) None p c h = tt
element_ops (Slot k) x p c h = tt

offset_ops : (t : Where) (z : Option Where) (p : OpT Where) (c : NodesT Where) → Alone p → AllOps (offset t z c) (Do p c)
offset_ops (Reg t) (Some z) p c h = behind_ops (register t) z p c h
offset_ops (Reg t) None p c h = tt
offset_ops (Slot k) z p c h = tt

else_ops : (x y : Option (ℕ × Used)) (c : NodesT Where) → AllOps x c → AllOps y c → AllOps (or_else x y) c
else_ops None y c h g = g
else_ops (Some x) y c h g = h

used_ops : (c : NodesT Where) → AllOps (used_by c) c
used_ops (Do (TwoO o t p q) c) =
    let h = two_alone o t p q in
    else_ops (element t (operand o p q) c) (groups.computed t (operand o p q)) (Do (TwoO o t p q) c) (element_ops t (operand o p q) (TwoO o t p q) c h) (computed_ops t (operand o p q) (TwoO o t p q) c h)
used_ops (Do (StepO t p q) c) = go (is_in t 8)
  where
    h : Alone (StepO t p q)
    h = step_alone t p q

    go : (b : Bool) → AllOps (cond b (at_sum (beside p q) c) (or_else (indexed t (beside p q) c) (or_else (offset t (beside p q) c) (groups.computed t (operand IADD p q))))) (Do (StepO t p q) c)
    go true = sum_ops (beside p q) (StepO t p q) c (step_alone t p q)
    go false = else_ops (indexed t (beside p q) c) _ (Do (StepO t p q) c) (indexed_ops t (beside p q) (StepO t p q) c (step_alone t p q))
        (else_ops (offset t (beside p q) c) _ (Do (StepO t p q) c) (offset_ops t (beside p q) (StepO t p q) c (step_alone t p q)) (computed_ops t (operand IADD p q) (StepO t p q) c (step_alone t p q)))
used_ops (Do (OutO port p) c) = when_ops (is_in p 8) _ (Do (OutO port p) c) (out_alone port p c, tt)
used_ops c = one_ops None c

known_ops : (gs : List ℕ) (F : Frame) (put : Option (ℕ × ℕ)) (x : Option (ℕ × Used)) (c : NodesT Where) → AllOps x c → AreOps (more_of (with_known gs F put x)) c
known_ops gs F None x c h = tt
known_ops gs F (Some (r, w)) None c h = tt
known_ops gs F (Some (r, w)) (Some (k, u)) c h = h

copy_ops : (F : Frame) (r w : ℕ) (p : OpT Where) (c : NodesT Where) → AreOps (more_of (with_copy F r w p c)) (Do p c)
copy_ops F r w (TwoO u t a b) c = go (unturned (turned u) (first_place r t a b))
  where
    go : (x : Option Where) → AreOps (more_of (copied F r w u x)) (Do (TwoO u t a b) c)
    go None = tt
    go (Some p) = (two_alone u t a b c, tt)
copy_ops F r w (StepO t p n) c = go (unturned (Some IADD) (first_place r t p n))
  where
    loads : (q : Where) (b : Bool) → loads_there r c ≡ b → (i j : Option (Instr Imm) × Instr Imm) → AreOps (more_of (Some (cond b (2, i.0, i.1) (1, j.0, j.1)))) (Do (StepO t p n) c)
    loads q true e i j = (step_alone t p n c, loads_ops r c e)
    loads q false e i j = (step_alone t p n c, tt)

    go : (x : Option Where) → AreOps (more_of (copied_address F r w x c)) (Do (StepO t p n) c)
    go None = tt
    go (Some q) = loads q (loads_there r c) refl (_, _) (_, _)
copy_ops F r w _ c = tt

-- a sum
Sum : ℕ → ℕ → OpT Where → Type 0
Sum r w p = (x : ℕ × ℕ) → summed r w p ≡ Some x → Alone p

sum_alone : (r w : ℕ) (p : OpT Where) → Sum r w p
unfolding Sum
sum_alone r w (TwoO o t a b) x e = two_alone o t a b
sum_alone r w (StepO t a b) x e = step_alone t a b
sum_alone r w _ x e = absurd cc

word_ops : (F : Frame) (put : Option (ℕ × ℕ)) (p : OpT Where) (c : NodesT Where) → AreOps (more_of (with_word F put p c)) (Do p c)
unfolding Sum
word_ops F None p c = tt
word_ops F (Some (r, w)) p c = go (summed r w p) refl
  where
    loads : lead (Do p c) ≡ None → (b : Bool) → loads_there r c ≡ b → (i j : Option (Instr Imm) × Instr Imm) → AreOps (more_of (Some (cond b (2, i.0, i.1) (1, j.0, j.1)))) (Do p c)
    loads h true e i j = (h, loads_ops r c e)
    loads h false e i j = (h, tt)

    go : (x : Option (ℕ × ℕ)) → summed r w p ≡ x → AreOps (more_of (with_sum r x (with_copy F r w p c) c)) (Do p c)
    go None q = copy_ops F r w p c
    go (Some (x, v)) q = loads (sum_alone r w p (x, v) q c) (loads_there r c) refl (_, _) (_, _)

next_ops : (W : Whole) (F : Frame) (o : OpT Where) (c : NodesT Where) → AreOps (more_of (with_next W F o c)) c
next_ops W F o (Do p c) = go (is_spared F (word_put W o))
  where
    go : (b : Bool) → AreOps (more_of (cond b (with_known W.globals F (word_put W o) (used_by (Do p c))) (with_word F (word_put W o) p c))) (Do p c)
    go true = known_ops W.globals F (word_put W o) (used_by (Do p c)) (Do p c) (used_ops (Do p c))
    go false = word_ops F (word_put W o) p c
next_ops W F o _ = tt

last_alone : (u : ℕ) (last : OpT Where) (x : Transfer) → Transfers u last x → Alone last
last_alone u last (Load v) i c = ap (λ z. lead (Do z c)) i ∙ load_alone (Reg v) (Reg u) c
last_alone u last (Store a) i c = ap (λ z. lead (Do z c)) i ∙ store_alone (Reg u) a c

pub one_is : (W : Whole) (F : Frame) (o : OpT Where) (c : NodesT Where) → AreOps (more_of (in_one W F o c)) c
unfolding in_one
one_is W F =
    accessed_case F.lasting F.registers (λ o c x. AreOps (more_of (with_access F x (with_next W F o c))) c) (next_ops W F)
    (λ t l last d x i told. (last_alone t last x i d, tt))
    (λ r n u p last d x lt apart i told. (step_alone (Reg u) p (Reg r) (Do last d), (last_alone u last x i d, tt)))
    (λ t l r n u last d x lt apart i told. (word_before (Reg r) n (Reg u) (Reg t) (Reg r) (Do last d), (step_alone (Reg u) (Reg t) (Reg r) (Do last d), (last_alone u last x i d, tt))))

state_of : Did (State Where) → State Where
state_of (On t) = t
state_of (Ends f t) = t

module _ (S : Setting) (κ : Ctx) where
  -- behind operations the machine stands as it does elsewhere
  none_ahead : (c : NodesT Where) (s : State Where) (m : machine.State) → Mach S κ s m → at_front (holder S) κ c zero s m
  none_ahead Stop s m h = h
  none_ahead (Do o c) s m h = h
  none_ahead (Call t f args c) s m h = h
  none_ahead (Choose p x y c) s m h = h
  none_ahead (Block b c) s m h = h
  none_ahead (Loop b c) s m h = h
  none_ahead (Leave j c) s m h = h
  none_ahead (Again j c) s m h = h
  none_ahead (Return w c) s m h = h

  pub ops_ahead : (k : ℕ) (c : NodesT Where) (s : State Where) (m : machine.State) → AreOps k c → Mach S κ s m → at_front (holder S) κ c k s m
  ops_ahead zero c s m a h = none_ahead c s m h
  ops_ahead (suc k) (Do o c) s m a h = ops_ahead k c s m a.1 h
  ops_ahead (suc k) _ s m a h = absurd a

module _ (S : Setting) where
  -- a word that is known stands in its register
  abbrev pub Stored : ℕ → Option ℕ → State Where → Type 0
  Stored r x s = (n : ℕ) → x ≡ Some n → s.cells (Reg r) ≡ Num n

  pub counted : (x : Option ℕ) (r : ℕ) (s : State Where) → Stored r x s → is_count x ≡ true → (n : ℕ) × (s.cells (Reg r) ≡ Num n) × (is_count (Some n) ≡ true)
  counted None r s h e = absurd cc
  counted (Some n) r s h e = (n, h n refl, e)

  pub one_is_known : (x : Option ℕ) (r : ℕ) (s : State Where) → Stored r x s → is_one x ≡ true → s.cells (Reg r) ≡ Num 1
  one_is_known None r s h e = absurd cc
  one_is_known (Some n) r s h e = h n refl ∙ ap Num (eqb-true n 1 e)

  -- a register takes a cell, which is a word that is known, or not
  pub put_stored : (r q : ℕ) (x val : Option ℕ) (s t : State Where) (c : Answer Cell) → ((n : ℕ) → val ≡ Some n → c ≡ Ok (Num n)) → to registers_and_slots (Reg q) c s ≡ On t → Stored r x s → Stored r (cond (r == q) val x) t
  unfolding state_of
  put_stored r q x val s t (Ok c) is e h = go (r == q) (ap (λ z. (state_of z).cells (Reg r)) (sym e))
    where
      go : (b : Bool) → t.cells (Reg r) ≡ cond b c (s.cells (Reg r)) → Stored r (cond b val x) t
      go true f = λ n i. f ∙ (let e : Ok c ≡ Ok (Num n) = is n i in cc)
      go false f = λ n i. f ∙ h n i
  put_stored r q x val s t (Err Strays) is e h = absurd cc
  put_stored r q x val s t (Err (Faults n)) is e h = absurd cc
