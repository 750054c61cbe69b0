-- Operations that are done in one go: a `LEA` or a `MOV` of a register and a word, or a copy and an operator with a word.
use Rattle.std.proofs.Common.{◌≡◌, ℕ, ◌<◌, Bool, true, false, cond, List, [], ◌∷◌, ◌++◌, Option, Some, None, refl, subst, arith}
use Rattle.std.specs.Prelude.{◌==◌, ◌&&◌, not, get_or, option_map}
use Rattle.kit_base.specs.Word.{add, sub}
use Rattle.either.specs.declared.Either.TheVariants.{Left}
use Rattle.v32_isa.specs.declared.instruction.Two.{Two as TwoOf}
use Rattle.v32_isa.specs.declared.instruction.Two.TheVariants.{IADD, ISUB}
use Rattle.v32_isa.specs.declared.instruction.Src.TheVariants as src
use Rattle.v32_isa.specs.declared.instruction.Mov.TheVariants.{RegAt, RegAtOff, AtReg, AtOffReg}
use Rattle.v32_isa.specs.declared.instruction.Instr.{Instr}
use Rattle.v32_isa.specs.declared.instruction.Instr.TheVariants as instr
use Rattle.asm_items.specs.declared.item.AsmItem.{AsmItem}
use Rattle.asm_items.specs.declared.item.AsmItem.TheVariants as item
use Rattle.asm_items.specs.Items.{Imm}
use Rattle.mid_code.specs.declared.placed.Where.{Where}
use Rattle.mid_code.specs.declared.placed.Where.TheVariants.{Reg, Slot}
use Rattle.mid_code.specs.Placed.{is_same_place}
use Rattle.mid_code.specs.Code.{OpT, ConstO, TwoO, GlobalO, LocalO, StepO, LoadO, StoreO, OutO, NodesT, Do}
use Rattle.asm_laws.specs.declared.made.Made.{Made}
use Rattle.asm_laws.specs.declared.made.Made.TheVariants.{Both, Known}
use Rattle.asm_laws.specs.declared.used.Used.{Used}
use Rattle.asm_laws.specs.declared.used.Used.TheVariants.{Computed, Loaded, Indexed, Offset, Element, Stored, Sent}
use Rattle.asm_laws.specs.Pieces.{register, is_in, turned, other_word, loads_there}
use Rattle.asm_laws.specs.Spare.{beside, operand, in_slots, at_address, at_sum, index, index_behind, indexed, offset_load, offset_sum, offset_step, offset_behind, offset, adds, element_behind, element, or_else, used_by}
use Rattle.asm_laws.specs.Spare as spare
use Rattle.asm_laws.specs.Asks.{is_unread}
use Rattle.asm_laws.specs.Live.{asked_behind}
use Rattle.asm_laws.specs.Operations.{Frame, Whole, local_word, fetch, fetches, hand, op_items, word_put, first_word, summed, first_place, unturned, copied, copied_address, with_copy, with_sum, with_word, taken, brought, either, added, known, addend, using_it, is_spared, with_known, with_more, with_next, access_item, with_access, in_one, before_it, one_or_more, puts_items, led_items, group_items, given_first, made_both, made_known, made_with, first_made, made_of, made_items, made_or, next_items}
use Rattle.asm_laws.specs.Operations as emitted
use Rattle.asm_laws.specs.declared.copying.Copying.{Copying}
use Rattle.asm_laws.specs.Copies.{lead, move_items}
use Rattle.asm_laws.specs.declared.access.Base.{Base}
use Rattle.asm_laws.specs.declared.access.Base.TheVariants.{Local, Place}
use Rattle.asm_laws.specs.declared.access.Address.{Address}
use Rattle.asm_laws.specs.declared.access.Transfer.{Transfer}
use Rattle.asm_laws.specs.declared.access.Transfer.TheVariants.{Load, Store}
use Rattle.asm_laws.specs.Accesses.{accessed}
use Rattle.asm_laws.proofs.AccessForms.{accessed_case}

module _ (V : ℕ → Type 0) where
  -- a register, and a word of which V holds
  abbrev Fits : Option (ℕ × ℕ) → Type 0
  Fits None = Unit {0}
  Fits (Some (q, v)) = (q < 16) × V v

  -- the same of a word that is put, of what is added where it is taken away, and of all sums
  abbrev Puts : Option (ℕ × ℕ) → Type 0
  Puts None = Unit {0}
  Puts (Some (r, w)) = (r < 16) × V w × V (sub 0 w) × ((x y : ℕ) → V (add x y))

  put_is : (W : Whole) (o : OpT Where) → ((t : Where) (n : ℕ) → o ≡ ConstO t n → V n × V (sub 0 n) × ((x y : ℕ) → V (add x y))) → ((t : Where) (k : ℕ) → o ≡ GlobalO t k → V (get_or W.globals k 0) × V (sub 0 (get_or W.globals k 0)) × ((x y : ℕ) → V (add x y))) → Puts (word_put W o)
  put_is W (ConstO (Reg r) n) f g = let v = f (Reg r) n refl in (omega arith, v.0, v.1, v.2)
  put_is W (GlobalO (Reg r) k) f g = let v = g (Reg r) k refl in (omega arith, v.0, v.1, v.2)
  put_is W _ f g = tt

  other_fits : (r w : ℕ) (t a b : Where) → V w → Fits (option_map (λ q. (q, w)) (other_word r t a b))
  other_fits r w (Reg t) (Reg a) (Reg b) h = go (register t == r) (register a == r) (register b == r)
    where
      go : (x y z : Bool) → Fits (option_map (λ q. (q, w)) (cond x (cond y (cond z None (Some (register b))) (cond z (Some (register a)) None)) None))
      go false y z = tt
      go true true true = tt
      go true true false = (omega arith, h)
      go true false true = (omega arith, h)
      go true false false = tt
  other_fits r w _ _ _ h = tt

  first_fits : (r w : ℕ) (t a b : Where) → V w → Fits (option_map (λ q. (q, w)) (first_word r t a b))
  first_fits r w (Reg t) (Reg a) (Reg b) h = go (register t == r) (register b == r) (register a == r)
    where
      go : (x y z : Bool) → Fits (option_map (λ q. (q, w)) (cond x (cond y (cond z None (Some (register a))) None) None))
      go false y z = tt
      go true false z = tt
      go true true true = tt
      go true true false = (omega arith, h)
  first_fits r w _ _ _ h = tt

  summed_fits : (r w : ℕ) (p : OpT Where) → V w → V (sub 0 w) → Fits (summed r w p)
  summed_fits r w (TwoO IADD t a b) h g = other_fits r w t a b h
  summed_fits r w (TwoO ISUB t a b) h g = first_fits r (sub 0 w) t a b g
  summed_fits r w (StepO t p n) h g = other_fits r w t p n h
  summed_fits r w _ h g = tt

-- an instruction that takes a word of which V holds
abbrev pub TakesWord : (ℕ → Type 0) → Instr Imm → Type 0
TakesWord V (instr.Lea r q (Some (Left v))) = (r < 16) × (q < 16) × V v
TakesWord V (instr.Two o r (src.Imm (Left v))) = (r < 16) × V v
TakesWord V (instr.Mov (RegAt r (Left v))) = (r < 16) × V v
TakesWord V (instr.Mov (RegAtOff r q (Left v))) = (r < 16) × (q < 16) × V v
TakesWord V (instr.Mov (AtReg (Left v) r)) = (r < 16) × V v
TakesWord V (instr.Mov (AtOffReg q (Left v) r)) = (q < 16) × (r < 16) × V v
TakesWord V (instr.Out port (src.Imm (Left v))) = (port < 16384) × V v
TakesWord V _ = ⊥

module _ (W : Whole) (F : Frame) (P : List AsmItem → Type 0) (V : ℕ → Type 0) where
  abbrev One : Type 0
  One = (i : Instr Imm) → TakesWord V i → P (item.Op i ∷ [])

  -- behind an instruction by which a register takes the word of a place, and behind one that adds another register's word to it
  abbrev Fetched : Type 0
  Fetched = (p : Where) (r : ℕ) (i : Instr Imm) → r < 16 → TakesWord V i → P (fetches F p r ∷ item.Op i ∷ [])

  abbrev Added : Type 0
  Added = (r q : ℕ) (i : Instr Imm) → r < 16 → q < 16 → TakesWord V i → P (item.Op (instr.Two IADD r (src.Reg q)) ∷ item.Op i ∷ [])

  abbrev Behind : Type 0
  Behind = Fetched × Added

  copy_is : (o : OpT Where) (r w : ℕ) (p : OpT Where) (c : NodesT Where) → r < 16 → V w → P (op_items W F o) → One → Behind → P (one_or_more W F o (with_copy F r w p c))
  copy_is o r w (TwoO u t a b) c lt fit h one two = go (unturned (turned u) (first_place r t a b))
    where
      go : (x : Option Where) → P (one_or_more W F o (copied F r w u x))
      go None = h
      go (Some p) = two.0 p r (instr.Two u r (src.Imm (Left w))) lt (lt, fit)
  copy_is o r w (StepO t p n) c lt fit h one two = go (unturned (Some IADD) (first_place r t p n))
    where
      loads : (p : Where) (b : Bool) → P (one_or_more W F o (Some (cond b (2, Some (fetch F p r), instr.Mov (RegAtOff r r (Left w))) (1, Some (fetch F p r), instr.Two IADD r (src.Imm (Left w))))))
      loads p true = two.0 p r (instr.Mov (RegAtOff r r (Left w))) lt (lt, lt, fit)
      loads p false = two.0 p r (instr.Two IADD r (src.Imm (Left w))) lt (lt, fit)

      go : (x : Option Where) → P (one_or_more W F o (copied_address F r w x c))
      go None = h
      go (Some p) = loads p (loads_there r c)
  copy_is o r w _ c lt fit h one two = h

  sum_is : (o : OpT Where) (r : ℕ) (s : Option (ℕ × ℕ)) (other : Option (ℕ × Option (Instr Imm) × Instr Imm)) (c : NodesT Where) → r < 16 → Fits V s → P (one_or_more W F o other) → One → P (one_or_more W F o (with_sum r s other c))
  sum_is o r None other c lt fit h one = h
  sum_is o r (Some (q, v)) other c lt fit h one = go (loads_there r c)
    where
      go : (b : Bool) → P (one_or_more W F o (Some (cond b (2, None, instr.Mov (RegAtOff r q (Left v))) (1, None, instr.Lea r q (Some (Left v))))))
      go true = one (instr.Mov (RegAtOff r q (Left v))) (lt, fit.0, fit.1)
      go false = one (instr.Lea r q (Some (Left v))) (lt, fit.0, fit.1)

  word_is : (o : OpT Where) (s : Option (ℕ × ℕ)) (p : OpT Where) (c : NodesT Where) → Puts V s → P (op_items W F o) → One → Behind → P (one_or_more W F o (with_word F s p c))
  word_is o None p c fit h one two = h
  word_is o (Some (r, w)) p c fit h one two = sum_is o r (summed r w p) (with_copy F r w p c) c fit.0 (summed_fits V r w p fit.1 fit.2) (copy_is o r w p c fit.0 fit.1 h one two) one

  -- ---- a known word in a register that is spare

  -- behind what comes first, where there is something
  brought_is : (p : Where) (r : ℕ) (i : Instr Imm) → r < 16 → TakesWord V i → One → Behind → P (before_it (brought F p r) ++ item.Op i ∷ [])
  brought_is (Reg q) r i lt t one two = one i t
  brought_is (Slot k) r i lt t one two = two.0 (Slot k) r i lt t

  either_is : (p a : Where) (i : Instr Imm) → TakesWord V i → One → Behind → P (before_it (either (brought F p 9) (brought F a 10)) ++ item.Op i ∷ [])
  either_is (Reg q) a i t one two = brought_is a 10 i (omega arith) t one two
  either_is (Slot k) a i t one two = two.0 (Slot k) 9 i (omega arith) t

  taken_is : (p : Where) (r : ℕ) (i : Instr Imm) → r < 16 → TakesWord V i → One → Behind → P (before_it (taken F p r) ++ item.Op i ∷ [])
  taken_is p r i lt t one two = go (is_in p r)
    where
      go : (b : Bool) → P (before_it (cond b None (Some (fetch F p r))) ++ item.Op i ∷ [])
      go true = one i t
      go false = two.0 p r i lt t

  hand_low : (p : Where) (r : ℕ) → r < 16 → hand p r < 16
  hand_low (Reg q) r lt = omega arith
  hand_low (Slot k) r lt = lt

  added_is : (o : TwoOf) (w : ℕ) → V w → V (sub 0 w) → (v : ℕ) → added o w ≡ Some v → V v
  added_is IADD w h g v e = let n : w ≡ v = cc in subst V n h
  added_is ISUB w h g v e = let n : sub 0 w ≡ v = cc in subst V n g
  added_is _ w h g v e = absurd cc

  known_is : (o : TwoOf) (t : ℕ) (p : Where) (w : ℕ) (z : Option ℕ) → t < 16 → V w → ((v : ℕ) → z ≡ Some v → V v) → One → Behind → P (before_it (known F o t p w z).0 ++ item.Op (known F o t p w z).1 ∷ [])
  known_is o t (Reg q) w (Some v) lt h g one two = one (instr.Lea t (register q) (Some (Left v))) (lt, omega arith, g v refl)
  known_is o t (Reg q) w None lt h g one two = taken_is (Reg q) t (instr.Two o t (src.Imm (Left w))) lt (lt, h) one two
  known_is o t (Slot k) w (Some v) lt h g one two = taken_is (Slot k) t (instr.Two o t (src.Imm (Left w))) lt (lt, h) one two
  known_is o t (Slot k) w None lt h g one two = taken_is (Slot k) t (instr.Two o t (src.Imm (Left w))) lt (lt, h) one two

  -- the registers of what is done with it
  abbrev Low : Used → Type 0
  Low (Computed o t p) = t < 16
  Low (Loaded t p) = t < 16
  Low (Indexed t q) = (t < 16) × (q < 16)
  Low (Offset t p n) = t < 16
  Low (Element o t p k) = t < 16
  Low (Stored p a) = Unit {0}
  Low (Sent port) = Unit {0}

  used_is : (gs : List ℕ) (w : ℕ) (u : Used) → Low u → V w → V (sub 0 w) → ((x y : ℕ) → V (add x y)) → One → Behind → P (before_it (using_it gs F w u).0 ++ item.Op (using_it gs F w u).1 ∷ [])
  used_is gs w (Computed o t p) lt h g sums one two = known_is o t p w (added o w) lt h (added_is o w h g) one two
  used_is gs w (Loaded t None) lt h g sums one two = one (instr.Mov (RegAt t (Left w))) (lt, h)
  used_is gs w (Loaded t (Some p)) lt h g sums one two = brought_is p 9 (instr.Mov (RegAtOff t (hand p 9) (Left w))) (omega arith) (lt, hand_low p 9 (omega arith), h) one two
  used_is gs w (Indexed t q) lt h g sums one two = two.1 t q (instr.Mov (RegAtOff t t (Left w))) lt.0 lt.1 (lt.0, lt.0, h)
  used_is gs w (Offset t p n) lt h g sums one two = brought_is p 9 (instr.Mov (RegAtOff t (hand p 9) (Left (add w n)))) (omega arith) (lt, hand_low p 9 (omega arith), sums w n) one two
  used_is gs w (Element o t p k) lt h g sums one two = brought_is p 9 (instr.Mov (RegAtOff t (hand p 9) (Left (add (addend o w) (get_or gs k 0))))) (omega arith) (lt, hand_low p 9 (omega arith), sums (addend o w) (get_or gs k 0)) one two
  used_is gs w (Stored None a) lt h g sums one two = brought_is a 10 (instr.Mov (AtReg (Left w) (hand a 10))) (omega arith) (hand_low a 10 (omega arith), h) one two
  used_is gs w (Stored (Some p) a) lt h g sums one two = either_is p a (instr.Mov (AtOffReg (hand p 9) (Left w) (hand a 10))) (hand_low p 9 (omega arith), hand_low a 10 (omega arith), h) one two
  used_is gs w (Sent port) lt h g sums one two = one (instr.Out (emitted.port port) (src.Imm (Left w))) (omega arith, h)

  -- they are below 16
  abbrev AllLow : Option (ℕ × Used) → Type 0
  AllLow None = Unit {0}
  AllLow (Some (k, u)) = Low u

  if_low : (b : Bool) (x : Option (ℕ × Used)) → AllLow x → AllLow (cond b None x)
  if_low true x h = tt
  if_low false x h = h

  when_low : (b : Bool) (x : Option (ℕ × Used)) → AllLow x → AllLow (cond b x None)
  when_low true x h = h
  when_low false x h = tt

  computed_low : (t : Where) (x : Option (TwoOf × Where)) → AllLow (spare.computed t x)
  computed_low (Reg t) (Some (o, p)) = if_low (register t == 8) (Some (1, Computed o (register t) p)) (omega arith)
  computed_low (Reg t) None = tt
  computed_low (Slot k) x = tt

  address_low : (k : ℕ) (p : Option Where) (c : NodesT Where) → AllLow (at_address k p c)
  address_low k p (Do (LoadO (Reg t) q) c) = when_low (is_in q 8 && not (register t == 8)) (Some (k, Loaded (register t) p)) (omega arith)
  address_low k p (Do (StoreO q a) c) = when_low (is_in q 8 && not (is_in a 8)) (cond (in_slots p a) None (Some (k, Stored p a))) (if_low (in_slots p a) (Some (k, Stored p a)) tt)
  address_low k p _ = tt

  sum_low : (p : Option Where) (c : NodesT Where) → AllLow (at_sum p c)
  sum_low None c = tt
  sum_low (Some p) c = address_low 2 (Some p) c

  index_low : (t : ℕ) (x : Option ℕ) → t < 16 → ((q : ℕ) → x ≡ Some q → q < 16) → AllLow (index t x)
  index_low t None lt h = tt
  index_low t (Some q) lt h = if_low (q == 8) (Some (3, Indexed t q)) (lt, h q refl)

  other_low : (r q : ℕ) (t a b : Where) → other_word r t a b ≡ Some q → q < 16
  other_low r q (Reg t) (Reg a) (Reg b) = go (register t == r) (register a == r) (register b == r)
    where
      go : (x y z : Bool) → cond x (cond y (cond z None (Some (register b))) (cond z (Some (register a)) None)) None ≡ Some q → q < 16
      go false y z e = absurd cc
      go true true true e = absurd cc
      go true true false e = let n : register b ≡ q = cc in omega (arith, n)
      go true false true e = let n : register a ≡ q = cc in omega (arith, n)
      go true false false e = absurd cc
  other_low r q (Slot k) a b = λ e. absurd cc
  other_low r q (Reg t) (Slot k) b = λ e. absurd cc
  other_low r q (Reg t) (Reg a) (Slot k) = λ e. absurd cc

  behind_low : (t : ℕ) (c : NodesT Where) → t < 16 → AllLow (index_behind t c)
  behind_low t (Do (StepO u p q) c) lt = when_low (loads_there t c) (index t (other_word t u p q)) (index_low t (other_word t u p q) lt (λ k e. other_low t k u p q e))
  behind_low t _ lt = tt

  indexed_low : (t : Where) (z : Option Where) (c : NodesT Where) → AllLow (indexed t z c)
  indexed_low (Reg t) (Some (Reg q)) c = when_low (register q == register t) (index_behind (register t) c) (behind_low (register t) c (omega arith))
  indexed_low (Reg t) (Some (Slot k)) c = tt
  indexed_low (Reg t) None c = tt
  indexed_low (Slot k) z c = tt

  offset_low : (t : ℕ) (u : Used) (c : NodesT Where) → Low u → AllLow (offset_step t u c)
  offset_low t u (Do (StepO s a b) c) low = sum (beside a b) c
    where
      load : (c : NodesT Where) → AllLow (offset_load t u c)
      load (Do (LoadO (Reg d) y) c) = when_low ((register d == t) && is_in y 8) (Some (4, u)) low
      load _ = tt

      sum : (x : Option Where) (c : NodesT Where) → AllLow (offset_sum t u s x c)
      sum (Some (Reg y)) c = when_low ((register y == t) && is_in s 8) (offset_load t u c) (load c)
      sum (Some (Slot k)) c = tt
      sum None c = tt
  offset_low t u _ low = tt

  number_low : (t : ℕ) (z : Where) (c : NodesT Where) → t < 16 → AllLow (offset_behind t z c)
  number_low t z (Do (ConstO s n) c) lt = when_low (is_in s 8) (offset_step t (Offset t z n) c) (offset_low t (Offset t z n) c lt)
  number_low t z _ lt = tt

  at_offset_low : (t : Where) (z : Option Where) (c : NodesT Where) → AllLow (offset t z c)
  at_offset_low (Reg t) (Some z) c = number_low (register t) z c (omega arith)
  at_offset_low (Reg t) None c = tt
  at_offset_low (Slot k) z c = tt

  global_low : (o : TwoOf) (t : ℕ) (z : Where) (c : NodesT Where) → t < 16 → AllLow (element_behind o t z c)
  global_low o t z (Do (GlobalO s k) c) lt = when_low (is_in s 8) (offset_step t (Element o t z k) c) (offset_low t (Element o t z k) c lt)
  global_low o t z _ lt = tt

  element_low : (t : Where) (x : Option (TwoOf × Where)) (c : NodesT Where) → AllLow (element t x c)
  element_low (Reg t) (Some (o, z)) c = when_low (adds o && not (register t == 8)) (element_behind o (register t) z c) (global_low o (register t) z c (omega arith))
  element_low (Reg t) None c = tt
  element_low (Slot k) x c = tt

  else_low : (x y : Option (ℕ × Used)) → AllLow x → AllLow y → AllLow (or_else x y)
  else_low None y h g = g
  else_low (Some x) y h g = h

  pub used_low : (c : NodesT Where) → AllLow (used_by c)
  used_low (Do (TwoO o t p q) c) = else_low (element t (operand o p q) c) (spare.computed t (operand o p q)) (element_low t (operand o p q) c) (computed_low t (operand o p q))
  used_low (Do (StepO t p q) c) = go (is_in t 8)
    where
      go : (b : Bool) → AllLow (cond b (at_sum (beside p q) c) (or_else (indexed t (beside p q) c) (or_else (offset t (beside p q) c) (spare.computed t (operand IADD p q)))))
      go true = sum_low (beside p q) c
      go false = else_low (indexed t (beside p q) c) _ (indexed_low t (beside p q) c) (else_low (offset t (beside p q) c) (spare.computed t (operand IADD p q)) (at_offset_low t (beside p q) c) (computed_low t (operand IADD p q)))
  used_low (Do (OutO port p) c) = when_low (is_in p 8) (Some (1, Sent port)) tt
  used_low c = address_low 1 None c

  with_known_is : (o : OpT Where) (s : Option (ℕ × ℕ)) (x : Option (ℕ × Used)) → AllLow x → Puts V s → P (op_items W F o) → One → Behind → P (one_or_more W F o (with_known W.globals F s x))
  with_known_is o None x low fit h one two = h
  with_known_is o (Some (r, w)) None low fit h one two = h
  with_known_is o (Some (r, w)) (Some (k, u)) low fit h one two = used_is W.globals w u low fit.1 fit.2 fit.3 one two

  more_is : (o : OpT Where) (s : Option (ℕ × ℕ)) (p : OpT Where) (c : NodesT Where) → Puts V s → P (op_items W F o) → One → Behind → P (one_or_more W F o (with_more W.globals F s p c))
  more_is o s p c fit h one two = go (is_spared F s)
    where
      go : (b : Bool) → P (one_or_more W F o (cond b (with_known W.globals F s (used_by (Do p c))) (with_word F s p c)))
      go true = with_known_is o s (used_by (Do p c)) (used_low (Do p c)) fit h one two
      go false = word_is o s p c fit h one two

  next_with_is : (o : OpT Where) (c : NodesT Where) → ((t : Where) (n : ℕ) → o ≡ ConstO t n → V n × V (sub 0 n) × ((x y : ℕ) → V (add x y))) → ((t : Where) (k : ℕ) → o ≡ GlobalO t k → V (get_or W.globals k 0) × V (sub 0 (get_or W.globals k 0)) × ((x y : ℕ) → V (add x y))) → P (op_items W F o) → One → Behind → P (one_or_more W F o (with_next W F o c))
  next_with_is o (Do p c) f g h one two = more_is o (word_put W o) p c (put_is V W o f g) h one two
  next_with_is o _ f g h one two = h

  -- ---- an access at an address that nothing else asks for

  abbrev TakesBase : Base → ℕ → Type 0
  TakesBase (Local k) n = V (add (local_word F k) n)
  TakesBase (Place p) n = V n

  access_is : (b : Base) (n : ℕ) (x : Transfer) → TakesBase b n → One → Behind → P (before_it (access_item F b n x).0 ++ item.Op (access_item F b n x).1 ∷ [])
  access_is (Local k) n (Load v) fit one two = one (instr.Mov (RegAtOff (register v) 15 (Left (add (local_word F k) n)))) (omega arith, omega arith, fit)
  access_is (Local k) n (Store a) fit one two = brought_is a 10 (instr.Mov (AtOffReg 15 (Left (add (local_word F k) n)) (hand a 10))) (omega arith) (omega arith, hand_low a 10 (omega arith), fit) one two
  access_is (Place p) n (Load v) fit one two = brought_is p 9 (instr.Mov (RegAtOff (register v) (hand p 9) (Left n))) (omega arith) (omega arith, hand_low p 9 (omega arith), fit) one two
  access_is (Place p) n (Store a) fit one two = either_is p a (instr.Mov (AtOffReg (hand p 9) (Left n) (hand a 10))) (hand_low p 9 (omega arith), hand_low a 10 (omega arith), fit) one two

  -- the word that such an instruction takes
  abbrev Taken : OpT Where → NodesT Where → Option (ℕ × Address × Transfer) → Type 0
  Taken o c None = Unit {0}
  Taken o c (Some (k, y, x)) = ((t : Where) (n : ℕ) → o ≡ ConstO t n → V n) → ((t : Where) (k : ℕ) → o ≡ LocalO t k → (x y : ℕ) → V (add x y)) → TakesBase y.base y.offset

  access_takes : (o : OpT Where) (c : NodesT Where) → Taken o c (accessed F.lasting F.registers o c)
  access_takes = accessed_case F.lasting F.registers Taken (λ o c. tt) (λ t l last d x i told f g. g (Reg t) l refl (local_word F l) 0) (λ r n u p last d x lt apart i told f g. f (Reg r) n refl) (λ t l r n u last d x lt apart i told f g. g (Reg t) l refl (local_word F l) n)

  -- what holds of the items of an operation, and of each such instruction, alone and behind one that fetches or adds a word, holds of what is done
  pub one_or_more_is : (o : OpT Where) (c : NodesT Where) → ((t : Where) (n : ℕ) → o ≡ ConstO t n → V n × V (sub 0 n) × ((x y : ℕ) → V (add x y))) → ((t : Where) (k : ℕ) → o ≡ GlobalO t k → V (get_or W.globals k 0) × V (sub 0 (get_or W.globals k 0)) × ((x y : ℕ) → V (add x y))) →
      ((t : Where) (k : ℕ) → o ≡ LocalO t k → (x y : ℕ) → V (add x y)) → P (op_items W F o) → One → Behind → P (one_or_more W F o (in_one W F o c))
  unfolding in_one
  one_or_more_is o c f g l h one two = go (accessed F.lasting F.registers o c) (access_takes o c)
    where
      go : (x : Option (ℕ × Address × Transfer)) → Taken o c x → P (one_or_more W F o (with_access F x (with_next W F o c)))
      go None t = next_with_is o c f g h one two
      go (Some (k, y, x)) t = access_is y.base y.offset x (t (λ w n e. (f w n e).0) l) one two

  -- what is known of a word that an operator makes to be given back
  abbrev MadeFits : OpT Where → Option (ℕ × Made) → Type 0
  MadeFits o None = Unit {0}
  MadeFits o (Some (k, Both u a b)) = (t : Where) × (o ≡ TwoO u t a b)
  MadeFits o (Some (k, Known u a w)) = V w × V (sub 0 w) × ((x y : ℕ) → V (add x y))

  abbrev OfBoth : OpT Where → Type 0
  OfBoth o = (u : TwoOf) (t a b : Where) → o ≡ TwoO u t a b → P (made_items F (Both u a b))

  both_fit : (o : OpT Where) (p : Option Where) → MadeFits o (made_both o p)
  both_fit (TwoO u t a b) (Some p) = go (is_same_place p t)
    where
      go : (same : Bool) → MadeFits (TwoO u t a b) (cond same (Some (1, Both u a b)) None)
      go true = (t, refl)
      go false = tt
  both_fit _ _ = tt

  known_fit : (o : OpT Where) (p : Option Where) (t : Where) (s : Option (ℕ × ℕ)) (x : Option (TwoOf × Where)) → Puts V s → MadeFits o (made_known F p t s x)
  known_fit o (Some p) t (Some (r, w)) (Some (u, q)) h = go (is_spared F (Some (r, w)) && is_same_place p t)
    where
      go : (b : Bool) → MadeFits o (cond b (Some (2, Known u q w)) None)
      go true = (h.1, h.2, h.3)
      go false = tt
  known_fit o _ t _ _ h = tt

  with_fit : (o : OpT Where) (s : Option (ℕ × ℕ)) (c : NodesT Where) → Puts V s → MadeFits o (made_with F s c)
  with_fit o s (Do (TwoO u t a b) c) h = known_fit o (given_first c) t s (operand u a b) h
  with_fit o s _ h = tt

  first_fit : (o : OpT Where) (x y : Option (ℕ × Made)) → MadeFits o x → MadeFits o y → MadeFits o (first_made x y)
  first_fit o None y h g = g
  first_fit o (Some x) y h g = h

  made_is : (o : OpT Where) (x : Option (ℕ × Made)) (other : List AsmItem) → MadeFits o x → One → Behind → OfBoth o → P other → P (made_or F x other)
  made_is o None other fit one two both h = h
  made_is o (Some (k, Both u a b)) other fit one two both h = both u fit.0 a b fit.1
  made_is o (Some (k, Known u a w)) other fit one two both h = known_is u 9 a w (added u w) (omega arith) fit.0 (added_is u w fit.0 fit.1) one two

  -- and of what is given back right behind, where that comes next, or else of other items
  pub made_or_is : (o : OpT Where) (c : NodesT Where) (other : List AsmItem) → ((t : Where) (n : ℕ) → o ≡ ConstO t n → V n × V (sub 0 n) × ((x y : ℕ) → V (add x y))) → ((t : Where) (k : ℕ) → o ≡ GlobalO t k → V (get_or W.globals k 0) × V (sub 0 (get_or W.globals k 0)) × ((x y : ℕ) → V (add x y))) → One → Behind → OfBoth o → P other → P (made_or F (made_of W F o c) other)
  unfolding made_of
  made_or_is o c other f g one two both h =
      made_is o (first_made (made_both o (given_first c)) (made_with F (word_put W o) c)) other
      (first_fit o (made_both o (given_first c)) (made_with F (word_put W o) c) (both_fit o (given_first c)) (with_fit o (word_put W o) c (put_is V W o f g))) one two both h

  -- and of all that comes next
  pub next_is : (o : OpT Where) (c : NodesT Where) → ((t : Where) (n : ℕ) → o ≡ ConstO t n → V n × V (sub 0 n) × ((x y : ℕ) → V (add x y))) → ((t : Where) (k : ℕ) → o ≡ GlobalO t k → V (get_or W.globals k 0) × V (sub 0 (get_or W.globals k 0)) × ((x y : ℕ) → V (add x y))) → One → Behind → OfBoth o → P (group_items W F o c) → P (next_items W F o c)
  next_is o c f g one two both h = made_or_is o c (group_items W F o c) f g one two both h

-- the same where operations before a loop that copies words are done one after another
pub group_is : (W : Whole) (F : Frame) (P : List AsmItem → Type 0) (o : OpT Where) (c : NodesT Where) → P [] → P (one_or_more W F o (in_one W F o c)) → ((k : ℕ) (y : Copying) → lead (Do o c) ≡ Some (k, y) → P (puts_items W F y (asked_behind F.lasting c y.one) (Do o c) k ++ move_items y (Do o c))) → P (group_items W F o c)
group_is W F P o c none one puts = whole (is_unread (Do o c)) (go (lead (Do o c)) refl)
  where
    whole : (b : Bool) → P (led_items W F o c (lead (Do o c))) → P (cond b [] (led_items W F o c (lead (Do o c))))
    whole true h = none
    whole false h = h

    go : (x : Option (ℕ × Copying)) → lead (Do o c) ≡ x → P (led_items W F o c x)
    go None e = one
    go (Some (k, y)) e = puts k y e
