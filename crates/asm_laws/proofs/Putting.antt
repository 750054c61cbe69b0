-- What is moved to the machine's registers before a loop that copies words or fills them, and what is put back behind it.
use Rattle.std.proofs.Common.{ℕ, ◌<◌, arith, Bool, true, false, List, [], ◌∷◌, ◌++◌, Option, Some, None}
use Rattle.std.specs.Prelude.{◌||◌, cond}
use Rattle.v32_isa.specs.declared.instruction.Mov.TheVariants.{RegReg, RegAtReg}
use Rattle.v32_isa.specs.declared.instruction.Instr.TheVariants as instr
use Rattle.asm_items.specs.declared.item.AsmItem.{AsmItem}
use Rattle.asm_items.specs.declared.item.AsmItem.TheVariants as item
use Rattle.mid_code.specs.declared.placed.Where.{Where}
use Rattle.mid_code.specs.Code.{NodesT}
use Rattle.asm_laws.specs.declared.copying.Copying.{Copying}
use Rattle.asm_laws.specs.Copies.{is_left, is_put, source, source_put, move_item, move_items, last_item, when, back_items}
use Rattle.asm_laws.specs.Pieces.{register}
use Rattle.asm_laws.specs.Operations.{unless_left}

-- what holds of no items, of one and of more, holds of those that move what is not put
pub moves_are : (P : List AsmItem → Type 0) → P [] → ((xs ys : List AsmItem) → P xs → P ys → P (xs ++ ys)) → ((t r : ℕ) → P (item.Op (instr.Mov (RegReg t (register r))) ∷ [])) → (y : Copying) (c : NodesT Where) → P (move_items y c)
moves_are P none both one y c = both (move_item (is_put y.to false c) 13 y.to) (move_item (source_put y.from false c) 12 (source y.from y) ++ move_item (is_put y.count false c) 11 y.count) (first (is_put y.to false c) 13 y.to)
    (both (move_item (source_put y.from false c) 12 (source y.from y)) (move_item (is_put y.count false c) 11 y.count) (first (source_put y.from false c) 12 (source y.from y)) (first (is_put y.count false c) 11 y.count))
  where
    first : (b : Bool) (t r : ℕ) → P (move_item b t r)
    first true t r = none
    first false t r = one t r

-- and of those that put back what is asked for
pub backs_are : (P : List AsmItem → Type 0) → P [] → ((xs ys : List AsmItem) → P xs → P ys → P (xs ++ ys)) → (y : Copying) → ((r q : ℕ) → q < 16 → P (last_item r q ∷ [])) → P (item.Op (instr.Mov (RegReg (register y.count) 11)) ∷ []) →
    P (item.Op (instr.Mov (RegAtReg (register y.cell) (register y.to))) ∷ []) → (f : Option ℕ) (J : ℕ → Bool) → P (back_items f y J)
backs_are P none both y last count cell f J = all f
  where
    asked : (b : Bool) (i : AsmItem) → P (i ∷ []) → P (when b i)
    asked true i one = one
    asked false i one = none

    counted : P (when (J y.count) (item.Op (instr.Mov (RegReg (register y.count) 11))))
    counted = asked (J y.count) (item.Op (instr.Mov (RegReg (register y.count) 11))) count

    read : P (when (J y.cell) (item.Op (instr.Mov (RegAtReg (register y.cell) (register y.to)))))
    read = asked (J y.cell) (item.Op (instr.Mov (RegAtReg (register y.cell) (register y.to)))) cell

    all : (f : Option ℕ) → P (back_items f y J)
    all None = both (when (J y.to) (last_item y.to 13)) (when (J y.count) (item.Op (instr.Mov (RegReg (register y.count) 11)))) (asked (J y.to) (last_item y.to 13) (last y.to 13 (omega arith))) counted
    all (Some f) =
        let c = when (J y.count) (item.Op (instr.Mov (RegReg (register y.count) 11))) in
        let d = when (J y.cell) (item.Op (instr.Mov (RegAtReg (register y.cell) (register y.to)))) in
        let t = when (J y.to || J y.cell) (last_item y.to 13) in
        both (when (J f) (last_item f 12)) (t ++ (c ++ d)) (asked (J f) (last_item f 12) (last f 12 (omega arith))) (both t (c ++ d) (asked (J y.to || J y.cell) (last_item y.to 13) (last y.to 13 (omega arith))) (both c d counted read))

-- what holds of no items and of these holds of them where a register may be left
pub unless_is : (P : List AsmItem → Type 0) (y : Copying) (J : Bool) (r : Option ℕ) (xs : List AsmItem) → P [] → P xs → P (unless_left y J r xs)
unless_is P y J None xs none h = h
unless_is P y J (Some r) xs none h = go (is_left y J r)
  where
    go : (b : Bool) → P (cond b [] xs)
    go true = none
    go false = h
