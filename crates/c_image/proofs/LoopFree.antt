-- Functions that take no turns, and call only such functions, have a number of instructions.
use Rattle.std.proofs.Common.{◌≡◌, ℕ, zero, suc, ◌⊎◌, inl, inr, List, [], ◌∷◌, ◌++◌, map, Some, None, slice_get, refl, sym, ap, subst, ◌∙◌, append_assoc}
use Rattle.either.specs.declared.Either.TheVariants.{Left, Right}
use Rattle.v32_isa.specs.declared.instruction.Plain.TheVariants.{HLT, WAIT, RET, MOVS, SETS}
use Rattle.v32_isa.specs.declared.instruction.Go.TheVariants.{JMP, CALL}
use Rattle.v32_isa.specs.declared.instruction.One.TheVariants.{PUSH, POP, CMPS, CIB, NOT, BNOT, ISGN, IABS}
use Rattle.v32_isa.specs.declared.instruction.Src.TheVariants as src
use Rattle.v32_isa.specs.declared.instruction.Instr.{Instr}
use Rattle.v32_isa.specs.declared.instruction.Instr.TheVariants as instr
use Rattle.asm_items.specs.declared.item.AsmItem.{AsmItem}
use Rattle.asm_items.specs.declared.item.AsmItem.TheVariants.{Label, Op, Integer, Pointer}
use Rattle.asm_items.specs.Items.{Imm}
use Rattle.assembler.specs.Faults.{fault_of}
use Rattle.c_types.specs.Programs.{TFunctionT, ProgramT}
use Rattle.c_meaning.specs.Setting.{setting}
use Rattle.mid_code.specs.declared.placed.Where.{Where}
use Rattle.mid_code.specs.Code.{FunctionT, NodesT}
use Rattle.asm_laws.specs.Labelled.{label_of_function}
use Rattle.asm_laws.specs.Numbers.{behind}
use Rattle.asm_emit.specs.EmittedFrom as emitted
use Rattle.asm_emit.specs.EmittedFrom.{AreFunctions, AreItemsOf, IsCalled}
use Rattle.cycle_bound.specs.Forward.{AllGoOn, EndsInReturn, HasNumber}
use Rattle.cycle_bound.proofs.Forwards.{has_number}
use Rattle.cycle_bound.proofs.Once.{behind_one}
use Rattle.c_compile.specs.Straight.{EachStraight, IsStraight}
use Rattle.c_image.specs.LoopFree.{IsLoopFree}

ends_so : (before : List AsmItem) → EndsInReturn (before ++ Op (instr.Plain RET) ∷ [])
ends_so [] = refl
ends_so (x ∷ []) = refl
ends_so (x ∷ y ∷ is) = ends_so (y ∷ is)

module _ (items : List AsmItem) (names : List (List ℕ)) (body : NodesT Where) (called : (l : List ℕ) → IsCalled names body l → HasNumber items (behind items l)) where
  -- an instruction that the emitter lets go on
  op_on : (i : Instr Imm) (is : List AsmItem) → emitted.GoesOn names body (Op i) is → AllGoOn items is → AllGoOn items (Op i ∷ is)
  op_on (instr.Plain HLT) is g h = (tt, h)
  op_on (instr.Plain WAIT) is g h = (tt, h)
  op_on (instr.Plain RET) is g h = (tt, h)
  op_on (instr.Plain MOVS) is g h = absurd g
  op_on (instr.Plain SETS) is g h = absurd g
  op_on (instr.Go JMP (src.Imm (Left w))) is g h = absurd g
  op_on (instr.Go JMP (src.Imm (Right l))) is g h = (g, h)
  op_on (instr.Go JMP (src.Reg r)) is g h = absurd g
  op_on (instr.Go CALL (src.Imm (Left w))) is g h = absurd g
  op_on (instr.Go CALL (src.Imm (Right l))) is g h = (called l g, h)
  op_on (instr.Go CALL (src.Reg r)) is g h = absurd g
  op_on (instr.Branch b a (src.Imm (Left w))) is g h = absurd g
  op_on (instr.Branch b a (src.Imm (Right l))) is g h = (g, h)
  op_on (instr.Branch b a (src.Reg r)) is g h = absurd g
  op_on (instr.Two t a x) is g h = (tt, h)
  op_on (instr.One PUSH a) is g h = (tt, h)
  op_on (instr.One POP a) is g h = (tt, h)
  op_on (instr.One CMPS a) is g h = absurd g
  op_on (instr.One CIB a) is g h = (tt, h)
  op_on (instr.One NOT a) is g h = (tt, h)
  op_on (instr.One BNOT a) is g h = (tt, h)
  op_on (instr.One ISGN a) is g h = (tt, h)
  op_on (instr.One IABS a) is g h = (tt, h)
  op_on (instr.Mov m) is g h = (tt, h)
  op_on (instr.Lea a b i) is g h = (tt, h)
  op_on (instr.In a p) is g h = (tt, h)
  op_on (instr.Out p x) is g h = (tt, h)

  all_on : (own : List AsmItem) → emitted.AllGoOn names body own → AllGoOn items own
  all_on [] g = tt
  all_on (Label l ∷ is) g = (tt, all_on is g.1)
  all_on (Op i ∷ is) g = op_on i is g.0 (all_on is g.1)
  all_on (Integer w ∷ is) g = absurd g.0
  all_on (Pointer l ∷ is) g = absurd g.0

module _ (p : ProgramT) (items : List AsmItem) (ok : fault_of items ≡ None) (names : List (List ℕ)) where
  -- the items of a function
  record Found (f : TFunctionT) : Type 0 where
    code : FunctionT Where
    before : List AsmItem
    own : List AsmItem
    rest : List AsmItem
    whole : items ≡ before ++ Label (label_of_function f.name) ∷ (own ++ rest)
    are : AreItemsOf names code own
    straight : IsStraight (setting p []) f code

  find : (before rest : List AsmItem) (fs : List TFunctionT) (ks : List (FunctionT Where)) → items ≡ before ++ rest → AreFunctions names (map (λ f. f.name) fs) ks rest → EachStraight (setting p []) fs ks
      → (n : ℕ) (f : TFunctionT) → slice_get fs n ≡ Some f → Found f
  find before rest [] ks whole are each n f e = absurd cc
  find before rest (g ∷ fs) [] whole are each n f e = absurd each
  find before rest (g ∷ fs) (k ∷ ks) whole are each zero f e =
      let same : g ≡ f = cc in
      subst Found same (record { code = k; before = before; own = are.0; rest = are.1; whole = whole ∙ ap (λ xs. before ++ xs) are.2; are = are.3; straight = each.0 })
  find before rest (g ∷ fs) (k ∷ ks) whole are each (suc n) f e =
      let on : items ≡ (before ++ Label (label_of_function g.name) ∷ are.0) ++ are.1 = whole ∙ ap (λ xs. before ++ xs) are.2 ∙ sym (append_assoc before (Label (label_of_function g.name) ∷ are.0) are.1) in
      find (before ++ Label (label_of_function g.name) ∷ are.0) are.1 fs ks on are.4 each.1 n f e

  named : (fs : List TFunctionT) (n : ℕ) (name : List ℕ) → slice_get (map (λ f. f.name) fs) n ≡ Some name → (f : TFunctionT) × (slice_get fs n ≡ Some f) × (name ≡ f.name)
  named [] n name e = absurd cc
  named (f ∷ fs) zero name e = (f, refl, (let same : f.name ≡ name = cc in sym same))
  named (f ∷ fs) (suc n) name e = named fs n name e

  module _ (start rest : List AsmItem) (ks : List (FunctionT Where)) (whole : items ≡ start ++ rest) (names_are : names ≡ map (λ f. f.name) p.functions)
      (are : AreFunctions names names ks rest) (each : EachStraight (setting p []) p.functions ks) where
    found : (n : ℕ) (f : TFunctionT) → slice_get p.functions n ≡ Some f → Found f
    found n f e = find start rest p.functions ks whole (subst (λ left. AreFunctions names left ks rest) names_are are) each n f e

    pub numbered : (depth n : ℕ) (f : TFunctionT) → slice_get p.functions n ≡ Some f → IsLoopFree p depth f → HasNumber items (behind items (label_of_function f.name))
    unfolding IsLoopFree
    numbered zero n f e free = absurd free
    numbered (suc depth) n f e free = go (found n f e) (numbered depth)
      where
        go : Found f → ((m : ℕ) (g : TFunctionT) → slice_get p.functions m ≡ Some g → IsLoopFree p depth g → HasNumber items (behind items (label_of_function g.name))) → HasNumber items (behind items (label_of_function f.name))
        go d below =
            let straight = d.straight free.0 in
            let called : (l : List ℕ) → IsCalled names d.code.body l → HasNumber items (behind items l) = λ l c.
            let g = named p.functions c.0 c.1 (subst (λ ns. slice_get ns c.0 ≡ Some c.1) names_are c.2) in
            subst (λ k. HasNumber items (behind items k)) (sym (c.3 ∙ ap label_of_function g.2)) (below c.0 g.0 g.1 (free.1 c.0 g.0 (straight.1 c.0 c.4) g.1)) in
            let goes = all_on items names d.code.body called d.own (d.are.straight straight.0) in
            let ends : EndsInReturn d.own = subst EndsInReturn (sym d.are.ends.1) (ends_so d.are.ends.0) in
            let place : behind items (label_of_function f.name) ≡ d.own ++ d.rest = behind_one items d.before (d.own ++ d.rest) (label_of_function f.name) ok d.whole in
            let stands : items ≡ (d.before ++ Label (label_of_function f.name) ∷ []) ++ (d.own ++ d.rest) = d.whole ∙ sym (append_assoc d.before (Label (label_of_function f.name) ∷ []) (d.own ++ d.rest)) in
            subst (HasNumber items) (sym place) (has_number items ok d.rest d.own (d.before ++ Label (label_of_function f.name) ∷ []) stands ends goes)
