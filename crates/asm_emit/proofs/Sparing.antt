-- Whether an operation in memory spares register 8.
use Rattle.std.proofs.Common.{◌≡◌, ℕ, zero, suc, ◌-◌, false, cond, refl, sym, ap, ◌∙◌, arith}
use Rattle.std.specs.Prelude.{◌==◌, ◌&&◌}
use Rattle.std.proofs.lemmas.Bool.Decides.{nat_tests}
use Rattle.mid_code.specs.declared.placed.Where.{Where}
use Rattle.mid_code.specs.declared.node.Op.{Op}
use Rattle.mid_code.specs.declared.node.Op.TheVariants as op
use Rattle.mid_code.specs.Code.{NodesT, Stop, Do, OpT, ConstO, NullO, MoveO, OneO, TwoO, GlobalO, LocalO, LiteralO, CardO, StepO, ApartO, PtrTestO, LoadO, StoreO, FreshO, EndO, InO, OutO, WaitO, HaltO, uses, node_uses}
use Rattle.mid_code.specs.Functions.{op_before}
use Rattle.asm_laws.specs.Spare.{are_others, group, spares}
use Rattle.asm_emit.specs.inner.Listed.{is_call}
use Rattle.asm_emit.specs.inner.Spared.{group_behind}

one_spares : (o : OpT Where) (c : NodesT Where) (k : ℕ) → spares (Do o c) k ≡ cond (k == 0) (are_others (uses o) && spares c (group o c)) (spares c (k - 1))
one_spares o c zero = refl
one_spares o c (suc k) =
    let on : suc k - 1 ≡ k = omega arith in
    let some : (suc k == 0) ≡ false = grind (arith, nat_tests) in
    ap (spares c) (sym on) ∙ ap (λ b. cond b (are_others (uses o) && spares c (group o c)) (spares c (suc k - 1))) (sym some)

pub op_spares : (o : Op Where) (c : NodesT Where) (k : ℕ) →
    spares (op_before o c) k ≡ cond (is_call o) (are_others (node_uses (op_before o Stop)) && spares c 0) (cond (k == 0) (are_others (node_uses (op_before o Stop)) && spares c (group_behind (op_before o Stop) c)) (spares c (k - 1)))
op_spares (op.Const t word) c k = one_spares (ConstO t word) c k
op_spares (op.Null t) c k = one_spares (NullO t) c k
op_spares (op.Move t a) c k = one_spares (MoveO t a) c k
op_spares (op.One o t a) c k = one_spares (OneO o t a) c k
op_spares (op.Two o t a b) c k = one_spares (TwoO o t a b) c k
op_spares (op.Global t j) c k = one_spares (GlobalO t j) c k
op_spares (op.Local t j) c k = one_spares (LocalO t j) c k
op_spares (op.Literal t j) c k = one_spares (LiteralO t j) c k
op_spares (op.Card t) c k = one_spares (CardO t) c k
op_spares (op.Step t p s) c k = one_spares (StepO t p s) c k
op_spares (op.Apart t p q) c k = one_spares (ApartO t p q) c k
op_spares (op.PtrTest o t p q) c k = one_spares (PtrTestO o t p q) c k
op_spares (op.Load t p) c k = one_spares (LoadO t p) c k
op_spares (op.Store p a) c k = one_spares (StoreO p a) c k
op_spares (op.Fresh j) c k = one_spares (FreshO j) c k
op_spares (op.End j) c k = one_spares (EndO j) c k
op_spares (op.Call t f args) c k = refl
op_spares (op.In t p) c k = one_spares (InO t p) c k
op_spares (op.Out p a) c k = one_spares (OutO p a) c k
op_spares op.Wait c k = one_spares WaitO c k
op_spares op.Halt c k = one_spares HaltO c k
