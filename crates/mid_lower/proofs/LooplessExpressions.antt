-- A typed expression that copies no structure has no loop.
use Rattle.std.proofs.Common.{◌≡◌, ℕ, zero, ◌+◌, inr, arith, refl, ap, ◌∙◌, false, List, Some, None}
use Rattle.c_types.specs.Types.{Ty}
use Rattle.c_types.specs.Typed.{TExprT, Typed, NumberK, NullK, LiteralK, GlobalK, LocalK, UnaryK, BinaryK, AssignK, StepK, IndexK, MemberK, ArrowK, CastK, CallK, InK, OutK, WaitK, HaltK, CardK, TExprTs, NoX, MoreX}
use Rattle.c_exprs.specs.Nodes.{type_of_typed, is_place}
use Rattle.c_facts.specs.Sound.{Scene, IsTyped, AreValues}
use Rattle.c_types.specs.Kinds.{is_structure}
use Rattle.c_meaning.specs.Frames.{over, over_all}
use Rattle.lower_trees.specs.Shape.{Shape, params_of, result_of}
use Rattle.lower_trees.specs.Flags.{is_flag}
use Rattle.lower_trees.specs.Pieces.{Nodes, coded}
use Rattle.lower_trees.specs.Expressions.{second, beyond, spots, later_types, low, low_args, low_value, low_test}
use Rattle.mid_lower.specs.SourceLoops.{reads_all, copies}
use Rattle.mid_lower.proofs.Operands.{number_scalar, behind_scalar, from_scalar, unary_operand, binary_operands, index_operands, compound_operands, assigned_operands, cast_operand}
use Rattle.mid_lower.proofs.SoundExpressions.{scalar_of}
use Rattle.mid_lower.proofs.Tallies.{tally, of_loops, one_is, converted_tally}
use Rattle.mid_lower.proofs.QuietForms.{Quiet, Unread, scalar_unread, value_quiet, test_quiet, unary_quiet, binary_quiet, assign_quiet, step_quiet, index_quiet, member_tally, called_tally, given_tally}

pub unread_of : (x : TExprT) → is_structure (type_of_typed x) ≡ false → Unread of_loops x
unread_of x e = scalar_unread of_loops x (scalar_of x e)

module _ (z : Scene) (h : Shape) where
  mutual
    pub low_quiet : (x : TExprT) → IsTyped z x → over copies x ≡ zero → Quiet of_loops (low h x)
    low_quiet (Typed (NumberK x) ty span) is e t n m c = refl
    low_quiet (Typed NullK ty span) is e t n m c = refl
    low_quiet (Typed (LiteralK number) ty span) is e t n m c = refl
    low_quiet (Typed (GlobalK number) ty span) is e t n m c = refl
    low_quiet (Typed (LocalK number) ty span) is e t n m c = refl
    low_quiet (Typed (UnaryK op x) ty span) is e t n m c =
        unary_quiet of_loops h op x (low h x) (λ g. unread_of x (unary_operand op (type_of_typed x) (is_place x) ty g is.1.2)) (low_quiet x is.1.0 (omega (arith, e))) t n m c
    low_quiet (Typed (BinaryK op x y) ty span) is e t n m c =
        let s = binary_operands z.whole op (type_of_typed x) (type_of_typed y) ty is.1.4 in
        binary_quiet of_loops h op x y (low h x) (low h y) (unread_of x s.first) (unread_of y s.second) (low_quiet x is.1.0 (omega (arith, e))) (low_quiet y is.1.2 (omega (arith, e))) t n m c
    low_quiet (Typed (AssignK None x y) ty span) is e t n m c =
        let s = assigned_operands z.layouts z.whole (type_of_typed x) (is_place x) (type_of_typed y) ty is.1.3 in
        let plain : is_structure ty ≡ false = one_is (is_structure ty) (omega (arith, e)) in
        let place : is_structure (type_of_typed x) ≡ false = ap is_structure s.same ∙ plain in
        assign_quiet of_loops h None x y (low h x) (low h y) (inr (scalar_of x place)) (unread_of y (from_scalar (type_of_typed y) (type_of_typed x) s.becomes place)) (low_quiet x is.1.0 (omega (arith, e))) (low_quiet y is.1.1 (omega (arith, e))) t n m c
    low_quiet (Typed (AssignK (Some op) x y) ty span) is e t n m c =
        let s = compound_operands z.whole op (type_of_typed x) (is_place x) (type_of_typed y) ty is.1.3 in
        assign_quiet of_loops h (Some op) x y (low h x) (low h y) (inr (scalar_of x s.first)) (unread_of y s.second) (low_quiet x is.1.0 (omega (arith, e))) (low_quiet y is.1.1 (omega (arith, e))) t n m c
    low_quiet (Typed (StepK op x) ty span) is e t n m c = step_quiet of_loops h op x (low h x) (low_quiet x is.1.0 (omega (arith, e))) t n m c
    low_quiet (Typed (IndexK x y) ty span) is e t n m c =
        let s = index_operands z.whole (type_of_typed x) (type_of_typed y) ty is.1.4 in
        index_quiet of_loops h ty x y (low h x) (low h y) (unread_of x s.first) (unread_of y s.second) (low_quiet x is.1.0 (omega (arith, e))) (low_quiet y is.1.2 (omega (arith, e))) t n m c
    low_quiet (Typed (MemberK x offset) ty span) is e t n m c = low_quiet x is.1.0 (omega (arith, e)) n (n + 1) m _ ∙ member_tally of_loops (is_place x) ty t c
    low_quiet (Typed (ArrowK x offset) ty span) is e t n m c =
        value_quiet of_loops h x (low h x) (unread_of x (behind_scalar z.layouts (type_of_typed x) offset ty is.1.2)) (low_quiet x is.1.0 (omega (arith, e))) n (n + 1) m _
    low_quiet (Typed (CastK x) ty span) is e t n m c =
        value_quiet of_loops h x (low h x) (unread_of x (cast_operand (type_of_typed x) ty ty is.1.2)) (low_quiet x is.1.0 (omega (arith, e))) t n m _ ∙ converted_tally of_loops ty (is_flag x) t c
    low_quiet (Typed (CallK f xs) ty span) is e t n m c =
        args_quiet (params_of h f) xs is.1.0 (omega (arith, e)) (omega (arith, e)) n m _ ∙ called_tally of_loops (result_of h f) f _ t (spots xs n) c refl
    low_quiet (Typed (InK port) ty span) is e t n m c = refl
    low_quiet (Typed (OutK port x) ty span) is e t n m c =
        value_quiet of_loops h x (low h x) (unread_of x (number_scalar (type_of_typed x) is.1.3)) (low_quiet x is.1.1 (omega (arith, e))) t n m _
    low_quiet (Typed WaitK ty span) is e t n m c = refl
    low_quiet (Typed HaltK ty span) is e t n m c = refl
    low_quiet (Typed CardK ty span) is e t n m c = refl

    args_quiet : (tys : List Ty) (xs : TExprTs) → AreValues z xs → over_all copies xs ≡ zero → reads_all xs ≡ zero → (n m : ℕ) (c : Nodes) → tally of_loops (coded (low_args h tys xs n m) c) ≡ tally of_loops c
    args_quiet tys NoX is e r n m c = refl
    args_quiet tys (MoreX x xs) is e r n m c =
        value_quiet of_loops h x (low h x) (inr (omega (arith, r))) (low_quiet x is.0 (omega (arith, e))) n (n + 1) m _
        ∙ (given_tally of_loops tys (is_flag x) n _ ∙ args_quiet (later_types tys) xs is.2 (omega (arith, e)) (omega (arith, r)) (second x n) (beyond h x m) c)

  pub low_value_quiet : (x : TExprT) → IsTyped z x → over copies x ≡ zero → Unread of_loops x → Quiet of_loops (low_value h x)
  low_value_quiet x is e u t n m c = value_quiet of_loops h x (low h x) u (low_quiet x is e) t n m c

  pub low_test_quiet : (x : TExprT) → IsTyped z x → over copies x ≡ zero → Unread of_loops x → Quiet of_loops (low_test h x)
  low_test_quiet x is e u t n m c = test_quiet of_loops h x (low h x) u (low_quiet x is e) t n m c
