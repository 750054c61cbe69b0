-- Code of an expression calls only what its tree calls.
use Rattle.std.proofs.Common.{◌≡◌, ℕ, zero, ◌+◌, inl, arith, refl, ◌∙◌, List}
use Rattle.c_types.specs.Types.{Ty}
use Rattle.c_types.specs.Typed.{TExprT, Typed, NumberK, NullK, LiteralK, GlobalK, LocalK, UnaryK, BinaryK, AssignK, StepK, IndexK, MemberK, ArrowK, CastK, CallK, InK, OutK, WaitK, HaltK, CardK, TExprTs, NoX, MoreX}
use Rattle.c_exprs.specs.Nodes.{is_place}
use Rattle.c_meaning.specs.Frames.{over, over_all}
use Rattle.lower_trees.specs.Shape.{Shape, params_of, result_of}
use Rattle.lower_trees.specs.Flags.{is_flag}
use Rattle.lower_trees.specs.Pieces.{Nodes, coded}
use Rattle.lower_trees.specs.Expressions.{second, beyond, spots, later_types, low, low_args, low_value, low_test}
use Rattle.mid_lower.specs.SourceLoops.{is_call_of}
use Rattle.mid_lower.proofs.Tallies.{tally, of_calls, converted_tally}
use Rattle.mid_lower.proofs.QuietForms.{Quiet, value_quiet, test_quiet, unary_quiet, binary_quiet, assign_quiet, step_quiet, index_quiet, member_tally, called_tally, given_tally}

-- of a function that the tree does not call
module _ (f : ℕ) (h : Shape) where
  mutual
    pub low_uncalled : (x : TExprT) → over (is_call_of f) x ≡ zero → Quiet (of_calls f) (low h x)
    low_uncalled (Typed (NumberK x) ty span) e t n m c = refl
    low_uncalled (Typed NullK ty span) e t n m c = refl
    low_uncalled (Typed (LiteralK number) ty span) e t n m c = refl
    low_uncalled (Typed (GlobalK number) ty span) e t n m c = refl
    low_uncalled (Typed (LocalK number) ty span) e t n m c = refl
    low_uncalled (Typed (UnaryK op x) ty span) e t n m c = unary_quiet (of_calls f) h op x (low h x) (λ g. inl refl) (low_uncalled x (omega (arith, e))) t n m c
    low_uncalled (Typed (BinaryK op x y) ty span) e t n m c =
        binary_quiet (of_calls f) h op x y (low h x) (low h y) (inl refl) (inl refl) (low_uncalled x (omega (arith, e))) (low_uncalled y (omega (arith, e))) t n m c
    low_uncalled (Typed (AssignK op x y) ty span) e t n m c =
        assign_quiet (of_calls f) h op x y (low h x) (low h y) (inl refl) (inl refl) (low_uncalled x (omega (arith, e))) (low_uncalled y (omega (arith, e))) t n m c
    low_uncalled (Typed (StepK op x) ty span) e t n m c = step_quiet (of_calls f) h op x (low h x) (low_uncalled x (omega (arith, e))) t n m c
    low_uncalled (Typed (IndexK x y) ty span) e t n m c =
        index_quiet (of_calls f) h ty x y (low h x) (low h y) (inl refl) (inl refl) (low_uncalled x (omega (arith, e))) (low_uncalled y (omega (arith, e))) t n m c
    low_uncalled (Typed (MemberK x offset) ty span) e t n m c = low_uncalled x (omega (arith, e)) n (n + 1) m _ ∙ member_tally (of_calls f) (is_place x) ty t c
    low_uncalled (Typed (ArrowK x offset) ty span) e t n m c = value_quiet (of_calls f) h x (low h x) (inl refl) (low_uncalled x (omega (arith, e))) n (n + 1) m _
    low_uncalled (Typed (CastK x) ty span) e t n m c =
        value_quiet (of_calls f) h x (low h x) (inl refl) (low_uncalled x (omega (arith, e))) t n m _ ∙ converted_tally (of_calls f) ty (is_flag x) t c
    low_uncalled (Typed (CallK g xs) ty span) e t n m c =
        args_uncalled (params_of h g) xs (omega (arith, e)) n m _ ∙ called_tally (of_calls f) (result_of h g) g _ t (spots xs n) c (omega (arith, e))
    low_uncalled (Typed (InK port) ty span) e t n m c = refl
    low_uncalled (Typed (OutK port x) ty span) e t n m c = value_quiet (of_calls f) h x (low h x) (inl refl) (low_uncalled x (omega (arith, e))) t n m _
    low_uncalled (Typed WaitK ty span) e t n m c = refl
    low_uncalled (Typed HaltK ty span) e t n m c = refl
    low_uncalled (Typed CardK ty span) e t n m c = refl

    args_uncalled : (tys : List Ty) (xs : TExprTs) → over_all (is_call_of f) xs ≡ zero → (n m : ℕ) (c : Nodes) → tally (of_calls f) (coded (low_args h tys xs n m) c) ≡ tally (of_calls f) c
    args_uncalled tys NoX e n m c = refl
    args_uncalled tys (MoreX x xs) e n m c =
        value_quiet (of_calls f) h x (low h x) (inl refl) (low_uncalled x (omega (arith, e))) n (n + 1) m _
        ∙ (given_tally (of_calls f) tys (is_flag x) n _ ∙ args_uncalled (later_types tys) xs (omega (arith, e)) (second x n) (beyond h x m) c)

  pub value_uncalled : (x : TExprT) → over (is_call_of f) x ≡ zero → Quiet (of_calls f) (low_value h x)
  value_uncalled x e t n m c = value_quiet (of_calls f) h x (low h x) (inl refl) (low_uncalled x e) t n m c

  pub test_uncalled : (x : TExprT) → over (is_call_of f) x ≡ zero → Quiet (of_calls f) (low_test h x)
  test_uncalled x e t n m c = test_quiet (of_calls f) h x (low h x) (inl refl) (low_uncalled x e) t n m c
