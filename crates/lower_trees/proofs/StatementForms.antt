-- What is appended piece by piece for a statement is what is told of its form.
use Rattle.std.proofs.Common.{◌≡◌, ◌≤◌, ℕ, ◌+◌, arith, List, [], ◌∷◌, ◌++◌, length, length-append, Option, map, ap, ◌∙◌}
use Rattle.c_types.specs.View.{tarm, tarms}
use Rattle.c_types.specs.Nodes.{statement_nodes, arm_nodes, arms_nodes}
use Rattle.c_types.specs.declared.typed.TArm.{TArm}
use Rattle.c_types.specs.Typed.{TExprT, TStmtT, BlockZ, EmptyZ, VarsZ, DoZ, IfZ, WhileZ, DoWhileZ, ForZ, SwitchZ, ReturnZ, BreakZ, ContinueZ, MaybeZ, TArmT, CaseB, DefaultB, StmtB, TArmTs}
use Rattle.lower_trees.specs.Shape.{Shape}
use Rattle.lower_trees.specs.Counts.{maybe_sizes, value_sizes, stmt_sizes, other_sizes, arms_sizes}

-- ---- how many they are

pub if_length : (h : Shape) (s : TStmtT) (x : TExprT) (a : TStmtT) (rest : MaybeZ) → s ≡ IfZ x a rest → length (stmt_sizes h s) ≡ length (value_sizes h x) + (length (stmt_sizes h a) + length (other_sizes h rest))
if_length h s x a rest e =
    ap (λ z. length (stmt_sizes h z)) e ∙ length-append (value_sizes h x) (stmt_sizes h a ++ other_sizes h rest) ∙ ap (λ z. length (value_sizes h x) + z) (length-append (stmt_sizes h a) (other_sizes h rest))

pub do_while_length : (h : Shape) (s : TStmtT) (a : TStmtT) (x : TExprT) → s ≡ DoWhileZ a x → length (stmt_sizes h s) ≡ length (stmt_sizes h a) + length (value_sizes h x)
do_while_length h s a x e = ap (λ z. length (stmt_sizes h z)) e ∙ length-append (stmt_sizes h a) (value_sizes h x)

pub for_length : (h : Shape) (s : TStmtT) (ks : List ℕ) (first : MaybeZ) (test step : Option TExprT) (a : TStmtT) → s ≡ ForZ ks first test step a
    → length (stmt_sizes h s) ≡ length (other_sizes h first) + (length (maybe_sizes h test) + (length (stmt_sizes h a) + length (maybe_sizes h step)))
for_length h s ks first test step a e =
    ap (λ z. length (stmt_sizes h z)) e ∙ length-append (other_sizes h first) (maybe_sizes h test ++ (stmt_sizes h a ++ maybe_sizes h step))
    ∙ ap (λ z. length (other_sizes h first) + z) (length-append (maybe_sizes h test) (stmt_sizes h a ++ maybe_sizes h step) ∙ ap (λ z. length (maybe_sizes h test) + z) (length-append (stmt_sizes h a) (maybe_sizes h step)))

pub switch_length : (h : Shape) (s : TStmtT) (x : TExprT) (ks : List ℕ) (arms : TArmTs) → s ≡ SwitchZ x ks arms → length (stmt_sizes h s) ≡ length (value_sizes h x) + length (arms_sizes h arms)
switch_length h s x ks arms e = ap (λ z. length (stmt_sizes h z)) e ∙ length-append (value_sizes h x) (arms_sizes h arms)

-- ---- counts

pub arms_many : (xs : List TArm) → length xs ≤ arms_nodes (tarms (map tarm xs))
arms_many [] = omega arith
arms_many (x ∷ xs) = let one = arm_one (tarm x) in let rest = arms_many xs in omega (arith, one, rest)
  where
    statement_one : (s : TStmtT) → 1 ≤ statement_nodes s
    statement_one (BlockZ made body) = omega arith
    statement_one EmptyZ = omega arith
    statement_one (VarsZ vars) = omega arith
    statement_one (DoZ x) = omega arith
    statement_one (IfZ x a b) = omega arith
    statement_one (WhileZ x a) = omega arith
    statement_one (DoWhileZ a x) = omega arith
    statement_one (ForZ made first test step a) = omega arith
    statement_one (SwitchZ x made arms) = omega arith
    statement_one (ReturnZ x) = omega arith
    statement_one BreakZ = omega arith
    statement_one ContinueZ = omega arith

    arm_one : (a : TArmT) → 1 ≤ arm_nodes a
    arm_one (CaseB k) = omega arith
    arm_one DefaultB = omega arith
    arm_one (StmtB a) = statement_one a
