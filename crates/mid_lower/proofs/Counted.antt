-- How many temporaries and locals lowered trees have, by their nodes.
use Rattle.std.proofs.Common.{◌≡◌, ℕ, ◌+◌, ◌*◌, ◌≤◌, Bool, true, false, List, [], ◌∷◌, ◌++◌, length, length-append, Option, Some, None, arith, if◌then◌else◌}
use Rattle.c_tree.specs.declared.operator.UnOp.TheVariants as un
use Rattle.c_types.specs.Types.{Ty}
use Rattle.c_types.specs.Typed.{TExprT, Typed, TKindT, NumberK, NullK, LiteralK, GlobalK, LocalK, UnaryK, BinaryK, AssignK, StepK, IndexK, MemberK, ArrowK, CastK, CallK, InK, OutK, WaitK, HaltK, CardK, TExprTs, NoX, MoreX, TInitT, OneI, TextI, ListI, TInitTs, NoI, MoreI, TVarT, TStmtT, BlockZ, EmptyZ, VarsZ, DoZ, IfZ, WhileZ, DoWhileZ, ForZ, SwitchZ, ReturnZ, BreakZ, ContinueZ, MaybeZ, NoneZ, SomeZ, TStmtTs, NoZ, MoreZ, TArmT, CaseB, DefaultB, StmtB, TArmTs, NoB, MoreB}
use Rattle.c_types.specs.Nodes.{typed_nodes, kind_nodes, all_typed_nodes, filled_nodes, all_filled_nodes, variables_nodes, maybe_typed_nodes, statement_nodes, maybe_statement_nodes, statements_nodes, arm_nodes, arms_nodes}
use Rattle.c_exprs.specs.Nodes.{is_place, is_place_kind}
use Rattle.c_meaning.specs.Kinds.{type_of}
use Rattle.c_types.specs.Kinds.{is_structure}
use Rattle.lower_trees.specs.Shape.{Shape, words, result_of}
use Rattle.lower_trees.specs.Counts.{is_scalar, with_place, size_temps, temps, temps_of, temps_all, value_temps, init_temps, inits_temps, behind_address, vars_temps, maybe_temps, stmt_temps, other_temps, stmts_temps, arm_temps, arms_temps, one_size, read_sizes, sizes, sizes_of, sizes_all, value_sizes, init_sizes, inits_sizes, vars_sizes, maybe_sizes, stmt_sizes, other_sizes, stmts_sizes, arm_sizes, arms_sizes}

-- ---- temporaries: with the one that takes what it comes to, at most two a node

pub place_least : (b : Bool) (ty : Ty) (n : ℕ) → n ≤ with_place b ty n
place_least true ty n = go (is_scalar ty)
  where
    go : (c : Bool) → n ≤ (if c then n + 1 else n)
    go true = omega arith
    go false = omega arith
place_least false ty n = omega arith

pub place_most : (b : Bool) (ty : Ty) (n : ℕ) → with_place b ty n ≤ n + 1
place_most true ty n = go (is_scalar ty)
  where
    go : (c : Bool) → (if c then n + 1 else n) ≤ n + 1
    go true = omega arith
    go false = omega arith
place_most false ty n = omega arith

-- an element has a temporary for its place or for its size
pub element_most : (ty : Ty) (n : ℕ) → with_place true ty (n + (2 + size_temps ty)) ≡ n + 3
element_most ty n = go (is_scalar ty)
  where
    go : (c : Bool) → (if c then n + (2 + (if c then 0 else 1)) + 1 else n + (2 + (if c then 0 else 1))) ≡ n + 3
    go true = omega arith
    go false = omega arith

mutual
  pub value_few : (x : TExprT) → value_temps x + 1 ≤ 2 * typed_nodes x
  value_few (Typed kind ty span) = kind_few kind ty

  kind_few : (k : TKindT) (ty : Ty) → with_place (is_place_kind k) ty (temps_of k ty) + 1 ≤ 2 * (kind_nodes k + 1)
  kind_few (NumberK x) ty = omega arith
  kind_few NullK ty = omega arith
  kind_few (LiteralK number) ty = omega (arith, place_most true ty 0)
  kind_few (GlobalK number) ty = omega (arith, place_most true ty 0)
  kind_few (LocalK number) ty = omega (arith, place_most true ty 0)
  kind_few (UnaryK un.Deref x) ty = omega (arith, value_few x, place_most true ty (value_temps x))
  kind_few (UnaryK un.Address x) ty = omega (arith, value_few x, place_least (is_place x) (type_of x) (temps x))
  kind_few (UnaryK un.Not x) ty = omega (arith, value_few x)
  kind_few (UnaryK un.Minus x) ty = omega (arith, value_few x)
  kind_few (UnaryK un.Plus x) ty = omega (arith, value_few x)
  kind_few (UnaryK un.Flip x) ty = omega (arith, value_few x)
  kind_few (BinaryK op x y) ty = omega (arith, value_few x, value_few y)
  kind_few (AssignK op x y) ty = omega (arith, value_few x, value_few y, place_least (is_place x) (type_of x) (temps x))
  kind_few (StepK op x) ty = omega (arith, value_few x, place_least (is_place x) (type_of x) (temps x))
  kind_few (IndexK x y) ty = omega (arith, value_few x, value_few y, element_most ty (value_temps x + value_temps y))
  kind_few (MemberK (Typed kind of span) offset) ty = omega (arith, kind_few kind of, place_most (is_place_kind kind) ty (temps_of kind of + 1), place_least (is_place_kind kind) of (temps_of kind of))
  kind_few (ArrowK x offset) ty = omega (arith, value_few x, place_most true ty (value_temps x + 1))
  kind_few (CastK x) ty = omega (arith, value_few x)
  kind_few (CallK f xs) ty = omega (arith, all_few xs)
  kind_few (InK port) ty = omega arith
  kind_few (OutK port x) ty = omega (arith, value_few x)
  kind_few WaitK ty = omega arith
  kind_few HaltK ty = omega arith
  kind_few CardK ty = omega arith

  all_few : (xs : TExprTs) → temps_all xs ≤ 2 * all_typed_nodes xs
  all_few NoX = omega arith
  all_few (MoreX x xs) = omega (arith, value_few x, all_few xs)

mutual
  init_few : (i : TInitT) → init_temps i ≤ 2 * filled_nodes i
  init_few (OneI x) = omega (arith, value_few x)
  init_few (TextI number) = omega arith
  init_few (ListI items) = omega (arith, inits_few items)

  inits_few : (items : TInitTs) → inits_temps items ≤ 2 * all_filled_nodes items
  inits_few NoI = omega arith
  inits_few (MoreI i rest) = omega (arith, init_few i, inits_few rest)

address_few : (i : TInitT) → behind_address i 0 ≤ 1
address_few (OneI x) = omega arith
address_few (TextI number) = omega arith
address_few (ListI items) = omega arith

vars_few : (vs : List TVarT) → vars_temps vs ≤ 2 * variables_nodes vs
vars_few [] = omega arith
vars_few (v ∷ vs) = omega (arith, address_few v.init, init_few v.init, vars_few vs)

maybe_few : (x : Option TExprT) → maybe_temps x ≤ 2 * maybe_typed_nodes x
maybe_few None = omega arith
maybe_few (Some x) = omega (arith, value_few x)

mutual
  pub stmt_few : (a : TStmtT) → stmt_temps a ≤ 2 * statement_nodes a
  stmt_few (BlockZ ks body) = omega (arith, stmts_few body)
  stmt_few EmptyZ = omega arith
  stmt_few (VarsZ vars) = omega (arith, vars_few vars)
  stmt_few (DoZ x) = omega (arith, value_few x)
  stmt_few (IfZ x a b) = omega (arith, value_few x, stmt_few a, other_few b)
  stmt_few (WhileZ x a) = omega (arith, value_few x, stmt_few a)
  stmt_few (DoWhileZ a x) = omega (arith, value_few x, stmt_few a)
  stmt_few (ForZ ks first test step a) = omega (arith, other_few first, maybe_few test, maybe_few step, stmt_few a)
  stmt_few (SwitchZ x ks arms) = omega (arith, value_few x, arms_few arms)
  stmt_few (ReturnZ x) = omega (arith, maybe_few x)
  stmt_few BreakZ = omega arith
  stmt_few ContinueZ = omega arith

  other_few : (a : MaybeZ) → other_temps a ≤ 2 * maybe_statement_nodes a
  other_few NoneZ = omega arith
  other_few (SomeZ a) = stmt_few a

  pub stmts_few : (body : TStmtTs) → stmts_temps body ≤ 2 * statements_nodes body
  stmts_few NoZ = omega arith
  stmts_few (MoreZ a rest) = omega (arith, stmt_few a, stmts_few rest)

  arm_few : (a : TArmT) → arm_temps a ≤ 2 * arm_nodes a
  arm_few (CaseB label) = omega arith
  arm_few DefaultB = omega arith
  arm_few (StmtB a) = stmt_few a

  arms_few : (arms : TArmTs) → arms_temps arms ≤ 2 * arms_nodes arms
  arms_few NoB = omega arith
  arms_few (MoreB a rest) = omega (arith, arm_few a, arms_few rest)

-- ---- locals of structures: at most one a node

one_most : (h : Shape) (ty : Ty) → length (one_size h ty) ≤ 1
one_most h ty = go (is_structure ty)
  where
    go : (b : Bool) → length (if b then words h ty ∷ [] else []) ≤ 1
    go true = omega arith
    go false = omega arith

read_most : (h : Shape) (b : Bool) (ty : Ty) → length (read_sizes h b ty) ≤ 1
read_most h true ty = one_most h ty
read_most h false ty = omega arith

-- of what is no place nothing is read
mutual
  pub values_few : (h : Shape) (x : TExprT) → length (value_sizes h x) ≤ typed_nodes x
  values_few h (Typed kind ty span) = let e = length-append (sizes_of h kind) (read_sizes h (is_place_kind kind) ty) in omega (arith, e, kinds_few h kind ty)

  kinds_few : (h : Shape) (k : TKindT) (ty : Ty) → length (sizes_of h k) + length (read_sizes h (is_place_kind k) ty) ≤ kind_nodes k + 1
  kinds_few h (NumberK x) ty = omega arith
  kinds_few h NullK ty = omega arith
  kinds_few h (LiteralK number) ty = omega (arith, one_most h ty)
  kinds_few h (GlobalK number) ty = omega (arith, one_most h ty)
  kinds_few h (LocalK number) ty = omega (arith, one_most h ty)
  kinds_few h (UnaryK un.Deref x) ty = omega (arith, values_few h x, one_most h ty)
  kinds_few h (UnaryK un.Address x) ty = omega (arith, values_few h x, length-append (sizes h x) (read_sizes h (is_place x) (type_of x)))
  kinds_few h (UnaryK un.Not x) ty = omega (arith, values_few h x)
  kinds_few h (UnaryK un.Minus x) ty = omega (arith, values_few h x)
  kinds_few h (UnaryK un.Plus x) ty = omega (arith, values_few h x)
  kinds_few h (UnaryK un.Flip x) ty = omega (arith, values_few h x)
  kinds_few h (BinaryK op x y) ty = omega (arith, values_few h x, values_few h y, length-append (value_sizes h x) (value_sizes h y))
  kinds_few h (AssignK op x y) ty = omega (arith, values_few h x, values_few h y, length-append (sizes h x) (value_sizes h y), length-append (sizes h x) (read_sizes h (is_place x) (type_of x)))
  kinds_few h (StepK op x) ty = omega (arith, values_few h x, length-append (sizes h x) (read_sizes h (is_place x) (type_of x)))
  kinds_few h (IndexK x y) ty = omega (arith, values_few h x, values_few h y, length-append (value_sizes h x) (value_sizes h y), one_most h ty)
  kinds_few h (MemberK (Typed kind of span) offset) ty = omega (arith, kinds_few h kind of, read_most h (is_place_kind kind) ty)
  kinds_few h (ArrowK x offset) ty = omega (arith, values_few h x, one_most h ty)
  kinds_few h (CastK x) ty = omega (arith, values_few h x)
  kinds_few h (CallK f xs) ty = omega (arith, all_values_few h xs, one_most h (result_of h f), length-append (sizes_all h xs) (one_size h (result_of h f)))
  kinds_few h (InK port) ty = omega arith
  kinds_few h (OutK port x) ty = omega (arith, values_few h x)
  kinds_few h WaitK ty = omega arith
  kinds_few h HaltK ty = omega arith
  kinds_few h CardK ty = omega arith

  all_values_few : (h : Shape) (xs : TExprTs) → length (sizes_all h xs) ≤ all_typed_nodes xs
  all_values_few h NoX = omega arith
  all_values_few h (MoreX x xs) = omega (arith, values_few h x, all_values_few h xs, length-append (value_sizes h x) (sizes_all h xs))

mutual
  init_sizes_few : (h : Shape) (i : TInitT) → length (init_sizes h i) ≤ filled_nodes i
  init_sizes_few h (OneI x) = omega (arith, values_few h x)
  init_sizes_few h (TextI number) = omega arith
  init_sizes_few h (ListI items) = omega (arith, inits_sizes_few h items)

  inits_sizes_few : (h : Shape) (items : TInitTs) → length (inits_sizes h items) ≤ all_filled_nodes items
  inits_sizes_few h NoI = omega arith
  inits_sizes_few h (MoreI i rest) = omega (arith, init_sizes_few h i, inits_sizes_few h rest, length-append (init_sizes h i) (inits_sizes h rest))

vars_sizes_few : (h : Shape) (vs : List TVarT) → length (vars_sizes h vs) ≤ variables_nodes vs
vars_sizes_few h [] = omega arith
vars_sizes_few h (v ∷ vs) = omega (arith, init_sizes_few h v.init, vars_sizes_few h vs, length-append (init_sizes h v.init) (vars_sizes h vs))

maybe_sizes_few : (h : Shape) (x : Option TExprT) → length (maybe_sizes h x) ≤ maybe_typed_nodes x
maybe_sizes_few h None = omega arith
maybe_sizes_few h (Some x) = values_few h x

mutual
  pub stmt_sizes_few : (h : Shape) (a : TStmtT) → length (stmt_sizes h a) ≤ statement_nodes a
  stmt_sizes_few h (BlockZ ks body) = omega (arith, stmts_sizes_few h body)
  stmt_sizes_few h EmptyZ = omega arith
  stmt_sizes_few h (VarsZ vars) = omega (arith, vars_sizes_few h vars)
  stmt_sizes_few h (DoZ x) = omega (arith, values_few h x)
  stmt_sizes_few h (IfZ x a b) =
      omega (arith, values_few h x, stmt_sizes_few h a, other_sizes_few h b, length-append (value_sizes h x) (stmt_sizes h a ++ other_sizes h b), length-append (stmt_sizes h a) (other_sizes h b))
  stmt_sizes_few h (WhileZ x a) = omega (arith, values_few h x, stmt_sizes_few h a, length-append (value_sizes h x) (stmt_sizes h a))
  stmt_sizes_few h (DoWhileZ a x) = omega (arith, values_few h x, stmt_sizes_few h a, length-append (stmt_sizes h a) (value_sizes h x))
  stmt_sizes_few h (ForZ ks first test step a) =
      omega (
        arith,
        other_sizes_few h first,
        maybe_sizes_few h test,
        maybe_sizes_few h step,
        stmt_sizes_few h a,
        length-append (other_sizes h first) (maybe_sizes h test ++ (stmt_sizes h a ++ maybe_sizes h step)),
        length-append (maybe_sizes h test) (stmt_sizes h a ++ maybe_sizes h step),
        length-append (stmt_sizes h a) (maybe_sizes h step),
      )
  stmt_sizes_few h (SwitchZ x ks arms) = omega (arith, values_few h x, arms_sizes_few h arms, length-append (value_sizes h x) (arms_sizes h arms))
  stmt_sizes_few h (ReturnZ x) = omega (arith, maybe_sizes_few h x)
  stmt_sizes_few h BreakZ = omega arith
  stmt_sizes_few h ContinueZ = omega arith

  other_sizes_few : (h : Shape) (a : MaybeZ) → length (other_sizes h a) ≤ maybe_statement_nodes a
  other_sizes_few h NoneZ = omega arith
  other_sizes_few h (SomeZ a) = stmt_sizes_few h a

  pub stmts_sizes_few : (h : Shape) (body : TStmtTs) → length (stmts_sizes h body) ≤ statements_nodes body
  stmts_sizes_few h NoZ = omega arith
  stmts_sizes_few h (MoreZ a rest) = omega (arith, stmt_sizes_few h a, stmts_sizes_few h rest, length-append (stmt_sizes h a) (stmts_sizes h rest))

  arm_sizes_few : (h : Shape) (a : TArmT) → length (arm_sizes h a) ≤ arm_nodes a
  arm_sizes_few h (CaseB label) = omega arith
  arm_sizes_few h DefaultB = omega arith
  arm_sizes_few h (StmtB a) = stmt_sizes_few h a

  arms_sizes_few : (h : Shape) (arms : TArmTs) → length (arms_sizes h arms) ≤ arms_nodes arms
  arms_sizes_few h NoB = omega arith
  arms_sizes_few h (MoreB a rest) = omega (arith, arm_sizes_few h a, arms_sizes_few h rest, length-append (arm_sizes h a) (arms_sizes h rest))
