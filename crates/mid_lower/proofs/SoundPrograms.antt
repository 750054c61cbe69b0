-- Sound programs are plain.
use Rattle.std.proofs.Common.{◌≡◌, ℕ, ◌+◌, ◌≤◌, Bool, true, false, List, [], ◌∷◌, length, Option, Some, None, refl, arith}
use Rattle.c_types.specs.Types.{Ty, VoidY, IntY, BoolY, EnumY, StructY, UnionY, PointerY, ArrayY}
use Rattle.c_types.specs.Typed.{TExprT, TStmtT, BlockZ, EmptyZ, VarsZ, DoZ, IfZ, WhileZ, DoWhileZ, ForZ, SwitchZ, ReturnZ, BreakZ, ContinueZ, MaybeZ, NoneZ, SomeZ, TStmtTs, NoZ, MoreZ, CaseB, DefaultB, StmtB, TArmTs, NoB, MoreB}
use Rattle.c_types.specs.Nodes.{statement_nodes, maybe_statement_nodes, statements_nodes, arms_nodes}
use Rattle.c_types.specs.Programs.{ProgramT}
use Rattle.c_rules.specs.Kinds.{converts}
use Rattle.c_exprs.specs.Nodes.{type_of_typed}
use Rattle.c_exprs.specs.Faults.{text_words}
use Rattle.c_stmts.specs.State.{Labels, no_labels, with_label}
use Rattle.c_facts.specs.Sound.{IsTypedValue, Scene, AreObjects, IsTest, MayTest, MayValue, IsStatement, MayState, AreStatements, AreArms, AreDeclaredAs, in_call, wholes, scene}
use Rattle.c_meaning.specs.Statements.{labels}
use Rattle.lower_trees.specs.Shape.{Shape, shape}
use Rattle.c_types.specs.Kinds.{is_void}
use Rattle.mid_lower.proofs.Trees.{PlainStep, Below, PlainValue, PlainMaybe, PlainStmt, PlainOther, PlainStmts, PlainArms, PlainDropped}
use Rattle.mid_lower.proofs.Operands.{number_scalar, condition_scalar, never_void}
use Rattle.mid_lower.proofs.SoundExpressions.{plain, structure, plain_as, scalar_of, of_scalar, of_structure_type}
use Rattle.mid_lower.proofs.SoundInitialisers.{vars_plain}

labels_few : (arms : TArmTs) → labels arms ≤ arms_nodes arms
labels_few NoB = omega arith
labels_few (MoreB (CaseB label) rest) = let e = labels_few rest in omega (arith, e)
labels_few (MoreB DefaultB rest) = let e = labels_few rest in omega (arith, e)
labels_few (MoreB (StmtB a) rest) = let e = labels_few rest in omega (arith, e)

gives_some : (x gives : Ty) → converts x gives ≡ true → is_void gives ≡ false
gives_some x VoidY e = absurd (never_void x e)
gives_some x IntY e = refl
gives_some x BoolY e = refl
gives_some x (EnumY number) e = refl
gives_some x (StructY number) e = refl
gives_some x (UnionY number) e = refl
gives_some x (PointerY to) e = refl
gives_some x (ArrayY of len) e = refl

-- the statements of a function
module _ (p : ProgramT) (declared : AreDeclaredAs p.layouts (wholes p.layouts) p.layouts) (texts : text_words p.literals ≤ 4000000) (locals : List ℕ) (gives : Ty) where
  abbrev z : Scene
  z = in_call (scene p) locals

  abbrev h : Shape
  h = shape p

  abbrev own : ℕ
  own = length locals

  pub objects_below : (least : ℕ) (ks : List ℕ) → AreObjects z least ks → Below own ks
  objects_below least [] is = tt
  objects_below least (k ∷ ks) is = (is.1, objects_below (k + 1) ks is.2)

  test_plain : (x : TExprT) → IsTest z x → PlainValue h x
  test_plain x is = let e = condition_scalar (type_of_typed x) is.1 in (plain z x (is.0).typed (λ f. e), scalar_of x e)

  tests_plain : (x : Option TExprT) → MayTest z x → PlainMaybe h x
  tests_plain None is = tt
  tests_plain (Some x) is = test_plain x is

  dropped_plain : (x : TExprT) → IsTypedValue z x → PlainDropped h x
  dropped_plain x is = (λ e. plain z x is.typed (λ f. of_scalar x e), λ e. structure z x is.typed (of_structure_type x e))

  step_plain : (x : Option TExprT) → MayValue z x → PlainStep h x
  step_plain None is = tt
  step_plain (Some x) is = dropped_plain x is

  mutual
    pub stmt_plain : (a : TStmtT) (br co : Bool) → IsStatement z a gives br co → statement_nodes a ≤ 200000 → PlainStmt h own gives a
    stmt_plain (BlockZ made body) br co is few = (objects_below 0 made is.0, stmts_plain body br co is.1 (omega (arith, few)))
    stmt_plain EmptyZ br co is few = tt
    stmt_plain (VarsZ vars) br co is few = vars_plain p declared texts locals false vars is
    stmt_plain (DoZ x) br co is few = dropped_plain x is
    stmt_plain (IfZ x a b) br co is few = (test_plain x is.0, stmt_plain a br co is.1 (omega (arith, few)), other_plain b br co is.2 (omega (arith, few)))
    stmt_plain (WhileZ x a) br co is few = (test_plain x is.0, stmt_plain a true true is.1 (omega (arith, few)))
    stmt_plain (DoWhileZ a x) br co is few = (stmt_plain a true true is.0 (omega (arith, few)), test_plain x is.1)
    stmt_plain (ForZ made first test step a) br co is few =
        (objects_below 0 made is.0, other_plain first br co is.1 (omega (arith, few)), tests_plain test is.2, step_plain step is.3, stmt_plain a true true is.4 (omega (arith, few)))
    stmt_plain (SwitchZ x made arms) br co is few =
        let l = labels_few arms in
        let e = number_scalar (type_of_typed x) is.1 in
        ((plain z x (is.0).typed (λ f. e), scalar_of x e), objects_below 0 made is.2, arms_plain arms co no_labels is.3 (omega (arith, few)), omega (arith, l, few))
    stmt_plain (ReturnZ None) br co is few = tt
    stmt_plain (ReturnZ (Some x)) br co is few =
        let value = plain_as z x gives (is.0).typed is.1 in
        (λ e. (value.0 e, gives_some (type_of_typed x) gives is.1), value.1)
    stmt_plain BreakZ br co is few = tt
    stmt_plain ContinueZ br co is few = tt

    other_plain : (a : MaybeZ) (br co : Bool) → MayState z a gives br co → maybe_statement_nodes a ≤ 200000 → PlainOther h own gives a
    other_plain NoneZ br co is few = tt
    other_plain (SomeZ a) br co is few = stmt_plain a br co is few

    pub stmts_plain : (ss : TStmtTs) (br co : Bool) → AreStatements z ss gives br co → statements_nodes ss ≤ 200000 → PlainStmts h own gives ss
    stmts_plain NoZ br co is few = tt
    stmts_plain (MoreZ a rest) br co is few = (stmt_plain a br co is.0 (omega (arith, few)), stmts_plain rest br co is.1 (omega (arith, few)))

    arms_plain : (arms : TArmTs) (co : Bool) (seen : Labels) → AreArms z arms gives co seen → arms_nodes arms ≤ 200000 → PlainArms h own gives arms
    arms_plain NoB co seen is few = tt
    arms_plain (MoreB (CaseB label) rest) co seen is few = arms_plain rest co (with_label seen (CaseB label)) is.2 (omega (arith, few))
    arms_plain (MoreB DefaultB rest) co seen is few = arms_plain rest co (with_label seen DefaultB) is.2 (omega (arith, few))
    arms_plain (MoreB (StmtB a) rest) co seen is few = (stmt_plain a true co is.1 (omega (arith, few)), arms_plain rest co (with_label seen (StmtB a)) is.2 (omega (arith, few)))
