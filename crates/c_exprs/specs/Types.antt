-- The typing of expressions by rules.
use Rattle.std.specs.Prelude.{◌≡◌, ℕ, ◌+◌, Bool, true, false, List, length, Some, None, Ok}
use Rattle.c_tree.specs.declared.span.Span.{Span}
use Rattle.c_tree.specs.declared.operator.UnOp.{UnOp}
use Rattle.c_tree.specs.declared.operator.StepOp.{StepOp}
use Rattle.c_tree.specs.declared.operator.BinOp.{BinOp}
use Rattle.c_tree.specs.Tree.{ExprT, NameE, NumberE, TextE, NullE, ParenE, UnaryE, BinaryE, AssignE, StepE, IndexE, MemberE, ArrowE, CallE, CastE}
use Rattle.c_tree.specs.Tree.{SizeOfE, ExprTs, NoE, MoreE, TypeT}
use Rattle.c_tree.specs.Tree as tree
use Rattle.c_types.specs.Types.{Ty, VoidY, IntY, BoolY, PointerY, ArrayY}
use Rattle.c_types.specs.Typed.{TExprT, Typed, TKindT, NumberK, NullK, LiteralK, UnaryK, BinaryK, AssignK, StepK, IndexK, CastK, TExprTs, NoX, MoreX}
use Rattle.c_rules.specs.declared.code.Code.TheVariants.{NotConstant}
use Rattle.c_rules.specs.Nodes.{needs_place, unary_rule, binary_rule, assign_rule, compound_rule, step_rule, index_rule, cast_rule, size_rule, array_rule}
use Rattle.c_exprs.specs.Env.{Text, Ctx}
use Rattle.c_exprs.specs.Faults.{placed, at_node, known, with_text}
use Rattle.c_exprs.specs.Nodes.{type_of_typed, span_of, is_place, value_rule, name_tree, named_type, member_tree, arrow_tree, constant}
use Rattle.c_exprs.specs.Calls.{names_port, call_node}

-- Types c ts e x us: under c, after the texts ts, the expression e has the typed tree x, and the texts after it are us.
mutual
  pub data Types (c : Ctx) : List Text → ExprT → TExprT → List Text → Type 0 where
    name : {ts : List Text} {n : Text} {s : Span} {x : TExprT} → placed s (name_tree c n s) ≡ Ok x → Types c ts (NameE n s) x ts
    number : {ts : List Text} {n : ℕ} {s : Span} → Types c ts (NumberE n s) (Typed (NumberK n) IntY s) ts
    text : {ts us : List Text} {t : Text} {s : Span} {k : ℕ} → with_text s ts t ≡ Ok (k, us)
        → Types c ts (TextE t s) (Typed (LiteralK k) (ArrayY IntY (length t + 1)) s) us
    null : {ts : List Text} {s : Span} → Types c ts (NullE s) (Typed NullK (PointerY VoidY) s) ts
    paren : {ts us : List Text} {a : ExprT} {s : Span} {x : TExprT} → Types c ts a x us → Types c ts (ParenE a s) x us
    unary : {ts us : List Text} {op : UnOp} {a : ExprT} {s : Span} {x : TExprT} {u : Ty} → Used c ts (needs_place op) a x us
        → at_node s (unary_rule op (type_of_typed x) (is_place x)) ≡ Ok u → Types c ts (UnaryE op a s) (Typed (UnaryK op x) u s) us
    binary : {ts us vs : List Text} {op : BinOp} {a b : ExprT} {s : Span} {x y : TExprT} {u : Ty} → Values c ts a x us → Values c us b y vs
        → at_node s (binary_rule c.whole op (type_of_typed x) (type_of_typed y)) ≡ Ok u → Types c ts (BinaryE op a b s) (Typed (BinaryK op x y) u s) vs
    assign : {ts us vs : List Text} {a b : ExprT} {s : Span} {x y : TExprT} {u : Ty} → Types c ts a x us → Values c us b y vs
        → at_node s (assign_rule c.layouts c.whole (type_of_typed x) (is_place x) (type_of_typed y)) ≡ Ok u →
        Types c ts (AssignE None a b s) (Typed (AssignK None x y) u s) vs
    compound : {ts us vs : List Text} {op : BinOp} {a b : ExprT} {s : Span} {x y : TExprT} {u : Ty} → Types c ts a x us → Values c us b y vs
        → at_node s (compound_rule c.whole op (type_of_typed x) (is_place x) (type_of_typed y)) ≡ Ok u →
        Types c ts (AssignE (Some op) a b s) (Typed (AssignK (Some op) x y) u s) vs
    step : {ts us : List Text} {op : StepOp} {a : ExprT} {s : Span} {x : TExprT} {u : Ty} → Types c ts a x us
        → at_node s (step_rule c.whole op (type_of_typed x) (is_place x)) ≡ Ok u → Types c ts (StepE op a s) (Typed (StepK op x) u s) us
    index : {ts us vs : List Text} {a b : ExprT} {s : Span} {x y : TExprT} {u : Ty} → Values c ts a x us → Values c us b y vs
        → at_node s (index_rule c.whole (type_of_typed x) (type_of_typed y)) ≡ Ok u → Types c ts (IndexE a b s) (Typed (IndexK x y) u s) vs
    member : {ts us : List Text} {a : ExprT} {n : Text} {s : Span} {x y : TExprT} → Types c ts a x us → placed s (member_tree c s x n) ≡ Ok y
        → Types c ts (MemberE a n s) y us
    arrow : {ts us : List Text} {a : ExprT} {n : Text} {s : Span} {x y : TExprT} → Values c ts a x us → placed s (arrow_tree c s x n) ≡ Ok y
        → Types c ts (ArrowE a n s) y us
    call : {ts us : List Text} {n : Text} {args : ExprTs} {s : Span} {xs : TExprTs} {u : TKindT × Ty} → AllValues c ts (names_port c n) args xs us
        → placed s (call_node c n args xs) ≡ Ok u → Types c ts (CallE n args s) (Typed u.0 u.1 s) us
    cast : {ts us vs : List Text} {to : TypeT} {a : ExprT} {s : Span} {t : Ty} {x : TExprT} {u : Ty} → Names c ts s to t us → Values c us a x vs
        → at_node s (cast_rule (type_of_typed x) t) ≡ Ok u → Types c ts (CastE to a s) (Typed (CastK x) u s) vs
    size_of : {ts us : List Text} {of : TypeT} {s : Span} {t : Ty} {n : ℕ} → Names c ts s of t us → at_node s (size_rule c.layouts c.whole t) ≡ Ok n
        → Types c ts (SizeOfE of s) (Typed (NumberK n) IntY s) us

  -- the same for an expression whose value is asked for
  pub data Values (c : Ctx) : List Text → ExprT → TExprT → List Text → Type 0 where
    value : {ts us : List Text} {e : ExprT} {x : TExprT} → Types c ts e x us
        → at_node (span_of e) (value_rule c.layouts c.whole (type_of_typed x)) ≡ Ok tt → Values c ts e x us

  -- the same for one that is kept as it is, or whose value is asked for
  pub data Used (c : Ctx) : List Text → Bool → ExprT → TExprT → List Text → Type 0 where
    as_place : {ts us : List Text} {e : ExprT} {x : TExprT} → Types c ts e x us → Used c ts true e x us
    by_value : {ts us : List Text} {e : ExprT} {x : TExprT} → Values c ts e x us → Used c ts false e x us

  -- the arguments of a call; a first one that names a port has no type
  pub data AllValues (c : Ctx) : List Text → Bool → ExprTs → TExprTs → List Text → Type 0 where
    none : {ts : List Text} {named : Bool} → AllValues c ts named NoE NoX ts
    port : {ts us : List Text} {e : ExprT} {rest : ExprTs} {xs : TExprTs} → AllValues c ts false rest xs us → AllValues c ts true (MoreE e rest) xs us
    more : {ts us vs : List Text} {e : ExprT} {rest : ExprTs} {x : TExprT} {xs : TExprTs} → Values c ts e x us → AllValues c us false rest xs vs
        → AllValues c ts false (MoreE e rest) (MoreX x xs) vs

  -- the type that a type tree names in a node of this span; the counts of arrays come first, from left to right, then the arrays from the inside
  pub data Names (c : Ctx) : List Text → Span → TypeT → Ty → List Text → Type 0 where
    int : {ts : List Text} {s : Span} → Names c ts s tree.IntY IntY ts
    bool : {ts : List Text} {s : Span} → Names c ts s tree.BoolY BoolY ts
    void : {ts : List Text} {s : Span} → Names c ts s tree.VoidY VoidY ts
    named : {ts : List Text} {s : Span} {n : Text} {t : Ty} → placed s (named_type c n) ≡ Ok t → Names c ts s (tree.NamedY n) t ts
    pointer : {ts us : List Text} {s : Span} {to : TypeT} {t : Ty} → Names c ts s to t us → Names c ts s (tree.PointerY to) (PointerY t) us
    array : {ts us vs : List Text} {s : Span} {of : TypeT} {n : ExprT} {x : TExprT} {k : ℕ} {t u : Ty} → Values c ts n x us
        → known (span_of n) NotConstant (constant x) ≡ Ok k → Names c us s of t vs → at_node (span_of n) (array_rule c.layouts c.whole t k) ≡ Ok u →
        Names c ts s (tree.ArrayY of n) u vs
