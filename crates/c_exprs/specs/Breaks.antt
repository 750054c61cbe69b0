-- The rule that an expression breaks first, in the order of reading: its parts from left to right, then the node.
use Rattle.std.specs.Prelude.{◌≡◌, ℕ, Bool, true, false, List, Some, None, Ok, Err}
use Rattle.c_tree.specs.declared.span.Span.{Span}
use Rattle.c_tree.specs.declared.operator.UnOp.{UnOp}
use Rattle.c_tree.specs.declared.operator.StepOp.{StepOp}
use Rattle.c_tree.specs.declared.operator.BinOp.{BinOp}
use Rattle.c_tree.specs.Tree.{ExprT, NameE, NumberE, TextE, NullE, ParenE, UnaryE, BinaryE, AssignE, StepE, IndexE, MemberE, ArrowE, CallE, CastE}
use Rattle.c_tree.specs.Tree.{SizeOfE, ExprTs, NoE, MoreE, TypeT}
use Rattle.c_tree.specs.Tree as tree
use Rattle.c_types.specs.Types.{Ty}
use Rattle.c_types.specs.Typed.{TExprT, TExprTs}
use Rattle.c_rules.specs.declared.code.Code.TheVariants.{NotConstant}
use Rattle.c_rules.specs.Nodes.{needs_place, unary_rule, binary_rule, assign_rule, compound_rule, step_rule, index_rule, cast_rule, size_rule, array_rule}
use Rattle.c_exprs.specs.Env.{Text, Ctx}
use Rattle.c_exprs.specs.declared.error.Fault.{Fault}
use Rattle.c_exprs.specs.Faults.{placed, at_node, known, with_text}
use Rattle.c_exprs.specs.Nodes.{type_of_typed, span_of, is_place, value_rule, name_tree, named_type, member_tree, arrow_tree, constant}
use Rattle.c_exprs.specs.Calls.{names_port, call_node}
use Rattle.c_exprs.specs.Types.{Types, Values, Used, AllValues, Names}

-- Breaks c ts e f: the first broken rule of e is f.
mutual
  pub data Breaks (c : Ctx) : List Text → ExprT → Fault → Type 0 where
    name : {ts : List Text} {n : Text} {s : Span} {f : Fault} → placed s (name_tree c n s) ≡ Err f → Breaks c ts (NameE n s) f
    text : {ts : List Text} {t : Text} {s : Span} {f : Fault} → with_text s ts t ≡ Err f → Breaks c ts (TextE t s) f
    paren : {ts : List Text} {a : ExprT} {s : Span} {f : Fault} → Breaks c ts a f → Breaks c ts (ParenE a s) f
    unary_part : {ts : List Text} {op : UnOp} {a : ExprT} {s : Span} {f : Fault} → NotUsed c ts (needs_place op) a f → Breaks c ts (UnaryE op a s) f
    unary : {ts us : List Text} {op : UnOp} {a : ExprT} {s : Span} {x : TExprT} {f : Fault} → Used c ts (needs_place op) a x us
        → at_node s (unary_rule op (type_of_typed x) (is_place x)) ≡ Err f → Breaks c ts (UnaryE op a s) f
    binary_left : {ts : List Text} {op : BinOp} {a b : ExprT} {s : Span} {f : Fault} → NoValue c ts a f → Breaks c ts (BinaryE op a b s) f
    binary_right : {ts us : List Text} {op : BinOp} {a b : ExprT} {s : Span} {x : TExprT} {f : Fault} → Values c ts a x us → NoValue c us b f
        → Breaks c ts (BinaryE op a b s) f
    binary : {ts us vs : List Text} {op : BinOp} {a b : ExprT} {s : Span} {x y : TExprT} {f : Fault} → Values c ts a x us → Values c us b y vs
        → at_node s (binary_rule c.whole op (type_of_typed x) (type_of_typed y)) ≡ Err f → Breaks c ts (BinaryE op a b s) f
    assign_left : {ts : List Text} {a b : ExprT} {s : Span} {f : Fault} → Breaks c ts a f → Breaks c ts (AssignE None a b s) f
    assign_right : {ts us : List Text} {a b : ExprT} {s : Span} {x : TExprT} {f : Fault} → Types c ts a x us → NoValue c us b f
        → Breaks c ts (AssignE None a b s) f
    assign : {ts us vs : List Text} {a b : ExprT} {s : Span} {x y : TExprT} {f : Fault} → Types c ts a x us → Values c us b y vs
        → at_node s (assign_rule c.layouts c.whole (type_of_typed x) (is_place x) (type_of_typed y)) ≡ Err f → Breaks c ts (AssignE None a b s) f
    compound_left : {ts : List Text} {op : BinOp} {a b : ExprT} {s : Span} {f : Fault} → Breaks c ts a f → Breaks c ts (AssignE (Some op) a b s) f
    compound_right : {ts us : List Text} {op : BinOp} {a b : ExprT} {s : Span} {x : TExprT} {f : Fault} → Types c ts a x us → NoValue c us b f
        → Breaks c ts (AssignE (Some op) a b s) f
    compound : {ts us vs : List Text} {op : BinOp} {a b : ExprT} {s : Span} {x y : TExprT} {f : Fault} → Types c ts a x us → Values c us b y vs
        → at_node s (compound_rule c.whole op (type_of_typed x) (is_place x) (type_of_typed y)) ≡ Err f → Breaks c ts (AssignE (Some op) a b s) f
    step_part : {ts : List Text} {op : StepOp} {a : ExprT} {s : Span} {f : Fault} → Breaks c ts a f → Breaks c ts (StepE op a s) f
    step : {ts us : List Text} {op : StepOp} {a : ExprT} {s : Span} {x : TExprT} {f : Fault} → Types c ts a x us
        → at_node s (step_rule c.whole op (type_of_typed x) (is_place x)) ≡ Err f → Breaks c ts (StepE op a s) f
    index_left : {ts : List Text} {a b : ExprT} {s : Span} {f : Fault} → NoValue c ts a f → Breaks c ts (IndexE a b s) f
    index_right : {ts us : List Text} {a b : ExprT} {s : Span} {x : TExprT} {f : Fault} → Values c ts a x us → NoValue c us b f → Breaks c ts (IndexE a b s) f
    index : {ts us vs : List Text} {a b : ExprT} {s : Span} {x y : TExprT} {f : Fault} → Values c ts a x us → Values c us b y vs
        → at_node s (index_rule c.whole (type_of_typed x) (type_of_typed y)) ≡ Err f → Breaks c ts (IndexE a b s) f
    member_part : {ts : List Text} {a : ExprT} {n : Text} {s : Span} {f : Fault} → Breaks c ts a f → Breaks c ts (MemberE a n s) f
    member : {ts us : List Text} {a : ExprT} {n : Text} {s : Span} {x : TExprT} {f : Fault} → Types c ts a x us
        → placed s (member_tree c s x n) ≡ Err f → Breaks c ts (MemberE a n s) f
    arrow_part : {ts : List Text} {a : ExprT} {n : Text} {s : Span} {f : Fault} → NoValue c ts a f → Breaks c ts (ArrowE a n s) f
    arrow : {ts us : List Text} {a : ExprT} {n : Text} {s : Span} {x : TExprT} {f : Fault} → Values c ts a x us
        → placed s (arrow_tree c s x n) ≡ Err f → Breaks c ts (ArrowE a n s) f
    call_part : {ts : List Text} {n : Text} {args : ExprTs} {s : Span} {f : Fault} → NotAll c ts (names_port c n) args f → Breaks c ts (CallE n args s) f
    call : {ts us : List Text} {n : Text} {args : ExprTs} {s : Span} {xs : TExprTs} {f : Fault} → AllValues c ts (names_port c n) args xs us
        → placed s (call_node c n args xs) ≡ Err f → Breaks c ts (CallE n args s) f
    cast_type : {ts : List Text} {to : TypeT} {a : ExprT} {s : Span} {f : Fault} → NoName c ts s to f → Breaks c ts (CastE to a s) f
    cast_part : {ts us : List Text} {to : TypeT} {a : ExprT} {s : Span} {t : Ty} {f : Fault} → Names c ts s to t us → NoValue c us a f
        → Breaks c ts (CastE to a s) f
    cast : {ts us vs : List Text} {to : TypeT} {a : ExprT} {s : Span} {t : Ty} {x : TExprT} {f : Fault} → Names c ts s to t us → Values c us a x vs
        → at_node s (cast_rule (type_of_typed x) t) ≡ Err f → Breaks c ts (CastE to a s) f
    size_of_type : {ts : List Text} {of : TypeT} {s : Span} {f : Fault} → NoName c ts s of f → Breaks c ts (SizeOfE of s) f
    size_of : {ts us : List Text} {of : TypeT} {s : Span} {t : Ty} {f : Fault} → Names c ts s of t us
        → at_node s (size_rule c.layouts c.whole t) ≡ Err f → Breaks c ts (SizeOfE of s) f

  -- the same for an expression whose value is asked for
  pub data NoValue (c : Ctx) : List Text → ExprT → Fault → Type 0 where
    value_part : {ts : List Text} {e : ExprT} {f : Fault} → Breaks c ts e f → NoValue c ts e f
    value : {ts us : List Text} {e : ExprT} {x : TExprT} {f : Fault} → Types c ts e x us
        → at_node (span_of e) (value_rule c.layouts c.whole (type_of_typed x)) ≡ Err f → NoValue c ts e f

  -- the same for one that is kept as it is, or whose value is asked for
  pub data NotUsed (c : Ctx) : List Text → Bool → ExprT → Fault → Type 0 where
    as_place : {ts : List Text} {e : ExprT} {f : Fault} → Breaks c ts e f → NotUsed c ts true e f
    by_value : {ts : List Text} {e : ExprT} {f : Fault} → NoValue c ts e f → NotUsed c ts false e f

  -- the arguments of a call
  pub data NotAll (c : Ctx) : List Text → Bool → ExprTs → Fault → Type 0 where
    behind_port : {ts : List Text} {e : ExprT} {rest : ExprTs} {f : Fault} → NotAll c ts false rest f → NotAll c ts true (MoreE e rest) f
    here : {ts : List Text} {e : ExprT} {rest : ExprTs} {f : Fault} → NoValue c ts e f → NotAll c ts false (MoreE e rest) f
    later : {ts us : List Text} {e : ExprT} {rest : ExprTs} {x : TExprT} {f : Fault} → Values c ts e x us → NotAll c us false rest f
        → NotAll c ts false (MoreE e rest) f

  -- a type tree that names no type, in a node of this span
  pub data NoName (c : Ctx) : List Text → Span → TypeT → Fault → Type 0 where
    named : {ts : List Text} {s : Span} {n : Text} {f : Fault} → placed s (named_type c n) ≡ Err f → NoName c ts s (tree.NamedY n) f
    pointer : {ts : List Text} {s : Span} {to : TypeT} {f : Fault} → NoName c ts s to f → NoName c ts s (tree.PointerY to) f
    array_size : {ts : List Text} {s : Span} {of : TypeT} {n : ExprT} {f : Fault} → NoValue c ts n f → NoName c ts s (tree.ArrayY of n) f
    array_count : {ts us : List Text} {s : Span} {of : TypeT} {n : ExprT} {x : TExprT} {f : Fault} → Values c ts n x us
        → known (span_of n) NotConstant (constant x) ≡ Err f → NoName c ts s (tree.ArrayY of n) f
    array_of : {ts us : List Text} {s : Span} {of : TypeT} {n : ExprT} {x : TExprT} {k : ℕ} {f : Fault} → Values c ts n x us
        → known (span_of n) NotConstant (constant x) ≡ Ok k → NoName c us s of f → NoName c ts s (tree.ArrayY of n) f
    array : {ts us vs : List Text} {s : Span} {of : TypeT} {n : ExprT} {x : TExprT} {k : ℕ} {t : Ty} {f : Fault} → Values c ts n x us
        → known (span_of n) NotConstant (constant x) ≡ Ok k → Names c us s of t vs → at_node (span_of n) (array_rule c.layouts c.whole t k) ≡ Err f →
        NoName c ts s (tree.ArrayY of n) f
