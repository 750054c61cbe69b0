-- What comes before the rest of a list of arguments that is typed from left to right.
use Rattle.std.proofs.Common.{rules, ◌≡◌, false, List, [], ◌∷◌, ◌++◌, Ok, Err, refl}
use Rattle.c_tree.specs.Tree.{ExprT, ExprTs, MoreE}
use Rattle.c_types.specs.Typed.{TExprT, TExprTs, NoX, MoreX}
use Rattle.c_types.specs.declared.typed.TExpr.{TExpr, the_lemmas}
use Rattle.c_types.specs.View.{ctype, texpr, texprs}
use Rattle.c_types.specs.Lists.{texprs_then}
use Rattle.c_types.proofs.Lists.{texprs_end, texprs_push}
use Rattle.c_exprs.specs.Env.{Text, Ctx}
use Rattle.c_exprs.specs.Faults.{◌>>=◌}
use Rattle.c_exprs.specs.Nodes.{span_of, type_of_typed}
use Rattle.c_exprs.specs.Typing.{Typer, as_value, typed, all_valued}

-- the trees so far, before those that are still to be typed
abbrev pub before : List TExprT → Typer TExprTs → Typer TExprTs
before xs r = r >>= λ y. Ok (texprs_then xs y.0, y.1)

pub before-none : (r : Typer TExprTs) → before [] r ≡ r
before-none (Ok y) = refl
before-none (Err e) = refl

pub before-end : (xs : List TExprT) (ts : List Text) → before xs (Ok (NoX, ts)) ≡ Ok (texprs xs, ts)
before-end xs ts = rw (texprs_end xs) refl

push : (xs : List TExprT) (x : TExprT) (r : Typer TExprTs) → before (xs ++ x ∷ []) r ≡ before xs (r >>= λ ys. Ok (MoreX x ys.0, ys.1))
push xs x (Ok y) = rw (texprs_push xs x y.0) refl
push xs x (Err e) = refl

-- one more is typed
pub before-push : (c : Ctx) (xs : List TExprT) (ts us : List Text) (e : ExprT) (rest : ExprTs) (x : TExprT) → as_value c (span_of e) (typed c ts e) ≡ Ok (x, us) → before (xs ++ x ∷ []) (all_valued c us false rest) ≡ before xs (all_valued c ts false (MoreE e rest))
before-push c xs ts us e rest x good = rw good (push xs x (all_valued c us false rest))

-- the port's name is passed over
pub before-port : (xs : List TExprT) (r : Typer TExprTs) → before xs r ≡ before xs (r >>= λ ys. Ok (ys.0, ys.1))
before-port xs (Ok y) = refl
before-port xs (Err e) = refl

-- the type of a tree in memory
pub seen_type : (x : TExpr) → type_of_typed (texpr x) ≡ ctype x.ty
seen_type x = search (rules, the_lemmas)
