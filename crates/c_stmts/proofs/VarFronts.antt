-- Variables that are declared from left to right.
use Rattle.std.proofs.Common.{◌≡◌, List, ◌∷◌, ◌++◌, Ok, Err, refl, append_assoc}
use Rattle.c_tree.specs.Tree.{VarT}
use Rattle.c_types.specs.Typed.{TVarT}
use Rattle.c_exprs.specs.Faults.{◌>>=◌}
use Rattle.c_stmts.specs.State.{Fn, St}
use Rattle.c_stmts.specs.StatementTyping.{Does, declared, all_declared}

abbrev pub before : List TVarT → Does (List TVarT) → Does (List TVarT)
before xs r = r >>= λ y. Ok (xs ++ y.0, y.1)

push : (xs ys : List TVarT) (r : Does (List TVarT)) → before (xs ++ ys) r ≡ before xs (r >>= λ y. Ok (ys ++ y.0, y.1))
push xs ys (Ok y) = rw (append_assoc xs ys y.0) refl
push xs ys (Err e) = refl

pub before-push : (f : Fn) (xs : List TVarT) (s t : St) (v : VarT) (rest : List VarT) (x : List TVarT) → declared f s v ≡ Ok (x, t) → before (xs ++ x) (all_declared f t rest) ≡ before xs (all_declared f s (v ∷ rest))
before-push f xs s t v rest x good = rw good (push xs x (all_declared f t rest))
