-- What comes before the rest of a list of statements, or of the arms of a switch.
use Rattle.std.proofs.Common.{◌≡◌, Bool, List, [], ◌∷◌, ◌++◌, Ok, Err, refl}
use Rattle.c_tree.specs.Tree.{StmtT, StmtTs, MoreS, ArmT, ArmTs, MoreA}
use Rattle.c_types.specs.Typed.{TStmtT, TStmtTs, NoZ, MoreZ, TArmT, TArmTs, NoB, MoreB}
use Rattle.c_types.specs.View.{tstmts, tarms}
use Rattle.c_types.specs.Lists.{tstmts_then, tarms_then}
use Rattle.c_types.proofs.Lists.{tstmts_end, tstmts_push, tarms_end, tarms_push}
use Rattle.c_exprs.specs.Faults.{◌>>=◌}
use Rattle.c_stmts.specs.State.{Fn, St, Labels, with_label}
use Rattle.c_stmts.specs.StatementTyping.{Does, statement, statements, arm, arms}

-- the trees so far, before those that are still to be typed
abbrev pub before : List TStmtT → Does TStmtTs → Does TStmtTs
before xs r = r >>= λ y. Ok (tstmts_then xs y.0, y.1)

pub before-end : (xs : List TStmtT) (sp : St) → before xs (Ok (NoZ, sp)) ≡ Ok (tstmts xs, sp)
before-end xs sp = rw (tstmts_end xs) refl

push : (xs : List TStmtT) (x : TStmtT) (r : Does TStmtTs) → before (xs ++ x ∷ []) r ≡ before xs (r >>= λ ys. Ok (MoreZ x ys.0, ys.1))
push xs x (Ok y) = rw (tstmts_push xs x y.0) refl
push xs x (Err e) = refl

-- one more is typed
pub before-push : (f : Fn) (xs : List TStmtT) (sp sq : St) (breaks continues : Bool) (a : StmtT) (rest : StmtTs) (x : TStmtT) → statement f sp breaks continues a ≡ Ok (x, sq) → before (xs ++ x ∷ []) (statements f sq breaks continues rest) ≡ before xs (statements f sp breaks continues (MoreS a rest))
before-push f xs sp sq breaks continues a rest x good = rw good (push xs x (statements f sq breaks continues rest))

-- ---- arms

abbrev pub before_arms : List TArmT → Does TArmTs → Does TArmTs
before_arms xs r = r >>= λ y. Ok (tarms_then xs y.0, y.1)

pub before_arms-none : (r : Does TArmTs) → before_arms [] r ≡ r
before_arms-none (Ok y) = refl
before_arms-none (Err e) = refl

pub before_arms-end : (xs : List TArmT) (sp : St) → before_arms xs (Ok (NoB, sp)) ≡ Ok (tarms xs, sp)
before_arms-end xs sp = rw (tarms_end xs) refl

push_arms : (xs : List TArmT) (x : TArmT) (r : Does TArmTs) → before_arms (xs ++ x ∷ []) r ≡ before_arms xs (r >>= λ ys. Ok (MoreB x ys.0, ys.1))
push_arms xs x (Ok y) = rw (tarms_push xs x y.0) refl
push_arms xs x (Err e) = refl

pub before_arms-push : (f : Fn) (xs : List TArmT) (sp sq : St) (breaks continues : Bool) (seen : Labels) (a : ArmT) (rest : ArmTs) (x : TArmT) → arm f sp breaks continues seen a ≡ Ok (x, sq) → before_arms (xs ++ x ∷ []) (arms f sq breaks continues (with_label seen x) rest) ≡ before_arms xs (arms f sp breaks continues seen (MoreA a rest))
before_arms-push f xs sp sq breaks continues seen a rest x good = rw good (push_arms xs x (arms f sq breaks continues (with_label seen x) rest))
