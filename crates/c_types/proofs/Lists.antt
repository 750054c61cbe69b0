-- Laws of lists beside the trees' own sorts of lists.
use Rattle.std.proofs.Common.{◌≡◌, List, [], ◌∷◌, ◌++◌, refl, ap}
use Rattle.c_types.specs.Typed.{TExprT, TExprTs, NoX, MoreX, TInitT, TInitTs, NoI, MoreI, TStmtT, TStmtTs, NoZ, MoreZ, TArmT, TArmTs, NoB, MoreB}
use Rattle.c_types.specs.View.{texprs, tinits, tstmts, tarms}
use Rattle.c_types.specs.Lists.{listed, texprs_then, tinits_then, tstmts_then, tarms_then}

pub listed_texprs : (xs : List TExprT) → listed (texprs xs) ≡ xs
listed_texprs [] = refl
listed_texprs (x ∷ xs) = ap (λ (ys : List TExprT). x ∷ ys) (listed_texprs xs)

-- none behind them
pub texprs_end : (xs : List TExprT) → texprs_then xs NoX ≡ texprs xs
texprs_end [] = refl
texprs_end (x ∷ xs) = ap (λ (ys : TExprTs). MoreX x ys) (texprs_end xs)

-- one more of them
pub texprs_push : (xs : List TExprT) (x : TExprT) (ys : TExprTs) → texprs_then (xs ++ x ∷ []) ys ≡ texprs_then xs (MoreX x ys)
texprs_push [] x ys = refl
texprs_push (z ∷ xs) x ys = ap (λ (zs : TExprTs). MoreX z zs) (texprs_push xs x ys)

-- none behind them
pub tinits_end : (xs : List TInitT) → tinits_then xs NoI ≡ tinits xs
tinits_end [] = refl
tinits_end (x ∷ xs) = ap (λ (ys : TInitTs). MoreI x ys) (tinits_end xs)

-- one more of them
pub tinits_push : (xs : List TInitT) (x : TInitT) (ys : TInitTs) → tinits_then (xs ++ x ∷ []) ys ≡ tinits_then xs (MoreI x ys)
tinits_push [] x ys = refl
tinits_push (z ∷ xs) x ys = ap (λ (zs : TInitTs). MoreI z zs) (tinits_push xs x ys)

-- none behind them
pub tstmts_end : (xs : List TStmtT) → tstmts_then xs NoZ ≡ tstmts xs
tstmts_end [] = refl
tstmts_end (x ∷ xs) = ap (λ (ys : TStmtTs). MoreZ x ys) (tstmts_end xs)

-- one more of them
pub tstmts_push : (xs : List TStmtT) (x : TStmtT) (ys : TStmtTs) → tstmts_then (xs ++ x ∷ []) ys ≡ tstmts_then xs (MoreZ x ys)
tstmts_push [] x ys = refl
tstmts_push (z ∷ xs) x ys = ap (λ (zs : TStmtTs). MoreZ z zs) (tstmts_push xs x ys)

-- none behind them
pub tarms_end : (xs : List TArmT) → tarms_then xs NoB ≡ tarms xs
tarms_end [] = refl
tarms_end (x ∷ xs) = ap (λ (ys : TArmTs). MoreB x ys) (tarms_end xs)

-- one more of them
pub tarms_push : (xs : List TArmT) (x : TArmT) (ys : TArmTs) → tarms_then (xs ++ x ∷ []) ys ≡ tarms_then xs (MoreB x ys)
tarms_push [] x ys = refl
tarms_push (z ∷ xs) x ys = ap (λ (zs : TArmTs). MoreB z zs) (tarms_push xs x ys)
