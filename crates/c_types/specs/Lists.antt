-- Lists beside the trees' own sorts of lists.
use Rattle.std.specs.Prelude.{List, [], ◌∷◌}
use Rattle.c_types.specs.Typed.{TExprT, TExprTs, NoX, MoreX, TInitT, TInitTs, MoreI, TStmtT, TStmtTs, MoreZ, TArmT, TArmTs, MoreB}

-- a tree's own list of expressions as a list
abbrev pub listed : TExprTs → List TExprT
listed NoX = []
listed (MoreX x xs) = x ∷ listed xs

-- some trees, and then those of a tree's own list
abbrev pub texprs_then : List TExprT → TExprTs → TExprTs
texprs_then [] ys = ys
texprs_then (x ∷ xs) ys = MoreX x (texprs_then xs ys)

abbrev pub tinits_then : List TInitT → TInitTs → TInitTs
tinits_then [] ys = ys
tinits_then (x ∷ xs) ys = MoreI x (tinits_then xs ys)

abbrev pub tstmts_then : List TStmtT → TStmtTs → TStmtTs
tstmts_then [] ys = ys
tstmts_then (x ∷ xs) ys = MoreZ x (tstmts_then xs ys)

abbrev pub tarms_then : List TArmT → TArmTs → TArmTs
tarms_then [] ys = ys
tarms_then (x ∷ xs) ys = MoreB x (tarms_then xs ys)
