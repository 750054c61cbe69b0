-- What types and lists in memory stand for.
use Rattle.std.proofs.Common.{rules, Option, Some, None, option_map, ◌≡◌, ◌≤◌, ℕ, zero, List, [], ◌∷◌, map, ap, sym, ◌∙◌, arith, suc, ◌+◌, ◌<◌, length, drop, drop-cons, get_or}
use Rattle.std.specs.Borrow.{Bor}
use Rattle.std.specs.Global.{Box}
use Rattle.std.specs.Option.{option_copied}
use Rattle.c_types.specs.View.{texpr, tstmt, tstmts, tarm, tarms}
use Rattle.c_types.specs.Typed.{IfZ, ForZ, MoreZ, MoreB}
use Rattle.c_types.specs.Nodes.{statements_nodes, arms_nodes}
use Rattle.c_types.specs.declared.typed.TExpr.{TExpr}
use Rattle.c_types.specs.declared.typed.TStmt.{TStmt, If, For, the_lemmas}
use Rattle.c_types.specs.declared.typed.TArm.{TArm}
use Rattle.lower_trees.specs.inner.MaybeStatements.{other_of, maybe_texpr}

-- ---- statements that may lack a part

pub view-If : (x : TExpr) (a : Box TStmt) (b : Option (Box TStmt)) → tstmt (If x a b) ≡ IfZ (texpr x) (tstmt a.value) (other_of b)
view-If x a None = search (rules, the_lemmas)
view-If x a (Some b) = search (rules, the_lemmas)

pub view-For : (made : List ℕ) (f : Option (Box TStmt)) (x y : Option TExpr) (a : Box TStmt) → tstmt (For made f x y a) ≡ ForZ made (other_of f) (option_map texpr x) (option_map texpr y) (tstmt a.value)
view-For made None x y a = search (rules, the_lemmas)
view-For made (Some f) x y a = search (rules, the_lemmas)

pub maybe_is : (r : Option (Bor TExpr)) (x : Option TExpr) → option_copied r ≡ x → option_map texpr x ≡ maybe_texpr r
maybe_is None x e = ap (option_map texpr) (sym e)
maybe_is (Some r) x e = ap (option_map texpr) (sym e)

-- ---- what is left of a list

pub stmts_left : (xs : List TStmt) (i : ℕ) (x : TStmt) → i < length xs → x ≡ get_or xs i x → tstmts (map tstmt (drop i xs)) ≡ MoreZ (tstmt x) (tstmts (map tstmt (drop (i + 1) xs)))
stmts_left xs i x b e =
    let next : suc i ≡ i + 1 = omega arith in
    ap (λ l. tstmts (map tstmt l)) (drop-cons xs i x b) ∙ ap (λ z. MoreZ (tstmt z) (tstmts (map tstmt (drop (suc i) xs)))) (sym e) ∙ ap (λ k. MoreZ (tstmt x) (tstmts (map tstmt (drop k xs)))) next

pub arms_left : (xs : List TArm) (i : ℕ) (x : TArm) → i < length xs → x ≡ get_or xs i x → tarms (map tarm (drop i xs)) ≡ MoreB (tarm x) (tarms (map tarm (drop (i + 1) xs)))
arms_left xs i x b e =
    let next : suc i ≡ i + 1 = omega arith in
    ap (λ l. tarms (map tarm l)) (drop-cons xs i x b) ∙ ap (λ z. MoreB (tarm z) (tarms (map tarm (drop (suc i) xs)))) (sym e) ∙ ap (λ k. MoreB (tarm x) (tarms (map tarm (drop k xs)))) next

pub stmts_drop : (i : ℕ) (xs : List TStmt) → statements_nodes (tstmts (map tstmt (drop i xs))) ≤ statements_nodes (tstmts (map tstmt xs))
stmts_drop zero xs = omega arith
stmts_drop (suc i) [] = omega arith
stmts_drop (suc i) (x ∷ xs) = let e = stmts_drop i xs in omega (arith, e)

pub arms_drop : (i : ℕ) (xs : List TArm) → arms_nodes (tarms (map tarm (drop i xs))) ≤ arms_nodes (tarms (map tarm xs))
arms_drop zero xs = omega arith
arms_drop (suc i) [] = omega arith
arms_drop (suc i) (x ∷ xs) = let e = arms_drop i xs in omega (arith, e)
