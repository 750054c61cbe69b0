use Rattle.std.proofs.Common.{rules, arith, ◌≡◌, ℕ, suc, ◌-◌, Some, true, ap, sym, ◌∙◌}
use Rattle.c_types.specs.View.{ctype, texpr}
use Rattle.c_types.specs.Typed.{TExprT, Typed, BinaryK, IndexK}
use Rattle.c_types.specs.declared.typed.TExpr.{the_lemmas}
use Rattle.c_meaning.specs.Kinds.{type_of}
use Rattle.c_evaluate.specs.inner.SettingView.{setting_of}
use Rattle.c_evaluate.specs.inner.StoreView.{store_of}
use Rattle.c_evaluate.specs.inner.Swift.{binary_at_once, comes, index_at_once, is_strict, with_some}
use Rattle.c_evaluate.proofs.Pairs.{binary_comes, index_comes, type_is}
use Rattle.c_evaluate.proofs.leaf.+comes.Goals as goal

pub returns-in-Some-comes : goal.returns-in-Some-comes
returns-in-Some-comes t c =
    let s = setting_of c.args.s.now in
    let u = store_of c.args.store.now in
    let n : ℕ = c.args.depth in
    let x : TExprT = texpr c.in-Binary.a.value in
    let y : TExprT = texpr c.in-Binary.b.value in
    let deep : n ≡ suc (n - 1) = first_of (grind (arith, c.if-depth-eq0.false), search rules) in
    let strict : is_strict c.in-Binary.op ≡ true = search rules in
    let first : comes s (n - 1) x u ≡ Some c.in-Some-comes.v = search rules in
    let second : c.comes-w.result ≡ comes s (n - 1) y u = search rules in
    let tx : ctype c.in-Binary.a.value.ty ≡ type_of x = sym (type_is c.in-Binary.a.value) in
    let ty : ctype c.in-Binary.b.value.ty ≡ type_of y = sym (type_is c.in-Binary.b.value) in
    let e : texpr c.args.x.now ≡ Typed (BinaryK c.in-Binary.op x y) (ctype c.args.x.now.ty) c.args.x.now.span = first_of (search rules, search (rules, the_lemmas)) in
    let last0 : c.binary_with.result ≡ with_some c.comes-w.result (λ w. binary_at_once s c.in-Binary.op (ctype c.in-Binary.a.value.ty) (ctype c.in-Binary.b.value.ty) c.in-Some-comes.v w u) = search rules in
    let last : c.binary_with.result ≡ with_some c.comes-w.result (λ w. binary_at_once s c.in-Binary.op (type_of x) (type_of y) c.in-Some-comes.v w u) = last0 ∙ (λ i. with_some c.comes-w.result (λ w. binary_at_once s c.in-Binary.op (tx i) (ty i) c.in-Some-comes.v w u)) in
    let whole = binary_comes s x y (ctype c.args.x.now.ty) c.args.x.now.span u c.in-Some-comes.v c.comes-w.result c.binary_with.result c.in-Binary.op n deep strict first second last in
    whole ∙ ap (λ q. comes s n q u) (sym e)

pub returns-in-Some-comes-2 : goal.returns-in-Some-comes-2
returns-in-Some-comes-2 t c =
    let s = setting_of c.args.s.now in
    let u = store_of c.args.store.now in
    let n : ℕ = c.args.depth in
    let x : TExprT = texpr c.in-Index.a.value in
    let y : TExprT = texpr c.in-Index.b.value in
    let deep : n ≡ suc (n - 1) = first_of (grind (arith, c.if-depth-eq0.false), search rules) in
    let first : comes s (n - 1) x u ≡ Some c.in-Some-comes-2.v = search rules in
    let second : c.comes-w-in-Some-comes-2.result ≡ comes s (n - 1) y u = search rules in
    let tx : ctype c.in-Index.a.value.ty ≡ type_of x = sym (type_is c.in-Index.a.value) in
    let ty : ctype c.in-Index.b.value.ty ≡ type_of y = sym (type_is c.in-Index.b.value) in
    let e : texpr c.args.x.now ≡ Typed (IndexK x y) (ctype c.args.x.now.ty) c.args.x.now.span = first_of (search rules, search (rules, the_lemmas)) in
    let last0 : c.index_with.result ≡ with_some c.comes-w-in-Some-comes-2.result (λ w. index_at_once s (ctype c.args.x.now.ty) (ctype c.in-Index.a.value.ty) (ctype c.in-Index.b.value.ty) c.in-Some-comes-2.v w u) = search rules in
    let last : c.index_with.result ≡ with_some c.comes-w-in-Some-comes-2.result (λ w. index_at_once s (ctype c.args.x.now.ty) (type_of x) (type_of y) c.in-Some-comes-2.v w u) = last0 ∙ (λ i. with_some c.comes-w-in-Some-comes-2.result (λ w. index_at_once s (ctype c.args.x.now.ty) (tx i) (ty i) c.in-Some-comes-2.v w u)) in
    let whole = index_comes s x y (ctype c.args.x.now.ty) c.args.x.now.span u c.in-Some-comes-2.v c.comes-w-in-Some-comes-2.result c.index_with.result n deep first second last in
    whole ∙ ap (λ q. comes s n q u) (sym e)
