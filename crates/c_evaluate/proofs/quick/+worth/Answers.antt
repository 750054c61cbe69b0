use Rattle.std.proofs.Common.{rules, arith, ◌≡◌, ℕ, suc, ◌-◌, Some, true, ap, sym, ◌∙◌}
use Rattle.c_types.specs.View.{ctype, texpr}
use Rattle.c_types.specs.Typed.{TExprT, Typed, BinaryK}
use Rattle.c_types.specs.declared.typed.TExpr.{the_lemmas}
use Rattle.c_meaning.specs.Kinds.{type_of}
use Rattle.c_evaluate.specs.inner.Swift.{binary_worth, is_strict, is_word, with_some, worth}
use Rattle.c_evaluate.proofs.Pairs.{binary_worths, type_is}
use Rattle.c_evaluate.proofs.quick.+worth.Goals as goal

pub returns-in-Some-worth : goal.returns-in-Some-worth
returns-in-Some-worth t c =
    let vs = c.args.args.now in
    let n : ℕ = c.args.depth in
    let x : TExprT = texpr c.in-Binary.a.value in
    let y : TExprT = texpr c.in-Binary.b.value in
    let deep : n ≡ suc (n - 1) = first_of (grind (arith, c.if-depth-eq0-2.false), search rules) in
    let strict : is_strict c.in-Binary.op ≡ true = search rules in
    let word0 : is_word (ctype c.in-Binary.a.value.ty) ≡ true = search rules in
    let word : is_word (type_of x) ≡ true = ap is_word (type_is c.in-Binary.a.value) ∙ word0 in
    let first : worth (n - 1) vs x ≡ Some c.in-Some-worth.v = search rules in
    let second : c.worth-in-Some-worth.result ≡ worth (n - 1) vs y = search rules in
    let e : texpr c.args.x.now ≡ Typed (BinaryK c.in-Binary.op x y) (ctype c.args.x.now.ty) c.args.x.now.span = first_of (search rules, search (rules, the_lemmas)) in
    let last : c.binary_with.result ≡ with_some c.worth-in-Some-worth.result (λ b. binary_worth c.in-Binary.op c.in-Some-worth.v b) = search rules in
    let whole = binary_worths vs x y (ctype c.args.x.now.ty) c.args.x.now.span c.in-Some-worth.v c.worth-in-Some-worth.result c.binary_with.result c.in-Binary.op n deep strict word first second last in
    whole ∙ ap (λ q. worth n vs q) (sym e)
