use Rattle.std.proofs.Common.{rules, ◌≡◌, refl, sym, subst, map}
use Rattle.mid_code.specs.Functions.{function}
use Rattle.mid_code.specs.View.{code}
use Rattle.mid_code.specs.Whole.{mid}
use Rattle.mid_code.specs.Invariants.{IsMid}
use Rattle.mid_replace.specs.ReplacedFrom.{IsReplacedFrom}
use Rattle.mid_replace.specs.inner.Chosen.{AllReplacedBy}
use Rattle.mid_replace.proofs.Kept.{replaced_mid, static_laws}
use Rattle.mid_replace.proofs.Whole.{replaced_keeps, replaced_works}
use Rattle.mid_replace.proofs.replacing.replace.Goals as goal

pub new-requires : goal.new-requires
new-requires c =
    let x = code c.into_code-of.result in
    let y = record x { functions = map function c.from_vec.result } in
    let sound : IsMid (mid c.args.m) = search rules in
    let of : x ≡ mid c.args.m = search rules in
    let all : AllReplacedBy x.functions y.functions = search rules in
    record { is_mid = replaced_mid x y (subst IsMid (sym of) sound) refl refl refl refl all }

pub returns : goal.returns
returns c =
    let x = code c.into_code-of.result in
    let y = record x { functions = map function c.from_vec.result } in
    let sound : IsMid (mid c.args.m) = search rules in
    let of : x ≡ mid c.args.m = search rules in
    let all : AllReplacedBy x.functions y.functions = search rules in
    let is_mid = subst IsMid (sym of) sound in
    let new : mid c.new.result ≡ y = search rules in
    let laws = static_laws x y is_mid refl refl refl refl all (replaced_keeps x y is_mid refl refl refl refl all) (replaced_works x y is_mid refl refl refl refl all) in
    record { replaced = subst (IsReplacedFrom (mid c.args.m)) (sym new) (subst (λ z. IsReplacedFrom z y) of laws) }
