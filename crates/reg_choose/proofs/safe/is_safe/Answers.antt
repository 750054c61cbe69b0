use Rattle.std.proofs.Common.{rules, ◌≡◌, ℕ, length, map, List, [], false, ap, sym, subst}
use Rattle.mid_code.specs.Functions.{function, listed, joined, node}
use Rattle.mid_code.specs.Live.{is_among}
use Rattle.mid_code.specs.Safe.{IsSafe}
use Rattle.mid_live.specs.Sets.{on}
use Rattle.mid_live.specs.Labels.{labels_of}
use Rattle.reg_choose.specs.inner.Checked.{Labels}
use Rattle.mid_code.specs.declared.placed.Where.{Where}
use Rattle.reg_choose.proofs.Checking.{Like}
use Rattle.reg_choose.proofs.Tried.{list_tried_is}
use Rattle.reg_choose.proofs.Whole.{parts_safe, safe_parts}
use Rattle.reg_choose.proofs.safe.is_safe.Goals as goal

pub returns : goal.returns
returns c =
    let f = function c.args.f.now in
    let at : List Where = c.as_slice-at.result.now in
    let n = length at in
    let v : at ≡ c.args.c.now.at = search rules in
    let ns = c.as_slice-6.result.now in
    let x = listed (map node ns) in
    let xs = c.as_slice-2.result.now in
    let s : List ℕ = c.heads_in.new.s in
    let ls : Labels = λ y. labels_of y c.outside.result in
    let body : f.body ≡ joined x = ap (λ z. joined (listed (map node z))) (search rules) in
    let same : xs ≡ f.params = search rules in
    let i : Like n (is_among xs) (is_among f.params) = λ y l. ap (λ z. is_among z y) same in
    let k : Like n (on s) (λ y. false) = λ y l. c.in_ok-heads.ensures.none y in
    let j : Like n ls (λ y. []) = λ y l. c.outside.ensures y in
    let checked = list_tried_is at ls x s c.try_nodes.new.s c.try_nodes.new.hs c.in_ok-safe.safe c.in_ok-safe.ensures.tried in
    ((λ r. subst (IsSafe f) v (parts_safe f at x (is_among xs) ls (on s) body c.requires.names c.requires.params i j k (record { count = search rules; chosen = c.all_chosen.ensures.0 c.if-not-all_chosen.false; params = c.in_ok-apart.ensures.0 c.if-not-branch.false; points = checked.0 r }))), (λ h. checked.1 (safe_parts f at x (is_among xs) ls (on s) body i j k (subst (IsSafe f) (sym v) h)).points))
