use Rattle.std.proofs.Common.{rules, ◌≡◌, map, ap, sym}
use Rattle.mid_code.specs.Functions.{function, listed, joined, node}
use Rattle.mid_live.specs.Sets.{on}
use Rattle.mid_live.specs.Labels.{labels_of}
use Rattle.mid_improve.specs.inner.Wanted.{Labels}
use Rattle.mid_improve.proofs.Wanting.{wanted_exact}
use Rattle.mid_improve.proofs.targets.are_targets_live.Goals as goal

pub returns-clause-live : goal.returns-clause-live
returns-clause-live c =
    let f = function c.args.f.now in
    let ns = c.as_slice-2.result.now in
    let same : ns ≡ c.args.f.now.body = search rules in
    let ls : Labels = λ y. labels_of y c.outside.result in
    wanted_exact f.temps (listed (map node ns)) f.body c.in_ok-fine.fine ls (on c.heads_in.new.s) (ap (λ z. joined (listed (map node z))) (sym same)) c.requires.named (λ y. c.outside.ensures y) (λ y. c.in_ok-heads.ensures.none y) c.in_ok-fine.ensures.wanted
