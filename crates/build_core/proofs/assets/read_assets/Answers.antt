use Rattle.std.proofs.Common.{◌<◌, ◌∙◌, refl, ap, arith, rules}
use Rattle.std.specs.Prelude.{length}
use Rattle.build_core.proofs.AssetReading.{count_more, told_none, of_assets, reached_there, told_more, told_refused}
use Rattle.build_core.proofs.assets.read_assets.Goals as goal

pub each-init : goal.each-init
each-init g c = record {
  held = refl;
  told = told_none g.A.Asset.value (g.F.Reads.held c.args.files.now) c.new-assets.result.items c.new-assets.ensures.items;
  count = ap length c.new-assets.ensures.items;
  faults = omega arith;
  misses = omega arith;
  overs = omega arith;
}

pub returns-in-Err-clause-told : goal.returns-in-Err-clause-told
returns-in-Err-clause-told g c =
    let lt : c.each.name-index < length c.args.names.now = search rules in
    told_refused g.A.Asset.value c.args.names.now c.each.name-index c.name-item.result c.each.assets.items lt c.name-item.is c.in-Err.refusal _ _ c.each.invariant.told c.each.invariant.held c.in-Err.ensures.told

pub returns-in-Err-clause-kinds : goal.returns-in-Err-clause-kinds
returns-in-Err-clause-kinds g c =
    let lt : c.each.name-index < length c.args.names.now = search rules in
    of_assets c.args.names.now c.each.name-index c.name-item.result c.in-Err.refusal lt c.name-item.is c.in-Err.ensures.kinds

pub returns-in-Err-clause-reached : goal.returns-in-Err-clause-reached
returns-in-Err-clause-reached g c =
    let lt : c.each.name-index < length c.args.names.now = search rules in
    reached_there g.A.Asset.value c.args.names.now c.each.name-index c.name-item.result c.each.assets.items lt c.name-item.is c.in-Err.refusal (g.F.Reads.held c.args.files.now) c.each.invariant.told c.in-Err.ensures.kinds

pub each-preserved : goal.each-preserved
each-preserved g c =
    let lt : c.each.name-index < length c.args.names.now = search rules in
    let before = c.each.invariant in
    let causes = c.in-Ok.ensures.causes in
    record {
      held = c.in-Ok.ensures.held ∙ before.held;
      told = rw c.in-Ok-push.ensures.items (told_more g.A.Asset.value c.args.names.now c.each.name-index c.name-item.result c.each.assets.items lt c.name-item.is c.in-Ok.asset _ _ before.told before.held c.in-Ok.ensures.told);
      count = count_more c.push.new.self.items c.each.assets.items c.in-Ok.asset c.each.name-index c.in-Ok-push.ensures.items before.count;
      faults = omega (arith, before.faults, causes.faults_later);
      misses = omega (arith, before.misses, causes.misses_later);
      overs = omega (arith, before.overs, causes.overs_later);
    }
