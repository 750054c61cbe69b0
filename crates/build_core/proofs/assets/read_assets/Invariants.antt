use Rattle.std.proofs.Common.{◌≡◌, ◌≤◌, length, take}
use Rattle.std.specs.Prelude.{Ok, IfSome}
use Rattle.build_core.specs.Due.{all_of, asset_of}
use Rattle.build_core.proofs.assets.read_assets.Given as goal

abbrev pub invariant-each : goal.invariant-each
invariant-each g l = record {
  held : g.F.Reads.held l.files ≡ g.F.Reads.held l.fn.files;
  told : IfSome (g.F.Reads.held l.fn.files) (λ m. all_of (asset_of g.A.Asset.value m) (take l.name-index l.names) ≡ Ok l.assets.items);
  count : length l.assets.items ≡ l.name-index;
  faults : g.F.Reads.faults l.fn.files ≤ g.F.Reads.faults l.files;
  misses : g.F.Reads.misses l.fn.files ≤ g.F.Reads.misses l.files;
  overs : g.F.Reads.overs l.fn.files ≤ g.F.Reads.overs l.files;
}
