use Rattle.std.proofs.Common.{◌≡◌, ◌++◌, drop, map}
use Rattle.c_tree.specs.View.{item}
use Rattle.build_core.specs.Starts.{starts_of}
use Rattle.build_core.proofs.sources.starts_of.Given as goal

-- those so far, with those of the items left, are all
abbrev pub invariant-each : goal.invariant-each
invariant-each l = l.starts.items ++ starts_of (map item (drop l.item-index l.parsed.items)) ≡ starts_of (map item l.parsed.items)
