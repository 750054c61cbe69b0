use Rattle.std.proofs.Common.{◌∷◌, map, length}
use Rattle.mid_code.specs.Functions.{function}
use Rattle.mid_code.specs.Invariants.{AllOf}
use Rattle.mid_code.specs.Choices.{EachSafe}
use Rattle.reg_choose.specs.Each.{EachSpares, places_in, IsNamed}
use Rattle.reg_choose.proofs.Program.{Goes}
use Rattle.c_compile.proofs.sharing.share.share_each.Given as goal

abbrev pub invariant-functions : goal.invariant-functions
invariant-functions l = record {
  named : AllOf IsNamed (map function l.rest);
  safe : EachSafe (map function l.rest) (places_in l.given);
  spares : EachSpares (map function l.rest) (places_in l.given);
  goes : Goes (map function l.rest) (function l.start ∷ map function l.fs) (places_in l.found.items);
}

abbrev pub decreases-functions : goal.decreases-functions
decreases-functions l = length l.rest
