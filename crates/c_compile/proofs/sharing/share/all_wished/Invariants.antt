use Rattle.mid_code.specs.Functions.{function}
use Rattle.mid_code.specs.Safe.{IsSafe, SparesSlots}
use Rattle.c_compile.proofs.sharing.share.all_wished.Given as goal

abbrev pub invariant-wishes : goal.invariant-wishes
invariant-wishes l = record {
  safe : IsSafe (function l.f) l.best.at;
  spares : SparesSlots (function l.f) l.best.at;
}
