use Rattle.std.proofs.Common.{◌↔◌, drop}
use Rattle.mid_code.specs.Safe.{IsRegister, AllPlaces}
use Rattle.c_compile.proofs.sharing.registers.all_registers.Given as goal

abbrev pub invariant-loop-w : goal.invariant-loop-w
invariant-loop-w l = AllPlaces IsRegister l.at ↔ AllPlaces IsRegister (drop l.w-index l.at)
