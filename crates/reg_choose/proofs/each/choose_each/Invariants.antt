use Rattle.std.proofs.Common.{◌∷◌, map, drop}
use Rattle.mid_code.specs.Functions.{function}
use Rattle.reg_choose.specs.Each.{places_in}
use Rattle.reg_choose.proofs.Program.{Goes}
use Rattle.reg_choose.proofs.each.choose_each.Given as goal

abbrev pub invariant-loop-f : goal.invariant-loop-f
invariant-loop-f l = Goes (map function (drop l.f-index l.fs)) (function l.start ∷ map function l.fs) (places_in l.found.items)
