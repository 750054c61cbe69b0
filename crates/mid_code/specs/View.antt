-- The plain code that code in memory stands for.
use Rattle.std.specs.Prelude.{map}
use Rattle.mid_code.specs.declared.code.Code.{Code}
use Rattle.mid_code.specs.declared.placed.Spots.{Spots}
use Rattle.mid_code.specs.Code.{CodeT}
use Rattle.mid_code.specs.Placed.{SpotsT}
use Rattle.mid_code.specs.Functions.{function}

abbrev pub code : {P : Type 0} → Code P → CodeT P
code x = record { start = function x.start; functions = map function x.functions; globals = x.globals; literals = x.literals; main = x.main }

abbrev pub spots : Spots → SpotsT
spots x = record { slots = x.slots; locals = x.locals; own = x.own }
