-- The plain object that one in memory stands for.
use Rattle.obj_mem.specs.declared.object.Object.{Object}
use Rattle.obj_mem.specs.Living.{LiveT}

abbrev pub live_object : Object → LiveT
live_object x = record { number = x.number; kind = x.kind; cells = x.cells.items }
