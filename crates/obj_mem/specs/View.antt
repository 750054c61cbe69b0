-- The plain objects that objects in memory stand for.
use Rattle.std.specs.Prelude.{List, map}
use Rattle.obj_mem.specs.declared.objects.Objects.{Objects}
use Rattle.obj_mem.specs.Objects.{ObjectT}
use Rattle.obj_mem.specs.Living.{objects_of}
use Rattle.obj_mem.specs.LiveView.{live_object}

unfoldable pub objects : Objects → List ObjectT
objects x = objects_of (map live_object x.live.items) x.next
