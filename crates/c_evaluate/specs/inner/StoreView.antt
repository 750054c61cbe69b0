-- The store that one in memory stands for, and what a call keeps of its caller.
use Rattle.obj_mem.specs.View.{objects}
use Rattle.obj_mem.specs.Stores as stores
use Rattle.c_evaluate.specs.declared.store.Store.{Store}
use Rattle.c_evaluate.specs.declared.frame.Caller.{Caller}
use Rattle.c_evaluate.specs.inner.Machine.{CallerT}

abbrev pub store_of : Store → stores.Store
store_of s = record { objects = objects s.objects; answers = s.answers.now; function = s.function; locals = s.locals.items; used = s.used }

abbrev pub caller : Caller → CallerT
caller c = record { objects = c.objects; function = c.function; locals = c.locals.items; used = c.used }
