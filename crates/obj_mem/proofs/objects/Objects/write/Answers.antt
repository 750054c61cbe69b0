use Rattle.std.proofs.Common.{◌≡◌, Some, Err, map}
use Rattle.std.proofs.lemmas.Result.{IfErr-weaker}
use Rattle.obj_mem.specs.Objects.{cell_written, write_refused}
use Rattle.obj_mem.specs.Living.{found}
use Rattle.obj_mem.specs.LiveView.{live_object}
use Rattle.obj_mem.specs.View.{objects}
use Rattle.obj_mem.proofs.OnAll.{all_refused}
use Rattle.obj_mem.proofs.objects.Objects.write.Goals as goal

pub returns-clause-err : goal.returns-clause-err
returns-clause-err c = IfErr-weaker c.write.result
    (λ why. write_refused (found (map live_object c.args.self.now.live.items) c.args.object) c.args.offset ≡ Some why)
    (λ why. cell_written (objects c.args.self.now) c.args.object c.args.offset c.args.cell ≡ Err why)
    (all_refused c.args.self.now c.args.object c.args.offset c.args.cell) c.write.ensures.why
