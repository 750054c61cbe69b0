use Rattle.kit_base.proofs.Holdings.{holds_emptied}
use Rattle.test_library.proofs.outside.write_file.Goals as goal

pub append-requires : goal.append-requires
append-requires g c = holds_emptied _ _ _ c.in_ok-create.ensures.ok
