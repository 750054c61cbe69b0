use Rattle.std.proofs.Common.{◌≡◌, length}
use Rattle.kit_base.specs.Store.{are_distinct}
use Rattle.kit_base.proofs.files_in_memory.FilesInMemory.are_distinct.Given as goal

abbrev pub invariant-files : goal.invariant-files
invariant-files l = are_distinct l.rest ≡ are_distinct l.files

abbrev pub decreases-files : goal.decreases-files
decreases-files l = length l.rest
