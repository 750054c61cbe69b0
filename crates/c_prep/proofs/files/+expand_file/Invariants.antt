use Rattle.std.proofs.Common.{◌≡◌, ◌≤◌, ◌<◌, length}
use Rattle.std.specs.Prelude.{Some, true}
use Rattle.std.specs.List.{list_all}
use Rattle.std.specs.Str.{is_utf8}
use Rattle.kit_base.specs.Held.{Held}
use Rattle.c_prep.specs.Faults.{◌>>=◌}
use Rattle.c_prep.specs.Lines.{lines_of}
use Rattle.c_prep.specs.Files.{file_at, include_at, lines_at, ended}
use Rattle.c_prep.specs.inner.Inner.{ArePlaced}
use Rattle.c_prep.proofs.files.+expand_file.Given as goal

abbrev pub decreases-expand_file : goal.decreases-expand_file
decreases-expand_file g l = l.room

abbrev pub invariant-each : goal.invariant-each
invariant-each g l = record {
  held : g.F.Reads.held l.files ≡ g.F.Reads.held l.fn.files;
  faults : g.F.Reads.faults l.fn.files ≤ g.F.Reads.faults l.files;
  misses : g.F.Reads.misses l.fn.files ≤ g.F.Reads.misses l.files;
  file : l.file < length l.names.items;
  more : length l.fn.names.items ≤ length l.names.items;
  texts : list_all is_utf8 l.names.items ≡ true;
  put : ArePlaced (length l.names.items) l.work.out.tokens;
  left : ArePlaced (length l.names.items) l.tokens;
  overs : g.F.Reads.overs l.fn.files ≤ g.F.Reads.overs l.files;
  reads : (m : Held) → g.F.Reads.held l.fn.files ≡ Some m → (lines_at (include_at m l.room) (lines_of l.tokens) (record { work = l.work; names = l.names.items }) l.conds >>= ended l.file) ≡ file_at m (include_at m l.room) l.fn.missing l.name (record { work = l.fn.work; names = l.fn.names.items });
}

abbrev pub decreases-each : goal.decreases-each
decreases-each g l = length l.tokens
