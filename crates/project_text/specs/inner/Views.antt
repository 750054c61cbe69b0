-- What an entry of the code says.
use Rattle.std.specs.Prelude.{ℕ, List}
use Rattle.project_text.specs.declared.entry.Entry.{Entry}
use Rattle.project_text.specs.declared.entry.Entry.TheVariants as code
use Rattle.project_text.specs.Entries as said

abbrev pub entry_view : Entry → said.Entry
entry_view code.Nothing = said.Nothing
entry_view (code.Title t) = said.Title t.now
entry_view (code.Source f) = said.Source f.now
entry_view (code.Texture f) = said.Texture f.now
entry_view (code.Sound f) = said.Sound f.now
