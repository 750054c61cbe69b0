use Rattle.std.proofs.Common.{rules, ◌≡◌, ◌∙◌, sym, ap}
use Rattle.std.specs.Prelude.{Some, ◌/◌, length, take}
use Rattle.kit_base.specs.Held.{from_entries_of, appended}
use Rattle.kit_base.proofs.Entries.{kept}
use Rattle.kit_base.proofs.files_in_memory.FilesInMemoryFiles.append.Goals as goal
use Rattle.kit_base.proofs.files_in_memory.FilesInMemoryFiles.append.Goals.{in-Ok, in-Err}

pub returns-then-begins_failing-clause-err : goal.returns-then-begins_failing-clause-err
returns-then-begins_failing-clause-err c = elim c.match-add_to_file.branch [
  | in-Ok w ↦
      let half : from_entries_of c.add_to_file.new.files.items ≡ appended c.args.name.now (take (length c.args.piece.now / 2) c.args.piece.now) (from_entries_of c.args.self.now.files) = search rules in
      rw w.result-is (length c.args.piece.now / 2, ap Some half)
  | in-Err w ↦
      let same : c.add_to_file.new.files.items ≡ c.args.self.now.files = search rules in
      rw w.result-is (0, ap (λ es. Some (from_entries_of es)) same ∙ ap Some (sym (kept _ c.args.name.now c.requires)))
]

pub returns-clause-err : goal.returns-clause-err
returns-clause-err c = elim c.match-add_to_file-2.branch [
  | goal.in-Ok-add_to_file w ↦ rw w.result-is tt
  | goal.in-Err-add_to_file w ↦
      let same : c.add_to_file-2.new.files.items ≡ c.args.self.now.files = search rules in
      rw w.result-is (0, ap (λ es. Some (from_entries_of es)) same ∙ ap Some (sym (kept _ c.args.name.now c.requires)))
]
