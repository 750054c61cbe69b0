use Rattle.std.proofs.Common.{◌≡◌, ◌++◌, ◌∷◌, [], rules}
use Rattle.c_prep.proofs.Numbering.{name_added}
use Rattle.c_prep.proofs.files.name_file.Goals as goal

pub returns-clause-texts : goal.returns-clause-texts
returns-clause-texts c = λ had. let is : c.push.new.self.items ≡ c.args.names.now.items ++ c.args.name.now ∷ [] = search rules in name_added _ _ _ is c.utf8.name had
