use Rattle.std.proofs.Common.{◌∙◌, ap, refl}
use Rattle.std.specs.Prelude.{not}
use Rattle.assembler.proofs.Lookups.{has, stays, grows}
use Rattle.assembler.proofs.labels.Labels.add.Goals as goal

pub returns-then-contains_key-clause-added : goal.returns-then-contains_key-clause-added
returns-then-contains_key-clause-added c = ap not (c.if-contains_key.ensures ∙ has _ _ _ c.self.view_is)

pub returns-then-contains_key-clause-labels : goal.returns-then-contains_key-clause-labels
returns-then-contains_key-clause-labels c = stays c.args.name.now c.self.inside.table.entries c.args.self.now c.self.view_is c.args.address c.if-contains_key.ensures

pub returns-clause-added : goal.returns-clause-added
returns-clause-added c = ap not (c.if-contains_key.ensures ∙ has _ _ _ c.self.view_is)

pub returns-clause-labels : goal.returns-clause-labels
returns-clause-labels c = grows c.args.name.now c.self.inside.table.entries c.args.self.now c.self.view_is c.args.name c.args.address c.insert.new.self.entries refl c.if-contains_key.ensures c.in_ok-insert.ensures.entries
