use Rattle.std.proofs.Common.{◌∙◌, ℕ, List, ap}
use Rattle.assembler.specs.Labels.{address_of}
use Rattle.assembler.proofs.Lookups.{looked_up}
use Rattle.assembler.proofs.labels.Labels.address_of.Goals as goal

pub returns : goal.returns
returns c = c.copied.ensures ∙ c.get.ensures.value ∙ looked_up c.args.name.now c.self.inside.table.entries ∙ ap (λ (l : List (List ℕ × ℕ)). address_of l c.args.name.now) c.self.view_is
