use Rattle.std.proofs.Common.{◌∙◌, List, ℕ, ap}
use Rattle.c_parse.proofs.Known.{in_names}
use Rattle.c_parse.proofs.types.Types.has.Goals as goal

-- src/types.rt:38:5
pub returns : goal.returns
returns c = record { has = c.contains.ensures ∙ c.self.inside.found c.args.word.now ∙ ap (λ (ns : List (List ℕ)). in_names ns c.args.word.now) c.self.view_is }
