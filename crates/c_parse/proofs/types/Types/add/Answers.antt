use Rattle.std.proofs.Common.{◌∙◌, List, ℕ, ap, sym}
use Rattle.c_parse.proofs.Known.{in_table, in_names, added}
use Rattle.c_parse.proofs.types.Types.add.Goals as goal

-- src/types.rt:50:15
pub invariant_of-self-inside-in-Ok : goal.invariant_of-self-inside-in-Ok
invariant_of-self-inside-in-Ok c = (λ word. ap (λ (ks : List (List ℕ)). in_table ks word) c.in-Ok.ensures.keys ∙ added c.self.inside.names.items c.self.inside.table.keys c.in_ok-copy.field-0 c.in_ok-key.key (c.in_ok-key.ensures ∙ sym c.in_ok-copy.ensures) c.self.inside.found word ∙ ap (λ (ns : List (List ℕ)). in_names ns word) (sym c.in_ok-push.ensures.items), tt)
