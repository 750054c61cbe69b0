-- Items that stand one behind another.
use Rattle.std.proofs.Common.{ℕ, List, [], ◌∷◌, ◌++◌, refl}
use Rattle.asm_items.specs.declared.item.AsmItem.{AsmItem}
use Rattle.asm_laws.specs.Standing.{Stand}

pub split : (words : List ℕ) (address : List ℕ → ℕ) (a b : List AsmItem) (pc e : ℕ) → Stand words address pc (a ++ b) e → (q : ℕ) × Stand words address pc a q × Stand words address q b e
split words address [] b pc e h = (pc, refl, h)
split words address (x ∷ a) b pc e h = let r = split words address a b h.0 e h.2 in (r.0, (h.0, h.1, r.1), r.2)
