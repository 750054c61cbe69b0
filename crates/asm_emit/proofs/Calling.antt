-- The arguments of a call that go into slots, one after another.
use Rattle.std.proofs.Common.{◌≡◌, List, [], ◌∷◌, ◌++◌, length, sym, ◌∙◌, append-nil}
use Rattle.asm_items.specs.declared.item.AsmItem.{AsmItem}
use Rattle.mid_code.specs.declared.placed.Where.{Where}
use Rattle.asm_laws.specs.Operations.{Frame, slot_args}

pub slots_done : (F G : Frame) (ps rest : List Where) (out total : List AsmItem) → length rest ≡ 0 → out ++ slot_args F G ps rest ≡ total → out ≡ total
slots_done F G [] rest out total empty so_far = sym (append-nil out) ∙ so_far
slots_done F G (p ∷ ps) [] out total empty so_far = sym (append-nil out) ∙ so_far
slots_done F G (p ∷ ps) (a ∷ rest) out total empty so_far = absurd cc
