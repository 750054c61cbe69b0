-- Nodes that only leave a block or loop.
use Rattle.std.proofs.Common.{◌≡◌, ℕ, List, Option, Some, refl}
use Rattle.kit_base.specs.Word.{add}
use Rattle.mid_code.specs.declared.placed.Where.{Where}
use Rattle.mid_code.specs.Code.{NodesT, Stop, Leave}
use Rattle.asm_laws.specs.inner.Emitted.{enclosing, left_to}

got : Option ℕ → ℕ
got (Some l) = l
got _ = 0

pub left_is : (ls : List ℕ) (a : NodesT Where) (l : ℕ) → left_to ls a ≡ Some l → (k : ℕ) × (a ≡ Leave k Stop) × (l ≡ add (enclosing ls k) 1)
left_is ls (Leave k Stop) l e = (k, refl, cc)
left_is ls _ l e = absurd cc
