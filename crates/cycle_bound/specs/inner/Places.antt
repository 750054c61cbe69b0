-- Places as numbers of items in front, and items as nodes that name them.
use Rattle.std.specs.Prelude.{ℕ, suc, ◌+◌, cond, if◌then◌else◌, bytes_eq, List, [], ◌∷◌, map, Option, Some, None, unwrap_or, nat_lt}
use Rattle.either.specs.declared.Either.TheVariants.{Left, Right}
use Rattle.v32_isa.specs.declared.instruction.Go.{Go}
use Rattle.v32_isa.specs.declared.instruction.Go.TheVariants.{JMP, CALL}
use Rattle.v32_isa.specs.declared.instruction.Src.{Src}
use Rattle.v32_isa.specs.declared.instruction.Src.TheVariants as src
use Rattle.asm_items.specs.Items.{Imm}
use Rattle.asm_items.specs.declared.item.AsmItem.{AsmItem}
use Rattle.asm_items.specs.declared.item.AsmItem.TheVariants.{Label, Op, Integer, Pointer}
use Rattle.assembler.specs.Faults.{label_in}
use Rattle.assembler.specs.Labels.{address_of}
use Rattle.assembler.specs.inner.Survey.{with_item}
use Rattle.asm_laws.specs.Numbers.{Kind, kind_of}
use Rattle.asm_laws.specs.Numbers.Kind.{Goes, Jumps, Parts, Calls, Returns, Halts, Other}
use Rattle.cycle_bound.specs.declared.bound.Bound.{Bound}
use Rattle.cycle_bound.specs.declared.bound.Bound.TheVariants as bounds
use Rattle.cycle_bound.specs.declared.node.Node.{Node}
use Rattle.cycle_bound.specs.declared.node.Node.TheVariants as node

-- how many items stand in front of what is behind the label; all where there is none
unfoldable pub place_of : List AsmItem → List ℕ → ℕ
place_of [] l = 0
place_of (Label name ∷ items) l = if bytes_eq l name then 1 else suc (place_of items l)
place_of (Op i ∷ items) l = suc (place_of items l)
place_of (Integer w ∷ items) l = suc (place_of items l)
place_of (Pointer name ∷ items) l = suc (place_of items l)

abbrev pub kind_node : (List ℕ → ℕ) → Kind → Node
kind_node place Goes = node.Onward
kind_node place (Jumps l) = node.Jump (place l)
kind_node place (Parts l) = node.Parts (place l)
kind_node place (Calls l) = node.Calls (place l)
kind_node place Returns = node.Ends
kind_node place Halts = node.Ends
kind_node place Other = node.Other

abbrev pub node_of : (List ℕ → ℕ) → AsmItem → Node
node_of place (Label name) = node.Mark
node_of place (Op i) = kind_node place (kind_of i)
node_of place (Integer w) = node.Other
node_of place (Pointer name) = node.Other

abbrev pub nodes_of : List AsmItem → List Node
nodes_of items = map (node_of (place_of items)) items

-- the same with the places of labels in a table, and an end
abbrev pub place_in : List (List ℕ × ℕ) → ℕ → List ℕ → ℕ
place_in labels end l = unwrap_or (address_of labels l) end

abbrev pub label_of : Src Imm → Option (List ℕ)
label_of (src.Imm (Right l)) = Some l
label_of (src.Imm (Left w)) = None
label_of (src.Reg b) = None

abbrev pub go_node : Go → Option ℕ → Node
go_node g None = node.Other
go_node JMP (Some t) = node.Jump t
go_node CALL (Some t) = node.Calls t

abbrev pub branch_node : Option ℕ → Node
branch_node None = node.Other
branch_node (Some t) = node.Parts t

-- the labels of items that stand from a place on, each with the place behind it
unfoldable pub gathered : ℕ → List (List ℕ × ℕ) → List AsmItem → List (List ℕ × ℕ)
gathered place labels [] = labels
gathered place labels (item ∷ items) = gathered (place + 1) (with_item labels (label_in item) (place + 1)) items

abbrev pub told : Option ℕ → Bound
told None = bounds.Unbounded
told (Some n) = cond (nat_lt n 1000000000001) (bounds.Most n) bounds.Over
