-- Nodes in memory that come to stand inside of others: the same as `Expressions` and `Statements` have of pieces.
use Rattle.std.specs.Prelude.{ℕ, Bool, true, false, [], ◌∷◌, ◌++◌, if◌then◌else◌}
use Rattle.c_types.specs.Types.{Ty}
use Rattle.c_types.specs.Typed.{TArmTs}
use Rattle.v32_isa.specs.declared.instruction.Two.TheVariants.{ISUB}
use Rattle.mid_code.specs.declared.node.Op.TheVariants as o
use Rattle.mid_code.specs.Functions.{DoN, ChooseN, BlockN, AgainN, listed}
use Rattle.lower_trees.specs.Shape.{Shape}
use Rattle.lower_trees.specs.Parts.{one}
use Rattle.lower_trees.specs.Pieces.{Listing, listing}
use Rattle.lower_trees.specs.Statements.{Jump, low_arms, low_group}

abbrev pub lazy_choice : (and : Bool) → (t : ℕ) → Listing → Listing
lazy_choice and t last =
    if and then ChooseN t (listed last) (listed (DoN (o.Const t 0) ∷ [])) ∷ [] else ChooseN t (listed (DoN (o.Const t 1) ∷ [])) (listed last) ∷ []

abbrev pub chosen_by : (tests : Bool) → (n : ℕ) → Listing → Listing
chosen_by tests n turn = if tests then ChooseN n (listed turn) (listed []) ∷ [] else turn

abbrev pub turn_of : Listing → (dropped : Listing) → Listing
turn_of body dropped = (BlockN (listed body) ∷ []) ++ dropped ++ (AgainN 0 ∷ [])

abbrev pub low_label : (t : ℕ) → Listing → Listing
low_label t a = ChooseN t (listed (DoN (o.Two ISUB t t one) ∷ [])) (listed a) ∷ []

-- the arms that are left, where a label is open and this was lowered behind it, or where none is
abbrev pub arms_open : (met : Bool) → Listing → Shape → Ty → (t : ℕ) → TArmTs → (n m b : ℕ) → Jump → Listing
arms_open true inside h ty t arms n m b j = low_label t (inside ++ listing (low_group h ty arms n m b j)) ++ listing (low_arms h ty t arms n m b j)
arms_open false inside h ty t arms n m b j = listing (low_arms h ty t arms n m b j)
