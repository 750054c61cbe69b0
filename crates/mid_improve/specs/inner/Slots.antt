-- What is known as a table has it: of each temporary what it has, in which stretch of nodes that was put there, and how many cells it took. Of a copy
-- the table has how many cells the other temporary had taken by then.
use Rattle.std.specs.Prelude.{ℕ, Bool, true, ◌&&◌, eqb, cond, nat_le, List, Option, Some, None, get_or}
use Rattle.mid_improve.specs.declared.slots.Held.{Held}
use Rattle.mid_improve.specs.declared.slots.Held.TheVariants.{Nothing, Word, Copy}
use Rattle.mid_improve.specs.declared.slots.Slot.{Slot}
use Rattle.mid_improve.specs.inner.Facts.{Fact, IsWord, IsCopy, Known}

-- a temporary without a slot
abbrev pub no_slot : Slot
no_slot = record { held = Nothing; stretch = 0; changes = 0 }

unfoldable pub slot_at : List Slot → ℕ → Slot
slot_at slots q = get_or slots q no_slot

abbrev pub with_slot : (ℕ → Slot) → ℕ → Slot → ℕ → Slot
with_slot at t s q = cond (eqb t q) s (at q)

-- a copy is known until the other temporary takes another cell
abbrev pub fact_in : (ℕ → Slot) → Held → Option Fact
fact_in at Nothing = None
fact_in at (Word word) = Some (IsWord word)
fact_in at (Copy a stamp) = cond (eqb stamp (at a).changes) (Some (IsCopy a)) None

-- in the stretch in which it was put there
abbrev pub facts_in : (ℕ → Slot) → ℕ → Known
facts_in at stretch q = cond (eqb (at q).stretch stretch) (fact_in at (at q).held) None

-- what two changes of a table make of a slot: a cell is taken, and something is known of it
abbrev pub changed : ℕ → Slot → Slot
changed n s = record { held = Nothing; stretch = s.stretch; changes = n }

abbrev pub holding : Held → ℕ → Slot → Slot
holding h n s = record { held = h; stretch = n; changes = s.changes }

-- no slot is of a later stretch, or of a later cell
abbrev pub held_past : (ℕ → Slot) → Held → Bool
held_past at Nothing = true
held_past at (Word word) = true
held_past at (Copy a stamp) = nat_le stamp (at a).changes

abbrev pub is_past : (ℕ → Slot) → ℕ → ℕ → Bool
is_past at stretch q = nat_le (at q).stretch stretch && held_past at (at q).held
