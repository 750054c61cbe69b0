-- What a tape takes of port operations: the answers that it has room for, and how many operations there were.
use Rattle.std.specs.Prelude.{ℕ, ◌+◌, ◌-◌, List, [], ◌∷◌, ◌++◌, take, length, Option, Some, None}
use Rattle.kit_base.specs.declared.event.Event.{Event}
use Rattle.kit_base.specs.Word.{add}
use Rattle.v32_console.specs.Machine.{Operations}

-- answers in order, for how many more there is room, and a count of operations
pub record Taped : Type 0 where
  pub answers : List ℕ
  pub spare : ℕ
  pub events : ℕ

-- the count after these operations; it wraps
abbrev pub counted : ℕ → List Event → ℕ
counted n [] = n
counted n (e ∷ events) = counted (add n 1) events

-- after these operations
unfoldable pub taken : Operations → Taped → Taped
taken o t = record { answers = t.answers ++ take t.spare o.answers; spare = t.spare - length o.answers; events = counted t.events o.events }

-- after a port answered, where it did
abbrev pub asked_by : Option ℕ → Taped → Taped
asked_by None t = t
asked_by (Some word) t = record { answers = t.answers ++ take t.spare (word ∷ []); spare = t.spare - 1; events = add t.events 1 }

-- after a port took a word, or a wait
abbrev pub told_by : Taped → Taped
told_by t = record { answers = t.answers; spare = t.spare; events = add t.events 1 }

-- what the notes of frames hold
pub record Noted : Type 0 where
  pub answers : List ℕ
  pub events : ℕ
  pub instructions : ℕ
  pub spare : ℕ

abbrev pub with_operations : Operations → Noted → Noted
with_operations o n = record {
  answers = n.answers ++ o.answers;
  events = n.events + length o.events;
  instructions = n.instructions + o.instructions;
  spare = n.spare - length o.answers;
}
