-- The status of a refusal, and the line that is put for it. (The command line's table of statuses.)
use Rattle.std.specs.Prelude.{ℕ, ◌≤◌, List, [], ◌∷◌, Some, None, flat_map, codes}
use Rattle.std.specs.Fmt.{decimal}
use Rattle.kit_base.specs.declared.failure.Failure.{Failure}
use Rattle.kit_base.specs.declared.failure.Failure.TheVariants as failures
use Rattle.kit_tools.specs.declared.refusal.DueRefusal.{DueRefusal}
use Rattle.kit_tools.specs.declared.refusal.DueRefusal.TheVariants as dues
use Rattle.kit_tools.specs.declared.refusal.RefusalCause.{RefusalCause}
use Rattle.kit_tools.specs.declared.refusal.RefusalCause.TheVariants as refusals

-- want of memory, or a cause
abbrev pub Refusal : Type 0
Refusal = Failure RefusalCause

-- of a refusal that is due
abbrev pub due_status : DueRefusal → ℕ
due_status dues.Usage = 1
due_status (dues.Source code file line) = 2
due_status (dues.Missing name) = 4
due_status (dues.Bad code name line) = 6
due_status (dues.Limit name) = 7
due_status (dues.OutOfRange word) = 7
due_status dues.LongCartridge = 7

abbrev pub status_of : Refusal → ℕ
status_of (failures.Cause (refusals.Due refusal)) = due_status refusal
status_of (failures.Cause (refusals.Failed name)) = 5
status_of failures.Memory = 8

-- the pieces one after another
abbrev pub joined : List (List ℕ) → List ℕ
joined pieces = flat_map (λ p. p) pieces

-- each line ends with LF
abbrev pub due_line : DueRefusal → List ℕ
due_line dues.Usage = joined (codes "usage error" ∷ (10 ∷ []) ∷ [])
due_line (dues.Source code file line) =
    joined (codes "error " ∷ decimal code ∷ codes " at " ∷ file ∷ codes ":" ∷ decimal line ∷ (10 ∷ []) ∷ [])
due_line (dues.Missing name) = joined (codes "missing " ∷ name ∷ (10 ∷ []) ∷ [])
due_line (dues.Bad code name (Some line)) =
    joined (codes "bad data " ∷ decimal code ∷ codes " in " ∷ name ∷ codes " at " ∷ decimal line ∷ (10 ∷ []) ∷ [])
due_line (dues.Bad code name None) = joined (codes "bad data " ∷ decimal code ∷ codes " in " ∷ name ∷ (10 ∷ []) ∷ [])
due_line (dues.Limit name) = joined (codes "limit " ∷ name ∷ (10 ∷ []) ∷ [])
due_line (dues.OutOfRange word) = joined (codes "limit " ∷ word ∷ (10 ∷ []) ∷ [])
due_line dues.LongCartridge = joined (codes "limit cartridge" ∷ (10 ∷ []) ∷ [])

abbrev pub line_of : Refusal → List ℕ
line_of (failures.Cause (refusals.Due refusal)) = due_line refusal
line_of (failures.Cause (refusals.Failed name)) = joined (codes "file fault " ∷ name ∷ (10 ∷ []) ∷ [])
line_of failures.Memory = joined (codes "out of memory" ∷ (10 ∷ []) ∷ [])

-- A status is 0 to 9.
abbrev pub IsStatus : ℕ → Type 0
IsStatus status = status ≤ 9
