-- What one put answers, and what was put of a text. Only private functions cite this.
use Rattle.std.specs.Prelude.{ℕ, ◌≡◌, ◌⊎◌, List, ◌++◌, take, Option}
use Rattle.kit_base.specs.declared.failure.Failure.TheVariants as failures
use Rattle.kit_tools.specs.Refusal.{line_of}
use Rattle.kit_core.specs.Outcome.{putting}

-- one put of a text that ends a command at that status: whole, or a front of it
abbrev pub Puts : (status_whole : ℕ) (whole : List ℕ) (status : ℕ) (before put : Option (List ℕ)) → Type 0
Puts status_whole whole status before put =
    ((status ≡ status_whole) × (put ≡ putting whole before))
    ⊎ (((status ≡ 8) ⊎ (status ≡ 9)) × ((count : ℕ) × (put ≡ putting (take count whole) before)))

-- The text was put whole, or memory or the sink stopped it, after a front of it and then a front of
-- the line of the status 8.
abbrev pub Shows : (status_whole : ℕ) (whole : List ℕ) (status : ℕ) (before put : Option (List ℕ)) → Type 0
Shows status_whole whole status before put =
    ((status ≡ status_whole) × (put ≡ putting whole before))
    ⊎ (((status ≡ 8) ⊎ (status ≡ 9))
    × ((count : ℕ) × (line_count : ℕ) × (put ≡ putting (take count whole ++ take line_count (line_of failures.Memory)) before)))
