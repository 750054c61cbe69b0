-- How far the reading of a source got where the files failed or memory ran out.
use Rattle.std.specs.Prelude.{◌≡◌, ℕ, suc, List, ◌++◌, length, Result, Ok, Err}
use Rattle.kit_base.specs.declared.failure.Failure.{Failure}
use Rattle.kit_base.specs.declared.failure.Failure.TheVariants.{Memory, Cause}
use Rattle.c_prep.specs.declared.error.PrepFault.{PrepFault}
use Rattle.c_prep.specs.declared.error.PrepFault.TheVariants as e
use Rattle.c_prep.specs.Files.{Expansion, Stop}

-- the names of all files that are read, in the order of the reads
abbrev pub read_by : {X : Type 0} → (X → List (List ℕ)) → Result X Stop → List (List ℕ)
read_by names_in (Ok x) = names_in x
read_by names_in (Err s) = s.names

abbrev pub names_of : Expansion → List (List ℕ)
names_of x = x.names

-- The one list begins the other.
pub record AreFirst (names all : List (List ℕ)) : Type 0 where
  pub rest : List (List ℕ)
  pub is : all ≡ names ++ rest

-- Where the files failed, the file that they failed at is the last of those read so far. These are the first of all that are due, also where memory
-- ran out.
abbrev pub Reaches : {T X : Type 0} → (X → List (List ℕ)) → Result T (Failure PrepFault) → List (List ℕ) → Result X Stop → Type 0
Reaches names_in (Err (Cause (e.Failed file))) names due_one = (suc file ≡ length names) × AreFirst names (read_by names_in due_one)
Reaches names_in (Err Memory) names due_one = AreFirst names (read_by names_in due_one)
Reaches names_in _ names due_one = Unit {0}
