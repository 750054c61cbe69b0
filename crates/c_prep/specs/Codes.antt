-- The codes of refusals. (The kit's page on refusals, the codes of status 2.)
use Rattle.std.specs.Prelude.{◌≡◌, ℕ, Bool, true, ◌||◌}
use Rattle.kit_base.specs.SourceCodes.{between}
use Rattle.kit_base.specs.declared.failure.Failure.{Failure}
use Rattle.kit_base.specs.declared.failure.Failure.TheVariants.{Cause}
use Rattle.c_prep.specs.declared.error.PrepFault.{PrepFault}
use Rattle.c_prep.specs.declared.error.PrepFault.TheVariants as e

-- 10 to 14 where a file is no list of tokens, 20 to 26 of directives and macros
unfoldable pub is_reading_code : ℕ → Bool
is_reading_code code = between 10 14 code || between 20 26 code

-- a refusal at a place has such a code
abbrev pub HasReadingCode : Failure PrepFault → Type 0
HasReadingCode (Cause (e.At code file line)) = is_reading_code code ≡ true
HasReadingCode x = Unit {0}
