-- The codes of refusals. (The kit's page on refusals, the codes of status 2.)
use Rattle.std.specs.Prelude.{◌≡◌, ℕ, Bool, true, ◌||◌}
use Rattle.kit_base.specs.SourceCodes.{between}
use Rattle.c_prep.specs.Codes.{is_reading_code}
use Rattle.c_front.specs.declared.error.FrontErr.{FrontErr}
use Rattle.c_front.specs.declared.error.FrontErr.TheVariants as errors

-- those of reading, and 30 to 32 where the tokens are no unit
unfoldable pub is_front_code : ℕ → Bool
is_front_code code = is_reading_code code || between 30 32 code

-- a refusal of what a source says has such a code
abbrev pub HasFrontCode : FrontErr → Type 0
HasFrontCode (errors.Source code file line) = is_front_code code ≡ true
HasFrontCode e = Unit {0}
