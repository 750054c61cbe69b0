-- The codes of a source's refusals. (The kit's page on refusals, the codes of status 2.)
use Rattle.std.specs.Prelude.{ℕ, ◌≡◌, Bool, true, ◌&&◌, ◌||◌, nat_le}
use Rattle.kit_base.specs.Counts.{Counts, Rose}

abbrev pub between : (first last code : ℕ) → Bool
between first last code = nat_le first code && nat_le code last

-- of a source: no token, directives and macros, no unit, a rule that is broken
unfoldable pub is_source_code : ℕ → Bool
is_source_code code = between 10 14 code || between 20 26 code || between 30 32 code || between 40 50 code

-- The code of a source's refusal is a listed one, and it is 21, that an included file is not there, only where the misses rose.
pub record HasSourceCause (code : ℕ) (before after : Counts) : Type 0 where
  pub listed : is_source_code code ≡ true
  pub lacked : code ≡ 21 → Rose before.misses after.misses
