-- The codes of a source's refusals are listed, and none of the rules' is that of an included file that is missing.
use Rattle.std.proofs.Common.{ℕ, ◌≡◌, ◌∙◌, Bool, true, false, ◌||◌, refl, sym, ap}
use Rattle.kit_base.specs.Counts.{Counts, Rose}
use Rattle.kit_base.specs.SourceCodes.{HasSourceCause, between, is_source_code}
use Rattle.c_prep.specs.Codes.{is_reading_code}
use Rattle.c_front.specs.Codes.{is_front_code}
use Rattle.c_rules.specs.declared.code.Code.{Code}
use Rattle.c_rules.specs.declared.code.Code.TheVariants.{UnknownName, Twice, WrongType, NotAPlace, BadCall, BadPort, NoMain, InfiniteType, NotConstant, BreakOutside, TooLarge}
use Rattle.c_rules.specs.Rules.{number_of}

numbered : (code : Code) → between 40 50 (number_of code) ≡ true
numbered UnknownName = refl
numbered Twice = refl
numbered WrongType = refl
numbered NotAPlace = refl
numbered BadCall = refl
numbered BadPort = refl
numbered NoMain = refl
numbered InfiniteType = refl
numbered NotConstant = refl
numbered BreakOutside = refl
numbered TooLarge = refl

pub rule_code : (number : ℕ) (code : Code) → number ≡ number_of code → between 40 50 number ≡ true
rule_code number code is = ap (between 40 50) is ∙ numbered code

not_rule : between 40 50 21 ≡ false
not_rule = refl

last_of : (a b c d : Bool) → d ≡ true → (a || b || c || d) ≡ true
last_of true b c d h = refl
last_of false true c d h = refl
last_of false false true d h = refl
last_of false false false d h = h

first_of : (a b c d : Bool) → ((a || b) || c) ≡ true → (a || b || c || d) ≡ true
first_of true b c d h = refl
first_of false true c d h = refl
first_of false false true d h = refl
first_of false false false d h = absurd cc

rule_listed : (code : ℕ) → between 40 50 code ≡ true → is_source_code code ≡ true
unfolding is_source_code
rule_listed code h = last_of (between 10 14 code) (between 20 26 code) (between 30 32 code) (between 40 50 code) h

front_listed : (code : ℕ) → is_front_code code ≡ true → is_source_code code ≡ true
unfolding is_source_code is_front_code is_reading_code
front_listed code h = first_of (between 10 14 code) (between 20 26 code) (between 30 32 code) (between 40 50 code) h

-- of a rule
pub rule_cause : (code : ℕ) (before after : Counts) → between 40 50 code ≡ true → HasSourceCause code before after
rule_cause code b a h = record {
  listed = rule_listed code h;
  lacked = λ is. let both : true ≡ false = sym h ∙ ap (between 40 50) is ∙ not_rule in absurd cc;
}

-- of the front
pub front_cause : (code : ℕ) (before after : Counts) → is_front_code code ≡ true → (code ≡ 21 → Rose before.misses after.misses) → HasSourceCause code before after
front_cause code b a h lacks = record { listed = front_listed code h; lacked = lacks }
