-- The codes of directives and macros are listed.
use Rattle.std.proofs.Common.{ℕ, ◌≡◌, true, refl, ap, ◌∙◌}
use Rattle.kit_base.specs.declared.failure.Failure.TheVariants.{Cause}
use Rattle.c_prep.specs.declared.error.Fault.{Fault}
use Rattle.c_prep.specs.declared.error.Fault.TheVariants.{BadDirective, TooDeep, OpenCondition, ErrorDirective, TooManyTokens, Redefined}
use Rattle.c_prep.specs.declared.error.PrepFault.{PrepFault}
use Rattle.c_prep.specs.declared.error.PrepFault.TheVariants as e
use Rattle.c_prep.specs.Codes.{is_reading_code, HasReadingCode}
use Rattle.c_prep.specs.Files.{code_of}
use Rattle.c_prep.specs.inner.Inner.{SaysMissing}

listed : (fault : Fault) → is_reading_code (code_of fault) ≡ true
unfolding is_reading_code
listed BadDirective = refl
listed TooDeep = refl
listed OpenCondition = refl
listed ErrorDirective = refl
listed TooManyTokens = refl
listed Redefined = refl

pub fault_code : (code : ℕ) (fault : Fault) → code ≡ code_of fault → is_reading_code code ≡ true
fault_code code fault is = ap is_reading_code is ∙ listed fault

missing : is_reading_code 21 ≡ true
unfolding is_reading_code
missing = refl

pub missing_code : (x : PrepFault) → SaysMissing x → HasReadingCode (Cause x)
missing_code (e.At code file line) says = ap is_reading_code says ∙ missing
missing_code e.NoSource says = tt
missing_code (e.Failed file) says = tt
missing_code (e.TooLong file) says = tt
