-- The codes of refusals are listed.
use Rattle.std.proofs.Common.{ℕ, ◌≡◌, List, Bool, true, ◌||◌, refl, ap, subst, sym}
use Rattle.kit_base.specs.declared.failure.Failure.TheVariants.{Cause}
use Rattle.kit_base.specs.SourceCodes.{between}
use Rattle.c_prep.specs.Codes.{is_reading_code, HasReadingCode}
use Rattle.c_prep.specs.declared.error.PrepFault.{PrepFault}
use Rattle.c_prep.specs.declared.error.PrepFault.TheVariants as prep
use Rattle.c_front.specs.Codes.{is_front_code, HasFrontCode}
use Rattle.c_front.specs.declared.error.FrontErr.{FrontErr}
use Rattle.c_front.specs.declared.error.FrontErr.TheVariants as errors
use Rattle.c_front.specs.declared.places.Places.{Places}
use Rattle.c_front.specs.Due.{refusal_at, told_as}
use Rattle.c_front.specs.inner.Inner.{Tells}

told_code : (e due_one : FrontErr) → Tells e due_one → HasFrontCode due_one → HasFrontCode e
told_code (errors.Source code file line) due_one tells listed = subst HasFrontCode (sym tells) listed
told_code (errors.Missing name) due_one tells listed = tt
told_code (errors.Failed name) due_one tells listed = tt
told_code (errors.Limit name) due_one tells listed = tt
told_code errors.Memory due_one tells listed = tt

reading_code : (code : ℕ) → is_reading_code code ≡ true → is_front_code code ≡ true
unfolding is_front_code
reading_code code listed = ap (λ (b : Bool). b || between 30 32 code) listed

due_code : (source : List ℕ) (names : List (List ℕ)) (x : PrepFault) → HasReadingCode (Cause x) → HasFrontCode (told_as source names x)
due_code source names (prep.At code file line) listed = reading_code code listed
due_code source names prep.NoSource listed = tt
due_code source names (prep.Failed file) listed = tt
due_code source names (prep.TooLong file) listed = tt

-- a refusal of reading
pub read_code : (source : List ℕ) (names : List (List ℕ)) (x : PrepFault) (e : FrontErr) → HasReadingCode (Cause x) → Tells e (told_as source names x) → HasFrontCode e
read_code source names x e listed tells = told_code e (told_as source names x) tells (due_code source names x listed)

syntax : is_front_code 30 ≡ true
unfolding is_front_code is_reading_code
syntax = refl

deep : is_front_code 31 ≡ true
unfolding is_front_code is_reading_code
deep = refl

refused : is_front_code 32 ≡ true
unfolding is_front_code is_reading_code
refused = refl

-- a refusal of tokens
pub syntax_code : (p : Places) (t : ℕ) (e : FrontErr) → Tells e (refusal_at p 30 t) → HasFrontCode e
syntax_code p t e tells = told_code e (refusal_at p 30 t) tells syntax

pub deep_code : (p : Places) (t : ℕ) (e : FrontErr) → Tells e (refusal_at p 31 t) → HasFrontCode e
deep_code p t e tells = told_code e (refusal_at p 31 t) tells deep

pub refused_code : (p : Places) (t : ℕ) (e : FrontErr) → Tells e (refusal_at p 32 t) → HasFrontCode e
refused_code p t e tells = told_code e (refusal_at p 32 t) tells refused
