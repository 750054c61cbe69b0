-- At which file the reading of a source failed.
use Rattle.std.proofs.Common.{ℕ, suc, ◌≡◌, ◌<◌, List, length, sym, subst, arith}
use Rattle.std.specs.Prelude.{Option, Some, None, Result, Ok, Err, Vec, IfErr, IfSome, Contains}
use Rattle.std.specs.declared.alloc.Global.{Global}
use Rattle.std.proofs.lemmas.List.Elements.{Contains-append_left, Contains-get_or}
use Rattle.kit_base.specs.Held.{Held}
use Rattle.kit_base.specs.declared.failure.Failure.TheVariants.{Cause}
use Rattle.c_lex.specs.declared.token.Token.{Token}
use Rattle.c_prep.specs.declared.error.PrepFault.{PrepFault}
use Rattle.c_prep.specs.declared.error.PrepFault.TheVariants as prep
use Rattle.c_prep.specs.Files.{expansion_of}
use Rattle.c_prep.specs.Reached.{AreFirst, Reaches, names_of}
use Rattle.c_front.specs.declared.error.FrontErr.{FrontErr}
use Rattle.c_front.specs.declared.error.FrontErr.TheVariants as errors
use Rattle.c_front.specs.declared.unit.Parsed.{Parsed}
use Rattle.c_front.specs.Causes.{IsOfTokens}
use Rattle.c_front.specs.Due.{told_as}
use Rattle.c_front.specs.inner.Inner.{Tells}
use Rattle.c_front.specs.Names.{name_of}
use Rattle.c_front.specs.Over.{over}
use Rattle.c_front.specs.Reached.{FailsAtOne}

last_contained : (names all : List (List ℕ)) (file : ℕ) (source : List ℕ) → suc file ≡ length names → AreFirst names all → Contains all (name_of source names file)
last_contained names all file source last first =
    let below : file < length names = omega arith in
    subst (λ (ns : List (List ℕ)). Contains ns (name_of source names file)) (sym first.is) (Contains-append_left names first.rest (name_of source names file) (Contains-get_or names file source below))

module _ (m : Held) (source : List ℕ) where
  told : (e d : FrontErr) → Tells e d → FailsAtOne m source (Err d) → FailsAtOne m source (Err e)
  told (errors.Source code file line) d tells h = tt
  told (errors.Missing name) d tells h = tt
  told (errors.Failed name) d tells h = subst (λ (k : FrontErr). FailsAtOne m source (Err k)) (sym tells) h
  told (errors.Limit name) d tells h = tt
  told errors.Memory d tells h = tt

  due_fails : (names : List (List ℕ)) (x : PrepFault) → Reaches {T = Vec Token Global} names_of (Err (Cause x)) names (expansion_of m source) → FailsAtOne m source (Err (told_as source names x))
  due_fails names (prep.At code file line) h = tt
  due_fails names prep.NoSource h = tt
  due_fails names (prep.Failed file) h = last_contained names _ file source h.0 h.1
  due_fails names (prep.TooLong file) h = tt

  of_tokens : (r : Result Parsed FrontErr) → IfErr r IsOfTokens → FailsAtOne m source r
  of_tokens (Ok p) h = tt
  of_tokens (Err (errors.Source code file line)) h = tt
  of_tokens (Err (errors.Missing name)) h = tt
  of_tokens (Err (errors.Failed name)) h = absurd h
  of_tokens (Err (errors.Limit name)) h = tt
  of_tokens (Err errors.Memory) h = tt

-- what is said of a source where it is told what is held

pub tokens_fail : (o : Option Held) (source : List ℕ) (r : Result Parsed FrontErr) → IfErr r IsOfTokens → IfSome o (λ m. FailsAtOne (over m) source r)
tokens_fail None source r h = tt
tokens_fail (Some m) source r h = of_tokens (over m) source r h

pub reading_fails : (o : Option Held) (source named : List ℕ) (names : List (List ℕ)) (x : PrepFault) (e : FrontErr) → named ≡ source → Tells e (told_as named names x)
    → IfSome o (λ m. Reaches {T = Vec Token Global} names_of (Err (Cause x)) names (expansion_of (over m) named)) → IfSome o (λ m. FailsAtOne (over m) source (Err e))
reading_fails None source named names x e is tells h = tt
reading_fails (Some m) source named names x e is tells h = subst (λ (s : List ℕ). FailsAtOne (over m) s (Err e)) is (told (over m) named e (told_as named names x) tells (due_fails (over m) named names x h))
