-- Causes of calls one after another.
use Rattle.std.proofs.Common.{ℕ, ◌≤◌, inl, inr, List, arith}
use Rattle.std.specs.Prelude.{Result, Ok, Err, IfErr}
use Rattle.kit_base.specs.Counts.{Counts, Rose}
use Rattle.build_core.specs.declared.error.BuildErr.{BuildErr}
use Rattle.build_core.specs.declared.error.BuildErr.TheVariants as errors
use Rattle.build_core.specs.Causes.{Cause, HasCausesOr, HasReadCauses, IsOfContent}

-- no call of the files came after the one that went well
content_cause : {T : Type 0} (TooLarge : List ℕ → Type 0) (r : Result T BuildErr) (before after : Counts) → IfErr r IsOfContent → Cause TooLarge r before after
content_cause TooLarge (Ok x) b a h = tt
content_cause TooLarge (Err (errors.Source c n l)) b a h = absurd h
content_cause TooLarge (Err (errors.Bad c n l)) b a h = tt
content_cause TooLarge (Err (errors.Missing n)) b a h = absurd h
content_cause TooLarge (Err (errors.Failed n)) b a h = absurd h
content_cause TooLarge (Err (errors.Limit n)) b a h = absurd h
content_cause TooLarge (Err errors.Memory) b a h = tt

pub of_content : {A T : Type 0} (x : A) (r : Result T BuildErr) (before after : Counts) → HasReadCauses {T = A} (Ok x) before after → IfErr r IsOfContent → HasReadCauses r before after
of_content x r b a h content =
    record { faults_later = h.faults_later; misses_later = h.misses_later; overs_later = h.overs_later; cause = content_cause (λ n. ⊥) r b a content }

rose_earlier : (a b c : ℕ) → a ≤ b → Rose b c → Rose a c
rose_earlier a b c h r = omega arith

-- the causes of a later call
module _ (A T U : Type 0) (Large : List ℕ → Type 0) (x y z : Counts) where
  later_cause : (u : U) (e : BuildErr) → HasReadCauses {T = U} (Ok u) x y → Cause {T = A} Large (Err e) y z → Cause {T = T} Large (Err e) x z
  later_cause u (errors.Source c n l) h k = record { listed = k.listed; lacked = λ is. rose_earlier x.misses y.misses z.misses h.misses_later (k.lacked is) }
  later_cause u (errors.Bad c n l) h k = tt
  later_cause u (errors.Missing n) h k = rose_earlier x.misses y.misses z.misses h.misses_later k
  later_cause u (errors.Failed n) h k = rose_earlier x.faults y.faults z.faults h.faults_later k
  later_cause u (errors.Limit n) h (inl k) = inl (rose_earlier x.overs y.overs z.overs h.overs_later k)
  later_cause u (errors.Limit n) h (inr k) = inr k
  later_cause u errors.Memory h k = tt

  pub later : (u : U) (e : BuildErr) → HasReadCauses {T = U} (Ok u) x y → HasCausesOr {T = A} Large (Err e) y z → HasCausesOr {T = T} Large (Err e) x z
  later u e h k = record {
    faults_later = omega (arith, h.faults_later, k.faults_later);
    misses_later = omega (arith, h.misses_later, k.misses_later);
    overs_later = omega (arith, h.overs_later, k.overs_later);
    cause = later_cause u e h k.cause;
  }
