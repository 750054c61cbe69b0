-- Refusals that no call of the files gave, and limits that a command itself finds passed.
use Rattle.std.proofs.Common.{ℕ, ◌≤◌, arith, List, inl, inr}
use Rattle.std.specs.Prelude.{Result, Ok, Err}
use Rattle.kit_base.specs.Counts.{Counts, Rose}
use Rattle.kit_base.specs.declared.failure.Failure.TheVariants as failures
use Rattle.kit_tools.specs.declared.refusal.DueRefusal.{DueRefusal}
use Rattle.kit_tools.specs.declared.refusal.DueRefusal.TheVariants as dues
use Rattle.kit_tools.specs.Refusal.{Refusal}
use Rattle.kit_tools.specs.declared.refusal.RefusalCause.TheVariants as refusals
use Rattle.kit_tools.specs.Carrying.{FailsAt}
use Rattle.kit_tools.specs.Causes.{HasCause, HasDueCause, HasRisen, HasCausesOr, IsOwn, IsOwnDue}

pub own_fails : (O : Type 0) (names : List (List ℕ)) (e : Refusal) → IsOwn O e → FailsAt names e
own_fails O names (failures.Cause (refusals.Due r)) own = tt
own_fails O names (failures.Cause (refusals.Failed n)) own = absurd own
own_fails O names failures.Memory own = tt

own_due_cause : (O P : Type 0) (r : DueRefusal) (before after : Counts) → (O → P) → IsOwnDue O r → HasDueCause P r before after
own_due_cause O P dues.Usage b a over own = absurd own
own_due_cause O P (dues.Source c l k) b a over own = absurd own
own_due_cause O P (dues.Missing n) b a over own = absurd own
own_due_cause O P (dues.Bad c n l) b a over own = tt
own_due_cause O P (dues.Limit n) b a over own = absurd own
own_due_cause O P (dues.OutOfRange w) b a over own = over own
own_due_cause O P dues.LongCartridge b a over own = over own

pub own_cause : (O P : Type 0) (e : Refusal) (before after : Counts) → (O → P) → IsOwn O e → HasCause P e before after
own_cause O P (failures.Cause (refusals.Due r)) b a over own = own_due_cause O P r b a over own
own_cause O P (failures.Cause (refusals.Failed n)) b a over own = absurd own
own_cause O P failures.Memory b a over own = tt

-- the causes of a last part, after one that left these counts
rose_later : (a b c : ℕ) → a ≤ b → Rose b c → Rose a c
rose_later a b c le rose = omega (arith, le, rose)

later_due_cause : (O P : Type 0) (r : DueRefusal) (x y z : Counts) → (O → P) → x.misses ≤ y.misses → x.overs ≤ y.overs → HasDueCause O r y z → HasDueCause P r x z
later_due_cause O P dues.Usage x y z over m o h = absurd h
later_due_cause O P (dues.Source c l k) x y z over m o h = record { listed = h.listed; lacked = λ is. rose_later x.misses y.misses z.misses m (h.lacked is) }
later_due_cause O P (dues.Missing n) x y z over m o h = rose_later x.misses y.misses z.misses m h
later_due_cause O P (dues.Bad c n l) x y z over m o h = tt
later_due_cause O P (dues.Limit n) x y z over m o (inl h) = inl (rose_later x.overs y.overs z.overs o h)
later_due_cause O P (dues.Limit n) x y z over m o (inr h) = inr (over h)
later_due_cause O P (dues.OutOfRange w) x y z over m o h = over h
later_due_cause O P dues.LongCartridge x y z over m o h = over h

later_cause : (O P : Type 0) (e : Refusal) (x y z : Counts) → (O → P) → x.faults ≤ y.faults → x.misses ≤ y.misses → x.overs ≤ y.overs
    → HasCause O e y z → HasCause P e x z
later_cause O P (failures.Cause (refusals.Due r)) x y z over f m o h = later_due_cause O P r x y z over m o h
later_cause O P (failures.Cause (refusals.Failed n)) x y z over f m o h = rose_later x.faults y.faults z.faults f h
later_cause O P failures.Memory x y z over f m o h = tt

later_risen : {T : Type 0} (O P : Type 0) (r : Result T Refusal) (x y z : Counts) → (O → P) → x.faults ≤ y.faults → x.misses ≤ y.misses → x.overs ≤ y.overs
    → HasRisen O r y z → HasRisen P r x z
later_risen O P (Ok v) x y z over f m o h = tt
later_risen O P (Err e) x y z over f m o h = later_cause O P e x y z over f m o h

pub later_causes : {T U : Type 0} (N O P : Type 0) (q : Result U Refusal) (r : Result T Refusal) (x y z : Counts) → (O → P)
    → HasCausesOr N q x y → HasCausesOr O r y z → HasCausesOr P r x z
later_causes N O P q r x y z over first h = record {
  faults_later = omega (arith, first.faults_later, h.faults_later);
  misses_later = omega (arith, first.misses_later, h.misses_later);
  overs_later = omega (arith, first.overs_later, h.overs_later);
  risen = later_risen O P r x y z over first.faults_later first.misses_later first.overs_later h.risen;
}

-- causes with a wider reason for what is over a limit
pub wider_causes : {T : Type 0} (O P : Type 0) (r : Result T Refusal) (before after : Counts) → (O → P) → HasCausesOr O r before after → HasCausesOr P r before after
wider_causes O P r x y over h = record {
  faults_later = h.faults_later;
  misses_later = h.misses_later;
  overs_later = h.overs_later;
  risen = later_risen O P r x x y over (omega arith) (omega arith) (omega arith) h.risen;
}
