-- Demands that ascend are answered by the lowest code that is broken.
use Rattle.std.proofs.Common.{◌≡◌, ℕ, ◌<◌, ◌==◌, Bool, true, false, ◌&&◌, not, nat_le, List, [], ◌∷◌, Option, Some, None, Result, Ok, Err, refl, ap, arith}
use Rattle.std.proofs.lemmas.Bool.Decides.{nat_tests}
use Rattle.std.proofs.lemmas.Bool.{eq-eqb}
use Rattle.c_rules.specs.declared.code.Code.{Code}
use Rattle.c_rules.specs.declared.code.Code.TheVariants.{WrongType}
use Rattle.c_rules.specs.Rules.{number_of, Demand, demand, Rule, checked}
use Rattle.c_rules.specs.Lowest.{breaks, IsLowest, HasLowest}

abbrev pub ascending : ℕ → List Demand → Bool
ascending least [] = true
ascending least (d ∷ ds) = nat_le least (number_of d.code) && ascending (number_of d.code) ds

other : (k n : ℕ) (b : Bool) → n < k → ((k == n) && b) ≡ false
other k n true lt = grind (arith, nat_tests)
other k n false lt = grind (arith, nat_tests)

unbroken : (c : Bool) → (c && false) ≡ false
unbroken true = refl
unbroken false = refl

both : (a b : Bool) → (a && b) ≡ true → (a ≡ true) × (b ≡ true)
both true true e = (refl, refl)
both true false e = cc
both false b e = cc

none_below : (least n : ℕ) (ds : List Demand) → ascending least ds ≡ true → n < least → breaks n ds ≡ false
none_below least n [] up lt = refl
none_below least n (d ∷ ds) up lt =
    let parts : (nat_le least (number_of d.code) ≡ true) × (ascending (number_of d.code) ds ≡ true) = both _ _ up in
    let more : n < number_of d.code = grind (arith, nat_tests, parts.0) in
    let rest : breaks n ds ≡ false = none_below (number_of d.code) n ds parts.1 more in
    rw (other (number_of d.code) n (not d.holds) more) rest

-- what a list of demands answers
abbrev pub Answers : {A : Type 0} → List Demand → A → Result A Code → Type 0
Answers ds x (Ok y) = (x ≡ y) × ((n : ℕ) → breaks n ds ≡ false)
Answers ds x (Err code) = (breaks (number_of code) ds ≡ true) × ((n : ℕ) → n < number_of code → breaks n ds ≡ false)

skipped : (code : Code) (n : ℕ) (ds : List Demand) (b : Bool) → breaks n ds ≡ b → breaks n (demand code true ∷ ds) ≡ b
skipped code n ds b e = rw (unbroken (number_of code == n)) e

passed : {A : Type 0} (code : Code) (ds : List Demand) (x : A) (r : Result A Code) → Answers ds x r → Answers (demand code true ∷ ds) x r
passed code ds x (Ok y) h = (h.0, λ n. skipped code n ds false (h.1 n))
passed code ds x (Err c) h = (skipped code (number_of c) ds true h.0, λ n lt. skipped code n ds false (h.1 n lt))

stopped : {A : Type 0} (code : Code) (ds : List Demand) (x : A) → ascending (number_of code) ds ≡ true → Answers (demand code false ∷ ds) x (Err code)
stopped code ds x up = (
  rw (eq-eqb (number_of code) (number_of code) refl) refl,
  λ n lt. rw (other (number_of code) n true lt) (none_below (number_of code) n ds up lt),
)

next : {A : Type 0} (code : Code) (h : Bool) (ds : List Demand) (x : A) → ascending (number_of code) ds ≡ true → Answers ds x (checked ds x) → Answers (demand code h ∷ ds) x (checked (demand code h ∷ ds) x)
next code true ds x up rest = passed code ds x (checked ds x) rest
next code false ds x up rest = stopped code ds x up

pub answered : {A : Type 0} (least : ℕ) (ds : List Demand) (x : A) → ascending least ds ≡ true → Answers ds x (checked ds x)
answered least [] x up = (refl, λ n. refl)
answered least (d ∷ ds) x up =
    let parts : (nat_le least (number_of d.code) ≡ true) × (ascending (number_of d.code) ds ≡ true) = both _ _ up in
    next d.code d.holds ds x parts.1 (answered (number_of d.code) ds x parts.1)

lowest_given : {A : Type 0} (x : A) (ds : List Demand) (r : Result A Code) → Answers (demand WrongType true ∷ ds) x r → IsLowest (record { gives = Some x; demands = ds }) r
lowest_given x ds (Ok y) h = (ap Some h.0, h.1)
lowest_given x ds (Err code) h = h

lowest_of : {A : Type 0} (gives : Option A) (ds : List Demand) → ascending 42 ds ≡ true → HasLowest {A = A} (record { gives = gives; demands = ds })
lowest_of None ds up = (refl, λ n lt. none_below 42 n (demand WrongType false ∷ ds) up lt)
lowest_of (Some x) ds up = lowest_given x ds (checked ds x) (passed WrongType ds x (checked ds x) (answered 42 ds x up))

-- the rule of a node, whose demands ascend
pub lowest : {A : Type 0} (rule : Rule A) → ascending 42 rule.demands ≡ true → HasLowest rule
lowest rule up = lowest_of rule.gives rule.demands up
