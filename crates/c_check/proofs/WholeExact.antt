-- The rules of units and the function agree.
use Rattle.std.proofs.Common.{◌≡◌, ◌≤◌, ◌⊎◌, inl, inr, ℕ, List, Option, Some, None, Result, Ok, Err, refl, sym, subst, ◌∙◌}
use Rattle.c_tree.specs.Count.{unit_nodes}
use Rattle.c_tree.specs.Tree.{ItemT}
use Rattle.c_tree.specs.declared.span.Span.{Span}
use Rattle.c_rules.specs.declared.code.Code.{Code}
use Rattle.c_rules.specs.declared.code.Code.TheVariants.{NoMain}
use Rattle.c_exprs.specs.declared.error.Fault.{Fault}
use Rattle.c_exprs.specs.Faults.{◌>>=◌, known}
use Rattle.c_check.specs.Reading.{Un, opening, bodies_of}
use Rattle.c_check.specs.inner.ItemTyping.{Reads, items}
use Rattle.c_check.specs.Whole.{main_of, program_of, last_token, WellTyped, IsProgram, FirstBroken, unit, items_break, no_main, checked}
use Rattle.c_types.specs.Programs.{ProgramT}
use Rattle.c_check.proofs.ItemExact.{ItemsOut, items_outcome, items_good, items_bad}

abbrev pub CheckedOut : List ItemT → Result ProgramT Fault → Type 0
CheckedOut all (Ok p) = WellTyped all p
CheckedOut all (Err fault) = FirstBroken all fault

with_main : (all : List ItemT) (x : Unit {0} × Un) → ItemsOut (opening (bodies_of all)) all (Ok x) → (o : Option ℕ) → main_of x.1 ≡ o
    → CheckedOut all (known (last_token all) NoMain o >>= λ k. Ok (program_of x.1 k))
unfolding known
with_main all (tt, un) g (Some k) h = unit g h
with_main all (tt, un) g None h = no_main g h

after_items : (all : List ItemT) (r : Reads (Unit {0})) → ItemsOut (opening (bodies_of all)) all r
    → CheckedOut all (r >>= λ x. known (last_token all) NoMain (main_of x.1) >>= λ k. Ok (program_of x.1 k))
after_items all (Ok x) g = with_main all x g (main_of x.1) refl
after_items all (Err fault) g = items_break g

pub checked_outcome : (all : List ItemT) → CheckedOut all (checked all)
unfolding checked
checked_outcome all = after_items all (items (opening (bodies_of all)) all) (items_outcome (opening (bodies_of all)) all)

pub checked_good : {all : List ItemT} {p : ProgramT} → WellTyped all p → checked all ≡ Ok p
unfolding checked known
checked_good (unit g h) = rw (items_good g, h) refl

pub checked_bad : {all : List ItemT} {fault : Fault} → FirstBroken all fault → checked all ≡ Err fault
unfolding checked known
checked_bad (items_break g) = rw (items_bad g) refl
checked_bad (no_main g h) = rw (items_good g, h) refl

pub checked_typed : (all : List ItemT) (p : ProgramT) → checked all ≡ Ok p → WellTyped all p
checked_typed all p e = let P : Result ProgramT Fault → Type 0 = λ r. CheckedOut all r in subst P e (checked_outcome all)

pub checked_broken : (all : List ItemT) (fault : Fault) → checked all ≡ Err fault → FirstBroken all fault
checked_broken all fault e = let P : Result ProgramT Fault → Type 0 = λ r. CheckedOut all r in subst P e (checked_outcome all)

there : (s : Span) (k : Code) (o : Option ℕ) (n : ℕ) → known s k o ≡ Ok n → o ≡ Some n
unfolding known
there s k None n h = absurd cc
there s k (Some m) n h = cc

-- what was read of a unit that has a `main` is a program
pub is_program : (all : List ItemT) (x : Unit {0}) (un : Un) (s : Span) (k : ℕ) → items (opening (bodies_of all)) all ≡ Ok (x, un) → known s NoMain (main_of un) ≡ Ok k → unit_nodes all ≤ 200000 → IsProgram (program_of un k)
is_program all tt un s k e h few =
    let P : Reads (Unit {0}) → Type 0 = λ r. ItemsOut (opening (bodies_of all)) all r in
    (all, unit (subst P e (items_outcome (opening (bodies_of all)) all)) (there s NoMain (main_of un) k h), few)

-- one program at most
pub one_program : {all : List ItemT} {p q : ProgramT} → WellTyped all p → WellTyped all q → p ≡ q
one_program {p = p} {q = q} g h =
    let one : Result ProgramT Fault = Ok p in
    let two : Result ProgramT Fault = Ok q in
    let same : one ≡ two = sym (checked_good g) ∙ checked_good h in
    cc

-- one rule that is broken first
pub one_fault : {all : List ItemT} {f g : Fault} → FirstBroken all f → FirstBroken all g → f ≡ g
one_fault {f = f} {g = g} h k =
    let one : Result ProgramT Fault = Err f in
    let two : Result ProgramT Fault = Err g in
    let same : one ≡ two = sym (checked_bad h) ∙ checked_bad k in
    cc

-- a unit that has a program breaks no rule
pub not_both : {all : List ItemT} {p : ProgramT} {f : Fault} → WellTyped all p → FirstBroken all f → ⊥
not_both {p = p} {f = f} h k =
    let one : Result ProgramT Fault = Ok p in
    let two : Result ProgramT Fault = Err f in
    let same : one ≡ two = sym (checked_good h) ∙ checked_bad k in
    cc

-- a unit has a program, or breaks a rule
pub either : (all : List ItemT) → ((p : ProgramT) × WellTyped all p) ⊎ ((f : Fault) × FirstBroken all f)
either all = of (checked all) (checked_outcome all)
  where
    of : (r : Result ProgramT Fault) → CheckedOut all r → ((p : ProgramT) × WellTyped all p) ⊎ ((f : Fault) × FirstBroken all f)
    of (Ok p) h = inl (p, h)
    of (Err f) h = inr (f, h)
