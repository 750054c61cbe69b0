-- What has ended stays so.
use Rattle.std.proofs.Common.{◌≡◌, ℕ, zero, suc, ◌+◌, ◌<◌, ◌≤◌, Bool, true, false, List, [], ◌∷◌, ◌++◌, length, set, Option, Some, None, Ok, Err, refl, ap, ◌∙◌, subst, arith}
use Rattle.std.proofs.lemmas.Bool.{false≢true}
use Rattle.obj_mem.specs.declared.cell.Cell.{Cell}
use Rattle.obj_mem.specs.declared.cell.Cell.TheVariants.{Unwritten, Num, Ptr, Null}
use Rattle.obj_mem.specs.declared.access.Access.{Access}
use Rattle.obj_mem.specs.Objects.{ObjectT, ended, object_at, with_cell, write_refused, unless_refused, end_object, end_from}
use Rattle.obj_mem.specs.Queries.{Answer, accessed, write}
use Rattle.obj_mem.specs.Stores.{end_local}

abbrev pub Ended : List ObjectT → ℕ → Type 0
Ended os o = (object_at os o).lives ≡ false

-- objects are only added, and what has ended stays so
pub record Later (os os' : List ObjectT) : Type 0 where
  pub longer : length os ≤ length os'
  pub ended : (o : ℕ) → o < length os → Ended os o → Ended os' o

-- nothing, or an object that was made and has ended
abbrev pub Gone : List ObjectT → Option ℕ → Type 0
Gone os None = Unit {0}
Gone os (Some o) = (o < length os) × Ended os o

pub later_same : (os : List ObjectT) → Later os os
later_same os = record { longer = omega arith; ended = λ o lt e. e }

pub later_then : (a b c : List ObjectT) → Later a b → Later b c → Later a c
later_then a b c p q = record { longer = omega (arith, p.longer, q.longer); ended = λ o lt e. q.ended o (omega (arith, lt, p.longer)) (p.ended o lt e) }

pub later_gone : (os os' : List ObjectT) (l : Option ℕ) → Later os os' → Gone os l → Gone os' l
later_gone os os' None p g = tt
later_gone os os' (Some o) p g = (omega (arith, g.0, p.longer), p.ended o g.0 g.1)

-- ---- one object changes

pub set_long : (xs : List ObjectT) (o : ℕ) (y : ObjectT) → length (set xs o y) ≡ length xs
set_long [] o y = refl
set_long (x ∷ xs) zero y = refl
set_long (x ∷ xs) (suc o) y = ap suc (set_long xs o y)

set_ended : (xs : List ObjectT) (o j : ℕ) (y : ObjectT) → (Ended xs o → y.lives ≡ false) → Ended xs j → Ended (set xs o y) j
set_ended [] o j y f e = e
set_ended (x ∷ xs) zero zero y f e = f e
set_ended (x ∷ xs) zero (suc j) y f e = e
set_ended (x ∷ xs) (suc o) zero y f e = e
set_ended (x ∷ xs) (suc o) (suc j) y f e = set_ended xs o j y f e

later_set : (xs : List ObjectT) (o : ℕ) (y : ObjectT) → (Ended xs o → y.lives ≡ false) → Later xs (set xs o y)
later_set xs o y f = record { longer = let e = set_long xs o y in omega (arith, e); ended = λ j lt e. set_ended xs o j y f e }

pub later_end : (xs : List ObjectT) (o : ℕ) → Later xs (end_object xs o)
later_end xs o = later_set xs o ended (λ e. refl)

pub later_end_local : (l : Option ℕ) (xs : List ObjectT) → Later xs (end_local l xs)
later_end_local None xs = later_same xs
later_end_local (Some o) xs = later_end xs o

-- it has ended
pub end_ends : (xs : List ObjectT) (o : ℕ) → Ended (end_object xs o) o
end_ends [] o = refl
end_ends (x ∷ xs) zero = refl
end_ends (x ∷ xs) (suc o) = end_ends xs o

-- ---- a write

abbrev is_ok : Answer (List ObjectT) → Bool
is_ok (Ok os) = true
is_ok (Err r) = false

abbrev answered : List ObjectT → Answer (List ObjectT) → List ObjectT
answered xs (Ok os) = os
answered xs (Err r) = xs

refused_ok : (i : ℕ) (r : Option Access) (xs ys : List ObjectT) → accessed 1 i (unless_refused r xs) ≡ Ok ys → xs ≡ ys
refused_ok i None xs ys e = ap (answered xs) e
refused_ok i (Some a) xs ys e = absurd (false≢true (ap is_ok e))

pub later_write : (os : List ObjectT) (p c : Cell) (os' : List ObjectT) → write os p c ≡ Ok os' → Later os os'
later_write os (Ptr o i) c os' e = subst (Later os) (refused_ok i (write_refused (object_at os o) i) (set os o (with_cell (object_at os o) i c)) os' e) (later_set os o (with_cell (object_at os o) i c) (λ d. d))
later_write os Unwritten c os' e = absurd (false≢true (ap is_ok e))
later_write os (Num n) c os' e = absurd (false≢true (ap is_ok e))
later_write os Null c os' e = absurd (false≢true (ap is_ok e))

-- ---- objects are added, and those of a call end

at_front : (xs ys : List ObjectT) (j : ℕ) → j < length xs → object_at (xs ++ ys) j ≡ object_at xs j
at_front [] ys j lt = absurd (omega (arith, lt))
at_front (x ∷ xs) ys zero lt = refl
at_front (x ∷ xs) ys (suc j) lt = at_front xs ys j (omega (arith, lt))

join_long : (xs ys : List ObjectT) → length (xs ++ ys) ≡ length xs + length ys
join_long [] ys = omega arith
join_long (x ∷ xs) ys = let e = join_long xs ys in omega (arith, e)

pub later_join : (xs ys : List ObjectT) → Later xs (xs ++ ys)
later_join xs ys = record { longer = let e = join_long xs ys in omega (arith, e); ended = λ o lt e. ap (λ x. x.lives) (at_front xs ys o lt) ∙ e }

from_long : (n : ℕ) (xs : List ObjectT) → length (end_from n xs) ≡ length xs
from_long n [] = refl
from_long zero (x ∷ xs) = ap suc (from_long zero xs)
from_long (suc n) (x ∷ xs) = ap suc (from_long n xs)

from_ended : (n : ℕ) (xs : List ObjectT) (j : ℕ) → Ended xs j → Ended (end_from n xs) j
from_ended n [] j e = e
from_ended zero (x ∷ xs) zero e = refl
from_ended zero (x ∷ xs) (suc j) e = from_ended zero xs j e
from_ended (suc n) (x ∷ xs) zero e = e
from_ended (suc n) (x ∷ xs) (suc j) e = from_ended n xs j e

pub later_from : (n : ℕ) (xs : List ObjectT) → Later xs (end_from n xs)
later_from n xs = record { longer = let e = from_long n xs in omega (arith, e); ended = λ o lt e. from_ended n xs o e }
