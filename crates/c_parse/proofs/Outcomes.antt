-- What a reader gives of a tree with so many trees on a path: the tree, where there is room for them, and otherwise that it is too deep.
use Rattle.std.proofs.Common.{◌≡◌, ℕ, zero, suc, ◌<◌, ◌≤◌, Bool, true, List, length, Option, None, Result, Ok, Err, refl, sym, subst, arith, ◌⊎◌, inl, inr}
use Rattle.std.proofs.lemmas.Bool.{cases_lt, lt-ltb, le-ltb}
use Rattle.c_parse.specs.declared.fault.Fault.{Fault}
use Rattle.c_parse.specs.declared.fault.Fault.TheVariants.{Syntax, TooDeep}
use Rattle.c_parse.specs.Tok.{Tok}
use Rattle.c_parse.specs.inner.Reader.{◌>>=◌, Got, above, no_room, Turn, goes_on, repeat}

pub data Reads {A : Type 0} (depth room : ℕ) (x : A) : Result A Fault → Type 0 where
  read : depth ≤ room → Reads depth room x (Ok x)
  over : {n : ℕ} → room < depth → Reads depth room x (Err (TooDeep n))

pub along : {A B : Type 0} {d r : ℕ} {x : A} (f : B → Result A Fault) (a b : B) → a ≡ b → Reads d r x (f b) → Reads d r x (f a)
along {d = d} {r = r} {x = x} f a b e h = subst (λ (z : Result _ Fault). Reads d r x z) (sym (ap_of f a b e)) h
  where
    ap_of : {A B : Type 0} (f : B → A) (a b : B) → a ≡ b → f a ≡ f b
    ap_of f a b e = rw e refl

pub reads_is : {A : Type 0} {d r : ℕ} {x : A} (s t : Result A Fault) → s ≡ t → Reads d r x t → Reads d r x s
reads_is {d = d} {r = r} {x = x} s t e h = subst (λ (z : Result _ Fault). Reads d r x z) (sym e) h

-- a part is read first, and what goes on with it
pub bind_reads : {A B : Type 0} {d r D R : ℕ} {x : A} {y : B} {res : Result A Fault} (f : A → Result B Fault) → Reads d r x res → (r < d → R < D) → (d ≤ r → Reads D R y (f x)) → Reads D R y (res >>= f)
bind_reads f (read le) deep next = next le
bind_reads f (over lt) deep next = over (deep lt)

pub bind_twice : {A B C : Type 0} {d r D R : ℕ} {x : A} {y : C} {res : Result A Fault} (g : A → Result B Fault) (f : B → Result C Fault) → Reads d r x res → (r < d → R < D) → (d ≤ r → Reads D R y (g x >>= f)) → Reads D R y ((res >>= g) >>= f)
bind_twice g f (read le) deep next = next le
bind_twice g f (over lt) deep next = over (deep lt)

-- a tree above a part of that depth
pub above_reads : {A : Type 0} {D R : ℕ} {y : A} (d : ℕ) (ts : List Tok) (res : Result A Fault) → (d < R → Reads D R y res) → (R ≤ d → R < D) → Reads D R y (above d R ts res)
above_reads {A} {D = D} {R = R} {y = y} d ts res next deep = cases (cases_lt d R)
  where
    cases : (d < R) ⊎ (R ≤ d) → Reads D R y (above d R ts res)
    cases (inl lt) = rw (lt-ltb _ _ lt) (next lt)
    cases (inr le) = rw (le-ltb _ _ le) (over (deep le))

pub above_twice : {A B : Type 0} {D R : ℕ} {y : B} (d : ℕ) (ts : List Tok) (res : Result A Fault) (f : A → Result B Fault) → (d < R → Reads D R y (res >>= f)) → (R ≤ d → R < D) → Reads D R y (above d R ts res >>= f)
above_twice {A} {B} {D = D} {R = R} {y = y} d ts res f next deep = cases (cases_lt d R)
  where
    cases : (d < R) ⊎ (R ≤ d) → Reads D R y (above d R ts res >>= f)
    cases (inl lt) = rw (lt-ltb _ _ lt) (next lt)
    cases (inr le) = rw (le-ltb _ _ le) (over (deep le))

-- what begins finds no room
pub none_reads : {A : Type 0} {D : ℕ} {y : A} (b : Bool) (ts : List Tok) → b ≡ true → 0 < D → Reads D 0 y (no_room b ts)
none_reads b ts e lt = rw e (over lt)

module _ {A : Type 0} (turn : Turn A) (a : A) (ts : List Tok) where
  pub repeat_ends : {D R : ℕ} (n : ℕ) → length ts < n → turn a ts ≡ Ok None → D ≤ R → Reads D R (a, ts) (repeat turn n a ts)
  unfolding repeat
  repeat_ends zero lt e le = absurd (omega arith)
  repeat_ends (suc n) lt e le = rw e (read le)

  pub repeat_goes : {D R : ℕ} {y : Got A} (n : ℕ) → length ts < n → (o : Result (Option (Got A)) Fault) → turn a ts ≡ o → ((m : ℕ) → n ≡ suc m → Reads D R y (o >>= goes_on (repeat turn m) a ts)) → Reads D R y (repeat turn n a ts)
  unfolding repeat
  repeat_goes zero lt o e next = absurd (omega arith)
  repeat_goes (suc n) lt o e next = rw e (next n refl)

pub fits_is : {A : Type 0} (d r : ℕ) (x : A) (res : Result A Fault) → Reads d r x res → d ≤ r → res ≡ Ok x
fits_is d r x _ (read le) fits = refl
fits_is d r x _ (over lt) fits = absurd (omega arith)

pub over_is : {A : Type 0} (d r : ℕ) (x : A) (res : Result A Fault) → Reads d r x res → r < d → (n : ℕ) × (res ≡ Err (TooDeep n))
over_is d r x _ (read le) lt = absurd (omega arith)
over_is d r x _ (over {n = n} lt') lt = (n, refl)

pub no_syntax : {A : Type 0} (d r n : ℕ) (x : A) (res : Result A Fault) → Reads d r x res → res ≡ Err (Syntax n) → ⊥
no_syntax d r n x _ (read le) e = cc
no_syntax d r n x _ (over lt) e = cc
