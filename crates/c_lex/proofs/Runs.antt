-- Runs of bytes that pass a test.
use Rattle.std.proofs.Common.{◌≡◌, ℕ, zero, suc, ◌<◌, ◌≤◌, ◌+◌, Bool, true, false, cond, List, [], ◌∷◌, ◌++◌, length, take, refl, arith}
use Rattle.std.specs.List.{prefix_len}
use Rattle.std.proofs.lemmas.List.{get_or-take, length-take-le}
use Rattle.std.proofs.lemmas.List.Sums.{prefix_len_is, prefix_len-le-length, prefix_len_passes}
use Rattle.c_lex.specs.Bytes.{begins}

pub begins_some : (p : ℕ → Bool) (a : List ℕ) → begins p a ≡ true → 0 < length a
begins_some p [] e = absurd cc
begins_some p (b ∷ bs) e = omega arith

pub begins_append : (p : ℕ → Bool) (a r : List ℕ) → 0 < length a → begins p (a ++ r) ≡ begins p a
begins_append p [] r some = absurd (omega arith)
begins_append p (b ∷ bs) r some = refl

pub begins_take : (p : ℕ → Bool) (n : ℕ) (a : List ℕ) → 0 < n → begins p (take n a) ≡ begins p a
begins_take p zero a some = absurd (omega arith)
begins_take p (suc n) [] some = refl
begins_take p (suc n) (b ∷ bs) some = refl

longer : (b : Bool) (m n : ℕ) → m ≤ n → cond b (1 + m) 0 ≤ cond b (1 + n) 0
longer true m n le = omega arith
longer false m n le = omega arith

-- a run of a front goes no further
pub front_run : (p : ℕ → Bool) (a r : List ℕ) → prefix_len p a ≤ prefix_len p (a ++ r)
front_run p [] r = omega arith
front_run p (b ∷ bs) r = longer (p b) (prefix_len p bs) (prefix_len p (bs ++ r)) (front_run p bs r)

-- a run is a run by itself
pub own_run : (p : ℕ → Bool) (a : List ℕ) → prefix_len p (take (prefix_len p a) a) ≡ prefix_len p a
own_run p a =
    let n = prefix_len p a in
    let len : length (take n a) ≡ n = length-take-le n a (prefix_len-le-length p a) in
    prefix_len_is p (take n a) n 0 (omega arith) (λ k lt. rw (get_or-take n a k 0 lt) (prefix_len_passes p a k 0 lt)) (λ lt. absurd (omega arith))

pub run_some : (p : ℕ → Bool) (a : List ℕ) → begins p a ≡ true → 0 < prefix_len p a
run_some p [] e = absurd cc
run_some p (b ∷ bs) e = rw e (omega arith)
