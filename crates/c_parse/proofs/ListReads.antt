-- Loops over lists give what their elements give.
use Rattle.std.proofs.Common.{◌≡◌, ℕ, suc, ◌<◌, ◌≤◌, List, [], ◌++◌, length, Option, Some, None, Result, Ok, sym, subst, append_assoc, arith}
use Rattle.std.specs.Prelude.{max}
use Rattle.std.proofs.lemmas.List.{append-nil}
use Rattle.c_parse.specs.declared.fault.Fault.{Fault}
use Rattle.c_parse.specs.Tok.{Tok}
use Rattle.c_parse.specs.inner.Reader.{◌>>=◌, Got, Reader, Turn, goes_on, repeat, loop}
use Rattle.c_parse.proofs.Outcomes.{Reads, read, over, bind_reads, bind_twice, repeat_ends, repeat_goes}

-- a list's part that one turn adds, and how deep that is
pub record Parts (A B : Type 0) : Type 0 where
  pub part : B → List A
  pub depth : B → ℕ
  pub deepest : List A → ℕ
  pub none : deepest [] ≡ 0
  pub some : (x : B) (xs : List A) → deepest (part x ++ xs) ≡ max (depth x) (deepest xs)

module _ {A B : Type 0} (p : Parts A B) (room : ℕ) (turn : Turn (List A)) where
  abbrev pub add : List A → Got B → Result (Option (Got (List A))) Fault
  add xs x = Ok (Some (xs ++ p.part x.0, x.1))

  -- the turns that read a list
  pub data Turned : List Tok → List A → List Tok → Type 0 where
    stop : {rest : List Tok} → ((xs : List A) → turn xs rest ≡ Ok None) → Turned rest [] rest
    next : {ts mid rest : List Tok} {x : B} {xs : List A} {res : Result (Got B) Fault} → ((ys : List A) → turn ys ts ≡ (res >>= add ys)) → Reads (p.depth x) room (x, mid) res
        → length mid < length ts → Turned mid xs rest → Turned ts (p.part x ++ xs) rest

  regroup : {D R : ℕ} (xs ys zs : List A) (rest : List Tok) (res : Result (Got (List A)) Fault) → Reads D R ((xs ++ ys) ++ zs, rest) res → Reads D R (xs ++ (ys ++ zs), rest) res
  regroup {D = D} {R = R} xs ys zs rest res h = subst (λ (l : List A). Reads D R (l, rest) res) (append_assoc xs ys zs) h

  nothing_more : {D R : ℕ} (xs : List A) (rest : List Tok) (res : Result (Got (List A)) Fault) → Reads D R (xs, rest) res → Reads D R (xs ++ [], rest) res
  nothing_more {D = D} {R = R} xs rest res h = subst (λ (l : List A). Reads D R (l, rest) res) (sym (append-nil xs)) h

  deeper : (x : B) (xs : List A) → room < p.depth x → room < p.deepest (p.part x ++ xs)
  deeper x xs lt = rw (p.some x xs) (omega arith)

  deepest_reads : {A' : Type 0} {y : A'} (x : B) (xs : List A) (res : Result A' Fault) → p.depth x ≤ room → Reads (p.deepest xs) room y res → Reads (p.deepest (p.part x ++ xs)) room y res
  deepest_reads x xs res le (read fits) = read (rw (p.some x xs) (omega arith))
  deepest_reads x xs res le (over lt) = over (rw (p.some x xs) (omega arith))

  pub turned_reads : {ts rest : List Tok} {xs : List A} → Turned ts xs rest → (ys : List A) (n : ℕ) → length ts < n → Reads (p.deepest xs) room (ys ++ xs, rest) (repeat turn n ys ts)
  turned_reads (stop {rest = rest} e) ys n lt = nothing_more ys rest (repeat turn n ys rest) (repeat_ends turn ys rest n lt (e ys) (omega (arith, p.none)))
  turned_reads (next {ts = ts} {mid = mid} {rest = rest} {x = x} {xs = xs} {res = res} e h less t) ys n lt =
      repeat_goes turn ys ts n lt (res >>= add ys) (e ys) (λ k is. bind_twice (add ys) (goes_on (repeat turn k) ys ts) h (λ deep. deeper x xs deep)
      (λ fits. deepest_reads x xs (repeat turn k (ys ++ p.part x) mid) fits (regroup ys (p.part x) xs rest (repeat turn k (ys ++ p.part x) mid) (turned_reads t (ys ++ p.part x) k (omega arith)))))

  -- a list that begins outside the loop
  pub data Several (reader : Reader B) : List Tok → List A → List Tok → Type 0 where
    several : {ts mid rest : List Tok} {x : B} {xs : List A} → Reads (p.depth x) room (x, mid) (reader ts) → length mid < length ts → Turned mid xs rest → Several reader ts (p.part x ++ xs) rest

  pub several_reads : {reader : Reader B} {ts rest : List Tok} {xs : List A} → Several reader ts xs rest → Reads (p.deepest xs) room (xs, rest) (reader ts >>= λ x. loop turn (p.part x.0) x.1)
  several_reads (several {ts = ts} {mid = mid} {rest = rest} {x = x} {xs = xs} h less t) =
      bind_reads (λ y. loop turn (p.part y.0) y.1) h (λ deep. deeper x xs deep) (λ fits. deepest_reads x xs (loop turn (p.part x) mid) fits (turned_reads t (p.part x) (suc (length mid)) (omega arith)))

  pub several_shorter : {reader : Reader B} {ts rest : List Tok} {xs : List A} → Several reader ts xs rest → length rest < length ts
  several_shorter (several h less t) = omega (arith, turned_up t)
    where
      turned_up : {ts rest : List Tok} {xs : List A} → Turned ts xs rest → length rest ≤ length ts
      turned_up (stop e) = omega arith
      turned_up (next e h less t) = omega (arith, turned_up t)
