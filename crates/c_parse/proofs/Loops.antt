-- Loops that read what repeats.
use Rattle.std.proofs.Common.{◌≡◌, ℕ, zero, suc, ◌<◌, List, length, Some, None, Result, Ok, Err, refl, sym, ◌∙◌, arith}
use Rattle.kit_base.specs.declared.failure.Failure.{Failure}
use Rattle.kit_base.specs.declared.failure.Failure.TheVariants as errors
use Rattle.kit_base.specs.Gives.{Fails}
use Rattle.c_parse.specs.declared.fault.Fault.{Fault}
use Rattle.c_parse.specs.Tok.{Tok}
use Rattle.c_parse.specs.inner.Reader.{◌>>=◌, Got, Turn, goes_on, repeat, loop}

-- what is still to be read gives the total, and the count of turns is enough
pub record Goes {A : Type 0} (turn : Turn A) (a : A) (ts : List Tok) (total : Result (Got A) Fault) : Type 0 where
  pub turns : ℕ
  pub enough : length ts < turns
  pub same : repeat turn turns a ts ≡ total

pub goes_start : {A : Type 0} (turn : Turn A) (a : A) (ts : List Tok) → Goes turn a ts (loop turn a ts)
goes_start turn a ts = record { turns = suc (length ts); enough = omega arith; same = refl }

module _ {A : Type 0} (turn : Turn A) (a : A) (ts : List Tok) (total : Result (Got A) Fault) (h : Goes turn a ts total) where
  some_turn : (n : ℕ) → n ≡ h.turns → (m : ℕ) × (n ≡ suc m)
  some_turn zero e = absurd (omega (arith, h.enough))
  some_turn (suc m) e = (m, refl)

  same_at : (m : ℕ) → h.turns ≡ suc m → repeat turn (suc m) a ts ≡ total
  same_at m e = rw (← e) h.same

  same_turn : (m : ℕ) → h.turns ≡ suc m → (turn a ts >>= goes_on (repeat turn m) a ts) ≡ total
  unfolding repeat
  same_turn m e = same_at m e

  pub goes_end : turn a ts ≡ Ok None → total ≡ Ok (a, ts)
  goes_end e =
      let t = some_turn h.turns refl in
      let one : (turn a ts >>= goes_on (repeat turn t.0) a ts) ≡ Ok (a, ts) = rw e refl in
      sym (same_turn t.0 t.1) ∙ one

  pub goes_err : (d : Fault) → turn a ts ≡ Err d → total ≡ Err d
  goes_err d e =
      let t = some_turn h.turns refl in
      let one : (turn a ts >>= goes_on (repeat turn t.0) a ts) ≡ Err d = rw e refl in
      sym (same_turn t.0 t.1) ∙ one

  pub goes_fail : (e : Failure Fault) → Fails e (turn a ts) → Fails e total
  goes_fail errors.Memory bad = tt
  goes_fail (errors.Cause d) bad = goes_err d bad

  pub goes_turn : (b : A) (us : List Tok) → turn a ts ≡ Ok (Some (b, us)) → length us < length ts → Goes turn b us total
  goes_turn b us e less =
      let t = some_turn h.turns refl in
      let one : (turn a ts >>= goes_on (repeat turn t.0) a ts) ≡ repeat turn t.0 b us = rw e refl in
      record { turns = t.0; enough = omega (arith, h.enough, t.1, less); same = sym one ∙ same_turn t.0 t.1 }

-- a step that fails makes what goes on with it fail
pub fails_on : {A B : Type 0} (e : Failure Fault) (r : Result A Fault) (f : A → Result B Fault) → Fails e r → Fails e (r >>= f)
fails_on errors.Memory r f h = tt
fails_on (errors.Cause d) r f h = rw h refl
