-- What one turn of a list's loop gives.
use Rattle.std.proofs.Common.{◌≡◌, true, false, List, [], ◌∷◌, ◌++◌, Some, None, Ok, refl}
use Rattle.kit_base.specs.declared.failure.Failure.{Failure}
use Rattle.kit_base.specs.Gives.{Fails}
use Rattle.c_parse.specs.declared.fault.Fault.{Fault}
use Rattle.c_parse.specs.Tok.{Tok}
use Rattle.c_parse.specs.inner.Reader.{Got, Reader, behind, at_comma, at_more, at_close_brace}
use Rattle.c_parse.specs.inner.ReadingLists.{pushed, comma_turn, more_turn, brace_turn}
use Rattle.c_parse.proofs.Loops.{fails_on}

module _ {A : Type 0} (read : Reader A) (xs : List A) (ts : List Tok) where
  pub comma_end : at_comma ts ≡ false → comma_turn read xs ts ≡ Ok None
  comma_end e = rw e refl

  pub comma_fail : (e : Failure Fault) → at_comma ts ≡ true → Fails e (read (behind ts)) → Fails e (comma_turn read xs ts)
  comma_fail e is bad = rw is (fails_on e (read (behind ts)) (pushed xs) bad)

  pub comma_ok : (x : Got A) → at_comma ts ≡ true → read (behind ts) ≡ Ok x → comma_turn read xs ts ≡ Ok (Some (xs ++ x.0 ∷ [], x.1))
  comma_ok x is good = rw (is, good) refl

  pub more_end : at_more ts ≡ false → more_turn read xs ts ≡ Ok None
  more_end e = rw e refl

  pub more_fail : (e : Failure Fault) → at_more ts ≡ true → Fails e (read (behind ts)) → Fails e (more_turn read xs ts)
  more_fail e is bad = rw is (fails_on e (read (behind ts)) (pushed xs) bad)

  pub more_ok : (x : Got A) → at_more ts ≡ true → read (behind ts) ≡ Ok x → more_turn read xs ts ≡ Ok (Some (xs ++ x.0 ∷ [], x.1))
  more_ok x is good = rw (is, good) refl

  pub brace_end : at_close_brace ts ≡ true → brace_turn read xs ts ≡ Ok None
  brace_end e = rw e refl

  pub brace_fail : (e : Failure Fault) → at_close_brace ts ≡ false → Fails e (read ts) → Fails e (brace_turn read xs ts)
  brace_fail e is bad = rw is (fails_on e (read ts) (pushed xs) bad)

  pub brace_ok : (x : Got A) → at_close_brace ts ≡ false → read ts ≡ Ok x → brace_turn read xs ts ≡ Ok (Some (xs ++ x.0 ∷ [], x.1))
  brace_ok x is good = rw (is, good) refl
