-- A run of samples within a loop, or within a sound.
use Rattle.std.proofs.Common.{◌≡◌, inl, inr, ℕ, ◌<◌, ◌≤◌, ◌+◌, ◌-◌, arith, refl, Bool, true, false, Some, None}
use Rattle.std.proofs.lemmas.Bool.{cases_lt}
use Rattle.spu_mix.specs.Positions.{position_after}
use Rattle.spu_mix.proofs.Positions.{run_position, run_wraps, run_stops}

-- From position q on, `run` samples do not pass the end e of the loop or the sound, and n is the position after them.
pub record Ran (looping : Bool) (start last count p j q run n : ℕ) : Type 0 where
  pub fits : q + run ≤ count
  pub along : (k : ℕ) → k < run → position_after looping start last count p (j + k) ≡ Some (q + k)
  pub next : n < count → position_after looping start last count p (j + run) ≡ Some n
  pub ended : count ≤ n → (k : ℕ) → j + run ≤ k → position_after looping start last count p k ≡ None

in_loop : (start last count p j q e run n : ℕ) → start ≤ last → last < count → p < count → q ≤ last →
    position_after true start last count p j ≡ Some q → q + run ≤ last + 1 →
    (last < q + run → n ≡ start) → (q + run ≤ last → n ≡ q + run) → Ran true start last count p j q run n
in_loop start last count p j q e run n a b c d at upto wraps goes = record {
  fits = omega arith;
  along = λ k h. run_position true start last count p j q k a b c (omega arith) at (omega arith) (λ _ _. omega arith);
  next = λ h. elim (cases_lt last (q + run)) [
    | inl past ↦ rw (wraps past) (run_wraps start last count p j q run a b c d (omega arith) at)
    | inr before ↦ rw (goes before) (run_position true start last count p j q run a b c (omega arith) at (omega arith) (λ _ _. before))
  ];
  ended = λ h. elim (cases_lt last (q + run)) [
    | inl past ↦ absurd (let w = wraps past in omega arith)
    | inr before ↦ absurd (let w = goes before in omega arith)
  ];
}

in_sound : (looping : Bool) (start last count p j q run n : ℕ) → start ≤ last → last < count → p < count → q < count →
    (looping ≡ true → last < q) → position_after looping start last count p j ≡ Some q → q + run ≤ count → n ≡ q + run →
    Ran looping start last count p j q run n
in_sound looping start last count p j q run n a b c d beyond at upto goes = record {
  fits = upto;
  along = λ k h. run_position looping start last count p j q k a b c d at (omega arith) (λ l m. absurd (let w = beyond l in omega arith));
  next = λ h. rw goes (run_position looping start last count p j q run a b c d at (omega arith) (λ l m. absurd (let w = beyond l in omega arith)));
  ended = λ h k m.
      let f : j + (k - j) ≡ k = omega arith in
      rw f at (run_stops looping start last count p j q (k - j) a b c d beyond at (omega arith));
}

pub ran : (looping : Bool) (start last count p j q e run n : ℕ) → start ≤ last → last < count → p < count → q < count →
    position_after looping start last count p j ≡ Some q → run ≤ e - q →
    (looping ≡ true → q ≤ last → e ≡ last + 1) → ((looping ≡ true → last < q) → e ≡ count) → q < e →
    (looping ≡ true → q ≤ last → last < q + run → n ≡ start) → ((looping ≡ true → q ≤ last → q + run ≤ last) → n ≡ q + run) →
    Ran looping start last count p j q run n
ran false start last count p j q e run n a b c d at short loops plain later wraps goes =
    let none : false ≡ true → last < q = λ h. absurd cc in
    let end : e ≡ count = plain none in
    in_sound false start last count p j q run n a b c d none at (omega arith) (goes (λ h. absurd cc))
ran true start last count p j q e run n a b c d at short loops plain later wraps goes = elim (cases_lt last q) [
  | inl beyond ↦
      let end : e ≡ count = plain (λ _. beyond) in
      in_sound true start last count p j q run n a b c d (λ _. beyond) at (omega arith) (goes (λ _ h. absurd (omega arith)))
  | inr upto ↦
      let end : e ≡ last + 1 = loops refl upto in
      in_loop start last count p j q e run n a b c upto at (omega arith) (wraps refl upto) (λ h. goes (λ _ _. h))
]
