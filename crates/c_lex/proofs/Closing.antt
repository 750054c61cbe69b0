-- What a loop over the bytes of a comment keeps.
use Rattle.std.proofs.Common.{◌≡◌, ℕ, ◌+◌, List, ◌∷◌, length, true, false, refl, ap, sym, ◌∙◌, arith}
use Rattle.std.proofs.lemmas.List.{nil_from_length}
use Rattle.std.specs.Prelude.{Option, Some, None, option_map}
use Rattle.c_lex.specs.Gaps.{closes, close_at}

abbrev pub shifted : ℕ → Option ℕ → Option ℕ
shifted at o = option_map (λ n. at + n) o

again : (at : ℕ) (o : Option ℕ) → shifted at (option_map (λ n. n + 1) o) ≡ shifted (at + 1) o
again at None = refl
again at (Some n) = ap (λ (m : ℕ). Some m) (omega arith)

pub goes_on : (at : ℕ) (rest : List ℕ) (b : ℕ) (after : List ℕ) (total : Option ℕ) → rest ≡ b ∷ after → closes rest ≡ false → shifted at (close_at rest) ≡ total → shifted (at + 1) (close_at after) ≡ total
unfolding close_at
goes_on at rest b after total whole stays so_far =
    let stays' : closes (b ∷ after) ≡ false = ap closes (sym whole) ∙ stays in
    let one : shifted at (close_at (b ∷ after)) ≡ shifted at (option_map (λ n. n + 1) (close_at after)) = rw stays' refl in
    sym (again at (close_at after)) ∙ sym one ∙ ap (λ (x : List ℕ). shifted at (close_at x)) (sym whole) ∙ so_far

pub closed : (at : ℕ) (rest : List ℕ) (b : ℕ) (after : List ℕ) (total : Option ℕ) → rest ≡ b ∷ after → closes rest ≡ true → shifted at (close_at rest) ≡ total → Some (at + 2) ≡ total
unfolding close_at
closed at rest b after total whole here so_far =
    let here' : closes (b ∷ after) ≡ true = ap closes (sym whole) ∙ here in
    let one : shifted at (close_at (b ∷ after)) ≡ Some (at + 2) = rw here' refl in
    sym one ∙ ap (λ (x : List ℕ). shifted at (close_at x)) (sym whole) ∙ so_far

pub at_end : (at : ℕ) (rest : List ℕ) (total : Option ℕ) → length rest ≡ 0 → shifted at (close_at rest) ≡ total → None ≡ total
unfolding close_at
at_end at rest total empty so_far = ap (λ (x : List ℕ). shifted at (close_at x)) (sym (nil_from_length rest empty)) ∙ so_far
