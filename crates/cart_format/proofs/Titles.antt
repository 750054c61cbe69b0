-- Titles, and the zeros behind them.
use Rattle.std.proofs.Common.{◌≡◌, ℕ, suc, ◌+◌, ◌<◌, ◌≤◌, List, [], ◌∷◌, ◌++◌, length, get_or, take, drop, refl, sym, ap, ◌∙◌, append_assoc, append-nil, arith, add-one, drop-cons, inl, inr}
use Rattle.std.proofs.lemmas.Bool.{eq-eqb, ne_eqb, cases_eq}
use Rattle.std.proofs.lemmas.List.{drop_all, take_all}
use Rattle.std.proofs.Math.Seq.{take-suc}
use Rattle.cart_format.specs.Tests.{until_zero}

pub until_here : (bytes : List ℕ) (at : ℕ) → at < length bytes → get_or bytes at 0 ≡ 0 → until_zero bytes ≡ take at bytes ++ until_zero (drop at bytes) → until_zero bytes ≡ take at bytes
unfolding until_zero
until_here bytes at lt is so_far =
    let one : until_zero (drop at bytes) ≡ [] = rw (drop-cons bytes at 0 lt, eq-eqb (get_or bytes at 0) 0 is) refl in
    so_far ∙ ap (λ (x : List ℕ). take at bytes ++ x) one ∙ append-nil (take at bytes)

pub until_more : (bytes : List ℕ) (at : ℕ) → at < length bytes → (get_or bytes at 0 ≡ 0 → ⊥) → until_zero bytes ≡ take at bytes ++ until_zero (drop at bytes) → until_zero bytes ≡ take (at + 1) bytes ++ until_zero (drop (at + 1) bytes)
unfolding until_zero
until_more bytes at lt other so_far =
    let one : until_zero (drop at bytes) ≡ get_or bytes at 0 ∷ until_zero (drop (suc at) bytes) = rw (drop-cons bytes at 0 lt, ne_eqb (get_or bytes at 0) 0 other) refl in
    so_far ∙ ap (λ (x : List ℕ). take at bytes ++ x) one ∙ sym (append_assoc (take at bytes) (get_or bytes at 0 ∷ []) (until_zero (drop (suc at) bytes)))
    ∙ ap (λ (x : List ℕ). x ++ until_zero (drop (suc at) bytes)) (sym (take-suc bytes at 0 lt)) ∙ ap (λ (n : ℕ). take n bytes ++ until_zero (drop n bytes)) (sym (add-one at))

pub until_end : (bytes : List ℕ) (at : ℕ) → length bytes ≤ at → until_zero bytes ≡ take at bytes ++ until_zero (drop at bytes) → until_zero bytes ≡ bytes
unfolding until_zero
until_end bytes at le so_far = so_far ∙ ap (λ (x : List ℕ). take at bytes ++ until_zero x) (drop_all at bytes le) ∙ append-nil (take at bytes) ∙ take_all at bytes le

pub until_zero_within : (bytes : List ℕ) → length (until_zero bytes) ≤ length bytes
unfolding until_zero
until_zero_within [] = omega arith
until_zero_within (b ∷ bs) = elim (cases_eq b 0) [
  | inl is ↦ rw (eq-eqb b 0 is) (omega arith)
  | inr other ↦ let more = until_zero_within bs in rw (ne_eqb b 0 other) (omega arith)
]
