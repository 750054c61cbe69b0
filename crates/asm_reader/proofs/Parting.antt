-- The first part of a list, and the parts after it.
use Rattle.std.proofs.Common.{◌≡◌, ℕ, zero, suc, ◌<◌, Bool, true, false, not, List, [], ◌∷◌, take, drop, length, refl, sym, ap, ◌∙◌, arith}
use Rattle.std.proofs.lemmas.List.{length-drop, nil_from_length}
use Rattle.std.proofs.lemmas.List.Sums.{take_while-cons}
use Rattle.std.specs.List.{take_while}
use Rattle.asm_reader.specs.Parted.{parted, with_first}

abbrev front_of : {A : Type 0} → (A → Bool) → List A → List A
front_of m xs = take_while (λ x. not (m x)) xs

abbrev others : {A : Type 0} → (A → Bool) → List A → List (List A)
others m [] = []
others m (x ∷ xs) = parted m xs

marked : {A : Type 0} (m : A → Bool) (x : A) (xs : List A) → m x ≡ true → front_of m (x ∷ xs) ≡ []
marked m x xs e = take_while-cons (λ y. not (m y)) x xs ∙ rw e refl

unmarked : {A : Type 0} (m : A → Bool) (x : A) (xs : List A) → m x ≡ false → front_of m (x ∷ xs) ≡ x ∷ front_of m xs
unmarked m x xs e = take_while-cons (λ y. not (m y)) x xs ∙ rw e refl

step : {A : Type 0} (m : A → Bool) (x : A) (xs : List A) (b : Bool) → m x ≡ b → parted m xs ≡ front_of m xs ∷ others m (drop (length (front_of m xs)) xs)
    → parted m (x ∷ xs) ≡ front_of m (x ∷ xs) ∷ others m (drop (length (front_of m (x ∷ xs))) (x ∷ xs))
unfolding parted
step {A = A} m x xs true e so =
    let one : parted m (x ∷ xs) ≡ [] ∷ parted m xs = rw e refl in
    one ∙ ap (λ (f : List A). f ∷ others m (drop (length f) (x ∷ xs))) (sym (marked m x xs e))
step {A = A} m x xs false e so =
    let one : parted m (x ∷ xs) ≡ with_first x (parted m xs) = rw e refl in
    one ∙ ap (with_first x) so ∙ ap (λ (f : List A). f ∷ others m (drop (length f) (x ∷ xs))) (sym (unmarked m x xs e))

split : {A : Type 0} (m : A → Bool) (xs : List A) → parted m xs ≡ front_of m xs ∷ others m (drop (length (front_of m xs)) xs)
unfolding parted
split m [] = refl
split m (x ∷ xs) = step m x xs (m x) refl (split m xs)

taken_again : {A : Type 0} (k : ℕ) (xs : List A) → take (length (take k xs)) xs ≡ take k xs
taken_again zero xs = refl
taken_again (suc k) [] = refl
taken_again {A = A} (suc k) (x ∷ xs) = ap (λ (ys : List A). x ∷ ys) (taken_again k xs)

taken : {A : Type 0} (m : A → Bool) (xs : List A) → take (length (front_of m xs)) xs ≡ front_of m xs
taken m xs = taken_again _ xs

pub more : {A : Type 0} (m : A → Bool) (xs part rest : List A) (x : A) (after : List A) (n : ℕ) → n ≡ length (front_of m xs) → part ≡ take n xs → rest ≡ drop n xs → rest ≡ x ∷ after
    → parted m xs ≡ part ∷ parted m after
more {A = A} m xs part rest x after n size is_part is_rest whole =
    let a : part ≡ front_of m xs = is_part ∙ ap (λ (k : ℕ). take k xs) size ∙ taken m xs in
    let b : drop (length (front_of m xs)) xs ≡ x ∷ after = ap (λ (k : ℕ). drop k xs) (sym size) ∙ sym is_rest ∙ whole in
    split m xs ∙ ap (λ (ys : List A). front_of m xs ∷ others m ys) b ∙ ap (λ (ys : List A). ys ∷ parted m after) (sym a)

pub last : {A : Type 0} (m : A → Bool) (xs part rest : List A) (n : ℕ) → n ≡ length (front_of m xs) → part ≡ take n xs → rest ≡ drop n xs → length rest ≡ 0
    → parted m xs ≡ part ∷ []
last {A = A} m xs part rest n size is_part is_rest empty =
    let a : part ≡ front_of m xs = is_part ∙ ap (λ (k : ℕ). take k xs) size ∙ taken m xs in
    let b : drop (length (front_of m xs)) xs ≡ [] = ap (λ (k : ℕ). drop k xs) (sym size) ∙ sym is_rest ∙ nil_from_length rest empty in
    split m xs ∙ ap (λ (ys : List A). front_of m xs ∷ others m ys) b ∙ ap (λ (ys : List A). ys ∷ []) (sym a)

pub shorter : {A : Type 0} (xs rest : List A) (x : A) (after : List A) (n : ℕ) → rest ≡ drop n xs → rest ≡ x ∷ after → length after < length xs
shorter xs rest x after n is_rest whole = let e = ap length (sym is_rest ∙ whole) in omega (arith, length-drop n xs, e)
