-- Lists by their places.
use Rattle.std.proofs.Common.{ℕ, zero, suc, ◌+◌, ◌*◌, ◌-◌, ◌<◌, ◌≤◌, ◌≡◌, List, [], ◌∷◌, ◌++◌, length, refl, sym, ap, ◌∙◌, arith, take, drop}
use Rattle.std.specs.Prelude.{map, slice_index}
use Rattle.std.specs.List.{flat_map, range_with_len}
use Rattle.std.proofs.lemmas.List.{ext_get_or, get_or-take, get_or-drop, take-append-drop, length-take-le}
use Rattle.std.proofs.lemmas.List.FromFn.{length-map-range_with_len, get_or-map-range_with_len}
use Rattle.std.proofs.Common.{length-drop}

pub tabulated : (n : ℕ) (f : ℕ → ℕ) (xs : List ℕ) → length xs ≡ n → ((k : ℕ) → k < n → slice_index xs k ≡ f k) → xs ≡ map f (range_with_len 0 n)
tabulated n f xs size all =
    ext_get_or 0 xs (map f (range_with_len 0 n)) (size ∙ sym (length-map-range_with_len f 0 n))
    (λ i h. let k : i < n = omega (arith, h, size) in all i k ∙ sym (get_or-map-range_with_len f 0 n i i 0 k (omega arith)))

empty : (xs : List ℕ) → length xs ≡ 0 → xs ≡ []
empty [] h = refl
empty (x ∷ xs) h = absurd (omega (arith, h))

both : (a b c d : List ℕ) → a ≡ c → b ≡ d → a ++ b ≡ c ++ d
both a b c d e f = ap (λ x. x ++ b) e ∙ ap (λ y. c ++ y) f

none_and : (width k : ℕ) → 0 * width + k ≡ k
none_and width k = grind arith

one_more : (width x y : ℕ) → width + (y * width + x) ≡ (y + 1) * width + x
one_more width x y = grind arith

one_row : (width rows n : ℕ) → n ≡ suc rows * width → width ≤ n
one_row width rows n h = grind arith

rows_left : (width rows n : ℕ) → n ≡ suc rows * width → n - width ≡ rows * width
rows_left width rows n h = grind arith

-- a list by rows of that width
pub rows_are : (width : ℕ) (f : ℕ → ℕ → ℕ) (rows a : ℕ) (xs : List ℕ) → length xs ≡ rows * width
    → ((x y : ℕ) → x < width → y < rows → slice_index xs (y * width + x) ≡ f x (a + y))
    → xs ≡ flat_map (λ y. map (λ x. f x y) (range_with_len 0 width)) (range_with_len a rows)
rows_are width f zero a xs size all = empty xs (size ∙ none width)
  where
    none : (w : ℕ) → zero * w ≡ 0
    none w = grind arith
rows_are width f (suc rows) a xs size all =
    let fits : width ≤ length xs = one_row width rows _ size in
    let first : take width xs ≡ map (λ x. f x a) (range_with_len 0 width) =
    tabulated width (λ x. f x a) (take width xs) (length-take-le width xs fits)
    (λ k h. get_or-take width xs k 0 h ∙ ap (slice_index xs) (sym (none_and width k)) ∙ all k 0 h (omega arith) ∙ ap (f k) (omega arith)) in
    let later : drop width xs ≡ flat_map (λ y. map (λ x. f x y) (range_with_len 0 width)) (range_with_len (a + 1) rows) =
    rows_are width f rows (a + 1) (drop width xs) (length-drop width xs ∙ rows_left width rows _ size)
    (λ x y h k. get_or-drop width xs (y * width + x) 0 ∙ ap (slice_index xs) (one_more width x y) ∙ all x (y + 1) h (omega arith) ∙ ap (f x) (omega arith)) in
    sym (take-append-drop width xs) ∙ both _ _ _ _ first later
