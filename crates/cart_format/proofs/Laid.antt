-- Pieces, one after another.
use Rattle.std.proofs.Common.{◌≡◌, ℕ, ◌+◌, ◌<◌, ◌≤◌, ◌^◌, List, [], ◌∷◌, ◌++◌, length, get_or, take, replicate, sym, ap, ◌∙◌, append_assoc, append-nil, arith}
use Rattle.std.specs.List.{flat_map, AllByRecursion}
use Rattle.std.proofs.lemmas.List.{take_more, take-replicate, length-append}
use Rattle.std.proofs.lemmas.List.Concat.{flat_map-cons}
use Rattle.std.proofs.lemmas.List.Folds.{length-flat_map-take}
use Rattle.std.proofs.lemmas.Grind.{flat_map-append}
use Rattle.cart_format.specs.declared.row.LineRow.{LineRow}
use Rattle.cart_format.specs.Table.{padding, name_text, row_text}

pub zeros_front : (n : ℕ) → n ≤ 64 → take {A = ℕ} n (replicate {A = ℕ} 64 0) ≡ replicate {A = ℕ} n 0
zeros_front n le = take-replicate {X = ℕ} n 64 0 le

pub more : (old so_far now piece next : List ℕ) → now ≡ old ++ so_far → next ≡ now ++ piece → next ≡ old ++ (so_far ++ piece)
more old so_far now piece next p q = q ∙ ap (λ (x : List ℕ). x ++ piece) p ∙ append_assoc old so_far piece

pub laid2 : (old a b one two : List ℕ) → one ≡ old ++ a → two ≡ one ++ b → two ≡ old ++ (a ++ b)
laid2 old a b one two p q = more old a one b two p q

pub laid3 : (old a b c one two three : List ℕ) → one ≡ old ++ a → two ≡ one ++ b → three ≡ two ++ c → three ≡ old ++ (a ++ b ++ c)
laid3 old a b c one two three p q r = more old (a ++ b) two c three (more old a one b two p q) r

pub laid4 : (old a b c d one two three four : List ℕ) → one ≡ old ++ a → two ≡ one ++ b → three ≡ two ++ c → four ≡ three ++ d → four ≡ old ++ (a ++ b ++ c ++ d)
laid4 old a b c d one two three four p q r s = more old (a ++ b ++ c) three d four (laid3 old a b c one two three p q r) s

pub laid5 : (old a b c d e one two three four five : List ℕ) → one ≡ old ++ a → two ≡ one ++ b → three ≡ two ++ c → four ≡ three ++ d → five ≡ four ++ e → five ≡ old ++ (a ++ b ++ c ++ d ++ e)
laid5 old a b c d e one two three four five p q r s t = more old (a ++ b ++ c ++ d) four e five (laid4 old a b c d one two three four p q r s) t

-- one more of a list
pub each_more : {X : Type 0} (f : X → List ℕ) (xs : List X) (i : ℕ) (x : X) (old now next : List ℕ) → i < length xs → x ≡ get_or xs i x → now ≡ old ++ flat_map f (take i xs) → next ≡ now ++ f x → next ≡ old ++ flat_map f (take (i + 1) xs)
each_more f xs i x old now next lt is p q =
    let one : flat_map f (get_or xs i x ∷ []) ≡ f x = flat_map-cons f (get_or xs i x) [] ∙ append-nil (f (get_or xs i x)) ∙ ap f (sym is) in
    let all : flat_map f (take (i + 1) xs) ≡ flat_map f (take i xs) ++ f x =
    ap (flat_map f) (take_more xs i x lt) ∙ flat_map-append f (take i xs) (get_or xs i x ∷ []) ∙ ap (λ (y : List ℕ). flat_map f (take i xs) ++ y) one in
    more old (flat_map f (take i xs)) now (f x) next p q ∙ ap (λ (y : List ℕ). old ++ y) (sym all)

push_all : {X : Type 0} (P : X → Type 0) (xs : List X) (x : X) → AllByRecursion P xs → P x → AllByRecursion P (xs ++ x ∷ [])
push_all P [] x all is = (is, tt)
push_all P (y ∷ ys) x all is = (all.0, push_all P ys x all.1 is)

pub all_more : {X : Type 0} (P : X → Type 0) (xs : List X) (i : ℕ) (x : X) → i < length xs → x ≡ get_or xs i x → AllByRecursion P (take i xs) → P x → AllByRecursion P (take (i + 1) xs)
all_more P xs i x lt is all here =
    rw (take_more xs i x lt, ← is) (push_all P (take i xs) x all here)

pub name_short : (names : List (List ℕ)) (i : ℕ) (d : List ℕ) → i < length names → length (flat_map name_text names) < 2 ^ 32 → length (get_or names i d) < 2 ^ 32
unfolding name_text
name_short names i d lt small =
    let one = length-flat_map-take name_text names i d lt in
    let n = get_or names i d in
    omega (arith, one, length-append n (replicate (padding (length n)) 0))

pub row_short : (rows : List LineRow) (i : ℕ) (d : LineRow) → i < length rows → length (flat_map row_text rows) < 2 ^ 32 → length (get_or rows i d).name < 2 ^ 32
unfolding row_text name_text
row_short rows i d lt small =
    let one = length-flat_map-take row_text rows i d lt in
    let n = (get_or rows i d).name in
    omega (arith, one, length-append n (replicate (padding (length n)) 0))
