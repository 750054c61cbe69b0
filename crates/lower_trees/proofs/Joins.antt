-- What is added piece by piece.
use Rattle.std.proofs.Common.{◌≡◌, ℕ, ◌+◌, List, ◌++◌, length, length-append, append_assoc, Result, Ok, Err, OnOk, ap, ◌∙◌}
use Rattle.lower_trees.specs.Pieces.{Listing}

pub length_both : (a b : List ℕ) → length (a ++ b) ≡ length a + length b
length_both a b = length-append a b

-- three pieces, one after the other
pub three_added : {A E : Type 0} (result : Result A E) (l m n r a b c : Listing) → m ≡ l ++ a → n ≡ m ++ b → OnOk result (r ≡ n ++ c) → OnOk result (r ≡ l ++ (a ++ (b ++ c)))
three_added (Ok x) l m n r a b c first second last =
    last ∙ ap (λ k. k ++ c) (second ∙ ap (λ k. k ++ b) first ∙ append_assoc l a b) ∙ append_assoc l (a ++ b) c ∙ ap (λ k. l ++ k) (append_assoc a b c)
three_added (Err e) l m n r a b c first second last = tt
