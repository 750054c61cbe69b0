-- The pieces that are there only where a number is not 0, as the code tests it.
use Rattle.std.proofs.Common.{◌≡◌, ℕ, zero, suc, ◌==◌, true, false, [], ◌∷◌, ◌++◌, sym, ap, ◌∙◌, append-nil, arith}
use Rattle.std.proofs.lemmas.Bool.{eqb-true}
use Rattle.std.proofs.lemmas.Bool.Decides.{nat_tests}
use Rattle.mid_code.specs.declared.node.Op.TheVariants as o
use Rattle.mid_code.specs.Functions.{DoN, LoopN, listed}
use Rattle.lower_trees.specs.Pieces.{Piece, Listing, listing}
use Rattle.lower_trees.specs.Parts.{count, one, cell, to, item, copy_turn, zero_turn, copied, by_size, moved_by}
use Rattle.lower_trees.specs.Initialisers.{part_at, cell_filled, part_zeroed}

is_zero : (k : ℕ) → (k == 0) ≡ true → k ≡ zero
is_zero k e = grind (arith, nat_tests)

not_zero : (k : ℕ) → (suc k == 0) ≡ false
not_zero k = grind (arith, nat_tests)

pub copied_none : (l : Listing) (size : ℕ) → (size == 0) ≡ true → l ≡ l ++ listing (copied size)
copied_none l size e = sym (append-nil l) ∙ ap (λ k. l ++ listing (copied k)) (sym (is_zero size e))

pub copied_some : (l p : Listing) (size : ℕ) → (size == 0) ≡ false → p ≡ l ++ (DoN (o.Const count size) ∷ DoN (o.Const one 1) ∷ LoopN (listed (listing copy_turn)) ∷ [])
    → p ≡ l ++ listing (copied size)
copied_some l p zero e f = absurd cc
copied_some l p (suc left) e f = f

-- what is done by a size, as the code tests it
pub of_none : (r l : Listing) (size : ℕ) (a b c d : Piece) → (size == 0) ≡ true → r ≡ l ++ listing a → r ≡ l ++ listing (by_size size a b c d)
of_none r l size a b c d e f = f ∙ ap (λ k. l ++ listing (by_size k a b c d)) (sym (is_zero size e))

pub of_one : (r l : Listing) (size : ℕ) (a b c d : Piece) → (size == 1) ≡ true → r ≡ l ++ listing b → r ≡ l ++ listing (by_size size a b c d)
of_one r l size a b c d e f = f ∙ ap (λ k. l ++ listing (by_size k a b c d)) (sym (eqb-true size 1 e))

pub of_two : (r l : Listing) (size : ℕ) (a b c d : Piece) → (size == 2) ≡ true → r ≡ l ++ listing c → r ≡ l ++ listing (by_size size a b c d)
of_two r l size a b c d e f = f ∙ ap (λ k. l ++ listing (by_size k a b c d)) (sym (eqb-true size 2 e))

pub of_more : (r l : Listing) (size : ℕ) (a b c d : Piece) → (size == 0) ≡ false → (size == 1) ≡ false → (size == 2) ≡ false → r ≡ l ++ listing d
    → r ≡ l ++ listing (by_size size a b c d)
of_more r l zero a b c d e f g h = absurd cc
of_more r l (suc zero) a b c d e f g h = absurd cc
of_more r l (suc (suc zero)) a b c d e f g h = absurd cc
of_more r l (suc (suc (suc left))) a b c d e f g h = h

pub ruleset sized = (of_none, of_one, of_two, of_more)

pub at_none : (l q : Listing) (p offset : ℕ) → (offset == 0) ≡ true → q ≡ l ++ (DoN (o.Move to p) ∷ []) → q ≡ l ++ listing (part_at p offset)
at_none l q p offset e f = f ∙ ap (λ k. l ++ listing (part_at p k)) (sym (is_zero offset e))

pub at_some : (l q : Listing) (p offset : ℕ) → (offset == 0) ≡ false → q ≡ l ++ listing (moved_by to p offset) → q ≡ l ++ listing (part_at p offset)
at_some l q p zero e f = absurd cc
at_some l q p (suc left) e f = f

pub filled_none : (l q : Listing) (p offset : ℕ) → (offset == 0) ≡ true → q ≡ l ++ (DoN (o.Store p item) ∷ []) → q ≡ l ++ listing (cell_filled p offset)
filled_none l q p offset e f = f ∙ ap (λ k. l ++ listing (cell_filled p k)) (sym (is_zero offset e))

pub filled_some : (l q : Listing) (p offset : ℕ) → (offset == 0) ≡ false → q ≡ l ++ (listing (moved_by to p offset) ++ (DoN (o.Store to item) ∷ []))
    → q ≡ l ++ listing (cell_filled p offset)
filled_some l q p zero e f = absurd cc
filled_some l q p (suc left) e f = f

pub part_none : (l : Listing) (p offset size : ℕ) → (size == 0) ≡ true → l ≡ l ++ listing (part_zeroed p offset size)
part_none l p offset size e = sym (append-nil l) ∙ ap (λ k. l ++ listing (part_zeroed p offset k)) (sym (is_zero size e))

pub part_some : (l q : Listing) (p offset size : ℕ) → (size == 0) ≡ false → q ≡ l ++ (listing (part_at p offset) ++ (DoN (o.Const count size) ∷ DoN (o.Const one 1) ∷ DoN (o.Const cell 0) ∷ LoopN (listed (listing zero_turn)) ∷ []))
    → q ≡ l ++ listing (part_zeroed p offset size)
part_some l q p offset zero e f = absurd cc
part_some l q p offset (suc left) e f = f
