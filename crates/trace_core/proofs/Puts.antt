-- A text that is put piece by piece.
use Rattle.std.proofs.Common.{ℕ, ◌≡◌, zero, suc, ◌+◌, List, [], ◌∷◌, ◌++◌, length, take, refl, sym, ap, ◌∙◌, append_assoc, append-nil}
use Rattle.std.proofs.Math.Seq.{take-append-add}
use Rattle.std.specs.Prelude.{Option, Some, None, Result, Ok, Err}
use Rattle.kit_base.specs.declared.outside.SinkErr.{SinkErr}
use Rattle.trace_core.specs.Putting.{putting, HasPut, HasPutFront, PutsText}

putting_both : (a b : List ℕ) (w : Option (List ℕ)) → putting b (putting a w) ≡ putting (a ++ b) w
putting_both a b None = refl
putting_both a b (Some bytes) = ap Some (append_assoc bytes a b)

putting_nothing : (w : Option (List ℕ)) → w ≡ putting [] w
putting_nothing None = refl
putting_nothing (Some bytes) = ap Some (sym (append-nil bytes))

pub nothing_put : (whole : List ℕ) (w : Option (List ℕ)) → HasPut whole whole w w
nothing_put whole w = record { front = []; is = refl; put = putting_nothing w }

-- a piece more
pub put_more : (whole piece rest : List ℕ) (before now after : Option (List ℕ)) → HasPut whole (piece ++ rest) before now → after ≡ putting piece now → HasPut whole rest before after
put_more whole piece rest before now after h p =
    record { front = h.front ++ piece; is = h.is ∙ sym (append_assoc h.front piece rest); put = p ∙ ap (putting piece) h.put ∙ putting_both h.front piece before }

pub put_onto : (whole part rest : List ℕ) (before now after : Option (List ℕ)) → HasPut whole part before now → HasPut part rest now after → HasPut whole rest before after
put_onto whole part rest before now after h k =
    record { front = h.front ++ k.front; is = h.is ∙ ap (λ x. h.front ++ x) k.is ∙ sym (append_assoc h.front k.front rest); put = k.put ∙ ap (putting k.front) h.put ∙ putting_both h.front k.front before }

-- a front of the rest
pub front_more : (whole rest : List ℕ) (before now after : Option (List ℕ)) → HasPut whole rest before now → HasPutFront rest now after → HasPutFront whole before after
front_more whole rest before now after h (n, p) =
    (length h.front + n, p ∙ ap (putting (take n rest)) h.put ∙ putting_both h.front (take n rest) before ∙ ap (λ x. putting x before) (sym (take-append-add h.front rest n) ∙ ap (take (length h.front + n)) (sym h.is)))

take_within : (xs ys : List ℕ) (n : ℕ) → (k : ℕ) × (take n xs ≡ take k (xs ++ ys))
take_within [] ys zero = (0, refl)
take_within [] ys (suc n) = (0, refl)
take_within (x ∷ xs) ys zero = (0, refl)
take_within (x ∷ xs) ys (suc n) = let t = take_within xs ys n in (suc t.0, ap (λ zs. x ∷ zs) t.1)

-- a front of a piece
pub front_of_piece : (piece rest : List ℕ) (now after : Option (List ℕ)) → HasPutFront piece now after → HasPutFront (piece ++ rest) now after
front_of_piece piece rest now after (n, p) = let t = take_within piece rest n in (t.0, p ∙ ap (λ x. putting x now) t.1)

-- the last piece
pub put_last : {T : Type 0} (whole rest : List ℕ) (r : Result T SinkErr) (before now after : Option (List ℕ)) → HasPut whole rest before now → PutsText rest r now after → PutsText whole r before after
put_last whole rest (Ok x) before now after h p = p ∙ ap (putting rest) h.put ∙ putting_both h.front rest before ∙ ap (λ x. putting x before) (sym h.is)
put_last whole rest (Err e) before now after h p = front_more whole rest before now after h p
