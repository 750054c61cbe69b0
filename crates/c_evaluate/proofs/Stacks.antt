-- The frames of a vector, the last one first.
use Rattle.std.proofs.Common.{◌≡◌, List, [], ◌∷◌, ◌++◌, map, reverse, refl, ap, ◌∙◌}
use Rattle.std.proofs.lemmas.List.{map-append, reverse-append}
use Rattle.c_evaluate.specs.declared.frame.Frame.{Frame}
use Rattle.c_evaluate.specs.inner.FocusView.{frame, stack_of}

pub pushed : (xs : List Frame) (f : Frame) → stack_of (xs ++ f ∷ []) ≡ frame f ∷ stack_of xs
unfolding stack_of
pushed xs f = ap reverse (map-append frame xs (f ∷ [])) ∙ reverse-append (map frame xs) (frame f ∷ [])

pub none_left : stack_of [] ≡ []
unfolding stack_of
none_left = refl
