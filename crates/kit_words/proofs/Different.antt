-- Names that are spelled differently, as texts and as they are passed.
use Rattle.std.proofs.Common.{◌≡◌, ◌&&◌, List, [], ◌∷◌, length, true, not, refl, ap, arith}
use Rattle.std.specs.List.{list_all}
use Rattle.std.specs.Borrow.{Bor}
use Rattle.std.specs.Str.{bytes_eq}
use Rattle.std.proofs.lemmas.List.Folds.{list_all-map}
use Rattle.clap.specs.Walk.{Text}
use Rattle.kit_words.specs.Forms.{are_different}
use Rattle.kit_words.specs.inner.CommandLine.{texts_of}

pub none_left : (names : List (Bor Text)) → length names ≡ 0 → are_different (texts_of names) ≡ true
unfolding are_different
none_left [] empty = refl
none_left (name ∷ names) empty = absurd (omega (arith, empty))

pub one_more : (name : Bor Text) (names : List (Bor Text))
    → are_different (texts_of (name ∷ names)) ≡ list_all (λ (other : Bor Text). not (bytes_eq name.now other.now)) names && are_different (texts_of names)
unfolding are_different
one_more name names = ap (λ b. b && are_different (texts_of names)) (list_all-map (λ other. not (bytes_eq name.now other)) (λ (x : Bor Text). x.now) names)
