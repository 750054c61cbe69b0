-- Printable names are text.
use Rattle.std.proofs.Common.{ℕ, zero, suc, ◌≡◌, ◌<◌, Bool, true, false, List, [], ◌∷◌, refl, arith}
use Rattle.std.specs.Prelude.{IsUtf8, slice_index, ◌&&◌}
use Rattle.std.specs.List.{list_all}
use Rattle.std.proofs.lemmas.Str.{IsUtf8-from_ascii}
use Rattle.project_text.specs.Grammar.{is_printable, IsText}

pub both : (x y : Bool) → (x && y) ≡ true → (x ≡ true) × (y ≡ true)
both true y h = (refl, h)
both false y h = cc

small : (b : ℕ) → is_printable b ≡ true → b < 128
small b h = grind arith

ascii_at : (bs : List ℕ) (i : ℕ) → list_all is_printable bs ≡ true → slice_index bs i < 128
ascii_at [] i h = omega arith
ascii_at (b ∷ bs) zero h = small b (both _ _ h).0
ascii_at (b ∷ bs) (suc i) h = ascii_at bs i (both _ _ h).1

pub is_text : (most : ℕ) (bs : List ℕ) → IsText most bs → IsUtf8 bs
is_text most bs h = IsUtf8-from_ascii bs (λ i. ascii_at bs i h.printable)
