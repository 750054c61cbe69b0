-- The test for UTF-8.
use Rattle.std.proofs.Common.{◌≡◌, ℕ, Bool, true, false, List, refl, sym}
use Rattle.std.specs.Prelude.{◌↔◌, IsTrue, IsUtf8}
use Rattle.std.specs.Str.{is_utf8}
use Rattle.std.proofs.lemmas.Bool.{false_from_ne_true}
use Rattle.std.proofs.lemmas.Str.{IsUtf8-from_is_utf8, is_utf8-from_IsUtf8}

pub is_text : (b : Bool) (bs : List ℕ) → (IsTrue b ↔ IsUtf8 bs) → b ≡ is_utf8 bs
is_text true bs h = sym (is_utf8-from_IsUtf8 bs (h.0 refl))
is_text false bs h = sym (false_from_ne_true (is_utf8 bs) (λ e. let t : false ≡ true = h.1 (IsUtf8-from_is_utf8 bs e) in absurd cc))
