-- Keys of lines.
use Rattle.std.proofs.Common.{◌≡◌, ℕ, ◌<◌, ◌≤◌, Bool, true, false, List, length, take, sym, ap, ◌∙◌, arith}
use Rattle.std.specs.Prelude.{bytes_eq}
use Rattle.std.proofs.lemmas.Bool.{false_from_ne_true}
use Rattle.std.proofs.lemmas.List.{length-take}
use Rattle.std.proofs.lemmas.Slice.Eq.{bytes_eq-Decides}

pub short_key : (key line : List ℕ) → length line < length key → bytes_eq (take (length key) line) key ≡ false
short_key key line short = false_from_ne_true (bytes_eq (take (length key) line) key) (λ e.
    let same = (bytes_eq-Decides (take (length key) line) key).0 e in
    omega (arith, ap length same, length-take (length key) line))
