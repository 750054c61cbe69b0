-- A loop over rows.
use Rattle.std.proofs.Common.{◌≡◌, ℕ, ◌+◌, true, false, List, ◌∷◌, length, refl, ap}
use Rattle.std.proofs.lemmas.List.{nil_from_length}
use Rattle.cart_format.specs.declared.row.LineRow.{LineRow}
use Rattle.cart_format.specs.Table.{is_row, are_rows}

pub row_more : (files least end : ℕ) (rest : List LineRow) (r : LineRow) (after : List LineRow) → rest ≡ r ∷ after → is_row files least end r ≡ true → are_rows files (r.address + 1) end after ≡ are_rows files least end rest
unfolding are_rows
row_more files least end rest r after whole is = rw (whole, is) refl

pub row_bad : (files least end : ℕ) (rest : List LineRow) (r : LineRow) (after : List LineRow) → rest ≡ r ∷ after → is_row files least end r ≡ false → are_rows files least end rest ≡ false
unfolding are_rows
row_bad files least end rest r after whole is = rw (whole, is) refl

pub no_row : (files least end : ℕ) (rest : List LineRow) → length rest ≡ 0 → are_rows files least end rest ≡ true
unfolding are_rows
no_row files least end rest none = ap (are_rows files least end) (nil_from_length rest none)
