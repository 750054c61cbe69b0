-- The last row of a table, row by row.
use Rattle.std.proofs.Common.{ℕ, ◌≡◌, ◌≤◌, ◌<◌, Bool, true, false, List, [], ◌∷◌, length, refl, sym, ap, ◌∙◌, arith}
use Rattle.std.specs.Prelude.{Option, Some, None, nat_le, if◌then◌else◌}
use Rattle.std.proofs.lemmas.List.{nil_from_length}
use Rattle.cart_format.specs.declared.row.LineRow.{LineRow}
use Rattle.run_core.specs.Ending.{or_before, last_row}

row_suc : (address : ℕ) (row : LineRow) (rows : List LineRow) → last_row address (row ∷ rows) ≡ or_before (last_row address rows) (if nat_le row.address address then Some row else None)
unfolding last_row
row_suc address row rows = refl

no_row : (address : ℕ) → last_row address [] ≡ None
unfolding last_row
no_row address = refl

or_both : (later row before : Option LineRow) → or_before (or_before later row) before ≡ or_before later (or_before row before)
or_both (Some later) row before = refl
or_both None row before = refl

or_none : (later : Option LineRow) → or_before later None ≡ later
or_none (Some later) = refl
or_none None = refl

is_at : (a b : ℕ) → a ≤ b → nat_le a b ≡ true
is_at a b h = grind arith

is_not_at : (a b : ℕ) → b < a → nat_le a b ≡ false
is_not_at a b h = grind arith

-- nothing was found before the first row
pub row_first : (address : ℕ) (rows : List LineRow) → or_before (last_row address rows) None ≡ last_row address rows
row_first address rows = or_none (last_row address rows)

pub row_found : (address : ℕ) (row : LineRow) (rows : List LineRow) (found whole : Option LineRow) → row.address ≤ address → or_before (last_row address (row ∷ rows)) found ≡ whole
    → or_before (last_row address rows) (Some row) ≡ whole
row_found address row rows found whole h e =
    ap (λ (b : Bool). or_before (last_row address rows) (or_before (if b then Some row else None) found)) (sym (is_at row.address address h))
    ∙ sym (ap (λ o. or_before o found) (row_suc address row rows) ∙ or_both (last_row address rows) (if nat_le row.address address then Some row else None) found) ∙ e

pub row_passed : (address : ℕ) (row : LineRow) (rows : List LineRow) (found whole : Option LineRow) → address < row.address → or_before (last_row address (row ∷ rows)) found ≡ whole
    → or_before (last_row address rows) found ≡ whole
row_passed address row rows found whole h e =
    ap (λ (b : Bool). or_before (last_row address rows) (or_before (if b then Some row else None) found)) (sym (is_not_at row.address address h))
    ∙ sym (ap (λ o. or_before o found) (row_suc address row rows) ∙ or_both (last_row address rows) (if nat_le row.address address then Some row else None) found) ∙ e

pub row_last : (address : ℕ) (rows : List LineRow) (found whole : Option LineRow) → length rows ≡ 0 → or_before (last_row address rows) found ≡ whole → found ≡ whole
row_last address rows found whole none e =
    ap (λ o. or_before o found) (sym (ap (last_row address) (nil_from_length rows none) ∙ no_row address)) ∙ e
