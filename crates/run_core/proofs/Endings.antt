-- The line of an end, piece by piece.
use Rattle.std.proofs.Common.{ℕ, ◌≡◌, ◌≤◌, ◌<◌, ◌^◌, Bool, true, false, List, [], ◌++◌, length, refl, sym, ap, subst, ◌∙◌, append-nil, arith}
use Rattle.std.specs.Prelude.{Option, Some, None, Result, if◌then◌else◌}
use Rattle.std.specs.Fmt.{decimal}
use Rattle.std.proofs.lemmas.Fmt.{length-decimal-le}
use Rattle.kit_base.specs.declared.outside.SinkErr.{SinkErr}
use Rattle.trace_core.specs.Putting.{putting, PutsText}
use Rattle.trace_core.proofs.Puts.{put_last}
use Rattle.cart_format.specs.declared.row.LineRow.{LineRow}
use Rattle.run_core.specs.Ending.{Lines, is_in_program, last_row, row_text, found_text, place_text}

pub few_digits : (n : ℕ) → n < 2 ^ 32 → length (decimal n) ≤ 10
few_digits n small = length-decimal-le 10 n (omega arith) (omega arith) (omega arith)

-- a piece that was put, and then the rest
pub put_rest : {T : Type 0} (piece rest : List ℕ) (r : Result T SinkErr) (before now after : Option (List ℕ)) → now ≡ putting piece before → PutsText rest r now after
    → PutsText (piece ++ rest) r before after
put_rest piece rest r before now after e h = put_last (piece ++ rest) rest r before now after (record { front = piece; is = refl; put = e }) h

-- no text is put
pub nothing : (w : Option (List ℕ)) → w ≡ putting [] w
nothing None = refl
nothing (Some bytes) = ap Some (sym (append-nil bytes))

-- the place of an address by cases
pub not_in_program : (lines : Lines) (address : ℕ) (w : Option (List ℕ)) → is_in_program lines.words address ≡ false → w ≡ putting (place_text lines address) w
unfolding place_text
not_in_program lines address w h = nothing w ∙ ap (λ (b : Bool). putting (if b then found_text lines.files (last_row address lines.rows) else []) w) (sym h)

place_found : (lines : Lines) (address : ℕ) (found : Option LineRow) → is_in_program lines.words address ≡ true → found ≡ last_row address lines.rows
    → found_text lines.files found ≡ place_text lines address
unfolding place_text
place_found lines address found h e =
    ap (found_text lines.files) e ∙ ap (λ (b : Bool). if b then found_text lines.files (last_row address lines.rows) else []) (sym h)

pub no_place : (lines : Lines) (address : ℕ) (w : Option (List ℕ)) → is_in_program lines.words address ≡ true → None ≡ last_row address lines.rows
    → w ≡ putting (place_text lines address) w
no_place lines address w h e = nothing w ∙ ap (λ (text : List ℕ). putting text w) (place_found lines address None h e)

pub some_place : {T : Type 0} (lines : Lines) (address : ℕ) (row : LineRow) (r : Result T SinkErr) (before now : Option (List ℕ)) → is_in_program lines.words address ≡ true
    → Some row ≡ last_row address lines.rows → PutsText (row_text lines.files row) r before now → PutsText (place_text lines address) r before now
some_place lines address row r before now h e p =
    subst (λ (text : List ℕ). PutsText text r before now) (place_found lines address (Some row) h e) p
