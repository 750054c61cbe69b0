-- The line table: what is read is spelled so, and what is spelled so is read.
use Rattle.std.proofs.Common.{◌≡◌, ℕ, zero, suc, ◌+◌, ◌^◌, ◌<◌, ◌≤◌, true, false, cond, not, ltb, eqb, ◌||◌, List, [], ◌∷◌, ◌++◌, length, take, drop, replicate, refl, sym, ap, subst, ◌∙◌, append_assoc, arith}
use Rattle.std.specs.Prelude.{Option, Some, None, Ok, Err, IfSome, codes, bytes_eq}
use Rattle.std.specs.List.{flat_map, list_all, AllByRecursion}
use Rattle.std.proofs.lemmas.Bool.{ltb-false, le-ltb, eqb-true, not-false, or_parts, or_from, and_parts, cond-false, leb-true}
use Rattle.std.proofs.lemmas.List.{take_at, drop_at, take-append-drop, drop-drop, length-append, length-take, length-drop, length-replicate}
use Rattle.std.proofs.lemmas.List.Concat.{flat_map-cons}
use Rattle.std.proofs.lemmas.Nat.{from_le_bytes-to_le_bytes_4}
use Rattle.std.proofs.lemmas.Slice.Eq.{bytes_eq-Decides}
use Rattle.asset_pack.specs.Words.{IsBytes, word_text, word_at}
use Rattle.asset_pack.proofs.Bytes.{word_back, word_below}
use Rattle.cart_format.specs.declared.row.LineRow.{LineRow}
use Rattle.cart_format.specs.declared.row.LineTable.{LineTable}
use Rattle.cart_format.specs.declared.error.CartFault.TheVariants.{BadSection}
use Rattle.cart_format.specs.Table.{padding, name_text, row_text, table_text, is_table}
use Rattle.cart_format.specs.Cartridge.{IsRow, HasRows, revision, tail_text, is_tail}
use Rattle.cart_format.specs.Tests.{is_zero}
use Rattle.cart_format.specs.Reading.{◌>>=◌, number_at, name_at, row_at, many, begins, few, checked, table_at, tail_at}
use Rattle.cart_format.proofs.Sizes.{table_size}
use Rattle.cart_format.proofs.Steps.{fine, bind_ok, guard_ok, ended_ok, ok_is, rest_fits, joined, many_takes, many_again}

pub zeros_are : (bytes : List ℕ) → list_all is_zero bytes ≡ true → bytes ≡ replicate (length bytes) 0
zeros_are [] h = refl
zeros_are (b ∷ bs) h =
    let p = and_parts (eqb b 0) (list_all is_zero bs) h in
    ap (λ (x : ℕ). x ∷ bs) (eqb-true b 0 p.0) ∙ ap (λ (x : List ℕ). 0 ∷ x) (zeros_are bs p.1)

pub are_zeros : (n : ℕ) → list_all is_zero (replicate n 0) ≡ true
are_zeros zero = refl
are_zeros (suc n) = are_zeros n

pub number_takes : (index : ℕ) (bytes : List ℕ) (x : ℕ × List ℕ) → IsBytes bytes → number_at index bytes ≡ Ok x → (x.0 < 2 ^ 32) × (bytes ≡ word_text x.0 ++ x.1)
unfolding number_at
number_takes index bytes x fits e =
    let g = guard_ok (ltb (length bytes) 4) (BadSection index) (word_at 0 bytes, drop 4 bytes) x e in
    let spelled : bytes ≡ word_text (word_at 0 bytes) ++ drop 4 bytes = sym (ap (λ (y : List ℕ). y ++ drop 4 bytes) (word_back 0 bytes fits (ltb-false _ _ g.0)) ∙ take-append-drop 4 bytes) in
    subst (λ (y : ℕ × List ℕ). (y.0 < 2 ^ 32) × (bytes ≡ word_text y.0 ++ y.1)) g.1 (word_below 0 bytes fits, spelled)

pub number_again : (index n : ℕ) (rest : List ℕ) → n < 2 ^ 32 → number_at index (word_text n ++ rest) ≡ Ok (n, rest)
unfolding number_at
number_again index n rest lt =
    let w : word_at 0 (word_text n ++ rest) ≡ n = from_le_bytes-to_le_bytes_4 n lt in
    let long : ltb (length (word_text n ++ rest)) 4 ≡ false = le-ltb _ _ (omega arith) in
    let one : number_at index (word_text n ++ rest) ≡ Ok (word_at 0 (word_text n ++ rest), rest) = cond-false (ltb (length (word_text n ++ rest)) 4) (Err (BadSection index)) (fine (word_at 0 (word_text n ++ rest), rest)) long in
    one ∙ ap (λ (k : ℕ). fine (k, rest)) w

-- ---- names

abbrev pub IsShort : List ℕ → Type 0
IsShort name = length name < 2 ^ 32

name_parts : (n p : ℕ) (bytes : List ℕ) → bytes ≡ (take n bytes ++ take p (drop n bytes)) ++ drop (n + p) bytes
name_parts n p bytes =
    sym (append_assoc (take n bytes) (take p (drop n bytes)) (drop (n + p) bytes)
    ∙ ap (λ (x : List ℕ). take n bytes ++ (take p (drop n bytes) ++ x)) (sym (drop-drop p n bytes))
    ∙ ap (λ (x : List ℕ). take n bytes ++ x) (take-append-drop p (drop n bytes)) ∙ take-append-drop n bytes)

pub name_takes : (index : ℕ) (bytes : List ℕ) (x : List ℕ × List ℕ) → IsBytes bytes → name_at index bytes ≡ Ok x → IsShort x.0 × (bytes ≡ name_text x.0 ++ x.1)
unfolding name_at name_text
name_takes index bytes x fits e =
    let a = bind_ok (number_at index bytes) (λ n. cond (ltb (length n.1) (n.0 + padding n.0) || not (list_all is_zero (take (padding n.0) (drop n.0 n.1)))) (Err (BadSection index)) (Ok (take n.0 n.1, drop (n.0 + padding n.0) n.1))) x e in
    let n = a.0.0 in
    let rest = a.0.1 in
    let g = guard_ok (ltb (length rest) (n + padding n) || not (list_all is_zero (take (padding n) (drop n rest)))) (BadSection index) (take n rest, drop (n + padding n) rest) x a.2 in
    let tests = or_parts (ltb (length rest) (n + padding n)) (not (list_all is_zero (take (padding n) (drop n rest)))) g.0 in
    let long : n + padding n ≤ length rest = ltb-false _ _ tests.0 in
    let first = number_takes index bytes a.0 fits a.1 in
    let len : length (take n rest) ≡ n = omega (arith, length-take n rest) in
    let pad_len : length (take (padding n) (drop n rest)) ≡ padding n = omega (arith, length-take (padding n) (drop n rest), length-drop n rest) in
    let zeros : take (padding n) (drop n rest) ≡ replicate (padding n) 0 = zeros_are (take (padding n) (drop n rest)) (not-false _ tests.1) ∙ ap (λ (k : ℕ). replicate k 0) pad_len in
    let second : rest ≡ (take n rest ++ replicate (padding n) 0) ++ drop (n + padding n) rest = name_parts n (padding n) rest ∙ ap (λ (y : List ℕ). (take n rest ++ y) ++ drop (n + padding n) rest) zeros in
    let both : bytes ≡ (word_text n ++ (take n rest ++ replicate (padding n) 0)) ++ drop (n + padding n) rest = joined bytes (word_text n) rest (drop (n + padding n) rest) first.1 (take n rest ++ replicate (padding n) 0) second in
    let sized : bytes ≡ (word_text (length (take n rest)) ++ (take n rest ++ replicate (padding (length (take n rest))) 0)) ++ drop (n + padding n) rest =
    subst (λ (k : ℕ). bytes ≡ (word_text k ++ (take n rest ++ replicate (padding k) 0)) ++ drop (n + padding n) rest) (sym len) both in
    let below = first.0 in
    subst (λ (y : List ℕ × List ℕ). IsShort y.0 × (bytes ≡ name_text y.0 ++ y.1)) g.1 (omega arith, sized)

pub name_again : (index : ℕ) (name rest : List ℕ) → IsShort name → name_at index (name_text name ++ rest) ≡ Ok (name, rest)
unfolding name_at name_text
name_again index name rest short =
    let n = length name in
    let zeros : List ℕ = replicate (padding n) 0 in
    let after : List ℕ = name ++ (zeros ++ rest) in
    let zero_len : length zeros ≡ padding n = length-replicate {A = ℕ} (padding n) 0 in
    let regrouped : name_text name ++ rest ≡ word_text n ++ after = append_assoc (word_text n ++ name) zeros rest ∙ append_assoc (word_text n) name (zeros ++ rest) in
    let back : drop n after ≡ zeros ++ rest = drop_at name (zeros ++ rest) n refl in
    let pad : take (padding n) (drop n after) ≡ zeros = ap (take (padding n)) back ∙ take_at zeros rest (padding n) zero_len in
    let all : list_all is_zero (take (padding n) (drop n after)) ≡ true = ap (list_all is_zero) pad ∙ are_zeros (padding n) in
    let long : ltb (length after) (n + padding n) ≡ false = le-ltb _ _ (omega (arith, length-append name (zeros ++ rest), length-append zeros rest)) in
    let past : drop (n + padding n) after ≡ rest = sym (drop-drop (padding n) n after) ∙ ap (drop (padding n)) back ∙ drop_at zeros rest (padding n) zero_len in
    ap (name_at index) regrouped ∙ rw (number_again index n after short, long, all, take_at name (zeros ++ rest) n refl, past) refl

-- ---- rows

abbrev pub IsShortRow : LineRow → Type 0
IsShortRow r = IsRow r × IsShort r.name

pub row_takes : (index : ℕ) (bytes : List ℕ) (x : LineRow × List ℕ) → IsBytes bytes → row_at index bytes ≡ Ok x → IsShortRow x.0 × (bytes ≡ row_text x.0 ++ x.1)
unfolding row_at row_text
row_takes index bytes x fits e =
    let a = bind_ok (number_at index bytes) (λ address. number_at index address.1 >>= λ file. number_at index file.1 >>= λ line. name_at index line.1 >>= λ name. Ok (record { address = address.0; file = file.0; line = line.0; name = name.0 }, name.1)) x e in
    let b = bind_ok (number_at index a.0.1) (λ file. number_at index file.1 >>= λ line. name_at index line.1 >>= λ name. Ok (record { address = a.0.0; file = file.0; line = line.0; name = name.0 }, name.1)) x a.2 in
    let c = bind_ok (number_at index b.0.1) (λ line. name_at index line.1 >>= λ name. Ok (record { address = a.0.0; file = b.0.0; line = line.0; name = name.0 }, name.1)) x b.2 in
    let d = bind_ok (name_at index c.0.1) (λ name. Ok (record { address = a.0.0; file = b.0.0; line = c.0.0; name = name.0 }, name.1)) x c.2 in
    let t0 = number_takes index bytes a.0 fits a.1 in
    let f1 = rest_fits bytes (word_text a.0.0) a.0.1 fits t0.1 in
    let t1 = number_takes index a.0.1 b.0 f1 b.1 in
    let f2 = rest_fits a.0.1 (word_text b.0.0) b.0.1 f1 t1.1 in
    let t2 = number_takes index b.0.1 c.0 f2 c.1 in
    let t3 = name_takes index c.0.1 d.0 (rest_fits b.0.1 (word_text c.0.0) c.0.1 f2 t2.1) d.1 in
    let one = joined bytes (word_text a.0.0) a.0.1 b.0.1 t0.1 (word_text b.0.0) t1.1 in
    let two = joined bytes (word_text a.0.0 ++ word_text b.0.0) b.0.1 c.0.1 one (word_text c.0.0) t2.1 in
    let three = joined bytes (word_text a.0.0 ++ word_text b.0.0 ++ word_text c.0.0) c.0.1 d.0.1 two (name_text d.0.0) t3.1 in
    let made : LineRow × List ℕ = (record { address = a.0.0; file = b.0.0; line = c.0.0; name = d.0.0 }, d.0.1) in
    subst (λ (y : LineRow × List ℕ). IsShortRow y.0 × (bytes ≡ row_text y.0 ++ y.1)) (ok_is made x d.2) ((record { address = t0.0; file = t1.0; line = t2.0 }, t3.0), three)

pub row_again : (index : ℕ) (r : LineRow) (rest : List ℕ) → IsShortRow r → row_at index (row_text r ++ rest) ≡ Ok (r, rest)
unfolding row_at row_text
row_again index r rest is =
    let name : List ℕ = name_text r.name ++ rest in
    let regrouped : row_text r ++ rest ≡ word_text r.address ++ (word_text r.file ++ (word_text r.line ++ name)) =
    append_assoc (word_text r.address ++ word_text r.file ++ word_text r.line) (name_text r.name) rest in
    ap (row_at index) regrouped
    ∙ rw (number_again index r.address (word_text r.file ++ (word_text r.line ++ name)) is.0.address, number_again index r.file (word_text r.line ++ name) is.0.file, number_again index r.line name is.0.line, name_again index r.name rest is.1) refl

-- ---- the whole table

begins_takes : (index : ℕ) (bytes rest : List ℕ) → begins index bytes ≡ Ok rest → bytes ≡ codes "KIT-LINE" ++ rest
begins_takes index bytes rest e =
    let g = guard_ok (ltb (length bytes) 8 || not (bytes_eq (take 8 bytes) (codes "KIT-LINE"))) (BadSection index) (drop 8 bytes) rest e in
    let tests = or_parts (ltb (length bytes) 8) (not (bytes_eq (take 8 bytes) (codes "KIT-LINE"))) g.0 in
    let same : take 8 bytes ≡ codes "KIT-LINE" = (bytes_eq-Decides (take 8 bytes) (codes "KIT-LINE")).0 (not-false _ tests.1) in
    sym (take-append-drop 8 bytes) ∙ ap (λ (x : List ℕ). x ++ drop 8 bytes) same ∙ ap (λ (x : List ℕ). codes "KIT-LINE" ++ x) g.1

begins_again : (index : ℕ) (rest : List ℕ) → begins index (codes "KIT-LINE" ++ rest) ≡ Ok rest
begins_again index rest =
    cond-false (ltb (length (codes "KIT-LINE" ++ rest)) 8 || not (bytes_eq (codes "KIT-LINE") (codes "KIT-LINE"))) (Err (BadSection index)) (fine rest)
    (or_from (ltb (length (codes "KIT-LINE" ++ rest)) 8) (not (bytes_eq (codes "KIT-LINE") (codes "KIT-LINE"))) (le-ltb _ _ (omega arith)) refl)

rows_of_short : (rows : List LineRow) → AllByRecursion IsShortRow rows → AllByRecursion IsRow rows
rows_of_short [] all = tt
rows_of_short (r ∷ rs) all = (all.0.0, rows_of_short rs all.1)

pub table_takes : (index words : ℕ) (bytes : List ℕ) (x : LineTable × List ℕ) → IsBytes bytes → table_at index words bytes ≡ Ok x → (is_table words x.0 ≡ true) × HasRows x.0 × (bytes ≡ table_text x.0 ++ x.1)
unfolding table_at table_text
table_takes index words bytes x fits e =
    let a = bind_ok (begins index bytes) (λ front. number_at index front >>= λ files. number_at index files.1 >>= λ rows. few index files.0 rows.0 rows.1 >>= λ rest. many name_at 0 index files.0 rest >>= λ fs. many row_at 0 index rows.0 fs.1 >>= λ rs. checked index words (record { files = fs.0; rows = rs.0 }) rs.1) x e in
    let b = bind_ok (number_at index a.0) (λ files. number_at index files.1 >>= λ rows. few index files.0 rows.0 rows.1 >>= λ rest. many name_at 0 index files.0 rest >>= λ fs. many row_at 0 index rows.0 fs.1 >>= λ rs. checked index words (record { files = fs.0; rows = rs.0 }) rs.1) x a.2 in
    let c = bind_ok (number_at index b.0.1) (λ rows. few index b.0.0 rows.0 rows.1 >>= λ rest. many name_at 0 index b.0.0 rest >>= λ fs. many row_at 0 index rows.0 fs.1 >>= λ rs. checked index words (record { files = fs.0; rows = rs.0 }) rs.1) x b.2 in
    let d = bind_ok (few index b.0.0 c.0.0 c.0.1) (λ rest. many name_at 0 index b.0.0 rest >>= λ fs. many row_at 0 index c.0.0 fs.1 >>= λ rs. checked index words (record { files = fs.0; rows = rs.0 }) rs.1) x c.2 in
    let f = bind_ok (many name_at 0 index b.0.0 d.0) (λ fs. many row_at 0 index c.0.0 fs.1 >>= λ rs. checked index words (record { files = fs.0; rows = rs.0 }) rs.1) x d.2 in
    let h = bind_ok (many row_at 0 index c.0.0 f.0.1) (λ rs. checked index words (record { files = f.0.0; rows = rs.0 }) rs.1) x f.2 in
    let t : LineTable = record { files = f.0.0; rows = h.0.0 } in
    let made : LineTable × List ℕ = (t, h.0.1) in
    let g = ended_ok (is_table words t) (BadSection index) made x h.2 in
    let same : c.0.1 ≡ d.0 = (guard_ok (ltb 40000 b.0.0 || ltb 40000 c.0.0) (BadSection index) c.0.1 d.0 d.1).1 in
    let t0 = begins_takes index bytes a.0 a.1 in
    let f1 = rest_fits bytes (codes "KIT-LINE") a.0 fits t0 in
    let t1 = number_takes index a.0 b.0 f1 b.1 in
    let f2 = rest_fits a.0 (word_text b.0.0) b.0.1 f1 t1.1 in
    let t2 = number_takes index b.0.1 c.0 f2 c.1 in
    let f3 = subst (λ (y : List ℕ). IsBytes y) same (rest_fits b.0.1 (word_text c.0.0) c.0.1 f2 t2.1) in
    let t3 = many_takes name_at name_text IsShort name_takes 0 index b.0.0 d.0 f.0 f3 f.1 in
    let f4 = rest_fits d.0 (flat_map name_text f.0.0) f.0.1 f3 t3.2 in
    let t4 = many_takes row_at row_text IsShortRow row_takes 0 index c.0.0 f.0.1 h.0 f4 h.1 in
    let one = joined bytes (codes "KIT-LINE") a.0 b.0.1 t0 (word_text b.0.0) t1.1 in
    let two = joined bytes (codes "KIT-LINE" ++ word_text b.0.0) b.0.1 d.0 one (word_text c.0.0) (t2.1 ∙ ap (λ (y : List ℕ). word_text c.0.0 ++ y) same) in
    let three = joined bytes (codes "KIT-LINE" ++ word_text b.0.0 ++ word_text c.0.0) d.0 f.0.1 two (flat_map name_text f.0.0) t3.2 in
    let four = joined bytes (codes "KIT-LINE" ++ word_text b.0.0 ++ word_text c.0.0 ++ flat_map name_text f.0.0) f.0.1 h.0.1 three (flat_map row_text h.0.0) t4.2 in
    let files_counted = subst (λ (k : ℕ). bytes ≡ (codes "KIT-LINE" ++ word_text k ++ word_text c.0.0 ++ flat_map name_text f.0.0 ++ flat_map row_text h.0.0) ++ h.0.1) (sym t3.1) four in
    let counted = subst (λ (k : ℕ). bytes ≡ (codes "KIT-LINE" ++ word_text (length f.0.0) ++ word_text k ++ flat_map name_text f.0.0 ++ flat_map row_text h.0.0) ++ h.0.1) (sym t4.1) files_counted in
    subst (λ (y : LineTable × List ℕ). (is_table words y.0 ≡ true) × HasRows y.0 × (bytes ≡ table_text y.0 ++ y.1)) g.1 (g.0, rows_of_short h.0.0 t4.0, counted)

pub table_again : (index words : ℕ) (t : LineTable) (rest : List ℕ) → is_table words t ≡ true → AllByRecursion IsShort t.files → AllByRecursion IsShortRow t.rows → table_at index words (table_text t ++ rest) ≡ Ok (t, rest)
unfolding table_at table_text is_table
table_again index words t rest is short rows =
    let sizes = and_parts _ _ is in
    let row_sizes = and_parts _ _ sizes.1 in
    let n : length t.files ≤ 40000 = leb-true _ _ sizes.0 in
    let m : length t.rows ≤ 40000 = leb-true _ _ row_sizes.0 in
    let names : List ℕ = flat_map name_text t.files in
    let lines : List ℕ = flat_map row_text t.rows in
    let behind : List ℕ = names ++ (lines ++ rest) in
    let regrouped : table_text t ++ rest ≡ codes "KIT-LINE" ++ (word_text (length t.files) ++ (word_text (length t.rows) ++ behind)) =
    append_assoc (codes "KIT-LINE" ++ word_text (length t.files) ++ word_text (length t.rows) ++ names) lines rest ∙ append_assoc (codes "KIT-LINE" ++ word_text (length t.files) ++ word_text (length t.rows)) names (lines ++ rest) in
    let enough : (ltb 40000 (length t.files) || ltb 40000 (length t.rows)) ≡ false = or_from _ _ (le-ltb _ _ n) (le-ltb _ _ m) in
    ap (table_at index words) regrouped
    ∙ rw (
      begins_again index (word_text (length t.files) ++ (word_text (length t.rows) ++ behind)),
      number_again index (length t.files) (word_text (length t.rows) ++ behind) (omega arith),
      number_again index (length t.rows) behind (omega arith),
      enough,
      many_again name_at name_text IsShort name_again 0 index t.files (lines ++ rest) short,
      many_again row_at row_text IsShortRow row_again 0 index t.rows rest rows,
      is,
    ) refl

-- ---- the table of a revision

pub tail_takes : (revision index words : ℕ) (bytes : List ℕ) (x : Option LineTable × List ℕ) → IsBytes bytes → tail_at revision index words bytes ≡ Ok x
    → (is_tail words x.0 ≡ true) × IfSome x.0 HasRows × (bytes ≡ tail_text x.0 ++ x.1)
unfolding tail_at
tail_takes r index words bytes x fits e = elim (eqb r 1) as (λ b. cond b (fine {A = Option LineTable × List ℕ} (None, bytes)) (table_at index words bytes >>= λ y. Ok (Some y.0, y.1)) ≡ Ok x → (is_tail words x.0 ≡ true) × IfSome x.0 HasRows × (bytes ≡ tail_text x.0 ++ x.1)) [
  | true ↦ λ h. subst (λ (y : Option LineTable × List ℕ). (is_tail words y.0 ≡ true) × IfSome y.0 HasRows × (bytes ≡ tail_text y.0 ++ y.1)) (ok_is {A = Option LineTable × List ℕ} (None, bytes) x h) (refl, tt, refl)
  | false ↦ λ h.
      let a = bind_ok (table_at index words bytes) (λ y. Ok (Some y.0, y.1)) x h in
      let t = table_takes index words bytes a.0 fits a.1 in
      let made : Option LineTable × List ℕ = (Some a.0.0, a.0.1) in
      subst (λ (y : Option LineTable × List ℕ). (is_tail words y.0 ≡ true) × IfSome y.0 HasRows × (bytes ≡ tail_text y.0 ++ y.1)) (ok_is made x a.2) t
] e

-- names in a short text are short
short_names : (names : List (List ℕ)) → length (flat_map name_text names) < 2 ^ 32 → AllByRecursion IsShort names
unfolding name_text
short_names [] lt = tt
short_names (n ∷ ns) lt =
    let all : length (flat_map name_text (n ∷ ns)) ≡ length (name_text n) + length (flat_map name_text ns) = ap length (flat_map-cons name_text n ns) ∙ length-append (name_text n) (flat_map name_text ns) in
    (omega (arith, length-append n (replicate (padding (length n)) 0)), short_names ns (omega arith))

short_rows : (rows : List LineRow) → AllByRecursion IsRow rows → length (flat_map row_text rows) < 2 ^ 32 → AllByRecursion IsShortRow rows
unfolding row_text name_text
short_rows [] is lt = tt
short_rows (r ∷ rs) is lt =
    let all : length (flat_map row_text (r ∷ rs)) ≡ length (row_text r) + length (flat_map row_text rs) = ap length (flat_map-cons row_text r rs) ∙ length-append (row_text r) (flat_map row_text rs) in
    ((is.0, omega (arith, length-append r.name (replicate (padding (length r.name)) 0))), short_rows rs is.1 (omega arith))

pub tail_again : (index words : ℕ) (o : Option LineTable) (rest : List ℕ) → is_tail words o ≡ true → IfSome o HasRows → length (tail_text o) < 2 ^ 32
    → tail_at (revision o) index words (tail_text o ++ rest) ≡ Ok (o, rest)
unfolding tail_at
tail_again index words None rest is rows lt = refl
tail_again index words (Some t) rest is rows lt =
    let size = table_size t in
    rw (table_again index words t rest is (short_names t.files (omega arith)) (short_rows t.rows rows (omega arith))) refl
