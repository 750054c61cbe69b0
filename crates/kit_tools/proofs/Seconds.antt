-- When a cartridge has a file in its second revision.
use Rattle.std.proofs.Common.{ℕ, ◌≡◌, ◌≢◌, ◌∙◌, ◌<◌, ◌≤◌, Bool, true, false, List, [], leb, refl, sym, ap, arith}
use Rattle.std.proofs.lemmas.Bool.{and_from, le-leb}
use Rattle.std.specs.Prelude.{Option, Some, None, Ok, Err, length, nat_lt}
use Rattle.kit_base.specs.declared.failure.Failure.TheVariants as failures
use Rattle.asset_pack.specs.Texts.{Image}
use Rattle.cart_format.specs.declared.row.LineRow.{LineRow}
use Rattle.cart_format.specs.declared.row.LineTable.{LineTable}
use Rattle.cart_format.specs.Cartridge.{Cartridge, is_title, is_tail, is_cart, revision, total}
use Rattle.cart_format.specs.Table.{is_table, are_rows}
use Rattle.cart_format.proofs.Carts.{limits}
use Rattle.kit_tools.specs.declared.refusal.DueRefusal.TheVariants as dues
use Rattle.kit_tools.specs.declared.refusal.RefusalCause.TheVariants as refusals
use Rattle.kit_tools.specs.Migration.{table_or_empty, in_second, second_due}

short : (n : ℕ) → n ≤ 268435456 → nat_lt 268435456 n ≡ false
short n h = grind arith

is_more : (n : ℕ) → 268435456 < n → nat_lt 268435456 n ≡ true
is_more n h = grind arith

no_both : {b : Bool} → b ≡ true → b ≡ false → ⊥
no_both h k = absurd cc

fits : (c : Cartridge) → is_cart (in_second c) ≡ true → second_due c ≡ Ok (in_second c)
fits c h = rw (short (total (in_second c)) (limits (in_second c) h).size) refl

kept : (c : Cartridge) (table : Option LineTable) → c.table ≡ table → revision table ≡ 2 → in_second c ≡ c
kept c None e h = absurd (omega (arith, h))
kept c (Some table) e h = rw e refl

-- one of the second revision is as it was
pub second_kept : (c : Cartridge) → is_cart c ≡ true → revision c.table ≡ 2 → second_due c ≡ Ok c
second_kept c h is = let same : in_second c ≡ c = kept c c.table refl is in
    fits c (ap is_cart same ∙ h) ∙ ap Ok same

tail_second : (words : ℕ) (table : Option LineTable) → is_tail words table ≡ true → is_tail words (Some (table_or_empty table)) ≡ true
unfolding is_table are_rows
tail_second words None h = refl
tail_second words (Some table) h = h

second_fits : (c : Cartridge) → is_cart c ≡ true → total (in_second c) ≤ 268435456 → is_cart (in_second c) ≡ true
unfolding is_cart
second_fits c h small =
    let l = limits c h in
    and_from (is_title c.title) _ l.title (and_from (leb 1 (length c.program)) _ (le-leb _ _ l.some) (and_from (leb (length c.program) 33554432) _ (le-leb _ _ l.words)
    (and_from (leb (length c.textures) 256) _ (le-leb _ _ l.textures) (and_from (leb (length c.sounds) 1024) _ (le-leb _ _ l.sounds)
    (and_from (is_tail (length c.program) (Some (table_or_empty c.table))) _ (tail_second (length c.program) c.table l.table) (le-leb _ _ small))))))

-- one of the first revision has a file with an empty table, or would be too long
pub second_made : (c second : Cartridge) → second ≡ in_second c → is_cart second ≡ true → second_due c ≡ Ok second
second_made c second same h = fits c (ap is_cart (sym same) ∙ h) ∙ ap Ok (sym same)

no_more : (n : ℕ) → nat_lt 268435456 n ≡ false → n ≤ 268435456
no_more n h = grind arith

over_by : (c : Cartridge) (is : Bool) → nat_lt 268435456 (total (in_second c)) ≡ is → is_cart c ≡ true → is_cart (in_second c) ≡ false → 268435456 < total (in_second c)
over_by c true e h broken = grind arith
over_by c false e h broken = absurd (no_both (second_fits c h (no_more _ e)) broken)

pub second_over : (c : Cartridge) → is_cart c ≡ true → is_cart (in_second c) ≡ false → 268435456 < total (in_second c)
second_over c h broken = over_by c (nat_lt 268435456 (total (in_second c))) refl h broken

pub second_long : (c : Cartridge) → 268435456 < total (in_second c) → second_due c ≡ Err (failures.Cause (refusals.Due dues.LongCartridge))
second_long c over = rw (is_more (total (in_second c)) over) refl

empty_table : (table : Option LineTable) (n : ℕ) → n ≡ revision table → n ≢ 2 → table_or_empty table ≡ record { files = []; rows = [] }
empty_table None n e other = refl
empty_table (Some table) n e other = absurd (other e)

-- the parts of one of the first revision, with no files and no rows
pub same_second : (c : Cartridge) (n : ℕ) (title program : List ℕ) (textures : List Image) (sounds : List (List ℕ)) (files : List (List ℕ)) (rows : List LineRow)
    → n ≡ revision c.table → n ≢ 2 → title ≡ c.title → program ≡ c.program → textures ≡ c.textures → sounds ≡ c.sounds → files ≡ [] → rows ≡ []
    → record { title = title; program = program; textures = textures; sounds = sounds; table = Some (record { files = files; rows = rows }) } ≡ in_second c
same_second c n title program textures sounds files rows r other a b d e f g = rw (a, b, d, e, f, g, empty_table c.table n r other) refl

-- a cartridge's program
pub has_program : (c : Cartridge) (program : List ℕ) → program ≡ c.program → is_cart c ≡ true → (0 < length program) × (length program ≤ 33554432)
has_program c program same h = let l = limits c h in rw same (l.some, l.words)
