use Rattle.std.proofs.Common.{sym, ◌∙◌}
use Rattle.cart_format.proofs.Rows.{row_bad}
use Rattle.cart_format.proofs.table.are_rows.Goals as goal

pub returns-then-not-is_row : goal.returns-then-not-is_row
returns-then-not-is_row c =
    sym (row_bad c.args.files c.each.least c.args.end c.each.rest.now c.in-Some.row.now c.in-Some.after.now c.in-Some.ensures.cases.0 (sym c.if-not-is_row.ensures))
    ∙ c.each.invariant
