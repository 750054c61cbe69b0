use Rattle.std.proofs.Common.{rules, ◌≡◌, ◌∷◌, length, subst}
use Rattle.std.specs.Prelude.{List}
use Rattle.std.specs.Option.{option_map}
use Rattle.cart_format.specs.declared.row.LineRow.{LineRow}
use Rattle.run_core.specs.Ending.{or_before, last_row}
use Rattle.run_core.proofs.Rows.{row_found, row_passed, row_last}
use Rattle.run_core.proofs.ending.last_row.Goals as goal

pub rows-preserved-then-row-address : goal.rows-preserved-then-row-address
rows-preserved-then-row-address c =
    let split : c.rows.rest.now ≡ c.in-Some.row.now ∷ c.in-Some.after.now = search rules in
    row_found c.args.address c.in-Some.row.now c.in-Some.after.now _ _ c.if-row-address.true
    (subst (λ (rs : List LineRow). or_before (last_row c.args.address rs) (option_map (λ row. row.now) c.rows.found) ≡ last_row c.args.address c.args.rows.now) split c.rows.invariant)

pub rows-preserved : goal.rows-preserved
rows-preserved c =
    let split : c.rows.rest.now ≡ c.in-Some.row.now ∷ c.in-Some.after.now = search rules in
    row_passed c.args.address c.in-Some.row.now c.in-Some.after.now _ _ c.if-row-address.false
    (subst (λ (rs : List LineRow). or_before (last_row c.args.address rs) (option_map (λ row. row.now) c.rows.found) ≡ last_row c.args.address c.args.rows.now) split c.rows.invariant)

pub returns : goal.returns
returns c =
    let none : length c.rows.rest.now ≡ 0 = search rules in
    row_last c.args.address c.rows.rest.now _ _ none c.rows.invariant
