use Rattle.std.proofs.Common.{rules, ◌≡◌, true, false}
use Rattle.std.specs.Prelude.{Some, None}
use Rattle.run_core.specs.Ending.{is_in_program, last_row}
use Rattle.run_core.proofs.Endings.{not_in_program, no_place, some_place}
use Rattle.run_core.proofs.ending.put_place.Goals as goal

pub returns-then-not-is_in_program-clause-puts : goal.returns-then-not-is_in_program-clause-puts
returns-then-not-is_in_program-clause-puts g c =
    let out : is_in_program c.args.words c.args.address ≡ false = search rules in
    not_in_program (record { words = c.args.words; files = c.args.files.now; rows = c.args.rows.now }) c.args.address _ out

pub returns-in-Some-clause-puts : goal.returns-in-Some-clause-puts
returns-in-Some-clause-puts g c =
    let inside : is_in_program c.args.words c.args.address ≡ true = search rules in
    let found : Some c.in-Some.row.now ≡ last_row c.args.address c.args.rows.now = search rules in
    some_place (record { words = c.args.words; files = c.args.files.now; rows = c.args.rows.now }) c.args.address c.in-Some.row.now c.put_row.result _ _ inside found c.put_row.ensures.puts

pub returns-in-None-clause-puts : goal.returns-in-None-clause-puts
returns-in-None-clause-puts g c =
    let inside : is_in_program c.args.words c.args.address ≡ true = search rules in
    let none : None ≡ last_row c.args.address c.args.rows.now = search rules in
    no_place (record { words = c.args.words; files = c.args.files.now; rows = c.args.rows.now }) c.args.address _ inside none
