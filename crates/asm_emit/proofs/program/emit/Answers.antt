use Rattle.std.proofs.Common.{rules, ◌≡◌, ◌-◌, ◌^◌, ◌<◌, map, length, sym, subst, IfOk}
use Rattle.mid_code.specs.View.{code, spots}
use Rattle.mid_code.specs.Whole.{placed}
use Rattle.mid_code.specs.Invariants.{IsPlaced}
use Rattle.asm_laws.specs.inner.Emitted.{program_items, labels_of}
use Rattle.asm_emit.specs.inner.Words.{AreWords, TextsAreWords}
use Rattle.asm_emit.specs.EmittedFrom.{IsEmitted}
use Rattle.asm_emit.specs.inner.Spared.{held_all}
use Rattle.asm_emit.specs.inner.Lasting.{lasting_all}
use Rattle.asm_emit.specs.inner.View.{whole_of_parts, wrapped_addresses}
use Rattle.asm_emit.proofs.Emitting.{few_labels, few_function_numbers, few_literal_numbers, promised, if_ok}
use Rattle.asm_emit.proofs.program.emit.Goals as goal

pub items_of-requires-clause-fits : goal.items_of-requires-clause-fits
items_of-requires-clause-fits c =
    let x = placed c.args.x.now in
    let sound : IsPlaced x = search rules in
    let same : code c.code-code.result.now ≡ x.code = search rules in
    subst (λ y. labels_of y < 2 ^ 32 - 1) (sym same) (few_labels x c.args.names.now sound c.requires.can_be_emitted)

pub items_of-requires-clause-few : goal.items_of-requires-clause-few
items_of-requires-clause-few c =
    let x = placed c.args.x.now in
    let sound : IsPlaced x = search rules in
    let same : code c.code-code.result.now ≡ x.code = search rules in
    subst (λ y. length y.functions < 2 ^ 32 - 1) (sym same) (few_function_numbers x c.args.names.now sound c.requires.can_be_emitted)

pub items_of-requires-clause-texts : goal.items_of-requires-clause-texts
items_of-requires-clause-texts c =
    let x = placed c.args.x.now in
    let sound : IsPlaced x = search rules in
    let same : code c.code-code.result.now ≡ x.code = search rules in
    subst (λ y. length y.literals < 2 ^ 32 - 1) (sym same) (few_literal_numbers x c.args.names.now sound c.requires.can_be_emitted)

pub returns : goal.returns
returns c =
    let x = placed c.args.x.now in
    let sound : IsPlaced x = search rules in
    let same : code c.code-code.result.now ≡ x.code = search rules in
    let stand : map spots c.spots.result.now ≡ x.spots = search rules in
    let sizes : c.as_slice-sizes.result.now ≡ x.frames = search rules in
    let small : AreWords x.frames = search rules in
    let texts : TextsAreWords x.code.literals = search rules in
    let made = program_items (whole_of_parts (code c.code-code.result.now).functions (map spots c.spots.result.now) c.as_slice-sizes.result.now (held_all (code c.code-code.result.now).functions) (lasting_all (code c.code-code.result.now).functions) c.args.names.now (wrapped_addresses 0 (code c.code-code.result.now).globals)) (code c.code-code.result.now) in
    let due = program_items (whole_of_parts x.code.functions x.spots x.frames (held_all x.code.functions) (lasting_all x.code.functions) c.args.names.now (wrapped_addresses 0 x.code.globals)) x.code in
    let is : made ≡ due = λ i. program_items (whole_of_parts (same i).functions (stand i) (sizes i) (held_all (same i).functions) (lasting_all (same i).functions) c.args.names.now (wrapped_addresses 0 (same i).globals)) (same i) in
    record { emitted = if_ok (λ v. v.items) (IsEmitted x c.args.names.now) due (promised x c.args.names.now sound c.requires.can_be_emitted small texts) c.items_of.result (subst (λ y. IfOk c.items_of.result (λ v. v.items ≡ y)) is c.items_of.ensures) }
