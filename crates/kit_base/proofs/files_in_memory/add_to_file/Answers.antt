use Rattle.std.proofs.Common.{◌≡◌, ◌++◌, get_or, [], arith}
use Rattle.std.specs.Prelude.{None}
use Rattle.std.proofs.lemmas.Grind.{common_steps}
use Rattle.std.proofs.lemmas.List.{get_or_default}
use Rattle.kit_base.specs.Held.{lookup, IsFirstAt}
use Rattle.kit_base.proofs.Distinct.{distinct_put, lengthened, not_contained}
use Rattle.kit_base.proofs.files_in_memory.add_to_file.Goals as goal

pub returns-in_ok-lengthen-in-Some-clause-ok : goal.returns-in_ok-lengthen-in-Some-clause-ok
returns-in_ok-lengthen-in-Some-clause-ok c held =
    let first : IsFirstAt c.args.files.now.items c.in-Some.at c.args.name.now = rw c.deref.ensures.value at c.in-Some.ensures.some in
    let file : c.lengthen.new.file ≡ (c.args.name.now, (get_or c.args.files.now.items c.in-Some.at ([], [])).1 ++ c.args.piece.now) =
    grind (arith, common_steps, get_or_default, first.named) in
    rw file (lengthened c.args.files.now.items c.in-Some.at c.args.name.now c.args.piece.now first)

pub returns-in_ok-lengthen-in-Some-clause-distinct : goal.returns-in_ok-lengthen-in-Some-clause-distinct
returns-in_ok-lengthen-in-Some-clause-distinct c distinct =
    let first : IsFirstAt c.args.files.now.items c.in-Some.at c.args.name.now = rw c.deref.ensures.value at c.in-Some.ensures.some in
    let file : c.lengthen.new.file ≡ (c.args.name.now, (get_or c.args.files.now.items c.in-Some.at ([], [])).1 ++ c.args.piece.now) =
    grind (arith, common_steps, get_or_default, first.named) in
    rw file (distinct_put c.args.files.now.items c.in-Some.at c.args.name.now ((get_or c.args.files.now.items c.in-Some.at ([], [])).1 ++ c.args.piece.now) first distinct)

pub returns-in-None-clause-ok : goal.returns-in-None-clause-ok
returns-in-None-clause-ok c held =
    let none : lookup c.args.name.now c.args.files.now.items ≡ None = rw c.deref.ensures.value at c.in-None.ensures.none in
    absurd (not_contained c.args.files.now.items c.args.name.now none held)
