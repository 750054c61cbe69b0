use Rattle.std.proofs.Common.{◌≡◌}
use Rattle.std.specs.Prelude.{None}
use Rattle.kit_base.specs.Held.{lookup, IsFirstAt}
use Rattle.kit_base.proofs.Entries.{put_at, pushed}
use Rattle.kit_base.proofs.Distinct.{distinct_put, distinct_push}
use Rattle.kit_base.proofs.files_in_memory.put_file.Goals as goal

pub returns-in-Some-clause-ok : goal.returns-in-Some-clause-ok
returns-in-Some-clause-ok c =
    let first : IsFirstAt c.args.files.now.items c.in-Some.at c.args.name.now = rw c.deref.ensures.value at c.in-Some.ensures.some in
    rw (c.in_ok-own.ensures, c.from_vec.ensures) (put_at c.args.files.now.items c.in-Some.at c.args.name.now c.args.bytes.items first)

pub returns-in_ok-push-in-None-clause-ok : goal.returns-in_ok-push-in-None-clause-ok
returns-in_ok-push-in-None-clause-ok c =
    let none : lookup c.args.name.now c.args.files.now.items ≡ None = rw c.deref.ensures.value at c.in-None.ensures.none in
    rw (c.in_ok-push-in-None.ensures.items, c.in_ok-own.ensures, c.from_vec-in-None.ensures) (pushed c.args.name.now c.args.bytes.items c.args.files.now.items none)

pub returns-in-Some-clause-distinct : goal.returns-in-Some-clause-distinct
returns-in-Some-clause-distinct c distinct =
    let first : IsFirstAt c.args.files.now.items c.in-Some.at c.args.name.now = rw c.deref.ensures.value at c.in-Some.ensures.some in
    rw (c.in_ok-own.ensures, c.from_vec.ensures) (distinct_put c.args.files.now.items c.in-Some.at c.args.name.now c.args.bytes.items first distinct)

pub returns-in_ok-push-in-None-clause-distinct : goal.returns-in_ok-push-in-None-clause-distinct
returns-in_ok-push-in-None-clause-distinct c distinct =
    let none : lookup c.args.name.now c.args.files.now.items ≡ None = rw c.deref.ensures.value at c.in-None.ensures.none in
    rw (c.in_ok-push-in-None.ensures.items, c.in_ok-own.ensures, c.from_vec-in-None.ensures) (distinct_push c.args.name.now c.args.bytes.items c.args.files.now.items none distinct)
