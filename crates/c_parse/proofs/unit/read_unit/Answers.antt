use Rattle.std.proofs.Common.{◌≡◌, ◌<◌, length, map, [], ◌∷◌, ◌++◌, arith}
use Rattle.std.proofs.lemmas.Result.{err_from_is_err_and}
use Rattle.std.proofs.lemmas.List.{map_push}
use Rattle.c_tree.specs.View.{item}
use Rattle.c_parse.specs.Tok.{toks}
use Rattle.c_parse.specs.inner.View.{context}
use Rattle.c_parse.proofs.Less.{item_less}
use Rattle.c_parse.proofs.Loops.{goes_end, goes_fail, goes_turn}
use Rattle.c_parse.proofs.UnitTurns.{items_end, items_fail, items_go, unit_fails, unit_is, toks_length, some_left}
use Rattle.c_parse.proofs.unit.read_unit.Goals as goal

pub returns-in_err-next : goal.returns-in_err-next
returns-in_err-next c =
    let raw : 0 < length c.items.rest.now = grind arith in
    let some : 0 < length (toks c.items.rest.now) = omega (arith, raw, toks_length c.items.rest.now) in
    let turned = items_fail c.args.room (context c.items.scope, map item c.items.found.items) (toks c.items.rest.now) c.in_err-next.field-0.0 some c.in_err-next.ensures.gives in
    let p = err_from_is_err_and c.from_residual.result c.from_residual.ensures.1 in
    rw (p.1, p.2) (unit_fails _ _ c.in_err-next.field-0.0 (goes_fail _ _ _ _ c.items.invariant c.in_err-next.field-0.0 turned))

pub items-smaller : goal.items-smaller
items-smaller c = omega (arith, item_less (context c.items.scope) c.args.room (toks c.items.rest.now) (item c.in_ok-next.next, toks c.in_ok-next.after.now) c.requires.some c.in_ok-next.ensures.gives)

pub items-preserved : goal.items-preserved
items-preserved c =
    let raw : 0 < length c.items.rest.now = some_left c.is_empty.result (length c.items.rest.now) c.is_empty.ensures c.items-test.true in
    let some : 0 < length (toks c.items.rest.now) = omega (arith, raw, toks_length c.items.rest.now) in
    let less = item_less (context c.items.scope) c.args.room (toks c.items.rest.now) (item c.in_ok-next.next, toks c.in_ok-next.after.now) c.requires.some c.in_ok-next.ensures.gives in
    let turned = items_go c.args.room (context c.items.scope, map item c.items.found.items) (toks c.items.rest.now) _ _ some c.in_ok-next.ensures.gives in
    let next = goes_turn _ _ _ _ c.items.invariant _ _ turned less in
    let pushed : map item c.push.new.self.items ≡ map item c.items.found.items ++ (item c.in_ok-next.next ∷ []) = rw c.in_ok-push.ensures.items (map_push item c.items.found.items c.in_ok-next.next) in
    rw (pushed, c.in_ok-next.ensures.declared) next

pub returns : goal.returns
returns c =
    let raw : length c.items.rest.now ≡ 0 = grind arith in
    let none : length (toks c.items.rest.now) ≡ 0 = omega (arith, raw, toks_length c.items.rest.now) in
    let total = goes_end _ _ _ _ c.items.invariant (items_end c.args.room (context c.items.scope, map item c.items.found.items) (toks c.items.rest.now) none) in
    rw c.from_vec.ensures (unit_is _ _ _ _ total)
