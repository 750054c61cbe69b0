use Rattle.std.proofs.Common.{rules, ◌≡◌, ◌+◌, Some, map, refl, sym, ap, arith}
use Rattle.mid_code.specs.declared.node.Node.{the_lemmas}
use Rattle.mid_code.specs.Functions.{node, nodes, listed, LoopN}
use Rattle.asm_laws.specs.Copies.{copy_at}
use Rattle.asm_laws.specs.Asks.{ask_of}
use Rattle.asm_emit.proofs.InMemory.{loop_labels, asked_labels}
use Rattle.asm_emit.proofs.nodes.+items.Goals as goal

pub put_own-overflow_add-result : goal.put_own-overflow_add-result
put_own-overflow_add-result t c =
    let is : node c.args.x.now ≡ LoopN (listed (map node c.as_slice.result.now)) = search (rules, the_lemmas) in
    let at : ask_of (nodes c.as_slice.result.now) ≡ Some c.in-Some.f = search rules in
    let e = asked_labels (node c.args.x.now) (listed (map node c.as_slice.result.now)) c.in-Some.f is at in
    let f = c.requires.fits in
    omega (arith, e, f)

pub put_own-returns-in_ok-put_asked-in-Some-clause-next : goal.put_own-returns-in_ok-put_asked-in-Some-clause-next
put_own-returns-in_ok-put_asked-in-Some-clause-next t c =
    let is : node c.args.x.now ≡ LoopN (listed (map node c.as_slice.result.now)) = search (rules, the_lemmas) in
    let at : ask_of (nodes c.as_slice.result.now) ≡ Some c.in-Some.f = search rules in
    ap (λ k. c.args.n + k) (sym (asked_labels (node c.args.x.now) (listed (map node c.as_slice.result.now)) c.in-Some.f is at))

pub put_turning-overflow_add-result : goal.put_turning-overflow_add-result
put_turning-overflow_add-result t c =
    let at : copy_at c.args.done (nodes c.args.b.now) ≡ Some c.in-Some.y = search rules in
    let e = loop_labels c.args.done (LoopN (listed (map node c.args.b.now))) (listed (map node c.args.b.now)) c.in-Some.y refl at in
    let f = c.requires.fits in
    omega (arith, e, f)

pub put_turning-returns-in_ok-put_copy-in-Some-clause-next : goal.put_turning-returns-in_ok-put_copy-in-Some-clause-next
put_turning-returns-in_ok-put_copy-in-Some-clause-next t c =
    let at : copy_at c.args.done (nodes c.args.b.now) ≡ Some c.in-Some.y = search rules in
    ap (λ k. c.args.n + k) (sym (loop_labels c.args.done (LoopN (listed (map node c.args.b.now))) (listed (map node c.args.b.now)) c.in-Some.y refl at))
