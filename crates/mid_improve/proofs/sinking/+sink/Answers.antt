use Rattle.std.proofs.Common.{rules, arith, ◌+◌, ◌≡◌, ◌≤◌, length, drop, get_or, refl, ap}
use Rattle.mid_improve.specs.inner.SinkListed.{held_of}
use Rattle.mid_improve.proofs.SinkPlaced.{Sunk, sunk_none, sunk_turn, sunk_len, sunk_rest}
use Rattle.mid_improve.proofs.sinking.+sink.Goals as goal

pub sink_nodes-loop-i-init : goal.sink_nodes-loop-i-init
sink_nodes-loop-i-init t c = record { sunk = sunk_none c.args.w c.args.ns.now; len = search rules; unvisited = search rules }

pub sink_nodes-loop-i-preserved : goal.sink_nodes-loop-i-preserved
sink_nodes-loop-i-preserved t c =
    let all = c.args.ns.now in
    let i = c.loop-i.i in
    let x = get_or c.loop-i.ns i c.index-ns-i.result in
    let read : x ≡ get_or c.loop-i.ns i x = ap (λ y. get_or c.loop-i.ns i y) c.index-ns-i.is in
    let sunk : Sunk c.args.w (held_of c.pass-held.result) (i + 1) c.pass-held.new.ns (drop (i + 1) all) all =
    sunk_turn c.args.w (held_of c.loop-i.held) (held_of c.pass-held.result) i c.loop-i.ns all _ c.pass-held.new.ns x c.sink_inside.new.n
    c.loop-i.invariant.sunk c.loop-i-test.true read refl c.sink_inside.ensures.node c.sink_inside.ensures.op c.pass-held.ensures.nodes c.pass-held.ensures.held in
    let more : i + 1 ≤ length all = omega (arith, c.loop-i-test.true) in
    record { sunk = sunk; len = sunk_len c.args.w _ (i + 1) c.pass-held.new.ns all sunk more; unvisited = sunk_rest c.args.w _ (i + 1) c.pass-held.new.ns all sunk }
