use Rattle.std.proofs.Common.{rules, ◌≤◌, length}
use Rattle.reg_frames.specs.inner.Moved.{stands}
use Rattle.reg_frames.proofs.Movedly.{all_moved}
use Rattle.reg_frames.proofs.code.+place.Goals as goal

pub place_nodes-returns : goal.place_nodes-returns
place_nodes-returns t c =
    let le : length c.args.ns.now ≤ c.loop-n.n-index = search rules in
    all_moved (stands c.args.p.now) c.args.ns.now c.loop-n.placed.items c.loop-n.n-index le c.loop-n.invariant
