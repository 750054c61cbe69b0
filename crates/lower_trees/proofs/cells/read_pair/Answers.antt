use Rattle.std.proofs.Common.{rules, ◌≡◌, ◌++◌, map}
use Rattle.mid_code.specs.declared.node.Op.TheVariants as o
use Rattle.mid_code.specs.Functions.{node}
use Rattle.lower_trees.specs.Pieces.{Listing, ◌▸◌, DoP, LoopP, listing}
use Rattle.lower_trees.specs.Parts.{count, one, cell, from, to, ask_turn}
use Rattle.lower_trees.proofs.Joins.{three_added}
use Rattle.lower_trees.proofs.cells.read_pair.Goals as goal

pub returns : goal.returns
returns c =
    let t = c.args.t in
    let first : Listing = listing (DoP (o.Load cell t) ▸ DoP (o.Const count 1) ▸ DoP (o.Step from t count) ▸ DoP (o.Local t c.args.local) ▸ DoP (o.Store t cell)) in
    let last : Listing = listing (DoP (o.Load cell from) ▸ DoP (o.Const one 1) ▸ DoP (o.Step to t one) ▸ DoP (o.Store to cell)) in
    let read : map node c.read_first.new.nodes.items ≡ map node c.args.nodes.now.items ++ first = search rules in
    let turn : map node c.ask_if_left.new.nodes.items ≡ map node c.read_first.new.nodes.items ++ listing (LoopP ask_turn) = search rules in
    three_added c.copy_second.result (map node c.args.nodes.now.items) (map node c.read_first.new.nodes.items) (map node c.ask_if_left.new.nodes.items) (map node c.copy_second.new.nodes.items) first (listing (LoopP ask_turn)) last read turn c.copy_second.ensures
