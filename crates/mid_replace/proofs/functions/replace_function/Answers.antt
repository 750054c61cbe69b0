use Rattle.std.proofs.Common.{rules, ◌≡◌, [], Some, map, refl}
use Rattle.mid_code.specs.Functions.{function, node, nodes, joined, listed}
use Rattle.mid_replace.specs.inner.Replaced.{replaced}
use Rattle.mid_replace.specs.inner.Tables.{plan_in, IsTableOf}
use Rattle.mid_replace.proofs.Made.{made_by}
use Rattle.mid_replace.proofs.Planning.{room_in}
use Rattle.mid_replace.proofs.functions.replace_function.Goals as goal

pub replace_nodes-requires : goal.replace_nodes-requires
replace_nodes-requires c =
    let is : IsTableOf (function c.args.f.now) c.in-Some.table = search rules in
    record { room = room_in (function c.args.f.now) c.in-Some.table is }

pub returns : goal.returns
returns c =
    let f = c.args.f.now in
    let t = c.in-Some.table in
    let is : IsTableOf (function f) t = search rules in
    let done : Some (map node c.in-Some-2.body.items) ≡ replaced (plan_in t) [] (listed (map node f.body)) = search rules in
    let made : nodes c.from_vec.result ≡ joined (listed (map node c.in-Some-2.body.items)) = search rules in
    made_by (function f) t (listed (map node f.body)) (map node c.in-Some-2.body.items) (nodes c.from_vec.result) is refl done made
