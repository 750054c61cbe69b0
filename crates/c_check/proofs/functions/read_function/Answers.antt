use Rattle.std.proofs.Common.{arith, rules, ◌≡◌, List, length, map, ap, ◌∙◌}
use Rattle.c_tree.specs.Count.{vars_nodes}
use Rattle.c_tree.specs.Tree.{VarT}
use Rattle.c_tree.specs.View.{var}
use Rattle.c_types.specs.View.{ctype}
use Rattle.c_stmts.specs.State.{St}
use Rattle.c_stmts.specs.View.{st}
use Rattle.c_check.specs.View.{un}
use Rattle.c_check.proofs.Counted.{objects, parameters_count, named_makes}
use Rattle.c_check.proofs.functions.read_function.Goals as goal

pub maybe_body-requires : goal.maybe_body-requires
maybe_body-requires c =
    let begun : length (st c.begin.new.state).sizes ≡ 0 = ap (λ (s : St). length s.sizes) c.in_ok-begin.ensures.begun in
    let most = parameters_count _ (un c.read_parameters.new.reading) (map var c.as_slice.result.now) (map ctype c.in_ok-types.types.items) c.in_ok-types.ensures in
    let slice : map var c.as_slice.result.now ≡ map var c.args.params.now = search rules in
    let nodes : vars_nodes (map var c.as_slice.result.now) ≡ vars_nodes (map var c.args.params.now) = ap (λ (vs : List VarT). vars_nodes vs) slice in
    let same : objects (un c.declare_function.new.reading) ≡ objects (un c.read_parameters.new.reading) = ap objects c.in_ok-declare_function.ensures.named ∙ named_makes _ _ (un c.read_parameters.new.reading) in
    record { room = omega (arith, begun, most, nodes, same, c.requires.few) }
