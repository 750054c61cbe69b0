use Rattle.std.proofs.Common.{rules, ◌≡◌, map}
use Rattle.mid_code.specs.Functions.{node, listed, function}
use Rattle.reg_frames.specs.inner.Moved.{stands, list_moved}
use Rattle.reg_frames.proofs.Movedly.{nodes_moves}
use Rattle.reg_frames.proofs.Placedly.{function_made}
use Rattle.reg_frames.proofs.functions.place_code.Goals as goal

pub returns : goal.returns
returns c =
    let w = stands c.args.p.now in
    let f = c.args.f.now in
    let params : c.from_vec.result ≡ map w f.params = search rules in
    let locals : c.from_vec-2.result ≡ f.locals = search rules in
    let body : listed (map node c.from_vec-3.result) ≡ list_moved w (listed (map node f.body)) = search rules in
    function_made w (function f) c.from_vec.result c.from_vec-2.result _ params locals (nodes_moves w f.body c.from_vec-3.result body)
