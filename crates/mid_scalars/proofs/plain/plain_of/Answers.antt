use Rattle.std.proofs.Common.{rules, ◌≡◌, ◌∙◌, ◌<◌, ◌&&◌, ℕ, eqb, length, map, drop}
use Rattle.mid_code.specs.Functions.{function}
use Rattle.mid_scalars.specs.inner.Table.{all_nodes}
use Rattle.mid_scalars.specs.inner.Purposes.{role_at, takes_by}
use Rattle.mid_scalars.specs.inner.Flags.{flag_at}
use Rattle.mid_scalars.proofs.Flagging.{flags_are, taken_back}
use Rattle.mid_scalars.proofs.plain.plain_of.Goals as goal

pub returns : goal.returns
returns c =
    let ones = c.in_ok-plain.plain.items in
    let bs = c.nodes_flags.new.plain in
    let f = function c.args.f.now in
    let made : ones ≡ map (λ n. eqb n 1) f.locals = search rules in
    let long : length bs ≡ length ones = search rules in
    let counted : c.in_ok-plain.plain.len ≡ length ones = search rules in
    let is : (k : ℕ) → k < length ones → flag_at bs k ≡ (flag_at ones k && all_nodes (takes_by (role_at c.args.roles.now) k) f.body) = search rules in
    record { plain = taken_back bs (drop (length bs) ones) ones c.in_ok-plain.plain.len counted long ∙ flags_are f (role_at c.args.roles.now) ones bs c.requires.names c.requires.roles made long is }
