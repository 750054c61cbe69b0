use Rattle.std.proofs.Common.{rules, ◌≡◌, ℕ, ◌+◌, ◌<◌, ◌≤◌, length, get_or}
use Rattle.std.specs.Bool.{OnTrue}
use Rattle.mid_code.specs.Functions.{function}
use Rattle.mid_code.specs.View.{code}
use Rattle.tool_mid_code.specs.Fine.{Fine}
use Rattle.tool_mid_code.proofs.Making.{is_function}
use Rattle.tool_mid_code.proofs.made.function_fine.Goals as goal

pub returns-then-params-f : goal.returns-then-params-f
returns-then-params-f c =
    let f = function c.args.f.now in
    let few : f.temps + length f.locals ≤ 1000000 = search rules in
    let params : (i d : ℕ) → i < length f.params → get_or f.params i d ≡ 0 + i = search rules in
    let locals : (i d : ℕ) → i < length f.locals → get_or f.locals i d ≡ 1 = search rules in
    let below : length f.params ≤ f.temps = search rules in
    let fine : OnTrue c.is_fine.result (Fine (code c.args.of.now) f.temps (length f.locals) f.body) = search rules in
    is_function (code c.args.of.now) f c.is_fine.result few params locals below fine
