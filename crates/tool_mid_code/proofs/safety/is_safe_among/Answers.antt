use Rattle.std.proofs.Common.{rules, ◌<◌, length, subst, sym}
use Rattle.mid_code.specs.Functions.{function}
use Rattle.reg_choose.specs.Each.{IsNamed}
use Rattle.reg_choose.proofs.Program.{named_in}
use Rattle.tool_mid_code.proofs.safety.is_safe_among.Goals as goal

pub is_safe-requires-clause-names : goal.is_safe-requires-clause-names
is_safe-requires-clause-names c =
    let l : c.args.k < length c.args.fs.now = search rules in
    (subst (λ z. IsNamed (function z)) (sym c.index-fs-k.is) (named_in c.args.fs.now c.args.k c.index-fs-k.result l c.requires.named)).0

pub is_safe-requires-clause-params : goal.is_safe-requires-clause-params
is_safe-requires-clause-params c =
    let l : c.args.k < length c.args.fs.now = search rules in
    (subst (λ z. IsNamed (function z)) (sym c.index-fs-k.is) (named_in c.args.fs.now c.args.k c.index-fs-k.result l c.requires.named)).1
