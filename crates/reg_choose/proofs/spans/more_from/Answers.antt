use Rattle.std.proofs.Common.{rules}
use Rattle.reg_choose.proofs.Walked.{more_is}
use Rattle.reg_choose.proofs.spans.more_from.Goals as goal

pub returns : goal.returns
returns c = more_is c.args.ns.now c.args.i _ (λ e. search rules) (λ e. search rules)
