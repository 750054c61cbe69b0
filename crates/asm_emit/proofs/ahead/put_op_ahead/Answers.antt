use Rattle.std.proofs.Common.{rules, ◌≡◌, ◌++◌, true, None, sym, ap, ◌∙◌, append-nil}
use Rattle.mid_code.specs.Functions.{op_before, nodes}
use Rattle.asm_laws.specs.Asks.{is_unread}
use Rattle.asm_emit.specs.inner.Listed.{op_made}
use Rattle.asm_emit.specs.inner.View.{frame, whole}
use Rattle.asm_emit.proofs.Fronts.{unread_front}
use Rattle.asm_emit.proofs.ahead.put_op_ahead.Goals as goal

pub returns-in-None-clause-items : goal.returns-in-None-clause-items
returns-in-None-clause-items c =
    let W = whole c.args.w.now in
    let F = frame c.args.s.now in
    let o = c.args.o.now in
    let rest = nodes c.args.rest.now in
    let zero : c.args.done ≡ 0 = search rules in
    let made : op_made (whole c.args.w.now) (frame c.args.s.now) c.args.o.now (nodes c.args.rest.now) ≡ None = search rules in
    let unread : is_unread (op_before c.args.o.now (nodes c.args.rest.now)) ≡ true = search rules in
    sym (append-nil c.args.out.now.items) ∙ ap (λ xs. c.args.out.now.items ++ xs) (sym (unread_front W F o rest c.args.done zero made unread))
