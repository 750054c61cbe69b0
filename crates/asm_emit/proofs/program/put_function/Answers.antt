use Rattle.std.proofs.Common.{◌+◌, ◌++◌, [], None, ap, ◌∙◌}
use Rattle.mid_code.specs.Functions.{nodes}
use Rattle.asm_laws.specs.inner.Emitted.{code_items, entry_items, exit_items}
use Rattle.asm_emit.specs.inner.View.{frame, whole}
use Rattle.asm_emit.proofs.Joining.{three_parts}
use Rattle.asm_emit.proofs.program.put_function.Goals as goal

pub returns-clause-items : goal.returns-clause-items
returns-clause-items c =
    let W = whole c.args.w.now in
    let F = frame c.scope_at-s.result in
    let n = c.args.n in
    let body = nodes c.args.body.now in
    three_parts c.args.out.now.items (entry_items W c.args.f F) (code_items W F None [] (n + 1) body) (exit_items n F) c.put_entry.new.out.items c.put_body.new.out.items c.put_exit.new.out.items
    c.in_ok-put_entry.ensures c.in_ok-next.ensures.items c.in_ok-put_exit.ensures
    ∙ ap (λ G. c.args.out.now.items ++ (entry_items W c.args.f G ++ (code_items W G None [] (n + 1) body ++ exit_items n G))) c.scope_at-s.ensures
