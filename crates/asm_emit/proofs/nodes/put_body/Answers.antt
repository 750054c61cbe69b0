use Rattle.std.proofs.Common.{rules, ◌≡◌, ◌++◌, List, [], map, sym, ap, ◌∙◌}
use Rattle.std.specs.Prelude.{Result, Ok, Err, OnOk}
use Rattle.asm_items.specs.declared.item.AsmItem.{AsmItem}
use Rattle.mid_code.specs.Functions.{node, listed, joined}
use Rattle.asm_laws.specs.declared.behind.Behind.TheVariants.{End}
use Rattle.asm_laws.specs.inner.Emitted.{code_items}
use Rattle.asm_emit.specs.inner.Listed.{list_past}
use Rattle.asm_emit.specs.inner.View.{frame, whole}
use Rattle.asm_emit.proofs.InMemory.{list_are}
use Rattle.asm_emit.proofs.nodes.put_body.Goals as goal

on_same : {A E : Type 0} (r : Result A E) (xs out a b : List AsmItem) → a ≡ b → OnOk r (xs ≡ out ++ a) → OnOk r (xs ≡ out ++ b)
on_same (Ok x) xs out a b same e = e ∙ ap (λ items. out ++ items) same
on_same (Err e) xs out a b same h = tt

pub returns-clause-items : goal.returns-clause-items
returns-clause-items c =
    let W = whole c.args.w.now in
    let F = frame c.args.s.now in
    let xs = listed (map node c.args.body.now) in
    let none : c.new-ls.result.items ≡ [] = search rules in
    let first = list_past W F c.args.end End c.new-ls.result.items c.args.n xs 0 in
    let last = code_items W F c.args.end [] c.args.n (joined xs) in
    let same : first ≡ last = ap (λ l. list_past W F c.args.end End l c.args.n xs 0) none ∙ sym (list_are W F c.args.end xs [] c.args.n) in
    on_same c.put_nodes.result c.put_nodes.new.out.items c.args.out.now.items first last same c.put_nodes.ensures.items
