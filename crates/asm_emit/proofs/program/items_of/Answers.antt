use Rattle.std.proofs.Common.{rules, ◌≡◌, ◌+◌, ◌++◌, map, ◌∙◌}
use Rattle.mid_code.specs.Functions.{nodes, function}
use Rattle.mid_code.specs.View.{code, spots}
use Rattle.asm_laws.specs.Operations.{literals_items}
use Rattle.asm_laws.specs.inner.Emitted.{labels, functions_items, start_items}
use Rattle.asm_emit.specs.inner.Spared.{held_all}
use Rattle.asm_emit.specs.inner.Lasting.{lasting_all}
use Rattle.asm_emit.specs.inner.View.{whole_of_parts, wrapped_addresses}
use Rattle.asm_emit.proofs.Joining.{three_parts}
use Rattle.asm_emit.proofs.program.items_of.Goals as goal

pub returns : goal.returns
returns c =
    let x = code c.args.of.now in
    let none = c.new-out.ensures.items in
    let fs : c.as_slice-4.result.now ≡ c.args.of.now.functions = search rules in
    let rs : c.as_slice-5.result.now ≡ held_all x.functions = search rules in
    let ls : map (λ v. v.items) c.as_slice-6.result.now ≡ lasting_all x.functions = search rules in
    let gs : c.as_slice-7.result.now ≡ wrapped_addresses 0 x.globals = search rules in
    let body : c.as_slice-8.result.now ≡ c.args.of.now.start.body = search rules in
    let next : c.in_ok-next.next ≡ 1 + labels x.start.body = search rules in
    let gone : c.as_slice-9.result.now ≡ c.args.of.now.functions = search rules in
    let texts : c.as_slice-10.result.now ≡ c.args.of.now.literals = search rules in
    three_parts _ _ _ _ _ _ _ c.in_ok-next.ensures.items c.in_ok-put_functions.ensures c.in_ok-put_literals.ensures
    ∙ (λ i.
    let W = whole_of_parts (map function (fs i)) (map spots c.args.at.now) c.args.sizes.now (rs i) (ls i) c.args.names.now (gs i) in
    none i ++ (start_items W x.main (nodes (body i)) ++ (functions_items W 0 (next i) (map function (gone i)) ++ literals_items 0 (texts i))))
