use Rattle.std.proofs.Common.{◌≡◌, ◌++◌, map, drop}
use Rattle.mid_code.specs.Functions.{node, listed}
use Rattle.asm_emit.specs.inner.Listed.{list_test}
use Rattle.asm_emit.specs.inner.View.{frame, whole}
use Rattle.asm_emit.proofs.nodes.put_test.Given as goal

abbrev pub invariant-loop-x : goal.invariant-loop-x
invariant-loop-x l = record {
  behind : l.rest ≡ drop l.x-index l.xs;
  items : l.out.items ++ list_test (whole l.w.around) (frame l.w.scope) l.to (listed (map node (drop l.x-index l.xs))) l.done ≡ l.initial.out.items ++ list_test (whole l.w.around) (frame l.w.scope) l.to (listed (map node l.xs)) 0;
}
