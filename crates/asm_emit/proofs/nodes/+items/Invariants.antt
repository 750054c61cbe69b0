use Rattle.std.proofs.Common.{◌≡◌, ◌+◌, ◌++◌, map, drop}
use Rattle.mid_code.specs.Functions.{node, listed}
use Rattle.asm_emit.specs.inner.Listed.{list_labels, list_past, part_labels, list_part}
use Rattle.asm_emit.specs.inner.View.{frame, whole}
use Rattle.asm_emit.proofs.nodes.+items.Given as goal

abbrev pub invariant-put_nodes-loop-x : goal.invariant-put_nodes-loop-x
invariant-put_nodes-loop-x l = record {
  behind : l.rest ≡ drop l.x-index l.xs;
  items : l.out.items ++ list_past (whole l.w.around) (frame l.w.scope) l.w.end l.last l.ls.items l.next (listed (map node (drop l.x-index l.xs))) l.done ≡ l.initial.out.items ++ list_past (whole l.w.around) (frame l.w.scope) l.w.end l.last l.initial.ls.items l.n (listed (map node l.xs)) 0;
  labels : l.ls.items ≡ l.initial.ls.items;
  next : l.next + list_labels (listed (map node (drop l.x-index l.xs))) ≡ l.n + list_labels (listed (map node l.xs));
}

abbrev pub invariant-put_part-loop-x : goal.invariant-put_part-loop-x
invariant-put_part-loop-x l = record {
  items : l.out.items ++ list_part (whole l.w.around) (frame l.w.scope) l.w.end l.ls.items l.n (listed (map node (drop l.x-index l.xs))) ≡ l.initial.out.items ++ list_part (whole l.w.around) (frame l.w.scope) l.w.end l.initial.ls.items l.n (listed (map node l.xs));
  labels : l.ls.items ≡ l.initial.ls.items;
  next : part_labels (listed (map node (drop l.x-index l.xs))) ≡ part_labels (listed (map node l.xs));
}
