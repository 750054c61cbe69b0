use Rattle.std.proofs.Common.{◌≡◌, ◌++◌, map, drop}
use Rattle.mid_code.specs.Functions.{node, listed}
use Rattle.asm_emit.specs.inner.Listed.{list_puts}
use Rattle.asm_emit.specs.inner.View.{frame, whole}
use Rattle.asm_emit.proofs.leading.put_words.Given as goal

abbrev pub invariant-loop-x : goal.invariant-loop-x
invariant-loop-x l = l.out.items ++ list_puts (whole l.w) (frame l.s) l.y l.asked (listed (map node (drop l.x-index l.xs))) l.left ≡ l.initial.out.items ++ list_puts (whole l.w) (frame l.s) l.y l.asked (listed (map node l.xs)) l.count
