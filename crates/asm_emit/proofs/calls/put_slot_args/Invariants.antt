use Rattle.std.proofs.Common.{◌≡◌, ◌++◌, drop}
use Rattle.asm_emit.specs.inner.View.{frame}
use Rattle.asm_laws.specs.Operations.{slot_args}
use Rattle.asm_emit.proofs.calls.put_slot_args.Given as goal

abbrev pub invariant-loop-p : goal.invariant-loop-p
invariant-loop-p l = l.out.items ++ slot_args (frame l.s) (frame l.callee) (drop l.p-index l.ps) l.rest ≡ l.initial.out.items ++ slot_args (frame l.s) (frame l.callee) l.ps l.initial.rest
