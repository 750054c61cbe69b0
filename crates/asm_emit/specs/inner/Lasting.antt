-- Registers that are live and registers that last, in bodies that stand in memory.
use Rattle.std.specs.Prelude.{ℕ, ◌==◌, ◌&&◌, ◌||◌, cond, Bool, true, false, List, [], ◌∷◌, Option, Some, None}
use Rattle.mid_code.specs.declared.placed.Where.{Where}
use Rattle.mid_code.specs.declared.node.Op.{Op}
use Rattle.mid_code.specs.Code.{NodesT, FunctionT, maybe}
use Rattle.mid_code.specs.Functions.{NodeT, DoN, ChooseN, BlockN, LoopN, LeaveN, AgainN, ReturnN, joined}
use Rattle.mid_code.specs.Operands.{op_uses, op_target}
use Rattle.asm_laws.specs.declared.copying.Copying.{Copying}
use Rattle.asm_laws.specs.Copies.{copy_of, copy_at}
use Rattle.asm_laws.specs.Asks.{ask_of}
use Rattle.asm_laws.specs.Live.{is_among, copy_reads, copied_reads, exposed, lasts, lasting_registers}
use Rattle.asm_emit.specs.declared.live.Stretch.{Stretch}
use Rattle.asm_emit.specs.inner.Listed.{is_call}

-- whether a register is live before a node, where the node tells
abbrev pub told_by_copy : Option Copying → (register : ℕ) → Option Bool
told_by_copy None r = Some false
told_by_copy (Some y) r = cond (copy_reads y r) (Some true) (cond (r == y.cell) (Some false) None)

abbrev pub told_by_loop : (asks : Option ℕ) → (register : ℕ) → (other : Option Bool) → Option Bool
told_by_loop None r other = other
told_by_loop (Some f) r other = cond (r == f) (Some false) None

abbrev pub told_by_op : Op Where → (register : ℕ) → Option Bool
told_by_op o r = cond (is_among (op_uses o) r) (Some true) (cond (is_call o || is_among (maybe (op_target o)) r) (Some false) None)

abbrev pub told : (lasting : List Bool) → NodeT Where → (register : ℕ) → Option Bool
told h (DoN o) r = told_by_op o r
told h (ChooseN p a b) r = Some true
told h (BlockN b) r = None
told h (LoopN b) r = told_by_loop (ask_of (joined b)) r (cond (lasts h r) (Some true) (told_by_copy (copy_of (joined b)) r))
told h (LeaveN k) r = Some (lasts h r)
told h (AgainN k) r = Some (lasts h r)
told h (ReturnN p) r = Some (is_among (maybe p) r)

-- and the nodes that tell otherwise
abbrev pub inward : NodeT Where → NodesT Where → NodesT Where
inward (BlockN b) c = joined b
inward _ c = c

-- what is exposed in a stretch that goes on; where none does, the register is exposed already
abbrev pub exposed_from : Option Stretch → NodesT Where → (register : ℕ) → Bool
exposed_from None c r = true
exposed_from (Some s) c r = exposed s.unset c s.done r

-- a stretch that begins, where the register is not exposed already
abbrev pub anew_unless : Bool → Option Stretch
anew_unless is = cond is None (Some (record { unset = true; done = 0 }))

-- how one goes on behind a loop that copies words, fills them, or turns
abbrev pub behind_copy : Option Copying → Stretch → (reads inside : Bool) → Option Stretch
behind_copy None s reads inside = anew_unless (reads || inside)
behind_copy (Some y) s reads inside = cond (s.unset && reads) None (Some (record { unset = s.unset; done = 0 }))

abbrev pub loop_exposed : Stretch → NodesT Where → (register : ℕ) → Option Stretch
loop_exposed s b r = behind_copy (copy_at s.done b) s (copied_reads (copy_of b) r) (exposed true b 0 r)

-- how many registers last in each function
abbrev pub lasting_all : List (FunctionT Where) → List (List Bool)
lasting_all [] = []
lasting_all (f ∷ fs) = lasting_registers f.body ∷ lasting_all fs
