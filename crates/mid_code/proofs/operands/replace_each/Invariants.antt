use Rattle.std.proofs.Common.{◌≡◌, ◌++◌, map, drop, take}
use Rattle.mid_code.proofs.operands.replace_each.Given as goal

abbrev pub invariant-loop-i : goal.invariant-loop-i
invariant-loop-i g l = take l.i l.places.items ++ map (g.S.Stands.stands l.by) (drop l.i l.places.items) ≡ map (g.S.Stands.stands l.by) l.initial.places.items
