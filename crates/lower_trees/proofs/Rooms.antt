-- What room is left behind what was added.
use Rattle.std.proofs.Common.{◌≡◌, ◌≤◌, ℕ, ◌+◌, arith, List, length, length-append, ap, ◌∙◌}
use Rattle.lower_trees.specs.declared.jump.JumpTo.{JumpTo}
use Rattle.lower_trees.specs.declared.output.Output.{Output}
use Rattle.lower_trees.specs.Pieces.{Listing}
use Rattle.lower_trees.specs.Statements.{depth}
use Rattle.lower_trees.specs.View.{jump_of}
use Rattle.lower_trees.specs.inner.Adding.{AddsNodes}
use Rattle.lower_trees.specs.inner.StatementParts.{CanLower}

pub room_for : (i : JumpTo) {j : JumpTo} {f : (n m : ℕ) → Listing} {a b c u v : ℕ} {k s l : List ℕ} {old mid : Output} → CanLower j a k u old → AddsNodes old mid f c s
    → c + b ≤ a → length s + length l ≤ length k → v ≤ u → depth (jump_of i) ≤ old.next + c → CanLower i b l v mid
room_for i {s = s} {old = old} {mid = mid} r adds temps sizes few on =
    let all : length mid.locals.items ≡ length old.locals.items + length s = ap length adds.locals ∙ length-append old.locals.items s in
    let next = adds.next in
    let rn = r.next in
    let rl = r.local in
    let rf = r.few in
    record { next = omega (arith, rn, next, temps); local = omega (arith, rl, all, sizes); few = omega (arith, rf, few); jump = omega (arith, on, next) }
