-- What is added one after the other.
use Rattle.std.proofs.Common.{◌≡◌, ℕ, ◌+◌, List, ◌++◌, length, length-append, append_assoc, map, ap, ◌∙◌, arith}
use Rattle.mid_code.specs.Functions.{node}
use Rattle.lower_trees.specs.declared.output.Output.{Output}
use Rattle.lower_trees.specs.Pieces.{Listing}
use Rattle.lower_trees.specs.inner.Adding.{AddsNodes}

pub then_more : {old mid new : Output} {f g r : (n m : ℕ) → Listing} {a b c : ℕ} {k l s : List ℕ} → AddsNodes old mid f a k → AddsNodes mid new g b l → a + b ≡ c → k ++ l ≡ s
    → f old.next (length old.locals.items) ++ g (old.next + a) (length old.locals.items + length k) ≡ r old.next (length old.locals.items) → AddsNodes old new r c s
then_more {old = old} {mid = mid} {f = f} {g = g} {a = a} {k = k} {l = l} p q temps sizes code =
    let first = p.next in
    let last = q.next in
    let local : length mid.locals.items ≡ length old.locals.items + length k = ap length p.locals ∙ length-append old.locals.items k in
    record {
      nodes = q.nodes ∙ (λ i. p.nodes i ++ g (first i) (local i)) ∙ append_assoc (map node old.nodes.items) (f old.next (length old.locals.items)) (g (old.next + a) (length old.locals.items + length k)) ∙ ap (λ z. map node old.nodes.items ++ z) code;
      locals = q.locals ∙ ap (λ z. z ++ l) p.locals ∙ append_assoc old.locals.items k l ∙ ap (λ z. old.locals.items ++ z) sizes;
      next = omega (arith, first, last, temps);
    }
