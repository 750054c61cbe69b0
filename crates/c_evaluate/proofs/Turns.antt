-- A turn of a loop over cells.
use Rattle.std.proofs.Common.{◌≡◌, ℕ, zero, suc, ◌-◌, ◌<◌, Option, option_map, Result, Ok, Err, sym, ap, ◌∙◌, arith, subst, ap₂}
use Rattle.c_tree.specs.declared.span.Span.{Span}
use Rattle.obj_mem.specs.declared.cell.Cell.{Cell}
use Rattle.obj_mem.specs.Stores.{Store, with_objects}
use Rattle.obj_mem.specs.Queries.{further}
use Rattle.c_meaning.specs.declared.end.End.{End}
use Rattle.c_meaning.specs.declared.end.End.TheVariants.{OutOfBound}
use Rattle.c_meaning.specs.Cells.{cell_set}
use Rattle.kit_base.specs.declared.failure.Failure.TheVariants.{Memory, Cause}
use Rattle.kit_base.specs.Gives.{Fails}
use Rattle.c_evaluate.specs.inner.Results.{Stop}
use Rattle.c_evaluate.specs.inner.Storing.{Kept, at_span, then_ok, next_in, cells_in}

abbrev set_in : Span → Option Cell → Cell → Store → Kept
set_in span from to u = then_ok (at_span span (cell_set from to u.objects)) (λ os. Ok (with_objects os u))

err_on : {A B C : Type 0} (x : Result A End) (f : A → B) (g : A → Result C End) (end : End) → then_ok x (λ a. Ok (f a)) ≡ Err end → then_ok x g ≡ Err end
err_on (Ok a) f g end h = absurd cc
err_on (Err e) f g end h = cc

ok_on : {A B : Type 0} (x : Result A End) (f : A → B) (g : B → Result B End) (v : B) → then_ok x (λ a. Ok (f a)) ≡ Ok v → then_ok x (λ a. g (f a)) ≡ g v
ok_on (Ok a) f g v h = ap (λ r. then_ok r g) h
ok_on (Err e) f g v h = absurd cc

less_one : (n : ℕ) → n ≡ suc n - 1
less_one n = omega arith

module _ (span : Span) (from : Option Cell) (to : Cell) (u : Store) where
  pub turn_failed : (n left : ℕ) (e : Stop) → 0 < left → Fails e (set_in span from to u) → Fails e (cells_in span n left from to u)
  turn_failed n zero e h f = absurd (omega (arith, h))
  turn_failed n (suc left) Memory h f = tt
  turn_failed n (suc left) (Cause end) h f = err_on (at_span span (cell_set from to u.objects)) (λ os. with_objects os u) _ end f

  -- the turn with so many cells left behind it
  on_turn : (n left : ℕ) (v : Store) → set_in span from to u ≡ Ok v → cells_in span n (suc left) from to u ≡ next_in left n v (λ m. cells_in span m left (option_map (λ p. further p 1) from) (further to 1) v)
  on_turn n left v h = ok_on (at_span span (cell_set from to u.objects)) (λ os. with_objects os u) (λ w. next_in left n w (λ m. cells_in span m left (option_map (λ p. further p 1) from) (further to 1) w)) v h

  pub turn_last : (n left : ℕ) (v : Store) → left ≡ 1 → set_in span from to u ≡ Ok v → cells_in span n left from to u ≡ cells_in span n (left - 1) (option_map (λ p. further p 1) from) (further to 1) v
  turn_last n left v h f = subst (λ k. cells_in span n k from to u ≡ cells_in span n (k - 1) (option_map (λ p. further p 1) from) (further to 1) v) (sym h) (on_turn n 0 v f)

  pub turn_out : (n left : ℕ) (v : Store) → 1 < left → n ≡ 0 → set_in span from to u ≡ Ok v → cells_in span n left from to u ≡ Err OutOfBound
  turn_out n zero v h z f = absurd (omega (arith, h))
  turn_out n (suc zero) v h z f = absurd (omega (arith, h))
  turn_out n (suc (suc left)) v h z f = subst (λ m. cells_in span m (suc (suc left)) from to u ≡ Err OutOfBound) (sym z) (on_turn 0 (suc left) v f)

  pub turn_done : (n left : ℕ) (v : Store) → 1 < left → 0 < n → set_in span from to u ≡ Ok v → cells_in span n left from to u ≡ cells_in span (n - 1) (left - 1) (option_map (λ p. further p 1) from) (further to 1) v
  turn_done n zero v h z f = absurd (omega (arith, h))
  turn_done n (suc zero) v h z f = absurd (omega (arith, h))
  turn_done zero (suc (suc left)) v h z f = absurd (omega (arith, z))
  turn_done (suc n) (suc (suc left)) v h z f = on_turn (suc n) (suc left) v f ∙ ap₂ (λ m k. cells_in span m k (option_map (λ p. further p 1) from) (further to 1) v) (less_one n) (less_one (suc left))
