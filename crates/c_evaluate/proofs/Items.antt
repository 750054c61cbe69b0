-- The items of a list from a number on.
use Rattle.std.proofs.Common.{◌≡◌, ℕ, zero, suc, ◌+◌, ◌<◌, List, [], ◌∷◌, map, length, drop, slice_get, refl, sym, ap, ◌∙◌, arith}
use Rattle.std.specs.Prelude.{Option, Some, None}
use Rattle.std.proofs.lemmas.Option.{slice_get_within}
use Rattle.c_types.specs.Typed.{NoI, MoreI}
use Rattle.c_types.specs.declared.typed.TInit.{TInit}
use Rattle.c_types.specs.View.{tinit, tinits}
use Rattle.c_evaluate.specs.inner.FocusView.{items_from}

next_is : (k : ℕ) → k + 1 ≡ suc k
next_is k = omega arith

module _ {A B : Type 0} (f : A → B) where
  pub drop_some : (xs : List A) (k : ℕ) (x : A) → slice_get xs k ≡ Some x → drop k (map f xs) ≡ f x ∷ drop (suc k) (map f xs)
  drop_some [] k x h = absurd cc
  drop_some (y ∷ ys) zero x h = ap (λ z. f z ∷ map f ys) (some_is h)
    where
      some_is : (let p : Option A = Some y in p ≡ Some x) → y ≡ x
      some_is h = cc
  drop_some (y ∷ ys) (suc k) x h = drop_some ys k x h

  pub drop_none : (xs : List A) (k : ℕ) → slice_get xs k ≡ None → drop k (map f xs) ≡ []
  drop_none [] zero h = refl
  drop_none [] (suc k) h = refl
  drop_none (y ∷ ys) zero h = absurd cc
  drop_none (y ∷ ys) (suc k) h = drop_none ys k h

pub item_there : (xs : List TInit) (k : ℕ) (x : TInit) → slice_get xs k ≡ Some x → items_from xs k ≡ MoreI (tinit x) (items_from xs (k + 1))
item_there xs k x h = ap tinits (drop_some tinit xs k x h) ∙ ap (λ j. MoreI (tinit x) (items_from xs j)) (sym (next_is k))

pub no_item : (xs : List TInit) (k : ℕ) → slice_get xs k ≡ None → items_from xs k ≡ NoI
no_item xs k h = ap tinits (drop_none tinit xs k h)

pub item_within : (xs : List TInit) (k : ℕ) (x : TInit) → slice_get xs k ≡ Some x → k < length xs
item_within xs k x h = slice_get_within xs k x h
