-- The stack of scopes.
use Rattle.std.proofs.Common.{ℕ, suc, ◌-◌, length, map, Option, Some, None, arith, ◌≡◌, List, [], ◌∷◌, ◌++◌, refl, ap, true}
use Rattle.std.specs.Prelude.{slice_get, is_some, is_none, not, option_map}
use Rattle.c_stmts.specs.State.{Scope, innermost, closed}

pub innermost-push : (ss : List Scope) (x : Scope) → innermost (ss ++ x ∷ []) ≡ x
unfolding innermost
innermost-push [] x = refl
innermost-push (s ∷ []) x = refl
innermost-push (s ∷ t ∷ ss) x = innermost-push (t ∷ ss) x

pub closed-push : (ss : List Scope) (x : Scope) → closed (ss ++ x ∷ []) ≡ ss
unfolding closed
closed-push [] x = refl
closed-push (s ∷ []) x = refl
closed-push (s ∷ t ∷ ss) x = ap (λ (us : List Scope). s ∷ us) (closed-push (t ∷ ss) x)

pub innermost-none : innermost [] ≡ []
unfolding innermost
innermost-none = refl

pub closed-none : closed [] ≡ []
unfolding closed
closed-none = refl

-- the last is the innermost
pub innermost-last : {X : Type 0} (f : X → Scope) (xs : List X) (x : X) → slice_get xs (length xs - 1) ≡ Some x → innermost (map f xs) ≡ f x
unfolding innermost
innermost-last f [] x e = absurd cc
innermost-last f (y ∷ []) x e = let same : y ≡ x = cc in ap f same
innermost-last f (y ∷ z ∷ ys) x e = let shorter = rw (one_less (length ys)) at e in innermost-last f (z ∷ ys) x shorter
  where
    one_less : (n : ℕ) → suc (suc n) - 1 ≡ suc (suc n - 1)
    one_less n = omega arith

pub innermost-empty : {X : Type 0} (f : X → Scope) (xs : List X) → slice_get xs (length xs - 1) ≡ None → innermost (map f xs) ≡ []
unfolding innermost
innermost-empty f [] e = refl
innermost-empty f (y ∷ []) e = absurd cc
innermost-empty f (y ∷ z ∷ ys) e = let shorter = rw (one_less (length ys)) at e in innermost-empty f (z ∷ ys) shorter
  where
    one_less : (n : ℕ) → suc (suc n) - 1 ≡ suc (suc n - 1)
    one_less n = omega arith

pub ruleset stack_steps = (innermost-push, closed-push, innermost-none, closed-none)

-- ---- a name that is new

pub none_seen : {X Y : Type 0} (f : X → Y) (r : Option X) → is_none r ≡ not (is_some (option_map f r))
none_seen f None = refl
none_seen f (Some x) = refl

pub absent : {A : Type 0} (o : Option A) → not (is_some o) ≡ true → o ≡ None
absent None e = refl
absent (Some x) e = absurd cc
