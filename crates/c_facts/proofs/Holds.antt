-- What a rule that is kept tells.
use Rattle.std.proofs.Common.{◌≡◌, Bool, true, false, Result, Ok, Err, refl}
use Rattle.c_tree.specs.declared.span.Span.{Span}
use Rattle.c_rules.specs.declared.code.Code.{Code}
use Rattle.c_exprs.specs.Faults.{placed, demanded}
use Rattle.c_exprs.specs.Calls.{ensured}

pub placed_gives : {A : Type 0} (s : Span) (r : Result A Code) (x : A) → placed s r ≡ Ok x → r ≡ Ok x
placed_gives s (Ok y) x h = cc
placed_gives s (Err k) x h = absurd cc

pub demanded_gives : (s : Span) (k : Code) (test : Bool) → demanded s k test ≡ Ok tt → test ≡ true
unfolding demanded
demanded_gives s k true h = refl
demanded_gives s k false h = absurd cc

pub ensured_gives : {A : Type 0} (k : Code) (test : Bool) (r : Result A Code) (x : A) → ensured k test r ≡ Ok x → (test ≡ true) × (r ≡ Ok x)
ensured_gives k true r x h = (refl, h)
ensured_gives k false r x h = absurd cc
