-- The open scopes hold objects of the call, through all that statements do with them.
use Rattle.std.proofs.Common.{ℕ, ◌+◌, ◌≤◌, List, [], ◌∷◌, ◌++◌, length, length-append, ap, arith}
use Rattle.c_exprs.specs.Env.{Text, LocalD}
use Rattle.c_stmts.specs.State.{Scope, St, innermost, closed, opened, declare, made}
use Rattle.c_facts.specs.Sound.{Scene, AreObjects}
use Rattle.c_facts.proofs.Within.{Begins, IsObjectOf, InScope, InScopes}
use Rattle.c_facts.proofs.Making.{Between, between_bounds, Makes, scope_rises}

in_both : (s : Scene) (es ds : Scope) → InScope s es → InScope s ds → InScope s (es ++ ds)
in_both s [] ds h k = k
in_both s (e ∷ es) ds h k = (h.0, in_both s es ds h.1 k)

in_all : (s : Scene) (ss ts : List Scope) → InScopes s ss → InScopes s ts → InScopes s (ss ++ ts)
in_all s [] ts h k = k
in_all s (es ∷ ss) ts h k = (h.0, in_all s ss ts h.1 k)

pub in_innermost : (s : Scene) (ss : List Scope) → InScopes s ss → InScope s (innermost ss)
unfolding innermost
in_innermost s [] h = tt
in_innermost s (es ∷ []) h = h.0
in_innermost s (es ∷ ds ∷ ss) h = in_innermost s (ds ∷ ss) h.1

-- the scopes without the innermost one
pub in_closed : (s : Scene) (ss : List Scope) → InScopes s ss → InScopes s (closed ss)
unfolding closed
in_closed s [] h = tt
in_closed s (es ∷ []) h = tt
in_closed s (es ∷ ds ∷ ss) h = (h.0, in_closed s (ds ∷ ss) h.1)

-- a new scope has no objects yet
pub in_opened : (s : Scene) (ss : List Scope) → InScopes s ss → InScopes s (ss ++ [] ∷ [])
in_opened s ss h = in_all s ss ([] ∷ []) h (tt, tt)

-- a name that becomes an object of the call
pub in_declared : (s : Scene) (n : Text) (l : LocalD) (ss : List Scope) → InScopes s ss → IsObjectOf s l → InScopes s (declare n l ss)
in_declared s n l ss h o = in_all s (closed ss) ((innermost ss ++ (n, l) ∷ []) ∷ []) (in_closed s ss h) (in_both s (innermost ss) ((n, l) ∷ []) (in_innermost s ss h) (o, tt), tt)

-- numbers that rise below the count of objects
pub objects_rise : (s : Scene) (low : ℕ) (ks : List ℕ) (high : ℕ) → Between low ks high → high ≤ length s.locals → AreObjects s low ks
objects_rise s low [] high h e = tt
objects_rise s low (k ∷ ks) high h e = (h.0, omega (arith, e, between_bounds (k + 1) ks high h.1), objects_rise s (k + 1) ks high h.1 e)

-- what a scope made are objects of the call
pub made_are_objects : (s : Scene) (sp sq : St) (xs : List ℕ) → Makes (opened sp) sq xs → Begins sq.sizes s.locals → AreObjects s 0 (made sq)
made_are_objects s sp sq xs h b = objects_rise s 0 (made sq) (length sq.sizes) (scope_rises sp sq xs h) (omega (arith, ap length b.1, length-append sq.sizes b.0))
