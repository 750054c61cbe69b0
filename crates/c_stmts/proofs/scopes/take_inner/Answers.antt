use Rattle.std.proofs.Common.{◌≡◌, ◌++◌, ◌∷◌, [], map, refl}
use Rattle.std.proofs.lemmas.List.{map_push}
use Rattle.c_exprs.specs.View.{scope}
use Rattle.c_stmts.proofs.Stack.{innermost-push, closed-push}
use Rattle.c_stmts.proofs.scopes.take_inner.Goals as goal

pub returns-in-Some-clause-inner : goal.returns-in-Some-clause-inner
returns-in-Some-clause-inner c =
    let parts : map scope c.args.scopes.now.items ≡ map scope c.pop.new.self.items ++ scope c.in-Some.scope ∷ [] = rw c.in-Some.ensures.items (map_push scope c.pop.new.self.items c.in-Some.scope) in
    rw (parts, innermost-push) refl

pub returns-in-Some-clause-outer : goal.returns-in-Some-clause-outer
returns-in-Some-clause-outer c =
    let parts : map scope c.args.scopes.now.items ≡ map scope c.pop.new.self.items ++ scope c.in-Some.scope ∷ [] = rw c.in-Some.ensures.items (map_push scope c.pop.new.self.items c.in-Some.scope) in
    rw (parts, closed-push) refl
