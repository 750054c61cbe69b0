use Rattle.std.proofs.Common.{rules, refl, sym, ap, ◌∙◌, ◌≡◌}
use Rattle.std.specs.Prelude.{Option, is_some, not, is_none}
use Rattle.c_exprs.specs.Env.{LocalD}
use Rattle.c_exprs.specs.View.{scope, local}
use Rattle.c_stmts.proofs.Stack.{innermost-last, innermost-empty, none_seen}
use Rattle.c_stmts.proofs.scopes.is_new.Goals as goal

pub returns-in-Some : goal.returns-in-Some
returns-in-Some c =
    let none : c.is_none.result ≡ is_none c.find.result = search rules in
    record {
      new = rw (innermost-last scope c.args.scopes.now c.in-Some.inner.now (sym c.in-Some.ensures.value))
          (none ∙ none_seen (λ l. local l.now) c.find.result ∙ ap (λ (o : Option LocalD). not (is_some o)) c.find.ensures.found);
    }

pub returns-in-None : goal.returns-in-None
returns-in-None c = record { new = rw (innermost-empty scope c.args.scopes.now (sym c.in-None.ensures.value)) refl }
