use Rattle.std.proofs.Common.{◌≡◌, true, false, arith}
use Rattle.c_parse.specs.inner.Leads.{begins_expr, begins_type}
use Rattle.c_parse.specs.Tok.{toks}
use Rattle.c_parse.specs.inner.View.{context}
use Rattle.c_parse.proofs.CodeSteps.{first_none_type, first_none_expr, first_neither}
use Rattle.c_parse.proofs.statement.first.Goals as goal

pub returns-then-room-eq0 : goal.returns-then-room-eq0
returns-then-room-eq0 c =
    let is_type : begins_type (context c.args.scope.now) (toks c.args.tokens.now) ≡ true = grind arith in
    let none : c.args.room ≡ 0 = omega arith in
    record { gives = rw (c.deep.ensures, none) (first_none_type (context c.args.scope.now) (toks c.args.tokens.now) is_type) }

pub returns-then-room-eq0-2 : goal.returns-then-room-eq0-2
returns-then-room-eq0-2 c =
    let no_type : begins_type (context c.args.scope.now) (toks c.args.tokens.now) ≡ false = grind arith in
    let is_expr : begins_expr (context c.args.scope.now) (toks c.args.tokens.now) ≡ true = grind arith in
    let none : c.args.room ≡ 0 = omega arith in
    record { gives = rw (c.deep-then-room-eq0-2.ensures, none) (first_none_expr (context c.args.scope.now) (toks c.args.tokens.now) no_type is_expr) }

pub returns : goal.returns
returns c =
    let no_type : begins_type (context c.args.scope.now) (toks c.args.tokens.now) ≡ false = grind arith in
    let no_expr : begins_expr (context c.args.scope.now) (toks c.args.tokens.now) ≡ false = grind arith in
    record { gives = first_neither (context c.args.scope.now) c.args.room (toks c.args.tokens.now) no_type no_expr }
