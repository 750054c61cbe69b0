use Rattle.std.proofs.Common.{◌≡◌, map, true, false, arith}
use Rattle.std.proofs.lemmas.Result.{err_from_is_err_and}
use Rattle.c_parse.specs.inner.Reader.{at_close_brace}
use Rattle.c_parse.specs.Tok.{toks}
use Rattle.c_parse.specs.inner.View.{context}
use Rattle.c_tree.specs.View.{var}
use Rattle.c_parse.proofs.Loops.{goes_end, goes_fail, goes_turn}
use Rattle.c_parse.proofs.MemberLoops.{others_less, members_end, members_fail, members_ok}
use Rattle.c_parse.proofs.declaration.members.Goals as goal

pub returns-in_err-more : goal.returns-in_err-more
returns-in_err-more c =
    let more : at_close_brace (toks c.members.rest.now) ≡ false = grind arith in
    let turned = members_fail (context c.args.scope.now) c.args.room (map var c.members.found.items) (toks c.members.rest.now) c.in_err-more.field-0.0 more c.in_err-more.ensures.gives in
    let p = err_from_is_err_and c.from_residual-in_err-more.result c.from_residual-in_err-more.ensures.1 in
    record { gives = rw (p.1, p.2) (goes_fail _ _ _ _ c.members.invariant c.in_err-more.field-0.0 turned) }

pub members-smaller : goal.members-smaller
members-smaller c = omega (arith, others_less (context c.args.scope.now) c.args.room (map var c.members.found.items) (toks c.members.rest.now) _ c.in_ok-more.ensures.gives)

pub members-preserved : goal.members-preserved
members-preserved c =
    let more : at_close_brace (toks c.members.rest.now) ≡ false = grind arith in
    let turned = members_ok (context c.args.scope.now) c.args.room (map var c.members.found.items) (toks c.members.rest.now) _ more c.in_ok-more.ensures.gives in
    let fewer = others_less (context c.args.scope.now) c.args.room (map var c.members.found.items) (toks c.members.rest.now) _ c.in_ok-more.ensures.gives in
    goes_turn _ _ _ _ c.members.invariant _ _ turned fewer

pub returns : goal.returns
returns c =
    let none : at_close_brace (toks c.members.rest.now) ≡ true = grind arith in
    let total = goes_end _ _ _ _ c.members.invariant (members_end (context c.args.scope.now) c.args.room (map var c.members.found.items) (toks c.members.rest.now) none) in
    record { gives = rw c.from_vec.ensures total }
