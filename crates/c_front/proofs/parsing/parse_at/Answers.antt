use Rattle.std.proofs.Common.{List, ap, subst}
use Rattle.std.specs.Prelude.{Some, None, Err}
use Rattle.c_lex.specs.declared.token.Token.{Token}
use Rattle.c_parse.specs.Tok.{toks}
use Rattle.c_parse.specs.Places.{FirstBad, FirstDeep}
use Rattle.c_front.proofs.Faulting.{faults_bad, faults_deep}
use Rattle.c_front.proofs.Listing.{syntax_code, deep_code, refused_code}
use Rattle.c_front.proofs.parsing.parse_at.Goals as goal

pub returns-in-Err-Syntax-clause-parsed : goal.returns-in-Err-Syntax-clause-parsed
returns-in-Err-Syntax-clause-parsed c = faults_bad c.args.places c.in-Err-Syntax.token None c.refusal_at.result
    (subst (λ (ts : List Token). FirstBad (toks ts) c.in-Err-Syntax.token None) c.as_slice.ensures (c.in-Err-Syntax.ensures.syntax c.in-Err-Syntax.token (ap Err c.in-Err-Syntax.field-0-is)))
    c.refusal_at.ensures

pub returns-in-Err-TooDeep-clause-parsed : goal.returns-in-Err-TooDeep-clause-parsed
returns-in-Err-TooDeep-clause-parsed c = faults_deep c.args.places c.in-Err-TooDeep.token c.refusal_at-in-Err-TooDeep.result
    (subst (λ (ts : List Token). FirstDeep (toks ts) c.in-Err-TooDeep.token) c.as_slice.ensures (c.in-Err-TooDeep.ensures.too_deep c.in-Err-TooDeep.token (ap Err c.in-Err-TooDeep.field-0-is)))
    c.refusal_at-in-Err-TooDeep.ensures

pub returns-in-Err-Unsupported-clause-parsed : goal.returns-in-Err-Unsupported-clause-parsed
returns-in-Err-Unsupported-clause-parsed c = faults_bad c.args.places c.in-Err-Unsupported.token (Some c.in-Err-Unsupported.field-0-1) c.refusal_at-in-Err-Unsupported.result
    (subst (λ (ts : List Token). FirstBad (toks ts) c.in-Err-Unsupported.token (Some c.in-Err-Unsupported.field-0-1)) c.as_slice.ensures
    (c.in-Err-Unsupported.ensures.refused c.in-Err-Unsupported.token c.in-Err-Unsupported.field-0-1 (ap Err c.in-Err-Unsupported.field-0-is)))
    c.refusal_at-in-Err-Unsupported.ensures

pub returns-in-Err-Syntax-clause-codes : goal.returns-in-Err-Syntax-clause-codes
returns-in-Err-Syntax-clause-codes c = syntax_code c.args.places c.in-Err-Syntax.token c.refusal_at.result c.refusal_at.ensures

pub returns-in-Err-TooDeep-clause-codes : goal.returns-in-Err-TooDeep-clause-codes
returns-in-Err-TooDeep-clause-codes c = deep_code c.args.places c.in-Err-TooDeep.token c.refusal_at-in-Err-TooDeep.result c.refusal_at-in-Err-TooDeep.ensures

pub returns-in-Err-Unsupported-clause-codes : goal.returns-in-Err-Unsupported-clause-codes
returns-in-Err-Unsupported-clause-codes c = refused_code c.args.places c.in-Err-Unsupported.token c.refusal_at-in-Err-Unsupported.result c.refusal_at-in-Err-Unsupported.ensures
