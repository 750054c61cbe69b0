use Rattle.c_parse.specs.Tok.{toks}
use Rattle.c_parse.proofs.Placed.{is_parsed, is_answered, is_too_deep, is_syntax, is_refused, is_deep, fault_begun, depth_begun}
use Rattle.c_parse.proofs.parser.parse.Goals as goal

pub returns-clause-parsed : goal.returns-clause-parsed
returns-clause-parsed c = rw c.answered.ensures (is_parsed (toks c.args.tokens.now) c.read_unit.result c.read_unit.ensures)

pub returns-clause-derived : goal.returns-clause-derived
returns-clause-derived c ds d = rw c.answered.ensures (is_answered (toks c.args.tokens.now) c.read_unit.result c.read_unit.ensures ds d)

pub returns-clause-deeper : goal.returns-clause-deeper
returns-clause-deeper c ds d lt = rw c.answered.ensures (is_too_deep (toks c.args.tokens.now) c.read_unit.result c.read_unit.ensures ds d lt)

pub returns-clause-syntax : goal.returns-clause-syntax
returns-clause-syntax c t is = is_syntax (toks c.args.tokens.now) fault_begun c.read_unit.result c.read_unit.ensures t (rw c.answered.ensures at is)

pub returns-clause-refused : goal.returns-clause-refused
returns-clause-refused c t what is = is_refused (toks c.args.tokens.now) fault_begun c.read_unit.result c.read_unit.ensures t what (rw c.answered.ensures at is)

pub returns-clause-too_deep : goal.returns-clause-too_deep
returns-clause-too_deep c t is = is_deep (toks c.args.tokens.now) depth_begun c.read_unit.result c.read_unit.ensures t (rw c.answered.ensures at is)
