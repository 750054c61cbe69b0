use Rattle.c_parse.proofs.Skipped.{skipped_rest}
use Rattle.c_parse.proofs.parser.skip.Goals as goal

pub returns : goal.returns
returns c = skipped_rest c.args.count c.args.tokens.now
