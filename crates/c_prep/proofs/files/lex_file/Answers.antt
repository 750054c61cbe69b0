use Rattle.std.proofs.Common.{subst}
use Rattle.kit_base.specs.declared.failure.Failure.{Failure}
use Rattle.c_lex.specs.declared.error.LexFault.{LexFault}
use Rattle.c_lex.specs.Reading.{IsRefusal, opening}
use Rattle.c_prep.proofs.LexCodes.{not_missing, text_code}
use Rattle.c_prep.proofs.Numbering.{lexed_numbers}
use Rattle.c_prep.proofs.files.lex_file.Goals as goal

pub returns-in-Err-Cause-clause-text : goal.returns-in-Err-Cause-clause-text
returns-in-Err-Cause-clause-text c = not_missing (opening c.args.file) c.args.bytes.now _ _ _ (subst (λ (x : Failure LexFault). IsRefusal c.args.file c.args.bytes.now x) c.in-Err-Cause.field-0-is c.in-Err-Cause.ensures.refused)

pub returns-in-Err-Cause-clause-codes : goal.returns-in-Err-Cause-clause-codes
returns-in-Err-Cause-clause-codes c = text_code (opening c.args.file) c.args.bytes.now _ _ _ (subst (λ (x : Failure LexFault). IsRefusal c.args.file c.args.bytes.now x) c.in-Err-Cause.field-0-is c.in-Err-Cause.ensures.refused)

pub returns-in-Ok-clause-numbers : goal.returns-in-Ok-clause-numbers
returns-in-Ok-clause-numbers c = λ n lt. lexed_numbers n c.args.file c.args.bytes.now c.in-Ok.tokens c.in-Ok.ensures.reading lt
