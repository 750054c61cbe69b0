use Rattle.std.proofs.Common.{subst, rules}
use Rattle.std.specs.Prelude.{Err, IfSome, Vec}
use Rattle.std.specs.declared.alloc.Global.{Global}
use Rattle.kit_base.specs.declared.failure.Failure.{Failure}
use Rattle.c_lex.specs.declared.token.Token.{Token}
use Rattle.c_prep.specs.declared.error.PrepFault.{PrepFault}
use Rattle.c_prep.specs.Codes.{HasReadingCode}
use Rattle.c_prep.specs.Files.{Answers, expansion_of}
use Rattle.c_prep.specs.Reached.{Reaches, names_of}
use Rattle.c_front.specs.Over.{over}
use Rattle.c_front.proofs.Answering.{derived_told, deeper_told, unit_told, refusal_told}
use Rattle.c_front.proofs.Listing.{read_code}
use Rattle.c_front.proofs.Failing.{reading_fails, tokens_fail}
use Rattle.c_front.proofs.unit.read_unit.Goals as goal

pub returns-in-Ok-expand_over-clause-told : goal.returns-in-Ok-expand_over-clause-told
returns-in-Ok-expand_over-clause-told g c = unit_told (g.F.Reads.held c.args.files.now) c.args.source.now c.in-Ok.named c.expand_over.new.names.items c.in-Ok-expand_over.tokens _ c.parse_at.result
    c.in-Ok.ensures (search rules) c.parse_at.ensures.parsed c.in-Ok-expand_over.ensures.told

pub returns-in-Ok-expand_over-clause-derived : goal.returns-in-Ok-expand_over-clause-derived
returns-in-Ok-expand_over-clause-derived g c = derived_told (g.F.Reads.held c.args.files.now) c.args.source.now c.parse_at.result c.tokens_are_one_unit.ensures.one
    (unit_told (g.F.Reads.held c.args.files.now) c.args.source.now c.in-Ok.named c.expand_over.new.names.items c.in-Ok-expand_over.tokens _ c.parse_at.result
    c.in-Ok.ensures (search rules) c.parse_at.ensures.parsed c.in-Ok-expand_over.ensures.told)

pub returns-in-Ok-expand_over-clause-deeper : goal.returns-in-Ok-expand_over-clause-deeper
returns-in-Ok-expand_over-clause-deeper g c = deeper_told (g.F.Reads.held c.args.files.now) c.args.source.now c.parse_at.result c.tokens_are_one_unit.ensures.one
    (unit_told (g.F.Reads.held c.args.files.now) c.args.source.now c.in-Ok.named c.expand_over.new.names.items c.in-Ok-expand_over.tokens _ c.parse_at.result
    c.in-Ok.ensures (search rules) c.parse_at.ensures.parsed c.in-Ok-expand_over.ensures.told)

pub returns-in-Err-Cause-clause-told : goal.returns-in-Err-Cause-clause-told
returns-in-Err-Cause-clause-told g c = refusal_told (g.F.Reads.held c.args.files.now) c.args.source.now c.in-Ok.named c.expand_over.new.names.items c.in-Err-Cause.fault c.told_as.result
    c.in-Ok.ensures (search rules)
    (subst (λ (x : Failure PrepFault). IfSome (g.F.Reads.held c.args.files.now) (λ m. Answers (Err x) c.expand_over.new.names.items (expansion_of (over m) c.in-Ok.named))) c.in-Err-Cause.field-0-is c.in-Err-Cause.ensures.told)

pub returns-in-Ok-expand_over-clause-reached : goal.returns-in-Ok-expand_over-clause-reached
returns-in-Ok-expand_over-clause-reached g c = tokens_fail (g.F.Reads.held c.args.files.now) c.args.source.now c.parse_at.result c.parse_at.ensures.kinds

pub returns-in-Err-Cause-clause-reached : goal.returns-in-Err-Cause-clause-reached
returns-in-Err-Cause-clause-reached g c = reading_fails (g.F.Reads.held c.args.files.now) c.args.source.now c.in-Ok.named c.expand_over.new.names.items c.in-Err-Cause.fault c.told_as.result
    c.in-Ok.ensures (search rules)
    (subst (λ (x : Failure PrepFault). IfSome (g.F.Reads.held c.args.files.now) (λ m. Reaches {T = Vec Token Global} names_of (Err x) c.expand_over.new.names.items (expansion_of (over m) c.in-Ok.named))) c.in-Err-Cause.field-0-is c.in-Err-Cause.ensures.reached)

pub returns-in-Err-Cause-clause-codes : goal.returns-in-Err-Cause-clause-codes
returns-in-Err-Cause-clause-codes g c = read_code c.in-Ok.named c.expand_over.new.names.items c.in-Err-Cause.fault c.told_as.result
    (subst HasReadingCode c.in-Err-Cause.field-0-is c.in-Err-Cause.ensures.codes) (search rules)
