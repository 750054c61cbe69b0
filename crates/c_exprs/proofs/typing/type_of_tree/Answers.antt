use Rattle.std.proofs.Common.{List}
use Rattle.c_tree.specs.View.{type}
use Rattle.c_rules.specs.declared.counted.Counted.{Counted}
use Rattle.c_types.specs.Types.{Ty}
use Rattle.c_types.specs.View.{ctype}
use Rattle.c_exprs.specs.Env.{Text}
use Rattle.c_exprs.specs.Types.{Names}
use Rattle.c_exprs.specs.Breaks.{NoName}
use Rattle.c_exprs.specs.View.{ctx}
use Rattle.c_exprs.proofs.Exact.{names_so, no_name_so, type_good}
use Rattle.c_exprs.proofs.Answered.{good, bad, kept}
use Rattle.c_exprs.proofs.typing.type_of_tree.Goals as goal

pub returns-clause-types : goal.returns-clause-types
returns-clause-types c =
    let seen : Counted → Ty × List Text = λ r. (ctype r.ty, c.kept_texts.new.texts) in
    let context = ctx c.args.globals.now c.args.scopes.now in
    good seen _ (λ x us. Names context c.args.texts.now c.args.span (type c.args.ty.now) x us) (λ x us. names_so context c.args.texts.now us c.args.span (type c.args.ty.now) x) c.kept_texts.result (kept (λ r. ctype r.ty) _ c.counted_type-answer.result c.kept_texts.result c.counted_type-answer.new.texts c.kept_texts.new.texts c.counted_type-answer.ensures c.kept_texts.ensures.same c.kept_texts.ensures.kept)

pub returns-clause-only : goal.returns-clause-only
returns-clause-only c = λ x us g. rw (type_good g) at (kept (λ r. ctype r.ty) _ c.counted_type-answer.result c.kept_texts.result c.counted_type-answer.new.texts c.kept_texts.new.texts c.counted_type-answer.ensures c.kept_texts.ensures.same c.kept_texts.ensures.kept)

pub returns-clause-first : goal.returns-clause-first
returns-clause-first c =
    let seen : Counted → Ty × List Text = λ r. (ctype r.ty, c.kept_texts.new.texts) in
    let context = ctx c.args.globals.now c.args.scopes.now in
    λ fault is. bad seen _ (λ f. NoName context c.args.texts.now c.args.span (type c.args.ty.now) f) (λ f. no_name_so context c.args.texts.now c.args.span (type c.args.ty.now) f) c.kept_texts.result fault (kept (λ r. ctype r.ty) _ c.counted_type-answer.result c.kept_texts.result c.counted_type-answer.new.texts c.kept_texts.new.texts c.counted_type-answer.ensures c.kept_texts.ensures.same c.kept_texts.ensures.kept) is

pub returns-clause-gives : goal.returns-clause-gives
returns-clause-gives c = kept (λ r. ctype r.ty) _ c.counted_type-answer.result c.kept_texts.result c.counted_type-answer.new.texts c.kept_texts.new.texts c.counted_type-answer.ensures c.kept_texts.ensures.same c.kept_texts.ensures.kept
