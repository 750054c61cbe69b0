use Rattle.std.proofs.Common.{List}
use Rattle.c_tree.specs.View.{expr}
use Rattle.c_types.specs.declared.typed.TExpr.{TExpr}
use Rattle.c_types.specs.Typed.{TExprT}
use Rattle.c_types.specs.View.{texpr}
use Rattle.c_exprs.specs.Env.{Text}
use Rattle.c_exprs.specs.Types.{Types}
use Rattle.c_exprs.specs.Breaks.{Breaks}
use Rattle.c_exprs.specs.View.{ctx}
use Rattle.c_exprs.proofs.Exact.{typed_so, breaks_so, typed_good}
use Rattle.c_exprs.proofs.Answered.{good, bad, kept}
use Rattle.c_exprs.proofs.typing.type_expr.Goals as goal

pub returns-clause-types : goal.returns-clause-types
returns-clause-types c =
    let seen : TExpr → TExprT × List Text = λ r. (texpr r, c.kept_texts.new.texts) in
    let context = ctx c.args.globals.now c.args.scopes.now in
    good seen _ (λ x us. Types context c.args.texts.now (expr c.args.e.now) x us) (λ x us. typed_so context c.args.texts.now us (expr c.args.e.now) x) c.kept_texts.result (kept texpr _ c.typed-answer.result c.kept_texts.result c.typed-answer.new.texts c.kept_texts.new.texts c.typed-answer.ensures c.kept_texts.ensures.same c.kept_texts.ensures.kept)

pub returns-clause-only : goal.returns-clause-only
returns-clause-only c = λ x us g. rw (typed_good g) at (kept texpr _ c.typed-answer.result c.kept_texts.result c.typed-answer.new.texts c.kept_texts.new.texts c.typed-answer.ensures c.kept_texts.ensures.same c.kept_texts.ensures.kept)

pub returns-clause-first : goal.returns-clause-first
returns-clause-first c =
    let seen : TExpr → TExprT × List Text = λ r. (texpr r, c.kept_texts.new.texts) in
    let context = ctx c.args.globals.now c.args.scopes.now in
    λ fault is. bad seen _ (λ f. Breaks context c.args.texts.now (expr c.args.e.now) f) (λ f. breaks_so context c.args.texts.now (expr c.args.e.now) f) c.kept_texts.result fault (kept texpr _ c.typed-answer.result c.kept_texts.result c.typed-answer.new.texts c.kept_texts.new.texts c.typed-answer.ensures c.kept_texts.ensures.same c.kept_texts.ensures.kept) is

pub returns-clause-gives : goal.returns-clause-gives
returns-clause-gives c = kept texpr _ c.typed-answer.result c.kept_texts.result c.typed-answer.new.texts c.kept_texts.new.texts c.typed-answer.ensures c.kept_texts.ensures.same c.kept_texts.ensures.kept
