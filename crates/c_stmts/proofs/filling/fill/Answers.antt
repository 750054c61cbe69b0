use Rattle.std.proofs.Common.{List, option_map}
use Rattle.c_tree.specs.View.{init}
use Rattle.c_types.specs.Typed.{TInitT}
use Rattle.c_types.specs.declared.typed.TInit.{TInit}
use Rattle.c_types.specs.View.{ctype, tinit}
use Rattle.c_exprs.specs.Env.{Text}
use Rattle.c_exprs.specs.View.{ctx}
use Rattle.c_exprs.proofs.Answered.{kept}
use Rattle.c_stmts.proofs.InitExact.{fill_good}
use Rattle.c_stmts.proofs.Answered.{fill_types, fill_breaks}
use Rattle.c_stmts.proofs.filling.fill.Goals as goal

pub returns-clause-types : goal.returns-clause-types
returns-clause-types c =
    let seen : TInit → TInitT × List Text = λ r. (tinit r, c.kept_texts.new.texts) in
    fill_types seen (ctx c.args.globals.now c.args.scopes.now) c.args.texts.now c.args.global (option_map (λ t. ctype t.now) c.args.target) (init c.args.initialiser.now) c.kept_texts.result (kept tinit _ c.filled_by-answer.result c.kept_texts.result c.filled_by-answer.new.texts c.kept_texts.new.texts c.filled_by-answer.ensures c.kept_texts.ensures.same c.kept_texts.ensures.kept)

pub returns-clause-only : goal.returns-clause-only
returns-clause-only c = λ x us g. rw (fill_good g) at (kept tinit _ c.filled_by-answer.result c.kept_texts.result c.filled_by-answer.new.texts c.kept_texts.new.texts c.filled_by-answer.ensures c.kept_texts.ensures.same c.kept_texts.ensures.kept)

pub returns-clause-first : goal.returns-clause-first
returns-clause-first c =
    let seen : TInit → TInitT × List Text = λ r. (tinit r, c.kept_texts.new.texts) in
    λ fault is. fill_breaks seen (ctx c.args.globals.now c.args.scopes.now) c.args.texts.now c.args.global (option_map (λ t. ctype t.now) c.args.target) (init c.args.initialiser.now) c.kept_texts.result fault (kept tinit _ c.filled_by-answer.result c.kept_texts.result c.filled_by-answer.new.texts c.kept_texts.new.texts c.filled_by-answer.ensures c.kept_texts.ensures.same c.kept_texts.ensures.kept) is

pub returns-clause-gives : goal.returns-clause-gives
returns-clause-gives c = kept tinit _ c.filled_by-answer.result c.kept_texts.result c.filled_by-answer.new.texts c.kept_texts.new.texts c.filled_by-answer.ensures c.kept_texts.ensures.same c.kept_texts.ensures.kept
