use Rattle.std.proofs.Common.{List, map, false}
use Rattle.c_tree.specs.View.{stmt, stmts}
use Rattle.c_types.specs.Typed.{TStmtTs}
use Rattle.c_types.specs.View.{tstmt, tstmts}
use Rattle.c_stmts.specs.State.{St}
use Rattle.c_stmts.specs.View.{st, fn_of}
use Rattle.c_stmts.proofs.StatementExact.{statements_good}
use Rattle.c_stmts.proofs.Answered.{statements_type, statements_break, kept}
use Rattle.c_stmts.proofs.statements.type_statements.Goals as goal

pub returns-clause-gives : goal.returns-clause-gives
returns-clause-gives c = kept (λ r. tstmts (map tstmt r.items)) _ c.stmts_of-answer.result c.kept_state.result (st c.stmts_of-answer.new.state) (st c.kept_state.new.state) c.stmts_of-answer.ensures c.kept_state.ensures.same c.kept_state.ensures.kept

pub returns-clause-types : goal.returns-clause-types
returns-clause-types c =
    let given = kept (λ r. tstmts (map tstmt r.items)) _ c.stmts_of-answer.result c.kept_state.result (st c.stmts_of-answer.new.state) (st c.kept_state.new.state) c.stmts_of-answer.ensures c.kept_state.ensures.same c.kept_state.ensures.kept in
    statements_type (λ r. (tstmts (map tstmt r.items), st c.kept_state.new.state)) (fn_of c.args.globals.now c.args.gives.now) (st c.args.state.now) false false (stmts (map stmt c.args.body.now)) c.kept_state.result given

pub returns-clause-only : goal.returns-clause-only
returns-clause-only c =
    let given = kept (λ r. tstmts (map tstmt r.items)) _ c.stmts_of-answer.result c.kept_state.result (st c.stmts_of-answer.new.state) (st c.kept_state.new.state) c.stmts_of-answer.ensures c.kept_state.ensures.same c.kept_state.ensures.kept in
    λ x sq g. rw (statements_good g) at given

pub returns-clause-first : goal.returns-clause-first
returns-clause-first c =
    let given = kept (λ r. tstmts (map tstmt r.items)) _ c.stmts_of-answer.result c.kept_state.result (st c.stmts_of-answer.new.state) (st c.kept_state.new.state) c.stmts_of-answer.ensures c.kept_state.ensures.same c.kept_state.ensures.kept in
    λ fault is. statements_break (λ r. (tstmts (map tstmt r.items), st c.kept_state.new.state)) (fn_of c.args.globals.now c.args.gives.now) (st c.args.state.now) false false (stmts (map stmt c.args.body.now)) c.kept_state.result fault given is
