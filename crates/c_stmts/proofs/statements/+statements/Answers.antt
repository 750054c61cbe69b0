use Rattle.std.proofs.Common.{arith, rules, true, Ok, option_map, ◌≡◌, ◌+◌, ◌*◌, ◌≤◌, ◌^◌, ℕ, List, length, ap, ◌++◌, ◌∷◌, [], map, drop, ◌∙◌, sym, refl, add-one}
use Rattle.std.proofs.lemmas.List.{map_push}
use Rattle.std.proofs.Math.Seq.{drop-cons}
use Rattle.std.proofs.Math.ListN.{get_or}
use Rattle.std.proofs.lemmas.List.{drop_all}
use Rattle.c_tree.specs.declared.statement.Arm.{Arm}
use Rattle.c_tree.specs.declared.statement.Arm as tree_arm
use Rattle.c_tree.specs.declared.statement.Stmt.{Stmt}
use Rattle.c_tree.specs.declared.statement.Stmt as tree
use Rattle.c_tree.specs.Count.{expr_nodes, maybe_expr_nodes, vars_nodes, stmt_nodes, maybe_nodes, stmts_nodes, arm_nodes, arms_nodes}
use Rattle.c_tree.specs.Tree.{VarsS, WhileS, DoWhileS, SwitchS, StmtA}
use Rattle.c_tree.specs.View.{expr, var, stmt, stmts, arm, arms}
use Rattle.c_types.specs.View.{texpr, tarm, tstmt}
use Rattle.c_stmts.specs.State.{St, opened}
use Rattle.c_stmts.specs.View.{st, fn_of, labels, maybe_s, maybe_z}
use Rattle.c_stmts.specs.StatementTyping as typing
use Rattle.c_stmts.proofs.Built.{view-if, view-for}
use Rattle.c_stmts.proofs.Counted.{statement_counts, maybe_statement_counts, statements_left, arms_left, statements_within, arms_within}
use Rattle.c_stmts.proofs.Forms.{if_so, for_so}
use Rattle.c_stmts.proofs.StmtFronts.{before-push, before-end, before_arms-none, before_arms-push, before_arms-end}
use Rattle.c_stmts.proofs.statements.+statements.Goals as goal

pub stmts_of-loop-s-preserved : goal.stmts_of-loop-s-preserved
stmts_of-loop-s-preserved t c =
    let i = c.loop-s.s-index in
    let es = c.args.all.now in
    let e : Stmt = c.s-item.result in
    let here : get_or es i e ≡ e = grind arith in
    let split : drop i es ≡ e ∷ drop (i + 1) es = rw (add-one, drop-cons es i e (omega arith), here) refl in
    let pushed : map tstmt c.push.new.self.items ≡ map tstmt c.loop-s.found.items ++ tstmt c.in_ok-x.x ∷ [] = rw c.in_ok-push.ensures.items (map_push tstmt c.loop-s.found.items c.in_ok-x.x) in
    let on = before-push (fn_of c.args.globals.now c.args.gives.now) (map tstmt c.loop-s.found.items) (st c.loop-s.state) (st c.stmt_of.new.state) c.args.jumps.breaks c.args.jumps.continues (stmt e) (stmts (map stmt (drop (i + 1) es))) (tstmt c.in_ok-x.x) c.in_ok-x.ensures in
    let rest = rw split at c.loop-s.invariant.typed in
    let room = rw split at c.loop-s.invariant.room in
    record {
      typed = rw pushed (on ∙ rest);
      room = statements_left (fn_of c.args.globals.now c.args.gives.now) (st c.loop-s.state) (st c.stmt_of.new.state) c.args.jumps.breaks c.args.jumps.continues (stmt e) (stmts (map stmt (drop (i + 1) es))) (tstmt c.in_ok-x.x) _ c.in_ok-x.ensures room;
    }

pub stmts_of-returns : goal.stmts_of-returns
stmts_of-returns t c =
    let none = drop_all c.loop-s.s-index c.args.all.now c.loop-s-test.false in
    let rest = rw none at c.loop-s.invariant.typed in
    sym rest ∙ before-end (map tstmt c.loop-s.found.items) (st c.loop-s.state)

pub arms_of-loop-a-init : goal.arms_of-loop-a-init
arms_of-loop-a-init t c = record { typed = rw (c.new-found.ensures.items, c.no_labels-seen.ensures.none) (before_arms-none _); room = c.requires.room }

pub arms_of-loop-a-preserved : goal.arms_of-loop-a-preserved
arms_of-loop-a-preserved t c =
    let i = c.loop-a.a-index in
    let es = c.args.all.now in
    let e : Arm = c.a-item.result in
    let here : get_or es i e ≡ e = grind arith in
    let split : drop i es ≡ e ∷ drop (i + 1) es = rw (add-one, drop-cons es i e (omega arith), here) refl in
    let pushed : map tarm c.push.new.self.items ≡ map tarm c.loop-a.found.items ++ tarm c.in_ok-x.x ∷ [] = rw c.in_ok-push.ensures.items (map_push tarm c.loop-a.found.items c.in_ok-x.x) in
    let on = before_arms-push (fn_of c.args.globals.now c.args.gives.now) (map tarm c.loop-a.found.items) (st c.loop-a.state) (st c.arm_of.new.state) c.args.jumps.breaks c.args.jumps.continues (labels c.loop-a.seen) (arm e) (arms (map arm (drop (i + 1) es))) (tarm c.in_ok-x.x) c.in_ok-x.ensures.gives in
    let rest = rw split at c.loop-a.invariant.typed in
    let room = rw split at c.loop-a.invariant.room in
    record {
      typed = rw (pushed, c.in_ok-x.ensures.labels) (on ∙ rest);
      room = arms_left (fn_of c.args.globals.now c.args.gives.now) (st c.loop-a.state) (st c.arm_of.new.state) c.args.jumps.breaks c.args.jumps.continues (labels c.loop-a.seen) (arm e) (arms (map arm (drop (i + 1) es))) (tarm c.in_ok-x.x) _ c.in_ok-x.ensures.gives room;
    }

pub arms_of-returns : goal.arms_of-returns
arms_of-returns t c =
    let none = drop_all c.loop-a.a-index c.args.all.now c.loop-a-test.false in
    let rest = rw none at c.loop-a.invariant.typed in
    sym rest ∙ before_arms-end (map tarm c.loop-a.found.items) (st c.loop-a.state)

pub stmt_of-returns-in_ok-if_made-in-If : goal.stmt_of-returns-in_ok-if_made-in-If
stmt_of-returns-in_ok-if_made-in-If t c =
    let f = fn_of c.args.globals.now c.args.gives.now in
    let x : typing.value_in f (st c.args.state.now) (expr c.in-If.e) ≡ Ok (texpr c.in_ok-x-in-If-3.x, st c.value_in.new.state) = search rules in
    let y : typing.statement f (st c.value_in.new.state) c.args.jumps.breaks c.args.jumps.continues (stmt c.in-If.a.value) ≡ Ok (tstmt c.in_ok-x-in-If-3.y, st c.stmt_of-y.new.state) = search rules in
    let z : typing.maybe_statement f (st c.stmt_of-y.new.state) c.args.jumps.breaks c.args.jumps.continues (maybe_s c.in-If.b) ≡ Ok (maybe_z c.in_ok-x-in-If-3.z, st c.maybe_of-z.new.state) = search rules in
    rw (c.in-If.is, view-if c.in-If.e c.in-If.a c.in-If.b c.in-If.span) (if_so f (st c.args.state.now) (st c.value_in.new.state) (st c.stmt_of-y.new.state) (st c.maybe_of-z.new.state) c.args.jumps.breaks c.args.jumps.continues (expr c.in-If.e) (stmt c.in-If.a.value) (maybe_s c.in-If.b) c.in-If.span (texpr c.in_ok-x-in-If-3.x) (tstmt c.in_ok-x-in-If-3.y) (maybe_z c.in_ok-x-in-If-3.z) (tstmt c.in_ok-if_made-in-If.field-0) x y z c.in_ok-if_made-in-If.ensures.rule c.in_ok-if_made-in-If.ensures.tree)

pub stmt_of-returns-in_ok-for_made-in-For : goal.stmt_of-returns-in_ok-for_made-in-For
stmt_of-returns-in_ok-for_made-in-For t c =
    let f = fn_of c.args.globals.now c.args.gives.now in
    let x : typing.maybe_statement f (opened (st c.args.state.now)) c.args.jumps.breaks c.args.jumps.continues (maybe_s c.in-For.first) ≡ Ok (maybe_z c.in_ok-x-in-For-4.x, st c.maybe_of.new.state) = search rules in
    let y : typing.maybe_value f (st c.maybe_of.new.state) (option_map expr c.in-For.test) ≡ Ok (option_map texpr c.in_ok-x-in-For-4.y, st c.maybe_value-y.new.state) = search rules in
    let z : typing.maybe_value f (st c.maybe_value-y.new.state) (option_map expr c.in-For.step) ≡ Ok (option_map texpr c.in_ok-x-in-For-4.z, st c.maybe_value-z.new.state) = search rules in
    let w : typing.statement f (st c.maybe_value-z.new.state) true true (stmt c.in-For.a.value) ≡ Ok (tstmt c.in_ok-x-in-For-4.w, st c.stmt_of-w.new.state) = search rules in
    rw (c.in-For.is, view-for c.in-For.first c.in-For.test c.in-For.step c.in-For.a c.in-For.span) (for_so f (st c.args.state.now) (st c.maybe_of.new.state) (st c.maybe_value-y.new.state) (st c.maybe_value-z.new.state) (st c.stmt_of-w.new.state) (st c.for_made.new.state) c.args.jumps.breaks c.args.jumps.continues (maybe_s c.in-For.first) (option_map expr c.in-For.test) (option_map expr c.in-For.step) (stmt c.in-For.a.value) c.in-For.span (maybe_z c.in_ok-x-in-For-4.x) (option_map texpr c.in_ok-x-in-For-4.y) (option_map texpr c.in_ok-x-in-For-4.z) (tstmt c.in_ok-x-in-For-4.w) (tstmt c.in_ok-for_made-in-For.field-0) x y z w c.in_ok-for_made-in-For.ensures.rule c.in_ok-for_made-in-For.ensures.tree c.in_ok-for_made-in-For.ensures.left)

-- ---- room for the objects of each part, and the measure, which falls

pub stmt_of-stmts_of-requires : goal.stmt_of-stmts_of-requires
stmt_of-stmts_of-requires t c =
    let kn : stmt_nodes (stmt c.args.s.now) ≡ stmts_nodes (stmts (map stmt c.as_slice.result.now)) + 1 = search (rules, tree.the_lemmas) in
    let dec : 4 * stmt_nodes (stmt c.args.s.now) ≡ t = c.decreases in
    let same : length (st c.open.new.self).sizes ≡ length (st c.args.state.now).sizes = ap (λ (z : St). length z.sizes) c.in_ok-open-in-Block.ensures.opened in
    (omega (arith, kn, dec), omega (arith, kn, same, c.requires.room))

pub stmt_of-stmt_of-y-requires : goal.stmt_of-stmt_of-y-requires
stmt_of-stmt_of-y-requires t c =
    let kn : stmt_nodes (stmt c.args.s.now) ≡ expr_nodes (expr c.in-If.e) + stmt_nodes (stmt c.in-If.a.value) + maybe_nodes (maybe_s c.in-If.b) + 1 = rw (c.in-If.is, view-if c.in-If.e c.in-If.a c.in-If.b c.in-If.span) refl in
    let boxed : stmt_nodes (stmt c.deref.result.now) ≡ stmt_nodes (stmt c.in-If.a.value) = ap (λ (z : Stmt). stmt_nodes (stmt z)) c.deref.ensures in
    let dec : 4 * stmt_nodes (stmt c.args.s.now) ≡ t = c.decreases in
    let same : length (st c.value_in.new.state).sizes ≡ length (st c.args.state.now).sizes = ap (λ (ns : List ℕ). length ns) c.value_in.ensures.sizes in
    let fits : length (st c.value_in.new.state).sizes + stmt_nodes (stmt c.deref.result.now) ≤ 2 ^ 32 = omega (arith, kn, boxed, same, c.requires.room) in
    (omega (arith, kn, boxed, dec), fits)

pub stmt_of-maybe_of-z-requires : goal.stmt_of-maybe_of-z-requires
stmt_of-maybe_of-z-requires t c =
    let kn : stmt_nodes (stmt c.args.s.now) ≡ expr_nodes (expr c.in-If.e) + stmt_nodes (stmt c.in-If.a.value) + maybe_nodes (maybe_s c.in-If.b) + 1 = rw (c.in-If.is, view-if c.in-If.e c.in-If.a c.in-If.b c.in-If.span) refl in
    let dec : 4 * stmt_nodes (stmt c.args.s.now) ≡ t = c.decreases in
    let same : length (st c.value_in.new.state).sizes ≡ length (st c.args.state.now).sizes = ap (λ (ns : List ℕ). length ns) c.value_in.ensures.sizes in
    let y : typing.statement (fn_of c.args.globals.now c.args.gives.now) (st c.value_in.new.state) c.args.jumps.breaks c.args.jumps.continues (stmt c.in-If.a.value) ≡ Ok (tstmt c.in_ok-x-in-If-2.y, st c.stmt_of-y.new.state) = search rules in
    let most = statement_counts (fn_of c.args.globals.now c.args.gives.now) (st c.value_in.new.state) (st c.stmt_of-y.new.state) c.args.jumps.breaks c.args.jumps.continues (stmt c.in-If.a.value) (tstmt c.in_ok-x-in-If-2.y) y in
    (omega (arith, kn, dec), omega (arith, kn, same, most, c.requires.room))

pub stmts_of-stmt_of-requires : goal.stmts_of-stmt_of-requires
stmts_of-stmt_of-requires t c =
    let i = c.loop-s.s-index in
    let es = c.args.all.now in
    let e : Stmt = c.s-item.result in
    let here : get_or es i e ≡ e = grind arith in
    let split : drop i es ≡ e ∷ drop (i + 1) es = rw (add-one, drop-cons es i e (omega arith), here) refl in
    let room = rw split at c.loop-s.invariant.room in
    let within = rw split at (statements_within i es) in
    let dec : 4 * stmts_nodes (stmts (map stmt es)) + 1 ≡ t = c.decreases in
    (omega (arith, within, dec), omega (arith, room))

pub arms_of-arm_of-requires : goal.arms_of-arm_of-requires
arms_of-arm_of-requires t c =
    let i = c.loop-a.a-index in
    let es = c.args.all.now in
    let e : Arm = c.a-item.result in
    let here : get_or es i e ≡ e = grind arith in
    let split : drop i es ≡ e ∷ drop (i + 1) es = rw (add-one, drop-cons es i e (omega arith), here) refl in
    let room = rw split at c.loop-a.invariant.room in
    let within = rw split at (arms_within i es) in
    let dec : 4 * arms_nodes (arms (map arm es)) + 2 ≡ t = c.decreases in
    (omega (arith, within, dec), omega (arith, room))

pub stmt_of-while_of-requires : goal.stmt_of-while_of-requires
stmt_of-while_of-requires t c =
    let e : stmt c.args.s.now ≡ WhileS (expr c.in-While.e) (stmt c.deref-in-While.result.now) c.in-While.span = search (rules, tree.the_lemmas) in
    let kn : stmt_nodes (stmt c.args.s.now) ≡ expr_nodes (expr c.in-While.e) + stmt_nodes (stmt c.deref-in-While.result.now) + 1 = ap stmt_nodes e in
    let dec : 4 * stmt_nodes (stmt c.args.s.now) ≡ t = c.decreases in
    (omega (arith, kn, dec), omega (arith, kn, c.requires.room))

pub while_of-stmt_of-y-requires : goal.while_of-stmt_of-y-requires
while_of-stmt_of-y-requires t c =
    let dec : 4 * (expr_nodes (expr c.args.e.now) + stmt_nodes (stmt c.args.a.now)) + 2 ≡ t = c.decreases in
    let same : length (st c.value_in.new.state).sizes ≡ length (st c.args.state.now).sizes = ap (λ (ns : List ℕ). length ns) c.value_in.ensures.sizes in
    (omega (arith, dec), omega (arith, same, c.requires.room))

pub stmt_of-do_while_of-requires : goal.stmt_of-do_while_of-requires
stmt_of-do_while_of-requires t c =
    let e : stmt c.args.s.now ≡ DoWhileS (stmt c.deref-in-DoWhile.result.now) (expr c.in-DoWhile.e) c.in-DoWhile.span = search (rules, tree.the_lemmas) in
    let kn : stmt_nodes (stmt c.args.s.now) ≡ stmt_nodes (stmt c.deref-in-DoWhile.result.now) + expr_nodes (expr c.in-DoWhile.e) + 1 = ap stmt_nodes e in
    let dec : 4 * stmt_nodes (stmt c.args.s.now) ≡ t = c.decreases in
    (omega (arith, kn, dec), omega (arith, kn, c.requires.room))

pub do_while_of-stmt_of-requires : goal.do_while_of-stmt_of-requires
do_while_of-stmt_of-requires t c =
    let dec : 4 * (stmt_nodes (stmt c.args.a.now) + expr_nodes (expr c.args.e.now)) + 2 ≡ t = c.decreases in
    (omega (arith, dec), omega (arith, c.requires.room))

pub stmt_of-maybe_of-requires : goal.stmt_of-maybe_of-requires
stmt_of-maybe_of-requires t c =
    let kn : stmt_nodes (stmt c.args.s.now) ≡ maybe_nodes (maybe_s c.in-For.first) + maybe_expr_nodes (option_map expr c.in-For.test) + maybe_expr_nodes (option_map expr c.in-For.step) + stmt_nodes (stmt c.in-For.a.value) + 1 = rw (c.in-For.is, view-for c.in-For.first c.in-For.test c.in-For.step c.in-For.a c.in-For.span) refl in
    let dec : 4 * stmt_nodes (stmt c.args.s.now) ≡ t = c.decreases in
    let same : length (st c.open-in-For.new.self).sizes ≡ length (st c.args.state.now).sizes = ap (λ (z : St). length z.sizes) c.in_ok-open-in-For.ensures.opened in
    let fits : length (st c.open-in-For.new.self).sizes + maybe_nodes (maybe_s c.in-For.first) ≤ 2 ^ 32 = omega (arith, kn, same, c.requires.room) in
    (omega (arith, kn, dec), fits)

pub stmt_of-stmt_of-w-requires : goal.stmt_of-stmt_of-w-requires
stmt_of-stmt_of-w-requires t c =
    let f = fn_of c.args.globals.now c.args.gives.now in
    let kn : stmt_nodes (stmt c.args.s.now) ≡ maybe_nodes (maybe_s c.in-For.first) + maybe_expr_nodes (option_map expr c.in-For.test) + maybe_expr_nodes (option_map expr c.in-For.step) + stmt_nodes (stmt c.in-For.a.value) + 1 = rw (c.in-For.is, view-for c.in-For.first c.in-For.test c.in-For.step c.in-For.a c.in-For.span) refl in
    let boxed : stmt_nodes (stmt c.deref-in-For.result.now) ≡ stmt_nodes (stmt c.in-For.a.value) = ap (λ (z : Stmt). stmt_nodes (stmt z)) c.deref-in-For.ensures in
    let dec : 4 * stmt_nodes (stmt c.args.s.now) ≡ t = c.decreases in
    let x : typing.maybe_statement f (opened (st c.args.state.now)) c.args.jumps.breaks c.args.jumps.continues (maybe_s c.in-For.first) ≡ Ok (maybe_z c.in_ok-x-in-For-3.x, st c.maybe_of.new.state) = search rules in
    let most : length (st c.maybe_of.new.state).sizes ≤ length (st c.args.state.now).sizes + maybe_nodes (maybe_s c.in-For.first) = maybe_statement_counts f (opened (st c.args.state.now)) (st c.maybe_of.new.state) c.args.jumps.breaks c.args.jumps.continues (maybe_s c.in-For.first) (maybe_z c.in_ok-x-in-For-3.x) x in
    let tested : length (st c.maybe_value-y.new.state).sizes ≡ length (st c.maybe_of.new.state).sizes = ap (λ (ns : List ℕ). length ns) c.maybe_value-y.ensures.sizes in
    let stepped : length (st c.maybe_value-z.new.state).sizes ≡ length (st c.maybe_value-y.new.state).sizes = ap (λ (ns : List ℕ). length ns) c.maybe_value-z.ensures.sizes in
    let fits : length (st c.maybe_value-z.new.state).sizes + stmt_nodes (stmt c.deref-in-For.result.now) ≤ 2 ^ 32 = omega (arith, kn, boxed, most, tested, stepped, c.requires.room) in
    (omega (arith, kn, boxed, dec), fits)

pub stmt_of-arms_of-xs-requires : goal.stmt_of-arms_of-xs-requires
stmt_of-arms_of-xs-requires t c =
    let e : stmt c.args.s.now ≡ SwitchS (expr c.in-Switch.e) (arms (map arm c.as_slice-all.result.now)) c.in-Switch.span = search (rules, tree.the_lemmas) in
    let kn : stmt_nodes (stmt c.args.s.now) ≡ expr_nodes (expr c.in-Switch.e) + arms_nodes (arms (map arm c.as_slice-all.result.now)) + 1 = ap stmt_nodes e in
    let dec : 4 * stmt_nodes (stmt c.args.s.now) ≡ t = c.decreases in
    let same : length (st c.value_in-in-Switch.new.state).sizes ≡ length (st c.args.state.now).sizes = ap (λ (ns : List ℕ). length ns) c.value_in-in-Switch.ensures.sizes in
    let inner : st c.open-in-Switch.new.self ≡ opened (st c.value_in-in-Switch.new.state) = search rules in
    let begun : length (st c.open-in-Switch.new.self).sizes ≡ length (st c.value_in-in-Switch.new.state).sizes = ap (λ (z : St). length z.sizes) inner in
    let fits : length (st c.open-in-Switch.new.self).sizes + arms_nodes (arms (map arm c.as_slice-all.result.now)) ≤ 2 ^ 32 = omega (arith, kn, same, begun, c.requires.room) in
    (omega (arith, kn, dec), fits)

pub maybe_of-stmt_of-requires : goal.maybe_of-stmt_of-requires
maybe_of-stmt_of-requires t c =
    let kn : maybe_nodes (maybe_s c.args.s.now) ≡ stmt_nodes (stmt c.in-Some.s.value) = rw c.in-Some.is refl in
    let boxed : stmt_nodes (stmt c.deref.result.now) ≡ stmt_nodes (stmt c.in-Some.s.value) = ap (λ (z : Stmt). stmt_nodes (stmt z)) c.deref.ensures in
    let dec : 4 * maybe_nodes (maybe_s c.args.s.now) + 1 ≡ t = c.decreases in
    let fits : length (st c.args.state.now).sizes + stmt_nodes (stmt c.deref.result.now) ≤ 2 ^ 32 = omega (arith, kn, boxed, c.requires.room) in
    (omega (arith, kn, boxed, dec), fits)

pub arm_of-stmt_of-requires : goal.arm_of-stmt_of-requires
arm_of-stmt_of-requires t c =
    let e : arm c.args.a.now ≡ StmtA (stmt c.in-Stmt.s) = search (rules, tree_arm.the_lemmas) in
    let kn : arm_nodes (arm c.args.a.now) ≡ stmt_nodes (stmt c.in-Stmt.s) = ap arm_nodes e in
    let dec : 4 * arm_nodes (arm c.args.a.now) + 1 ≡ t = c.decreases in
    let fits : length (st c.args.state.now).sizes + stmt_nodes (stmt c.in-Stmt.s) ≤ 2 ^ 32 = omega (arith, kn, c.requires.room) in
    (omega (arith, kn, dec), fits)

pub stmt_of-vars_of-requires : goal.stmt_of-vars_of-requires
stmt_of-vars_of-requires t c =
    let e : stmt c.args.s.now ≡ VarsS (map var c.as_slice-in-Vars.result.now) c.in-Vars.span = search (rules, tree.the_lemmas) in
    let kn : stmt_nodes (stmt c.args.s.now) ≡ vars_nodes (map var c.as_slice-in-Vars.result.now) + 1 = ap stmt_nodes e in
    record { room = omega (arith, kn, c.requires.room) }
