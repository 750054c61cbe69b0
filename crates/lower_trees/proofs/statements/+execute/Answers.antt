use Rattle.std.proofs.Common.{rules, arith, ◌≡◌, ◌≤◌, ◌<◌, ◌+◌, ◌*◌, ◌++◌, length, length-append, drop, map, sym, ap, ◌∙◌, refl, subst}
use Rattle.std.specs.Prelude.{OnOk}
use Rattle.c_types.specs.View.{texpr, tstmt, tstmts, tarm, tarms}
use Rattle.c_types.specs.Typed.{BlockZ, IfZ, WhileZ, DoWhileZ, ForZ, SwitchZ, SomeZ, MoreZ, MoreB, StmtB}
use Rattle.c_types.specs.Nodes.{typed_nodes, statement_nodes, maybe_statement_nodes, statements_nodes, arms_nodes}
use Rattle.c_types.specs.declared.typed.TStmt.{the_lemmas}
use Rattle.c_types.specs.declared.typed.TArm as al
use Rattle.lower_trees.specs.Counts.{value_temps, stmt_temps, other_temps, stmts_temps, arms_temps, value_sizes, stmt_sizes, other_sizes, stmts_sizes, arms_sizes}
use Rattle.lower_trees.specs.Statements.{depth}
use Rattle.lower_trees.specs.inner.MaybeStatements.{other_of, maybe_texpr}
use Rattle.lower_trees.specs.inner.StatementParts.{CanLower, CanLowerOne, AddsStatement}
use Rattle.lower_trees.specs.View.{shape_of, jump_of}
use Rattle.lower_trees.proofs.StatementForms.{if_length, do_while_length, arms_many}
use Rattle.lower_trees.proofs.Rooms.{room_for}
use Rattle.lower_trees.proofs.Viewed.{view-If, view-For, maybe_is, stmts_left, arms_left, stmts_drop, arms_drop}
use Rattle.lower_trees.proofs.statements.+execute.Goals as goal

pub statement-block-requires : goal.statement-block-requires
statement-block-requires t c =
    let s = tstmt c.args.a.now in
    let z = BlockZ c.as_slice-made.result.now (tstmts (map tstmt c.as_slice.result.now)) in
    let e : s ≡ z = search (rules, the_lemmas) in
    let kn : statement_nodes s ≡ statement_nodes z = ap statement_nodes e in
    let dec : 4 * statement_nodes s ≡ t = c.decreases in
    let fall : 4 * statements_nodes (tstmts (map tstmt c.as_slice.result.now)) + 2 < t = omega (arith, kn, dec) in
    (fall, subst (λ z. CanLowerOne c.args.s.now c.args.exits.continues z c.args.out.now) e c.requires.room)

pub statement-choice-requires : goal.statement-choice-requires
statement-choice-requires t c =
    let s = tstmt c.args.a.now in
    let a = tstmt c.deref.result.now in
    let rest = other_of c.in-If.rest in
    let z = IfZ (texpr c.in-If.x) a rest in
    let e : s ≡ z = ap tstmt c.in-If.is ∙ view-If c.in-If.x c.in-If.body c.in-If.rest ∙ ap (λ b. IfZ (texpr c.in-If.x) (tstmt b) rest) (sym c.deref.ensures) in
    let kn : statement_nodes s ≡ statement_nodes z = ap statement_nodes e in
    let dec : 4 * statement_nodes s ≡ t = c.decreases in
    let fall : 4 * (statement_nodes a + maybe_statement_nodes rest) + 3 < t = omega (arith, kn, dec) in
    (fall, subst (λ z. CanLowerOne c.args.s.now c.args.exits.continues z c.args.out.now) e c.requires.room)

pub statement-for_loop-requires : goal.statement-for_loop-requires
statement-for_loop-requires t c =
    let s = tstmt c.args.a.now in
    let made = c.as_slice-made-in-For.result.now in
    let first = other_of c.in-For.first in
    let test = maybe_is c.as_ref.result c.in-For.test c.as_ref.ensures.value in
    let step = maybe_is c.as_ref-in-For.result c.in-For.step c.as_ref-in-For.ensures.value in
    let a = tstmt c.deref-in-For.result.now in
    let z = ForZ made first (maybe_texpr c.as_ref.result) (maybe_texpr c.as_ref-in-For.result) a in
    let same = view-For c.in-For.made c.in-For.first c.in-For.test c.in-For.step c.in-For.body in
    let e : s ≡ z = ap tstmt c.in-For.is ∙ same ∙ (λ i. ForZ (sym c.as_slice-made-in-For.ensures i) first (test i) (step i) (tstmt (sym c.deref-in-For.ensures i))) in
    let kn : statement_nodes s ≡ statement_nodes z = ap statement_nodes e in
    let dec : 4 * statement_nodes s ≡ t = c.decreases in
    let fall : 4 * (maybe_statement_nodes first + statement_nodes a) + 2 < t = omega (arith, kn, dec) in
    (fall, subst (λ z. CanLowerOne c.args.s.now c.args.exits.continues z c.args.out.now) e c.requires.room)

pub statement-switch-requires : goal.statement-switch-requires
statement-switch-requires t c =
    let s = tstmt c.args.a.now in
    let z = SwitchZ (texpr c.in-Switch.value) c.as_slice-made-in-Switch.result.now (tarms (map tarm c.as_slice-arms.result.now)) in
    let e : s ≡ z = search (rules, the_lemmas) in
    let kn : statement_nodes s ≡ statement_nodes z = ap statement_nodes e in
    let dec : 4 * statement_nodes s ≡ t = c.decreases in
    let fall : 4 * arms_nodes (tarms (map tarm c.as_slice-arms.result.now)) + 3 < t = omega (arith, kn, dec) in
    (fall, subst (λ z. CanLowerOne c.args.s.now c.args.exits.continues z c.args.out.now) e c.requires.room)

pub statement-while_loop-requires : goal.statement-while_loop-requires
statement-while_loop-requires t c =
    let s = tstmt c.args.a.now in
    let z = WhileZ (texpr c.in-While.x) (tstmt c.deref-in-While.result.now) in
    let e : s ≡ z = search (rules, the_lemmas) in
    let kn : statement_nodes s ≡ statement_nodes z = ap statement_nodes e in
    let dec : 4 * statement_nodes s ≡ t = c.decreases in
    let fall : 4 * statement_nodes (tstmt c.deref-in-While.result.now) + 2 < t = omega (arith, kn, dec) in
    let room : CanLowerOne c.args.s.now c.args.exits.continues z c.args.out.now = subst (λ z. CanLowerOne c.args.s.now c.args.exits.continues z c.args.out.now) e c.requires.room in
    (fall, record { next = room.next; local = room.local; few = room.few; jump = omega arith })

pub statement-do_while_loop-requires : goal.statement-do_while_loop-requires
statement-do_while_loop-requires t c =
    let s = tstmt c.args.a.now in
    let z = DoWhileZ (tstmt c.deref-in-DoWhile.result.now) (texpr c.in-DoWhile.x) in
    let e : s ≡ z = search (rules, the_lemmas) in
    let kn : statement_nodes s ≡ statement_nodes z = ap statement_nodes e in
    let dec : 4 * statement_nodes s ≡ t = c.decreases in
    let fall : 4 * statement_nodes (tstmt c.deref-in-DoWhile.result.now) + 2 < t = omega (arith, kn, dec) in
    let room : CanLowerOne c.args.s.now c.args.exits.continues z c.args.out.now = subst (λ z. CanLowerOne c.args.s.now c.args.exits.continues z c.args.out.now) e c.requires.room in
    (fall, record { next = room.next; local = room.local; few = room.few; jump = omega arith })

pub nested-statement-answer-requires : goal.nested-statement-answer-requires
nested-statement-answer-requires t c =
    let dec : 4 * statement_nodes (tstmt c.args.a.now) + 1 ≡ t = c.decreases in
    let fall : 4 * statement_nodes (tstmt c.args.a.now) < t = omega (arith, dec) in
    (fall, record { next = c.requires.room.next; local = c.requires.room.local; few = c.requires.room.few; jump = c.requires.room.jump })

pub other-statement-requires : goal.other-statement-requires
other-statement-requires t c =
    let h = shape_of c.args.s.now in
    let e : other_of c.args.a.now ≡ SomeZ (tstmt c.deref.result.now) = ap other_of c.in-Some.is ∙ ap (λ z. SomeZ (tstmt z)) (sym c.deref.ensures) in
    let kn : maybe_statement_nodes (other_of c.args.a.now) ≡ statement_nodes (tstmt c.deref.result.now) = ap maybe_statement_nodes e in
    let dec : 4 * maybe_statement_nodes (other_of c.args.a.now) + 1 ≡ t = c.decreases in
    let fall : 4 * statement_nodes (tstmt c.deref.result.now) < t = omega (arith, kn, dec) in
    (fall, subst (λ z. CanLower c.args.exits.continues (other_temps z) (other_sizes h z) (maybe_statement_nodes z) c.args.out.now) e c.requires.room)

pub block-statements-requires : goal.block-statements-requires
block-statements-requires t c =
    let xs = tstmts (map tstmt c.args.body.now) in
    let dec : 4 * statements_nodes xs + 2 ≡ t = c.decreases in
    let fall : 4 * statements_nodes xs + 1 < t = omega (arith, dec) in
    let few : statements_nodes xs + 1 ≤ 1000000 = c.requires.room.few in
    (fall, record { next = c.requires.room.next; local = c.requires.room.local; few = omega (arith, few); jump = c.requires.room.jump })

pub choice-nested-requires : goal.choice-nested-requires
choice-nested-requires t c =
    let h = shape_of c.args.s.now in
    let x = texpr c.args.x.now in
    let a = tstmt c.args.branches.0.now in
    let rest = other_of c.args.branches.1.now in
    let kl : length (stmt_sizes h (IfZ x a rest)) ≡ length (value_sizes h x) + (length (stmt_sizes h a) + length (other_sizes h rest)) = if_length h (IfZ x a rest) x a rest refl in
    let dec : 4 * (statement_nodes a + maybe_statement_nodes rest) + 3 ≡ t = c.decreases in
    let fall : 4 * statement_nodes a + 1 < t = omega (arith, dec) in
    let jump = c.requires.room.jump in
    let done = c.in_ok-condition.ensures.adds in
    let temps : value_temps x + 1 + stmt_temps a ≤ stmt_temps (IfZ x a rest) = omega arith in
    let sizes : length (value_sizes h x) + length (stmt_sizes h a) ≤ length (stmt_sizes h (IfZ x a rest)) = omega (arith, kl) in
    let few : statement_nodes a ≤ statement_nodes (IfZ x a rest) = omega arith in
    (fall, room_for c.args.exits.continues c.requires.room done temps sizes few (omega (arith, jump)))

pub do_while_loop-nested-requires : goal.do_while_loop-nested-requires
do_while_loop-nested-requires t c =
    let h = shape_of c.args.s.now in
    let a = tstmt c.args.body.now in
    let x = texpr c.args.x.now in
    let kl : length (stmt_sizes h (DoWhileZ a x)) ≡ length (stmt_sizes h a) + length (value_sizes h x) = do_while_length h (DoWhileZ a x) a x refl in
    let rt : c.args.out.now.next + (stmt_temps a + (value_temps x + 1)) ≤ 1000000 = c.requires.room.next in
    let rl : length c.args.out.now.locals.items + length (stmt_sizes h (DoWhileZ a x)) ≤ 1000000 = c.requires.room.local in
    let rn : statement_nodes a + typed_nodes x + 1 ≤ 1000000 = c.requires.room.few in
    let dec : 4 * statement_nodes a + 2 ≡ t = c.decreases in
    let fall : 4 * statement_nodes a + 1 < t = omega (arith, dec) in
    (fall, record { next = omega (arith, rt); local = omega (arith, kl, rl); few = omega (arith, rn); jump = omega arith })

pub statements-statement-requires : goal.statements-statement-requires
statements-statement-requires t c =
    let h = shape_of c.args.s.now in
    let xs = tstmts (map tstmt c.args.body.now) in
    let rest = tstmts (map tstmt (drop (c.loop-a.a-index + 1) c.args.body.now)) in
    let a = tstmt c.a-item.result in
    let left : tstmts (map tstmt (drop c.loop-a.a-index c.args.body.now)) ≡ MoreZ a rest = stmts_left c.args.body.now c.loop-a.a-index c.a-item.result c.loop-a-test.true c.a-item.is in
    let kt : c.loop-a.out.next + (stmt_temps a + stmts_temps rest) ≡ c.args.out.now.next + stmts_temps xs = ap (λ z. c.loop-a.out.next + stmts_temps z) (sym left) ∙ c.loop-a.invariant.temps in
    let kl : length c.loop-a.out.locals.items + length (stmt_sizes h a ++ stmts_sizes h rest) ≡ (length c.args.out.now.locals.items) + length (stmts_sizes h xs) = ap (λ z. length c.loop-a.out.locals.items + length (stmts_sizes h z)) (sym left) ∙ c.loop-a.invariant.local in
    let two = length-append (stmt_sizes h a) (stmts_sizes h rest) in
    let kn : statement_nodes a + statements_nodes rest ≤ 1000000 = subst (λ z. statements_nodes z ≤ 1000000) left c.loop-a.invariant.few in
    let on : c.args.out.now.next ≤ c.loop-a.out.next = c.loop-a.invariant.on in
    let rt : c.args.out.now.next + stmts_temps xs ≤ 1000000 = c.requires.room.next in
    let rl : (length c.args.out.now.locals.items) + length (stmts_sizes h xs) ≤ 1000000 = c.requires.room.local in
    let rj : depth (jump_of c.args.exits.continues) ≤ c.args.out.now.next = c.requires.room.jump in
    let dec : 4 * statements_nodes xs + 1 ≡ t = c.decreases in
    let most : statement_nodes a + statements_nodes rest ≤ statements_nodes xs = subst (λ z. statements_nodes z ≤ statements_nodes xs) left (stmts_drop c.loop-a.a-index c.args.body.now) in
    let fall : 4 * statement_nodes a < t = omega (arith, most, dec) in
    (fall, record { next = omega (arith, kt, rt); local = omega (arith, kl, two, rl); few = omega (arith, kn); jump = omega (arith, rj, on) })

pub labelled-nested-requires : goal.labelled-nested-requires
labelled-nested-requires t c =
    let h = shape_of c.args.s.now in
    let xs = tarms (map tarm c.args.arms.now) in
    let rest = tarms (map tarm (drop (c.loop-arm.arm-index + 1) c.args.arms.now)) in
    let a = tstmt c.in-Stmt.a in
    let is : tarm c.arm-item.result ≡ StmtB a = search (rules, al.the_lemmas) in
    let left : tarms (map tarm (drop c.loop-arm.arm-index c.args.arms.now)) ≡ MoreB (StmtB a) rest = arms_left c.args.arms.now c.loop-arm.arm-index c.arm-item.result c.loop-arm-test.true c.arm-item.is ∙ ap (λ z. MoreB z rest) is in
    let kt : c.loop-arm.out.next + (stmt_temps a + arms_temps rest) ≡ c.args.out.now.next + arms_temps xs = ap (λ z. c.loop-arm.out.next + arms_temps z) (sym left) ∙ c.loop-arm.invariant.temps in
    let kl : (length c.loop-arm.out.locals.items) + length (stmt_sizes h a ++ arms_sizes h rest) ≡ (length c.args.out.now.locals.items) + length (arms_sizes h xs) = ap (λ z. (length c.loop-arm.out.locals.items) + length (arms_sizes h z)) (sym left) ∙ c.loop-arm.invariant.local in
    let two = length-append (stmt_sizes h a) (arms_sizes h rest) in
    let kn : statement_nodes a + arms_nodes rest ≤ 1000000 = subst (λ z. arms_nodes z ≤ 1000000) left c.loop-arm.invariant.few in
    let on : c.args.out.now.next ≤ c.loop-arm.out.next = c.loop-arm.invariant.on in
    let rt : c.args.out.now.next + arms_temps xs ≤ 1000000 = c.requires.room.next in
    let rl : (length c.args.out.now.locals.items) + length (arms_sizes h xs) ≤ 1000000 = c.requires.room.local in
    let rj : depth (jump_of c.args.exits.continues) ≤ c.args.out.now.next = c.requires.room.jump in
    let dec : 4 * arms_nodes xs + 2 ≡ t = c.decreases in
    let most : statement_nodes a + arms_nodes rest ≤ arms_nodes xs = subst (λ z. arms_nodes z ≤ arms_nodes xs) left (arms_drop c.loop-arm.arm-index c.args.arms.now) in
    let fall : 4 * statement_nodes a + 1 < t = omega (arith, most, dec) in
    (fall, record { next = omega (arith, kt, rt); local = omega (arith, kl, two, rl); few = omega (arith, kn); jump = omega (arith, rj, on) })

pub statement-returns-in-Block : goal.statement-returns-in-Block
statement-returns-in-Block t c =
    let e : tstmt c.args.a.now ≡ BlockZ c.as_slice-made.result.now (tstmts (map tstmt c.as_slice.result.now)) = search (rules, the_lemmas) in
    record { adds = subst (λ z. OnOk c.block.result (AddsStatement c.args.s.now c.args.exits z c.args.out.now c.block.new.out)) (sym e) c.block.ensures.adds }

pub statement-returns-in-If : goal.statement-returns-in-If
statement-returns-in-If t c =
    let rest = other_of c.in-If.rest in
    let e : tstmt c.args.a.now ≡ IfZ (texpr c.in-If.x) (tstmt c.deref.result.now) rest = ap tstmt c.in-If.is ∙ view-If c.in-If.x c.in-If.body c.in-If.rest ∙ ap (λ b. IfZ (texpr c.in-If.x) (tstmt b) rest) (sym c.deref.ensures) in
    record { adds = subst (λ z. OnOk c.choice.result (AddsStatement c.args.s.now c.args.exits z c.args.out.now c.choice.new.out)) (sym e) c.choice.ensures.adds }

pub statement-returns-in-For : goal.statement-returns-in-For
statement-returns-in-For t c =
    let s = tstmt c.args.a.now in
    let made = c.as_slice-made-in-For.result.now in
    let first = other_of c.in-For.first in
    let test = maybe_is c.as_ref.result c.in-For.test c.as_ref.ensures.value in
    let step = maybe_is c.as_ref-in-For.result c.in-For.step c.as_ref-in-For.ensures.value in
    let a = tstmt c.deref-in-For.result.now in
    let z = ForZ made first (maybe_texpr c.as_ref.result) (maybe_texpr c.as_ref-in-For.result) a in
    let same = view-For c.in-For.made c.in-For.first c.in-For.test c.in-For.step c.in-For.body in
    let e : s ≡ z = ap tstmt c.in-For.is ∙ same ∙ (λ i. ForZ (sym c.as_slice-made-in-For.ensures i) first (test i) (step i) (tstmt (sym c.deref-in-For.ensures i))) in
    record { adds = subst (λ z. OnOk c.for_loop.result (AddsStatement c.args.s.now c.args.exits z c.args.out.now c.for_loop.new.out)) (sym e) c.for_loop.ensures.adds }

pub statement-returns-in-Switch : goal.statement-returns-in-Switch
statement-returns-in-Switch t c =
    let e : tstmt c.args.a.now ≡ SwitchZ (texpr c.in-Switch.value) c.as_slice-made-in-Switch.result.now (tarms (map tarm c.as_slice-arms.result.now)) = search (rules, the_lemmas) in
    record { adds = subst (λ z. OnOk c.switch.result (AddsStatement c.args.s.now c.args.exits z c.args.out.now c.switch.new.out)) (sym e) c.switch.ensures.adds }

pub switch-begin_switch-requires-clause-few : goal.switch-begin_switch-requires-clause-few
switch-begin_switch-requires-clause-few t c =
    let few = arms_many c.args.of.arms.now in
    let all : typed_nodes (texpr c.args.of.value.now) + arms_nodes (tarms (map tarm c.args.of.arms.now)) + 1 ≤ 1000000 = c.requires.room.few in
    omega (arith, few, all)
