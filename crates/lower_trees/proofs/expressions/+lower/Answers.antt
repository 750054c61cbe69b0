use Rattle.std.proofs.Common.{rules, ◌≡◌, Some, None, sym, ◌∙◌, subst}
use Rattle.std.specs.Prelude.{OnOk}
use Rattle.c_types.specs.View.{ctype, texpr}
use Rattle.c_types.specs.Typed.{UnaryK, BinaryK, AssignK, IndexK, MemberK}
use Rattle.c_types.specs.declared.typed.TKind.{the_lemmas}
use Rattle.lower_trees.specs.Counts.{temps_of, sizes_of}
use Rattle.lower_trees.specs.Pieces.{listing}
use Rattle.lower_trees.specs.Expressions.{low_kind, lazy_of}
use Rattle.lower_trees.specs.inner.Adding.{AddsNodes}
use Rattle.lower_trees.specs.View.{shape_of, tkind}
use Rattle.lower_trees.proofs.Forms.{on_ok, member_adds, index_adds, binary_adds, lazy_adds, assignment_adds}
use Rattle.lower_trees.proofs.expressions.+lower.Goals as goal

pub kind-returns-in_ok-first-in-None : goal.kind-returns-in_ok-first-in-None
kind-returns-in_ok-first-in-None t c =
    let k = tkind c.args.of.now in
    let x = texpr c.deref-in-None.result.now in
    let y = texpr c.deref-in-None-2.result.now in
    let e : k ≡ BinaryK c.in-Binary.op x y = search (rules, the_lemmas) in
    let none : lazy_of c.in-Binary.op ≡ None = sym c.lazy_of.ensures ∙ c.in-None.is in
    let first = c.in_ok-first-in-None.first in
    let is = c.in_ok-first-in-None.ensures in
    record { adds = on_ok c.second_operand.result (binary_adds (shape_of c.args.s.now) k c.in-Binary.op x y (ctype first.ty.now) (ctype c.args.ty.now) c.args.t first.temporary c.args.out.now c.first_operand.new.out c.second_operand.new.out e none is.ty is.temporary is.adds) c.second_operand.ensures.adds }

pub kind-returns-in_ok-operand_then-in-Some : goal.kind-returns-in_ok-operand_then-in-Some
kind-returns-in_ok-operand_then-in-Some t c =
    let k = tkind c.args.of.now in
    let x = texpr c.deref-in-Some.result.now in
    let y = texpr c.deref-in-Some-2.result.now in
    let e : k ≡ BinaryK c.in-Binary.op x y = search (rules, the_lemmas) in
    let some : lazy_of c.in-Binary.op ≡ Some c.in-Some.and = sym c.lazy_of.ensures ∙ c.in-Some.is in
    record { adds = on_ok c.choice.result (lazy_adds (shape_of c.args.s.now) k c.in-Binary.op c.in-Some.and x y (ctype c.args.ty.now) c.args.t c.args.out.now c.operand_then.new.out c.choice.new.out e some c.in_ok-operand_then-in-Some.ensures.adds) c.choice.ensures.adds }

pub kind-returns-in_ok-place-in-Assign : goal.kind-returns-in_ok-place-in-Assign
kind-returns-in_ok-place-in-Assign t c =
    let k = tkind c.args.of.now in
    let x = texpr c.deref-in-Assign.result.now in
    let y = texpr c.deref-in-Assign-2.result.now in
    let e : k ≡ AssignK c.in-Assign.op x y = search (rules, the_lemmas) in
    let is = c.in_ok-place-in-Assign.ensures in
    record { adds = on_ok c.second_operand-in-Assign.result (assignment_adds (shape_of c.args.s.now) k c.in-Assign.op x y c.in_ok-place-in-Assign.place (ctype c.args.ty.now) c.args.t c.args.out.now c.first_operand-in-Assign.new.out c.second_operand-in-Assign.new.out e is.ty is.temporary is.adds) c.second_operand-in-Assign.ensures.adds }

pub kind-returns-in_ok-first-in-Index : goal.kind-returns-in_ok-first-in-Index
kind-returns-in_ok-first-in-Index t c =
    let k = tkind c.args.of.now in
    let x = texpr c.deref-in-Index.result.now in
    let y = texpr c.deref-in-Index-2.result.now in
    let e : k ≡ IndexK x y = search (rules, the_lemmas) in
    let first = c.in_ok-first-in-Index.first in
    let is = c.in_ok-first-in-Index.ensures in
    record { adds = on_ok c.second_operand-in-Index.result (index_adds (shape_of c.args.s.now) k x y (ctype c.args.ty.now) c.args.t first.temporary c.args.out.now c.first_operand-in-Index.new.out c.second_operand-in-Index.new.out e is.temporary is.adds) c.second_operand-in-Index.ensures.adds }

pub kind-returns-in-Member : goal.kind-returns-in-Member
kind-returns-in-Member t c =
    let k = tkind c.args.of.now in
    let x = texpr c.deref-in-Member.result.now in
    let e : k ≡ MemberK x c.in-Member.offset = search (rules, the_lemmas) in
    record { adds = on_ok c.operand_then-in-Member.result (member_adds (shape_of c.args.s.now) k x c.in-Member.offset (ctype c.args.ty.now) c.args.t c.take-place-in-Member.result c.args.out.now c.take-place-in-Member.new.self c.operand_then-in-Member.new.out e c.take-place-in-Member.ensures.first c.take-place-in-Member.ensures.taken) c.operand_then-in-Member.ensures.adds }

pub kind-returns-in-Unary : goal.kind-returns-in-Unary
kind-returns-in-Unary t c =
    let h = shape_of c.args.s.now in
    let ty = ctype c.args.ty.now in
    let e : tkind c.args.of.now ≡ UnaryK c.in-Unary.op (texpr c.deref.result.now) = search (rules, the_lemmas) in
    record { adds = subst (λ z. OnOk c.unary.result (AddsNodes c.args.out.now c.unary.new.out (λ n m. listing (low_kind h z ty c.args.t n m)) (temps_of z ty) (sizes_of h z))) (sym e) c.unary.ensures.adds }
