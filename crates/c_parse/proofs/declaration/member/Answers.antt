use Rattle.std.proofs.Common.{◌≡◌, map, ℕ, suc, ◌-◌, true, false, [], ◌∷◌, ◌++◌, Ok, arith, subst}
use Rattle.std.proofs.lemmas.Result.{err_from_is_err_and}
use Rattle.std.proofs.lemmas.List.{map_push}
use Rattle.kit_base.specs.Gives.{Fails}
use Rattle.c_parse.specs.inner.Reader.{at_comma, behind}
use Rattle.c_parse.specs.inner.ReadingDeclarations.{member_at, behind_others}
use Rattle.c_parse.specs.Tok.{toks}
use Rattle.c_parse.specs.inner.View.{context}
use Rattle.c_tree.specs.View.{type, var}
use Rattle.c_parse.proofs.Less.{field_less}
use Rattle.c_parse.proofs.Turns.{behind_up}
use Rattle.c_parse.proofs.VarLoops.{fields_start, fields_fail, fields_unended, fields_end, fields_turn}
use Rattle.c_parse.proofs.declaration.member.Goals as goal

pub fields-init : goal.fields-init
fields-init c =
    let found : map var c.push.new.self.items ≡ map var c.args.before.items ++ (var c.in_ok-first.first ∷ []) = rw c.in_ok-push.ensures.items (map_push var c.args.before.items c.in_ok-first.first) in
    fields_start (context c.args.scope.now) (c.args.room - 1) (toks c.args.tokens.now) (toks c.in_ok-ty.rest.now) (toks c.in_ok-first.rest.now) (type c.in_ok-ty.ty) (var c.in_ok-first.first) (map var c.args.before.items) (map var c.push.new.self.items) c.in_ok-ty.ensures.gives c.in_ok-first.ensures.gives found

pub returns-in_err-next : goal.returns-in_err-next
returns-in_err-next c =
    let one : suc (c.args.room - 1) ≡ c.args.room = omega arith in
    let some : at_comma (toks c.fields.rest.now) ≡ true = grind arith in
    let bad = rw c.behind.ensures at c.in_err-next.ensures.gives in
    let p = err_from_is_err_and c.from_residual-in_err-next.result c.from_residual-in_err-next.ensures.1 in
    let all = fields_fail _ _ _ _ _ _ c.fields.invariant c.in_err-next.field-0.0 (type c.in_ok-ty-2.ty) (toks c.in_ok-ty-2._behind_type.now) some c.in_ok-ty-2.ensures.gives bad in
    record { gives = rw (p.1, p.2) (subst (λ (k : ℕ). Fails c.in_err-next.field-0.0 (behind_others (map var c.args.before.items) (member_at (context c.args.scope.now) k (toks c.args.tokens.now)))) one all) }

pub fields-smaller : goal.fields-smaller
fields-smaller c =
    let good = rw c.behind.ensures at c.in_ok-next.ensures.gives in
    omega (arith, field_less (context c.args.scope.now) (type c.in_ok-ty-2.ty) (behind (toks c.fields.rest.now)) (var c.in_ok-next.next, toks c.in_ok-next.after.now) good, behind_up (toks c.fields.rest.now))

pub fields-preserved : goal.fields-preserved
fields-preserved c =
    let some : at_comma (toks c.fields.rest.now) ≡ true = grind arith in
    let good = rw c.behind.ensures at c.in_ok-next.ensures.gives in
    let pushed : map var c.push-in-fields.new.self.items ≡ map var c.fields.found.items ++ (var c.in_ok-next.next ∷ []) = rw c.in_ok-push-2.ensures.items (map_push var c.fields.found.items c.in_ok-next.next) in
    rw pushed (fields_turn _ _ _ _ _ _ c.fields.invariant (type c.in_ok-ty-2.ty) (toks c.in_ok-ty-2._behind_type.now) (var c.in_ok-next.next) (toks c.in_ok-next.after.now) some c.in_ok-ty-2.ensures.gives good)

pub returns-in_err-rest : goal.returns-in_err-rest
returns-in_err-rest c =
    let one : suc (c.args.room - 1) ≡ c.args.room = omega arith in
    let none : at_comma (toks c.fields.rest.now) ≡ false = grind arith in
    let p = err_from_is_err_and c.from_residual-in_err-rest.result c.from_residual-in_err-rest.ensures.1 in
    let all = fields_unended _ _ _ _ _ _ c.fields.invariant c.in_err-rest.field-0.0 none c.in_err-rest.ensures in
    record { gives = rw (p.1, p.2) (subst (λ (k : ℕ). Fails c.in_err-rest.field-0.0 (behind_others (map var c.args.before.items) (member_at (context c.args.scope.now) k (toks c.args.tokens.now)))) one all) }

pub returns : goal.returns
returns c =
    let one : suc (c.args.room - 1) ≡ c.args.room = omega arith in
    let none : at_comma (toks c.fields.rest.now) ≡ false = grind arith in
    let all = fields_end _ _ _ _ _ _ c.fields.invariant (toks c.in_ok-rest.rest.now) none c.in_ok-rest.ensures in
    record { gives = subst (λ (k : ℕ). behind_others (map var c.args.before.items) (member_at (context c.args.scope.now) k (toks c.args.tokens.now)) ≡ Ok (map var c.fields.found.items, toks c.in_ok-rest.rest.now)) one all }
