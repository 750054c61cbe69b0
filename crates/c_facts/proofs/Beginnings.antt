-- The texts after what is read begin with those before it.
use Rattle.std.proofs.Common.{◌≡◌, ℕ, ◌+◌, ◌≤◌, Bool, true, false, List, [], ◌∷◌, ◌++◌, length, Result, Ok, Err, refl, sym, ap, nat_le, arith}
use Rattle.std.specs.Prelude.{if◌then◌else◌}
use Rattle.std.proofs.lemmas.Bool.Decides.{nat_tests}
use Rattle.c_tree.specs.declared.span.Span.{Span}
use Rattle.c_tree.specs.Tree.{ExprT, ExprTs, TypeT}
use Rattle.c_types.specs.Types.{Ty}
use Rattle.c_types.specs.Typed.{TExprT, TExprTs}
use Rattle.c_rules.specs.declared.code.Code.TheVariants.{TooLarge}
use Rattle.c_exprs.specs.Env.{Text, Ctx}
use Rattle.c_exprs.specs.declared.error.Fault.{Fault}
use Rattle.c_exprs.specs.Faults.{at, text_words, text_limit, with_text}
use Rattle.c_exprs.specs.Types as good
use Rattle.c_exprs.specs.Types.{Types, Values, Used, AllValues, Names}
use Rattle.c_facts.proofs.Within.{Begins}
use Rattle.c_facts.proofs.Fronts.{begins_itself, begins_through}

-- the answer to a text, by the test of the limit
abbrev numbered_text : ℕ → List Text → Result (ℕ × List Text) Fault
numbered_text k us = Ok (k, us)

abbrev text_if : Bool → ℕ → List Text → Fault → Result (ℕ × List Text) Fault
text_if test k us f = if test then numbered_text k us else Err f

text_is : (test : Bool) (f : Fault) (j k : ℕ) (us vs : List Text) → text_if test j us f ≡ numbered_text k vs → (j ≡ k) × (vs ≡ us)
text_is true f j k us vs h =
    let p : ℕ × List Text = (j, us) in
    let q : ℕ × List Text = (k, vs) in
    let e : p ≡ q = cc in
    (ap (λ (z : ℕ × List Text). z.0) e, sym (ap (λ (z : ℕ × List Text). z.1) e))
text_is false f j k us vs h = cc

-- a text comes behind those before it
pub text_behind : (s : Span) (ts us : List Text) (t : Text) (k : ℕ) → with_text s ts t ≡ Ok (k, us) → (length ts ≡ k) × (us ≡ ts ++ t ∷ [])
unfolding with_text
text_behind s ts us t k h = text_is (nat_le (text_words ts + (length t + 1)) text_limit) (at s TooLarge) (length ts) k (ts ++ t ∷ []) us h

-- and all of them are within the limit
text_within : (test : Bool) (f : Fault) (k : ℕ) (us : List Text) (r : ℕ × List Text) → text_if test k us f ≡ Ok r → test ≡ true
text_within true f k us r h = refl
text_within false f k us r h = cc

small : (m n limit : ℕ) → nat_le (m + n) limit ≡ true → n ≤ limit
small m n limit h = grind (arith, nat_tests)

pub text_fits : (s : Span) (ts us : List Text) (t : Text) (k : ℕ) → with_text s ts t ≡ Ok (k, us) → length t + 1 ≤ text_limit
unfolding with_text
text_fits s ts us t k h = small (text_words ts) (length t + 1) text_limit (text_within (nat_le (text_words ts + (length t + 1)) text_limit) (at s TooLarge) (length ts) (ts ++ t ∷ []) (k, us) h)

pub text_begins : (s : Span) (ts us : List Text) (t : Text) (k : ℕ) → with_text s ts t ≡ Ok (k, us) → Begins ts us
text_begins s ts us t k h = (t ∷ [], (text_behind s ts us t k h).1)

-- ---- expressions, arguments and types

mutual
  pub typed_begins : {c : Ctx} {ts us : List Text} {e : ExprT} {x : TExprT} → Types c ts e x us → Begins ts us
  typed_begins (good.name {ts = ts} g0) = begins_itself ts
  typed_begins (good.number {ts = ts}) = begins_itself ts
  typed_begins (good.text {ts = ts} {us = us} {t = t} {s = s} {k = k} g0) = text_begins s ts us t k g0
  typed_begins (good.null {ts = ts}) = begins_itself ts
  typed_begins (good.paren g0) = typed_begins g0
  typed_begins (good.unary g0 g1) = used_begins g0
  typed_begins (good.binary {ts = ts} {us = us} {vs = vs} g0 g1 g2) = begins_through ts us vs (value_begins g0) (value_begins g1)
  typed_begins (good.assign {ts = ts} {us = us} {vs = vs} g0 g1 g2) = begins_through ts us vs (typed_begins g0) (value_begins g1)
  typed_begins (good.compound {ts = ts} {us = us} {vs = vs} g0 g1 g2) = begins_through ts us vs (typed_begins g0) (value_begins g1)
  typed_begins (good.step g0 g1) = typed_begins g0
  typed_begins (good.index {ts = ts} {us = us} {vs = vs} g0 g1 g2) = begins_through ts us vs (value_begins g0) (value_begins g1)
  typed_begins (good.member g0 g1) = typed_begins g0
  typed_begins (good.arrow g0 g1) = value_begins g0
  typed_begins (good.call g0 g1) = all_begins g0
  typed_begins (good.cast {ts = ts} {us = us} {vs = vs} g0 g1 g2) = begins_through ts us vs (name_begins g0) (value_begins g1)
  typed_begins (good.size_of g0 g1) = name_begins g0

  pub value_begins : {c : Ctx} {ts us : List Text} {e : ExprT} {x : TExprT} → Values c ts e x us → Begins ts us
  value_begins (good.value g0 g1) = typed_begins g0

  pub used_begins : {c : Ctx} {ts us : List Text} {kept : Bool} {e : ExprT} {x : TExprT} → Used c ts kept e x us → Begins ts us
  used_begins (good.as_place g0) = typed_begins g0
  used_begins (good.by_value g0) = value_begins g0

  pub all_begins : {c : Ctx} {ts us : List Text} {named : Bool} {es : ExprTs} {xs : TExprTs} → AllValues c ts named es xs us → Begins ts us
  all_begins (good.none {ts = ts}) = begins_itself ts
  all_begins (good.port g0) = all_begins g0
  all_begins (good.more {ts = ts} {us = us} {vs = vs} g0 g1) = begins_through ts us vs (value_begins g0) (all_begins g1)

  pub name_begins : {c : Ctx} {ts us : List Text} {s : Span} {of : TypeT} {ty : Ty} → Names c ts s of ty us → Begins ts us
  name_begins (good.int {ts = ts}) = begins_itself ts
  name_begins (good.bool {ts = ts}) = begins_itself ts
  name_begins (good.void {ts = ts}) = begins_itself ts
  name_begins (good.named {ts = ts} g0) = begins_itself ts
  name_begins (good.pointer g0) = name_begins g0
  name_begins (good.array {ts = ts} {us = us} {vs = vs} g0 g1 g2 g3) = begins_through ts us vs (value_begins g0) (name_begins g2)
