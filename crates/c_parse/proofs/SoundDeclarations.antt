-- The variables, members, parameters and values that are read are derived by the grammar.
use Rattle.std.proofs.Common.{◌≡◌, ℕ, zero, suc, ◌≤◌, Bool, true, false, List, [], ◌∷◌, ◌++◌, length, Option, Some, None, Ok, refl, sym, ap, subst, ◌∙◌, append_assoc, arith}
use Rattle.std.specs.Prelude.{max, ◌&&◌}
use Rattle.std.proofs.lemmas.List.{append-nil}
use Rattle.c_lex.specs.declared.token.Punct.TheVariants as m
use Rattle.c_tree.specs.Tree.{ExprT, TypeT, InitT, OneI, ListI, VarT}
use Rattle.c_tree.specs.View.{inits}
use Rattle.c_tree.specs.Depth.{type_depth, init_depth, inits_depth, maybe_expr_depth, var_depth, vars_depth, values_depth}
use Rattle.c_parse.specs.Tok.{Tok, word, mark}
use Rattle.c_parse.specs.Scope.{Context, is_type, span}
use Rattle.c_parse.specs.Lists as l
use Rattle.c_parse.specs.Lists.{Separated, ListEnd}
use Rattle.c_parse.specs.Declarations as g
use Rattle.c_parse.specs.Declarations.{Init, Inits, Field, Var, Vars, Member, Members, Param, Params, Value}
use Rattle.c_parse.specs.inner.Reader.{Got, Reader, loop, behind, name, at_open_brace, at_close_brace, at_assign, at_close_paren, at_void_word, semicolon, end_list}
use Rattle.c_parse.specs.inner.Reading.{level_at, expr_at, type_read}
use Rattle.c_parse.specs.inner.ReadingLists.{separated, listed}
use Rattle.c_parse.specs.inner.ReadingDeclarations.{init_by, init_at, bare_var, field, var_by, var, vars_at, member_at, members_by, members_turn, members_at, param_at, at_void, params_by, params_at, value_by, value}
use Rattle.c_parse.proofs.FrontsRead as f
use Rattle.c_parse.proofs.FrontsRead.{bind_ok, ok_at}
use Rattle.c_parse.proofs.Soundness.{Found, IsSound, repeat_runs, some_at, nothing_read, level_derived, expr_derived, type_derived}
use Rattle.c_parse.proofs.SoundLists.{deepest, separated_sound, listed_sound, end_list-is}

-- ---- initial values

inits_of : {c : Context} {ts rest : List Tok} {is : List InitT} → Separated (Init c) ts is rest → Inits c ts is rest
inits_of (l.last d) = g.last_init d
inits_of (l.more d ds) = g.more_inits d (inits_of ds)

inits_deepest : (is : List InitT) → inits_depth (inits is) ≡ deepest init_depth is
inits_deepest [] = refl
inits_deepest (i ∷ is) = ap (λ (n : ℕ). max (init_depth i) n) (inits_deepest is)

init_sound : (c : Context) (n : ℕ) (inner : Reader InitT) → IsSound (Init c) init_depth n inner → (ts : List Tok) (x : Got InitT) (b : Bool) → at_open_brace ts ≡ b → init_by c n inner ts b ≡ Ok x → Found (Init c) init_depth (suc n) ts x
init_sound c n inner s ts x false is e =
    let a = bind_ok (expr_at c n ts) _ x e in
    let d = expr_derived c n ts a.0 a.1 in
    ok_at (λ (z : Got InitT). Found (Init c) init_depth (suc n) ts z) (OneI a.0.0, a.0.1) x a.2 (record { derived = g.one d.derived; fits = omega (arith, d.fits) })
init_sound c n inner s ts x true is e =
    let a = bind_ok (listed inner (behind ts)) _ x e in
    let b = bind_ok (end_list a.0.1) _ x a.2 in
    let d = listed_sound (Init c) init_depth n inner s (behind ts) a.0 a.1 in
    ok_at (λ (z : Got InitT). Found (Init c) init_depth (suc n) ts z) (ListI (inits a.0.0) (span c ts b.0), b.0) x b.2 (record {
      derived = subst (λ (z : List Tok). Init c z (ListI (inits a.0.0) (span c z b.0)) b.0) (sym (f.at_open_brace-is ts is)) (g.list (inits_of d.derived) (end_list-is a.0.1 b.0 b.1));
      fits = omega (arith, d.fits, inits_deepest a.0.0);
    })

pub init_derived : (c : Context) (n : ℕ) → IsSound (Init c) init_depth n (λ ts. init_at c n ts)
unfolding init_at
init_derived c zero ts x e = absurd (nothing_read _ x e)
init_derived c (suc n) ts x e = init_sound c n (λ us. init_at c n us) (λ us y e'. init_derived c n us y e') ts x (at_open_brace ts) refl e

-- ---- variables

pub field_sound : (c : Context) (n : ℕ) (y : TypeT) → type_depth y ≤ n → IsSound (Field c y) var_depth (suc n) (field c y)
field_sound c n y le ts x e =
    let a = bind_ok (name c ts) _ x e in
    let i = f.name-is c ts a.0 a.1 in
    ok_at (λ (z : Got VarT). Found (Field c y) var_depth (suc n) ts z) (bare_var c y a.0.0 ts a.0.1, a.0.1) x a.2
    (record { derived = subst (λ (z : List Tok). Field c y z (bare_var c y a.0.0 z a.0.1) a.0.1) (sym i.0) (g.field i.1); fits = omega arith })

var_sound : (c : Context) (n : ℕ) (y : TypeT) → type_depth y ≤ n → IsSound (Var c y) var_depth (suc n) (var c n y)
var_sound c n y le ts x e =
    let a = bind_ok (name c ts) _ x e in
    step a.0 (f.name-is c ts a.0 a.1) (at_assign a.0.1) refl a.2
  where
    step : (w : Got (List ℕ)) → (ts ≡ word w.0 ∷ w.1) × (is_type c w.0 ≡ false) → (b : Bool) → at_assign w.1 ≡ b → var_by c n y ts w b ≡ Ok x → Found (Var c y) var_depth (suc n) ts x
    step w i false is e' = ok_at (λ (z : Got VarT). Found (Var c y) var_depth (suc n) ts z) (bare_var c y w.0 ts w.1, w.1) x e'
        (record { derived = subst (λ (z : List Tok). Var c y z (bare_var c y w.0 z w.1) w.1) (sym i.0) (g.plain_var (g.field i.1)); fits = omega arith })
    step w i true is e' =
        let v = bind_ok (init_at c n (behind w.1)) _ x e' in
        let d = init_derived c n (behind w.1) v.0 v.1 in
        let whole : ts ≡ word w.0 ∷ mark m.Assign ∷ behind w.1 = i.0 ∙ ap (λ (z : List Tok). word w.0 ∷ z) (f.at_assign-is w.1 is) in
        ok_at (λ (z : Got VarT). Found (Var c y) var_depth (suc n) ts z) (record { ty = y; name = w.0; init = Some v.0.0; span = span c ts v.0.1 }, v.0.1) x v.2
        (record { derived = subst (λ (z : List Tok). Var c y z (record { ty = y; name = w.0; init = Some v.0.0; span = span c z v.0.1 }) v.0.1) (sym whole) (g.set_var i.1 d.derived); fits = omega (arith, d.fits) })

vars_deepest : (vs : List VarT) → vars_depth vs ≡ deepest var_depth vs
vars_deepest [] = refl
vars_deepest (v ∷ vs) = ap (λ (n : ℕ). max (var_depth v) n) (vars_deepest vs)

pub vars_derived : (c : Context) (n : ℕ) → IsSound (Vars c) vars_depth n (λ ts. vars_at c n ts)
unfolding vars_at
vars_derived c zero ts x e = absurd (nothing_read _ x e)
vars_derived c (suc n) ts x e =
    let a = bind_ok (type_read c n ts) _ x e in
    let t = type_derived c n ts a.0 a.1 in
    let d = separated_sound (Var c a.0.0) var_depth (suc n) (var c n a.0.0) (var_sound c n a.0.0 t.fits) a.0.1 x a.2 in
    record { derived = g.vars t.derived d.derived; fits = omega (arith, d.fits, vars_deepest x.0) }

-- ---- members

pub member_derived : (c : Context) (n : ℕ) → IsSound (Member c) vars_depth n (λ ts. member_at c n ts)
unfolding member_at
member_derived c zero ts x e = absurd (nothing_read _ x e)
member_derived c (suc n) ts x e =
    let a = bind_ok (type_read c n ts) _ x e in
    let v = bind_ok (separated (field c a.0.0) a.0.1) _ x a.2 in
    let b = bind_ok (semicolon v.0.1) _ x v.2 in
    let t = type_derived c n ts a.0 a.1 in
    let d = separated_sound (Field c a.0.0) var_depth (suc n) (field c a.0.0) (field_sound c n a.0.0 t.fits) a.0.1 v.0 v.1 in
    ok_at (λ (z : Got (List VarT)). Found (Member c) vars_depth (suc n) ts z) (v.0.0, b.0) x b.2 (record {
      derived = g.member t.derived (subst (λ (z : List Tok). Separated (Field c a.0.0) a.0.1 v.0.0 z) (f.semicolon-is v.0.1 b.0 b.1) d.derived);
      fits = omega (arith, d.fits, vars_deepest v.0.0);
    })

-- no members or some
data More (c : Context) : List Tok → List VarT → List Tok → Type 0 where
  nothing : {ts : List Tok} → More c ts [] ts
  further : {ts rest : List Tok} {vs : List VarT} → Members c ts vs rest → More c ts vs rest

join : {c : Context} {ts mid rest : List Tok} {vs us : List VarT} → Member c ts vs mid → More c mid us rest → Members c ts (vs ++ us) rest
join {c = c} {ts = ts} {vs = vs} d (nothing {ts = us}) = subst (λ (z : List VarT). Members c ts z us) (sym (append-nil vs)) (g.last_member d)
join d (further ds) = g.more_members d ds

vars_append : (vs us : List VarT) (n : ℕ) → vars_depth vs ≤ n → vars_depth us ≤ n → vars_depth (vs ++ us) ≤ n
vars_append [] us n a b = b
vars_append (v ∷ vs) us n a b = let k = vars_append vs us n (omega arith) b in omega arith

abbrev MembersFit : Context → ℕ → List VarT → List Tok → List VarT → List Tok → Type 0
MembersFit c n vs ts all rest = (us : List VarT) × (all ≡ vs ++ us) × More c ts us rest × (vars_depth us ≤ n)

members_loop : (c : Context) (n : ℕ) (vs : List VarT) (ts : List Tok) (x : Got (List VarT)) → loop (members_turn c n) vs ts ≡ Ok x → MembersFit c n vs ts x.0 x.1
members_loop c n vs ts x e = repeat_runs (members_turn c n) (MembersFit c n) (λ us ts is. ([], sym (append-nil us), nothing, omega arith)) more (suc (length ts)) vs ts x e
  where
    step : (vs : List VarT) (ts : List Tok) (vs' all : List VarT) (us rest : List Tok) (b : Bool) → members_by c n vs ts b ≡ Ok (Some (vs', us)) → MembersFit c n vs' us all rest → MembersFit c n vs ts all rest
    step vs ts vs' all us rest true e' back = absurd cc
    step vs ts vs' all us rest false e' back =
        let a = bind_ok (member_at c n ts) _ _ e' in
        let d = member_derived c n ts a.0 a.1 in
        some_at (λ (z : Got (List VarT)). MembersFit c n z.0 z.1 all rest → MembersFit c n vs ts all rest) (vs ++ a.0.0, a.0.1) (vs', us) a.2
        (λ h. (a.0.0 ++ h.0, h.1 ∙ append_assoc vs a.0.0 h.0, further (join d.derived h.2), vars_append a.0.0 h.0 n d.fits h.3)) back

    more : (vs : List VarT) (ts : List Tok) (vs' all : List VarT) (us rest : List Tok) → members_turn c n vs ts ≡ Ok (Some (vs', us)) → MembersFit c n vs' us all rest → MembersFit c n vs ts all rest
    more vs ts vs' all us rest e' back = step vs ts vs' all us rest (at_close_brace ts) e' back

pub members_derived : (c : Context) (n : ℕ) → IsSound (Members c) vars_depth n (members_at c n)
members_derived c n ts x e =
    let a = bind_ok (member_at c n ts) _ x e in
    let d = member_derived c n ts a.0 a.1 in
    let k = members_loop c n a.0.0 a.0.1 x a.2 in
    record {
      derived = subst (λ (z : List VarT). Members c ts z x.1) (sym k.1) (join d.derived k.2);
      fits = subst (λ (z : List VarT). vars_depth z ≤ n) (sym k.1) (vars_append a.0.0 k.0 n d.fits k.3);
    }

-- ---- parameters

pub param_derived : (c : Context) (n : ℕ) → IsSound (Param c) var_depth n (λ ts. param_at c n ts)
unfolding param_at
param_derived c zero ts x e = absurd (nothing_read _ x e)
param_derived c (suc n) ts x e =
    let a = bind_ok (type_read c n ts) _ x e in
    let t = type_derived c n ts a.0 a.1 in
    let d = field_sound c n a.0.0 t.fits a.0.1 x a.2 in
    record { derived = g.param t.derived d.derived; fits = d.fits }

both : (a b : Bool) → (a && b) ≡ true → a ≡ true
both true b e = refl
both false b e = absurd cc

pub params_derived : (c : Context) (n : ℕ) → IsSound (Params c) vars_depth n (params_at c n)
params_derived c n ts x e = step (at_close_paren ts) (at_void ts) refl e
  where
    step : (b v : Bool) → at_void ts ≡ v → params_by c n ts b v ≡ Ok x → Found (Params c) vars_depth n ts x
    step true v is e' = ok_at (λ (z : Got (List VarT)). Found (Params c) vars_depth n ts z) ([], ts) x e' (record { derived = g.no_params; fits = omega arith })
    step false true is e' = ok_at (λ (z : Got (List VarT)). Found (Params c) vars_depth n ts z) ([], behind ts) x e'
        (record { derived = subst (λ (z : List Tok). Params c z [] (behind ts)) (sym (f.at_void_word-is ts (both (at_void_word ts) (at_close_paren (behind ts)) is))) g.void_params; fits = omega arith })
    step false false is e' =
        let d = separated_sound (Param c) var_depth n (λ us. param_at c n us) (param_derived c n) ts x e' in
        record { derived = g.some_params d.derived; fits = omega (arith, d.fits, vars_deepest x.0) }

-- ---- values

abbrev pub value_depth : List ℕ × Option ExprT → ℕ
value_depth v = maybe_expr_depth v.1

pub value_derived : (c : Context) (n : ℕ) → IsSound (Value c) value_depth n (value c n)
value_derived c n ts x e =
    let a = bind_ok (name c ts) _ x e in
    step a.0 (f.name-is c ts a.0 a.1) (at_assign a.0.1) refl a.2
  where
    step : (w : Got (List ℕ)) → (ts ≡ word w.0 ∷ w.1) × (is_type c w.0 ≡ false) → (b : Bool) → at_assign w.1 ≡ b → value_by c n w b ≡ Ok x → Found (Value c) value_depth n ts x
    step w i false is e' = ok_at (λ (z : Got (List ℕ × Option ExprT)). Found (Value c) value_depth n ts z) ((w.0, None), w.1) x e'
        (record { derived = subst (λ (z : List Tok). Value c z (w.0, None) w.1) (sym i.0) (g.plain_value i.1); fits = omega arith })
    step w i true is e' =
        let v = bind_ok (level_at c n 10 (behind w.1)) _ x e' in
        let d = level_derived c n 10 (behind w.1) v.0 v.1 in
        let whole : ts ≡ word w.0 ∷ mark m.Assign ∷ behind w.1 = i.0 ∙ ap (λ (z : List Tok). word w.0 ∷ z) (f.at_assign-is w.1 is) in
        ok_at (λ (z : Got (List ℕ × Option ExprT)). Found (Value c) value_depth n ts z) ((w.0, Some v.0.0), v.0.1) x v.2
        (record { derived = subst (λ (z : List Tok). Value c z (w.0, Some v.0.0) v.0.1) (sym whole) (g.set_value i.1 d.derived); fits = d.fits })

pub values_deepest : (vs : List (List ℕ × Option ExprT)) → values_depth vs ≡ deepest value_depth vs
values_deepest [] = refl
values_deepest (v ∷ vs) = ap (λ (n : ℕ). max (value_depth v) n) (values_deepest vs)
