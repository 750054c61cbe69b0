-- The expressions and the types that are read are derived by the grammar, and are as shallow as the room asks.
use Rattle.std.proofs.Common.{◌≡◌, ℕ, zero, suc, ◌<◌, ◌≤◌, Bool, true, false, cond, List, [], ◌∷◌, ◌++◌, length, Option, Some, None, Result, Ok, Err, refl, sym, ap, subst, ◌∙◌, append_assoc, arith}
use Rattle.c_lex.specs.declared.token.Punct.TheVariants as m
use Rattle.c_tree.specs.declared.operator.BinOp.{BinOp}
use Rattle.c_tree.specs.Tree.{ExprT, NameE, NumberE, TextE, NullE, ParenE, UnaryE, BinaryE, AssignE, StepE, IndexE, MemberE, ArrowE, CallE, CastE, SizeOfE, NoE, TypeT, IntY, BoolY, VoidY, NamedY, PointerY, ArrayY}
use Rattle.c_tree.specs.View.{exprs}
use Rattle.c_tree.specs.Depth.{expr_depth, exprs_depth, type_depth}
use Rattle.c_parse.specs.declared.class.Key.TheVariants as key
use Rattle.c_parse.specs.declared.fault.Fault.{Fault}
use Rattle.c_parse.specs.declared.lead.Start.{Start}
use Rattle.c_parse.specs.declared.lead.Start.TheVariants as start
use Rattle.c_parse.specs.declared.lead.Lead.{Lead}
use Rattle.c_parse.specs.declared.lead.Lead.TheVariants as lead
use Rattle.c_parse.specs.declared.lead.Suffix.{Suffix}
use Rattle.c_parse.specs.declared.lead.Suffix.TheVariants as suffix
use Rattle.c_parse.specs.declared.lead.TypeLead.{TypeLead}
use Rattle.c_parse.specs.declared.lead.TypeLead.TheVariants as type_
use Rattle.c_parse.specs.declared.lead.TypeMark.{TypeMark}
use Rattle.c_parse.specs.declared.lead.TypeMark.TheVariants as type_mark
use Rattle.c_parse.specs.Tok.{Tok, keyword, word, mark}
use Rattle.c_parse.specs.Scope.{Context, is_type, span}
use Rattle.c_parse.specs.Grammar as g
use Rattle.c_parse.specs.Grammar.{Base, Ty, Marks, Run, Expr, Level, Tail, Unary, Suffixes, Primary, Exprs, NoBracket}
use Rattle.c_parse.specs.inner.Reader.{Got, Reader, Turn, goes_on, repeat, loop, behind, bytes_at, open_paren, close_paren, close_bracket, at_open_paren, at_close_paren, at_open_bracket, at_comma, at_star, name}
use Rattle.c_parse.specs.inner.Leads.{start_at, lead_at, suffix_at, type_at, type_mark_at}
use Rattle.c_parse.specs.inner.Reading.{Readers, run_more, run_with, type_mark_by, type_mark_turn, base_by, base, type_with, exprs_by, exprs_turn, exprs_with, arguments_by, arguments_with, named_by, primary_by, primary_with, suffix_by, is_some_suffix, suffix_turn_by, suffix_turn, unary_by, unary_with, operator_by, operator_at, operator_turn, level_with, is_unary, assigner_at, assigner_behind, assign_by, whole_with, readers, level_at, expr_at, type_read, run_at}
use Rattle.c_parse.proofs.FrontsRead as f
use Rattle.c_parse.proofs.FrontsRead.{bind_ok, done, ok_is, ok_at, above_ok}

-- what a reader found at the front of the tokens
pub record Found {A : Type 0} (P : List Tok → A → List Tok → Type 0) (deep : A → ℕ) (room : ℕ) (ts : List Tok) (x : Got A) : Type 0 where
  pub derived : P ts x.0 x.1
  pub fits : deep x.0 ≤ room

abbrev pub IsSound : {A : Type 0} → (List Tok → A → List Tok → Type 0) → (A → ℕ) → ℕ → Reader A → Type 0
IsSound P deep room read = (ts : List Tok) (x : Got _) → read ts ≡ Ok x → Found P deep room ts x

-- a run of brackets that no bracket follows
pub record WholeRun (c : Context) (a : TypeT) (ts : List Tok) (b : TypeT) (rest : List Tok) : Type 0 where
  pub run : Run c a ts b rest
  pub ended : NoBracket rest

pub record Sound (c : Context) (room : ℕ) (r : Readers) : Type 0 where
  pub level : (k : ℕ) → IsSound (Level c k) expr_depth room (λ ts. r.level k ts)
  pub whole : IsSound (Expr c) expr_depth room (λ ts. r.whole ts)
  pub type : IsSound (Ty c) type_depth room (λ ts. r.type ts)
  pub run : (a : TypeT) (ts : List Tok) (x : Got TypeT) → ts ≡ mark m.OpenBracket ∷ behind ts → r.run a ts ≡ Ok x → Found (WholeRun c a) type_depth room ts x

-- what holds of a loop's end and goes back over each turn holds of all of it
pub repeat_runs : {A : Type 0} (turn : Turn A) (P : A → List Tok → A → List Tok → Type 0)
    → ((a : A) (ts : List Tok) → turn a ts ≡ Ok None → P a ts a ts)
    → ((a : A) (ts : List Tok) (b x : A) (us rest : List Tok) → turn a ts ≡ Ok (Some (b, us)) → P b us x rest → P a ts x rest)
    → (n : ℕ) (a : A) (ts : List Tok) (x : Got A) → repeat turn n a ts ≡ Ok x → P a ts x.0 x.1
unfolding repeat
repeat_runs {A} turn P end more zero a ts x e = absurd cc
repeat_runs {A} turn P end more (suc n) a ts x e =
    let t = bind_ok (turn a ts) (goes_on (repeat turn n) a ts) x e in
    step (λ b us e'. repeat_runs turn P end more n b us x e') t.0 t.1 t.2
  where
    step : ((b : A) (us : List Tok) → repeat turn n b us ≡ Ok x → P b us x.0 x.1) → (o : Option (Got A)) → turn a ts ≡ Ok o → goes_on (repeat turn n) a ts o ≡ Ok x → P a ts x.0 x.1
    step again None is e' = ok_at (λ (z : Got A). P a ts z.0 z.1) (a, ts) x e' (end a ts is)
    step again (Some p) is e' = more a ts p.0 x.0 p.1 x.1 is (again p.0 p.1 e')

abbrev failed : {A : Type 0} → Fault → Result A Fault
failed d = Err d

abbrev some_done : {A : Type 0} → A → Result (Option A) Fault
some_done x = Ok (Some x)

abbrev some_in : {A : Type 0} → A → Result (Option A) Fault → A
some_in x (Ok (Some y)) = y
some_in x _ = x

pub some_at : {A : Type 0} (P : A → Type 0) (x y : A) → some_done x ≡ some_done y → P x → P y
some_at {A} P x y e h = subst (λ (z : A). P z) (ap (λ (r : Result (Option A) Fault). some_in x r) e) h

pub lowest : {c : Context} {ts rest : List Tok} {e : ExprT} → Level c zero ts e rest → Unary c ts e rest
lowest (g.unary d) = d

tail_keeps : {c : Context} {k : ℕ} {from ts rest : List Tok} {a e : ExprT} → Tail c k from a ts e rest → is_unary a ≡ false → is_unary e ≡ false
tail_keeps g.ended h = h
tail_keeps (g.operated p b t) h = tail_keeps t refl

not_false : (b : Bool) → b ≡ false → b ≡ true → ⊥
not_false b e e' = cc

from_tail : {c : Context} {k : ℕ} {from ts mid rest : List Tok} {a e : ExprT} → Tail c k from a mid e rest → (is_unary a ≡ true → Unary c ts a mid) → is_unary e ≡ true → Unary c ts e rest
from_tail g.ended h u = h u
from_tail {e = e} (g.operated p b t) h u = absurd (not_false (is_unary e) (tail_keeps t refl) u)

-- an expression of any level that is no operation is a unary one
pub lowered : {c : Context} {k : ℕ} {ts rest : List Tok} {e : ExprT} → Level c k ts e rest → is_unary e ≡ true → Unary c ts e rest
lowered (g.unary d) u = d
lowered (g.level d t) u = from_tail t (λ v. lowered d v) u

chosen : (b : Bool) (o : Option (Option BinOp)) (op : Option BinOp) → cond b o None ≡ Some op → (b ≡ true) × (o ≡ Some op)
chosen true o op e = (refl, e)
chosen false o op e = absurd cc

module _ (c : Context) (n : ℕ) (r : Readers) (s : Sound c n r) where
  -- ---- types

  -- the reader stands at an opening bracket
  run_sound : (a : TypeT) (ts : List Tok) (x : Got TypeT) → ts ≡ mark m.OpenBracket ∷ behind ts → run_with r (suc n) a ts ≡ Ok x → Found (WholeRun c a) type_depth (suc n) ts x
  run_sound a ts x is e =
      let g0 = above_ok (type_depth a) (suc n) ts _ x e in
      let e0 = bind_ok (r.level 10 (behind ts)) _ x g0.1 in
      let m0 = bind_ok (close_bracket e0.0.1) _ x e0.2 in
      let d0 = s.level 10 (behind ts) e0.0 e0.1 in
      let size : Level c 10 (behind ts) e0.0.0 (mark m.CloseBracket ∷ m0.0) = subst (λ (z : List Tok). Level c 10 (behind ts) e0.0.0 z) (f.close_bracket-is e0.0.1 m0.0 m0.1) d0.derived in
      subst (λ (z : List Tok). Found (WholeRun c a) type_depth (suc n) z x) (sym is) (step e0.0.0 m0.0 size d0.fits g0.0 (at_open_bracket m0.0) refl m0.2)
    where
      step : (e : ExprT) (mid : List Tok) → Level c 10 (behind ts) e (mark m.CloseBracket ∷ mid) → expr_depth e ≤ n → type_depth a < suc n → (b : Bool) → at_open_bracket mid ≡ b
          → run_more r a e mid b ≡ Ok x → Found (WholeRun c a) type_depth (suc n) (mark m.OpenBracket ∷ behind ts) x
      step e mid size fits over false is e' = ok_at (λ (z : Got TypeT). Found (WholeRun c a) type_depth (suc n) (mark m.OpenBracket ∷ behind ts) z) (ArrayY a e, mid) x e'
          (record { derived = record { run = g.bracket size; ended = f.no_bracket_next mid is }; fits = omega arith })
      step e mid size fits over true is e' =
          let b = bind_ok (r.run a mid) _ x e' in
          let d = s.run a mid b.0 (f.at_open_bracket-is mid is) b.1 in
          ok_at (λ (z : Got TypeT). Found (WholeRun c a) type_depth (suc n) (mark m.OpenBracket ∷ behind ts) z) (ArrayY b.0.0 e, b.0.1) x b.2
          (record { derived = record { run = g.brackets size d.derived.run; ended = d.derived.ended }; fits = omega (arith, d.fits) })

  abbrev MarksFit : TypeT → List Tok → TypeT → List Tok → Type 0
  MarksFit a ts y rest = type_depth a ≤ suc n → Marks c a ts y rest × (type_depth y ≤ suc n)

  marks_sound : (a : TypeT) (ts : List Tok) (x : Got TypeT) → loop (type_mark_turn r (suc n)) a ts ≡ Ok x → MarksFit a ts x.0 x.1
  marks_sound a ts x e = repeat_runs (type_mark_turn r (suc n)) MarksFit (λ b us is fits. (g.unmarked, fits)) more (suc (length ts)) a ts x e
    where
      step : (a : TypeT) (ts : List Tok) (b y : TypeT) (us rest : List Tok) (k : TypeMark) → type_mark_at ts ≡ k → type_mark_by r (suc n) a ts k ≡ Ok (Some (b, us)) → MarksFit b us y rest → MarksFit a ts y rest
      step a ts b y us rest type_mark.Star is e' back fits =
          let g0 = above_ok (type_depth a) (suc n) ts _ _ e' in
          some_at (λ (z : Got TypeT). MarksFit z.0 z.1 y rest → Marks c a ts y rest × (type_depth y ≤ suc n)) (PointerY a, behind ts) (b, us) g0.1
          (λ h. let k = h (omega (arith, g0.0)) in (subst (λ (z : List Tok). Marks c a z y rest) (sym (f.star-is ts is)) (g.pointer k.0), k.1)) back
      step a ts b y us rest type_mark.Bracket is e' back fits =
          let b0 = bind_ok (run_with r (suc n) a ts) _ _ e' in
          let d = run_sound a ts b0.0 (f.bracket-is ts is) b0.1 in
          some_at (λ (z : Got TypeT). MarksFit z.0 z.1 y rest → Marks c a ts y rest × (type_depth y ≤ suc n)) b0.0 (b, us) b0.2
          (λ h. let k = h d.fits in (g.array d.derived.run d.derived.ended k.0, k.1)) back
      step a ts b y us rest type_mark.Nothing is e' back fits = absurd cc

      more : (a : TypeT) (ts : List Tok) (b y : TypeT) (us rest : List Tok) → type_mark_turn r (suc n) a ts ≡ Ok (Some (b, us)) → MarksFit b us y rest → MarksFit a ts y rest
      more a ts b y us rest e' back = step a ts b y us rest (type_mark_at ts) refl e' back

  void_ok : (b : Bool) (ts : List Tok) (x : Got TypeT) (d : Fault) → at_star ts ≡ b → cond b (Ok (VoidY, ts)) (Err d) ≡ Ok x → Found (Base c) type_depth 1 (keyword key.Void ∷ ts) x
  void_ok true ts x d is e = ok_at (λ (z : Got TypeT). Found (Base c) type_depth 1 (keyword key.Void ∷ ts) z) (VoidY, ts) x e
      (record { derived = subst (λ (z : List Tok). Base c (keyword key.Void ∷ z) VoidY z) (sym (f.at_star-is ts is)) g.void; fits = omega arith })
  void_ok false ts x d is e = absurd cc

  base_sound : IsSound (Base c) type_depth 1 (base c)
  base_sound ts x e = step (type_at c ts) refl e
    where
      step : (k : TypeLead) → type_at c ts ≡ k → base_by ts k ≡ Ok x → Found (Base c) type_depth 1 ts x
      step type_.Int is e' = ok_at (λ (z : Got TypeT). Found (Base c) type_depth 1 ts z) (IntY, behind ts) x e' (record { derived = subst (λ (z : List Tok). Base c z IntY (behind ts)) (sym (f.int-is c ts is)) g.int; fits = omega arith })
      step type_.Bool is e' = ok_at (λ (z : Got TypeT). Found (Base c) type_depth 1 ts z) (BoolY, behind ts) x e' (record { derived = subst (λ (z : List Tok). Base c z BoolY (behind ts)) (sym (f.bool-is c ts is)) g.bool; fits = omega arith })
      step type_.Named is e' =
          let i = f.named-is c ts is in
          ok_at (λ (z : Got TypeT). Found (Base c) type_depth 1 ts z) (NamedY (bytes_at ts), behind ts) x e' (record { derived = subst (λ (z : List Tok). Base c z (NamedY (bytes_at ts)) (behind ts)) (sym i.0) (g.named i.1); fits = omega arith })
      step type_.Void is e' = subst (λ (z : List Tok). Found (Base c) type_depth 1 z x) (sym (f.void-is c ts is)) (void_ok (at_star (behind ts)) (behind ts) x _ refl e')
      step type_.Other is e' = absurd cc

  type_sound : IsSound (Ty c) type_depth (suc n) (type_with c r (suc n))
  type_sound ts x e =
      let a = bind_ok (base c ts) _ x e in
      let b = base_sound ts a.0 a.1 in
      let k = marks_sound a.0.0 a.0.1 x a.2 (omega (arith, b.fits)) in
      record { derived = g.type b.derived k.0; fits = k.1 }

  -- ---- arguments

  abbrev ExprsFit : List ExprT → List Tok → List ExprT → List Tok → Type 0
  ExprsFit es ts all rest = (e : ExprT) (us : List Tok) → Expr c us e ts → expr_depth e ≤ n → (xs : List ExprT) × (all ≡ es ++ xs) × Exprs c us (e ∷ xs) rest × (exprs_depth (exprs xs) ≤ n)

  exprs_loop : (es : List ExprT) (ts : List Tok) (x : Got (List ExprT)) → loop (exprs_turn r) es ts ≡ Ok x → ExprsFit es ts x.0 x.1
  exprs_loop es ts x e = repeat_runs (exprs_turn r) ExprsFit end more (suc (length ts)) es ts x e
    where
      append_none : (es : List ExprT) → es ≡ es ++ []
      append_none [] = refl
      append_none (e ∷ es) = ap (λ (z : List ExprT). e ∷ z) (append_none es)

      end : (es : List ExprT) (ts : List Tok) → exprs_turn r es ts ≡ Ok None → ExprsFit es ts es ts
      end es ts is e us d fits = ([], append_none es, g.last d, omega arith)

      step : (es : List ExprT) (ts : List Tok) (es' all : List ExprT) (us rest : List Tok) (b : Bool) → at_comma ts ≡ b → exprs_by r es ts b ≡ Ok (Some (es', us)) → ExprsFit es' us all rest → ExprsFit es ts all rest
      step es ts es' all us rest false is e' back = absurd cc
      step es ts es' all us rest true is e' back =
          let a = bind_ok (r.whole (behind ts)) _ _ e' in
          let d = s.whole (behind ts) a.0 a.1 in
          some_at (λ (z : Got (List ExprT)). ExprsFit z.0 z.1 all rest → ExprsFit es ts all rest) (es ++ a.0.0 ∷ [], a.0.1) (es', us) a.2
          (λ h. λ e vs first fits. let k = h a.0.0 (behind ts) d.derived d.fits in
          (a.0.0 ∷ k.0, k.1 ∙ append_assoc es (a.0.0 ∷ []) k.0, g.more (subst (λ (z : List Tok). Expr c vs e z) (f.at_comma-is ts is) first) k.2, omega (arith, d.fits, k.3))) back

      more : (es : List ExprT) (ts : List Tok) (es' all : List ExprT) (us rest : List Tok) → exprs_turn r es ts ≡ Ok (Some (es', us)) → ExprsFit es' us all rest → ExprsFit es ts all rest
      more es ts es' all us rest e' back = step es ts es' all us rest (at_comma ts) refl e' back

  abbrev args_depth : List ExprT → ℕ
  args_depth es = exprs_depth (exprs es)

  exprs_sound : IsSound (Exprs c) args_depth n (exprs_with r)
  exprs_sound ts x e =
      let a = bind_ok (r.whole ts) _ x e in
      let d = s.whole ts a.0 a.1 in
      let k = exprs_loop (a.0.0 ∷ []) a.0.1 x a.2 a.0.0 ts d.derived d.fits in
      record {
        derived = subst (λ (z : List ExprT). Exprs c ts z x.1) (sym k.1) k.2;
        fits = subst (λ (z : List ExprT). args_depth z ≤ n) (sym k.1) (omega (arith, d.fits, k.3));
      }

  -- ---- expressions

  named_sound : (ts : List Tok) (x : Got ExprT) → ts ≡ word (bytes_at ts) ∷ behind ts → is_type c (bytes_at ts) ≡ false → (b : Bool) → at_open_paren (behind ts) ≡ b → named_by c r ts b ≡ Ok x → Found (Primary c) expr_depth (suc n) ts x
  named_sound ts x is proper false at' e = ok_at (λ (z : Got ExprT). Found (Primary c) expr_depth (suc n) ts z) (NameE (bytes_at ts) (span c ts (behind ts)), behind ts) x e
      (record { derived = subst (λ (z : List Tok). Primary c z (NameE (bytes_at ts) (span c z (behind ts))) (behind ts)) (sym is) (g.name proper); fits = omega arith })
  named_sound ts x is proper true at' e =
      let o = f.at_open_paren-is (behind ts) at' in
      let a = bind_ok (arguments_with r (behind (behind ts))) _ x e in
      ok_at (λ (z : Got ExprT). Found (Primary c) expr_depth (suc n) ts z) (CallE (bytes_at ts) (exprs a.0.0) (span c ts a.0.1), a.0.1) x a.2
      (subst (λ (z : List Tok). Found (Primary c) expr_depth (suc n) z (CallE (bytes_at ts) (exprs a.0.0) (span c z a.0.1), a.0.1)) (sym (is ∙ ap (λ (z : List Tok). word (bytes_at ts) ∷ z) o))
      (call (bytes_at ts) (behind (behind ts)) a.0 proper (at_close_paren (behind (behind ts))) refl a.1))
    where
      call : (w : List ℕ) (us : List Tok) (es : Got (List ExprT)) → is_type c w ≡ false → (b : Bool) → at_close_paren us ≡ b → arguments_by r us b ≡ Ok es
          → Found (Primary c) expr_depth (suc n) (word w ∷ mark m.OpenParen ∷ us) (CallE w (exprs es.0) (span c (word w ∷ mark m.OpenParen ∷ us) es.1), es.1)
      call w us es proper true is e = ok_at (λ (z : Got (List ExprT)). Found (Primary c) expr_depth (suc n) (word w ∷ mark m.OpenParen ∷ us) (CallE w (exprs z.0) (span c (word w ∷ mark m.OpenParen ∷ us) z.1), z.1)) ([], behind us) es e
          (subst (λ (z : List Tok). Found (Primary c) expr_depth (suc n) (word w ∷ mark m.OpenParen ∷ z) (CallE w NoE (span c (word w ∷ mark m.OpenParen ∷ z) (behind us)), behind us)) (sym (f.at_close_paren-is us is))
          (record { derived = g.call_bare proper; fits = omega arith }))
      call w us es proper false is e =
          let a = bind_ok (exprs_with r us) _ es e in
          let b = bind_ok (close_paren a.0.1) _ es a.2 in
          let d = exprs_sound us a.0 a.1 in
          ok_at (λ (z : Got (List ExprT)). Found (Primary c) expr_depth (suc n) (word w ∷ mark m.OpenParen ∷ us) (CallE w (exprs z.0) (span c (word w ∷ mark m.OpenParen ∷ us) z.1), z.1)) (a.0.0, b.0) es b.2
          (record { derived = g.call proper (subst (λ (z : List Tok). Exprs c us a.0.0 z) (f.close_paren-is a.0.1 b.0 b.1) d.derived); fits = omega (arith, d.fits) })

  primary_sound : IsSound (Primary c) expr_depth (suc n) (primary_with c r)
  primary_sound ts x e = step (lead_at c ts) refl e
    where
      step : (k : Lead) → lead_at c ts ≡ k → primary_by c r ts k ≡ Ok x → Found (Primary c) expr_depth (suc n) ts x
      step lead.Name is e' = let i = f.lead_name-is c ts is in named_sound ts x i.0 i.1 (at_open_paren (behind ts)) refl e'
      step (lead.Value v) is e' =
          let i = f.value-is c ts v is in
          ok_at (λ (z : Got ExprT). Found (Primary c) expr_depth (suc n) ts z) (NumberE v (span c ts (behind ts)), behind ts) x e'
          (record { derived = subst (λ (z : List Tok). Primary c z (NumberE v (span c z (behind ts))) (behind ts)) (sym i.1) (g.valued i.2); fits = omega arith })
      step lead.Text is e' = ok_at (λ (z : Got ExprT). Found (Primary c) expr_depth (suc n) ts z) (TextE (bytes_at ts) (span c ts (behind ts)), behind ts) x e'
          (record { derived = subst (λ (z : List Tok). Primary c z (TextE (bytes_at ts) (span c z (behind ts))) (behind ts)) (sym (f.text-is c ts is)) g.text_; fits = omega arith })
      step lead.Null is e' = ok_at (λ (z : Got ExprT). Found (Primary c) expr_depth (suc n) ts z) (NullE (span c ts (behind ts)), behind ts) x e'
          (record { derived = subst (λ (z : List Tok). Primary c z (NullE (span c z (behind ts))) (behind ts)) (sym (f.null-is c ts is)) g.null; fits = omega arith })
      step lead.Paren is e' =
          let a = bind_ok (r.whole (behind ts)) _ x e' in
          let b = bind_ok (close_paren a.0.1) _ x a.2 in
          let d = s.whole (behind ts) a.0 a.1 in
          let inner : Expr c (behind ts) a.0.0 (mark m.CloseParen ∷ b.0) = subst (λ (z : List Tok). Expr c (behind ts) a.0.0 z) (f.close_paren-is a.0.1 b.0 b.1) d.derived in
          ok_at (λ (z : Got ExprT). Found (Primary c) expr_depth (suc n) ts z) (ParenE a.0.0 (span c ts b.0), b.0) x b.2
          (record { derived = subst (λ (z : List Tok). Primary c z (ParenE a.0.0 (span c z b.0)) b.0) (sym (f.paren-is c ts is)) (g.paren inner); fits = omega (arith, d.fits) })
      step lead.Other is e' = absurd cc

  abbrev SuffixesFit : List Tok → ExprT → List Tok → ExprT → List Tok → Type 0
  SuffixesFit from a ts e rest = expr_depth a ≤ suc n → Suffixes c from a ts e rest × (expr_depth e ≤ suc n)

  suffixes_sound : (from : List Tok) (a : ExprT) (ts : List Tok) (x : Got ExprT) → loop (suffix_turn c r (suc n) from) a ts ≡ Ok x → SuffixesFit from a ts x.0 x.1
  suffixes_sound from a ts x e = repeat_runs (suffix_turn c r (suc n) from) (SuffixesFit from) (λ b us is fits. (g.bare, fits)) more (suc (length ts)) a ts x e
    where
      -- what one suffix makes goes back over it
      one : (a : ExprT) (ts : List Tok) (y : Got ExprT) (e : ExprT) (rest : List Tok) (k : Suffix) → suffix_at ts ≡ k → expr_depth a < suc n → suffix_by c r from a ts k ≡ Ok y → SuffixesFit from y.0 y.1 e rest
          → Suffixes c from a ts e rest × (expr_depth e ≤ suc n)
      one a ts y e rest suffix.Index is over e' back =
          let i = bind_ok (r.whole (behind ts)) _ y e' in
          let b = bind_ok (close_bracket i.0.1) _ y i.2 in
          let d = s.whole (behind ts) i.0 i.1 in
          let inner : Expr c (behind ts) i.0.0 (mark m.CloseBracket ∷ b.0) = subst (λ (z : List Tok). Expr c (behind ts) i.0.0 z) (f.close_bracket-is i.0.1 b.0 b.1) d.derived in
          ok_at (λ (z : Got ExprT). SuffixesFit from z.0 z.1 e rest → Suffixes c from a ts e rest × (expr_depth e ≤ suc n)) (IndexE a i.0.0 (span c from b.0), b.0) y b.2
          (λ h. let k = h (omega (arith, d.fits)) in (subst (λ (z : List Tok). Suffixes c from a z e rest) (sym (f.index-is ts is)) (g.index inner k.0), k.1)) back
      one a ts y e rest suffix.Member is over e' back =
          let w = bind_ok (name c (behind ts)) _ y e' in
          let i = f.name-is c (behind ts) w.0 w.1 in
          ok_at (λ (z : Got ExprT). SuffixesFit from z.0 z.1 e rest → Suffixes c from a ts e rest × (expr_depth e ≤ suc n)) (MemberE a w.0.0 (span c from w.0.1), w.0.1) y w.2
          (λ h. let k = h (omega arith) in (subst (λ (z : List Tok). Suffixes c from a z e rest) (sym (f.member-is ts is ∙ ap (λ (z : List Tok). mark m.Dot ∷ z) i.0)) (g.member i.1 k.0), k.1)) back
      one a ts y e rest suffix.Arrow is over e' back =
          let w = bind_ok (name c (behind ts)) _ y e' in
          let i = f.name-is c (behind ts) w.0 w.1 in
          ok_at (λ (z : Got ExprT). SuffixesFit from z.0 z.1 e rest → Suffixes c from a ts e rest × (expr_depth e ≤ suc n)) (ArrowE a w.0.0 (span c from w.0.1), w.0.1) y w.2
          (λ h. let k = h (omega arith) in (subst (λ (z : List Tok). Suffixes c from a z e rest) (sym (f.arrow-is ts is ∙ ap (λ (z : List Tok). mark m.Arrow ∷ z) i.0)) (g.arrow i.1 k.0), k.1)) back
      one a ts y e rest (suffix.Step op) is over e' back =
          let i = f.stepped-is ts op is in
          ok_at (λ (z : Got ExprT). SuffixesFit from z.0 z.1 e rest → Suffixes c from a ts e rest × (expr_depth e ≤ suc n)) (StepE op a (span c from (behind ts)), behind ts) y e'
          (λ h. let k = h (omega arith) in (subst (λ (z : List Tok). Suffixes c from a z e rest) (sym i.1) (g.stepped i.2 k.0), k.1)) back
      one a ts y e rest suffix.Nothing is over e' back = absurd cc

      step : (a : ExprT) (ts : List Tok) (b e : ExprT) (us rest : List Tok) (k : Bool) → suffix_turn_by c r (suc n) from a ts k ≡ Ok (Some (b, us)) → SuffixesFit from b us e rest → SuffixesFit from a ts e rest
      step a ts b e us rest false e' back fits = absurd cc
      step a ts b e us rest true e' back fits =
          let g0 = above_ok (expr_depth a) (suc n) ts _ _ e' in
          let y = bind_ok (suffix_by c r from a ts (suffix_at ts)) _ _ g0.1 in
          one a ts y.0 e rest (suffix_at ts) refl g0.0 y.1 (some_at (λ (z : Got ExprT). SuffixesFit from z.0 z.1 e rest → SuffixesFit from y.0.0 y.0.1 e rest) y.0 (b, us) y.2 (λ h. h) back)

      more : (a : ExprT) (ts : List Tok) (b e : ExprT) (us rest : List Tok) → suffix_turn c r (suc n) from a ts ≡ Ok (Some (b, us)) → SuffixesFit from b us e rest → SuffixesFit from a ts e rest
      more a ts b e us rest e' back = step a ts b e us rest (is_some_suffix (suffix_at ts)) e' back

  unary_sound : IsSound (Unary c) expr_depth (suc n) (unary_with c r (suc n))
  unary_sound ts x e = step (start_at c ts) refl e
    where
      step : (k : Start) → start_at c ts ≡ k → unary_by c r (suc n) ts k ≡ Ok x → Found (Unary c) expr_depth (suc n) ts x
      step (start.Operator op) is e' =
          let i = f.operator-is c ts op is in
          let a = bind_ok (r.level zero (behind ts)) _ x e' in
          let d = s.level zero (behind ts) a.0 a.1 in
          ok_at (λ (z : Got ExprT). Found (Unary c) expr_depth (suc n) ts z) (UnaryE op a.0.0 (span c ts a.0.1), a.0.1) x a.2
          (record { derived = subst (λ (z : List Tok). Unary c z (UnaryE op a.0.0 (span c z a.0.1)) a.0.1) (sym i.1) (g.operator i.2 (lowest d.derived)); fits = omega (arith, d.fits) })
      step (start.Step op) is e' =
          let i = f.step-is c ts op is in
          let a = bind_ok (r.level zero (behind ts)) _ x e' in
          let d = s.level zero (behind ts) a.0 a.1 in
          ok_at (λ (z : Got ExprT). Found (Unary c) expr_depth (suc n) ts z) (StepE op a.0.0 (span c ts a.0.1), a.0.1) x a.2
          (record { derived = subst (λ (z : List Tok). Unary c z (StepE op a.0.0 (span c z a.0.1)) a.0.1) (sym i.1) (g.step i.2 (lowest d.derived)); fits = omega (arith, d.fits) })
      step start.Cast is e' =
          let y = bind_ok (r.type (behind ts)) _ x e' in
          let b = bind_ok (close_paren y.0.1) _ x y.2 in
          let a = bind_ok (r.level zero b.0) _ x b.2 in
          let t = s.type (behind ts) y.0 y.1 in
          let d = s.level zero b.0 a.0 a.1 in
          let inner : Ty c (behind ts) y.0.0 (mark m.CloseParen ∷ b.0) = subst (λ (z : List Tok). Ty c (behind ts) y.0.0 z) (f.close_paren-is y.0.1 b.0 b.1) t.derived in
          ok_at (λ (z : Got ExprT). Found (Unary c) expr_depth (suc n) ts z) (CastE y.0.0 a.0.0 (span c ts a.0.1), a.0.1) x a.2
          (record { derived = subst (λ (z : List Tok). Unary c z (CastE y.0.0 a.0.0 (span c z a.0.1)) a.0.1) (sym (f.cast-is c ts is)) (g.cast inner (lowest d.derived)); fits = omega (arith, t.fits, d.fits) })
      step start.Size is e' =
          let o = bind_ok (open_paren (behind ts)) _ x e' in
          let y = bind_ok (r.type o.0) _ x o.2 in
          let b = bind_ok (close_paren y.0.1) _ x y.2 in
          let t = s.type o.0 y.0 y.1 in
          let inner : Ty c o.0 y.0.0 (mark m.CloseParen ∷ b.0) = subst (λ (z : List Tok). Ty c o.0 y.0.0 z) (f.close_paren-is y.0.1 b.0 b.1) t.derived in
          let whole : ts ≡ keyword key.SizeOf ∷ mark m.OpenParen ∷ o.0 = f.size-is c ts is ∙ ap (λ (z : List Tok). keyword key.SizeOf ∷ z) (f.open_paren-is (behind ts) o.0 o.1) in
          ok_at (λ (z : Got ExprT). Found (Unary c) expr_depth (suc n) ts z) (SizeOfE y.0.0 (span c ts b.0), b.0) x b.2
          (record { derived = subst (λ (z : List Tok). Unary c z (SizeOfE y.0.0 (span c z b.0)) b.0) (sym whole) (g.size inner); fits = omega (arith, t.fits) })
      step start.Other is e' =
          let a = bind_ok (primary_with c r ts) _ x e' in
          let p = primary_sound ts a.0 a.1 in
          let k = suffixes_sound ts a.0.0 a.0.1 x a.2 p.fits in
          record { derived = g.postfix p.derived k.0; fits = k.1 }

  abbrev TailFit : ℕ → List Tok → ExprT → List Tok → ExprT → List Tok → Type 0
  TailFit k from a ts e rest = expr_depth a ≤ suc n → Tail c k from a ts e rest × (expr_depth e ≤ suc n)

  tail_sound : (k : ℕ) (from : List Tok) (a : ExprT) (ts : List Tok) (x : Got ExprT) → loop (operator_turn c r (suc n) k from) a ts ≡ Ok x → TailFit k from a ts x.0 x.1
  tail_sound k from a ts x e = repeat_runs (operator_turn c r (suc n) k from) (TailFit k from) (λ b us is fits. (g.ended, fits)) more (suc (length ts)) a ts x e
    where
      step : (a : ExprT) (ts : List Tok) (b e : ExprT) (us rest : List Tok) (o : Option BinOp) → operator_at (suc k) ts ≡ o → operator_by c r (suc n) k from a ts o ≡ Ok (Some (b, us)) → TailFit k from b us e rest → TailFit k from a ts e rest
      step a ts b e us rest None is e' back fits = absurd cc
      step a ts b e us rest (Some op) is e' back fits =
          let i = f.level_operator-is (suc k) ts op is in
          let g0 = above_ok (expr_depth a) (suc n) ts _ _ e' in
          let y = bind_ok (r.level k (behind ts)) _ _ g0.1 in
          let d = s.level k (behind ts) y.0 y.1 in
          some_at (λ (z : Got ExprT). TailFit k from z.0 z.1 e rest → Tail c k from a ts e rest × (expr_depth e ≤ suc n)) (BinaryE op a y.0.0 (span c from y.0.1), y.0.1) (b, us) y.2
          (λ h. let q = h (omega (arith, g0.0, d.fits)) in (subst (λ (z : List Tok). Tail c k from a z e rest) (sym i.1) (g.operated i.2 d.derived q.0), q.1)) back

      more : (a : ExprT) (ts : List Tok) (b e : ExprT) (us rest : List Tok) → operator_turn c r (suc n) k from a ts ≡ Ok (Some (b, us)) → TailFit k from b us e rest → TailFit k from a ts e rest
      more a ts b e us rest e' back = step a ts b e us rest (operator_at (suc k) ts) refl e' back

  level_sound : (k : ℕ) → IsSound (Level c k) expr_depth (suc n) (level_with c r (suc n) k)
  unfolding level_with
  level_sound zero ts x e = let d = unary_sound ts x e in record { derived = g.unary d.derived; fits = d.fits }
  level_sound (suc k) ts x e =
      let a = bind_ok (level_with c r (suc n) k ts) _ x e in
      let d = level_sound k ts a.0 a.1 in
      let t = tail_sound k ts a.0.0 a.0.1 x a.2 d.fits in
      record { derived = g.level d.derived t.0; fits = t.1 }

  whole_sound : IsSound (Expr c) expr_depth (suc n) (whole_with c r (suc n))
  whole_sound ts x e =
      let a = bind_ok (level_with c r (suc n) 10 ts) _ x e in
      let d = level_sound 10 ts a.0 a.1 in
      step a.0 d.derived d.fits (assigner_behind a.0.0 a.0.1) refl a.2
    where
      step : (a : Got ExprT) → Level c 10 ts a.0 a.1 → expr_depth a.0 ≤ suc n → (o : Option (Option BinOp)) → assigner_behind a.0 a.1 ≡ o → assign_by c r (suc n) ts a.0 a.1 o ≡ Ok x → Found (Expr c) expr_depth (suc n) ts x
      step a d fits None is e' = ok_at (λ (z : Got ExprT). Found (Expr c) expr_depth (suc n) ts z) (a.0, a.1) x e' (record { derived = g.plain d; fits = fits })
      step a d fits (Some op) is e' =
          let i = chosen (is_unary a.0) (assigner_at a.1) op is in
          let o = f.assigner-is a.1 op i.1 in
          let g0 = above_ok (expr_depth a.0) (suc n) a.1 _ x e' in
          let b = bind_ok (r.whole (behind a.1)) _ x g0.1 in
          let q = s.whole (behind a.1) b.0 b.1 in
          ok_at (λ (z : Got ExprT). Found (Expr c) expr_depth (suc n) ts z) (AssignE op a.0 b.0.0 (span c ts b.0.1), b.0.1) x b.2
          (record { derived = g.assign (subst (λ (z : List Tok). Unary c ts a.0 z) o.1 (lowered d i.0)) o.2 q.derived; fits = omega (arith, g0.0, q.fits) })

pub nothing_read : {A : Type 0} (d : Fault) (x : A) → failed d ≡ done x → ⊥
nothing_read d x e = cc

pub readers_sound : (c : Context) (n : ℕ) → Sound c n (readers c n)
unfolding readers
readers_sound c zero = record {
  level = λ k ts x e. absurd (nothing_read _ x e);
  whole = λ ts x e. absurd (nothing_read _ x e);
  type = λ ts x e. absurd (nothing_read _ x e);
  run = λ a ts x is e. absurd (nothing_read _ x e);
}
readers_sound c (suc n) = record {
  level = λ k ts x e. level_sound c n (readers c n) (readers_sound c n) k ts x e;
  whole = λ ts x e. whole_sound c n (readers c n) (readers_sound c n) ts x e;
  type = λ ts x e. type_sound c n (readers c n) (readers_sound c n) ts x e;
  run = λ a ts x is e. run_sound c n (readers c n) (readers_sound c n) a ts x is e;
}

pub level_derived : (c : Context) (n k : ℕ) (ts : List Tok) (x : Got ExprT) → level_at c n k ts ≡ Ok x → Found (Level c k) expr_depth n ts x
level_derived c n k ts x e = (readers_sound c n).level k ts x e

pub expr_derived : (c : Context) (n : ℕ) (ts : List Tok) (x : Got ExprT) → expr_at c n ts ≡ Ok x → Found (Expr c) expr_depth n ts x
expr_derived c n ts x e = (readers_sound c n).whole ts x e

pub type_derived : (c : Context) (n : ℕ) (ts : List Tok) (x : Got TypeT) → type_read c n ts ≡ Ok x → Found (Ty c) type_depth n ts x
type_derived c n ts x e = (readers_sound c n).type ts x e

pub run_derived : (c : Context) (n : ℕ) (a : TypeT) (ts : List Tok) (x : Got TypeT) → ts ≡ mark m.OpenBracket ∷ behind ts → run_at c n a ts ≡ Ok x → Found (WholeRun c a) type_depth n ts x
run_derived c n a ts x is e = (readers_sound c n).run a ts x is e
