-- What one turn of a reader's loop gives.
use Rattle.std.proofs.Common.{◌≡◌, ℕ, suc, ◌+◌, ◌<◌, ◌≤◌, true, false, List, [], ◌∷◌, ◌++◌, length, Option, Some, None, Ok, refl, ap, arith}
use Rattle.std.specs.Prelude.{max}
use Rattle.std.proofs.lemmas.Bool.{lt-ltb, le-ltb}
use Rattle.kit_base.specs.declared.failure.Failure.{Failure}
use Rattle.kit_base.specs.declared.failure.Failure.TheVariants as errors
use Rattle.kit_base.specs.Gives.{Fails}
use Rattle.c_tree.specs.declared.operator.BinOp.{BinOp}
use Rattle.c_tree.specs.Tree.{ExprT, BinaryE, IndexE, MemberE, ArrowE, StepE, TypeT, PointerY}
use Rattle.c_tree.specs.View.{exprs}
use Rattle.c_tree.specs.Depth.{expr_depth, exprs_depth, type_depth}
use Rattle.c_parse.specs.declared.fault.Fault.{Fault}
use Rattle.c_parse.specs.declared.fault.Fault.TheVariants.{TooDeep}
use Rattle.c_parse.specs.declared.lead.TypeMark.TheVariants as type_mark
use Rattle.c_parse.specs.declared.lead.Suffix.{Suffix}
use Rattle.c_parse.specs.declared.lead.Suffix.TheVariants as suffix
use Rattle.c_parse.specs.Tok.{Tok}
use Rattle.c_parse.specs.Scope.{Context, span}
use Rattle.c_parse.specs.inner.Reader.{Got, behind, close_paren, at_close_paren, close_bracket, name}
use Rattle.c_parse.specs.inner.Leads.{suffix_at, type_mark_at}
use Rattle.c_parse.specs.inner.Reading.{Readers, operator_at, operator_turn, suffix_by, is_some_suffix, suffix_turn, readers, run_with, type_mark_turn, exprs_with, arguments_with}
use Rattle.c_parse.proofs.FrontsRead as f
use Rattle.c_parse.proofs.FrontsRead.{bind_ok, ok_at}
use Rattle.c_parse.proofs.Loops.{fails_on}
use Rattle.c_parse.proofs.Sizes.{expr_shorter}
use Rattle.c_parse.proofs.Soundness.{expr_derived}

pub behind_up : (ts : List Tok) → length (behind ts) ≤ length ts
behind_up [] = omega arith
behind_up (o ∷ ts) = omega arith

abbrev pub too_deep : List Tok → Failure Fault
too_deep ts = errors.Cause (TooDeep (length ts))

pub at_next : (k : ℕ) (ts : List Tok) (o : Option BinOp) → operator_at (k + 1) ts ≡ o → operator_at (suc k) ts ≡ o
at_next k ts o e = let f : k + 1 ≡ suc k = omega arith in rw f at e

module _ (c : Context) (r : Readers) (room k : ℕ) (from : List Tok) (a : ExprT) (ts : List Tok) where
  pub operator_end : operator_at (suc k) ts ≡ None → operator_turn c r room k from a ts ≡ Ok None
  operator_end e = rw e refl

  pub operator_deep : (op : BinOp) (e : Failure Fault) → operator_at (suc k) ts ≡ Some op → room ≤ expr_depth a → e ≡ too_deep ts → Fails e (operator_turn c r room k from a ts)
  operator_deep op e is le fault = rw (fault, is, le-ltb _ _ le) refl

  pub operator_fail : (op : BinOp) (e : Failure Fault) → operator_at (suc k) ts ≡ Some op → expr_depth a < room → Fails e (r.level k (behind ts)) → Fails e (operator_turn c r room k from a ts)
  operator_fail op e is less bad = rw (is, lt-ltb _ _ less) (fails_on e (r.level k (behind ts)) _ bad)

  pub operator_ok : (op : BinOp) (b : ExprT) (rest : List Tok) → operator_at (suc k) ts ≡ Some op → expr_depth a < room → r.level k (behind ts) ≡ Ok (b, rest)
      → operator_turn c r room k from a ts ≡ Ok (Some (BinaryE op a b (span c from rest), rest))
  operator_ok op b rest is less good = rw (is, lt-ltb _ _ less, good) refl

module _ (c : Context) (r : Readers) (room : ℕ) (from : List Tok) (a : ExprT) (ts : List Tok) where
  pub suffix_end : is_some_suffix (suffix_at ts) ≡ false → suffix_turn c r room from a ts ≡ Ok None
  suffix_end e = rw e refl

  pub suffix_deep : (e : Failure Fault) → is_some_suffix (suffix_at ts) ≡ true → room ≤ expr_depth a → e ≡ too_deep ts → Fails e (suffix_turn c r room from a ts)
  suffix_deep e is le fault = rw (fault, is, le-ltb _ _ le) refl

  pub suffix_fail : (e : Failure Fault) → is_some_suffix (suffix_at ts) ≡ true → expr_depth a < room → Fails e (suffix_by c r from a ts (suffix_at ts)) → Fails e (suffix_turn c r room from a ts)
  suffix_fail e is less bad = rw (is, lt-ltb _ _ less) (fails_on e (suffix_by c r from a ts (suffix_at ts)) _ bad)

  pub suffix_ok : (x : Got ExprT) → is_some_suffix (suffix_at ts) ≡ true → expr_depth a < room → suffix_by c r from a ts (suffix_at ts) ≡ Ok x → suffix_turn c r room from a ts ≡ Ok (Some x)
  suffix_ok x is less good = rw (is, lt-ltb _ _ less, good) refl

module _ (r : Readers) (room : ℕ) (a : TypeT) (ts : List Tok) where
  pub marks_end : type_mark_at ts ≡ type_mark.Nothing → type_mark_turn r room a ts ≡ Ok None
  marks_end e = rw e refl

  pub star_deep : (e : Failure Fault) → type_mark_at ts ≡ type_mark.Star → room ≤ type_depth a → e ≡ too_deep ts → Fails e (type_mark_turn r room a ts)
  star_deep e is le fault = rw (fault, is, le-ltb _ _ le) refl

  pub star_ok : type_mark_at ts ≡ type_mark.Star → type_depth a < room → type_mark_turn r room a ts ≡ Ok (Some (PointerY a, behind ts))
  star_ok e less = rw (e, lt-ltb _ _ less) refl

  pub run_fail : (e : Failure Fault) → type_mark_at ts ≡ type_mark.Bracket → Fails e (run_with r room a ts) → Fails e (type_mark_turn r room a ts)
  run_fail e is bad = rw is (fails_on e (run_with r room a ts) _ bad)

  pub run_ok : (x : Got TypeT) → type_mark_at ts ≡ type_mark.Bracket → run_with r room a ts ≡ Ok x → type_mark_turn r room a ts ≡ Ok (Some x)
  run_ok x is good = rw (is, good) refl

pub exprs_push : (es : List ExprT) (e : ExprT) → exprs_depth (exprs (es ++ e ∷ [])) ≡ max (exprs_depth (exprs es)) (expr_depth e)
exprs_push [] e = omega arith
exprs_push (d ∷ es) e = omega (arith, exprs_push es e)

module _ (r : Readers) (ts : List Tok) (opens : at_close_paren ts ≡ false) where
  pub arguments_fail : (e : Failure Fault) → Fails e (exprs_with r ts) → Fails e (arguments_with r ts)
  arguments_fail e bad = rw opens (fails_on e (exprs_with r ts) _ bad)

  pub arguments_unclosed : (e : Failure Fault) (es : List ExprT) (mid : List Tok) → exprs_with r ts ≡ Ok (es, mid) → Fails e (close_paren mid) → Fails e (arguments_with r ts)
  arguments_unclosed e es mid is bad = rw (opens, is) (fails_on e (close_paren mid) _ bad)

  pub arguments_ok : (es : List ExprT) (mid rest : List Tok) → exprs_with r ts ≡ Ok (es, mid) → close_paren mid ≡ Ok rest → arguments_with r ts ≡ Ok (es, rest)
  arguments_ok es mid rest is closes = rw (opens, is, closes) refl

pub suffix_shorter : (c : Context) (n : ℕ) (from : List Tok) (a : ExprT) (ts : List Tok) (y : Got ExprT) (k : Suffix) → suffix_at ts ≡ k → suffix_by c (readers c n) from a ts k ≡ Ok y → length y.1 < length ts
suffix_shorter c n from a ts y suffix.Index is e =
    let i = bind_ok ((readers c n).whole (behind ts)) _ y e in
    let b = bind_ok (close_bracket i.0.1) _ y i.2 in
    let less = expr_shorter (expr_derived c n (behind ts) i.0 i.1).derived in
    ok_at (λ (z : Got ExprT). length z.1 < length ts) (IndexE a i.0.0 (span c from b.0), b.0) y b.2
    (omega (arith, less, ap length (f.index-is ts is), ap length (f.close_bracket-is i.0.1 b.0 b.1)))
suffix_shorter c n from a ts y suffix.Member is e =
    let w = bind_ok (name c (behind ts)) _ y e in
    ok_at (λ (z : Got ExprT). length z.1 < length ts) (MemberE a w.0.0 (span c from w.0.1), w.0.1) y w.2
    (omega (arith, ap length (f.member-is ts is), ap length (f.name-is c (behind ts) w.0 w.1).0))
suffix_shorter c n from a ts y suffix.Arrow is e =
    let w = bind_ok (name c (behind ts)) _ y e in
    ok_at (λ (z : Got ExprT). length z.1 < length ts) (ArrowE a w.0.0 (span c from w.0.1), w.0.1) y w.2
    (omega (arith, ap length (f.arrow-is ts is), ap length (f.name-is c (behind ts) w.0 w.1).0))
suffix_shorter c n from a ts y (suffix.Step op) is e =
    ok_at (λ (z : Got ExprT). length z.1 < length ts) (StepE op a (span c from (behind ts)), behind ts) y e
    (omega (arith, ap length (f.stepped-is ts op is).1))
suffix_shorter c n from a ts y suffix.Nothing is e = absurd cc
