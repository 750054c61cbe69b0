-- What is answered of a fault says where it is.
use Rattle.std.proofs.Common.{◌≡◌, ℕ, suc, ◌+◌, ◌-◌, ◌<◌, List, [], ◌∷◌, ◌++◌, length, drop, Option, Some, None, Result, Ok, Err, sym, ap, subst, ◌∙◌, append_assoc, arith}
use Rattle.std.specs.Prelude.{IfOk}
use Rattle.std.proofs.Math.Seq.{drop-append_seam}
use Rattle.std.proofs.lemmas.List.{length-append}
use Rattle.kit_base.specs.declared.failure.Failure.{Failure}
use Rattle.kit_base.specs.declared.failure.Failure.TheVariants as read
use Rattle.kit_base.specs.Gives.{Gives}
use Rattle.c_tree.specs.declared.item.Unit.{Unit as File}
use Rattle.c_tree.specs.Tree.{ItemT}
use Rattle.c_tree.specs.View.{unit}
use Rattle.c_tree.specs.Depth.{unit_depth}
use Rattle.c_parse.specs.declared.error.ParseErr.{ParseErr}
use Rattle.c_parse.specs.declared.error.ParseErr.TheVariants as errors
use Rattle.c_parse.specs.declared.fault.Fault.{Fault}
use Rattle.c_parse.specs.declared.fault.Fault.TheVariants.{Syntax, TooDeep}
use Rattle.c_parse.specs.Tok.{Tok}
use Rattle.c_parse.specs.Units.{Unit_, Derives}
use Rattle.c_parse.specs.Places.{refused_at, FirstBad, FirstDeep, Answers, AnswersTooDeep}
use Rattle.c_parse.specs.inner.Answer.{bad_at, answered}
use Rattle.c_parse.specs.inner.ReadingUnits.{unit_at}
use Rattle.c_parse.proofs.UnitReads.{unit_read, unit_deep, never_faulty}
use Rattle.c_parse.proofs.SoundUnits.{unit_derived}
use Rattle.c_parse.proofs.BeginsUnits.{syntax_begun, deep_begun}
use Rattle.c_parse.proofs.NoUnit.{no_unit_begins, no_shallow_unit_begins}

-- the tokens before a fault are the beginning of some unit
abbrev pub SyntaxBegun : Type 0
SyntaxBegun = (ts : List Tok) (n : ℕ) → unit_at 199 ts ≡ Err (Syntax n) → (pre wrong more : List Tok) × (ds : List ItemT) × (ts ≡ pre ++ wrong) × (length wrong ≡ n) × Unit_ (pre ++ more) ds

abbrev pub DeepBegun : Type 0
DeepBegun = (ts : List Tok) (n : ℕ) → unit_at 199 ts ≡ Err (TooDeep n)
    → (pre : List Tok) × (o : Tok) × (behind more : List Tok) × (ds : List ItemT) × (ts ≡ pre ++ (o ∷ behind)) × (suc (length behind) ≡ n) × Unit_ (pre ++ (o ∷ more)) ds

one_on : (pre more : List Tok) (o : Tok) → (pre ++ o ∷ []) ++ more ≡ pre ++ (o ∷ more)
one_on pre more o = append_assoc pre (o ∷ []) more

front : (ts pre wrong : List Tok) (n : ℕ) → ts ≡ pre ++ wrong → length wrong ≡ n → length ts - n ≡ length pre
front ts pre wrong n is size = let all : length ts ≡ length pre + length wrong = ap length is ∙ length-append pre wrong in omega (arith, all, size)

pub first_bad : SyntaxBegun → (ts : List Tok) (n : ℕ) → unit_at 199 ts ≡ Err (Syntax n) → FirstBad ts (length ts - n) (refused_at (drop (length ts - n) ts))
first_bad begun ts n e =
    let b = begun ts n e in
    let place = front ts b.0 b.1 n b.4 b.5 in
    let rest : drop (length ts - n) ts ≡ b.1 = ap (λ (k : ℕ). drop k ts) place ∙ ap (λ (z : List Tok). drop (length b.0) z) b.4 ∙ drop-append_seam b.0 b.1 in
    record {
      before = b.0;
      rest = b.1;
      is = b.4;
      place = sym place;
      word = ap refused_at (sym rest);
      begins = record { more = b.2; items = b.3; unit = b.6 };
      bad = λ o after head h.
          let whole : ts ≡ b.0 ++ (o ∷ after) = b.4 ∙ ap (λ (z : List Tok). b.0 ++ z) head in
          let left : n ≡ suc (length after) = sym b.5 ∙ ap length head in
          no_unit_begins b.0 o after (ap (λ (z : List Tok). unit_at 199 z) (sym whole) ∙ e ∙ ap (λ (k : ℕ). Err (Syntax k)) left) h.more h.items
          (subst (λ (z : List Tok). Unit_ z h.items) (one_on b.0 h.more o) h.unit);
      whole = λ ds d. never_faulty ts ds n d e;
    }

pub first_deep : DeepBegun → (ts : List Tok) (n : ℕ) → unit_at 199 ts ≡ Err (TooDeep n) → FirstDeep ts (length ts - n)
first_deep begun ts n e =
    let b = begun ts n e in
    let place = front ts b.0 (b.1 ∷ b.2) n b.5 b.6 in
    record {
      before = b.0;
      token = b.1;
      after = b.2;
      is = b.5;
      place = sym place;
      begins = record { more = b.3; items = b.4; unit = subst (λ (z : List Tok). Unit_ z b.4) (sym (one_on b.0 b.3 b.1)) b.7 };
      deep = λ h.
          no_shallow_unit_begins b.0 b.1 b.2 (ap (λ (z : List Tok). unit_at 199 z) (sym b.5) ∙ e ∙ ap (λ (k : ℕ). Err (TooDeep k)) (sym b.6)) h.more h.items
          (subst (λ (z : List Tok). Derives z h.items) (one_on b.0 h.more b.1) h.unit);
    }

-- ---- what the parser answers, as its reading gives it

abbrev done : List ItemT → Result (List ItemT) Fault
done ds = Ok ds

abbrev failed : Fault → Result (List ItemT) Fault
failed f = Err f

same_items : (a b : List ItemT) → done a ≡ done b → a ≡ b
same_items a b e = cc

not_both : (f : Fault) (ds : List ItemT) → failed f ≡ done ds → ⊥
not_both f ds e = cc

not_deep : (ds : List ItemT) (n : ℕ) → done ds ≡ failed (TooDeep n) → ⊥
not_deep ds n e = cc

abbrev refusal : ParseErr → Result File ParseErr
refusal e = Err e

abbrev token_in : ℕ → Result File ParseErr → ℕ
token_in d (Err (errors.Syntax t)) = t
token_in d (Err (errors.Unsupported t what)) = t
token_in d (Err (errors.TooDeep t)) = t
token_in d _ = d

abbrev word_in : ℕ → Result File ParseErr → ℕ
word_in d (Err (errors.Unsupported t what)) = what
word_in d _ = d

module _ (ts : List Tok) where
  pub is_parsed : (r : Result File (Failure Fault)) → Gives unit r (unit_at 199 ts) → IfOk (answered ts r) (λ u. Derives ts (unit u))
  is_parsed (Ok u) e = unit_derived 199 ts (unit u) (omega arith) e
  is_parsed (Err f) e = tt

  answers_bad : (t : ℕ) (o : Option ℕ) (ds : List ItemT) → ⊥ → Answers ds (refusal (bad_at t o))
  answers_bad t o ds h = absurd h

  pub is_answered : (r : Result File (Failure Fault)) → Gives unit r (unit_at 199 ts) → (ds : List ItemT) → Derives ts ds → Answers ds (answered ts r)
  is_answered (Ok u) e ds d = same_items (unit u) ds (sym e ∙ unit_read ts ds d)
  is_answered (Err read.Memory) e ds d = tt
  is_answered (Err (read.Cause (Syntax n))) e ds d = answers_bad _ _ ds (not_both (Syntax n) ds (sym e ∙ unit_read ts ds d))
  is_answered (Err (read.Cause (TooDeep n))) e ds d = absurd (not_both (TooDeep n) ds (sym e ∙ unit_read ts ds d))

  too_deep_bad : (t : ℕ) (o : Option ℕ) → ⊥ → AnswersTooDeep (refusal (bad_at t o))
  too_deep_bad t o h = absurd h

  pub is_too_deep : (r : Result File (Failure Fault)) → Gives unit r (unit_at 199 ts) → (ds : List ItemT) → Unit_ ts ds → 200 < unit_depth ds → AnswersTooDeep (answered ts r)
  is_too_deep (Ok u) e ds d lt = let k = unit_deep ts ds d lt in absurd (not_deep (unit u) k.0 (sym e ∙ k.1))
  is_too_deep (Err read.Memory) e ds d lt = tt
  is_too_deep (Err (read.Cause (Syntax n))) e ds d lt = too_deep_bad _ _ (never_faulty ts ds n d e)
  is_too_deep (Err (read.Cause (TooDeep n))) e ds d lt = tt

  bad_none : (b : ℕ) (o : Option ℕ) (t : ℕ) → refusal (bad_at b o) ≡ refusal (errors.Syntax t) → FirstBad ts b o → FirstBad ts t None
  bad_none b None t e h = subst (λ (k : ℕ). FirstBad ts k None) (ap (λ (r : Result File ParseErr). token_in b r) e) h
  bad_none b (Some w) t e h = absurd cc

  bad_some : (b : ℕ) (o : Option ℕ) (t what : ℕ) → refusal (bad_at b o) ≡ refusal (errors.Unsupported t what) → FirstBad ts b o → FirstBad ts t (Some what)
  bad_some b None t what e h = absurd cc
  bad_some b (Some w) t what e h = subst (λ (k : ℕ). FirstBad ts t (Some k)) (ap (λ (r : Result File ParseErr). word_in w r) e) (subst (λ (k : ℕ). FirstBad ts k (Some w)) (ap (λ (r : Result File ParseErr). token_in b r) e) h)

  bad_not_deep : (b : ℕ) (o : Option ℕ) (t : ℕ) → refusal (bad_at b o) ≡ refusal (errors.TooDeep t) → ⊥
  bad_not_deep b None t e = cc
  bad_not_deep b (Some w) t e = cc

  module _ (begun : SyntaxBegun) where
    pub is_syntax : (r : Result File (Failure Fault)) → Gives unit r (unit_at 199 ts) → (t : ℕ) → answered ts r ≡ Err (errors.Syntax t) → FirstBad ts t None
    is_syntax (Ok u) e t is = absurd cc
    is_syntax (Err read.Memory) e t is = absurd cc
    is_syntax (Err (read.Cause (Syntax n))) e t is = bad_none _ _ t is (first_bad begun ts n e)
    is_syntax (Err (read.Cause (TooDeep n))) e t is = absurd cc

    pub is_refused : (r : Result File (Failure Fault)) → Gives unit r (unit_at 199 ts) → (t what : ℕ) → answered ts r ≡ Err (errors.Unsupported t what) → FirstBad ts t (Some what)
    is_refused (Ok u) e t what is = absurd cc
    is_refused (Err read.Memory) e t what is = absurd cc
    is_refused (Err (read.Cause (Syntax n))) e t what is = bad_some _ _ t what is (first_bad begun ts n e)
    is_refused (Err (read.Cause (TooDeep n))) e t what is = absurd cc

  module _ (begun : DeepBegun) where
    pub is_deep : (r : Result File (Failure Fault)) → Gives unit r (unit_at 199 ts) → (t : ℕ) → answered ts r ≡ Err (errors.TooDeep t) → FirstDeep ts t
    is_deep (Ok u) e t is = absurd cc
    is_deep (Err read.Memory) e t is = absurd cc
    is_deep (Err (read.Cause (Syntax n))) e t is = absurd (bad_not_deep _ _ t is)
    is_deep (Err (read.Cause (TooDeep n))) e t is = subst (λ (k : ℕ). FirstDeep ts k) (ap (λ (r : Result File ParseErr). token_in (length ts - n) r) is) (first_deep begun ts n e)

pub fault_begun : SyntaxBegun
fault_begun ts n e = syntax_begun 199 ts n e

pub depth_begun : DeepBegun
depth_begun ts n e = deep_begun 199 ts n e
