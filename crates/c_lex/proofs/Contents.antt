-- What is read between quotes is what is spelled there.
use Rattle.std.proofs.Common.{◌≡◌, ℕ, ◌<◌, ◌+◌, ◌*◌, Bool, true, false, cond, eqb, ltb, ◌&&◌, List, [], ◌∷◌, ◌++◌, refl, sym, ap, subst, ◌∙◌, arith, append_assoc, append-nil, lt-ltb}
use Rattle.std.specs.Prelude.{Option, Some, None}
use Rattle.std.specs.Char.{is_ascii_hexdigit}
use Rattle.std.proofs.lemmas.Bool.{eqb-true, eqb-false, eq-eqb, ne_eqb}
use Rattle.std.proofs.lemmas.Bool.Decides.{nat_tests}
use Rattle.kit_base.specs.Digits.{digit_value}
use Rattle.quoted_text.specs.declared.quoted.Within.{Within}
use Rattle.quoted_text.specs.declared.quoted.Within.TheVariants as w
use Rattle.quoted_text.specs.declared.quoted.Turn.{Turn}
use Rattle.quoted_text.specs.declared.quoted.Turn.TheVariants as t
use Rattle.quoted_text.specs.Quoted.{escaped, escape_turn, front, by_turn, turn_of, quoted_at}
use Rattle.c_lex.specs.Grammar.{IsPiece, itself, escape, code, IsContent, nothing, piece}
use Rattle.c_lex.proofs.Texts.{some_is, front_is}

small : (b : ℕ) → is_ascii_hexdigit b ≡ true → digit_value b < 16
small b e = grind (arith, nat_tests)

-- what was read of a piece so far
abbrev IsPrefix : Within → List ℕ → Type 0
IsPrefix w.Plain pre = pre ≡ []
IsPrefix w.Escape pre = pre ≡ 92 ∷ []
IsPrefix w.High pre = pre ≡ 92 ∷ 120 ∷ []
IsPrefix (w.Low v) pre = (h : ℕ) × (is_ascii_hexdigit h ≡ true) × (digit_value h ≡ v) × (pre ≡ 92 ∷ 120 ∷ h ∷ [])

-- what a byte behind it then says
abbrev Says : ℕ → List ℕ → ℕ → Turn → Type 0
Says q pre b t.Ends = (pre ≡ []) × (b ≡ q)
Says q pre b t.Fails = Unit {0}
Says q pre b (t.Goes s) = IsPrefix s (pre ++ b ∷ [])
Says q pre b (t.Gives x) = IsPiece q (pre ++ b ∷ []) x

behind : (pre p : List ℕ) (b c : ℕ) → pre ≡ p → b ≡ c → pre ++ b ∷ [] ≡ p ++ c ∷ []
behind pre p b c e f = ap (λ (l : List ℕ). l ++ b ∷ []) e ∙ ap (λ (x : ℕ). p ++ x ∷ []) f

plain_says : (q b : ℕ) (pre : List ℕ) → pre ≡ [] → (x y z : Bool) → eqb b q ≡ x → eqb b 10 ≡ y → eqb b 92 ≡ z → Says q pre b (cond x t.Ends (cond y t.Fails (cond z (t.Goes w.Escape) (t.Gives b))))
plain_says q b pre is true y z ends fails goes = (is, eqb-true b q ends)
plain_says q b pre is false true z ends fails goes = tt
plain_says q b pre is false false true ends fails goes = behind pre [] b 92 is (eqb-true b 92 goes)
plain_says q b pre is false false false ends fails goes = itself (eqb-false b q ends) (eqb-false b 10 fails) (eqb-false b 92 goes) (behind pre [] b b is refl)

x_says : (q b : ℕ) (pre : List ℕ) → pre ≡ 92 ∷ [] → (x : Bool) → eqb b 120 ≡ x → Says q pre b (cond x (t.Goes w.High) t.Fails)
x_says q b pre is true e = behind pre (92 ∷ []) b 120 is (eqb-true b 120 e)
x_says q b pre is false e = tt

escape_says : (q b : ℕ) (pre : List ℕ) → pre ≡ 92 ∷ [] → (o : Option ℕ) → escaped b ≡ o → Says q pre b (escape_turn b o)
escape_says q b pre is (Some given) e = escape b e (behind pre (92 ∷ []) b b is refl)
escape_says q b pre is None e = x_says q b pre is (eqb b 120) refl

high_says : (q b : ℕ) (pre : List ℕ) → pre ≡ 92 ∷ 120 ∷ [] → (x : Bool) → is_ascii_hexdigit b ≡ x → Says q pre b (cond x (t.Goes (w.Low (digit_value b))) t.Fails)
high_says q b pre is true e = (b, e, refl, behind pre (92 ∷ 120 ∷ []) b b is refl)
high_says q b pre is false e = tt

low_says : (q b v : ℕ) (pre : List ℕ) → IsPrefix (w.Low v) pre → (y x : Bool) → is_ascii_hexdigit b ≡ x → Says q pre b (cond (y && x) (t.Gives (v * 16 + digit_value b)) t.Fails)
low_says q b v pre is true true e = code is.0 b is.1 e (behind pre (92 ∷ 120 ∷ is.0 ∷ []) b b is.3 refl) (ap (λ (n : ℕ). n * 16 + digit_value b) (sym is.2))
low_says q b v pre is true false e = tt
low_says q b v pre is false x e = tt

turn_says : (q : ℕ) (s : Within) (b : ℕ) (pre : List ℕ) → IsPrefix s pre → Says q pre b (turn_of q s b)
unfolding turn_of
turn_says q w.Plain b pre is = plain_says q b pre is (eqb b q) (eqb b 10) (eqb b 92) refl refl refl
turn_says q w.Escape b pre is = escape_says q b pre is (escaped b) refl
turn_says q w.High b pre is = high_says q b pre is (is_ascii_hexdigit b) refl
turn_says q (w.Low v) b pre is = low_says q b v pre is (ltb v 16) (is_ascii_hexdigit b) refl

pub record Inside (q : ℕ) (pre bytes content after : List ℕ) : Type 0 where
  pub text : List ℕ
  pub whole : bytes ≡ text ++ q ∷ after
  pub spelled : IsContent q (pre ++ text) content

inside_by : (q b : ℕ) (bs pre content after : List ℕ) (turn : Turn) → Says q pre b turn
    → ((s : Within) (pre' content' : List ℕ) → IsPrefix s pre' → quoted_at q s bs ≡ Some (content', after) → Inside q pre' bs content' after)
    → by_turn turn bs (λ s. quoted_at q s bs) ≡ Some (content, after) → Inside q pre (b ∷ bs) content after
inside_by q b bs pre content after t.Ends says more e = let p = some_is e in record {
  text = [];
  whole = ap (λ (c : ℕ). c ∷ bs) says.1 ∙ ap (λ (l : List ℕ). q ∷ l) (ap (λ (y : List ℕ × List ℕ). y.1) p);
  spelled = nothing (append-nil pre ∙ says.0) (sym (ap (λ (y : List ℕ × List ℕ). y.0) p));
}
inside_by q b bs pre content after t.Fails says more e = absurd cc
inside_by q b bs pre content after (t.Goes s) says more e = let r = more s (pre ++ b ∷ []) content says e in record {
  text = b ∷ r.text;
  whole = ap (λ (l : List ℕ). b ∷ l) r.whole;
  spelled = subst (λ (l : List ℕ). IsContent q l content) (append_assoc pre (b ∷ []) r.text) r.spelled;
}
inside_by q b bs pre content after (t.Gives x) says more e =
    let g = front_is x (quoted_at q w.Plain bs) content after e in
    let r = more w.Plain [] g.0 refl g.1 in
    record {
      text = b ∷ r.text;
      whole = ap (λ (l : List ℕ). b ∷ l) r.whole;
      spelled = piece (pre ++ b ∷ []) r.text x g.0 (sym (append_assoc pre (b ∷ []) r.text)) (sym g.2) says r.spelled;
    }

inside : (q : ℕ) (s : Within) (bytes pre content after : List ℕ) → IsPrefix s pre → quoted_at q s bytes ≡ Some (content, after) → Inside q pre bytes content after
unfolding quoted_at
inside q s [] pre content after is e = absurd cc
inside q s (b ∷ bs) pre content after is e = inside_by q b bs pre content after (turn_of q s b) (turn_says q s b pre is) (λ s' pre' content' is' e'. inside q s' bs pre' content' after is' e') e

pub read_inside : (q : ℕ) (bytes content after : List ℕ) → quoted_at q w.Plain bytes ≡ Some (content, after) → Inside q [] bytes content after
read_inside q bytes content after e = inside q w.Plain bytes [] content after refl e

piece_read : (q : ℕ) (first more : List ℕ) (b : ℕ) → eqb 92 q ≡ false → IsPiece q first b → quoted_at q w.Plain (first ++ more) ≡ front b (quoted_at q w.Plain more)
unfolding quoted_at turn_of escaped
piece_read q first more b other (itself no_quote no_lf no_slash e) =
    let one : quoted_at q w.Plain (b ∷ more) ≡ front b (quoted_at q w.Plain more) = rw (ne_eqb b q no_quote, ne_eqb b 10 no_lf, ne_eqb b 92 no_slash) refl in
    ap (λ (l : List ℕ). quoted_at q w.Plain (l ++ more)) e ∙ one
piece_read q first more b other (escape c is e) =
    let one : quoted_at q w.Plain (92 ∷ c ∷ more) ≡ front b (quoted_at q w.Plain more) = rw (other, is) refl in
    ap (λ (l : List ℕ). quoted_at q w.Plain (l ++ more)) e ∙ one
piece_read q first more b other (code h l high low e value) =
    let below : ltb (digit_value h) 16 ≡ true = lt-ltb (digit_value h) 16 (small h high) in
    let one : quoted_at q w.Plain (92 ∷ 120 ∷ h ∷ l ∷ more) ≡ front (digit_value h * 16 + digit_value l) (quoted_at q w.Plain more) = rw (other, high, below, low) refl in
    ap (λ (l : List ℕ). quoted_at q w.Plain (l ++ more)) e ∙ one ∙ ap (λ (n : ℕ). front n (quoted_at q w.Plain more)) (sym value)

end_read : (q : ℕ) (after : List ℕ) → quoted_at q w.Plain (q ∷ after) ≡ Some ([], after)
unfolding quoted_at turn_of
end_read q after = rw (eq-eqb q q refl) refl

pub content_read : {q : ℕ} {text content : List ℕ} → IsContent q text content → (after : List ℕ) → eqb 92 q ≡ false → quoted_at q w.Plain (text ++ q ∷ after) ≡ Some (content, after)
content_read {q} (nothing e f) after other = ap (λ (l : List ℕ). quoted_at q w.Plain (l ++ q ∷ after)) e ∙ end_read q after ∙ ap (λ (l : List ℕ). Some (l, after)) (sym f)
content_read {q} (piece first rest b bs e f is more) after other =
    ap (λ (l : List ℕ). quoted_at q w.Plain (l ++ q ∷ after)) e ∙ ap (quoted_at q w.Plain) (append_assoc first rest (q ∷ after))
    ∙ piece_read q first (rest ++ q ∷ after) b other is ∙ ap (front b) (content_read more after other) ∙ ap (λ (l : List ℕ). Some (l, after)) (sym f)
