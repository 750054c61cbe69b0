-- A text or a character is the longest spelling at its place.
use Rattle.std.proofs.Common.{◌≡◌, ℕ, ◌<◌, ◌-◌, Bool, true, false, cond, eqb, List, [], ◌∷◌, ◌++◌, length, refl, sym, ap, subst, ◌∙◌, arith, append_assoc}
use Rattle.std.specs.Prelude.{Option, Some, None, IsSome, option_map}
use Rattle.std.specs.Char.{is_ascii_digit}
use Rattle.std.proofs.lemmas.Bool.{eqb-true}
use Rattle.std.proofs.lemmas.List.{nil_from_length, length-append}
use Rattle.c_lex.specs.declared.token.Kind.{Kind}
use Rattle.quoted_text.specs.declared.quoted.Within.TheVariants as w
use Rattle.c_lex.specs.Bytes.{begins, is_letter, is_quote}
use Rattle.quoted_text.specs.Quoted.{Content, quoted_at}
use Rattle.c_lex.specs.Spelling.{IsToken, spelling_of, content_kind, whole_content, quoted_of, ends_so}
use Rattle.c_lex.specs.Found.{content_found, quoted_found}
use Rattle.c_lex.proofs.Runs.{begins_append}
use Rattle.c_lex.proofs.Stands.{Stands, some_is}
use Rattle.c_lex.proofs.Texts.{stays, parts_of}

pub record Quote (bytes : List ℕ) : Type 0 where
  pub letter : begins is_letter bytes ≡ false
  pub digit : begins is_ascii_digit bytes ≡ false
  pub quote : begins is_quote bytes ≡ true

pub is_quoted_of : (q : ℕ) (f : List ℕ) → Quote (q ∷ f) → spelling_of (q ∷ f) ≡ whole_content q (quoted_at q w.Plain f)
unfolding spelling_of quoted_of
is_quoted_of q f d = rw (d.letter, d.digit, d.quote) refl

front_quote : (a r : List ℕ) → 0 < length a → Quote (a ++ r) → Quote a
front_quote a r some d = record {
  letter = sym (begins_append is_letter a r some) ∙ d.letter;
  digit = sym (begins_append is_ascii_digit a r some) ∙ d.digit;
  quote = sym (begins_append is_quote a r some) ∙ d.quote;
}

ended : (q : ℕ) (x : List ℕ × List ℕ) → IsSome (whole_content q (Some x)) → length x.1 ≡ 0
ended q x h = eqb-true _ _ (chosen (eqb (length x.1) 0) h)
  where
    chosen : (b : Bool) → IsSome (cond b (content_kind q x.0) None) → b ≡ true
    chosen true h = refl
    chosen false h = absurd cc

whole_is : (q : ℕ) (o : Content) (v more : List ℕ) → o ≡ Some (v, more) → IsSome (whole_content q o) → length more ≡ 0
whole_is q o v more e h = ended q (v, more) (subst (λ (x : Content). IsSome (whole_content q x)) e h)

-- texts and characters end as they are spelled
ends_with : (q : ℕ) (v text rest : List ℕ) (kind : Kind) → content_kind q v ≡ Some kind → ends_so kind text rest ≡ true
ends_with q v text rest kind e = by (eqb q 34) v e
  where
    by : (b : Bool) (v : List ℕ) → cond b (Some (Rattle.c_lex.specs.declared.token.Kind.TheVariants.Text v)) (Rattle.c_lex.specs.Spelling.char_of v) ≡ Some kind → ends_so kind text rest ≡ true
    by true v h = ap (λ (x : Kind). ends_so x text rest) (sym (some_is h))
    by false [] h = absurd cc
    by false (c ∷ []) h = ap (λ (x : Kind). ends_so x text rest) (sym (some_is h))
    by false (c ∷ d ∷ cs) h = absurd cc

made : (q : ℕ) (f v r : List ℕ) (kind : Kind) → Quote (q ∷ (f ++ r)) → quoted_at q w.Plain f ≡ Some (v, []) → content_kind q v ≡ Some kind → IsToken (q ∷ f) r kind
made q f v r kind d own is = record {
  spelled = is_quoted_of q f (front_quote (q ∷ f) r (omega arith) d) ∙ ap (whole_content q) own ∙ is;
  ends = ends_with q v (q ∷ f) r kind is;
  longest = λ more after e h.
      let whole : q ∷ (f ++ r) ≡ (q ∷ (f ++ more)) ++ after = ap (λ (x : List ℕ). q ∷ (f ++ x)) e ∙ ap (λ (x : List ℕ). q ∷ x) (sym (append_assoc f more after)) in
      let d' : Quote (q ∷ (f ++ more)) = front_quote (q ∷ (f ++ more)) after (omega arith) (subst (λ (x : List ℕ). Quote x) whole d) in
      let h' : IsSome (whole_content q (quoted_at q w.Plain (f ++ more))) = subst (λ (o : Option Kind). IsSome o) (is_quoted_of q (f ++ more) d') h in
      let longer : quoted_at q w.Plain (f ++ more) ≡ Some (v, more) = stays q w.Plain f more (rw own refl) ∙ rw own refl in
      nil_from_length more (whole_is q (quoted_at q w.Plain (f ++ more)) v more longer h');
}

record Got (len q : ℕ) (o : Content) (n : ℕ) (kind : Kind) : Type 0 where
  content : List ℕ
  after : List ℕ
  is : o ≡ Some (content, after)
  kind_is : content_kind q content ≡ Some kind
  len_is : len - length after ≡ n

got_by : (len q : ℕ) (x : List ℕ × List ℕ) (n : ℕ) (kind : Kind) (k : Option Kind) → content_kind q x.0 ≡ k → option_map {U = ℕ × Kind} (λ kind. (len - length x.1, kind)) k ≡ Some (n, kind) → Got len q (Some x) n kind
got_by len q x n kind None is e = absurd cc
got_by len q x n kind (Some k) is e = record {
  content = x.0;
  after = x.1;
  is = refl;
  kind_is = is ∙ ap (λ (y : ℕ × Kind). Some y.1) (some_is e);
  len_is = ap (λ (y : ℕ × Kind). y.0) (some_is e);
}

got : (len q : ℕ) (o : Content) (n : ℕ) (kind : Kind) → content_found len q o ≡ Some (n, kind) → Got len q o n kind
got len q None n kind e = absurd cc
got len q (Some x) n kind e = got_by len q x n kind (content_kind q x.0) refl e

pub quoted_stands : (bytes : List ℕ) (len : ℕ) (kind : Kind) → Quote bytes → quoted_found bytes ≡ Some (len, kind) → Stands bytes len kind
unfolding quoted_found
quoted_stands [] len kind d e = let q = d.quote in absurd cc
quoted_stands (q ∷ bs) len kind d e =
    let g = got (length (q ∷ bs)) q (quoted_at q w.Plain bs) len kind e in
    let p = parts_of q w.Plain bs g.content g.after g.is in
    let whole : q ∷ bs ≡ (q ∷ p.text) ++ g.after = ap (λ (x : List ℕ). q ∷ x) p.whole in
    let size = ap length whole in
    record {
      text = q ∷ p.text;
      rest = g.after;
      whole = whole;
      size = omega (arith, length-append (q ∷ p.text) g.after, g.len_is);
      some = omega (arith, length-append (q ∷ p.text) g.after, g.len_is);
      is_token = made q p.text g.content g.after kind (subst (λ (x : List ℕ). Quote x) whole d) p.own g.kind_is;
    }

pub whole_kind : (q : ℕ) (o : Content) (kind : Kind) → whole_content q o ≡ Some kind → (v : List ℕ) × (o ≡ Some (v, [])) × (content_kind q v ≡ Some kind)
whole_kind q None kind e = absurd cc
whole_kind q (Some x) kind e = let h = chosen (eqb (length x.1) 0) e in (x.0, ap (λ (y : List ℕ). Some (x.0, y)) (nil_from_length x.1 (eqb-true _ _ h.0)), h.1)
  where
    chosen : (b : Bool) → cond b (content_kind q x.0) None ≡ Some kind → (b ≡ true) × (content_kind q x.0 ≡ Some kind)
    chosen true h = (refl, h)
    chosen false h = absurd cc

complete_by : (q : ℕ) (f rest v : List ℕ) (kind : Kind) → quoted_at q w.Plain f ≡ Some (v, []) → content_kind q v ≡ Some kind → quoted_found ((q ∷ f) ++ rest) ≡ Some (length (q ∷ f), kind)
unfolding quoted_found
complete_by q f rest v kind own is =
    let len : ℕ = length (q ∷ (f ++ rest)) in
    let longer : quoted_at q w.Plain (f ++ rest) ≡ Some (v, rest) = stays q w.Plain f rest (rw own refl) ∙ rw own refl in
    let size : len - length rest ≡ length (q ∷ f) = omega (arith, length-append f rest) in
    let found : content_found len q (Some (v, rest)) ≡ Some (len - length rest, kind) = rw is refl in
    ap (content_found len q) longer ∙ found ∙ ap (λ (n : ℕ). Some (n, kind)) size

pub quoted_complete : (text rest : List ℕ) (kind : Kind) → Quote text → IsToken text rest kind → quoted_found (text ++ rest) ≡ Some (length text, kind)
quoted_complete [] rest kind d t = let q = d.quote in absurd cc
quoted_complete (q ∷ f) rest kind d t =
    let own = whole_kind q (quoted_at q w.Plain f) kind (sym (is_quoted_of q f d) ∙ t.spelled) in
    complete_by q f rest own.0 kind own.1 own.2
