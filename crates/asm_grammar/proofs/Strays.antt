-- What spells no token is a stray one, so that every line has tokens in one way.
use Rattle.std.proofs.Common.{◌≡◌, ℕ, zero, suc, ◌<◌, ◌≤◌, Bool, true, false, cond, ◌&&◌, eqb, List, [], ◌∷◌, ◌++◌, length, take, drop, refl, sym, ap, subst, ◌∙◌, arith, inl, inr, append-nil}
use Rattle.std.specs.Prelude.{◌↔◌, ◌||◌, Option, Some, None, is_some}
use Rattle.std.specs.Char.{is_ascii_digit}
use Rattle.std.specs.List.{list_all, take_while}
use Rattle.std.proofs.lemmas.Bool.{eqb-true}
use Rattle.std.proofs.lemmas.Bool.Decides.{nat_tests}
use Rattle.std.proofs.lemmas.List.Sums.{take_while-cons}
use Rattle.asm_items.specs.Vocabulary.{is_word_byte, word_kind}
use Rattle.asm_items.specs.declared.vocabulary.WordKind.{WordKind}
use Rattle.asm_items.specs.declared.vocabulary.WordKind.TheVariants as w
use Rattle.quoted_text.specs.declared.quoted.Within.TheVariants.{Plain}
use Rattle.quoted_text.specs.Quoted.{quoted_at}
use Rattle.kit_base.specs.Digits.{value_in}
use Rattle.asm_reader.specs.declared.token.Token.{Token}
use Rattle.asm_reader.specs.declared.token.Token.TheVariants as t
use Rattle.asm_reader.specs.Numbers.{limited, hexadecimal_digits, number_by, number_token}
use Rattle.asm_reader.specs.Tokens.{begins, is_blank, kind_token, run_token, mark_token, text_token, token_at, tokens_from, tokens_of}
use Rattle.asm_reader.proofs.Lexing.{passed}
use Rattle.asm_reader.proofs.TokenLaws.{both_true, runs, blanks, comments, token_first}
use Rattle.asm_grammar.specs.Spelled.{IsNumber, IsParted, mark_of, IsQuotedBy, IsNoNumber, begins_some, IsStray, number, negative, quote, byte, IsLineText, ends, comment, blank, token, stray}
use Rattle.asm_grammar.proofs.Quotes.{quoted_is, quoted_read}
use Rattle.asm_grammar.proofs.Again.{number_digits, begins_more, run_taken, dropped, front_read, nothing_read}
use Rattle.asm_grammar.proofs.Spelling.{is_token, run_of, hexadecimal_is, front_spelled}

-- ---- numbers and marks that are none

no_number : (sign : Bool) (run : List ℕ) → IsNoNumber run → number_token sign run ≡ t.Stray
unfolding number_token
no_number sign run off = go (hexadecimal_digits run) refl
  where
    decimal : (x : Bool) → list_all is_ascii_digit run ≡ x → cond x (t.Number sign (limited (value_in 10 run))) t.Stray ≡ t.Stray
    decimal true all = absurd (off.none (value_in 10 run) (inl (record { some = off.first; all = all; value = refl })))
    decimal false all = refl

    go : (o : Option (List ℕ)) → hexadecimal_digits run ≡ o → number_by sign run o ≡ t.Stray
    go (Some digits) e = absurd (off.none (value_in 16 digits) (inr (hexadecimal_is run digits e)))
    go None e = decimal (list_all is_ascii_digit run) refl

number_not : (sign : Bool) (run : List ℕ) → is_token (number_token sign run) ≡ false → (n : ℕ) → IsNumber run n → ⊥
number_not sign run h n d =
    let r = (number_digits sign run n d).read in
    let bad : true ≡ false = ap is_token (sym r) ∙ h in
    absurd cc

neither : (a b : Bool) → (a || b) ≡ false → (a ≡ false) × (b ≡ false)
neither true b h = absurd cc
neither false b h = (refl, h)

no_mark : (b : ℕ) → is_some (mark_of b) ≡ false → eqb b 45 ≡ false → mark_token b ≡ t.Stray
unfolding mark_token
no_mark b none e = go (eqb b 58) (eqb b 44) (eqb b 91) (eqb b 93) (eqb b 43) none ∙ rw e refl
  where
    go : (p q r s u : Bool) → is_some (cond p (Some t.Colon) (cond q (Some t.Comma) (cond r (Some t.Open) (cond s (Some t.Close) (cond u (Some t.Plus) None))))) ≡ false
        → cond p t.Colon (cond q t.Comma (cond r t.Open (cond s t.Close (cond u t.Plus (cond (eqb b 45) t.Minus t.Stray))))) ≡ cond (eqb b 45) t.Minus t.Stray
    go true q r s u h = absurd cc
    go false true r s u h = absurd cc
    go false false true s u h = absurd cc
    go false false false true u h = absurd cc
    go false false false false true h = absurd cc
    go false false false false false h = refl

mark_not : (b : ℕ) → is_token (mark_token b) ≡ false → is_some (mark_of b) ≡ false
unfolding mark_token
mark_not b h = go (eqb b 58) (eqb b 44) (eqb b 91) (eqb b 93) (eqb b 43) (cond (eqb b 45) t.Minus t.Stray) h
  where
    go : (p q r s u : Bool) (x : Token) → is_token (cond p t.Colon (cond q t.Comma (cond r t.Open (cond s t.Close (cond u t.Plus x))))) ≡ false
        → is_some (cond p (Some t.Colon) (cond q (Some t.Comma) (cond r (Some t.Open) (cond s (Some t.Close) (cond u (Some t.Plus) None))))) ≡ false
    go true q r s u x h = absurd cc
    go false true r s u x h = absurd cc
    go false false true s u x h = absurd cc
    go false false false true u x h = absurd cc
    go false false false false true x h = absurd cc
    go false false false false false x h = refl

minus_not : (b : ℕ) → is_token (mark_token b) ≡ false → eqb b 45 ≡ false
unfolding mark_token
minus_not b h = go (eqb b 45) refl
  where
    go : (x : Bool) → eqb b 45 ≡ x → x ≡ false
    go true e = let is = eqb-true b 45 e in let bad : is_token (mark_token 45) ≡ false = ap (λ (n : ℕ). is_token (mark_token n)) (sym is) ∙ h in absurd cc
    go false e = refl

-- ---- what is stray is read so

length_some : (p : ℕ → Bool) (run : List ℕ) → begins p run ≡ true → 0 < length run
length_some p [] h = absurd cc
length_some p (b ∷ bs) h = omega arith

run_stray : (run : List ℕ) → IsNoNumber run → run_token run ≡ t.Stray
unfolding run_token
run_stray run off = rw off.first (no_number false run off)

negative_stray : (run rest : List ℕ) → IsNoNumber run → IsParted rest → token_at (45 ∷ (run ++ rest)) ≡ (t.Stray, length run)
unfolding token_at
negative_stray run rest off ended =
    let front : take_while is_word_byte (run ++ rest) ≡ run = run_taken is_word_byte run rest off.all ended in
    let one : token_at (45 ∷ (run ++ rest)) ≡ (number_token true (take_while is_word_byte (run ++ rest)), length (take_while is_word_byte (run ++ rest))) = rw (begins_more is_ascii_digit run rest off.first) refl in
    one ∙ ap (λ (l : List ℕ). (number_token true l, length l)) front ∙ ap (λ (x : Token). (x, length run)) (no_number true run off)

quote_stray : (bytes : List ℕ) → ((content after : List ℕ) → IsQuotedBy bytes content after → ⊥) → token_at (34 ∷ bytes) ≡ (t.Stray, length bytes)
unfolding token_at
quote_stray bytes none = go (quoted_at 34 Plain bytes) refl
  where
    go : (o : Option (List ℕ × List ℕ)) → quoted_at 34 Plain bytes ≡ o → text_token bytes o ≡ (t.Stray, length bytes)
    go None e = refl
    go (Some (content, after)) e = absurd (none content after (quoted_is bytes content after e))

record Nothing (b : ℕ) (bs : List ℕ) : Type 0 where
  no_blank : is_blank b ≡ false
  no_comment : eqb b 59 ≡ false
  at : token_at (b ∷ bs) ≡ (t.Stray, 0)

nothing_begins : (b : ℕ) (bs : List ℕ) → begins_some b ≡ false → Nothing b bs
unfolding token_at
nothing_begins b bs h =
    let word = neither (is_word_byte b) _ h in
    let blank = neither (is_blank b) _ word.1 in
    let comment = neither (eqb b 59) _ blank.1 in
    let quote = neither (eqb b 34) _ comment.1 in
    let minus = neither (eqb b 45) _ quote.1 in
    let one : token_at (b ∷ bs) ≡ (mark_token b, 0) = rw (word.0, minus.0, quote.0) refl in
    record { no_blank = blank.0; no_comment = comment.0; at = one ∙ ap (λ (x : Token). (x, 0)) (no_mark b minus.1 minus.0) }

stray_read : (text rest : List ℕ) → IsStray text rest → tokens_of (text ++ rest) ≡ t.Stray ∷ tokens_of rest
stray_read text rest (number off ended) =
    runs text rest (length_some is_ascii_digit text off.first) off.all ended ∙ ap (λ (y : Token). y ∷ tokens_of rest) (run_stray text off)
stray_read text rest (negative run e off ended) =
    ap (λ (l : List ℕ). tokens_of (l ++ rest)) e ∙ token_first 45 (length run) (run ++ rest) rest t.Stray refl refl (negative_stray run rest off ended) (dropped run rest)
stray_read text rest (quote bytes e f none) =
    let whole : bytes ++ rest ≡ bytes = ap (λ (l : List ℕ). bytes ++ l) f ∙ append-nil bytes in
    ap (λ (l : List ℕ). tokens_of (l ++ rest)) e
    ∙ token_first 34 (length bytes) (bytes ++ rest) rest t.Stray refl refl (ap (λ (l : List ℕ). token_at (34 ∷ l)) whole ∙ quote_stray bytes none) (dropped bytes rest)
stray_read text rest (byte b e none) =
    let a = nothing_begins b rest none in
    ap (λ (l : List ℕ). tokens_of (l ++ rest)) e ∙ token_first b 0 rest rest t.Stray a.no_blank a.no_comment a.at refl

pub line_read : {line : List ℕ} {tokens : List Token} → IsLineText line tokens → tokens_of line ≡ tokens
line_read (ends e f) = ap tokens_of e ∙ nothing_read ∙ sym f
line_read (comment said e f) = ap tokens_of e ∙ comments said ∙ sym f
line_read (blank b rest e is more) = ap tokens_of e ∙ blanks b rest is ∙ line_read more
line_read (token text rest first more e f is others) = ap tokens_of e ∙ front_read text rest first is ∙ ap (λ (ts : List Token). first ∷ ts) (line_read others) ∙ sym f
line_read (stray text rest more e f is others) = ap tokens_of e ∙ stray_read text rest is ∙ ap (λ (ts : List Token). t.Stray ∷ ts) (line_read others) ∙ sym f

-- ---- what is read as stray is so

stray_is : (x : Token) → is_token x ≡ false → x ≡ t.Stray
stray_is t.Stray h = refl
stray_is _ h = absurd cc

kind_is : (text : List ℕ) (k : WordKind) → is_token (kind_token text k) ≡ true
kind_is text w.Float = refl
kind_is text (w.Operation o) = refl
kind_is text (w.Data d) = refl
kind_is text (w.Register r) = refl
kind_is text (w.Port p) = refl
kind_is text w.Label = refl

-- letters, digits and `_`
run_is : (b : ℕ) (bs : List ℕ) (x : Bool) → is_ascii_digit b ≡ x → is_word_byte b ≡ true → list_all is_word_byte bs ≡ true → is_token (run_token (b ∷ bs)) ≡ false → IsNoNumber (b ∷ bs)
unfolding run_token
run_is b bs true digit first all h =
    let one : run_token (b ∷ bs) ≡ number_token false (b ∷ bs) = rw digit refl in
    record { first = digit; all = rw (first, all) refl; none = number_not false (b ∷ bs) (ap is_token (sym one) ∙ h) }
run_is b bs false digit first all h =
    let one : run_token (b ∷ bs) ≡ kind_token (b ∷ bs) (word_kind (b ∷ bs)) = rw digit refl in
    let bad : true ≡ false = sym (kind_is (b ∷ bs) (word_kind (b ∷ bs))) ∙ ap is_token (sym one) ∙ h in
    absurd cc

pub record Front (b : ℕ) (bs : List ℕ) (found : Token × ℕ) : Type 0 where
  pub stray : IsStray (b ∷ take found.1 bs) (drop found.1 bs)

front_by : (b : ℕ) (bs : List ℕ) (one two : Token × ℕ) → one ≡ two → Front b bs two → Front b bs one
front_by b bs one two e f = subst (Front b bs) (sym e) f

all_taken : (bs : List ℕ) → take (length bs) bs ≡ bs
all_taken [] = refl
all_taken (b ∷ bs) = ap (λ (l : List ℕ). b ∷ l) (all_taken bs)

all_dropped : (bs : List ℕ) → drop (length bs) bs ≡ []
all_dropped [] = refl
all_dropped (b ∷ bs) = all_dropped bs

quote_front : (b : ℕ) (bs : List ℕ) (o : Option (List ℕ × List ℕ)) → b ≡ 34 → quoted_at 34 Plain bs ≡ o → is_token (text_token bs o).0 ≡ false → Front b bs (text_token bs o)
quote_front b bs None is e h = record {
  stray = quote bs (ap (λ (l : List ℕ). b ∷ l) (all_taken bs) ∙ ap (λ (n : ℕ). n ∷ bs) is) (all_dropped bs)
      (λ content after q. let r = sym e ∙ quoted_read bs content after q in absurd cc);
}
quote_front b bs (Some (content, after)) is e h = absurd cc

digit_within : (c : ℕ) → is_ascii_digit c ≡ true → is_word_byte c ≡ true
digit_within c d = grind (arith, nat_tests)

begins_run : (cs : List ℕ) → begins is_ascii_digit cs ≡ true → begins is_ascii_digit (take_while is_word_byte cs) ≡ true
begins_run [] d = d
begins_run (c ∷ cs) d =
    let one : take_while is_word_byte (c ∷ cs) ≡ c ∷ take_while is_word_byte cs = take_while-cons is_word_byte c cs ∙ rw (digit_within c d) refl in
    ap (begins is_ascii_digit) one ∙ d

module _ (b : ℕ) (bs : List ℕ) (no_blank : is_blank b ≡ false) (no_comment : eqb b 59 ≡ false) where
  by_quote : (x : Bool) → eqb b 34 ≡ x → is_word_byte b ≡ false
      → is_token (cond x (text_token bs (quoted_at 34 Plain bs)) (mark_token b, 0)).0 ≡ false → Front b bs (cond x (text_token bs (quoted_at 34 Plain bs)) (mark_token b, 0))
  by_quote true e word h = quote_front b bs (quoted_at 34 Plain bs) (eqb-true b 34 e) refl h
  by_quote false e word h = record { stray = byte b refl (rw (word, no_blank, no_comment, e, minus_not b h, mark_not b h) refl) }

  by_minus : (x : Bool) → (eqb b 45 && begins is_ascii_digit bs) ≡ x → is_word_byte b ≡ false
      → is_token (cond x (number_token true (take_while is_word_byte bs), length (take_while is_word_byte bs)) (cond (eqb b 34) (text_token bs (quoted_at 34 Plain bs)) (mark_token b, 0))).0 ≡ false
      → Front b bs (cond x (number_token true (take_while is_word_byte bs), length (take_while is_word_byte bs)) (cond (eqb b 34) (text_token bs (quoted_at 34 Plain bs)) (mark_token b, 0)))
  by_minus true e word h =
      let is = both_true (eqb b 45) (begins is_ascii_digit bs) e in
      let r = run_of is_word_byte bs in
      let off : IsNoNumber (take_while is_word_byte bs) = record { first = begins_run bs is.1; all = r.all; none = number_not true (take_while is_word_byte bs) h } in
      record { stray = negative (take_while is_word_byte bs) (ap (λ (k : ℕ). k ∷ take (length (take_while is_word_byte bs)) bs) (eqb-true b 45 is.0) ∙ ap (λ (l : List ℕ). 45 ∷ l) r.front) off r.ended }
  by_minus false e word h = by_quote (eqb b 34) refl word h

  by_word : (x : Bool) → is_word_byte b ≡ x
      → is_token (cond x (run_token (take_while is_word_byte (b ∷ bs)), length (take_while is_word_byte bs)) (cond (eqb b 45 && begins is_ascii_digit bs) (number_token true (take_while is_word_byte bs), length (take_while is_word_byte bs)) (cond (eqb b 34) (text_token bs (quoted_at 34 Plain bs)) (mark_token b, 0)))).0 ≡ false
      → Front b bs (cond x (run_token (take_while is_word_byte (b ∷ bs)), length (take_while is_word_byte bs)) (cond (eqb b 45 && begins is_ascii_digit bs) (number_token true (take_while is_word_byte bs), length (take_while is_word_byte bs)) (cond (eqb b 34) (text_token bs (quoted_at 34 Plain bs)) (mark_token b, 0))))
  by_word true e h =
      let r = run_of is_word_byte bs in
      let one : take_while is_word_byte (b ∷ bs) ≡ b ∷ take_while is_word_byte bs = take_while-cons is_word_byte b bs ∙ rw e refl in
      let off = run_is b (take_while is_word_byte bs) (is_ascii_digit b) refl e r.all (ap (λ (l : List ℕ). is_token (run_token l)) (sym one) ∙ h) in
      front_by b bs _ (run_token (b ∷ take_while is_word_byte bs), length (take_while is_word_byte bs))
      (ap (λ (l : List ℕ). (run_token l, length (take_while is_word_byte bs))) one)
      (record { stray = subst (λ (l : List ℕ). IsStray (b ∷ l) (drop (length (take_while is_word_byte bs)) bs)) (sym r.front) (number off r.ended) })
  by_word false e h = by_minus (eqb b 45 && begins is_ascii_digit bs) refl e h

  front_stray : is_token (token_at (b ∷ bs)).0 ≡ false → Front b bs (token_at (b ∷ bs))
  unfolding token_at
  front_stray h = by_word (is_word_byte b) refl h

-- ---- the whole line

cut_whole : (n : ℕ) (bs : List ℕ) → bs ≡ take n bs ++ drop n bs
cut_whole zero bs = refl
cut_whole (suc n) [] = refl
cut_whole (suc n) (b ∷ bs) = ap (λ (l : List ℕ). b ∷ l) (cut_whole n bs)

shorter : (n : ℕ) (bs : List ℕ) → length (drop n bs) ≤ length bs
shorter zero bs = omega arith
shorter (suc n) [] = omega arith
shorter (suc n) (b ∷ bs) = let s = shorter n bs in omega (arith, s)

-- a token that is spelled, or a stray one, and what stands behind it
front_step : (b : ℕ) (bs : List ℕ) (x : Bool) → is_token (token_at (b ∷ bs)).0 ≡ x → is_blank b ≡ false → eqb b 59 ≡ false
    → tokens_of (b ∷ bs) ≡ (token_at (b ∷ bs)).0 ∷ tokens_of (drop (token_at (b ∷ bs)).1 bs)
    → IsLineText (drop (token_at (b ∷ bs)).1 bs) (tokens_of (drop (token_at (b ∷ bs)).1 bs)) → IsLineText (b ∷ bs) (tokens_of (b ∷ bs))
front_step b bs true is no_blank no_comment e more =
    let k = (token_at (b ∷ bs)).1 in
    token (b ∷ take k bs) (drop k bs) (token_at (b ∷ bs)).0 (tokens_of (drop k bs)) (ap (λ (l : List ℕ). b ∷ l) (cut_whole k bs)) e (front_spelled b bs is).spelled more
front_step b bs false is no_blank no_comment e more =
    let k = (token_at (b ∷ bs)).1 in
    let none = e ∙ ap (λ (x : Token). x ∷ tokens_of (drop k bs)) (stray_is (token_at (b ∷ bs)).0 is) in
    stray (b ∷ take k bs) (drop k bs) (tokens_of (drop k bs)) (ap (λ (l : List ℕ). b ∷ l) (cut_whole k bs)) none (front_stray b bs no_blank no_comment is).stray more

line_step : (b : ℕ) (bs : List ℕ) (x y : Bool) → is_blank b ≡ x → eqb b 59 ≡ y
    → ((rest : List ℕ) → length rest ≤ length bs → IsLineText rest (tokens_of rest)) → IsLineText (b ∷ bs) (tokens_of (b ∷ bs))
unfolding tokens_of tokens_from
line_step b bs true y e f more =
    let one : tokens_of (b ∷ bs) ≡ tokens_of bs = rw e refl in
    blank b bs refl e (subst (IsLineText bs) (sym one) (more bs (omega arith)))
line_step b bs false true e f more =
    let none : tokens_of (b ∷ bs) ≡ [] = rw (e, f) refl in
    comment bs (ap (λ (n : ℕ). n ∷ bs) (eqb-true b 59 f)) none
line_step b bs false false e f more =
    let k = (token_at (b ∷ bs)).1 in
    let one : tokens_of (b ∷ bs) ≡ (token_at (b ∷ bs)).0 ∷ tokens_from k bs = rw (e, f) refl in
    let two : tokens_of (b ∷ bs) ≡ (token_at (b ∷ bs)).0 ∷ tokens_of (drop k bs) = one ∙ ap (λ (ts : List Token). (token_at (b ∷ bs)).0 ∷ ts) (passed k bs) in
    front_step b bs (is_token (token_at (b ∷ bs)).0) refl e f two (more (drop k bs) (shorter k bs))

within : (n : ℕ) (line : List ℕ) → length line ≤ n → IsLineText line (tokens_of line)
unfolding tokens_of tokens_from
within n [] le = ends refl refl
within zero (b ∷ bs) le = absurd (omega (arith, le))
within (suc n) (b ∷ bs) le = line_step b bs (is_blank b) (eqb b 59) refl refl (λ rest shorter. within n rest (omega (arith, le, shorter)))

pub line_spelled : (line : List ℕ) → IsLineText line (tokens_of line)
line_spelled line = within (length line) line (omega arith)

to_text : (line : List ℕ) (tokens : List Token) → tokens_of line ≡ tokens → IsLineText line tokens
to_text line tokens e = subst (IsLineText line) e (line_spelled line)

pub tokens_both : (line : List ℕ) (tokens : List Token) → (tokens_of line ≡ tokens) ↔ IsLineText line tokens
tokens_both line tokens = (to_text line tokens, λ (is : IsLineText line tokens). line_read is)
