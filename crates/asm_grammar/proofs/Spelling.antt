-- A token that is read is spelled.
use Rattle.std.proofs.Common.{◌≡◌, ℕ, ◌<◌, ◌+◌, ◌-◌, Bool, true, false, cond, ◌&&◌, eqb, List, [], ◌∷◌, ◌++◌, length, take, drop, refl, sym, ap, subst, ◌∙◌, arith, inl, inr, ltb-true, append_assoc}
use Rattle.std.specs.Prelude.{Option, Some, None, nat_lt}
use Rattle.std.specs.Char.{is_ascii_digit, is_ascii_hexdigit}
use Rattle.std.specs.List.{list_all, take_while}
use Rattle.std.proofs.lemmas.Bool.{eqb-true, eqb-false}
use Rattle.std.proofs.lemmas.Bool.Decides.{nat_tests}
use Rattle.std.proofs.lemmas.List.Sums.{take_while-cons}
use Rattle.asm_items.specs.Vocabulary.{is_letter, is_word_byte}
use Rattle.quoted_text.specs.declared.quoted.Within.TheVariants.{Plain}
use Rattle.asm_reader.specs.declared.token.Token.{Token}
use Rattle.asm_reader.specs.declared.token.Token.TheVariants as t
use Rattle.kit_base.specs.Digits.{value_in}
use Rattle.asm_reader.specs.Numbers.{limited, hexadecimal_digits, number_by, number_token}
use Rattle.quoted_text.specs.Quoted.{quoted_at}
use Rattle.asm_reader.specs.Tokens.{begins, run_token, mark_token, text_token, token_at}
use Rattle.asm_reader.proofs.TokenLaws.{both_true}
use Rattle.c_lex.specs.Grammar.{IsHexadecimal}
use Rattle.asm_grammar.specs.Spelled.{IsNumber, IsSpelled, word, number, negative, quoted, mark, minus}
use Rattle.asm_grammar.proofs.Quotes.{quoted_is}

-- what is read is a token
abbrev pub is_token : Token → Bool
is_token t.Stray = false
is_token _ = true

-- ---- a run of bytes that pass a test, at the front

pub record Run (p : ℕ → Bool) (bytes : List ℕ) : Type 0 where
  pub front : take (length (take_while p bytes)) bytes ≡ take_while p bytes
  pub all : list_all p (take_while p bytes) ≡ true
  pub ended : begins p (drop (length (take_while p bytes)) bytes) ≡ false

run_step : (p : ℕ → Bool) (b : ℕ) (bs : List ℕ) (x : Bool) → p b ≡ x → Run p bs → Run p (b ∷ bs)
run_step p b bs true e r =
    let one : take_while p (b ∷ bs) ≡ b ∷ take_while p bs = take_while-cons p b bs ∙ rw e refl in
    record {
      front = ap (λ (l : List ℕ). take (length l) (b ∷ bs)) one ∙ ap (λ (l : List ℕ). b ∷ l) r.front ∙ sym one;
      all = ap (list_all p) one ∙ rw e r.all;
      ended = ap (λ (l : List ℕ). begins p (drop (length l) (b ∷ bs))) one ∙ r.ended;
    }
run_step p b bs false e r =
    let none : take_while p (b ∷ bs) ≡ [] = take_while-cons p b bs ∙ rw e refl in
    record {
      front = ap (λ (l : List ℕ). take (length l) (b ∷ bs)) none ∙ sym none;
      all = ap (list_all p) none;
      ended = ap (λ (l : List ℕ). begins p (drop (length l) (b ∷ bs))) none ∙ e;
    }

pub run_of : (p : ℕ → Bool) (bytes : List ℕ) → Run p bytes
run_of p [] = record { front = refl; all = refl; ended = refl }
run_of p (b ∷ bs) = run_step p b bs (p b) refl (run_of p bs)

-- ---- numbers

some_text : (p : ℕ → Bool) (bs : List ℕ) → list_all p bs ≡ true → 0 < length bs → begins p bs ≡ true
some_text p [] all some = absurd (omega arith)
some_text p (b ∷ bs) all some = (both_true (p b) (list_all p bs) all).0

record Number (sign : Bool) (text : List ℕ) : Type 0 where
  value : ℕ
  spelled : IsNumber text value
  read : number_token sign text ≡ t.Number sign (limited value)

some_is : {A : Type 0} {x y : A} → (let o : Option A = Some x in o ≡ Some y) → x ≡ y
some_is h = cc

pub hexadecimal_is : (text digits : List ℕ) → hexadecimal_digits text ≡ Some digits → IsHexadecimal text (value_in 16 digits)
unfolding hexadecimal_digits
hexadecimal_is [] digits e = absurd cc
hexadecimal_is (a ∷ []) digits e = absurd cc
hexadecimal_is (a ∷ x ∷ ds) digits e = go (eqb a 48) (eqb x 120) (nat_lt 0 (length ds)) (list_all is_ascii_hexdigit ds) refl refl refl refl e
  where
    go : (p q r s : Bool) → eqb a 48 ≡ p → eqb x 120 ≡ q → nat_lt 0 (length ds) ≡ r → list_all is_ascii_hexdigit ds ≡ s
        → (let o : Option (List ℕ) = cond (p && (q && (r && s))) (Some ds) None in o ≡ Some digits) → IsHexadecimal (a ∷ x ∷ ds) (value_in 16 digits)
    go true true true true ea ex er es h =
        let same : ds ≡ digits = some_is h in
        record {
          digits = digits;
          spelled = ap (λ (l : List ℕ). a ∷ x ∷ l) same ∙ ap (λ (n : ℕ). n ∷ x ∷ digits) (eqb-true a 48 ea) ∙ ap (λ (n : ℕ). 48 ∷ n ∷ digits) (eqb-true x 120 ex);
          some = ap (begins is_ascii_hexdigit) (sym same) ∙ some_text is_ascii_hexdigit ds es (ltb-true 0 (length ds) er);
          all = ap (list_all is_ascii_hexdigit) (sym same) ∙ es;
          value = refl;
        }
    go true true true false ea ex er es h = absurd cc
    go true true false s ea ex er es h = absurd cc
    go true false r s ea ex er es h = absurd cc
    go false q r s ea ex er es h = absurd cc

number_is : (sign : Bool) (text : List ℕ) → begins is_ascii_digit text ≡ true → is_token (number_token sign text) ≡ true → Number sign text
unfolding number_token
number_is sign text first h = go (hexadecimal_digits text) refl h
  where
    decimal : (x : Bool) → list_all is_ascii_digit text ≡ x → is_token (cond x (t.Number sign (limited (value_in 10 text))) t.Stray) ≡ true → hexadecimal_digits text ≡ None → Number sign text
    decimal true all ok none = record {
      value = value_in 10 text;
      spelled = inl (record { some = first; all = all; value = refl });
      read = rw (none, all) refl;
    }
    decimal false all ok none = absurd cc

    go : (o : Option (List ℕ)) → hexadecimal_digits text ≡ o → is_token (number_by sign text o) ≡ true → Number sign text
    go (Some digits) e ok = record { value = value_in 16 digits; spelled = inr (hexadecimal_is text digits e); read = rw e refl }
    go None e ok = decimal (list_all is_ascii_digit text) refl ok e

-- ---- the token at the front

letter_or_digit : (b : ℕ) → is_word_byte b ≡ true → is_ascii_digit b ≡ false → is_letter b ≡ true
letter_or_digit b h d = grind (arith, nat_tests)

-- letters, digits and `_`
run_spelled : (b : ℕ) (bs rest : List ℕ) (x : Bool) → is_ascii_digit b ≡ x → is_word_byte b ≡ true → list_all is_word_byte bs ≡ true → begins is_word_byte rest ≡ false
    → is_token (run_token (b ∷ bs)) ≡ true → IsSpelled (b ∷ bs) rest (run_token (b ∷ bs))
unfolding run_token
run_spelled b bs rest true digit first all ended ok =
    let one : run_token (b ∷ bs) ≡ number_token false (b ∷ bs) = rw digit refl in
    let n = number_is false (b ∷ bs) digit (ap is_token (sym one) ∙ ok) in
    number n.value n.spelled ended (one ∙ n.read)
run_spelled b bs rest false digit first all ended ok = word (rw (letter_or_digit b first digit, all) refl) ended (rw digit refl)

pub record Front (b : ℕ) (bs : List ℕ) (found : Token × ℕ) : Type 0 where
  pub spelled : IsSpelled (b ∷ take found.1 bs) (drop found.1 bs) found.0

front_by : (b : ℕ) (bs : List ℕ) (one two : Token × ℕ) → one ≡ two → Front b bs two → Front b bs one
front_by b bs one two e f = subst (Front b bs) (sym e) f

mark_spelled : (b : ℕ) (bs : List ℕ) → (b ≡ 45 → begins is_ascii_digit bs ≡ false) → is_token (mark_token b) ≡ true → IsSpelled (b ∷ []) bs (mark_token b)
unfolding mark_token
mark_spelled b bs alone ok = go (eqb b 58) (eqb b 44) (eqb b 91) (eqb b 93) (eqb b 43) (eqb b 45) refl refl refl refl refl refl ok
  where
    chosen : (p q r s u v : Bool) → Token
    chosen p q r s u v = cond p t.Colon (cond q t.Comma (cond r t.Open (cond s t.Close (cond u t.Plus (cond v t.Minus t.Stray)))))

    go : (p q r s u v : Bool) → eqb b 58 ≡ p → eqb b 44 ≡ q → eqb b 91 ≡ r → eqb b 93 ≡ s → eqb b 43 ≡ u → eqb b 45 ≡ v
        → is_token (cond p t.Colon (cond q t.Comma (cond r t.Open (cond s t.Close (cond u t.Plus (cond v t.Minus t.Stray)))))) ≡ true
        → IsSpelled (b ∷ []) bs (cond p t.Colon (cond q t.Comma (cond r t.Open (cond s t.Close (cond u t.Plus (cond v t.Minus t.Stray))))))
    go true q r s u v ep eq er es eu ev h = mark b refl (rw ep refl)
    go false true r s u v ep eq er es eu ev h = mark b refl (rw (ep, eq) refl)
    go false false true s u v ep eq er es eu ev h = mark b refl (rw (ep, eq, er) refl)
    go false false false true u v ep eq er es eu ev h = mark b refl (rw (ep, eq, er, es) refl)
    go false false false false true v ep eq er es eu ev h = mark b refl (rw (ep, eq, er, es, eu) refl)
    go false false false false false true ep eq er es eu ev h = let is = eqb-true b 45 ev in minus (ap (λ (n : ℕ). n ∷ []) is) (alone is) refl
    go false false false false false false ep eq er es eu ev h = absurd cc

-- what stands before the end of a list that is cut in two
front_of : (a rest bs : List ℕ) → bs ≡ a ++ rest → (n : ℕ) → n ≡ length bs - length rest → (take n bs ≡ a) × (drop n bs ≡ rest)
front_of a rest bs e n is = (ap (λ (k : ℕ). take k bs) k ∙ ap (take (length a)) e ∙ taken a rest, ap (λ (k : ℕ). drop k bs) k ∙ ap (drop (length a)) e ∙ dropped a rest)
  where
    taken : (xs ys : List ℕ) → take (length xs) (xs ++ ys) ≡ xs
    taken [] ys = refl
    taken (x ∷ xs) ys = ap (λ (l : List ℕ). x ∷ l) (taken xs ys)

    dropped : (xs ys : List ℕ) → drop (length xs) (xs ++ ys) ≡ ys
    dropped [] ys = refl
    dropped (x ∷ xs) ys = dropped xs ys

    long : (xs ys : List ℕ) → length (xs ++ ys) ≡ length xs + length ys
    long [] ys = omega arith
    long (x ∷ xs) ys = let l = long xs ys in omega (arith, l)

    k : n ≡ length a
    k = let l = long a rest in let m : length bs ≡ length (a ++ rest) = ap length e in omega (arith, is, l, m)

quote_front : (b : ℕ) (bs : List ℕ) (o : Option (List ℕ × List ℕ)) → b ≡ 34 → quoted_at 34 Plain bs ≡ o → is_token (text_token bs o).0 ≡ true → Front b bs (text_token bs o)
quote_front b bs None is e ok = absurd cc
quote_front b bs (Some (content, after)) is e ok =
    let q = quoted_is bs content after e in
    let whole : bs ≡ (q.inner ++ 34 ∷ []) ++ after = q.whole ∙ sym (append_assoc q.inner (34 ∷ []) after) in
    let cut = front_of (q.inner ++ 34 ∷ []) after bs whole (length bs - length after) refl in
    record { spelled = quoted q.inner content (ap (λ (n : ℕ). n ∷ take (length bs - length after) bs) is ∙ ap (λ (l : List ℕ). 34 ∷ l) cut.0) q.spelled refl }

pub front_spelled : (b : ℕ) (bs : List ℕ) → is_token (token_at (b ∷ bs)).0 ≡ true → Front b bs (token_at (b ∷ bs))
unfolding token_at
front_spelled b bs ok = by_word (is_word_byte b) refl ok
  where
    by_quote : (x : Bool) → eqb b 34 ≡ x → (b ≡ 45 → begins is_ascii_digit bs ≡ false)
        → is_token (cond x (text_token bs (quoted_at 34 Plain bs)) (mark_token b, 0)).0 ≡ true → Front b bs (cond x (text_token bs (quoted_at 34 Plain bs)) (mark_token b, 0))
    by_quote true e alone h = quote_front b bs (quoted_at 34 Plain bs) (eqb-true b 34 e) refl h
    by_quote false e alone h = record { spelled = mark_spelled b bs alone h }

    no_digit : (x : Bool) → eqb b 45 ≡ x → (x && begins is_ascii_digit bs) ≡ false → b ≡ 45 → begins is_ascii_digit bs ≡ false
    no_digit true e h is = h
    no_digit false e h is = absurd (eqb-false b 45 e is)

    by_minus : (x : Bool) → (eqb b 45 && begins is_ascii_digit bs) ≡ x
        → is_token (cond x (number_token true (take_while is_word_byte bs), length (take_while is_word_byte bs)) (cond (eqb b 34) (text_token bs (quoted_at 34 Plain bs)) (mark_token b, 0))).0 ≡ true
        → Front b bs (cond x (number_token true (take_while is_word_byte bs), length (take_while is_word_byte bs)) (cond (eqb b 34) (text_token bs (quoted_at 34 Plain bs)) (mark_token b, 0)))
    by_minus true e h =
        let is = both_true (eqb b 45) (begins is_ascii_digit bs) e in
        let r = run_of is_word_byte bs in
        let n = number_is true (take_while is_word_byte bs) (begins_run bs is.1) h in
        record { spelled = negative (take_while is_word_byte bs) n.value (ap (λ (k : ℕ). k ∷ take (length (take_while is_word_byte bs)) bs) (eqb-true b 45 is.0) ∙ ap (λ (l : List ℕ). 45 ∷ l) r.front) n.spelled r.ended n.read }
      where
        digit_within : (c : ℕ) → is_ascii_digit c ≡ true → is_word_byte c ≡ true
        digit_within c d = grind (arith, nat_tests)

        begins_run : (cs : List ℕ) → begins is_ascii_digit cs ≡ true → begins is_ascii_digit (take_while is_word_byte cs) ≡ true
        begins_run [] d = d
        begins_run (c ∷ cs) d = let one : take_while is_word_byte (c ∷ cs) ≡ c ∷ take_while is_word_byte cs = take_while-cons is_word_byte c cs ∙ rw (digit_within c d) refl in ap (begins is_ascii_digit) one ∙ d
    by_minus false e h = by_quote (eqb b 34) refl (no_digit (eqb b 45) refl e) h

    by_word : (x : Bool) → is_word_byte b ≡ x
        → is_token (cond x (run_token (take_while is_word_byte (b ∷ bs)), length (take_while is_word_byte bs)) (cond (eqb b 45 && begins is_ascii_digit bs) (number_token true (take_while is_word_byte bs), length (take_while is_word_byte bs)) (cond (eqb b 34) (text_token bs (quoted_at 34 Plain bs)) (mark_token b, 0)))).0 ≡ true
        → Front b bs (cond x (run_token (take_while is_word_byte (b ∷ bs)), length (take_while is_word_byte bs)) (cond (eqb b 45 && begins is_ascii_digit bs) (number_token true (take_while is_word_byte bs), length (take_while is_word_byte bs)) (cond (eqb b 34) (text_token bs (quoted_at 34 Plain bs)) (mark_token b, 0))))
    by_word true e h =
        let r = run_of is_word_byte bs in
        let one : take_while is_word_byte (b ∷ bs) ≡ b ∷ take_while is_word_byte bs = take_while-cons is_word_byte b bs ∙ rw e refl in
        let read = run_spelled b (take_while is_word_byte bs) (drop (length (take_while is_word_byte bs)) bs) (is_ascii_digit b) refl e r.all r.ended (ap (λ (l : List ℕ). is_token (run_token l)) (sym one) ∙ h) in
        front_by b bs _ (run_token (b ∷ take_while is_word_byte bs), length (take_while is_word_byte bs))
        (ap (λ (l : List ℕ). (run_token l, length (take_while is_word_byte bs))) one)
        (record { spelled = subst (λ (l : List ℕ). IsSpelled (b ∷ l) (drop (length (take_while is_word_byte bs)) bs) (run_token (b ∷ take_while is_word_byte bs))) (sym r.front) read })
    by_word false e h = by_minus (eqb b 45 && begins is_ascii_digit bs) refl h
