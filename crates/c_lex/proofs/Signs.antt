-- A mark is the longest spelling at its place.
use Rattle.std.proofs.Common.{◌≡◌, ℕ, zero, suc, ◌<◌, ◌≤◌, ◌+◌, ◌-◌, Bool, true, false, cond, ltb, List, [], ◌∷◌, ◌++◌, length, take, drop, refl, sym, ap, subst, ◌∙◌, arith, append_assoc}
use Rattle.std.specs.Prelude.{Option, Some, None, IsSome, option_map}
use Rattle.std.specs.Char.{is_ascii_digit}
use Rattle.std.proofs.lemmas.Bool.{ltb-false, ltb-true}
use Rattle.std.proofs.Math.Seq.{take-append-add}
use Rattle.std.proofs.lemmas.List.{length-append, length-take-le, take-append-drop, take_at, drop_at}
use Rattle.c_lex.specs.declared.token.Punct.{Punct}
use Rattle.c_lex.specs.declared.token.Kind.{Kind}
use Rattle.c_lex.specs.declared.token.Kind.TheVariants as k
use Rattle.c_lex.specs.Bytes.{begins, is_letter, is_quote}
use Rattle.c_lex.specs.Spelling.{IsToken, spelling_of, is_mark_before, ends_so}
use Rattle.c_lex.specs.Found.{Found, mark_kept}
use Rattle.c_lex.proofs.Rows.{all_rows, of_rows}
use Rattle.c_lex.proofs.Runs.{begins_append, begins_take}
use Rattle.c_lex.proofs.Stands.{Stands, some_is, token_some}
use Rattle.c_lex.specs.Marks.{marks, mark_of, or_else, mark_up_to, mark_at}

is_short : List ℕ → Bool
is_short text = ltb (length text) 4

short_by : (text : List ℕ) (m : Punct) → mark_of text ≡ Some m → ltb (length text) 4 ≡ true
unfolding marks all_rows is_short
short_by text m e = of_rows is_short text m refl e

short_of : (text : List ℕ) (o : Option Punct) → mark_of text ≡ o → IsSome o → length text ≤ 3
short_of text None e h = absurd cc
short_of text (Some m) e h = let short = ltb-true (length text) 4 (short_by text m e) in omega arith

-- no mark has more than three bytes
pub mark_short : (text : List ℕ) → IsSome (mark_of text) → length text ≤ 3
mark_short text h = short_of text (mark_of text) refl h

-- the mark of that length is the longest of at most n bytes
pub record Longest (n : ℕ) (bytes : List ℕ) (len : ℕ) (m : Punct) : Type 0 where
  pub some : 0 < len
  pub least : len ≤ n
  pub within : len ≤ length bytes
  pub spelled : mark_of (take len bytes) ≡ Some m
  pub longer : (j : ℕ) → len < j → j ≤ n → j ≤ length bytes → IsSome (mark_of (take j bytes)) → ⊥

not_some : (o : Option Punct) → o ≡ None → IsSome o → ⊥
not_some None e h = absurd cc
not_some (Some x) e h = absurd cc

grown : (n : ℕ) (bytes : List ℕ) (len : ℕ) (m : Punct) → Longest n bytes len m → (suc n ≤ length bytes → IsSome (mark_of (take (suc n) bytes)) → ⊥) → Longest (suc n) bytes len m
grown n bytes len m l none = record {
  some = l.some;
  least = let le = l.least in omega arith;
  within = l.within;
  spelled = l.spelled;
  longer = λ j lt le within h. by j lt le within h (ltb n j) refl;
}
  where
    by : (j : ℕ) → len < j → j ≤ suc n → j ≤ length bytes → IsSome (mark_of (take j bytes)) → (b : Bool) → ltb n j ≡ b → ⊥
    by j lt le within h true e =
        let above = ltb-true n j e in
        let is : j ≡ suc n = omega arith in
        none (omega arith) (subst (λ (i : ℕ). IsSome (mark_of (take i bytes))) is h)
    by j lt le within h false e = let below = ltb-false n j e in l.longer j lt (omega arith) within h

found_by : (n : ℕ) (bytes : List ℕ) (len : ℕ) (m : Punct) (b : Bool) (o : Option Punct) → ltb (length bytes) (suc n) ≡ b → mark_of (take (suc n) bytes) ≡ o
    → (mark_up_to n bytes ≡ Some (len, m) → Longest n bytes len m)
    → or_else (cond b None (option_map (λ m. (suc n, m)) o)) (mark_up_to n bytes) ≡ Some (len, m) → Longest (suc n) bytes len m
found_by n bytes len m true o short is less e = let small = ltb-true (length bytes) (suc n) short in grown n bytes len m (less e) (λ le h. omega arith)
found_by n bytes len m false None short is less e = grown n bytes len m (less e) (λ le h. not_some _ is h)
found_by n bytes len m false (Some x) short is less e =
    let same : (suc n, x) ≡ (len, m) = some_is e in
    let wide = ltb-false (length bytes) (suc n) short in
    let l : Longest (suc n) bytes (suc n) x = record {
      some = omega arith;
      least = omega arith;
      within = wide;
      spelled = is;
      longer = λ j lt le within h. absurd (omega arith);
    } in
    subst (λ (y : ℕ × Punct). Longest (suc n) bytes y.0 y.1) same l

pub found_longest : (n : ℕ) (bytes : List ℕ) (len : ℕ) (m : Punct) → mark_up_to n bytes ≡ Some (len, m) → Longest n bytes len m
unfolding mark_up_to
found_longest zero bytes len m e = absurd cc
found_longest (suc n) bytes len m e = found_by n bytes len m (ltb (length bytes) (suc n)) (mark_of (take (suc n) bytes)) refl refl (found_longest n bytes len m) e

shrunk : (n : ℕ) (bytes : List ℕ) (len : ℕ) (m : Punct) → Longest (suc n) bytes len m → len ≤ n → Longest n bytes len m
shrunk n bytes len m l le = record {
  some = l.some;
  least = le;
  within = l.within;
  spelled = l.spelled;
  longer = λ j lt le' within h. l.longer j lt (omega arith) within h;
}

longest_by : (n : ℕ) (bytes : List ℕ) (len : ℕ) (m : Punct) → Longest (suc n) bytes len m → (b : Bool) (o : Option Punct) (c : Bool) → ltb (length bytes) (suc n) ≡ b → mark_of (take (suc n) bytes) ≡ o → ltb len (suc n) ≡ c
    → (Longest n bytes len m → mark_up_to n bytes ≡ Some (len, m))
    → or_else (cond b None (option_map (λ m. (suc n, m)) o)) (mark_up_to n bytes) ≡ Some (len, m)
longest_by n bytes len m l true o c short is below less = let small = ltb-true (length bytes) (suc n) short in let w = l.within in less (shrunk n bytes len m l (omega arith))
longest_by n bytes len m l false None true short is below less = let lt = ltb-true len (suc n) below in less (shrunk n bytes len m l (omega arith))
longest_by n bytes len m l false None false short is below less =
    let le = l.least in
    let ge = ltb-false len (suc n) below in
    let same : len ≡ suc n = omega arith in
    let clash : Some m ≡ None = sym l.spelled ∙ ap (λ (i : ℕ). mark_of (take i bytes)) same ∙ is in
    absurd cc
longest_by n bytes len m l false (Some x) true short is below less =
    let lt = ltb-true len (suc n) below in
    let wide = ltb-false (length bytes) (suc n) short in
    absurd (l.longer (suc n) (omega arith) (omega arith) wide (rw is refl))
longest_by n bytes len m l false (Some x) false short is below less =
    let le = l.least in
    let ge = ltb-false len (suc n) below in
    let same : len ≡ suc n = omega arith in
    let mark : Some m ≡ Some x = sym l.spelled ∙ ap (λ (i : ℕ). mark_of (take i bytes)) same ∙ is in
    ap (λ (y : Punct). Some (suc n, y)) (sym (some_is mark)) ∙ ap (λ (i : ℕ). Some (i, m)) (sym same)

pub longest_found : (n : ℕ) (bytes : List ℕ) (len : ℕ) (m : Punct) → Longest n bytes len m → mark_up_to n bytes ≡ Some (len, m)
unfolding mark_up_to
longest_found zero bytes len m l = let s = l.some in let le = l.least in absurd (omega arith)
longest_found (suc n) bytes len m l = longest_by n bytes len m l (ltb (length bytes) (suc n)) (mark_of (take (suc n) bytes)) (ltb len (suc n)) refl refl refl (longest_found n bytes len m)

-- what no other kind of token begins
pub record Sign (bytes : List ℕ) : Type 0 where
  pub letter : begins is_letter bytes ≡ false
  pub digit : begins is_ascii_digit bytes ≡ false
  pub quote : begins is_quote bytes ≡ false

pub is_mark_of : (a : List ℕ) → Sign a → spelling_of a ≡ option_map k.Punct (mark_of a)
unfolding spelling_of
is_mark_of a d = rw (d.letter, d.digit, d.quote) refl

some_mark : (o : Option Punct) → IsSome (option_map k.Punct o) → IsSome o
some_mark None h = absurd cc
some_mark (Some x) h = refl

mark_some : (o : Option Punct) → IsSome o → IsSome (option_map k.Punct o)
mark_some None h = absurd cc
mark_some (Some x) h = refl

further : (a more : List ℕ) → 0 < length a → Sign a → Sign (a ++ more)
further a more some d = record {
  letter = begins_append is_letter a more some ∙ d.letter;
  digit = begins_append is_ascii_digit a more some ∙ d.digit;
  quote = begins_append is_quote a more some ∙ d.quote;
}

-- of at most three bytes, no longer front is a mark
no_longer : (bytes text rest more after : List ℕ) (m : Punct) → bytes ≡ text ++ rest → Longest 3 bytes (length text) m → Sign text → rest ≡ more ++ after → IsSome (spelling_of (text ++ more)) → more ≡ []
no_longer bytes text rest [] after m whole l d e h = refl
no_longer bytes text rest (x ∷ xs) after m whole l d e h =
    let a = text ++ x ∷ xs in
    let some = l.some in
    let mark : IsSome (mark_of a) = some_mark (mark_of a) (subst (λ (o : Option Kind). IsSome o) (is_mark_of a (further text (x ∷ xs) some d)) h) in
    let all : bytes ≡ a ++ after = whole ∙ ap (λ (r : List ℕ). text ++ r) e ∙ sym (append_assoc text (x ∷ xs) after) in
    let front : take (length a) bytes ≡ a = ap (take (length a)) all ∙ take_at a after (length a) refl in
    let size = ap length all in
    absurd (l.longer (length a) (omega (arith, length-append text (x ∷ xs))) (mark_short a mark) (omega (arith, length-append a after)) (subst (λ (t : List ℕ). IsSome (mark_of t)) (sym front) mark))

made : (bytes text rest : List ℕ) (m : Punct) → bytes ≡ text ++ rest → mark_of text ≡ Some m → Longest 3 bytes (length text) m → Sign text → is_mark_before m rest ≡ true → Stands bytes (length text) (k.Punct m)
made bytes text rest m whole spelled l d before = record {
  text = text;
  rest = rest;
  whole = whole;
  size = refl;
  some = l.some;
  is_token = record {
    spelled = is_mark_of text d ∙ ap (option_map k.Punct) spelled;
    ends = before;
    longest = λ more after e h. no_longer bytes text rest more after m whole l d e h;
  };
}

front_sign : (n : ℕ) (bytes : List ℕ) → 0 < n → Sign bytes → Sign (take n bytes)
front_sign n bytes some d = record {
  letter = begins_take is_letter n bytes some ∙ d.letter;
  digit = begins_take is_ascii_digit n bytes some ∙ d.digit;
  quote = begins_take is_quote n bytes some ∙ d.quote;
}

stands_by : (bytes : List ℕ) (len : ℕ) (m : Punct) → Sign bytes → mark_at bytes ≡ Some (len, m) → is_mark_before m (drop len bytes) ≡ true → Stands bytes len (k.Punct m)
unfolding mark_at
stands_by bytes len m d is before =
    let l = found_longest 3 bytes len m is in
    let size : length (take len bytes) ≡ len = length-take-le len bytes l.within in
    let l' : Longest 3 bytes (length (take len bytes)) m = subst (λ (n : ℕ). Longest 3 bytes n m) (sym size) l in
    subst (λ (n : ℕ). Stands bytes n (k.Punct m)) size (made bytes (take len bytes) (drop len bytes) m (sym (take-append-drop len bytes)) l.spelled l' (front_sign len bytes l.some d) before)

kept_by : (bytes : List ℕ) (len : ℕ) (kind : Kind) (o : Option (ℕ × Punct)) → Sign bytes → mark_at bytes ≡ o → mark_kept bytes o ≡ Some (len, kind) → Stands bytes len kind
kept_by bytes len kind None d is e = absurd cc
kept_by bytes len kind (Some x) d is e = by (is_mark_before x.1 (drop x.0 bytes)) refl e
  where
    by : (b : Bool) → is_mark_before x.1 (drop x.0 bytes) ≡ b → cond {A = Found} b (Some (x.0, k.Punct x.1)) None ≡ Some (len, kind) → Stands bytes len kind
    by true before h = subst (λ (y : ℕ × Kind). Stands bytes y.0 y.1) (some_is h) (stands_by bytes x.0 x.1 d is before)
    by false before h = absurd cc

pub sign_stands : (bytes : List ℕ) (len : ℕ) (kind : Kind) → Sign bytes → mark_kept bytes (mark_at bytes) ≡ Some (len, kind) → Stands bytes len kind
sign_stands bytes len kind d e = kept_by bytes len kind (mark_at bytes) d refl e

pub spelled_mark : (o : Option Punct) (kind : Kind) → option_map k.Punct o ≡ Some kind → (m : Punct) × (o ≡ Some m) × (k.Punct m ≡ kind)
spelled_mark None kind e = absurd cc
spelled_mark (Some m) kind e = (m, refl, some_is e)

beyond : (text rest : List ℕ) (j : ℕ) → length text ≤ j → take j (text ++ rest) ≡ text ++ take (j - length text) rest
beyond text rest j le = let e : j ≡ length text + (j - length text) = omega arith in ap (λ (i : ℕ). take i (text ++ rest)) e ∙ take-append-add text rest (j - length text)

longest_of : (text rest : List ℕ) (kind : Kind) (m : Punct) → Sign text → IsToken text rest kind → mark_of text ≡ Some m → Longest 3 (text ++ rest) (length text) m
longest_of text rest kind m d t is =
    let some : 0 < length text = token_some text rest kind t in
    record {
      some = some;
      least = mark_short text (rw is refl);
      within = omega (arith, length-append text rest);
      spelled = ap mark_of (take_at text rest (length text) refl) ∙ is;
      longer = λ j lt le within h.
          let n = j - length text in
          let more : List ℕ = take n rest in
          let h' : IsSome (mark_of (text ++ more)) = subst (λ (x : List ℕ). IsSome (mark_of x)) (beyond text rest j (omega arith)) h in
          let spelled : IsSome (spelling_of (text ++ more)) = subst (λ (o : Option Kind). IsSome o) (sym (is_mark_of (text ++ more) (further text more some d))) (mark_some (mark_of (text ++ more)) h') in
          let none : more ≡ [] = t.longest more (drop n rest) (sym (take-append-drop n rest)) spelled in
          let size : length more ≡ n = length-take-le n rest (omega (arith, length-append text rest)) in
          let empty = ap length none in
          omega arith;
    }

pub sign_complete : (text rest : List ℕ) (kind : Kind) → Sign text → IsToken text rest kind → mark_kept (text ++ rest) (mark_at (text ++ rest)) ≡ Some (length text, kind)
unfolding mark_at
sign_complete text rest kind d t =
    let q = spelled_mark (mark_of text) kind (sym (is_mark_of text d) ∙ t.spelled) in
    let found : mark_at (text ++ rest) ≡ Some (length text, q.0) = longest_found 3 (text ++ rest) (length text) q.0 (longest_of text rest kind q.0 d t q.1) in
    let back : drop (length text) (text ++ rest) ≡ rest = drop_at text rest (length text) refl in
    let before : is_mark_before q.0 rest ≡ true = ap (λ (x : Kind). ends_so x text rest) q.2 ∙ t.ends in
    let kept : mark_kept (text ++ rest) (Some (length text, q.0)) ≡ Some (length text, k.Punct q.0) = rw (back, before) refl in
    ap (mark_kept (text ++ rest)) found ∙ kept ∙ ap (λ (x : Kind). Some (length text, x)) q.2
