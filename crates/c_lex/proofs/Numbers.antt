-- A number is the longest spelling at its place, and takes all the digits that follow.
use Rattle.std.proofs.Common.{◌≡◌, ℕ, ◌<◌, ◌≤◌, ◌+◌, ◌^◌, Bool, true, false, cond, eqb, ltb, ◌&&◌, not, List, [], ◌++◌, length, take, drop, refl, sym, ap, subst, ◌∙◌, arith, append_assoc}
use Rattle.std.specs.Prelude.{Option, Some, None, IsSome}
use Rattle.std.specs.Char.{is_ascii_digit}
use Rattle.std.proofs.lemmas.Bool.{eqb-true, eq-eqb}
use Rattle.std.proofs.lemmas.List.{nil_from_length, length-append, length-take-le, take-append-drop, take_at, drop_at}
use Rattle.c_lex.specs.declared.token.Kind.{Kind}
use Rattle.c_lex.specs.declared.token.Kind.TheVariants as k
use Rattle.c_lex.specs.Bytes.{begins, is_letter, is_point}
use Rattle.c_lex.specs.Numbers.{number_len, number_value}
use Rattle.c_lex.specs.Spelling.{IsToken, spelling_of, number_of, ends_so}
use Rattle.c_lex.specs.Found.{number_found}
use Rattle.c_lex.proofs.Runs.{begins_append, begins_take}
use Rattle.c_lex.proofs.NumberRuns.{number_front, number_own, number_some, number_within}
use Rattle.c_lex.proofs.Stands.{Stands, some_is, both}

-- what stands before a digit
pub record Digit (bytes : List ℕ) : Type 0 where
  pub letter : begins is_letter bytes ≡ false
  pub digit : begins is_ascii_digit bytes ≡ true

pub is_number_of : (a : List ℕ) → Digit a → spelling_of a ≡ number_of a
unfolding spelling_of
is_number_of a d = rw (d.letter, d.digit) refl

pub number_whole : (a : List ℕ) → IsSome (number_of a) → number_len a ≡ length a
unfolding number_of
number_whole a some = eqb-true _ _ (chosen (eqb (number_len a) (length a)) (ltb (number_value a) (2 ^ 32)) some)
  where
    chosen : (b c : Bool) → IsSome (cond (b && c) (Some (k.Number (number_value a))) None) → b ≡ true
    chosen true c h = refl
    chosen false c h = absurd cc

-- no front of the text but all of the number is one
pub no_longer : (bytes text more after : List ℕ) → Digit bytes → bytes ≡ (text ++ more) ++ after → 0 < length text → length text ≡ number_len bytes → IsSome (spelling_of (text ++ more)) → more ≡ []
no_longer bytes text more after d whole some size h =
    let a = text ++ more in
    let longer : length a ≡ length text + length more = length-append text more in
    let here : Digit a = record {
      letter = sym (begins_append is_letter a after (omega arith)) ∙ ap (begins is_letter) (sym whole) ∙ d.letter;
      digit = sym (begins_append is_ascii_digit a after (omega arith)) ∙ ap (begins is_ascii_digit) (sym whole) ∙ d.digit;
    } in
    let all : number_len a ≡ length a = number_whole a (subst (λ (o : Option Kind). IsSome o) (is_number_of a here) h) in
    let same : number_len (a ++ after) ≡ number_len bytes = ap number_len (sym whole) in
    nil_from_length more (omega (arith, number_front a after))

made : (bytes : List ℕ) → Digit bytes → ltb (number_value (take (number_len bytes) bytes)) (2 ^ 32) ≡ true → not (begins is_point (drop (number_len bytes) bytes)) ≡ true → Stands bytes (number_len bytes) (k.Number (number_value (take (number_len bytes) bytes)))
unfolding number_of
made bytes d small point =
    let n = number_len bytes in
    let text = take n bytes in
    let rest = drop n bytes in
    let some : 0 < n = number_some bytes d.digit in
    let within : n ≤ length bytes = number_within bytes in
    let size : length text ≡ n = length-take-le n bytes within in
    let here : Digit text = record { letter = begins_take is_letter n bytes some ∙ d.letter; digit = begins_take is_ascii_digit n bytes some ∙ d.digit } in
    let own : eqb (number_len text) (length text) ≡ true = eq-eqb _ _ (number_own bytes ∙ sym size) in
    let all : eqb (number_len (text ++ rest)) (length text) ≡ true = eq-eqb _ _ (ap number_len (take-append-drop n bytes) ∙ sym size) in
    record {
      text = text;
      rest = rest;
      whole = sym (take-append-drop n bytes);
      size = size;
      some = some;
      is_token = record {
        spelled = is_number_of text here ∙ rw (own, small) refl;
        ends = rw (all, point) refl;
        longest = λ more after e h. no_longer bytes text more after d (sym (append_assoc text more after ∙ ap (λ (r : List ℕ). text ++ r) (sym e) ∙ take-append-drop n bytes)) (omega arith) size h;
      };
    }

pub number_stands : (bytes : List ℕ) (len : ℕ) (kind : Kind) → Digit bytes → number_found bytes ≡ Some (len, kind) → Stands bytes len kind
unfolding number_found
number_stands bytes len kind d e = by (ltb v (2 ^ 32)) (not (begins is_point rest)) refl refl e
  where
    n : ℕ
    n = number_len bytes

    text : List ℕ
    text = take n bytes

    rest : List ℕ
    rest = drop n bytes

    v : ℕ
    v = number_value text

    by : (b c : Bool) → ltb v (2 ^ 32) ≡ b → not (begins is_point rest) ≡ c → cond {A = Option (ℕ × Kind)} (b && c) (Some (n, k.Number v)) None ≡ Some (len, kind) → Stands bytes len kind
    by true true small point same = subst (λ (x : ℕ × Kind). Stands bytes x.0 x.1) (some_is same) (made bytes d small point)
    by true false small point same = absurd cc
    by false c small point same = absurd cc

pub number_kind : (text : List ℕ) (kind : Kind) → number_of text ≡ Some kind → (ltb (number_value text) (2 ^ 32) ≡ true) × (k.Number (number_value text) ≡ kind)
unfolding number_of
number_kind text kind e = by (eqb (number_len text) (length text)) (ltb (number_value text) (2 ^ 32)) e
  where
    by : (b c : Bool) → cond (b && c) (Some (k.Number (number_value text))) None ≡ Some kind → (c ≡ true) × (k.Number (number_value text) ≡ kind)
    by true true h = (refl, some_is h)
    by true false h = absurd cc
    by false c h = absurd cc

pub number_complete : (text rest : List ℕ) (kind : Kind) → Digit text → IsToken text rest kind → number_found (text ++ rest) ≡ Some (length text, kind)
unfolding number_found
number_complete text rest kind here t =
    let bytes = text ++ rest in
    let q = number_kind text kind (sym (is_number_of text here) ∙ t.spelled) in
    let ends : ends_so (k.Number (number_value text)) text rest ≡ true = ap (λ (x : Kind). ends_so x text rest) q.1 ∙ t.ends in
    let parts = both (eqb (number_len bytes) (length text)) (not (begins is_point rest)) ends in
    let n : number_len bytes ≡ length text = eqb-true _ _ parts.0 in
    let front : take (number_len bytes) bytes ≡ text = take_at text rest (number_len bytes) (sym n) in
    let back : drop (number_len bytes) bytes ≡ rest = drop_at text rest (number_len bytes) (sym n) in
    let found : number_found bytes ≡ Some (number_len bytes, k.Number (number_value text)) = rw (front, back, q.0, parts.1) refl in
    found ∙ ap (λ (m : ℕ). Some (m, k.Number (number_value text))) n ∙ ap (λ (x : Kind). Some (length text, x)) q.1
