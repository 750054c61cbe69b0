-- What a text reads, a gap or a token at a time.
use Rattle.std.proofs.Common.{◌≡◌, ℕ, zero, suc, ◌<◌, ◌≤◌, ◌+◌, ◌-◌, List, [], ◌∷◌, length, take, drop, true, false, not, refl, sym, ap, subst, ◌∙◌, arith}
use Rattle.std.specs.Prelude.{Some, None, option_map}
use Rattle.std.proofs.lemmas.Bool.{lt-ltb}
use Rattle.std.proofs.lemmas.List.{nil_from_length, length-append, length-drop}
use Rattle.c_lex.specs.declared.token.Kind.{Kind}
use Rattle.c_lex.specs.declared.token.Token.{Token}
use Rattle.c_lex.specs.declared.place.Place.{Place}
use Rattle.c_lex.specs.Gaps.{gap_len}
use Rattle.c_lex.specs.Spelling.{reason_of}
use Rattle.c_lex.specs.Reading.{Reading, found, stuck, with_front, past_gap, past_token, token_of, opening, goes_on}
use Rattle.c_lex.specs.Found.{Found, by_token, by_step, token_at, reading_from, reading_of}
use Rattle.c_lex.specs.inner.Left.{IsLeft, left, tokens_in}
use Rattle.c_lex.proofs.Stands.{Stands}
use Rattle.c_lex.proofs.OneToken.{stands}

passed : (k : ℕ) (p : Place) (bs : List ℕ) → reading_from k p bs ≡ reading_from 0 p (drop k bs)
unfolding reading_from
passed zero p bs = refl
passed (suc k) p [] = refl
passed (suc k) p (b ∷ bs) = passed k p bs

dropped : (n b : ℕ) (bs : List ℕ) → 0 < n → drop (n - 1) bs ≡ drop n (b ∷ bs)
dropped zero b bs some = absurd (omega arith)
dropped (suc m) b bs some = let e : suc m - 1 ≡ m = omega arith in ap (λ (k : ℕ). drop k bs) e

further : (n b : ℕ) (p : Place) (bs : List ℕ) → 0 < n → reading_from (n - 1) p bs ≡ reading_from 0 p (drop n (b ∷ bs))
further n b p bs some = passed (n - 1) p bs ∙ ap (reading_from 0 p) (dropped n b bs some)

one_step : (p : Place) (b : ℕ) (bs : List ℕ) → reading_from 0 p (b ∷ bs) ≡ by_step p (b ∷ bs) (λ k p'. reading_from k p' bs)
unfolding reading_from
one_step p b bs = refl

pub at_nothing : (p : Place) → reading_from 0 p [] ≡ found []
unfolding reading_from
at_nothing p = refl

no_gap_in_nothing : 0 < gap_len [] → ⊥
unfolding gap_len
no_gap_in_nothing some = omega arith

pub at_gap : (p : Place) (bytes : List ℕ) → 0 < gap_len bytes → reading_from 0 p bytes ≡ reading_from 0 (past_gap p (take (gap_len bytes) bytes)) (drop (gap_len bytes) bytes)
at_gap p [] some = absurd (no_gap_in_nothing some)
at_gap p (b ∷ bs) some =
    let n = gap_len (b ∷ bs) in
    let e : by_step p (b ∷ bs) (λ k p'. reading_from k p' bs) ≡ reading_from (n - 1) (past_gap p (take n (b ∷ bs))) bs = rw (lt-ltb 0 n some) refl in
    one_step p b bs ∙ e ∙ further n b (past_gap p (take n (b ∷ bs))) bs some

token_step : (p : Place) (b : ℕ) (bs : List ℕ) → gap_len (b ∷ bs) ≡ 0 → reading_from 0 p (b ∷ bs) ≡ by_token p (b ∷ bs) (token_at (b ∷ bs)) (λ k p'. reading_from k p' bs)
token_step p b bs no_gap = let e : by_step p (b ∷ bs) (λ k p'. reading_from k p' bs) ≡ by_token p (b ∷ bs) (token_at (b ∷ bs)) (λ k p'. reading_from k p' bs) = rw no_gap refl in one_step p b bs ∙ e

pub within : (bytes : List ℕ) (len : ℕ) (kind : Kind) → Stands bytes len kind → len ≤ length bytes
within bytes len kind s = let e = ap length s.whole in omega (arith, length-append s.text s.rest, s.size)

pub at_token : (p : Place) (bytes : List ℕ) (len : ℕ) (kind : Kind) → gap_len bytes ≡ 0 → token_at bytes ≡ Some (len, kind) → reading_from 0 p bytes ≡ with_front (token_of p len kind ∷ []) (reading_from 0 (past_token p len) (drop len bytes))
at_token p [] len kind no_gap is = let s = stands [] len kind is in let w = within [] len kind s in absurd (omega (arith, s.some))
at_token p (b ∷ bs) len kind no_gap is =
    let s = stands (b ∷ bs) len kind is in
    token_step p b bs no_gap ∙ ap (λ (o : Found). by_token p (b ∷ bs) o (λ k p'. reading_from k p' bs)) is ∙ ap (with_front (token_of p len kind ∷ [])) (further len b (past_token p len) bs s.some)

pub at_none : (p : Place) (bytes : List ℕ) → 0 < length bytes → gap_len bytes ≡ 0 → token_at bytes ≡ None → reading_from 0 p bytes ≡ stuck (reason_of bytes) p.line p.byte
at_none p [] some no_gap is = absurd (omega arith)
at_none p (b ∷ bs) some no_gap is = token_step p b bs no_gap ∙ ap (λ (o : Found). by_token p (b ∷ bs) o (λ k p'. reading_from k p' bs)) is

-- ---- the loop: what the rest is refused for, if it is, the whole is refused for

abbrev pub bare : Reading → Reading
bare (found ts) = found []
bare (stuck code line byte) = stuck code line byte

bare_front : (ts : List Token) (r : Reading) → bare (with_front ts r) ≡ bare r
bare_front ts (found us) = refl
bare_front ts (stuck code line byte) = refl

stuck_is : (r : Reading) (code line byte : ℕ) → stuck code line byte ≡ bare r → r ≡ stuck code line byte
stuck_is (found ts) code line byte e = absurd cc
stuck_is (stuck c l b) code line byte e = sym e

found_in : (r : Reading) → found [] ≡ bare r → r ≡ found (tokens_in r)
found_in (found ts) e = refl
found_in (stuck c l b) e = absurd cc

pub none_of : (o : Found) → None ≡ option_map (λ x. x.0) o → o ≡ None
none_of None e = refl
none_of (Some x) e = absurd cc

pub record Sized (o : Found) (len : ℕ) : Type 0 where
  pub kind : Kind
  pub is : o ≡ Some (len, kind)

pub sized : (o : Found) (len : ℕ) → Some len ≡ option_map (λ x. x.0) o → Sized o len
sized None len e = absurd cc
sized (Some x) len e = let size : len ≡ x.0 = cc in record { kind = x.1; is = ap (λ (n : ℕ). Some (n, x.1)) (sym size) }

abbrev pub Continues : Place → List ℕ → Reading → Type 0
Continues p rest total = bare (reading_from 0 p rest) ≡ bare total

pub from_start : (file : ℕ) (bytes : List ℕ) → Continues (opening file) bytes (reading_of file bytes)
unfolding reading_of
from_start file bytes = refl

pub ended_left : (file : ℕ) (bytes : List ℕ) → reading_of file bytes ≡ found (tokens_in (reading_of file bytes)) → reading_of file bytes ≡ found (left (opening file) bytes)
unfolding reading_of
ended_left file bytes is = is

pub whole_left : (file : ℕ) (bytes : List ℕ) → length bytes ≤ 268435456 → reading_of file bytes ≡ found (left (opening file) bytes) → IsLeft (opening file) bytes
unfolding reading_of
whole_left file bytes fits is = record { reads = is; byte = omega (arith, fits); line = omega arith }

module _ (p : Place) (rest : List ℕ) (total : Reading) (so_far : Continues p rest total) where
  pub past_a_gap : (text after : List ℕ) → 0 < gap_len rest → text ≡ take (gap_len rest) rest → after ≡ drop (gap_len rest) rest → Continues (past_gap p text) after total
  past_a_gap text after some text-is after-is =
      ap (λ (t : List ℕ). bare (reading_from 0 (past_gap p t) after)) text-is
      ∙ ap (λ (t : List ℕ). bare (reading_from 0 (past_gap p (take (gap_len rest) rest)) t)) after-is
      ∙ ap bare (sym (at_gap p rest some)) ∙ so_far

  pub past_a_token : (after : List ℕ) (len : ℕ) (kind : Kind) → gap_len rest ≡ 0 → token_at rest ≡ Some (len, kind) → after ≡ drop len rest → Continues (past_token p len) after total
  past_a_token after len kind no_gap is after-is =
      ap (λ (t : List ℕ). bare (reading_from 0 (past_token p len) t)) after-is
      ∙ sym (bare_front (token_of p len kind ∷ []) (reading_from 0 (past_token p len) (drop len rest)))
      ∙ ap bare (sym (at_token p rest len kind no_gap is)) ∙ so_far

  pub refused : 0 < length rest → gap_len rest ≡ 0 → token_at rest ≡ None → total ≡ stuck (reason_of rest) p.line p.byte
  refused some no_gap is = stuck_is total (reason_of rest) p.line p.byte (sym (ap bare (at_none p rest some no_gap is)) ∙ so_far)

  pub ended : length rest ≡ 0 → total ≡ found (tokens_in total)
  ended empty =
      let e : reading_from 0 p rest ≡ found [] = ap (reading_from 0 p) (nil_from_length rest empty) ∙ at_nothing p in
      found_in total (sym (ap bare e) ∙ so_far)

-- ---- a reader: the next token

pub another_gap : (p : Place) (rest text after : List ℕ) (total : Reading) → reading_from 0 p rest ≡ total → 0 < gap_len rest → text ≡ take (gap_len rest) rest → after ≡ drop (gap_len rest) rest
    → reading_from 0 (past_gap p text) after ≡ total
another_gap p rest text after total so_far some text-is after-is =
    ap (λ (t : List ℕ). reading_from 0 (past_gap p t) after) text-is
    ∙ ap (λ (t : List ℕ). reading_from 0 (past_gap p (take (gap_len rest) rest)) t) after-is
    ∙ sym (at_gap p rest some) ∙ so_far

none_left : (p : Place) (bytes : List ℕ) → gap_len bytes ≡ 0 → token_at bytes ≡ None → tokens_in (reading_from 0 p bytes) ≡ []
none_left p [] no_gap is = ap tokens_in (at_nothing p)
none_left p (b ∷ bs) no_gap is = ap tokens_in (at_none p (b ∷ bs) (omega arith) no_gap is)

front_found : (t : Token) (r : Reading) → with_front (t ∷ []) r ≡ found (tokens_in (with_front (t ∷ []) r)) → r ≡ found (tokens_in r)
front_found t (found ts) e = refl
front_found t (stuck code line byte) e = absurd cc

front_tokens : (t : Token) (r : Reading) → r ≡ found (tokens_in r) → tokens_in (with_front (t ∷ []) r) ≡ t ∷ tokens_in r
front_tokens t (found ts) e = refl
front_tokens t (stuck code line byte) e = absurd cc

-- the place and the rest of a reader, and those behind its gaps
module _ (from p : Place) (all rest : List ℕ) (same : reading_from 0 p rest ≡ reading_from 0 from all) (no_gap : gap_len rest ≡ 0) where
  pub no_more : token_at rest ≡ None → left from all ≡ []
  no_more is = sym (ap tokens_in same) ∙ none_left p rest no_gap is

  module _ (len : ℕ) (kind : Kind) (after : List ℕ) (is : token_at rest ≡ Some (len, kind)) (after-is : after ≡ drop len rest) (reads : reading_from 0 from all ≡ found (left from all)) where
    next_step : reading_from 0 from all ≡ with_front (token_of p len kind ∷ []) (reading_from 0 (past_token p len) after)
    next_step = sym same ∙ at_token p rest len kind no_gap is ∙ ap (λ (t : List ℕ). with_front (token_of p len kind ∷ []) (reading_from 0 (past_token p len) t)) (sym after-is)

    pub next_reads : reading_from 0 (past_token p len) after ≡ found (left (past_token p len) after)
    next_reads = front_found (token_of p len kind) (reading_from 0 (past_token p len) after) (subst (λ (r : Reading). r ≡ found (tokens_in r)) next_step reads)

    pub next_is : left from all ≡ token_of p len kind ∷ left (past_token p len) after
    next_is = ap tokens_in next_step ∙ front_tokens (token_of p len kind) (reading_from 0 (past_token p len) after) next_reads

    pub next_told : (t : Token) (p' : Place) → t ≡ token_of p len kind → p' ≡ past_token p len → left from all ≡ t ∷ left p' after
    next_told t p' t-is p'-is = rw (t-is, p'-is) next_is

    pub next_left : (p' : Place) → p' ≡ past_token p len → p.byte + length rest ≤ 268435456 → p.line ≤ p.byte + 1 → len ≤ length rest → IsLeft p' after
    next_left p' p'-is fits line within =
        let size : length after ≡ length rest - len = ap length after-is ∙ length-drop len rest in
        subst (λ (q : Place). IsLeft q after) (sym p'-is) (record { reads = next_reads; byte = omega arith; line = omega arith })

  pub begun : reading_from 0 from all ≡ found (left from all) → p.first ≡ true → goes_on (left from all) ≡ false
  begun reads first = by (token_at rest) refl
    where
      by : (o : Found) → token_at rest ≡ o → goes_on (left from all) ≡ false
      by None is = ap goes_on (no_more is)
      by (Some x) is = ap goes_on (next_is x.0 x.1 (drop x.0 rest) is refl reads) ∙ ap not first
