-- Tokens stand where their places say, and so does what is refused.
use Rattle.std.proofs.Common.{◌≡◌, ℕ, ◌<◌, ◌+◌, ◌-◌, List, [], ◌∷◌, ◌++◌, length, take, drop, refl, sym, ap, subst, ◌∙◌, arith, append_assoc}
use Rattle.std.specs.Prelude.{Some, None}
use Rattle.std.specs.List.{All}
use Rattle.std.proofs.lemmas.List.{length-append, take-append-drop, take_at, drop_at}
use Rattle.std.proofs.lemmas.List.Elements.{All-cons, All-nil}
use Rattle.c_lex.specs.declared.token.Kind.{Kind}
use Rattle.c_lex.specs.declared.token.Token.{Token}
use Rattle.c_lex.specs.declared.place.Place.{Place}
use Rattle.c_lex.specs.Gaps.{gap_len}
use Rattle.c_lex.specs.Spelling.{IsToken, spelling_of, reason_of}
use Rattle.c_lex.specs.Reading.{Reading, found, stuck, Lexes, nothing, gap, token, none, with_front, past_gap, past_token, token_of, opening}
use Rattle.c_lex.specs.Found.{Found, token_at, reading_of}
use Rattle.c_lex.specs.Places.{line_at, IsPlaced, IsReason, IsRefused}
use Rattle.c_lex.proofs.Stands.{token_some}
use Rattle.c_lex.proofs.OneToken.{stands}
use Rattle.c_lex.proofs.Spellings.{spelled_so}
use Rattle.c_lex.proofs.Lines.{lines_in, lines_append, none_counted, spelled_other}
use Rattle.c_lex.proofs.Reasons.{reason_fits}
use Rattle.c_lex.proofs.Readings.{reads_itself}

-- the place is that behind a front of the text
record Here (bytes front rest : List ℕ) (p : Place) : Type 0 where
  whole : bytes ≡ front ++ rest
  byte : p.byte ≡ length front
  line : p.line ≡ 1 + lines_in front

here_gap : (n : ℕ) (bytes front rest : List ℕ) (p : Place) → Here bytes front rest p → Here bytes (front ++ take n rest) (drop n rest) (past_gap p (take n rest))
here_gap n bytes front rest p h = record {
  whole = h.whole ∙ ap (λ (l : List ℕ). front ++ l) (sym (take-append-drop n rest)) ∙ sym (append_assoc front (take n rest) (drop n rest));
  byte = let e = h.byte in omega (arith, length-append front (take n rest));
  line = let e = h.line in omega (arith, lines_append front (take n rest));
}

here_token : (bytes front rest text after : List ℕ) (p : Place) → rest ≡ text ++ after → lines_in text ≡ 0 → Here bytes front rest p → Here bytes (front ++ text) after (past_token p (length text))
here_token bytes front rest text after p whole empty h = record {
  whole = h.whole ∙ ap (λ (l : List ℕ). front ++ l) whole ∙ sym (append_assoc front text after);
  byte = let e = h.byte in omega (arith, length-append front text);
  line = let e = h.line in omega (arith, lines_append front text);
}

front_is : (bytes front rest : List ℕ) (p : Place) → Here bytes front rest p → take p.byte bytes ≡ front
front_is bytes front rest p h = ap (take p.byte) h.whole ∙ take_at front rest p.byte (sym h.byte)

rest_is : (bytes front rest : List ℕ) (p : Place) → Here bytes front rest p → drop p.byte bytes ≡ rest
rest_is bytes front rest p h = ap (drop p.byte) h.whole ∙ drop_at front rest p.byte (sym h.byte)

line_is : (bytes front rest : List ℕ) (p : Place) → Here bytes front rest p → p.line ≡ line_at p.byte bytes
line_is bytes front rest p h = h.line ∙ ap (λ (l : List ℕ). 1 + lines_in l) (sym (front_is bytes front rest p h))

token_placed : (bytes front rest text after : List ℕ) (p : Place) (kind : Kind) → rest ≡ text ++ after → IsToken text after kind → Here bytes front rest p → IsPlaced bytes (token_of p (length text) kind)
token_placed bytes front rest text after p kind whole t h =
    let some = token_some text after kind t in
    let all = ap length h.whole in
    let part = ap length whole in
    let e = h.byte in
    let len : p.byte + length text - p.byte ≡ length text = omega arith in
    let own : take (p.byte + length text - p.byte) (drop p.byte bytes) ≡ text =
    ap (λ (n : ℕ). take n (drop p.byte bytes)) len ∙ ap (take (length text)) (rest_is bytes front rest p h ∙ whole) ∙ take_at text after (length text) refl in
    record {
      line = line_is bytes front rest p h;
      some = omega arith;
      within = omega (arith, length-append front rest, length-append text after);
      spelled = ap spelling_of own ∙ t.spelled;
    }

no_lines : (text after : List ℕ) (kind : Kind) → IsToken text after kind → lines_in text ≡ 0
no_lines text after kind t = none_counted text (spelled_other text kind (spelled_so text kind t.spelled))

found_is : {a b : List Token} → found a ≡ found b → a ≡ b
found_is e = cc

by_others : (bytes : List ℕ) (t : Token) (others : Reading) (tokens : List Token) → IsPlaced bytes t → with_front (t ∷ []) others ≡ found tokens → ((more : List Token) → others ≡ found more → All (IsPlaced bytes) more) → All (IsPlaced bytes) tokens
by_others bytes t (found more) tokens here e placed = subst (λ (ts : List Token). All (IsPlaced bytes) ts) (found_is e) (All-cons (IsPlaced bytes) t more here (placed more refl))
by_others bytes t (stuck code line byte) tokens here e placed = absurd cc

placed : {p : Place} {rest : List ℕ} {r : Reading} → Lexes p rest r → (bytes front : List ℕ) (tokens : List Token) → Here bytes front rest p → r ≡ found tokens → All (IsPlaced bytes) tokens
placed (nothing e f) bytes front tokens here is = subst (λ (ts : List Token). All (IsPlaced bytes) ts) (found_is (sym f ∙ is)) (All-nil (IsPlaced bytes))
placed {p} {rest} (gap some d) bytes front tokens here is = placed d bytes (front ++ take (gap_len rest) rest) tokens (here_gap (gap_len rest) bytes front rest p here) is
placed {p} {rest} (token no_gap text after kind others whole t d f) bytes front tokens here is =
    by_others bytes (token_of p (length text) kind) others tokens (token_placed bytes front rest text after p kind whole t here) (sym f ∙ is)
    (λ more e. placed d bytes (front ++ text) more (here_token bytes front rest text after p whole (no_lines text after kind t) here) e)
placed (none some no_gap without f) bytes front tokens here is = let clash = sym f ∙ is in absurd cc

here_first : (file : ℕ) (bytes : List ℕ) → Here bytes [] bytes (opening file)
here_first file bytes = record { whole = refl; byte = refl; line = refl }

pub all_placed : (file : ℕ) (bytes : List ℕ) (tokens : List Token) → reading_of file bytes ≡ found tokens → All (IsPlaced bytes) tokens
all_placed file bytes tokens is = placed (reads_itself file bytes) bytes [] tokens (here_first file bytes) is

none_found : (bytes : List ℕ) → ((text rest : List ℕ) (kind : Kind) → bytes ≡ text ++ rest → IsToken text rest kind → ⊥) → (o : Found) → token_at bytes ≡ o → token_at bytes ≡ None
none_found bytes without None is = is
none_found bytes without (Some x) is = let s = stands bytes x.0 x.1 is in absurd (without s.text s.rest x.1 s.whole s.is_token)

some_bytes : (bytes : List ℕ) → (bytes ≡ [] → ⊥) → 0 < length bytes
some_bytes [] other = absurd (other refl)
some_bytes (b ∷ bs) other = omega arith

stuck_here : (bytes front rest : List ℕ) (p : Place) → Here bytes front rest p → 0 < length rest → gap_len rest ≡ 0 → token_at rest ≡ None → IsRefused bytes (reason_of rest) p.line p.byte
stuck_here bytes front rest p here some no_gap is =
    let all = ap length here.whole in
    let e = here.byte in
    record {
      counted = line_is bytes front rest p here;
      within = omega (arith, length-append front rest);
      reason = subst (λ (l : List ℕ). IsReason l (reason_of rest)) (sym (rest_is bytes front rest p here)) (reason_fits rest some no_gap is);
    }

stuck_is : {a b c x y z : ℕ} → stuck a b c ≡ stuck x y z → (a ≡ x) × (b ≡ y) × (c ≡ z)
stuck_is e = (cc, cc, cc)

stuck_behind : (t : Token) (others : Reading) (code line byte : ℕ) → with_front (t ∷ []) others ≡ stuck code line byte → others ≡ stuck code line byte
stuck_behind t (found more) code line byte e = absurd cc
stuck_behind t (stuck c l b) code line byte e = e

refused : {p : Place} {rest : List ℕ} {r : Reading} → Lexes p rest r → (bytes front : List ℕ) (code line byte : ℕ) → Here bytes front rest p → r ≡ stuck code line byte → IsRefused bytes code line byte
refused (nothing e f) bytes front code line byte here is = let clash = sym f ∙ is in absurd cc
refused {p} {rest} (gap some d) bytes front code line byte here is = refused d bytes (front ++ take (gap_len rest) rest) code line byte (here_gap (gap_len rest) bytes front rest p here) is
refused {p} {rest} (token no_gap text after kind others whole t d f) bytes front code line byte here is =
    refused d bytes (front ++ text) code line byte (here_token bytes front rest text after p whole (no_lines text after kind t) here) (stuck_behind (token_of p (length text) kind) others code line byte (sym f ∙ is))
refused {p} {rest} (none some no_gap without f) bytes front code line byte here is =
    let q = stuck_is (sym f ∙ is) in
    let r = stuck_here bytes front rest p here (some_bytes rest some) no_gap (none_found rest without (token_at rest) refl) in
    subst (λ (x : ℕ × ℕ × ℕ). IsRefused bytes x.0 x.1 x.2) (λ i. (q.0 i, q.1 i, q.2 i)) r

pub told : (file : ℕ) (bytes : List ℕ) (code line byte : ℕ) → reading_of file bytes ≡ stuck code line byte → IsRefused bytes code line byte
told file bytes code line byte is = refused (reads_itself file bytes) bytes [] code line byte (here_first file bytes) is
