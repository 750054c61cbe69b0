-- Every text has the reading of the function, and no other.
use Rattle.std.proofs.Common.{◌≡◌, ℕ, zero, suc, ◌<◌, ◌≤◌, Bool, true, false, ltb, List, [], ◌∷◌, ◌++◌, length, take, drop, refl, sym, ap, subst, ◌∙◌, arith}
use Rattle.std.specs.Prelude.{Some, None}
use Rattle.std.proofs.lemmas.Bool.{ltb-false, ltb-true}
use Rattle.std.proofs.lemmas.List.{length-append, length-drop, drop_at}
use Rattle.c_lex.specs.declared.token.Kind.{Kind}
use Rattle.c_lex.specs.declared.place.Place.{Place}
use Rattle.c_lex.specs.Gaps.{gap_len}
use Rattle.c_lex.specs.Spelling.{IsToken, reason_of}
use Rattle.c_lex.specs.Reading.{Reading, stuck, Lexes, nothing, gap, token, none, Reads, with_front, past_gap, past_token, token_of, opening}
use Rattle.c_lex.specs.Found.{Found, token_at, reading_from, reading_of}
use Rattle.c_lex.proofs.OneToken.{stands, complete}
use Rattle.c_lex.proofs.Steps.{at_nothing, at_gap, at_token, at_none}

-- where none is found none stands
none_stands : (bytes : List ℕ) → token_at bytes ≡ None → (text rest : List ℕ) (kind : Kind) → bytes ≡ text ++ rest → IsToken text rest kind → ⊥
none_stands bytes is text rest kind whole t = let clash = sym is ∙ ap token_at whole ∙ complete text rest kind t in absurd cc

rest_is : (bytes text rest : List ℕ) → bytes ≡ text ++ rest → drop (length text) bytes ≡ rest
rest_is bytes text rest whole = ap (drop (length text)) whole ∙ drop_at text rest (length text) refl

abbrev All_shorter : ℕ → Type 0
All_shorter n = (p : Place) (bytes : List ℕ) → length bytes ≤ n → Lexes p bytes (reading_from 0 p bytes)

by_found : (n : ℕ) (p : Place) (bytes : List ℕ) → All_shorter n → length bytes ≤ suc n → 0 < length bytes → gap_len bytes ≡ 0 → (o : Found) → token_at bytes ≡ o → Lexes p bytes (reading_from 0 p bytes)
by_found n p bytes shorter le some no_gap None is =
    none (λ empty. let e = ap length empty in omega arith) no_gap (none_stands bytes is) (at_none p bytes some no_gap is)
by_found n p bytes shorter le some no_gap (Some x) is =
    let s = stands bytes x.0 x.1 is in
    let size = ap length s.whole in
    let below : length s.rest ≤ n = omega (arith, length-append s.text s.rest, s.size, s.some) in
    let is' : token_at bytes ≡ Some (length s.text, x.1) = is ∙ ap (λ (m : ℕ). Some (m, x.1)) (sym s.size) in
    token no_gap s.text s.rest x.1 (reading_from 0 (past_token p (length s.text)) s.rest) s.whole s.is_token (shorter (past_token p (length s.text)) s.rest below)
    (at_token p bytes (length s.text) x.1 no_gap is' ∙ ap (λ (r : List ℕ). with_front (token_of p (length s.text) x.1 ∷ []) (reading_from 0 (past_token p (length s.text)) r)) (rest_is bytes s.text s.rest s.whole))

by_gap : (n : ℕ) (p : Place) (bytes : List ℕ) → All_shorter n → length bytes ≤ suc n → 0 < length bytes → (b : Bool) → ltb 0 (gap_len bytes) ≡ b → Lexes p bytes (reading_from 0 p bytes)
by_gap n p bytes shorter le some true e =
    let here = ltb-true 0 (gap_len bytes) e in
    let d = shorter (past_gap p (take (gap_len bytes) bytes)) (drop (gap_len bytes) bytes) (omega (arith, length-drop (gap_len bytes) bytes)) in
    gap here (subst (λ (r : Reading). Lexes (past_gap p (take (gap_len bytes) bytes)) (drop (gap_len bytes) bytes) r) (sym (at_gap p bytes here)) d)
by_gap n p bytes shorter le some false e =
    let here = ltb-false 0 (gap_len bytes) e in
    by_found n p bytes shorter le some (omega arith) (token_at bytes) refl

reads_up_to : (n : ℕ) → All_shorter n
reads_up_to n p [] le = nothing refl (at_nothing p)
reads_up_to zero p (b ∷ bs) le = absurd (omega arith)
reads_up_to (suc n) p (b ∷ bs) le = by_gap n p (b ∷ bs) (reads_up_to n) le (omega arith) (ltb 0 (gap_len (b ∷ bs))) refl

pub reads_itself : (file : ℕ) (bytes : List ℕ) → Reads file bytes (reading_of file bytes)
unfolding reading_of
reads_itself file bytes = reads_up_to (length bytes) (opening file) bytes (omega arith)

some_bytes : (bytes : List ℕ) → (bytes ≡ [] → ⊥) → 0 < length bytes
some_bytes [] other = absurd (other refl)
some_bytes (b ∷ bs) other = omega arith

stuck_by : (p : Place) (bytes : List ℕ) (r : Reading) → 0 < length bytes → gap_len bytes ≡ 0 → ((text rest : List ℕ) (kind : Kind) → bytes ≡ text ++ rest → IsToken text rest kind → ⊥) → r ≡ stuck (reason_of bytes) p.line p.byte
    → (o : Found) → token_at bytes ≡ o → r ≡ reading_from 0 p bytes
stuck_by p bytes r some no_gap without f None is = f ∙ sym (at_none p bytes some no_gap is)
stuck_by p bytes r some no_gap without f (Some x) is = let s = stands bytes x.0 x.1 is in absurd (without s.text s.rest x.1 s.whole s.is_token)

pub exact : {p : Place} {bytes : List ℕ} {r : Reading} → Lexes p bytes r → r ≡ reading_from 0 p bytes
exact {p} {bytes} (nothing e f) = f ∙ sym (at_nothing p) ∙ ap (reading_from 0 p) (sym e)
exact {p} {bytes} (gap some d) = exact d ∙ sym (at_gap p bytes some)
exact {p} {bytes} (token no_gap text rest kind others whole t d f) =
    let is : token_at bytes ≡ Some (length text, kind) = ap token_at whole ∙ complete text rest kind t in
    let e : others ≡ reading_from 0 (past_token p (length text)) (drop (length text) bytes) = exact d ∙ ap (reading_from 0 (past_token p (length text))) (sym (rest_is bytes text rest whole)) in
    f ∙ ap (with_front (token_of p (length text) kind ∷ [])) e ∙ sym (at_token p bytes (length text) kind no_gap is)
exact {p} {bytes} {r} (none some no_gap without f) = stuck_by p bytes r (some_bytes bytes some) no_gap without f (token_at bytes) refl

pub only_one : (file : ℕ) (bytes : List ℕ) (r : Reading) → Reads file bytes r → r ≡ reading_of file bytes
unfolding reading_of
only_one file bytes r d = exact d

pub reads_so : (file : ℕ) (bytes : List ℕ) (r : Reading) → r ≡ reading_of file bytes → Reads file bytes r
reads_so file bytes r e = subst (λ (x : Reading). Reads file bytes x) (sym e) (reads_itself file bytes)
