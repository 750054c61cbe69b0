-- Tokens are of their file, on lines from 1, and no more than bytes.
use Rattle.std.proofs.Common.{◌≡◌, ℕ, ◌<◌, ◌≤◌, List, [], ◌∷◌, length, drop, refl, sym, ap, subst, ◌∙◌, arith}
use Rattle.std.specs.List.{All}
use Rattle.std.proofs.lemmas.List.{length-append, length-drop}
use Rattle.std.proofs.lemmas.List.Elements.{All-cons, All-nil}
use Rattle.c_lex.specs.declared.token.Token.{Token}
use Rattle.c_lex.specs.declared.place.Place.{Place}
use Rattle.c_lex.specs.Gaps.{gap_len}
use Rattle.c_lex.specs.Reading.{Reading, found, stuck, Lexes, nothing, gap, token, none, with_front, token_of}
use Rattle.c_lex.specs.Found.{reading_of}
use Rattle.c_lex.proofs.Stands.{token_some}
use Rattle.c_lex.proofs.Readings.{reads_itself}

pub record Placed (file n : ℕ) (tokens : List Token) : Type 0 where
  pub files : All (λ (t : Token). t.file ≡ file) tokens
  pub lines : All (λ (t : Token). 1 ≤ t.line) tokens
  pub count : length tokens ≤ n

found_is : {a b : List Token} → found a ≡ found b → a ≡ b
found_is e = cc

none_placed : (file n : ℕ) → Placed file n []
none_placed file n = record { files = All-nil (λ (t : Token). t.file ≡ file); lines = All-nil (λ (t : Token). 1 ≤ t.line); count = omega arith }

wider : (file n m : ℕ) (tokens : List Token) → n ≤ m → Placed file n tokens → Placed file m tokens
wider file n m tokens le p = record { files = p.files; lines = p.lines; count = let c = p.count in omega arith }

one_more : (file n m : ℕ) (t : Token) (tokens : List Token) → n < m → t.file ≡ file → 1 ≤ t.line → Placed file n tokens → Placed file m (t ∷ tokens)
one_more file n m t tokens lt here line p = record {
  files = All-cons (λ (t : Token). t.file ≡ file) t tokens here p.files;
  lines = All-cons (λ (t : Token). 1 ≤ t.line) t tokens line p.lines;
  count = let c = p.count in omega arith;
}

by_others : (file n m : ℕ) (t : Token) (others : Reading) (tokens : List Token) → n < m → t.file ≡ file → 1 ≤ t.line → with_front (t ∷ []) others ≡ found tokens
    → ((more : List Token) → others ≡ found more → Placed file n more) → Placed file m tokens
by_others file n m t (found more) tokens lt here line e placed = subst (λ (ts : List Token). Placed file m ts) (found_is e) (one_more file n m t more lt here line (placed more refl))
by_others file n m t (stuck code at byte) tokens lt here line e placed = absurd cc

placed : {p : Place} {bytes : List ℕ} {r : Reading} → Lexes p bytes r → (file : ℕ) (tokens : List Token) → r ≡ found tokens → p.file ≡ file → 1 ≤ p.line → Placed file (length bytes) tokens
placed {bytes} (nothing e f) file tokens is here line = subst (λ (ts : List Token). Placed file (length bytes) ts) (found_is (sym f ∙ is)) (none_placed file (length bytes))
placed {p} {bytes} (gap some d) file tokens is here line =
    wider file (length (drop (gap_len bytes) bytes)) (length bytes) tokens (omega (arith, length-drop (gap_len bytes) bytes)) (placed d file tokens is here (omega arith))
placed {p} {bytes} (token no_gap text rest kind others whole t d f) file tokens is here line =
    let size = ap length whole in
    let some = token_some text rest kind t in
    by_others file (length rest) (length bytes) (token_of p (length text) kind) others tokens (omega (arith, length-append text rest)) here line (sym f ∙ is)
    (λ more e. placed d file more e here line)
placed (none some no_gap without f) file tokens is here line = let clash = sym f ∙ is in absurd cc

pub all_placed : (file : ℕ) (bytes : List ℕ) (tokens : List Token) → reading_of file bytes ≡ found tokens → Placed file (length bytes) tokens
all_placed file bytes tokens is = placed (reads_itself file bytes) file tokens is refl (omega arith)
