-- Where a line ends.
use Rattle.std.proofs.Common.{◌≡◌, ℕ, ◌+◌, List, [], ◌∷◌, ◌++◌, length, take, refl, sym, ap, ◌∙◌, append_assoc, arith}
use Rattle.std.proofs.lemmas.Bool.{eq-eqb, ne_eqb}
use Rattle.std.proofs.lemmas.List.{nil_from_length, take_at, length-append, length-take-le, append-nil}
use Rattle.line_text.specs.Lines.{without_return, lines_from, lines_of}

less_return : (front : List ℕ) → without_return (front ++ 13 ∷ []) ≡ front
unfolding without_return
less_return [] = refl
less_return (b ∷ []) = refl
less_return (b ∷ c ∷ bs) = ap (λ (x : List ℕ). b ∷ x) (less_return (c ∷ bs))

no_return : (front : List ℕ) (x : ℕ) → (x ≡ 13 → ⊥) → without_return (front ++ x ∷ []) ≡ front ++ x ∷ []
unfolding without_return
no_return [] x other = rw (ne_eqb x 13 other) refl
no_return (b ∷ []) x other = ap (λ (y : List ℕ). b ∷ y) (no_return [] x other)
no_return (b ∷ c ∷ bs) x other = ap (λ (y : List ℕ). b ∷ y) (no_return (c ∷ bs) x other)

pub returns_at : (line front : List ℕ) (x : ℕ) → line ≡ front ++ x ∷ [] → x ≡ 13 → front ≡ without_return line
returns_at line front x whole is = sym (less_return front) ∙ ap (λ (y : ℕ). without_return (front ++ y ∷ [])) (sym is) ∙ ap without_return (sym whole)

pub no_return_at : (line front : List ℕ) (x : ℕ) → line ≡ front ++ x ∷ [] → (x ≡ 13 → ⊥) → line ≡ without_return line
no_return_at line front x whole other = whole ∙ sym (no_return front x other) ∙ ap without_return (sym whole)

pub empty_at : (line : List ℕ) → length line ≡ 0 → line ≡ without_return line
unfolding without_return
empty_at line empty = let e = nil_from_length line empty in e ∙ ap without_return (sym e)

-- the text up to here is one line so far
pub record Within (bytes : List ℕ) (at : ℕ) (rest : List ℕ) : Type 0 where
  pub parts : bytes ≡ take at bytes ++ rest
  pub size : at + length rest ≡ length bytes
  pub reads : lines_from (take at bytes) rest ≡ lines_of bytes

pub start : (bytes : List ℕ) → Within bytes 0 bytes
unfolding lines_of
start bytes = record { parts = refl; size = omega arith; reads = refl }

pub goes_on : (bytes : List ℕ) (at : ℕ) (rest : List ℕ) (b : ℕ) (after : List ℕ) → rest ≡ b ∷ after → (b ≡ 10 → ⊥) → Within bytes at rest → Within bytes (at + 1) after
unfolding lines_from
goes_on bytes at rest b after whole other w =
    let front = take at bytes ++ b ∷ [] in
    let size = w.size in
    let len : length (take at bytes) ≡ at = length-take-le at bytes (omega arith) in
    let parts : bytes ≡ front ++ after = w.parts ∙ ap (λ (r : List ℕ). take at bytes ++ r) whole ∙ sym (append_assoc (take at bytes) (b ∷ []) after) in
    let longer : take (at + 1) bytes ≡ front = ap (take (at + 1)) parts ∙ take_at front after (at + 1) (omega (arith, length-append (take at bytes) (b ∷ []))) in
    let one : lines_from (take at bytes) (b ∷ after) ≡ lines_from front after = rw (ne_eqb b 10 other) refl in
    let less = ap length whole in
    record {
      parts = parts ∙ ap (λ (x : List ℕ). x ++ after) (sym longer);
      size = omega arith;
      reads = ap (λ (x : List ℕ). lines_from x after) longer ∙ sym one ∙ ap (lines_from (take at bytes)) (sym whole) ∙ w.reads;
    }

pub ended : (bytes : List ℕ) (at : ℕ) (rest : List ℕ) (b : ℕ) (after line : List ℕ) → Within bytes at rest → rest ≡ b ∷ after → b ≡ 10 → line ≡ without_return (take at bytes) → lines_of bytes ≡ line ∷ lines_of after
unfolding lines_from lines_of
ended bytes at rest b after line w whole is line-is =
    let one : lines_from (take at bytes) (b ∷ after) ≡ without_return (take at bytes) ∷ lines_of after = rw (eq-eqb b 10 is) refl in
    sym w.reads ∙ ap (lines_from (take at bytes)) whole ∙ one ∙ ap (λ (x : List ℕ). x ∷ lines_of after) (sym line-is)

pub no_text : (bytes : List ℕ) → length bytes ≡ 0 → lines_of bytes ≡ []
unfolding lines_from lines_of
no_text bytes empty = ap lines_of (nil_from_length bytes empty)

pub last_line : (bytes : List ℕ) (at : ℕ) (rest : List ℕ) → Within bytes at rest → length rest ≡ 0 → (length bytes ≡ 0 → ⊥) → lines_of bytes ≡ bytes ∷ lines_of rest
unfolding lines_from lines_of
last_line bytes at rest w empty some =
    let e = nil_from_length rest empty in
    let all : bytes ≡ take at bytes = w.parts ∙ ap (λ (r : List ℕ). take at bytes ++ r) e ∙ append-nil (take at bytes) in
    let one : lines_from bytes [] ≡ bytes ∷ [] = rw (ne_eqb (length bytes) 0 some) refl in
    sym w.reads ∙ ap (lines_from (take at bytes)) e ∙ ap (λ (x : List ℕ). lines_from x []) (sym all) ∙ one ∙ ap (λ (x : List ℕ). bytes ∷ lines_of x) (sym e)

pub ruleset splitting = (start, goes_on, ended, no_text, last_line)
