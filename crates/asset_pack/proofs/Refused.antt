-- What is added before a refusal is a front of the text.
use Rattle.std.specs.Prelude.{OnErr}
use Rattle.std.proofs.Common.{Result, Ok, Err, ◌≡◌, ℕ, zero, suc, ◌+◌, ◌≤◌, min, List, [], ◌∷◌, ◌++◌, length, take, drop, refl, sym, ap, ◌∙◌, append_assoc, append-nil, arith}
use Rattle.std.specs.Int.{w32, to_le_bytes}
use Rattle.std.proofs.lemmas.List.{take-append-drop, take-append-le, take_min}
use Rattle.std.proofs.lemmas.List.Concat.{flat_map-append}
use Rattle.asset_pack.specs.Words.{words_text, AddsFront}

taken_behind : (a b : List ℕ) (n m : ℕ) → m ≡ length a + n → take m (a ++ b) ≡ a ++ take n b
taken_behind [] b n m e = let same : m ≡ n = omega arith in ap (λ (k : ℕ). take k b) same
taken_behind (x ∷ a) b n zero e = absurd (omega arith)
taken_behind (x ∷ a) b n (suc m) e = ap (λ (l : List ℕ). x ∷ l) (taken_behind a b n m (omega arith))

pub none_put : (old text new : List ℕ) → new ≡ old → AddsFront old text new
none_put old text new p = (0, p ∙ sym (append-nil old))

-- where a piece was put, and then a front of the next
pub front_behind : (old a b mid new : List ℕ) → mid ≡ old ++ a → AddsFront mid b new → AddsFront old (a ++ b) new
front_behind old a b mid new p (n, q) =
    (length a + n, q ∙ ap (λ (x : List ℕ). x ++ take n b) p ∙ append_assoc old a (take n b) ∙ ap (λ (x : List ℕ). old ++ x) (sym (taken_behind a b n (length a + n) refl)))

-- a front of the first piece
pub front_of_first : (old a b new : List ℕ) → AddsFront old a new → AddsFront old (a ++ b) new
front_of_first old a b new (n, q) =
    let within : min n (length a) ≤ length a = omega arith in
    (min n (length a), q ∙ ap (λ (x : List ℕ). old ++ x) (sym (take_min n a) ∙ sym (take-append-le (min n (length a)) a b within)))

pub second_begun : (old a b c mid new : List ℕ) → mid ≡ old ++ a → AddsFront mid b new → AddsFront old (a ++ (b ++ c)) new
second_begun old a b c mid new p q = front_behind old a (b ++ c) mid new p (front_of_first mid b c new q)

pub third_begun : (old a b c one two new : List ℕ) → one ≡ old ++ a → two ≡ one ++ b → AddsFront two c new → AddsFront old (a ++ (b ++ c)) new
third_begun old a b c one two new p q r = front_behind old a (b ++ c) one new p (front_behind one b c two new q r)

-- the words before the refusal
pub words_begun : (words old mid new : List ℕ) (i : ℕ) → mid ≡ old ++ words_text (take i words) → new ≡ mid → AddsFront old (words_text words) new
words_begun words old mid new i p q =
    let done : List ℕ = words_text (take i words) in
    let all : words_text words ≡ done ++ words_text (drop i words) =
    sym (ap words_text (take-append-drop i words)) ∙ flat_map-append (to_le_bytes w32) (take i words) (drop i words) in (
      length done,
      q ∙ p
          ∙ ap (λ (x : List ℕ). old ++ x)
          (sym (append-nil done)
          ∙ sym (taken_behind done (words_text (drop i words)) 0 (length done) (omega arith))
          ∙ ap (take (length done)) (sym all)),
    )

pub on_refusal : {A E P : Type 0} (r : Result A E) → P → OnErr r P
on_refusal (Ok x) p = tt
on_refusal (Err e) p = p
