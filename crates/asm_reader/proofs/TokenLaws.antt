-- Tokens are read where they are spelled.
use Rattle.std.proofs.Common.{◌≡◌, ℕ, ◌<◌, ◌==◌, Bool, true, false, ◌&&◌, List, [], ◌∷◌, ◌++◌, drop, length, refl, sym, ap, ◌∙◌, arith}
use Rattle.std.specs.List.{list_all, take_while}
use Rattle.std.proofs.lemmas.Bool.Decides.{Decides-eqb}
use Rattle.std.proofs.lemmas.List.Sums.{take_while-cons}
use Rattle.asm_items.specs.Vocabulary.{is_word_byte}
use Rattle.asm_reader.specs.declared.token.Token.{Token}
use Rattle.asm_reader.specs.Tokens.{begins, is_blank, run_token, token_at, tokens_from, tokens_of}
use Rattle.asm_reader.proofs.Lexing.{passed}

unlike : (p : ℕ → Bool) (k b : ℕ) → p k ≡ false → p b ≡ true → (c : Bool) → (b == k) ≡ c → c ≡ false
unlike p k b other passes false e = refl
unlike p k b other passes true e = let same : b ≡ k = (Decides-eqb b k).0 e in let bad : true ≡ false = sym passes ∙ ap p same ∙ other in absurd cc

pub word_is_not : (k b : ℕ) → is_word_byte k ≡ false → is_word_byte b ≡ true → (b == k) ≡ false
word_is_not k b other passes = unlike is_word_byte k b other passes (b == k) refl

pub both_true : (a b : Bool) → (a && b) ≡ true → (a ≡ true) × (b ≡ true)
both_true true b h = (refl, h)
both_true false b h = absurd cc

not_taken : (p : ℕ → Bool) (rest : List ℕ) → begins p rest ≡ false → take_while p rest ≡ []
not_taken p [] h = refl
not_taken p (x ∷ xs) h = take_while-cons p x xs ∙ rw h refl

run_taken : (p : ℕ → Bool) (run rest : List ℕ) → list_all p run ≡ true → begins p rest ≡ false → take_while p (run ++ rest) ≡ run
run_taken p [] rest all ends = not_taken p rest ends
run_taken p (x ∷ xs) rest all ends =
    let h = both_true (p x) (list_all p xs) all in
    take_while-cons p x (xs ++ rest) ∙ rw h.0 (ap (λ (ys : List ℕ). x ∷ ys) (run_taken p xs rest h.1 ends))

behind : (run rest : List ℕ) → drop (length run) (run ++ rest) ≡ rest
behind [] rest = refl
behind (x ∷ xs) rest = behind xs rest

at_run : (b : ℕ) (bs : List ℕ) → is_word_byte b ≡ true → token_at (b ∷ bs) ≡ (run_token (take_while is_word_byte (b ∷ bs)), length (take_while is_word_byte bs))
unfolding token_at
at_run b bs first = rw first refl

run_first : (b : ℕ) (bs rest : List ℕ) → is_word_byte b ≡ true → list_all is_word_byte bs ≡ true → begins is_word_byte rest ≡ false → token_at (b ∷ (bs ++ rest)) ≡ (run_token (b ∷ bs), length bs)
run_first b bs rest first all ends =
    let tail : take_while is_word_byte (bs ++ rest) ≡ bs = run_taken is_word_byte bs rest all ends in
    let whole : take_while is_word_byte (b ∷ (bs ++ rest)) ≡ b ∷ bs = run_taken is_word_byte (b ∷ bs) rest (rw first all) ends in
    at_run b (bs ++ rest) first ∙ ap (λ (w : List ℕ). (run_token w, length (take_while is_word_byte (bs ++ rest)))) whole ∙ ap (λ (w : List ℕ). (run_token (b ∷ bs), length w)) tail

pub token_first : (b k : ℕ) (bs rest : List ℕ) (token : Token) → is_blank b ≡ false → (b == 59) ≡ false → token_at (b ∷ bs) ≡ (token, k) → drop k bs ≡ rest → tokens_of (b ∷ bs) ≡ token ∷ tokens_of rest
unfolding tokens_from tokens_of
token_first b k bs rest token no_blank no_comment at left =
    let one : tokens_of (b ∷ bs) ≡ (token_at (b ∷ bs)).0 ∷ tokens_from (token_at (b ∷ bs)).1 bs = rw (no_blank, no_comment) refl in
    one ∙ ap (λ (y : Token × ℕ). y.0 ∷ tokens_from y.1 bs) at ∙ ap (λ (ts : List Token). token ∷ ts) (passed k bs ∙ ap tokens_of left)

no_blank : (b : ℕ) → is_word_byte b ≡ true → is_blank b ≡ false
no_blank b h = rw (word_is_not 32 b refl h, word_is_not 9 b refl h) refl

pub runs : (run rest : List ℕ) → 0 < length run → list_all is_word_byte run ≡ true → begins is_word_byte rest ≡ false → tokens_of (run ++ rest) ≡ run_token run ∷ tokens_of rest
runs [] rest some all ends = absurd (omega arith)
runs (b ∷ bs) rest some all ends =
    let h = both_true (is_word_byte b) (list_all is_word_byte bs) all in
    token_first b (length bs) (bs ++ rest) rest (run_token (b ∷ bs)) (no_blank b h.0) (word_is_not 59 b refl h.0) (run_first b bs rest h.0 h.1 ends) (behind bs rest)

pub blanks : (b : ℕ) (rest : List ℕ) → is_blank b ≡ true → tokens_of (b ∷ rest) ≡ tokens_of rest
unfolding tokens_from tokens_of
blanks b rest is = rw is refl

pub comments : (rest : List ℕ) → tokens_of (59 ∷ rest) ≡ []
unfolding tokens_from tokens_of
comments rest = refl
