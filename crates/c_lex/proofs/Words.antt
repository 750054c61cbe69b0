-- A word is the longest spelling at its place, and takes all the word bytes that follow.
use Rattle.std.proofs.Common.{◌≡◌, ℕ, ◌<◌, Bool, true, false, cond, List, [], ◌∷◌, ◌++◌, length, drop, refl, sym, ap, subst, ◌∙◌, arith}
use Rattle.std.specs.Prelude.{Option, Some, None, IsSome}
use Rattle.std.specs.List.{list_all, take_while}
use Rattle.std.proofs.lemmas.List.Sums.{take_while-cons}
use Rattle.std.proofs.lemmas.List.Folds.{list_all-append}
use Rattle.c_lex.specs.declared.token.Kind.{Kind}
use Rattle.c_lex.specs.declared.token.Kind.TheVariants as k
use Rattle.c_lex.specs.Bytes.{begins, is_letter, is_word_byte}
use Rattle.c_lex.specs.Spelling.{IsToken, spelling_of, word_of}
use Rattle.c_lex.specs.Found.{word_found}
use Rattle.c_lex.proofs.Runs.{begins_some, begins_append}
use Rattle.c_lex.proofs.Stands.{Stands, some_is, both}

pub record Run (p : ℕ → Bool) (bs text rest : List ℕ) : Type 0 where
  pub whole : bs ≡ text ++ rest
  pub all : list_all p text ≡ true
  pub ends : begins p rest ≡ false

run_cons : (p : ℕ → Bool) (x : ℕ) (xs text rest : List ℕ) (b : Bool) → p x ≡ b → rest ≡ drop (length text) xs → Run p xs text rest → Run p (x ∷ xs) (cond b (x ∷ text) []) (drop (length (cond b (x ∷ text) [])) (x ∷ xs))
run_cons p x xs text rest true e is r = record {
  whole = ap (λ (l : List ℕ). x ∷ l) (r.whole ∙ ap (λ (l : List ℕ). text ++ l) is);
  all = rw e r.all;
  ends = ap (begins p) (sym is) ∙ r.ends;
}
run_cons p x xs text rest false e is r = record { whole = refl; all = refl; ends = e }

-- as many as pass, and what stands behind them
pub run_of : (p : ℕ → Bool) (bs : List ℕ) → Run p bs (take_while p bs) (drop (length (take_while p bs)) bs)
run_of p [] = record { whole = refl; all = refl; ends = refl }
run_of p (x ∷ xs) =
    subst (λ (t : List ℕ). Run p (x ∷ xs) t (drop (length t) (x ∷ xs))) (sym (take_while-cons p x xs))
    (run_cons p x xs (take_while p xs) (drop (length (take_while p xs)) xs) (p x) refl refl (run_of p xs))

not_taken : (p : ℕ → Bool) (rest : List ℕ) → begins p rest ≡ false → take_while p rest ≡ []
not_taken p [] h = refl
not_taken p (x ∷ xs) h = take_while-cons p x xs ∙ rw h refl

pub run_taken : (p : ℕ → Bool) (run rest : List ℕ) → list_all p run ≡ true → begins p rest ≡ false → take_while p (run ++ rest) ≡ run
run_taken p [] rest all ends = not_taken p rest ends
run_taken p (x ∷ xs) rest all ends =
    let h = both (p x) (list_all p xs) all in
    take_while-cons p x (xs ++ rest) ∙ rw h.0 (ap (λ (ys : List ℕ). x ∷ ys) (run_taken p xs rest h.1 ends))

letter_in_word : (bytes : List ℕ) → begins is_letter bytes ≡ true → begins is_word_byte bytes ≡ true
letter_in_word [] e = absurd cc
letter_in_word (b ∷ bs) e = rw e refl

pub is_word_of : (a : List ℕ) → begins is_letter a ≡ true → spelling_of a ≡ word_of a
unfolding spelling_of
is_word_of a e = rw e refl

pub whole_word : (a : List ℕ) → list_all is_word_byte a ≡ true → word_of a ≡ Some (k.Word a)
unfolding word_of
whole_word a e = rw e refl

pub word_whole : (a : List ℕ) (kind : Kind) → word_of a ≡ Some kind → (list_all is_word_byte a ≡ true) × (k.Word a ≡ kind)
unfolding word_of
word_whole a kind e = by (list_all is_word_byte a) e
  where
    by : (b : Bool) → cond b (Some (k.Word a)) None ≡ Some kind → (b ≡ true) × (k.Word a ≡ kind)
    by true h = (refl, some_is h)
    by false h = absurd cc

some_word : (a : List ℕ) → IsSome (word_of a) → list_all is_word_byte a ≡ true
unfolding word_of
some_word a some = chosen (list_all is_word_byte a) some
  where
    chosen : (b : Bool) → IsSome (cond b (Some (k.Word a)) None) → b ≡ true
    chosen true h = refl
    chosen false h = absurd cc

-- where no word byte follows, no longer text is a word
no_longer : (text rest more after : List ℕ) → begins is_word_byte rest ≡ false → rest ≡ more ++ after → list_all is_word_byte (text ++ more) ≡ true → more ≡ []
no_longer text rest [] after ends e all = refl
no_longer text rest (m ∷ more) after ends e all =
    let h = both (list_all is_word_byte text) _ (sym (list_all-append is_word_byte text (m ∷ more)) ∙ all) in
    let here = both (is_word_byte m) (list_all is_word_byte more) h.1 in
    let bad : false ≡ true = sym ends ∙ ap (begins is_word_byte) e ∙ here.0 in
    absurd cc

run_some : (text rest : List ℕ) → begins is_word_byte (text ++ rest) ≡ true → begins is_word_byte rest ≡ false → 0 < length text
run_some [] rest one two = let bad : true ≡ false = sym one ∙ two in absurd cc
run_some (b ∷ bs) rest one two = omega arith

made : (bytes text rest : List ℕ) → begins is_letter bytes ≡ true → Run is_word_byte bytes text rest → Stands bytes (length text) (k.Word text)
made bytes text rest letter r =
    let some : 0 < length text = run_some text rest (ap (begins is_word_byte) (sym r.whole) ∙ letter_in_word bytes letter) r.ends in
    let here : begins is_letter text ≡ true = sym (begins_append is_letter text rest some) ∙ ap (begins is_letter) (sym r.whole) ∙ letter in
    record {
      text = text;
      rest = rest;
      whole = r.whole;
      size = refl;
      some = some;
      is_token = record {
        spelled = is_word_of text here ∙ whole_word text r.all;
        ends = refl;
        longest = λ more after e h.
            let longer : begins is_letter (text ++ more) ≡ true = begins_append is_letter text more some ∙ here in
            no_longer text rest more after r.ends e (some_word (text ++ more) (subst (λ (o : Option Kind). IsSome o) (is_word_of (text ++ more) longer) h));
      };
    }

pub word_stands : (bytes : List ℕ) (len : ℕ) (kind : Kind) → begins is_letter bytes ≡ true → word_found bytes ≡ Some (len, kind) → Stands bytes len kind
unfolding word_found
word_stands bytes len kind letter e =
    let text = take_while is_word_byte bytes in
    let same : (length text, k.Word text) ≡ (len, kind) = some_is e in
    subst (λ (x : ℕ × Kind). Stands bytes x.0 x.1) same (made bytes text (drop (length text) bytes) letter (run_of is_word_byte bytes))

ended : (text rest : List ℕ) → begins is_letter text ≡ true → list_all is_word_byte text ≡ true → ((more after : List ℕ) → rest ≡ more ++ after → IsSome (spelling_of (text ++ more)) → more ≡ []) → begins is_word_byte rest ≡ false
ended text [] letter all longest = refl
ended text (b ∷ bs) letter all longest = by (is_word_byte b) refl
  where
    by : (c : Bool) → is_word_byte b ≡ c → is_word_byte b ≡ false
    by false e = e
    by true e =
        let longer : begins is_letter (text ++ b ∷ []) ≡ true = begins_append is_letter text (b ∷ []) (begins_some is_letter text letter) ∙ letter in
        let all' : list_all is_word_byte (text ++ b ∷ []) ≡ true = list_all-append is_word_byte text (b ∷ []) ∙ rw (all, e) refl in
        let spelled : spelling_of (text ++ b ∷ []) ≡ Some (k.Word (text ++ b ∷ [])) = is_word_of _ longer ∙ whole_word _ all' in
        let none = longest (b ∷ []) bs refl (rw spelled refl) in
        absurd cc

pub word_complete : (text rest : List ℕ) (kind : Kind) → begins is_letter text ≡ true → IsToken text rest kind → word_found (text ++ rest) ≡ Some (length text, kind)
unfolding word_found
word_complete text rest kind letter t =
    let q = word_whole text kind (sym (is_word_of text letter) ∙ t.spelled) in
    let taken : take_while is_word_byte (text ++ rest) ≡ text = run_taken is_word_byte text rest q.0 (ended text rest letter q.0 t.longest) in
    ap (λ (x : List ℕ). Some (length x, k.Word x)) taken ∙ ap (λ (x : Kind). Some (length text, x)) q.1
