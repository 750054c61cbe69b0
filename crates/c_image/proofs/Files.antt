-- The files of a line table: each place stands in one of them, and their names are texts.
use Rattle.std.proofs.Common.{◌≡◌, ℕ, suc, ◌+◌, ◌-◌, ◌≤◌, ◌<◌, min, Bool, true, false, cond, ◌||◌, List, [], ◌∷◌, ◌++◌, length, zero, map, refl, subst, arith, bytes_eq, slice_get}
use Rattle.std.specs.Prelude.{Option, Some, None}
use Rattle.std.specs.List.{AllByRecursion, list_all}
use Rattle.std.specs.Str.{is_utf8}
use Rattle.std.proofs.lemmas.Bool.{and_parts, and_from}
use Rattle.std.proofs.lemmas.Slice.Eq.{bytes_eq-Decides}
use Rattle.c_lex.specs.declared.token.Token.{Token}
use Rattle.c_front.specs.Names.{name_of, token_at}
use Rattle.c_front.specs.Places.{Place, place_in, place_at}
use Rattle.c_front.specs.declared.places.Places.{Places}
use Rattle.c_image.specs.Lines.{has_file, with_file, files_behind, number_of}
use Rattle.c_image.proofs.Rising.{IsTold}

abbrev Files : Type 0
Files = List (List ℕ)

-- ---- what is a file stays one

has_more : (name : List ℕ) (files more : Files) → has_file name files ≡ true → has_file name (files ++ more) ≡ true
has_more name [] more h = absurd cc
has_more name (file ∷ files) more h = at (bytes_eq file name) h (has_more name files more)
  where
    at : (b : Bool) → (b || has_file name files) ≡ true → (has_file name files ≡ true → has_file name (files ++ more) ≡ true) → (b || has_file name (files ++ more)) ≡ true
    at true k go = refl
    at false k go = go k

has_last : (name : List ℕ) (files : Files) → has_file name (files ++ name ∷ []) ≡ true
has_last name [] = let same : bytes_eq name name ≡ true = (bytes_eq-Decides name name).1 refl in rw same refl
has_last name (file ∷ files) = at (bytes_eq file name) (has_last name files)
  where
    at : (b : Bool) → has_file name (files ++ name ∷ []) ≡ true → (b || has_file name (files ++ name ∷ [])) ≡ true
    at true h = refl
    at false h = h

has_with : (name other : List ℕ) (files : Files) → has_file name files ≡ true → has_file name (with_file files other) ≡ true
has_with name other files h = at (has_file other files)
  where
    at : (b : Bool) → has_file name (cond b files (files ++ other ∷ [])) ≡ true
    at true = h
    at false = has_more name files (other ∷ []) h

has_own : (name : List ℕ) (files : Files) → has_file name (with_file files name) ≡ true
has_own name files = at (has_file name files) refl
  where
    at : (b : Bool) → has_file name files ≡ b → has_file name (cond b files (files ++ name ∷ [])) ≡ true
    at true h = h
    at false h = has_last name files

has_behind : (name : List ℕ) (os : List Place) (files : Files) → has_file name files ≡ true → has_file name (files_behind files os) ≡ true
has_behind name [] files h = h
has_behind name (o ∷ os) files h = has_behind name os (with_file files o.0) (has_with name o.0 files h)

-- ---- numbers

number_below : (name : List ℕ) (files : Files) → has_file name files ≡ true → number_of name files < length files
number_below name [] h = absurd cc
number_below name (file ∷ files) h = at (bytes_eq file name) h (number_below name files)
  where
    at : (b : Bool) → (b || has_file name files) ≡ true → (has_file name files ≡ true → number_of name files < length files) → cond b 0 (suc (number_of name files)) < suc (length files)
    at true k go = omega arith
    at false k go = let r = go k in omega (arith, r)

-- ---- counts and texts

few_more : (files : Files) (name : List ℕ) → length (with_file files name) ≤ length files + 1
few_more files name = at (has_file name files)
  where
    longer : (fs : Files) → length (fs ++ name ∷ []) ≡ length fs + 1
    longer [] = omega arith
    longer (g ∷ fs) = let r = longer fs in omega (arith, r)

    at : (b : Bool) → length (cond b files (files ++ name ∷ [])) ≤ length files + 1
    at true = omega arith
    at false = omega (arith, longer files)

pub few_files : (os : List Place) (files : Files) → length (files_behind files os) ≤ length files + length os
few_files [] files = omega arith
few_files (o ∷ os) files = let r = few_files os (with_file files o.0) in let m = few_more files o.0 in omega (arith, r, m)

all_more : (files : Files) (name : List ℕ) → list_all is_utf8 files ≡ true → is_utf8 name ≡ true → list_all is_utf8 (files ++ name ∷ []) ≡ true
all_more [] name h k = and_from (is_utf8 name) true k refl
all_more (file ∷ files) name h k =
    let both = and_parts (is_utf8 file) (list_all is_utf8 files) h in
    and_from (is_utf8 file) (list_all is_utf8 (files ++ name ∷ [])) both.0 (all_more files name both.1 k)

all_with : (files : Files) (name : List ℕ) → list_all is_utf8 files ≡ true → is_utf8 name ≡ true → list_all is_utf8 (with_file files name) ≡ true
all_with files name h k = at (has_file name files)
  where
    at : (b : Bool) → list_all is_utf8 (cond b files (files ++ name ∷ [])) ≡ true
    at true = h
    at false = all_more files name h k

pub all_texts : (os : List Place) (files : Files) → list_all is_utf8 files ≡ true → AllByRecursion (λ o. is_utf8 o.0 ≡ true) os → list_all is_utf8 (files_behind files os) ≡ true
all_texts [] files h k = h
all_texts (o ∷ os) files h k = all_texts os (with_file files o.0) (all_with files o.0 h k.0) k.1

-- ---- places of tokens

name_is_text : (source : List ℕ) (names : Files) (file : ℕ) → is_utf8 source ≡ true → list_all is_utf8 names ≡ true → is_utf8 (name_of source names file) ≡ true
name_is_text source [] file h k = h
name_is_text source (name ∷ names) zero h k = (and_parts (is_utf8 name) (list_all is_utf8 names) k).0
name_is_text source (name ∷ names) (suc file) h k = name_is_text source names file h (and_parts (is_utf8 name) (list_all is_utf8 names) k).1

line_counts : (tokens : List Token) (t : ℕ) (o : Option Token) → AllByRecursion (λ t. 1 ≤ t.line) tokens → slice_get tokens t ≡ o → (source : Places) → 1 ≤ (place_in source o).1
line_counts tokens t None h e source = omega arith
line_counts [] t (Some u) h e source = absurd cc
line_counts (u ∷ tokens) zero (Some v) h e source = let same : u ≡ v = cc in subst (λ (w : Token). 1 ≤ w.line) same h.0
line_counts (u ∷ tokens) (suc t) (Some v) h e source = line_counts tokens t (Some v) h.1 e source

module _ (places : Places) (source : is_utf8 places.source ≡ true) (names : list_all is_utf8 places.names ≡ true) (lines : AllByRecursion (λ t. 1 ≤ t.line) places.tokens) where
  text_in : (o : Option Token) → is_utf8 (place_in places o).0 ≡ true
  text_in None = source
  text_in (Some t) = name_is_text places.source places.names t.file source names

  pub texts_at : (starts : List ℕ) → AllByRecursion (λ o. is_utf8 o.0 ≡ true) (map (place_at places) starts)
  texts_at [] = tt
  texts_at (start ∷ starts) = (text_in (token_at places.tokens start), texts_at starts)

  pub lines_at : (starts : List ℕ) → AllByRecursion (λ o. 1 ≤ o.1) (map (place_at places) starts)
  lines_at [] = tt
  lines_at (start ∷ starts) = (line_counts places.tokens (min (length places.tokens - 1) start) (token_at places.tokens start) lines refl places, lines_at starts)

pub told_behind : (os : List Place) (files : Files) → AllByRecursion (λ o. 1 ≤ o.1) os → AllByRecursion (IsTold (files_behind files os)) os
told_behind [] files lines = tt
told_behind (o ∷ os) files lines = (
  record { file = number_below o.0 (files_behind (with_file files o.0) os) (has_behind o.0 os (with_file files o.0) (has_own o.0 files)); line = lines.0 },
  told_behind os (with_file files o.0) lines.1,
)
