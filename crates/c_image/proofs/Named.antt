-- Names of functions are names of C.
use Rattle.std.proofs.Common.{◌≡◌, ℕ, Bool, true, false, ◌||◌, ◌==◌, List, [], ◌∷◌, refl, ◌∙◌}
use Rattle.std.specs.List.{AllByRecursion, list_all}
use Rattle.std.specs.Int.{is_in_range}
use Rattle.std.proofs.lemmas.Bool.{and_parts, and_from}
use Rattle.c_types.specs.Programs.{TFunctionT, ProgramT}
use Rattle.c_check.specs.Words.{is_word, is_word_byte, is_letter}
use Rattle.c_facts.specs.Sound.{AreFunctions, scene}
use Rattle.cart_format.specs.Table.{is_name, continues_name}

turned : (d a b u : Bool) → (((d || a) || b) || u) ≡ (((a || b) || u) || d)
turned true true b u = refl
turned true false true u = refl
turned true false false true = refl
turned true false false false = refl
turned false true b u = refl
turned false false true u = refl
turned false false false true = refl
turned false false false false = refl

continues : (bs : List ℕ) → list_all is_word_byte bs ≡ true → list_all continues_name bs ≡ true
continues [] h = refl
continues (b ∷ bs) h =
    let both = and_parts (is_word_byte b) (list_all is_word_byte bs) h in
    and_from (continues_name b) (list_all continues_name bs) (turned (is_in_range 48 57 b) (is_in_range 65 90 b) (is_in_range 97 122 b) (b == 95) ∙ both.0) (continues bs both.1)

word_is_name : (n : List ℕ) → is_word n ≡ true → is_name n ≡ true
unfolding is_name
word_is_name [] h = absurd cc
word_is_name (b ∷ bs) h =
    let both = and_parts (is_letter b) (list_all is_word_byte bs) h in
    and_from (is_letter b) (list_all continues_name bs) both.0 (continues bs both.1)

pub names_are : (p : ProgramT) (fs : List TFunctionT) → AreFunctions (scene p) fs → AllByRecursion (λ f. is_name f.name ≡ true) fs
names_are p [] h = tt
names_are p (f ∷ fs) h = (word_is_name f.name h.0.word, names_are p fs h.1)
