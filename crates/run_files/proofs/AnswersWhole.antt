-- A list of answers that is read is what its lines write, and what its lines write is read.
use Rattle.std.proofs.Common.{◌≡◌, inl, inr, ℕ, ◌+◌, ◌≤◌, ◌<◌, ◌^◌, Bool, true, false, List, [], ◌∷◌, ◌++◌, length, take, drop, refl, sym, ap, subst, ◌∙◌, append_assoc, append-nil, arith}
use Rattle.std.specs.Prelude.{Option, Some, None, Result, Ok, Err, Vec, IfOk, ◌||◌, ◌==◌, not, nat_lt, nat_eq, codes, if◌then◌else◌}
use Rattle.std.specs.List.{list_all, AllByRecursion, AllZip, starts_with}
use Rattle.std.specs.Cmp.Lexicographic.{same_text}
use Rattle.std.proofs.lemmas.List.{take-append-drop}
use Rattle.line_text.specs.Lines.{lines_of}
use Rattle.kit_base.specs.Digits.{value_in}
use Rattle.line_text.specs.Numbers.{is_digit, is_hexadecimal_digit, begins_zero, below_limit, decimal_word, hexadecimal_word}
use Rattle.line_text.specs.Reading.{Reading, read_from, after}
use Rattle.run_files.specs.declared.answers.AnswerErr.{AnswerErr}
use Rattle.run_files.specs.declared.answers.AnswerErr.TheVariants as errors
use Rattle.std.specs.declared.alloc.Global.{Global}
use Rattle.run_files.specs.Answers.{answer_of, answer_step, with_answer, ReadAs}
use Rattle.run_files.specs.AnswersFile.{IsDecimal, IsHexadecimal, IsAnswerLine, IsAnswersFile, IsFirstFaulty}
use Rattle.run_files.proofs.Codes.{faulty_code}

-- ---- a line

-- what a test and a limit let through
let_through : (bad : Bool) (value word : ℕ) → (if bad then None else below_limit value) ≡ Some word → (bad ≡ false) × (value ≡ word) × (word < 2 ^ 32)
let_through true value word e = absurd cc
let_through false value word e = elim (nat_lt value (2 ^ 32)) as (λ b. nat_lt value (2 ^ 32) ≡ b → (if b then Some value else None) ≡ Some word → (false ≡ false) × (value ≡ word) × (word < 2 ^ 32)) [
  | true ↦ λ t f. let same : value ≡ word = cc in let below : value < 2 ^ 32 = grind (arith, t) in (refl, same, subst (λ (n : ℕ). n < 2 ^ 32) same below)
  | false ↦ λ t f. absurd cc
] refl e

lets_through : (bad : Bool) (value word : ℕ) → bad ≡ false → value ≡ word → word < 2 ^ 32 → (if bad then None else below_limit value) ≡ Some word
lets_through true value word e same fits = absurd cc
lets_through false value word e same fits = let below : nat_lt value (2 ^ 32) ≡ true = grind (arith, same, fits) in rw below (ap Some same)

not_true : (b : Bool) → not b ≡ false → b ≡ true
not_true true e = refl
not_true false e = absurd cc

either_left : (a b : Bool) → (a || b) ≡ false → a ≡ false
either_left true b e = absurd cc
either_left false b e = refl

either_right : (a b : Bool) → (a || b) ≡ false → b ≡ false
either_right true b e = absurd cc
either_right false b e = e

is_some : (text : List ℕ) → (length text == 0) ≡ false → 1 ≤ length text
is_some text e = grind (arith, e)

no_zero : (line : List ℕ) → begins_zero line ≡ false → (rest : List ℕ) → line ≡ 48 ∷ rest → rest ≡ []
no_zero line e [] is = refl
no_zero line e (b ∷ rest) is = let computed : begins_zero (48 ∷ b ∷ rest) ≡ false = subst (λ (l : List ℕ). begins_zero l ≡ false) is e in absurd cc

begins_none : (line : List ℕ) → ((rest : List ℕ) → line ≡ 48 ∷ rest → rest ≡ []) → begins_zero line ≡ false
begins_none [] h = refl
begins_none (b ∷ []) h = refl
begins_none (b ∷ c ∷ rest) h = elim (b == 48) as (λ t. (b == 48) ≡ t → t ≡ false) [
  | true ↦ λ t. let same : b ≡ 48 = grind (arith, t) in let none : c ∷ rest ≡ [] = h (c ∷ rest) (ap (λ (n : ℕ). n ∷ c ∷ rest) same) in absurd cc
  | false ↦ λ t. refl
] refl

decimal_is : (line : List ℕ) (word : ℕ) → decimal_word line ≡ Some word → IsDecimal line word
unfolding decimal_word
decimal_is line word e =
    let (fine, value, fits) = let_through ((length line == 0) || (begins_zero line || not (list_all is_digit line))) (value_in 10 line) word e in
    let some : (length line == 0) ≡ false = either_left _ _ fine in
    let rest : (begins_zero line || not (list_all is_digit line)) ≡ false = either_right _ _ fine in
    record {
      some = is_some line some;
      digits = not_true _ (either_right _ _ rest);
      no_needless_zero = no_zero line (either_left _ _ rest);
      value = value;
      fits = fits;
    }

is_decimal : (line : List ℕ) (word : ℕ) → IsDecimal line word → decimal_word line ≡ Some word
unfolding decimal_word
is_decimal line word h =
    let some : (length line == 0) ≡ false = grind (arith, h.some) in
    let zero_first : begins_zero line ≡ false = begins_none line h.no_needless_zero in
    let digits : list_all is_digit line ≡ true = h.digits in
    lets_through ((length line == 0) || (begins_zero line || not (list_all is_digit line))) (value_in 10 line) word (rw (some, zero_first, digits) refl) h.value h.fits

hexadecimal_is : (line text : List ℕ) (word : ℕ) → line ≡ codes "0x" ++ text → hexadecimal_word text ≡ Some word → IsHexadecimal line word
unfolding hexadecimal_word
hexadecimal_is line text word spelled e =
    let (fine, value, fits) = let_through ((length text == 0) || not (list_all is_hexadecimal_digit text)) (value_in 16 text) word e in
    let some : (length text == 0) ≡ false = either_left _ _ fine in
    record { text = text; spelled = spelled; some = is_some text some; digits = not_true _ (either_right _ _ fine); value = value; fits = fits }

is_hexadecimal : (line : List ℕ) (word : ℕ) → (h : IsHexadecimal line word) → hexadecimal_word h.text ≡ Some word
unfolding hexadecimal_word
is_hexadecimal line word h =
    let some : (length h.text == 0) ≡ false = grind (arith, h.some) in
    let digits : list_all is_hexadecimal_digit h.text ≡ true = h.digits in
    lets_through ((length h.text == 0) || not (list_all is_hexadecimal_digit h.text)) (value_in 16 h.text) word (rw (some, digits) refl) h.value h.fits

starts : (line : List ℕ) → starts_with nat_eq line (codes "0x") ≡ true → line ≡ codes "0x" ++ drop 2 line
starts line e =
    let front : codes "0x" ≡ take 2 line = same_text (codes "0x") (take 2 line) (sym e) in
    sym (ap (λ (xs : List ℕ). xs ++ drop 2 line) front ∙ take-append-drop 2 line)

x_is_no_digit : (line text : List ℕ) → line ≡ codes "0x" ++ text → list_all is_digit line ≡ true → ⊥
x_is_no_digit line text spelled digits =
    let computed : list_all is_digit (codes "0x" ++ text) ≡ true = subst (λ (l : List ℕ). list_all is_digit l ≡ true) spelled digits in cc

starts_spelled : (text : List ℕ) → starts_with nat_eq (codes "0x" ++ text) (codes "0x") ≡ true
starts_spelled text = refl

pub line_is : (line : List ℕ) (word : ℕ) → answer_of line ≡ Some word → IsAnswerLine line word
unfolding answer_of
line_is line word e = elim (starts_with nat_eq line (codes "0x")) as (λ b. starts_with nat_eq line (codes "0x") ≡ b
    → (if b then hexadecimal_word (drop 2 line) else decimal_word line) ≡ Some word → IsAnswerLine line word) [
      | true ↦ λ t f. inr (hexadecimal_is line (drop 2 line) word (starts line t) f)
      | false ↦ λ t f. inl (decimal_is line word f)
    ] refl e

chosen_false : (b : Bool) (o p : Option ℕ) → (b ≡ true → ⊥) → (if b then o else p) ≡ p
chosen_false true o p h = absurd (h refl)
chosen_false false o p h = refl

pub is_line : (line : List ℕ) (word : ℕ) → IsAnswerLine line word → answer_of line ≡ Some word
unfolding answer_of
is_line line word (inl h) =
    chosen_false (starts_with nat_eq line (codes "0x")) (hexadecimal_word (drop 2 line)) (decimal_word line) (λ t. x_is_no_digit line (drop 2 line) (starts line t) h.digits)
    ∙ is_decimal line word h
is_line line word (inr h) =
    ap (λ (l : List ℕ). if starts_with nat_eq l (codes "0x") then hexadecimal_word (drop 2 l) else decimal_word l) h.spelled ∙ is_hexadecimal line word h

-- ---- the lines

abbrev go : ℕ → List ℕ → List (List ℕ) → Reading (List ℕ)
go n words lines = read_from answer_step n words lines

abbrev Told : List (List ℕ) → (words all : List ℕ) → Type 0
Told lines words all = (more : List ℕ) × (all ≡ words ++ more) × AllZip IsAnswerLine lines more

told_step : (line : List ℕ) (lines : List (List ℕ)) (n : ℕ) (words all : List ℕ) (o : Option ℕ) → answer_of line ≡ o
    → ((next : List ℕ) → go (n + 1) next lines ≡ Ok all → Told lines next all)
    → after n (with_answer words o) (λ next. go (n + 1) next lines) ≡ Ok all → Told (line ∷ lines) words all
told_step line lines n words all None is rest e = absurd cc
told_step line lines n words all (Some word) is rest e =
    let (more, whole, zipped) = rest (words ++ word ∷ []) e in
    (word ∷ more, whole ∙ append_assoc words (word ∷ []) more, (line_is line word is, zipped))

told : (lines : List (List ℕ)) (n : ℕ) (words all : List ℕ) → go n words lines ≡ Ok all → Told lines words all
unfolding read_from
told [] n words all e = let same : words ≡ all = cc in ([], sym same ∙ sym (append-nil words), tt)
told (line ∷ lines) n words all e = told_step line lines n words all (answer_of line) refl (λ next. told lines (n + 1) next all) e

back : (lines : List (List ℕ)) (n : ℕ) (words more : List ℕ) → AllZip IsAnswerLine lines more → go n words lines ≡ Ok (words ++ more)
unfolding read_from
back [] n words [] zipped = ap Ok (sym (append-nil words))
back [] n words (word ∷ more) zipped = absurd zipped
back (line ∷ lines) n words [] zipped = absurd zipped
back (line ∷ lines) n words (word ∷ more) zipped =
    let said : answer_of line ≡ Some word = is_line line word zipped.0 in
    rw said (back lines (n + 1) (words ++ word ∷ []) more zipped.1 ∙ ap Ok (append_assoc words (word ∷ []) more))

pub found : (bytes words : List ℕ) → go 1 [] (lines_of bytes) ≡ Ok words → IsAnswersFile bytes words
found bytes words e = let (more, whole, zipped) = told (lines_of bytes) 1 [] words e in subst (AllZip IsAnswerLine (lines_of bytes)) (sym whole) zipped

pub only : (bytes words : List ℕ) → IsAnswersFile bytes words → go 1 [] (lines_of bytes) ≡ Ok words
only bytes words is = back (lines_of bytes) 1 [] words is

-- ---- the first faulty line

record Faulty (lines : List (List ℕ)) (n number : ℕ) : Type 0 where
  before : List (List ℕ)
  faulty : List ℕ
  others : List (List ℕ)
  whole : lines ≡ before ++ faulty ∷ others
  number_is : number ≡ n + length before
  fine : AllByRecursion (λ line. (word : ℕ) × IsAnswerLine line word) before
  none : (word : ℕ) → ¬ IsAnswerLine faulty word

faulty_step : (line : List ℕ) (lines : List (List ℕ)) (n code number : ℕ) (words : List ℕ) (o : Option ℕ) → answer_of line ≡ o
    → ((next : List ℕ) → go (n + 1) next lines ≡ Err (code, number) → Faulty lines (n + 1) number)
    → after n (with_answer words o) (λ next. go (n + 1) next lines) ≡ Err (code, number) → Faulty (line ∷ lines) n number
faulty_step line lines n code number words None is rest e = record {
  before = [];
  faulty = line;
  others = lines;
  whole = refl;
  number_is = (let same : (111, n) ≡ (code, number) = cc in let at : n ≡ number = ap (λ (p : ℕ × ℕ). p.1) same in omega arith);
  fine = tt;
  none = λ word h. (let said : answer_of line ≡ Some word = is_line line word h in cc);
}
faulty_step line lines n code number words (Some word) is rest e =
    let h = rest (words ++ word ∷ []) e in
    record {
      before = line ∷ h.before;
      faulty = h.faulty;
      others = h.others;
      whole = ap (λ (ls : List (List ℕ)). line ∷ ls) h.whole;
      number_is = (let at : number ≡ n + 1 + length h.before = h.number_is in omega arith);
      fine = ((word, line_is line word is), h.fine);
      none = h.none;
    }

faulty_in : (lines : List (List ℕ)) (n code number : ℕ) (words : List ℕ) → go n words lines ≡ Err (code, number) → Faulty lines n number
unfolding read_from
faulty_in [] n code number words e = absurd cc
faulty_in (line ∷ lines) n code number words e = faulty_step line lines n code number words (answer_of line) refl (λ next. faulty_in lines (n + 1) code number next) e

pub first_faulty : (bytes : List ℕ) (code number : ℕ) → go 1 [] (lines_of bytes) ≡ Err (code, number) → (code ≡ 111) × IsFirstFaulty bytes number
first_faulty bytes code number e =
    let h = faulty_in (lines_of bytes) 1 code number [] e in (
      faulty_code [] 1 code number (lines_of bytes) e,
      record {
        before = h.before;
        faulty = h.faulty;
        others = h.others;
        lines = h.whole;
        number_is = (let at : number ≡ 1 + length h.before = h.number_is in omega arith);
        fine = h.fine;
        none = h.none;
      },
    )

-- what a line that writes no word gives
no_answer : (line : List ℕ) (o : Option ℕ) → answer_of line ≡ o → ((word : ℕ) → ¬ IsAnswerLine line word) → answer_of line ≡ None
no_answer line None is none = is
no_answer line (Some word) is none = absurd (none word (line_is line word is))

stops : (before : List (List ℕ)) (faulty : List ℕ) (others : List (List ℕ)) (n : ℕ) (words : List ℕ) → AllByRecursion (λ line. (word : ℕ) × IsAnswerLine line word) before
    → ((word : ℕ) → ¬ IsAnswerLine faulty word) → go n words (before ++ faulty ∷ others) ≡ Err (111, n + length before)
unfolding read_from
stops [] faulty others n words fine none =
    let said : answer_of faulty ≡ None = no_answer faulty (answer_of faulty) refl none in
    let at : n ≡ n + 0 = omega arith in
    rw said (ap (λ (k : ℕ). Err (111, k)) at)
stops (line ∷ before) faulty others n words fine none =
    let said : answer_of line ≡ Some fine.0.0 = is_line line fine.0.0 fine.0.1 in
    let at : n + 1 + length before ≡ n + length (line ∷ before) = omega arith in
    rw said (stops before faulty others (n + 1) (words ++ fine.0.0 ∷ []) fine.1 none ∙ ap (λ (k : ℕ). Err (111, k)) at)

pub is_refused : (bytes : List ℕ) (code number : ℕ) → (code ≡ 111) × IsFirstFaulty bytes number → go 1 [] (lines_of bytes) ≡ Err (code, number)
is_refused bytes code number (is_code, h) =
    let at : 1 + length h.before ≡ number = (let is : number ≡ length h.before + 1 = h.number_is in omega arith) in
    ap (λ (ls : List (List ℕ)). go 1 [] ls) h.lines ∙ stops h.before h.faulty h.others 1 [] h.fine h.none ∙ ap (λ (k : ℕ). Err (111, k)) at ∙ ap (λ (c : ℕ). Err (c, number)) (sym is_code)

-- ---- of the reader's answer

pub is_found : (bytes : List ℕ) (r : Result (Vec ℕ Global) AnswerErr) → ReadAs r (go 1 [] (lines_of bytes)) → IfOk r (λ v. IsAnswersFile bytes v.items)
is_found bytes (Ok v) given = found bytes v.items given
is_found bytes (Err e) given = tt

pub is_only : (bytes words : List ℕ) (r : Result (Vec ℕ Global) AnswerErr) → ReadAs r (go 1 [] (lines_of bytes)) → IsAnswersFile bytes words → ReadAs r (Ok words)
is_only bytes words r given is = subst (λ reading. ReadAs r reading) (only bytes words is) given

pub is_first : (bytes : List ℕ) (line : ℕ) (r : Result (Vec ℕ Global) AnswerErr) → ReadAs r (go 1 [] (lines_of bytes)) → r ≡ Err (errors.At line) → IsFirstFaulty bytes line
is_first bytes line (Err (errors.At n)) given same =
    let is : n ≡ line = cc in
    (first_faulty bytes 111 line (given ∙ ap (λ k. Err (111, k)) is)).1
is_first bytes line (Err errors.Memory) given same = absurd cc
is_first bytes line (Ok v) given same = absurd cc
