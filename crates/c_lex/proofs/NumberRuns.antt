-- How far a number goes, in a front of a text and by itself.
use Rattle.std.proofs.Common.{◌≡◌, ℕ, zero, suc, ◌<◌, ◌≤◌, ◌+◌, Bool, true, false, eqb, ◌&&◌, List, [], ◌∷◌, ◌++◌, length, take, drop, refl, sym, ap, ◌∙◌, arith}
use Rattle.std.specs.List.{prefix_len}
use Rattle.std.specs.Char.{is_ascii_digit, is_ascii_hexdigit}
use Rattle.std.proofs.lemmas.List.{length-take, length-drop}
use Rattle.std.proofs.lemmas.List.Folds.{length-prefix_len}
use Rattle.std.proofs.lemmas.List.Sums.{prefix_len-le-length}
use Rattle.c_lex.specs.Bytes.{begins}
use Rattle.c_lex.specs.Numbers.{begins_hex, number_len}
use Rattle.c_lex.proofs.Runs.{front_run, own_run, run_some, begins_take}

and_false : (b : Bool) → (b && false) ≡ false
and_false true = refl
and_false false = refl

-- two bytes are no hexadecimal number
short_hex : (a : List ℕ) → length a ≤ 2 → begins_hex a ≡ false
short_hex [] short = refl
short_hex (z ∷ []) short = refl
short_hex (z ∷ x ∷ []) short = rw (and_false (eqb x 120), and_false (eqb z 48)) refl
short_hex (z ∷ x ∷ h ∷ bs) short = absurd (omega arith)

decimal_run : (a : List ℕ) → begins_hex a ≡ false → number_len a ≡ prefix_len is_ascii_digit a
unfolding number_len
decimal_run a e = rw e (length-prefix_len is_ascii_digit a)

hex_run : (a : List ℕ) → begins_hex a ≡ true → number_len a ≡ 2 + prefix_len is_ascii_hexdigit (drop 2 a)
unfolding number_len
hex_run a e = rw e (ap (λ (n : ℕ). 2 + n) (length-prefix_len is_ascii_hexdigit (drop 2 a)))

at_most : (a : List ℕ) → prefix_len is_ascii_digit a ≤ length a
at_most a = prefix_len-le-length is_ascii_digit a

short_front : (a r : List ℕ) → length a ≤ 2 → (b : Bool) → begins_hex (a ++ r) ≡ b → number_len a ≤ number_len (a ++ r)
short_front a r short true e = let one = decimal_run a (short_hex a short) in let two = hex_run (a ++ r) e in omega (arith, at_most a)
short_front a r short false e = let one = decimal_run a (short_hex a short) in let two = decimal_run (a ++ r) e in omega (arith, front_run is_ascii_digit a r)

-- a number of a front goes no further
pub number_front : (a r : List ℕ) → number_len a ≤ number_len (a ++ r)
number_front [] r = short_front [] r (omega arith) (begins_hex r) refl
number_front (z ∷ []) r = short_front (z ∷ []) r (omega arith) (begins_hex (z ∷ r)) refl
number_front (z ∷ x ∷ []) r = short_front (z ∷ x ∷ []) r (omega arith) (begins_hex (z ∷ x ∷ r)) refl
number_front (z ∷ x ∷ h ∷ bs) r = by (begins_hex (z ∷ x ∷ h ∷ bs)) refl
  where
    by : (b : Bool) → begins_hex (z ∷ x ∷ h ∷ bs) ≡ b → number_len (z ∷ x ∷ h ∷ bs) ≤ number_len (z ∷ x ∷ h ∷ (bs ++ r))
    by true e = let one = hex_run (z ∷ x ∷ h ∷ bs) e in let two = hex_run (z ∷ x ∷ h ∷ (bs ++ r)) e in omega (arith, front_run is_ascii_hexdigit (h ∷ bs) r)
    by false e = let one = decimal_run (z ∷ x ∷ h ∷ bs) e in let two = decimal_run (z ∷ x ∷ h ∷ (bs ++ r)) e in omega (arith, front_run is_ascii_digit (z ∷ x ∷ h ∷ bs) r)

-- fewer than three bytes of a text are decimal, and three and more begin as the text does
front_hex : (n : ℕ) (a : List ℕ) → begins_hex a ≡ false → begins_hex (take n a) ≡ false
front_hex zero a e = refl
front_hex (suc zero) [] e = refl
front_hex (suc zero) (z ∷ a) e = refl
front_hex (suc (suc zero)) a e = short_hex (take 2 a) (omega (arith, length-take 2 a))
front_hex (suc (suc (suc n))) [] e = refl
front_hex (suc (suc (suc n))) (z ∷ []) e = refl
front_hex (suc (suc (suc n))) (z ∷ x ∷ []) e = e
front_hex (suc (suc (suc n))) (z ∷ x ∷ h ∷ bs) e = e

and_parts : (b c : Bool) → (b && c) ≡ true → c ≡ true
and_parts true c e = e
and_parts false c e = absurd cc

own_hex : (a : List ℕ) → begins_hex a ≡ true → number_len (take (number_len a) a) ≡ number_len a
own_hex [] e = absurd cc
own_hex (z ∷ []) e = absurd cc
own_hex (z ∷ x ∷ bs) e =
    let n = prefix_len is_ascii_hexdigit bs in
    let digit : begins is_ascii_hexdigit bs ≡ true = and_parts (eqb x 120) _ (and_parts (eqb z 48) _ e) in
    let some = run_some is_ascii_hexdigit bs digit in
    let whole : number_len (z ∷ x ∷ bs) ≡ suc (suc n) = hex_run (z ∷ x ∷ bs) e ∙ omega arith in
    let front : begins is_ascii_hexdigit (take n bs) ≡ begins is_ascii_hexdigit bs = begins_take is_ascii_hexdigit n bs some in
    let e' : begins_hex (z ∷ x ∷ take n bs) ≡ true = ap (λ (b : Bool). eqb z 48 && (eqb x 120 && b)) front ∙ e in
    ap (λ (m : ℕ). number_len (take m (z ∷ x ∷ bs))) whole ∙ hex_run (z ∷ x ∷ take n bs) e' ∙ ap (λ (m : ℕ). 2 + m) (own_run is_ascii_hexdigit bs) ∙ sym (hex_run (z ∷ x ∷ bs) e)

-- a number is one by itself
pub number_own : (a : List ℕ) → number_len (take (number_len a) a) ≡ number_len a
number_own a = by (begins_hex a) refl
  where
    by : (b : Bool) → begins_hex a ≡ b → number_len (take (number_len a) a) ≡ number_len a
    by true e = own_hex a e
    by false e =
        let n = prefix_len is_ascii_digit a in
        let whole : number_len a ≡ n = decimal_run a e in
        ap (λ (m : ℕ). number_len (take m a)) whole ∙ decimal_run (take n a) (front_hex n a e) ∙ own_run is_ascii_digit a ∙ sym whole

pub number_some : (a : List ℕ) → begins is_ascii_digit a ≡ true → 0 < number_len a
number_some a digit = by (begins_hex a) refl
  where
    by : (b : Bool) → begins_hex a ≡ b → 0 < number_len a
    by true e = let one = hex_run a e in omega arith
    by false e = let one = decimal_run a e in let some = run_some is_ascii_digit a digit in omega arith

hex_long : (a : List ℕ) → begins_hex a ≡ true → 2 ≤ length a
hex_long [] e = absurd cc
hex_long (z ∷ []) e = absurd cc
hex_long (z ∷ x ∷ bs) e = omega arith

pub number_within : (a : List ℕ) → number_len a ≤ length a
number_within a = by (begins_hex a) refl
  where
    by : (b : Bool) → begins_hex a ≡ b → number_len a ≤ length a
    by true e = let one = hex_run a e in omega (arith, hex_long a e, prefix_len-le-length is_ascii_hexdigit (drop 2 a), length-drop 2 a)
    by false e = let one = decimal_run a e in omega (arith, at_most a)
