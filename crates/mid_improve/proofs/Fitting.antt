-- What operators make of words is below 2 ^ 32.
use Rattle.std.proofs.Common.{◌≡◌, neg_ℤ, ℕ, zero, suc, ◌+◌, ◌-◌, ◌*◌, ◌/◌, ◌%◌, ◌^◌, ◌<◌, ◌≤◌, Bool, true, false, ltb, not, Some, None, refl, subst, arith}
use Rattle.std.specs.Prelude.{◌==◌, if◌then◌else◌, nat_lt, ℤ, pos, negsuc, int_div, int_rem, bit_and, bit_or, bit_xor}
use Rattle.std.specs.Int.Bits.{and_lt}
use Rattle.std.proofs.lemmas.Nat.{or_lt, xor_lt, mod_below}
use Rattle.std.proofs.Math.Nat.{div-le_self}
use lib.Signed.{mag, mag_rem}
use Rattle.kit_base.specs.Word.{signed, word, add, sub, mul, quotient, remainder, shifted, shifted_by, below, bool_word, smaller, larger, negated, magnitude}
use Rattle.v32_isa.specs.declared.instruction.One.{One}
use Rattle.v32_isa.specs.declared.instruction.One.TheVariants.{PUSH, POP, CMPS, CIB, NOT, BNOT, ISGN, IABS}
use Rattle.v32_isa.specs.declared.instruction.Two.{Two}
use Rattle.v32_isa.specs.declared.instruction.Two.TheVariants.{IEQ, INE, IGT, IGE, ILT, ILE, AND, OR, XOR, SHL, IADD, ISUB, IMUL, IDIV, IMOD, IMIN, IMAX}
use Rattle.v32_isa.specs.Arithmetic.{one_of, two_of}
use Rattle.mid_improve.proofs.Settling.{Fits}

abbrev IsWord : ℕ → Type 0
IsWord n = n < 2 ^ 32

bool_fits : (b : Bool) → IsWord (bool_word b)
bool_fits true = omega arith
bool_fits false = omega arith

wraps : (n : ℕ) → IsWord (n % 2 ^ 32)
wraps n = mod_below n (2 ^ 32) (omega arith)

either_fits : (b : Bool) (x y : ℕ) → IsWord x → IsWord y → IsWord (if b then x else y)
either_fits true x y a c = a
either_fits false x y a c = c

-- ---- signed words

word_fits : (z : ℤ) → mag z < 2 ^ 32 → IsWord (word z)
word_fits (pos n) h = h
word_fits (negsuc n) h = omega arith

signed_small : (x : ℕ) → IsWord x → mag (signed x) ≤ 2 ^ 31
signed_small x h = go (ltb x (2 ^ 31)) refl
  where
    go : (b : Bool) → ltb x (2 ^ 31) ≡ b → mag (signed x) ≤ 2 ^ 31
    go true e = grind (arith, e, h)
    go false e = grind (arith, e, h)

quotient_fits : (x y : ℕ) → IsWord x → IsWord (quotient x y)
unfolding quotient
quotient_fits x y h = word_fits (int_div (signed x) (signed y)) (omega (arith, small (signed x) (signed y), signed_small x h))
  where
    turned : (r : ℕ) → mag (neg_ℤ (pos r)) ≤ r
    turned zero = omega arith
    turned (suc r) = omega arith

    small : (a d : ℤ) → mag (int_div a d) ≤ suc (mag a)
    small (pos a) (pos b) = let h = div-le_self a b in omega (arith, h)
    small (pos a) (negsuc b) = let h = div-le_self a (suc b) in let t = turned (a / suc b) in omega (arith, h, t)
    small (negsuc a) (pos b) = let h = div-le_self (suc a) b in let t = turned (suc a / b) in omega (arith, h, t)
    small (negsuc a) (negsuc b) = div-le_self (suc a) (suc b)

remainder_fits : (x y : ℕ) → IsWord x → IsWord (remainder x y)
unfolding remainder
remainder_fits x y h = word_fits (int_rem (signed x) (signed y)) (omega (arith, mag_rem (signed x) (signed y), signed_small x h))

shifted_fits : (x y : ℕ) → IsWord x → IsWord (shifted x y)
unfolding shifted
shifted_fits x y h = go (signed y)
  where
    go : (z : ℤ) → IsWord (shifted_by x z)
    go (pos k) = either_fits (nat_lt k 32) ((x * 2 ^ k) % 2 ^ 32) 0 (wraps (x * 2 ^ k)) (omega arith)
    go (negsuc k) = either_fits (nat_lt k 31) (x / 2 ^ suc k) 0 (let l = div-le_self x (2 ^ suc k) in omega (arith, l, h)) (omega arith)

-- ---- operators

some_fits : (v w : ℕ) → Some v ≡ Some w → IsWord v → IsWord w
some_fits v w e h = let same : v ≡ w = cc in subst IsWord same h

divided_fits : (b : Bool) (v w : ℕ) → (if b then None else Some v) ≡ Some w → IsWord v → IsWord w
divided_fits true v w e h = absurd cc
divided_fits false v w e h = some_fits v w e h

one_fits : (o : One) (x w : ℕ) → IsWord x → one_of o x ≡ Some w → IsWord w
one_fits PUSH x w h e = absurd cc
one_fits POP x w h e = absurd cc
one_fits CMPS x w h e = absurd cc
one_fits CIB x w h e = some_fits (bool_word (not (x == 0))) w e (bool_fits (not (x == 0)))
one_fits NOT x w h e = some_fits (2 ^ 32 - 1 - x) w e (omega arith)
one_fits BNOT x w h e = some_fits (bool_word (x == 0)) w e (bool_fits (x == 0))
one_fits ISGN x w h e = some_fits (negated x) w e (wraps (0 + (2 ^ 32 - x)))
one_fits IABS x w h e = some_fits (magnitude x) w e (either_fits (below x 0) (negated x) x (wraps (0 + (2 ^ 32 - x))) h)

two_fits : (o : Two) (x y w : ℕ) → IsWord x → IsWord y → two_of o x y ≡ Some w → IsWord w
two_fits IEQ x y w a b e = some_fits (bool_word (x == y)) w e (bool_fits (x == y))
two_fits INE x y w a b e = some_fits (bool_word (not (x == y))) w e (bool_fits (not (x == y)))
two_fits IGT x y w a b e = some_fits (bool_word (below y x)) w e (bool_fits (below y x))
two_fits IGE x y w a b e = some_fits (bool_word (not (below x y))) w e (bool_fits (not (below x y)))
two_fits ILT x y w a b e = some_fits (bool_word (below x y)) w e (bool_fits (below x y))
two_fits ILE x y w a b e = some_fits (bool_word (not (below y x))) w e (bool_fits (not (below y x)))
two_fits AND x y w a b e = some_fits (bit_and x y) w e (and_lt 32 x y a b)
two_fits OR x y w a b e = some_fits (bit_or x y) w e (or_lt 32 x y a b)
two_fits XOR x y w a b e = some_fits (bit_xor x y) w e (xor_lt 32 x y a b)
two_fits SHL x y w a b e = some_fits (shifted x y) w e (shifted_fits x y a)
two_fits IADD x y w a b e = some_fits (add x y) w e (wraps (x + y))
two_fits ISUB x y w a b e = some_fits (sub x y) w e (wraps (x + (2 ^ 32 - y)))
two_fits IMUL x y w a b e = some_fits (mul x y) w e (wraps (x * y))
two_fits IDIV x y w a b e = divided_fits (y == 0) (quotient x y) w e (quotient_fits x y a)
two_fits IMOD x y w a b e = divided_fits (y == 0) (remainder x y) w e (remainder_fits x y a)
two_fits IMIN x y w a b e = some_fits (smaller x y) w e (either_fits (below x y) x y a b)
two_fits IMAX x y w a b e = some_fits (larger x y) w e (either_fits (below x y) y x b a)

pub fits : Fits
fits = record { one = one_fits; two = two_fits }
