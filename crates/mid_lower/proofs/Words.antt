-- Words that are stepped by.
use Rattle.std.proofs.Common.{◌≡◌, ℕ, zero, suc, ◌+◌, ◌*◌, ◌-◌, ◌%◌, ◌^◌, ◌<◌, Bool, true, false, not, ◌==◌, Option, Some, None, Ok, Err, refl, sym, ap, ◌∙◌, arith, if◌then◌else◌}
use Rattle.std.proofs.Math.Nat.{add-mod-mod}
use Rattle.std.proofs.lemmas.Nat.{mod-mul-add, mod_below}
use Rattle.kit_base.specs.Word.{mul, negated, quotient, remainder, bool_word}
use Rattle.c_tree.specs.declared.operator.BinOp.{BinOp}
use Rattle.c_tree.specs.declared.operator.BinOp.TheVariants as bin
use Rattle.v32_isa.specs.declared.instruction.Two.{Two}
use Rattle.v32_isa.specs.declared.instruction.Two.TheVariants.{IDIV, IMOD}
use Rattle.v32_isa.specs.Arithmetic.{two_of}
use Rattle.obj_mem.specs.declared.cell.Cell.{Cell}
use Rattle.obj_mem.specs.declared.cell.Cell.TheVariants.{Unwritten, Num, Ptr, Null}
use Rattle.obj_mem.specs.declared.refusal.Refusal.TheVariants.{Faults}
use Rattle.obj_mem.specs.Queries.{then_ask, step, word_or_fault}
use Rattle.c_meaning.specs.Operators.{word_binary, cell_binary}
use Rattle.mid_code.specs.States.{two_words}

-- a step by one element
pub step_once : (p : Cell) (size : ℕ) → step p (mul 1 size) ≡ step p size
step_once Unwritten size = refl
step_once (Num x) size = refl
step_once Null size = refl
step_once (Ptr o i) size = ap (λ k. Ok (Ptr o k)) (add-mod-mod i (1 * size) (2 ^ 32) ∙ ap (λ k. (i + k) % 2 ^ 32) one)
  where
    one : 1 * size ≡ size
    one = omega arith

-- a step by elements of one word
pub step_words : (p : Cell) (x : ℕ) → step p (mul x 1) ≡ step p x
step_words Unwritten x = refl
step_words (Num y) x = refl
step_words Null x = refl
step_words (Ptr o i) x = ap (λ k. Ok (Ptr o k)) (add-mod-mod i (x * 1) (2 ^ 32) ∙ ap (λ k. (i + k) % 2 ^ 32) one)
  where
    one : x * 1 ≡ x
    one = omega arith

-- back by one element
pub negated_once : (size : ℕ) → size < 2 ^ 32 → mul (negated 1) size ≡ negated size
negated_once zero lt = refl
negated_once (suc k) lt =
    ap (λ n. n % 2 ^ 32) many ∙ mod-mul-add k (2 ^ 32) (2 ^ 32 - suc k) (omega (arith, lt)) ∙ sym (mod-mul-add 0 (2 ^ 32) (2 ^ 32 - suc k) (omega (arith, lt)))
  where
    many : 4294967295 * suc k ≡ k * 2 ^ 32 + (2 ^ 32 - suc k)
    many = omega (arith, lt)

pub in_words : (n : ℕ) → n % 2 ^ 32 < 2 ^ 32
in_words n = mod_below n (2 ^ 32) (omega arith)

-- an operator on two cells, and the instruction on the same words
pub same_words : (o : BinOp) (i : Two) → ((x y : ℕ) → word_or_fault (two_of i x y) ≡ then_ask (word_binary o x y) (λ z. Ok (Num z))) → (c d : Cell) → two_words i c d ≡ cell_binary o c d
same_words o i e Unwritten d = refl
same_words o i e (Ptr p k) d = refl
same_words o i e Null d = refl
same_words o i e (Num x) Unwritten = refl
same_words o i e (Num x) (Ptr p k) = refl
same_words o i e (Num x) Null = refl
same_words o i e (Num x) (Num y) = e x y

abbrev none : Option ℕ
none = None

divides : (b : Bool) (q : ℕ) → word_or_fault (if b then none else Some q) ≡ then_ask (if b then Err (Faults 6) else Ok q) (λ z. Ok (Num z))
divides true q = refl
divides false q = refl

pub div_words : (c d : Cell) → two_words IDIV c d ≡ cell_binary bin.Div c d
div_words = same_words bin.Div IDIV (λ x y. divides (y == 0) (quotient x y))

pub mod_words : (c d : Cell) → two_words IMOD c d ≡ cell_binary bin.Mod c d
mod_words = same_words bin.Mod IMOD (λ x y. divides (y == 0) (remainder x y))

pub is_word : (b : Bool) → not (bool_word b == 0) ≡ b
is_word true = refl
is_word false = refl
