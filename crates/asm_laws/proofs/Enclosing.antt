-- The labels of enclosing blocks and loops.
use Rattle.std.proofs.Common.{◌≡◌, ℕ, zero, suc, ◌-◌, ◌<◌, List, [], ◌∷◌, ◌++◌, length, refl, ap, ◌∙◌, arith, length-append}
use Rattle.std.specs.Prelude.{get_or}
use Rattle.asm_laws.specs.inner.Emitted.{enclosing}

get_first : (ls : List ℕ) (n k : ℕ) → k < length ls → get_or (ls ++ n ∷ []) k 0 ≡ get_or ls k 0
get_first [] n k lt = absurd (omega arith)
get_first (l ∷ ls) n zero lt = refl
get_first (l ∷ ls) n (suc k) lt = get_first ls n k (omega arith)

get_last : (ls : List ℕ) (n k : ℕ) → k ≡ length ls → get_or (ls ++ n ∷ []) k 0 ≡ n
get_last [] n zero e = refl
get_last [] n (suc k) e = absurd (omega arith)
get_last (l ∷ ls) n zero e = absurd (omega arith)
get_last (l ∷ ls) n (suc k) e = get_last ls n k (omega arith)

pub innermost : (ls : List ℕ) (n : ℕ) → enclosing (ls ++ n ∷ []) 0 ≡ n
innermost ls n = get_last ls n (length (ls ++ n ∷ []) - 1) (let h = length-append ls (n ∷ []) in omega (arith, h))

pub further : (ls : List ℕ) (n k : ℕ) → suc k < length (ls ++ n ∷ []) → enclosing (ls ++ n ∷ []) (suc k) ≡ enclosing ls k
further ls n k lt =
    let h = length-append ls (n ∷ []) in
    let e : length (ls ++ n ∷ []) - suc (suc k) ≡ length ls - suc k = omega (arith, h) in
    ap (λ i. get_or (ls ++ n ∷ []) i 0) e ∙ get_first ls n (length ls - suc k) (omega (arith, h))
