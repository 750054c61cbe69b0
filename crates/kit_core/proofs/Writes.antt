-- What written files hold.
use Rattle.std.proofs.Common.{ℕ, ◌≡◌, Bool, true, false, not, cond, List, [], ◌∷◌, ◌++◌, refl, sym, ap, ◌∙◌}
use Rattle.std.specs.Prelude.{Option, Some, IsSomeAnd, unwrap_or}
use Rattle.std.specs.Cmp.{eq_by_cmp_equiv}
use Rattle.std.specs.Str.{bytes_eq}
use Rattle.std.proofs.lemmas.Cmp.{nat_list_cmp_total}
use Rattle.std.proofs.lemmas.Map.Text.{is_eq-slice_cmp}
use Rattle.std.specs.FinMap.{get, insert, get-insert}
use Rattle.kit_base.specs.Held.{Held, emptied, appended, bytes_of}
use Rattle.kit_base.specs.Effects.{Effect, Creates, Appends, all_done}

get_same : (m : Held) (name bytes : List ℕ) → get (insert m name bytes) name ≡ Some bytes
get_same m name bytes =
    get-insert nat_list_cmp_total m name bytes name ∙ ap (λ b. cond b (Some bytes) (get m name)) ((eq_by_cmp_equiv nat_list_cmp_total).refl name)

pub get_other : (m : Held) (name bytes other : List ℕ) → bytes_eq other name ≡ false → get (insert m name bytes) other ≡ get m other
get_other m name bytes other different =
    get-insert nat_list_cmp_total m name bytes other ∙ ap (λ b. cond b (Some bytes) (get m other)) (is_eq-slice_cmp other name ∙ different)

-- a file that was made empty and then added to
pub get_written : (m : Held) (name bytes : List ℕ) → get (appended name bytes (emptied name m)) name ≡ Some bytes
get_written m name bytes =
    get_same (emptied name m) name (bytes_of (emptied name m) name ++ bytes) ∙ ap (λ o. Some (unwrap_or o [] ++ bytes)) (get_same m name [])

-- another file
pub get_unwritten : (m : Held) (name bytes other : List ℕ) → bytes_eq other name ≡ false → get (appended name bytes (emptied name m)) other ≡ get m other
get_unwritten m name bytes other different =
    get_other (emptied name m) name (bytes_of (emptied name m) name ++ bytes) other different ∙ get_other m name [] other different

pub not_true : (b : Bool) → not b ≡ true → b ≡ false
not_true true e = sym e
not_true false e = refl

-- the effects are on other files
abbrev pub Spares : List ℕ → List Effect → Type 0
Spares x [] = Unit {0}
Spares x (Creates n ∷ es) = (bytes_eq x n ≡ false) × Spares x es
Spares x (Appends n piece ∷ es) = (bytes_eq x n ≡ false) × Spares x es

pub spared : (x : List ℕ) (es : List Effect) (m : Held) (v : Option (List ℕ)) → Spares x es → get m x ≡ v → IsSomeAnd (all_done es (Some m)) (λ files. get files x ≡ v)
spared x [] m v h e = e
spared x (Creates n ∷ es) m v h e = spared x es (emptied n m) v h.1 (get_other m n [] x h.0 ∙ e)
spared x (Appends n piece ∷ es) m v h e = spared x es (appended n piece m) v h.1 (get_other m n (bytes_of m n ++ piece) x h.0 ∙ e)

pub spares_both : (x : List ℕ) (es fs : List Effect) → Spares x es → Spares x fs → Spares x (es ++ fs)
spares_both x [] fs h k = k
spares_both x (Creates n ∷ es) fs h k = (h.0, spares_both x es fs h.1 k)
spares_both x (Appends n piece ∷ es) fs h k = (h.0, spares_both x es fs h.1 k)
