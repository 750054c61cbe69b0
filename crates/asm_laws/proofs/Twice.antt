-- No label of an emitted program stands twice.
use Rattle.std.proofs.Common.{◌≡◌, ◌≢◌, ℕ, ◌+◌, ◌^◌, ◌≤◌, Bool, true, false, cond, List, [], ◌∷◌, ◌++◌, length, Some, None, refl, sym, ap, ◌∙◌, true≢false}
use Rattle.std.specs.Prelude.{bytes_eq, ◌||◌}
use Rattle.std.specs.List.{list_any}
use Rattle.std.proofs.lemmas.Slice.Eq.{bytes_eq-Decides}
use Rattle.asm_items.specs.declared.item.AsmItem.{AsmItem}
use Rattle.asm_items.specs.declared.item.AsmItem.TheVariants as item
use Rattle.assembler.specs.Faults.{twice_from}
use Rattle.mid_code.specs.declared.placed.Where.{Where}
use Rattle.mid_code.specs.Code.{CodeT}
use Rattle.asm_laws.specs.Operations.{Whole}
use Rattle.asm_laws.specs.inner.Emitted.{program_items, labels_of}
use Rattle.asm_laws.proofs.LabelKinds.{Differ}
use Rattle.asm_laws.proofs.Marks.{Names, Distinct, program_marks}

-- ---- no label stands twice

not_equal : (m k : List ℕ) → m ≢ k → bytes_eq k m ≡ false
not_equal m k ne = go (bytes_eq k m) refl
  where
    go : (b : Bool) → bytes_eq k m ≡ b → b ≡ false
    go true e = absurd (ne (sym ((bytes_eq-Decides k m).0 e)))
    go false e = refl

abbrev Among : List (List ℕ) → List ℕ → Type 0
Among before m = list_any (bytes_eq m) before ≡ false

among_more : (before : List (List ℕ)) (m k : List ℕ) → Among before k → m ≢ k → Among (before ++ m ∷ []) k
among_more [] m k h ne = ap (λ b. b || false) (not_equal m k ne)
among_more (b ∷ before) m k h ne = elim (bytes_eq k b) as (λ t. (t || list_any (bytes_eq k) before) ≡ false → (t || list_any (bytes_eq k) (before ++ m ∷ [])) ≡ false) [
  | true ↦ λ e. absurd (true≢false e)
  | false ↦ λ e. among_more before m k e ne
] h

names_pair : (P Q R : List ℕ → Type 0) → ((m : List ℕ) → P m → Q m → R m) → (xs : List AsmItem) → Names P xs → Names Q xs → Names R xs
names_pair P Q R f [] h g = tt
names_pair P Q R f (item.Label m ∷ xs) h g = (f m h.0 g.0, names_pair P Q R f xs h.1 g.1)
names_pair P Q R f (item.Op i ∷ xs) h g = names_pair P Q R f xs h g
names_pair P Q R f (item.Integer w ∷ xs) h g = names_pair P Q R f xs h g
names_pair P Q R f (item.Pointer m ∷ xs) h g = names_pair P Q R f xs h g

twice_none : (xs : List AsmItem) (number : ℕ) (before : List (List ℕ)) → Names (Among before) xs → Distinct xs → twice_from number before xs ≡ None
unfolding twice_from
twice_none [] number before h d = refl
twice_none (item.Label m ∷ xs) number before h d =
    let rest = twice_none xs (number + 1) (before ++ m ∷ []) (names_pair (Among before) (λ k. m ≢ k) (Among (before ++ m ∷ [])) (λ k a ne. among_more before m k a ne) xs h.1 d.0) d.1 in
    ap (λ b. cond b (Some number) (twice_from (number + 1) (before ++ m ∷ []) xs)) h.0 ∙ rest
twice_none (item.Op i ∷ xs) number before h d = twice_none xs (number + 1) before h d
twice_none (item.Integer w ∷ xs) number before h d = twice_none xs (number + 1) before h d
twice_none (item.Pointer m ∷ xs) number before h d = twice_none xs (number + 1) before h d

names_all : (P : List ℕ → Type 0) → ((m : List ℕ) → P m) → (xs : List AsmItem) → Names P xs
names_all P f [] = tt
names_all P f (item.Label m ∷ xs) = (f m, names_all P f xs)
names_all P f (item.Op i ∷ xs) = names_all P f xs
names_all P f (item.Integer w ∷ xs) = names_all P f xs
names_all P f (item.Pointer m ∷ xs) = names_all P f xs

-- the labels of an emitted program differ
pub no_label_twice : (W : Whole) (x : CodeT Where) → Differ W.names → length x.functions ≤ length W.names → labels_of x ≤ 2 ^ 32 → length x.literals ≤ 2 ^ 32 → twice_from 1 [] (program_items W x) ≡ None
no_label_twice W x differ named few fewer = twice_none (program_items W x) 1 [] (names_all (Among []) (λ m. refl) (program_items W x)) (program_marks W differ x named few fewer).distinct
