-- The names that are types, and the table in which they are found.
use Rattle.std.proofs.Common.{◌≡◌, ℕ, Bool, true, false, ◌||◌, cond, List, [], ◌∷◌, ◌++◌, refl, sym, ap, ◌∙◌}
use Rattle.std.specs.List.{list_any}
use Rattle.std.specs.Str.{bytes_eq}
use Rattle.std.proofs.lemmas.List.Folds.{list_any-append}
use Rattle.std.proofs.lemmas.Slice.Eq.{bytes_eq-Decides}
use Rattle.indexmap.specs.IndexSet.{insert_key}

abbrev pub in_table : List (List ℕ) → List ℕ → Bool
in_table keys word = list_any (bytes_eq word) keys

abbrev pub in_names : List (List ℕ) → List ℕ → Bool
in_names names word = list_any (λ n. bytes_eq n word) names

same_by : (a b : List ℕ) (x y : Bool) → bytes_eq a b ≡ x → bytes_eq b a ≡ y → x ≡ y
same_by a b true true p q = refl
same_by a b false false p q = refl
same_by a b true false p q = sym ((bytes_eq-Decides b a).1 (sym ((bytes_eq-Decides a b).0 p))) ∙ q
same_by a b false true p q = sym p ∙ (bytes_eq-Decides a b).1 (sym ((bytes_eq-Decides b a).0 q))

turned : (a b : List ℕ) → bytes_eq a b ≡ bytes_eq b a
turned a b = same_by a b (bytes_eq a b) (bytes_eq b a) refl refl

or_false : (b : Bool) → b ≡ (b || (false || false))
or_false true = refl
or_false false = refl

or_true : (b : Bool) → true ≡ (b || (true || false))
or_true true = refl
or_true false = refl

module _ (names : List (List ℕ)) (keys : List (List ℕ)) (name : List ℕ) (key : List ℕ) (is_name : key ≡ name) (found : (word : List ℕ) → in_table keys word ≡ in_names names word) (word : List ℕ) where
  there : (b : Bool) → bytes_eq name word ≡ b → list_any (bytes_eq key) keys ≡ true → in_table keys word ≡ (in_names names word || (b || false))
  there false not_it has = found word ∙ or_false (in_names names word)
  there true is_it has = ap (in_table keys) (sym ((bytes_eq-Decides name word).0 is_it) ∙ sym is_name) ∙ has ∙ or_true (in_names names word)

  placed : (b : Bool) → list_any (bytes_eq key) keys ≡ b → in_table (cond b keys (keys ++ key ∷ [])) word ≡ (in_names names word || (bytes_eq name word || false))
  placed true has = there (bytes_eq name word) refl has
  placed false lacks = list_any-append (bytes_eq word) keys (key ∷ []) ∙ λ i. found word i || ((ap (bytes_eq word) is_name ∙ turned word name) i || false)

  -- a name that is added goes into the table, where it is not there yet
  pub added : in_table (insert_key bytes_eq keys key) word ≡ in_names (names ++ name ∷ []) word
  added = placed (list_any (bytes_eq key) keys) refl ∙ sym (list_any-append (λ (n : List ℕ). bytes_eq n word) names (name ∷ []))
