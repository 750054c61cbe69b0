-- The entries of the table of labels, and the labels that they are.
use Rattle.std.proofs.Common.{◌≡◌, ℕ, Bool, true, false, cond, List, [], ◌∷◌, ◌++◌, map, Bor, refl, sym, ap, subst, ◌∙◌, ◌<◌, ◌^◌, ltb}
use Rattle.std.specs.Prelude.{Option, Some, is_some, bytes_eq}
use Rattle.std.specs.Map.{lookup}
use Rattle.std.proofs.lemmas.Bool.{and_parts, ltb-true}
use Rattle.indexmap.specs.IndexMap.{insert_entry}
use Rattle.assembler.specs.Labels.{address_of, has_label, with_label, are_words}

abbrev Entries : Type 0
Entries = List (Bor (List ℕ) × ℕ)

abbrev shown : Entries → List (List ℕ × ℕ)
shown es = map (λ e. (e.0.now, e.1)) es

abbrev pub found : List ℕ → Entries → Option ℕ
found name es = lookup (λ k. bytes_eq name k.now) es

abbrev pub same_name : Bor (List ℕ) → Bor (List ℕ) → Bool
same_name x y = bytes_eq x.now y.now

pub looked_up : (name : List ℕ) (es : Entries) → found name es ≡ address_of (shown es) name
looked_up name [] = refl
looked_up name (e ∷ es) = ap (cond (bytes_eq name e.0.now) (Some e.1)) (looked_up name es)

-- a new name goes last
inserted : (key : Bor (List ℕ)) (address : ℕ) (es : Entries) → false ≡ is_some (found key.now es) → insert_entry same_name es key address ≡ es ++ (key, address) ∷ []
inserted key address [] absent = refl
inserted key address (e ∷ es) absent = elim (bytes_eq key.now e.0.now) as (λ b. false ≡ is_some (cond b (Some e.1) (found key.now es)) → cond b ((e.0, address) ∷ es) (e ∷ insert_entry same_name es key address) ≡ e ∷ es ++ (key, address) ∷ []) [
  | true ↦ λ h. absurd cc
  | false ↦ λ h. ap (λ (xs : Entries). e ∷ xs) (inserted key address es h)
] absent

shown_more : (es : Entries) (key : Bor (List ℕ)) (address : ℕ) → shown (es ++ (key, address) ∷ []) ≡ shown es ++ (key.now, address) ∷ []
shown_more [] key address = refl
shown_more (e ∷ es) key address = ap (λ (xs : List (List ℕ × ℕ)). (e.0.now, e.1) ∷ xs) (shown_more es key address)

module _ (name : List ℕ) (es : Entries) (labels : List (List ℕ × ℕ)) (are : shown es ≡ labels) where
  pub has : is_some (found name es) ≡ has_label labels name
  has = ap is_some (looked_up name es ∙ ap (λ (l : List (List ℕ × ℕ)). address_of l name) are)

  pub stays : (address : ℕ) → true ≡ is_some (found name es) → labels ≡ with_label labels name address
  stays address there = let h : has_label labels name ≡ true = sym has ∙ sym there in rw h refl

  pub grows : (key : Bor (List ℕ)) (address : ℕ) (new : Entries) → key.now ≡ name → false ≡ is_some (found name es) →
      new ≡ insert_entry same_name es key address → shown new ≡ with_label labels name address
  grows key address new is absent made =
      let h : has_label labels name ≡ false = sym has ∙ sym absent in
      let gone : false ≡ is_some (found key.now es) = absent ∙ ap (λ n. is_some (found n es)) (sym is) in
      let longer : shown new ≡ labels ++ (name, address) ∷ [] = ap shown (made ∙ inserted key address es gone) ∙ shown_more es key address ∙ ap (λ (l : List (List ℕ × ℕ)). l ++ (key.now, address) ∷ []) are ∙ ap (λ (n : List ℕ). labels ++ (n, address) ∷ []) is in
      rw h longer

-- where each address is a word, the one that is found is
pub is_word : (labels : List (List ℕ × ℕ)) (name : List ℕ) (address : ℕ) → are_words labels ≡ true → Some address ≡ address_of labels name → address < 2 ^ 32
is_word [] name address all e = absurd cc
is_word (l ∷ labels) name address all e =
    let both = and_parts (ltb l.1 (2 ^ 32)) (are_words labels) all in
    elim (bytes_eq name l.0) as (λ b. Some address ≡ cond b (Some l.1) (address_of labels name) → address < 2 ^ 32) [
      | true ↦ λ h. let same : address ≡ l.1 = cc in subst (λ (x : ℕ). x < 2 ^ 32) (sym same) (ltb-true l.1 (2 ^ 32) both.0)
      | false ↦ λ h. is_word labels name address both.1 h
    ] e
