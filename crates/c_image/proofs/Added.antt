-- Labels that were put into a table one by one have the addresses that they have in their list.
use Rattle.std.proofs.Common.{◌≡◌, ℕ, Bool, true, false, cond, List, [], ◌∷◌, ◌++◌, refl, sym, ap, ◌∙◌, ◌<◌, ◌^◌, ltb}
use Rattle.std.specs.Prelude.{Option, Some, None, is_some, unwrap_or, bytes_eq}
use Rattle.std.proofs.lemmas.Bool.{and_parts, and_from, lt-ltb}
use Rattle.std.proofs.lemmas.Slice.Eq.{bytes_eq-Decides}
use Rattle.assembler.specs.Labels.{address_of, address_in, has_label, with_label, are_words}
use Rattle.c_image.specs.inner.Labels.{added}

abbrev Labels : Type 0
Labels = List (List ℕ × ℕ)

or_else : Option ℕ → Option ℕ → Option ℕ
or_else None o = o
or_else (Some address) o = Some address

none_else : (o : Option ℕ) → or_else o None ≡ o
unfolding or_else
none_else None = refl
none_else (Some address) = refl

else_again : (a b o : Option ℕ) → or_else (or_else a b) o ≡ or_else a (or_else b o)
unfolding or_else
else_again None b o = refl
else_again (Some address) b o = refl

some_else : (a o : Option ℕ) → is_some a ≡ true → or_else a o ≡ a
unfolding or_else
some_else None o h = absurd cc
some_else (Some address) o h = refl

-- labels behind others
behind : (labels more : Labels) (name : List ℕ) → address_of (labels ++ more) name ≡ or_else (address_of labels name) (address_of more name)
unfolding or_else
behind [] more name = refl
behind (l ∷ labels) more name = at (bytes_eq name l.0) (behind labels more name)
  where
    at : (b : Bool) → address_of (labels ++ more) name ≡ or_else (address_of labels name) (address_of more name)
        → cond b (Some l.1) (address_of (labels ++ more) name) ≡ or_else (cond b (Some l.1) (address_of labels name)) (address_of more name)
    at true h = refl
    at false h = h

-- one label more
one_more : (labels : Labels) (l : List ℕ × ℕ) (name : List ℕ) (o : Option ℕ) → or_else (address_of (with_label labels l.0 l.1) name) o ≡ or_else (address_of labels name) (cond (bytes_eq name l.0) (Some l.1) o)
unfolding or_else
one_more labels l name o = at (has_label labels l.0) refl (bytes_eq name l.0) refl
  where
    there : (b : Bool) → bytes_eq name l.0 ≡ b → has_label labels l.0 ≡ true → or_else (address_of labels name) o ≡ or_else (address_of labels name) (cond b (Some l.1) o)
    there false e h = refl
    there true e h =
        let same : name ≡ l.0 = (bytes_eq-Decides name l.0).0 e in
        let has : is_some (address_of labels name) ≡ true = ap (λ (n : List ℕ). has_label labels n) same ∙ h in
        some_else (address_of labels name) o has ∙ sym (some_else (address_of labels name) (Some l.1) has)

    last : (b : Bool) → or_else (cond b (Some l.1) None) o ≡ cond b (Some l.1) o
    last true = refl
    last false = refl

    at : (h : Bool) → has_label labels l.0 ≡ h → (b : Bool) → bytes_eq name l.0 ≡ b → or_else (address_of (cond h labels (labels ++ (l.0, l.1) ∷ [])) name) o ≡ or_else (address_of labels name) (cond b (Some l.1) o)
    at true h b e = there b e h
    at false h b e =
        ap (λ (a : Option ℕ). or_else a o) (behind labels ((l.0, l.1) ∷ []) name)
        ∙ else_again (address_of labels name) (cond (bytes_eq name l.0) (Some l.1) None) o
        ∙ ap (λ (c : Bool). or_else (address_of labels name) (or_else (cond c (Some l.1) None) o)) e
        ∙ ap (or_else (address_of labels name)) (last b)

finds : (ls labels : Labels) (name : List ℕ) → address_of (added labels ls) name ≡ or_else (address_of labels name) (address_of ls name)
finds [] labels name = sym (none_else (address_of labels name))
finds (l ∷ ls) labels name = finds ls (with_label labels l.0 l.1) name ∙ one_more labels l name (address_of ls name)

-- of two with one name the first stays in both
pub same_addresses : (labels : Labels) → address_in (added [] labels) ≡ address_in labels
unfolding or_else
same_addresses labels = λ i name. unwrap_or (finds labels [] name i) 0

-- ---- addresses are words

are_more : (labels : Labels) (l : List ℕ × ℕ) → are_words labels ≡ true → l.1 < 2 ^ 32 → are_words (labels ++ l ∷ []) ≡ true
are_more [] l h small = and_from (ltb l.1 (2 ^ 32)) true (lt-ltb l.1 (2 ^ 32) small) refl
are_more (m ∷ labels) l h small =
    let both = and_parts (ltb m.1 (2 ^ 32)) (are_words labels) h in
    and_from (ltb m.1 (2 ^ 32)) (are_words (labels ++ l ∷ [])) both.0 (are_more labels l both.1 small)

pub are_with : (labels : Labels) (name : List ℕ) (address : ℕ) → are_words labels ≡ true → address < 2 ^ 32 → are_words (with_label labels name address) ≡ true
are_with labels name address h small = at (has_label labels name)
  where
    at : (b : Bool) → are_words (cond b labels (labels ++ (name, address) ∷ [])) ≡ true
    at true = h
    at false = are_more labels (name, address) h small
