-- Entries whose names are pairwise different, after a write and after a push.
use Rattle.std.proofs.Common.{ℕ, suc, ◌≡◌, Bool, true, false, not, ◌&&◌, ◌||◌, cond, List, [], ◌∷◌, ◌++◌, get_or, set, take, drop, refl, sym, ap, ◌∙◌}
use Rattle.std.specs.Prelude.{Option, Some, None, unwrap_or}
use Rattle.std.specs.FinMap.{get, insert, contains_key}
use Rattle.std.specs.Str.{bytes_eq}
use Rattle.std.proofs.lemmas.Map.Text.{is_eq-slice_cmp}
use Rattle.std.proofs.lemmas.List.{set_split}
use Rattle.kit_base.specs.Held.{lookup, from_entries_of, IsFirstAt, appended}
use Rattle.kit_base.specs.Store.{has_name, are_distinct}
use Rattle.kit_base.proofs.Entries.{split_at, put_at, looked_up, not_held, same}

abbrev Entry : Type 0
Entry = List ℕ × List ℕ

left_of : (a b : Bool) → (a && b) ≡ true → a ≡ true
left_of true b e = refl
left_of false b e = e

right_of : (a b : Bool) → (a && b) ≡ true → b ≡ true
right_of true b e = e
right_of false b e = cc

-- other bytes under the same name
has_any : (q name old new : List ℕ) (front rest : List Entry) → has_name q (front ++ (name, new) ∷ rest) ≡ has_name q (front ++ (name, old) ∷ rest)
has_any q name old new [] rest = refl
has_any q name old new (e ∷ es) rest = ap (λ (b : Bool). bytes_eq e.0 q || b) (has_any q name old new es rest)

distinct_any : (name old new : List ℕ) (front rest : List Entry) → are_distinct (front ++ (name, new) ∷ rest) ≡ are_distinct (front ++ (name, old) ∷ rest)
distinct_any name old new [] rest = refl
distinct_any name old new (e ∷ es) rest =
    ap (λ (b : Bool). not b && are_distinct (es ++ (name, new) ∷ rest)) (has_any e.0 name old new es rest)
    ∙ ap (λ (b : Bool). not (has_name e.0 (es ++ (name, old) ∷ rest)) && b) (distinct_any name old new es rest)

pub distinct_put : (es : List Entry) (at : ℕ) (name new : List ℕ) → IsFirstAt es at name → are_distinct es ≡ true → are_distinct (set es at (name, new)) ≡ true
distinct_put es at name new first distinct =
    ap are_distinct (set_split es at (name, new) first.within)
    ∙ distinct_any name (get_or es at ([], [])).1 new (take at es) (drop (suc at) es)
    ∙ ap are_distinct (sym (split_at es at name first)) ∙ distinct

-- a name that was not there
has_pushed : (q name new : List ℕ) (es : List Entry) → bytes_eq name q ≡ false → has_name q (es ++ (name, new) ∷ []) ≡ has_name q es
has_pushed q name new [] other = ap (λ (b : Bool). b || false) other
has_pushed q name new (e ∷ es) other = ap (λ (b : Bool). bytes_eq e.0 q || b) (has_pushed q name new es other)

other_name : (b : Bool) (x : List ℕ) (o : Option (List ℕ)) → cond b (Some x) o ≡ None → b ≡ false
other_name true x o e = cc
other_name false x o e = refl

not_later : (b : Bool) (x : List ℕ) (o : Option (List ℕ)) → cond b (Some x) o ≡ None → o ≡ None
not_later true x o e = cc
not_later false x o e = e

pub distinct_push : (name new : List ℕ) (es : List Entry) → lookup name es ≡ None → are_distinct es ≡ true → are_distinct (es ++ (name, new) ∷ []) ≡ true
distinct_push name new [] none distinct = refl
distinct_push name new (e ∷ es) none distinct =
    let other : bytes_eq name e.0 ≡ false = sym (is_eq-slice_cmp name e.0) ∙ other_name (same name e.0) e.1 (lookup name es) none in
    ap (λ (b : Bool). not b && are_distinct (es ++ (name, new) ∷ [])) (has_pushed e.0 name new es other)
    ∙ ap (λ (b : Bool). b && are_distinct (es ++ (name, new) ∷ [])) (left_of (not (has_name e.0 es)) (are_distinct es) distinct)
    ∙ distinct_push name new es (not_later (same name e.0) e.1 (lookup name es) none) (right_of (not (has_name e.0 es)) (are_distinct es) distinct)

-- the file with a piece more, at its place
pub lengthened : (es : List Entry) (at : ℕ) (name piece : List ℕ) → IsFirstAt es at name
    → from_entries_of (set es at (name, (get_or es at ([], [])).1 ++ piece)) ≡ appended name piece (from_entries_of es)
lengthened es at name piece first =
    put_at es at name ((get_or es at ([], [])).1 ++ piece) first
    ∙ ap (λ (o : Option (List ℕ)). insert (from_entries_of es) name (unwrap_or o [] ++ piece)) (sym (looked_up es at name first))

pub not_contained : (es : List Entry) (name : List ℕ) → lookup name es ≡ None → contains_key (from_entries_of es) name ≡ true → ⊥
not_contained es name none held = let gone : get (from_entries_of es) name ≡ None = not_held es name none in cc
