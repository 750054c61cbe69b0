-- The step on a line against the grammar of lines.
use Rattle.std.proofs.Common.{◌≡◌, ℕ, zero, suc, ◌+◌, ◌<◌, ◌≤◌, Bool, true, false, cond, leb, eqb, ◌&&◌, ◌⊎◌, inl, inr, List, [], ◌∷◌, ◌++◌, length, take, drop, refl, sym, ap, subst, ◌∙◌, take-append-drop, arith}
use Rattle.std.specs.Prelude.{Option, Some, None, codes, bytes_eq}
use Rattle.std.specs.List.{list_all}
use Rattle.std.proofs.lemmas.Bool.{leb-true, le-leb, and_parts, and_from, eqb-true, eq-eqb}
use Rattle.std.proofs.lemmas.List.{take_at, drop_at}
use Rattle.std.proofs.lemmas.Slice.Eq.{bytes_eq-Decides}
use Rattle.project_text.specs.Entries.{Entry, Nothing, Title, Source, Texture, Sound}
use Rattle.project_text.specs.Grammar.{is_printable, IsText, IsPassedOver, IsLine, is_text, is_passed_over, value_of, or_else, entry_of}

text_is : (most : ℕ) (text : List ℕ) → is_text most text ≡ true → IsText most text
unfolding is_text
text_is most text h =
    let a = and_parts _ _ h in
    let b = and_parts _ _ a.1 in
    record { some = leb-true _ _ a.0; few = leb-true _ _ b.0; printable = b.1 }

is_the_text : (most : ℕ) (text : List ℕ) → IsText most text → is_text most text ≡ true
unfolding is_text
is_the_text most text t = and_from (leb 1 (length text)) _ (le-leb _ _ t.some) (and_from (leb (length text) most) _ (le-leb _ _ t.few) t.printable)

abbrev some : List ℕ → Option (List ℕ)
some y = Some y

value_is : (key : List ℕ) (most : ℕ) (line x : List ℕ) → value_of key most line ≡ Some x → (line ≡ key ++ x) × IsText most x
unfolding value_of
value_is key most line x e = elim (bytes_eq (take (length key) line) key && is_text most (drop (length key) line)) as (λ b. (bytes_eq (take (length key) line) key && is_text most (drop (length key) line)) ≡ b → cond b (some (drop (length key) line)) None ≡ Some x → (line ≡ key ++ x) × IsText most x) [
  | true ↦ λ is h.
      let both = and_parts _ _ is in
      let front : take (length key) line ≡ key = (bytes_eq-Decides (take (length key) line) key).0 both.0 in
      let behind : drop (length key) line ≡ x = cc in
      (sym (take-append-drop (length key) line) ∙ ap (λ (y : List ℕ). y ++ drop (length key) line) front ∙ ap (λ (y : List ℕ). key ++ y) behind, subst (λ (y : List ℕ). IsText most y) behind (text_is most (drop (length key) line) both.1))
  | false ↦ λ is h. absurd cc
] refl e

is_value : (key : List ℕ) (most : ℕ) (line x : List ℕ) → line ≡ key ++ x → IsText most x → value_of key most line ≡ Some x
unfolding value_of
is_value key most line x e t =
    let front : take (length key) line ≡ key = ap (take (length key)) e ∙ take_at key x (length key) refl in
    let behind : drop (length key) line ≡ x = ap (drop (length key)) e ∙ drop_at key x (length key) refl in
    let same : bytes_eq (take (length key) line) key ≡ true = (bytes_eq-Decides (take (length key) line) key).1 front in
    rw (same, behind, is_the_text most x t) refl

passed : (line : List ℕ) → is_passed_over line ≡ true → IsPassedOver line
unfolding is_passed_over
passed [] h = inl refl
passed (b ∷ bs) h = inr (bs, ap (λ (x : ℕ). x ∷ bs) (eqb-true b 35 h))

pass : (line : List ℕ) → IsPassedOver line → is_passed_over line ≡ true
unfolding is_passed_over
pass line (inl e) = ap is_passed_over e
pass line (inr (rest, e)) = ap is_passed_over e

or_else_is : (o : Option (List ℕ)) (f : List ℕ → Entry) (other : Option Entry) (e : Entry) → or_else o f other ≡ Some e → ((x : List ℕ) × (o ≡ Some x) × (f x ≡ e)) ⊎ (other ≡ Some e)
or_else_is (Some x) f other e h = inl (x, refl, cc)
or_else_is None f other e h = inr h

abbrev entry_some : Entry → Option Entry
entry_some e = Some e

keyed : (line : List ℕ) (e : Entry) → or_else (value_of (codes "title ") 63 line) Title (or_else (value_of (codes "source ") 255 line) Source (or_else (value_of (codes "texture ") 255 line) Texture (or_else (value_of (codes "sound ") 255 line) Sound None))) ≡ Some e → IsLine line e
keyed line e h = elim (or_else_is (value_of (codes "title ") 63 line) Title (or_else (value_of (codes "source ") 255 line) Source (or_else (value_of (codes "texture ") 255 line) Texture (or_else (value_of (codes "sound ") 255 line) Sound None))) e h) [
  | inl x ↦ subst (λ (y : Entry). IsLine line y) x.2 (value_is (codes "title ") 63 line x.0 x.1)
  | inr h1 ↦ elim (or_else_is (value_of (codes "source ") 255 line) Source (or_else (value_of (codes "texture ") 255 line) Texture (or_else (value_of (codes "sound ") 255 line) Sound None)) e h1) [
    | inl x ↦ subst (λ (y : Entry). IsLine line y) x.2 (value_is (codes "source ") 255 line x.0 x.1)
    | inr h2 ↦ elim (or_else_is (value_of (codes "texture ") 255 line) Texture (or_else (value_of (codes "sound ") 255 line) Sound None) e h2) [
      | inl x ↦ subst (λ (y : Entry). IsLine line y) x.2 (value_is (codes "texture ") 255 line x.0 x.1)
      | inr h3 ↦ elim (or_else_is (value_of (codes "sound ") 255 line) Sound None e h3) [
        | inl x ↦ subst (λ (y : Entry). IsLine line y) x.2 (value_is (codes "sound ") 255 line x.0 x.1)
        | inr h4 ↦ absurd cc
      ]
    ]
  ]
]

-- what a line says is so by the grammar
pub entry_is : (line : List ℕ) (e : Entry) → entry_of line ≡ Some e → IsLine line e
unfolding entry_of
entry_is line e h = elim (is_passed_over line) as (λ b. is_passed_over line ≡ b → cond b (entry_some Nothing) (or_else (value_of (codes "title ") 63 line) Title (or_else (value_of (codes "source ") 255 line) Source (or_else (value_of (codes "texture ") 255 line) Texture (or_else (value_of (codes "sound ") 255 line) Sound None)))) ≡ Some e → IsLine line e) [
  | true ↦ λ is k. let same : Nothing ≡ e = cc in subst (λ (x : Entry). IsLine line x) same (passed line is)
  | false ↦ λ is k. keyed line e k
] refl h

-- what the grammar gives a line is what it says
pub line_is : (line : List ℕ) (e : Entry) → IsLine line e → entry_of line ≡ Some e
unfolding entry_of value_of is_passed_over
line_is line Nothing h = rw (pass line h) refl
line_is line (Title t) h = ap entry_of h.0 ∙ rw (is_value (codes "title ") 63 (codes "title " ++ t) t refl h.1) refl
line_is line (Source t) h = ap entry_of h.0 ∙ rw (is_value (codes "source ") 255 (codes "source " ++ t) t refl h.1) refl
line_is line (Texture t) h = ap entry_of h.0 ∙ rw (is_value (codes "texture ") 255 (codes "texture " ++ t) t refl h.1) refl
line_is line (Sound t) h = ap entry_of h.0 ∙ rw (is_value (codes "sound ") 255 (codes "sound " ++ t) t refl h.1) refl
