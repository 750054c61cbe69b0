-- Lines that are directives, and the words of directives.
use Rattle.std.proofs.Common.{◌≡◌, ℕ, List, [], ◌∷◌, length, map, true, false, ◌||◌, refl, ap, ◌∙◌}
use Rattle.std.specs.Prelude.{bytes_eq, IsUtf8, Some, None}
use Rattle.std.specs.Str.{is_utf8}
use Rattle.std.proofs.lemmas.Str.{IsUtf8-from_is_utf8, is_utf8-from_IsUtf8}
use Rattle.std.proofs.lemmas.List.{nil_from_length}
use Rattle.std.specs.List.{list_any}
use Rattle.std.specs.Borrow.{Bor}
use Rattle.c_lex.specs.declared.token.Token.{Token}
use Rattle.c_lex.specs.declared.token.Kind.{Kind}
use Rattle.c_lex.specs.declared.token.Kind.TheVariants as k
use Rattle.c_prep.specs.Kinds.{kinds_of}
use Rattle.c_prep.specs.Directives.{text_in, directive_in, directive_of}
use Rattle.c_prep.specs.Lines.{begins_directive}

pub any_keyword : (word : List ℕ) (keywords : List (Bor (List ℕ))) → list_any (λ k. bytes_eq word k.now) keywords ≡ list_any (bytes_eq word) (map (λ k. k.now) keywords)
any_keyword word [] = refl
any_keyword word (k ∷ ks) = ap (λ b. bytes_eq word k.now || b) (any_keyword word ks)

pub is_text : (kind : Kind) (name : List ℕ) → kind ≡ k.Text name → IsUtf8 name → text_in kind ≡ Some name
is_text kind name is utf8 = rw (is, is_utf8-from_IsUtf8 name utf8) refl

pub is_no_text : (kind : Kind) (name : List ℕ) → kind ≡ k.Text name → (IsUtf8 name → ⊥) → text_in kind ≡ None
is_no_text kind name is other =
    let h : is_utf8 name ≡ false = elim (is_utf8 name) as (λ b. is_utf8 name ≡ b → is_utf8 name ≡ false) [ true ↦ λ e. absurd (other (IsUtf8-from_is_utf8 name e)) | false ↦ λ e. e ] refl in
    rw (is, h) refl

pub no_directive : (line : List Token) → length line ≡ 0 → directive_in line ≡ None
unfolding directive_in
no_directive line empty = ap directive_in (nil_from_length line empty)

pub is_directive : (line : List Token) (t : Token) (ts : List Token) → line ≡ t ∷ ts → begins_directive t ≡ true → directive_in line ≡ Some (record { hash = t; directive = directive_of (kinds_of ts) })
unfolding directive_in
is_directive line t ts whole here = ap directive_in whole ∙ rw here refl

pub is_text_line : (line : List Token) (t : Token) (ts : List Token) → line ≡ t ∷ ts → begins_directive t ≡ false → directive_in line ≡ None
unfolding directive_in
is_text_line line t ts whole here = ap directive_in whole ∙ rw here refl
