-- Parts are those that a mark stands between, both ways.
use Rattle.std.proofs.Common.{◌≡◌, ℕ, ◌<◌, Bool, true, false, not, ◌&&◌, List, [], ◌∷◌, ◌++◌, length, subst, refl, sym, ap, ◌∙◌, arith}
use Rattle.std.specs.Prelude.{◌↔◌}
use Rattle.std.specs.List.{list_all}
use Rattle.std.proofs.lemmas.Bool.Decides.{Decides-eqb}
use Rattle.asm_reader.specs.declared.token.Token.{Token}
use Rattle.asm_reader.specs.declared.token.Token.TheVariants as t
use Rattle.asm_reader.specs.Operands.{is_comma}
use Rattle.asm_reader.specs.Parted.{parted, with_first}
use Rattle.asm_reader.specs.Reading.{is_newline}
use Rattle.asm_reader.specs.Grammar.{joined, is_free, IsParted}

joined_first : {A : Type 0} (mark x : A) (parts : List (List A)) → joined mark (with_first x parts) ≡ x ∷ joined mark parts
joined_first mark x [] = refl
joined_first mark x (p ∷ []) = refl
joined_first mark x (p ∷ q ∷ parts) = refl

joined_empty : {A : Type 0} (mark : A) (parts : List (List A)) → 0 < length parts → joined mark ([] ∷ parts) ≡ mark ∷ joined mark parts
joined_empty mark [] some = absurd (omega arith)
joined_empty mark (p ∷ parts) some = refl

free_first : {A : Type 0} (m : A → Bool) (x : A) (parts : List (List A)) → m x ≡ false → list_all (is_free m) parts ≡ true → list_all (is_free m) (with_first x parts) ≡ true
free_first m x [] e free = rw e refl
free_first m x (p ∷ parts) e free = rw e free

some_first : {A : Type 0} (x : A) (parts : List (List A)) → 0 < length (with_first x parts)
some_first x [] = omega arith
some_first x (p ∷ parts) = omega arith

part_step : {A : Type 0} (m : A → Bool) (mark x : A) (xs : List A) (b : Bool) → m x ≡ b → (m x ≡ true → x ≡ mark) → IsParted m mark xs (parted m xs) → IsParted m mark (x ∷ xs) (parted m (x ∷ xs))
unfolding parted
part_step {A = A} m mark x xs true e is p = rw e (record {
  some = omega arith;
  free = p.free;
  whole = ap (λ (y : A). y ∷ xs) (is e) ∙ ap (λ (ys : List A). mark ∷ ys) p.whole ∙ sym (joined_empty mark (parted m xs) p.some);
})
part_step {A = A} m mark x xs false e is p = rw e (record {
  some = some_first x (parted m xs);
  free = free_first m x (parted m xs) e p.free;
  whole = ap (λ (ys : List A). x ∷ ys) p.whole ∙ sym (joined_first mark x (parted m xs));
})

are_parts : {A : Type 0} (m : A → Bool) (mark : A) → ((x : A) → m x ≡ true → x ≡ mark) → (xs : List A) → IsParted m mark xs (parted m xs)
unfolding parted
are_parts m mark is [] = record { some = omega arith; free = refl; whole = refl }
are_parts m mark is (x ∷ xs) = part_step m mark x xs (m x) refl (is x) (are_parts m mark is xs)

free_head : (a b : Bool) → (not a && b) ≡ true → (a ≡ false) × (b ≡ true)
free_head true b h = absurd cc
free_head false b h = (refl, h)

both_free : (a b : Bool) → (a && b) ≡ true → (a ≡ true) × (b ≡ true)
both_free true b h = (refl, h)
both_free false b h = absurd cc

pub part_ends : {A : Type 0} (m : A → Bool) (mark : A) (part rest : List A) → m mark ≡ true → is_free m part ≡ true → parted m (part ++ mark ∷ rest) ≡ part ∷ parted m rest
unfolding parted
part_ends m mark [] rest is free = rw is refl
part_ends {A = A} m mark (x ∷ part) rest is free =
    let h = free_head (m x) (is_free m part) free in
    rw h.0 (ap (with_first x) (part_ends m mark part rest is h.1))

pub part_last : {A : Type 0} (m : A → Bool) (part : List A) → is_free m part ≡ true → parted m part ≡ part ∷ []
unfolding parted
part_last m [] free = refl
part_last m (x ∷ part) free =
    let h = free_head (m x) (is_free m part) free in
    rw h.0 (ap (with_first x) (part_last m part h.1))

parts_again : {A : Type 0} (m : A → Bool) (mark : A) → m mark ≡ true → (parts : List (List A)) → 0 < length parts → list_all (is_free m) parts ≡ true → parted m (joined mark parts) ≡ parts
parts_again m mark is [] some free = absurd (omega arith)
parts_again m mark is (p ∷ []) some free = part_last m p (both_free (is_free m p) true free).0
parts_again {A = A} m mark is (p ∷ q ∷ parts) some free =
    let h = both_free (is_free m p) (list_all (is_free m) (q ∷ parts)) free in
    part_ends m mark p (joined mark (q ∷ parts)) is h.0 ∙ ap (λ (ps : List (List A)). p ∷ ps) (parts_again m mark is (q ∷ parts) (omega arith) h.1)

module _ {A : Type 0} (m : A → Bool) (mark : A) (known : (x : A) → m x ≡ true → x ≡ mark) (is : m mark ≡ true) where
  to_parts : (xs : List A) (parts : List (List A)) → parted m xs ≡ parts → IsParted m mark xs parts
  to_parts xs parts e = let P : List (List A) → Type 0 = λ ps. IsParted m mark xs ps in subst P e (are_parts m mark known xs)

  from_parts : (xs : List A) (parts : List (List A)) → IsParted m mark xs parts → parted m xs ≡ parts
  from_parts xs parts p = ap (parted m) p.whole ∙ parts_again m mark is parts p.some p.free

comma_is : (x : Token) → is_comma x ≡ true → x ≡ t.Comma
comma_is t.Comma h = refl
comma_is _ h = absurd cc

newline_is : (b : ℕ) → is_newline b ≡ true → b ≡ 10
newline_is b h = (Decides-eqb b 10).0 h

pub lines_both_ways : (bytes : List ℕ) (lines : List (List ℕ)) → (parted is_newline bytes ≡ lines) ↔ IsParted is_newline 10 bytes lines
lines_both_ways bytes lines = (to_parts is_newline 10 newline_is refl bytes lines, from_parts is_newline 10 newline_is refl bytes lines)

pub operands_apart_both_ways : (tokens : List Token) (parts : List (List Token)) → (parted is_comma tokens ≡ parts) ↔ IsParted is_comma t.Comma tokens parts
operands_apart_both_ways tokens parts = (to_parts is_comma t.Comma comma_is refl tokens parts, from_parts is_comma t.Comma comma_is refl tokens parts)
