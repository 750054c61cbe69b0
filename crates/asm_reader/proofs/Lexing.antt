-- A loop over the tokens of a line.
use Rattle.std.proofs.Common.{◌≡◌, ℕ, zero, suc, true, false, List, [], ◌∷◌, ◌++◌, drop, length, refl, sym, ap, ◌∙◌, append_assoc, append-nil}
use Rattle.std.proofs.lemmas.Bool.{eq-eqb, ne_eqb}
use Rattle.std.proofs.lemmas.List.{nil_from_length}
use Rattle.asm_reader.specs.declared.token.Token.{Token}
use Rattle.asm_reader.specs.Tokens.{is_blank, token_at, tokens_from, tokens_of}

pub passed : (k : ℕ) (bs : List ℕ) → tokens_from k bs ≡ tokens_of (drop k bs)
unfolding tokens_from tokens_of
passed zero bs = refl
passed (suc k) [] = refl
passed (suc k) (b ∷ bs) = passed k bs

module _ (done : List Token) (rest : List ℕ) (b : ℕ) (after : List ℕ) (total : List Token) (whole : rest ≡ b ∷ after) (so_far : done ++ tokens_of rest ≡ total) where
  of_rest : done ++ tokens_of (b ∷ after) ≡ total
  of_rest = ap (λ (bs : List ℕ). done ++ tokens_of bs) (sym whole) ∙ so_far

  pub blank : is_blank b ≡ true → done ++ tokens_of after ≡ total
  unfolding tokens_from tokens_of
  blank is = let e : tokens_of (b ∷ after) ≡ tokens_of after = rw is refl in ap (λ (ts : List Token). done ++ ts) (sym e) ∙ of_rest

  pub comment : is_blank b ≡ false → b ≡ 59 → done ≡ total
  unfolding tokens_from tokens_of
  comment is semicolon = let e : tokens_of (b ∷ after) ≡ [] = rw (is, eq-eqb b 59 semicolon) refl in sym (append-nil done) ∙ ap (λ (ts : List Token). done ++ ts) (sym e) ∙ of_rest

  pub token : (new : List Token) (next : List ℕ) (x : Token × ℕ) → is_blank b ≡ false → (b ≡ 59 → ⊥) → x ≡ token_at rest → new ≡ done ++ x.0 ∷ [] → next ≡ drop x.1 after → new ++ tokens_of next ≡ total
  unfolding tokens_from tokens_of
  token new next x is other found pushed left =
      let at : token_at (b ∷ after) ≡ x = ap token_at (sym whole) ∙ sym found in
      let one : tokens_of (b ∷ after) ≡ (token_at (b ∷ after)).0 ∷ tokens_from (token_at (b ∷ after)).1 after = rw (is, ne_eqb b 59 other) refl in
      let two : tokens_of (b ∷ after) ≡ x.0 ∷ tokens_of next =
      one ∙ ap (λ (y : Token × ℕ). y.0 ∷ tokens_from y.1 after) at ∙ ap (λ (ts : List Token). x.0 ∷ ts) (passed x.1 after) ∙ ap (λ (bs : List ℕ). x.0 ∷ tokens_of bs) (sym left) in
      ap (λ (ts : List Token). ts ++ tokens_of next) pushed ∙ append_assoc done (x.0 ∷ []) (tokens_of next) ∙ ap (λ (ts : List Token). done ++ ts) (sym two) ∙ of_rest

pub ended : (done : List Token) (rest : List ℕ) (total : List Token) → length rest ≡ 0 → done ++ tokens_of rest ≡ total → done ≡ total
unfolding tokens_from tokens_of
ended done rest total empty so_far =
    let e : tokens_of rest ≡ [] = ap tokens_of (nil_from_length rest empty) in
    sym (append-nil done) ∙ ap (λ (ts : List Token). done ++ ts) (sym e) ∙ so_far
