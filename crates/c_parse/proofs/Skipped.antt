-- What is left of tokens that are passed over.
use Rattle.std.proofs.Common.{◌≡◌, ℕ, zero, suc, ◌≤◌, List, [], ◌∷◌, length, drop, take, ◌-◌, refl, sym, ap, ◌∙◌, arith}
use Rattle.std.proofs.lemmas.List.{drop-map, length-drop}
use Rattle.c_lex.specs.declared.token.Token.{Token}
use Rattle.c_parse.specs.Tok.{toks, seen, class_of, bytes_of}

pub skipped_toks : (n : ℕ) (ts : List Token) → toks (drop n ts) ≡ drop n (toks ts)
skipped_toks n ts = sym (drop-map (λ (t : Token). seen (class_of t.kind) (bytes_of t.kind)) n ts)

pub skipped_none : (n : ℕ) (ts : List Token) → length ts ≤ n → drop n (toks ts) ≡ []
skipped_none zero [] h = refl
skipped_none (suc n) [] h = refl
skipped_none zero (t ∷ ts) h = absurd (omega arith)
skipped_none (suc n) (t ∷ ts) h = skipped_none n ts (omega arith)

take_whole : (ts : List Token) → take (length ts) ts ≡ ts
take_whole [] = refl
take_whole (t ∷ ts) = ap (λ (z : List Token). t ∷ z) (take_whole ts)

pub skipped_rest : (n : ℕ) (ts : List Token) → toks (take (length ts - n) (drop n ts)) ≡ drop n (toks ts)
skipped_rest n ts =
    ap (λ (k : ℕ). toks (take k (drop n ts))) (sym (length-drop n ts)) ∙ ap (λ (l : List Token). toks l) (take_whole (drop n ts)) ∙ skipped_toks n ts
