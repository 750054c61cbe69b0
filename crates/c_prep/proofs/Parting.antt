-- Lines part the tokens.
use Rattle.std.proofs.Common.{◌≡◌, List, [], ◌∷◌, ◌++◌, true, false, cond, refl, ap, ◌∙◌, drop}
use Rattle.std.specs.Prelude.{flat_map}
use Rattle.std.specs.List.{AllByRecursion}
use Rattle.c_lex.specs.declared.token.Token.{Token}
use Rattle.c_prep.specs.Lines.{begins, before, lines_of, IsLine}

abbrev joined : List (List Token) → List Token
joined ls = flat_map (λ line. line) ls

joined_before : (t : Token) (ls : List (List Token)) → joined (before t ls) ≡ t ∷ joined ls
joined_before t [] = refl
joined_before t (l ∷ ls) = elim (begins l) as (λ b. joined (cond b ((t ∷ []) ∷ l ∷ ls) ((t ∷ l) ∷ ls)) ≡ t ∷ l ++ joined ls) [ true ↦ refl | false ↦ refl ]

pub whole : (tokens : List Token) → joined (lines_of tokens) ≡ tokens
unfolding lines_of
whole [] = refl
whole (t ∷ ts) = joined_before t (lines_of ts) ∙ ap (λ (us : List Token). t ∷ us) (whole ts)

longer : (t : Token) (l : List Token) → begins l ≡ false → IsLine l → IsLine (t ∷ l)
longer t [] e h = tt
longer t (u ∷ us) e h = (e, h)

lines_before : (t : Token) (ls : List (List Token)) → AllByRecursion IsLine ls → AllByRecursion IsLine (before t ls)
lines_before t [] h = (tt, tt)
lines_before t (l ∷ ls) h = elim (begins l) as (λ b. begins l ≡ b → AllByRecursion IsLine (cond b ((t ∷ []) ∷ l ∷ ls) ((t ∷ l) ∷ ls))) [
  | true ↦ λ e. (tt, h)
  | false ↦ λ e. (longer t l e h.0, h.1)
] refl

pub lines : (tokens : List Token) → AllByRecursion IsLine (lines_of tokens)
unfolding lines_of
lines [] = tt
lines (t ∷ ts) = lines_before t (lines_of ts) (lines ts)

abbrev Begun : List (List Token) → Type 0
Begun ls = AllByRecursion (λ line. begins line ≡ true) (drop 1 ls)

begun_before : (t : Token) (ls : List (List Token)) → Begun ls → Begun (before t ls)
begun_before t [] h = tt
begun_before t (l ∷ ls) h = elim (begins l) as (λ b. begins l ≡ b → Begun (cond b ((t ∷ []) ∷ l ∷ ls) ((t ∷ l) ∷ ls))) [
  | true ↦ λ e. (e, h)
  | false ↦ λ e. h
] refl

pub begun : (tokens : List Token) → Begun (lines_of tokens)
unfolding lines_of
begun [] = tt
begun (t ∷ ts) = begun_before t (lines_of ts) (begun ts)
