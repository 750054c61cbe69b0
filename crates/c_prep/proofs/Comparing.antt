-- Two lists of kinds, compared from the left.
use Rattle.std.proofs.Common.{◌≡◌, List, ◌∷◌, length, Bool, true, false}
use Rattle.std.proofs.lemmas.List.{nil_from_length}
use Rattle.c_lex.specs.declared.token.Kind.{Kind}
use Rattle.c_lex.specs.declared.token.Token.{Token}
use Rattle.c_prep.specs.Kinds.{kinds_of, same_kind, same_kinds}

module _ (left : List Kind) (right : List Token) (total : Bool) (so_far : same_kinds left (kinds_of right) ≡ total) where
  pub shorter : (kind : Kind) (after : List Kind) → left ≡ kind ∷ after → length right ≡ 0 → false ≡ total
  unfolding same_kinds
  shorter kind after l r = rw (l, nil_from_length right r) at so_far

  pub differs : (kind : Kind) (after : List Kind) (token : Token) (more : List Token) → left ≡ kind ∷ after → right ≡ token ∷ more → same_kind kind token.kind ≡ false → false ≡ total
  unfolding same_kinds
  differs kind after token more l r other = rw (l, r, other) at so_far

  pub goes_on : (kind : Kind) (after : List Kind) (token : Token) (more : List Token) → left ≡ kind ∷ after → right ≡ token ∷ more → same_kind kind token.kind ≡ true → same_kinds after (kinds_of more) ≡ total
  unfolding same_kinds
  goes_on kind after token more l r one = rw (l, r, one) at so_far

  pub ends_too : length left ≡ 0 → length right ≡ 0 → true ≡ total
  unfolding same_kinds
  ends_too l r = rw (nil_from_length left l, nil_from_length right r) at so_far

  pub longer : (token : Token) (more : List Token) → length left ≡ 0 → right ≡ token ∷ more → false ≡ total
  unfolding same_kinds
  longer token more l r = rw (nil_from_length left l, r) at so_far

pub ruleset comparing = (shorter, differs, goes_on, ends_too, longer)
