-- A token stands at the front of a text.
use Rattle.std.proofs.Common.{◌≡◌, ℕ, ◌<◌, Bool, true, false, ◌&&◌, List, [], ◌∷◌, ◌++◌, length, refl, sym, ◌∙◌, arith}
use Rattle.std.specs.Prelude.{Some, None}
use Rattle.c_lex.specs.declared.token.Kind.{Kind}
use Rattle.c_lex.specs.Spelling.{IsToken, spelling_of}
use Rattle.c_lex.specs.Marks.{mark_of, marks}

pub record Stands (bytes : List ℕ) (len : ℕ) (kind : Kind) : Type 0 where
  pub text : List ℕ
  pub rest : List ℕ
  pub whole : bytes ≡ text ++ rest
  pub size : length text ≡ len
  pub some : 0 < len
  pub is_token : IsToken text rest kind

pub some_is : {A : Type 0} {x y : A} → Some x ≡ Some y → x ≡ y
some_is e = cc

pub both : (b c : Bool) → (b && c) ≡ true → (b ≡ true) × (c ≡ true)
both true c e = (refl, e)
both false c e = absurd cc

pub nothing_spelled : spelling_of [] ≡ None
unfolding spelling_of mark_of marks
nothing_spelled = refl

pub token_some : (text rest : List ℕ) (kind : Kind) → IsToken text rest kind → 0 < length text
token_some [] rest kind t = let e = sym nothing_spelled ∙ t.spelled in absurd cc
token_some (b ∷ bs) rest kind t = omega arith
