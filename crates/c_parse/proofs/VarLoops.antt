-- Loops over names that share a type, which is read again for each of them.
use Rattle.std.proofs.Common.{◌≡◌, ℕ, suc, ◌<◌, true, false, List, [], ◌∷◌, ◌++◌, Result, Ok, Err, refl, sym, ap, subst, ◌∙◌, append_assoc, arith}
use Rattle.kit_base.specs.declared.failure.Failure.{Failure}
use Rattle.kit_base.specs.declared.failure.Failure.TheVariants as errors
use Rattle.kit_base.specs.Gives.{Fails}
use Rattle.c_tree.specs.Tree.{TypeT, VarT}
use Rattle.c_parse.specs.declared.fault.Fault.{Fault}
use Rattle.c_parse.specs.Tok.{Tok}
use Rattle.c_parse.specs.Scope.{Context}
use Rattle.c_parse.specs.inner.Reader.{◌>>=◌, Got, behind, at_comma, semicolon}
use Rattle.c_parse.specs.inner.Reading.{type_read}
use Rattle.c_parse.specs.inner.ReadingLists.{comma_turn, separated}
use Rattle.c_parse.specs.inner.ReadingDeclarations.{var, field, vars_at, member_at}
use Rattle.c_parse.proofs.Loops.{Goes, goes_start, goes_end, goes_fail, goes_turn, fails_on}
use Rattle.c_parse.proofs.ListTurns.{comma_end, comma_fail, comma_ok}
use Rattle.c_parse.proofs.Less.{var_less, field_less}
use Rattle.c_parse.proofs.Turns.{behind_up}
use Rattle.c_parse.proofs.FrontsRead.{ok_is}

abbrev failed : {A : Type 0} → Fault → Result A Fault
failed d = Err d

abbrev done : {A : Type 0} → A → Result A Fault
done x = Ok x

-- what was read does not fail when it is read again
never_read : {A : Type 0} (d : Fault) (x : A) → failed d ≡ done x → ⊥
never_read d x e = cc

pub read_again : {A B : Type 0} (r : Result A Fault) (x : A) (e : Failure Fault) (total : Result B Fault) → r ≡ Ok x → Fails e r → Fails e total
read_again r x errors.Memory total is bad = tt
read_again r x (errors.Cause d) total is bad = absurd (never_read d x (sym bad ∙ is))

pub record VarsGo (c : Context) (n : ℕ) (from : List Tok) (found : List VarT) (ts : List Tok) (total : Result (Got (List VarT)) Fault) : Type 0 where
  pub y : TypeT
  pub behind_type : List Tok
  pub read : type_read c n from ≡ Ok (y, behind_type)
  pub goes : Goes (comma_turn (var c n y)) found ts total

-- the names of one line of members: what was found before stands in front of them
pub record FieldsGo (c : Context) (n : ℕ) (from : List Tok) (before found : List VarT) (ts : List Tok) : Type 0 where
  pub y : TypeT
  pub behind_type : List Tok
  pub read : type_read c n from ≡ Ok (y, behind_type)
  pub here : List VarT
  pub is : found ≡ before ++ here
  pub goes : Goes (comma_turn (field c y)) here ts (separated (field c y) behind_type)

abbrev got_type : TypeT → Got TypeT → TypeT
got_type a p = p.0

same_type : (c : Context) (n : ℕ) (from : List Tok) (y z : TypeT) (us vs : List Tok) → type_read c n from ≡ Ok (y, us) → type_read c n from ≡ Ok (z, vs) → y ≡ z
same_type c n from y z us vs a b = ap (λ (p : Got TypeT). p.0) (ok_is (y, us) (z, vs) (sym a ∙ b))

pub vars_start : (c : Context) (n : ℕ) (from us rest : List Tok) (y : TypeT) (v : VarT) (found : List VarT) → 0 < suc n → type_read c n from ≡ Ok (y, us) → var c n y us ≡ Ok (v, rest) → found ≡ v ∷ []
    → VarsGo c n from found rest (vars_at c (suc n) from)
unfolding vars_at
vars_start c n from us rest y v found pos is first one = record {
  y = y;
  behind_type = us;
  read = is;
  goes = rw (one, is, first) (goes_start (comma_turn (var c n y)) (v ∷ []) rest);
}

module _ (c : Context) (n : ℕ) (from : List Tok) (found : List VarT) (ts : List Tok) (total : Result (Got (List VarT)) Fault) (h : VarsGo c n from found ts total) where
  pub vars_end : at_comma ts ≡ false → total ≡ Ok (found, ts)
  vars_end e = goes_end _ _ _ _ h.goes (comma_end (var c n h.y) found ts e)

  pub vars_type_fail : (e : Failure Fault) → Fails e (type_read c n from) → Fails e total
  vars_type_fail e bad = read_again (type_read c n from) (h.y, h.behind_type) e total h.read bad

  pub vars_fail : (e : Failure Fault) (z : TypeT) (us : List Tok) → at_comma ts ≡ true → type_read c n from ≡ Ok (z, us) → Fails e (var c n z (behind ts)) → Fails e total
  vars_fail e z us some is bad = goes_fail _ _ _ _ h.goes e (comma_fail (var c n h.y) found ts e some (subst (λ (y : TypeT). Fails e (var c n y (behind ts))) (same_type c n from z h.y us h.behind_type is h.read) bad))

  pub vars_turn : (z : TypeT) (us : List Tok) (v : VarT) (rest : List Tok) → at_comma ts ≡ true → type_read c n from ≡ Ok (z, us) → var c n z (behind ts) ≡ Ok (v, rest) → VarsGo c n from (found ++ v ∷ []) rest total
  vars_turn z us v rest some is good =
      let same = same_type c n from z h.y us h.behind_type is h.read in
      let again : var c n h.y (behind ts) ≡ Ok (v, rest) = subst (λ (y : TypeT). var c n y (behind ts) ≡ Ok (v, rest)) same good in
      let less = var_less c n h.y (behind ts) (v, rest) again in
      record {
        y = h.y;
        behind_type = h.behind_type;
        read = h.read;
        goes = goes_turn _ _ _ _ h.goes _ _ (comma_ok (var c n h.y) found ts (v, rest) some again) (omega (arith, less, behind_up ts));
      }

pub fields_start : (c : Context) (n : ℕ) (from us rest : List Tok) (y : TypeT) (v : VarT) (before found : List VarT) → type_read c n from ≡ Ok (y, us) → field c y us ≡ Ok (v, rest) → found ≡ before ++ v ∷ []
    → FieldsGo c n from before found rest
fields_start c n from us rest y v before found is first one = record {
  y = y;
  behind_type = us;
  read = is;
  here = v ∷ [];
  is = one;
  goes = rw first (goes_start (comma_turn (field c y)) (v ∷ []) rest);
}

module _ (c : Context) (n : ℕ) (from : List Tok) (before found : List VarT) (ts : List Tok) (h : FieldsGo c n from before found ts) where
  -- the line as a whole, with what was found before it
  abbrev Total : Result (Got (List VarT)) Fault
  Total = member_at c (suc n) from >>= λ us. Ok (before ++ us.0, us.1)

  pub fields_type_fail : (e : Failure Fault) → Fails e (type_read c n from) → Fails e Total
  fields_type_fail e bad = read_again (type_read c n from) (h.y, h.behind_type) e Total h.read bad

  line_fails : (e : Failure Fault) → Fails e (separated (field c h.y) h.behind_type) → Fails e Total
  unfolding member_at
  line_fails e bad = rw h.read (fails_on e (separated (field c h.y) h.behind_type >>= _) _ (fails_on e (separated (field c h.y) h.behind_type) _ bad))

  pub fields_fail : (e : Failure Fault) (z : TypeT) (us : List Tok) → at_comma ts ≡ true → type_read c n from ≡ Ok (z, us) → Fails e (field c z (behind ts)) → Fails e Total
  fields_fail e z us some is bad = line_fails e (goes_fail _ _ _ _ h.goes e (comma_fail (field c h.y) h.here ts e some (subst (λ (y : TypeT). Fails e (field c y (behind ts))) (same_type c n from z h.y us h.behind_type is h.read) bad)))

  line_is : at_comma ts ≡ false → separated (field c h.y) h.behind_type ≡ Ok (h.here, ts)
  line_is e = goes_end _ _ _ _ h.goes (comma_end (field c h.y) h.here ts e)

  pub fields_unended : (e : Failure Fault) → at_comma ts ≡ false → Fails e (semicolon ts) → Fails e Total
  unfolding member_at
  fields_unended e none bad = rw (h.read, line_is none) (fails_on e (semicolon ts >>= _) _ (fails_on e (semicolon ts) _ bad))

  pub fields_end : (rest : List Tok) → at_comma ts ≡ false → semicolon ts ≡ Ok rest → Total ≡ Ok (found, rest)
  unfolding member_at
  fields_end rest none ends = rw (h.read, line_is none, ends, h.is) refl

  pub fields_turn : (z : TypeT) (us : List Tok) (v : VarT) (rest : List Tok) → at_comma ts ≡ true → type_read c n from ≡ Ok (z, us) → field c z (behind ts) ≡ Ok (v, rest) → FieldsGo c n from before (found ++ v ∷ []) rest
  fields_turn z us v rest some is good =
      let same = same_type c n from z h.y us h.behind_type is h.read in
      let again : field c h.y (behind ts) ≡ Ok (v, rest) = subst (λ (y : TypeT). field c y (behind ts) ≡ Ok (v, rest)) same good in
      let less = field_less c h.y (behind ts) (v, rest) again in
      record {
        y = h.y;
        behind_type = h.behind_type;
        read = h.read;
        here = h.here ++ v ∷ [];
        is = ap (λ (l : List VarT). l ++ v ∷ []) h.is ∙ append_assoc before h.here (v ∷ []);
        goes = goes_turn _ _ _ _ h.goes _ _ (comma_ok (field c h.y) h.here ts (v, rest) some again) (omega (arith, less, behind_up ts));
      }
