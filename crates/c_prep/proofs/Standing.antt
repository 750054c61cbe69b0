-- What is put is what tokens stand for.
use Rattle.std.proofs.Common.{◌≡◌, ℕ, zero, suc, ◌+◌, List, [], ◌∷◌, ◌++◌, length, map, Bool, true, false, cond, ltb, refl, sym, ap, ◌∙◌, append_assoc, subst}
use Rattle.std.specs.Prelude.{Option, Some, None, Result, Ok, Err}
use Rattle.std.proofs.lemmas.List.{append-nil, map-append}
use Rattle.c_lex.specs.declared.token.Kind.{Kind}
use Rattle.c_lex.specs.declared.token.Token.{Token}
use Rattle.c_prep.specs.declared.error.Fault.TheVariants.{TooManyTokens}
use Rattle.c_prep.specs.declared.error.FaultAt.{FaultAt}
use Rattle.c_prep.specs.Faults.{◌>>=◌, fault_at}
use Rattle.c_prep.specs.Macros.{Table, Put, Macro, macro_of, emitted, counted, by_macro, each, stands, replaced_at}
use Rattle.c_prep.specs.Standing.{Stand, nothing, itself, expanded, IsExpansion}

-- what one token stands for
pub data One (table : Table) (inside : List (List ℕ)) (kind : Kind) (own : List Kind) : Type 0 where
  plain : macro_of table inside kind ≡ None → own ≡ kind ∷ [] → One table inside kind own
  macro : (m : Macro) → macro_of table inside kind ≡ Some m → Stand table (inside ++ m.name ∷ []) m.body own → One table inside kind own

with_rest : (table : Table) (inside : List (List ℕ)) (kind : Kind) (rest own others : List Kind) → One table inside kind own → Stand table inside rest others → Stand table inside (kind ∷ rest) (own ++ others)
with_rest table inside kind rest own others (plain is one) more = itself kind rest others refl is more (ap (λ (ks : List Kind). ks ++ others) one)
with_rest table inside kind rest own others (macro m is body) more = expanded kind m rest own others refl is body more refl

abbrev placed : Token → List Kind → List Token
placed t kinds = map (λ kind. record t { kind = kind }) kinds

record OneOut (table : Table) (t : Token) (inside : List (List ℕ)) (kind : Kind) (o o' : Put) : Type 0 where
  own : List Kind
  one : One table inside kind own
  put : o'.tokens ≡ o.tokens ++ placed t own

record AllOut (table : Table) (t : Token) (inside : List (List ℕ)) (kinds : List Kind) (o o' : Put) : Type 0 where
  all : List Kind
  stands : Stand table inside kinds all
  put : o'.tokens ≡ o.tokens ++ placed t all

-- a part that gave a value had one before
record Through (r : Result Put FaultAt) (f : Put → Result Put FaultAt) (o' : Put) : Type 0 where
  mid : Put
  first : r ≡ Ok mid
  then : f mid ≡ Ok o'

through : (r : Result Put FaultAt) (f : Put → Result Put FaultAt) (o' : Put) → r >>= f ≡ Ok o' → Through r f o'
through (Ok o) f o' h = record { mid = o; first = refl; then = h }
through (Err x) f o' h = absurd cc

put_by : (b : Bool) (x : FaultAt) (a o' : Put) → cond b (Ok a) (Err x) ≡ Ok o' → a ≡ o'
put_by true x a o' h = cc
put_by false x a o' h = absurd cc

module _ (table : Table) (t : Token) where
  emitted_out : (inside : List (List ℕ)) (kind : Kind) (o o' : Put) → macro_of table inside kind ≡ None → emitted t kind o ≡ Ok o' → OneOut table t inside kind o o'
  emitted_out inside kind o o' is h = record {
    own = kind ∷ [];
    one = plain is refl;
    put = sym (ap (λ (p : Put). p.tokens) (put_by (ltb (length o.tokens) 200000) (fault_at TooManyTokens t) (record o { tokens = o.tokens ++ (record t { kind = kind }) ∷ [] }) o' h));
  }

  counted_tokens : (o o' : Put) → counted t o ≡ Ok o' → o'.tokens ≡ o.tokens
  counted_tokens o o' h = sym (ap (λ (p : Put). p.tokens) (put_by (ltb o.replaced 1000000) (fault_at TooManyTokens t) (record o { replaced = o.replaced + 1 }) o' h))

  each_out : (inside : List (List ℕ)) (f : Kind → Put → Result Put FaultAt) → ((kind : Kind) (o o' : Put) → f kind o ≡ Ok o' → OneOut table t inside kind o o')
      → (kinds : List Kind) (o o' : Put) → each f kinds o ≡ Ok o' → AllOut table t inside kinds o o'
  unfolding each
  each_out inside f h [] o o' is = let same : o ≡ o' = cc in record { all = []; stands = nothing refl refl; put = ap (λ (p : Put). p.tokens) (sym same) ∙ sym (append-nil o.tokens) }
  each_out inside f h (kind ∷ kinds) o o' is =
      let parts = through (f kind o) (each f kinds) o' is in
      let one = h kind o parts.mid parts.first in
      let more = each_out inside f h kinds parts.mid o' parts.then in
      record {
        all = one.own ++ more.all;
        stands = with_rest table inside kind kinds one.own more.all one.one more.stands;
        put = more.put ∙ ap (λ (ts : List Token). ts ++ placed t more.all) one.put ∙ append_assoc o.tokens (placed t one.own) (placed t more.all)
            ∙ ap (λ (ts : List Token). o.tokens ++ ts) (sym (map-append (λ kind. record t { kind = kind }) one.own more.all));
      }

  by_macro_out : (inside : List (List ℕ)) (kind : Kind) (m : Option Macro) (more : Macro → Put → Result Put FaultAt) (o o' : Put) → macro_of table inside kind ≡ m
      → ((m : Macro) (o o' : Put) → more m o ≡ Ok o' → AllOut table t (inside ++ m.name ∷ []) m.body o o') → by_macro m more t kind o ≡ Ok o' → OneOut table t inside kind o o'
  by_macro_out inside kind None more o o' is h given = emitted_out inside kind o o' is given
  by_macro_out inside kind (Some m) more o o' is h given =
      let parts = through (counted t o) (more m) o' given in
      let body = h m parts.mid o' parts.then in
      record { own = body.all; one = macro m is body.stands; put = body.put ∙ ap (λ (ts : List Token). ts ++ placed t body.all) (counted_tokens o parts.mid parts.first) }

  stands_out : (room : ℕ) (inside : List (List ℕ)) (kind : Kind) (o o' : Put) → stands room table t inside kind o ≡ Ok o' → OneOut table t inside kind o o'
  unfolding stands
  stands_out zero inside kind o o' given = by_macro_out inside kind (macro_of table inside kind) (λ m o'. Err (fault_at TooManyTokens t)) o o' refl (λ m o1 o2 h. absurd cc) given
  stands_out (suc room) inside kind o o' given = by_macro_out inside kind (macro_of table inside kind) (λ m. each (stands room table t (inside ++ m.name ∷ [])) m.body) o o' refl
      (λ m o1 o2 h. each_out (inside ++ m.name ∷ []) (stands room table t (inside ++ m.name ∷ [])) (λ k o3 o4 h'. stands_out room (inside ++ m.name ∷ []) k o3 o4 h') m.body o1 o2 h) given

  pub put_is : (before after : Put) → replaced_at table t before ≡ Ok after → IsExpansion table t before.tokens after.tokens
  put_is before after given =
      let out = stands_out 1000000 [] t.kind before after given in
      record {
        kinds = out.own;
        stands = subst (λ (ks : List Kind). Stand table [] (t.kind ∷ []) ks) (append-nil out.own) (with_rest table [] t.kind [] out.own [] out.one (nothing refl refl));
        put = out.put;
      }

pub one_standing : (table : Table) (inside : List (List ℕ)) (kinds a b : List Kind) → Stand table inside kinds a → Stand table inside kinds b → a ≡ b
one_standing table inside kinds a b (nothing e r) (nothing e' r') = r ∙ sym r'
one_standing table inside kinds a b (nothing e r) (itself kind rest others e' is more r') = absurd cc
one_standing table inside kinds a b (nothing e r) (expanded kind m rest own others e' is body more r') = absurd cc
one_standing table inside kinds a b (itself kind rest others e is more r) (nothing e' r') = absurd cc
one_standing table inside kinds a b (itself kind rest others e is more r) (itself kind' rest' others' e' is' more' r') =
    let same : kind ≡ kind' = cc in
    let left : rest ≡ rest' = cc in
    let tail = one_standing table inside rest others others' more (subst (λ (ks : List Kind). Stand table inside ks others') (sym left) more') in
    cc
one_standing table inside kinds a b (itself kind rest others e is more r) (expanded kind' m rest' own others' e' is' body more' r') =
    let same : kind ≡ kind' = cc in
    let k : macro_of table inside kind ≡ macro_of table inside kind' = ap (macro_of table inside) same in
    absurd cc
one_standing table inside kinds a b (expanded kind m rest own others e is body more r) (nothing e' r') = absurd cc
one_standing table inside kinds a b (expanded kind m rest own others e is body more r) (itself kind' rest' others' e' is' more' r') =
    let same : kind ≡ kind' = cc in
    let k : macro_of table inside kind ≡ macro_of table inside kind' = ap (macro_of table inside) same in
    absurd cc
one_standing table inside kinds a b (expanded kind m rest own others e is body more r) (expanded kind' m' rest' own' others' e' is' body' more' r') =
    let same : kind ≡ kind' = cc in
    let left : rest ≡ rest' = cc in
    let k : macro_of table inside kind ≡ macro_of table inside kind' = ap (macro_of table inside) same in
    let named : m ≡ m' = cc in
    let first = one_standing table (inside ++ m.name ∷ []) m.body own own' body (subst (λ (n : Macro). Stand table (inside ++ n.name ∷ []) n.body own') (sym named) body') in
    let tail = one_standing table inside rest others others' more (subst (λ (ks : List Kind). Stand table inside ks others') (sym left) more') in
    let both : own ++ others ≡ own' ++ others' = ap (λ (ks : List Kind). ks ++ others) first ∙ ap (λ (ks : List Kind). own' ++ ks) tail in
    r ∙ both ∙ sym r'
