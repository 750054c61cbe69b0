-- The items and units that are read are derived by the grammar.
use Rattle.std.proofs.Common.{◌≡◌, ℕ, suc, ◌<◌, ◌≤◌, Bool, true, false, cond, List, [], ◌∷◌, ◌++◌, length, Option, Some, None, Result, Ok, refl, sym, ap, subst, ◌∙◌, append_assoc, arith}
use Rattle.std.proofs.lemmas.List.{append-nil}
use Rattle.c_lex.specs.declared.token.Punct.TheVariants as m
use Rattle.c_tree.specs.Tree.{TypeT, VoidY, VarT, ItemT, RecordD, EnumD, TypedefD, VarsD, FunctionD}
use Rattle.c_tree.specs.View.{stmts}
use Rattle.c_tree.specs.Depth.{type_depth, vars_depth, item_depth, unit_depth}
use Rattle.c_parse.specs.declared.class.Key.{Key}
use Rattle.c_parse.specs.declared.class.Key.TheVariants as key
use Rattle.c_parse.specs.declared.fault.Fault.{Fault}
use Rattle.c_parse.specs.declared.lead.ItemLead.{ItemLead}
use Rattle.c_parse.specs.declared.lead.ItemLead.TheVariants as item
use Rattle.c_parse.specs.Tok.{Tok, keyword, word, mark}
use Rattle.c_parse.specs.Scope.{Context, is_type, declare, span}
use Rattle.c_parse.specs.Grammar.{Ty}
use Rattle.c_parse.specs.Lists.{ListEnd}
use Rattle.c_parse.specs.Declarations.{Vars, Members, Params, Value}
use Rattle.c_parse.specs.Statements.{Stmts}
use Rattle.c_parse.specs.Units as g
use Rattle.c_parse.specs.Units.{record_word, Gives, Item, behind_item, Items, Unit_}
use Rattle.c_parse.specs.inner.Reader.{Got, loop, behind, name, new, at_open_paren, open_paren, close_paren, open_brace, close_brace, at_semicolon, semicolon, at_star, end_list}
use Rattle.c_parse.specs.inner.Leads.{item_at, key_item}
use Rattle.c_parse.specs.inner.Reading.{type_read}
use Rattle.c_parse.specs.inner.ReadingLists.{listed, braced}
use Rattle.c_parse.specs.inner.ReadingDeclarations.{vars_at, members_at, params_at, value}
use Rattle.c_parse.specs.inner.ReadingStatements.{stmt_read}
use Rattle.c_parse.specs.inner.ReadingUnits.{record_by, record_at, enum_at, typedef_at, body_by, function_at, vars_by, typed_by, typed_at, item_by, item_read, Unit_so_far, item_turn, unit_at}
use Rattle.c_parse.proofs.FrontsRead as f
use Rattle.c_parse.proofs.FrontsRead.{bind_ok, ok_at}
use Rattle.c_parse.proofs.Soundness.{Found, repeat_runs, some_at, nothing_read, type_derived}
use Rattle.c_parse.proofs.SoundLists.{listed_sound, end_list-is}
use Rattle.c_parse.proofs.SoundDeclarations.{vars_derived, members_derived, params_derived, value_depth, value_derived, values_deepest}
use Rattle.c_parse.proofs.SoundStatements.{body_derived}

-- ---- what leads say

abbrev flag_in : Bool → ItemLead → Bool
flag_in b (item.Record u) = u
flag_in b _ = b

star_or_void : (b u : Bool) → cond b item.Other item.Void ≡ item.Record u → ⊥
star_or_void true u e = cc
star_or_void false u e = cc

star_or_enum : (b : Bool) → cond b item.Other item.Void ≡ item.Enum → ⊥
star_or_enum true e = cc
star_or_enum false e = cc

star_or_typedef : (b : Bool) → cond b item.Other item.Void ≡ item.Typedef → ⊥
star_or_typedef true e = cc
star_or_typedef false e = cc

record_key : (k : Key) (ts : List Tok) (u : Bool) → key_item k ts ≡ item.Record u → record_word (keyword k) ≡ Some u
record_key key.Struct ts u e = ap (λ (l : ItemLead). Some (flag_in u l)) e
record_key key.Union ts u e = ap (λ (l : ItemLead). Some (flag_in u l)) e
record_key key.Void ts u e = absurd (star_or_void (at_star ts) u e)
record_key _ ts u e = absurd cc

record_is : (ts : List Tok) (u : Bool) → item_at ts ≡ item.Record u → (o : Tok) × (ts ≡ o ∷ behind ts) × (record_word o ≡ Some u)
record_is [] u e = absurd cc
record_is (keyword k ∷ ts) u e = (keyword k, refl, record_key k ts u e)
record_is (_ ∷ ts) u e = absurd cc

enum_key : (k : Key) (ts : List Tok) → key_item k ts ≡ item.Enum → k ≡ key.Enum
enum_key key.Enum ts e = refl
enum_key key.Void ts e = absurd (star_or_enum (at_star ts) e)
enum_key _ ts e = absurd cc

enum_is : (ts : List Tok) → item_at ts ≡ item.Enum → ts ≡ keyword key.Enum ∷ behind ts
enum_is [] e = absurd cc
enum_is (keyword k ∷ ts) e = ap (λ (z : Key). keyword z ∷ ts) (enum_key k ts e)
enum_is (_ ∷ ts) e = absurd cc

typedef_key : (k : Key) (ts : List Tok) → key_item k ts ≡ item.Typedef → k ≡ key.Typedef
typedef_key key.Typedef ts e = refl
typedef_key key.Void ts e = absurd (star_or_typedef (at_star ts) e)
typedef_key _ ts e = absurd cc

typedef_is : (ts : List Tok) → item_at ts ≡ item.Typedef → ts ≡ keyword key.Typedef ∷ behind ts
typedef_is [] e = absurd cc
typedef_is (keyword k ∷ ts) e = ap (λ (z : Key). keyword z ∷ ts) (typedef_key k ts e)
typedef_is (_ ∷ ts) e = absurd cc

void_key : (k : Key) (ts : List Tok) → key_item k ts ≡ item.Void → k ≡ key.Void
void_key key.Void ts e = refl
void_key _ ts e = absurd cc

void_is : (ts : List Tok) → item_at ts ≡ item.Void → ts ≡ keyword key.Void ∷ behind ts
void_is [] e = absurd cc
void_is (keyword k ∷ ts) e = ap (λ (z : Key). keyword z ∷ ts) (void_key k ts e)
void_is (_ ∷ ts) e = absurd cc

-- ---- items

module _ (c : Context) (n : ℕ) where
  abbrev Read : List Tok → Got ItemT → Type 0
  Read ts z = Found (Item c) item_depth (suc n) ts z

  record_sound : (u : Bool) (ts : List Tok) (x : Got ItemT) (o : Tok) → ts ≡ o ∷ behind ts → record_word o ≡ Some u → record_at c n u ts ≡ Ok x → Read ts x
  record_sound u ts x o is w e =
      let a = bind_ok (new (behind ts)) _ x e in
      step a.0 (f.new-is (behind ts) a.0 a.1) (at_semicolon a.0.1) refl a.2
    where
      step : (a : Got (List ℕ)) → behind ts ≡ word a.0 ∷ a.1 → (b : Bool) → at_semicolon a.1 ≡ b → record_by c n ts u a b ≡ Ok x → Read ts x
      step a named true at_end e' =
          let whole : ts ≡ o ∷ word a.0 ∷ mark m.Semicolon ∷ behind a.1 = is ∙ ap (λ (z : List Tok). o ∷ z) (named ∙ ap (λ (z : List Tok). word a.0 ∷ z) (f.at_semicolon-is a.1 at_end)) in
          ok_at (λ (z : Got ItemT). Read ts z) (RecordD u a.0 None (span c ts (behind a.1)), behind a.1) x e'
          (record { derived = subst (λ (z : List Tok). Item c z (RecordD u a.0 None (span c z (behind a.1))) (behind a.1)) (sym whole) (g.forward w); fits = omega arith })
      step a named false at_end e' =
          let p = bind_ok (open_brace a.1) _ x e' in
          let v = bind_ok (members_at (declare a.0 c) n p.0) _ x p.2 in
          let q = bind_ok (close_brace v.0.1) _ x v.2 in
          let r = bind_ok (semicolon q.0) _ x q.2 in
          let d = members_derived (declare a.0 c) n p.0 v.0 v.1 in
          let inner : Members (declare a.0 c) p.0 v.0.0 (mark m.CloseBrace ∷ mark m.Semicolon ∷ r.0) =
          subst (λ (z : List Tok). Members (declare a.0 c) p.0 v.0.0 z) (f.close_brace-is v.0.1 q.0 q.1 ∙ ap (λ (z : List Tok). mark m.CloseBrace ∷ z) (f.semicolon-is q.0 r.0 r.1)) d.derived in
          let whole : ts ≡ o ∷ word a.0 ∷ mark m.OpenBrace ∷ p.0 = is ∙ ap (λ (z : List Tok). o ∷ z) (named ∙ ap (λ (z : List Tok). word a.0 ∷ z) (f.open_brace-is a.1 p.0 p.1)) in
          ok_at (λ (z : Got ItemT). Read ts z) (RecordD u a.0 (Some v.0.0) (span c ts r.0), r.0) x r.2
          (record { derived = subst (λ (z : List Tok). Item c z (RecordD u a.0 (Some v.0.0) (span c z r.0)) r.0) (sym whole) (g.record_ w inner); fits = omega (arith, d.fits) })

  enum_sound : (ts : List Tok) (x : Got ItemT) → ts ≡ keyword key.Enum ∷ behind ts → enum_at c n ts ≡ Ok x → Read ts x
  enum_sound ts x is e =
      let a = bind_ok (new (behind ts)) _ x e in
      let p = bind_ok (open_brace a.0.1) _ x a.2 in
      let v = bind_ok (listed (value c n) p.0) _ x p.2 in
      let q = bind_ok (end_list v.0.1) _ x v.2 in
      let r = bind_ok (semicolon q.0) _ x q.2 in
      let d = listed_sound (Value c) value_depth n (value c n) (value_derived c n) p.0 v.0 v.1 in
      let end : ListEnd v.0.1 (mark m.Semicolon ∷ r.0) = subst (λ (z : List Tok). ListEnd v.0.1 z) (f.semicolon-is q.0 r.0 r.1) (end_list-is v.0.1 q.0 q.1) in
      let whole : ts ≡ keyword key.Enum ∷ word a.0.0 ∷ mark m.OpenBrace ∷ p.0 = is ∙ ap (λ (z : List Tok). keyword key.Enum ∷ z) (f.new-is (behind ts) a.0 a.1 ∙ ap (λ (z : List Tok). word a.0.0 ∷ z) (f.open_brace-is a.0.1 p.0 p.1)) in
      ok_at (λ (z : Got ItemT). Read ts z) (EnumD a.0.0 v.0.0 (span c ts r.0), r.0) x r.2
      (record { derived = subst (λ (z : List Tok). Item c z (EnumD a.0.0 v.0.0 (span c z r.0)) r.0) (sym whole) (g.enum d.derived end); fits = omega (arith, d.fits, values_deepest v.0.0) })

  typedef_sound : (ts : List Tok) (x : Got ItemT) → ts ≡ keyword key.Typedef ∷ behind ts → typedef_at c n ts ≡ Ok x → Read ts x
  typedef_sound ts x is e =
      let y = bind_ok (type_read c n (behind ts)) _ x e in
      let a = bind_ok (new y.0.1) _ x y.2 in
      let r = bind_ok (semicolon a.0.1) _ x a.2 in
      let t = type_derived c n (behind ts) y.0 y.1 in
      let inner : Ty c (behind ts) y.0.0 (word a.0.0 ∷ mark m.Semicolon ∷ r.0) =
      subst (λ (z : List Tok). Ty c (behind ts) y.0.0 z) (f.new-is y.0.1 a.0 a.1 ∙ ap (λ (z : List Tok). word a.0.0 ∷ z) (f.semicolon-is a.0.1 r.0 r.1)) t.derived in
      ok_at (λ (z : Got ItemT). Read ts z) (TypedefD y.0.0 a.0.0 (span c ts r.0), r.0) x r.2
      (record { derived = subst (λ (z : List Tok). Item c z (TypedefD y.0.0 a.0.0 (span c z r.0)) r.0) (sym is) (g.typedef inner); fits = omega (arith, t.fits) })

  function_sound : (ts : List Tok) (y : TypeT) (w : List ℕ) (mid : List Tok) (x : Got ItemT) → Gives c ts y (word w ∷ mid) → type_depth y ≤ n → is_type c w ≡ false → function_at c n ts y w mid ≡ Ok x → Read ts x
  function_sound ts y w mid x d fits free e =
      let p = bind_ok (open_paren mid) _ x e in
      let v = bind_ok (params_at c n p.0) _ x p.2 in
      let q = bind_ok (close_paren v.0.1) _ x v.2 in
      let k = params_derived c n p.0 v.0 v.1 in
      step p.0 v.0.0 q.0 (subst (λ (z : List Tok). Gives c ts y (word w ∷ z)) (f.open_paren-is mid p.0 p.1) d)
      (subst (λ (z : List Tok). Params c p.0 v.0.0 z) (f.close_paren-is v.0.1 q.0 q.1) k.derived) k.fits (at_semicolon q.0) refl q.2
    where
      step : (us : List Tok) (vs : List VarT) (end : List Tok) → Gives c ts y (word w ∷ mark m.OpenParen ∷ us) → Params c us vs (mark m.CloseParen ∷ end) → vars_depth vs ≤ n → (b : Bool) → at_semicolon end ≡ b
          → body_by c n ts y w vs end b ≡ Ok x → Read ts x
      step us vs end d p pf true is e' = ok_at (λ (z : Got ItemT). Read ts z) (FunctionD y w vs None (span c ts (behind end)), behind end) x e'
          (record { derived = g.declared d free (subst (λ (z : List Tok). Params c us vs (mark m.CloseParen ∷ z)) (f.at_semicolon-is end is) p); fits = omega arith })
      step us vs end d p pf false is e' =
          let o = bind_ok (open_brace end) _ x e' in
          let s = bind_ok (braced (stmt_read c n) o.0) _ x o.2 in
          let r = bind_ok (close_brace s.0.1) _ x s.2 in
          let k = body_derived c n o.0 s.0 s.1 in
          let params : Params c us vs (mark m.CloseParen ∷ mark m.OpenBrace ∷ o.0) = subst (λ (z : List Tok). Params c us vs (mark m.CloseParen ∷ z)) (f.open_brace-is end o.0 o.1) p in
          let body : Stmts c o.0 s.0.0 (mark m.CloseBrace ∷ r.0) = subst (λ (z : List Tok). Stmts c o.0 s.0.0 z) (f.close_brace-is s.0.1 r.0 r.1) k.derived in
          ok_at (λ (z : Got ItemT). Read ts z) (FunctionD y w vs (Some (stmts s.0.0)) (span c ts r.0), r.0) x r.2
          (record { derived = g.defined d free params body; fits = omega (arith, k.fits) })

  vars_sound : (ts mid : List Tok) (x : Got ItemT) (b : Bool) → vars_by c n ts mid b ≡ Ok x → Read ts x
  vars_sound ts mid x false e = absurd (nothing_read _ x e)
  vars_sound ts mid x true e =
      let a = bind_ok (vars_at c n ts) _ x e in
      let b = bind_ok (semicolon a.0.1) _ x a.2 in
      let d = vars_derived c n ts a.0 a.1 in
      ok_at (λ (z : Got ItemT). Read ts z) (VarsD a.0.0 (span c ts b.0), b.0) x b.2
      (record { derived = g.vars (subst (λ (z : List Tok). Vars c ts a.0.0 z) (f.semicolon-is a.0.1 b.0 b.1) d.derived); fits = omega (arith, d.fits) })

  typed_sound : (ts : List Tok) (x : Got ItemT) → typed_at c n ts ≡ Ok x → Read ts x
  typed_sound ts x e =
      let y = bind_ok (type_read c n ts) _ x e in
      let a = bind_ok (name c y.0.1) _ x y.2 in
      let t = type_derived c n ts y.0 y.1 in
      step y.0 t.derived t.fits a.0 (f.name-is c y.0.1 a.0 a.1) (at_open_paren a.0.1) a.2
    where
      step : (y : Got TypeT) → Ty c ts y.0 y.1 → type_depth y.0 ≤ n → (a : Got (List ℕ)) → (y.1 ≡ word a.0 ∷ a.1) × (is_type c a.0 ≡ false) → (b : Bool) → typed_by c n ts y.0 a b ≡ Ok x → Read ts x
      step y d fits a i true e' = function_sound ts y.0 a.0 a.1 x (subst (λ (z : List Tok). Gives c ts y.0 z) i.0 (g.gives_type d)) fits i.1 e'
      step y d fits a i false e' = vars_sound ts a.1 x _ e'

  pub item_sound : (ts : List Tok) (x : Got ItemT) → 0 < n → item_read c n ts ≡ Ok x → Read ts x
  item_sound ts x pos e = step (item_at ts) refl e
    where
      step : (k : ItemLead) → item_at ts ≡ k → item_by c n ts k ≡ Ok x → Read ts x
      step (item.Record u) is e' = let i = record_is ts u is in record_sound u ts x i.0 i.1 i.2 e'
      step item.Enum is e' = enum_sound ts x (enum_is ts is) e'
      step item.Typedef is e' = typedef_sound ts x (typedef_is ts is) e'
      step item.Void is e' =
          let a = bind_ok (name c (behind ts)) _ x e' in
          let i = f.name-is c (behind ts) a.0 a.1 in
          let d : Gives c ts VoidY (word a.0.0 ∷ a.0.1) = subst (λ (z : List Tok). Gives c z VoidY (word a.0.0 ∷ a.0.1)) (sym (void_is ts is ∙ ap (λ (z : List Tok). keyword key.Void ∷ z) i.0)) g.gives_void in
          function_sound ts VoidY a.0.0 a.0.1 x d pos i.1 a.2
      step item.Other is e' = typed_sound ts x e'

-- ---- units

abbrev some_turn : Got Unit_so_far → Result (Option (Got Unit_so_far)) Fault
some_turn p = Ok (Some p)

abbrev no_turn : Result (Option (Got Unit_so_far)) Fault
no_turn = Ok None

never : (p : Got Unit_so_far) → some_turn p ≡ no_turn → ⊥
never p e = cc

abbrev UnitFit : ℕ → Unit_so_far → List Tok → Unit_so_far → List Tok → Type 0
UnitFit n a ts x rest = (ds : List ItemT) × (x.1 ≡ a.1 ++ ds) × Items a.0 ts ds × (unit_depth ds ≤ suc n)

unit_loop : (n : ℕ) → 0 < n → (a : Unit_so_far) (ts : List Tok) (x : Got Unit_so_far) → loop (item_turn n) a ts ≡ Ok x → UnitFit n a ts x.0 x.1
unit_loop n pos a ts x e = repeat_runs (item_turn n) (UnitFit n) end more (suc (length ts)) a ts x e
  where
    end : (a : Unit_so_far) (ts : List Tok) → item_turn n a ts ≡ Ok None → UnitFit n a ts a ts
    end a [] is = ([], sym (append-nil a.1), g.end, omega arith)
    end a (o ∷ ts) is = let d = bind_ok (item_read a.0 n (o ∷ ts)) _ _ is in absurd (never _ d.2)

    more : (a : Unit_so_far) (ts : List Tok) (b x : Unit_so_far) (us rest : List Tok) → item_turn n a ts ≡ Ok (Some (b, us)) → UnitFit n b us x rest → UnitFit n a ts x rest
    more a [] b x us rest is back = absurd cc
    more a (o ∷ ts) b x us rest is back =
        let d = bind_ok (item_read a.0 n (o ∷ ts)) _ _ is in
        let s = item_sound a.0 n (o ∷ ts) d.0 pos d.1 in
        some_at (λ (z : Got Unit_so_far). UnitFit n z.0 z.1 x rest → UnitFit n a (o ∷ ts) x rest) ((behind_item d.0.0 a.0, a.1 ++ d.0.0 ∷ []), d.0.1) (b, us) d.2
        (λ h. (d.0.0 ∷ h.0, h.1 ∙ append_assoc a.1 (d.0.0 ∷ []) h.0, g.more s.derived h.2, omega (arith, s.fits, h.3))) back

-- what is read is derived, with so many trees on a path at most
pub unit_derived : (n : ℕ) (ts : List Tok) (ds : List ItemT) → 0 < n → unit_at n ts ≡ Ok ds → Unit_ ts ds × (unit_depth ds ≤ suc n)
unfolding unit_at
unit_derived n ts ds pos e =
    let a = bind_ok (loop (item_turn n) (record { total = length ts; types = [] }, []) ts) _ ds e in
    let k = unit_loop n pos (record { total = length ts; types = [] }, []) ts a.0 a.1 in
    ok_at (λ (z : List ItemT). Unit_ ts z × (unit_depth z ≤ suc n)) a.0.0.1 ds a.2
    (subst (λ (z : List ItemT). Unit_ ts z × (unit_depth z ≤ suc n)) (sym k.1) (k.2, k.3))
