-- What is read of a structure with too many words.
use Rattle.std.specs.Str.{bytes_eq}
use Rattle.std.proofs.Common.{◌≡◌, ℕ, ◌+◌, ◌-◌, ◌^◌, ◌≤◌, ◌==◌, Bool, true, false, not, cond, min, max, List, [], ◌∷◌, ◌++◌, length, map, is_some, nat_le, Some, None, Result, Ok, Err, refl, sym, ap, ap₂, ◌∙◌, subst, arith}
use Rattle.std.proofs.lemmas.Bool.{leb-true}
use Rattle.std.proofs.lemmas.List.{map-append, length-map}
use Rattle.c_tree.specs.declared.span.Span.{Span}
use Rattle.c_tree.specs.Tree.{VarT, RecordD}
use Rattle.c_types.specs.Types.{Ty, MemberT, LayoutT}
use Rattle.c_types.specs.Sizes.{no_layout, next_offset, size_with, with_member, capped, member_named}
use Rattle.c_rules.specs.declared.code.Code.{Code}
use Rattle.c_rules.specs.declared.code.Code.TheVariants.{Twice, WrongType, TooLarge}
use Rattle.c_rules.specs.Sizes.{is_declared, type_limit}
use Rattle.c_rules.specs.Rules.{judged}
use Rattle.c_rules.specs.Nodes.{size_rule}
use Rattle.c_exprs.specs.Calls.{ensured}
use Rattle.c_exprs.specs.Env.{Text}
use Rattle.c_exprs.specs.declared.error.Fault.{Fault}
use Rattle.c_exprs.specs.Faults.{◌>>=◌, placed}
use Rattle.c_check.specs.Reading.{Un, member_size, has_members, whole_record, members_declared, record_entered, record_number, with_layout}
use Rattle.c_check.specs.inner.ItemTyping.{Reads, type_at, member, members, item}
use Rattle.c_check.specs.inner.Steps.{counted, counted_members, counted_record, held_member, held}

abbrev pub held_so : Reads LayoutT → Reads LayoutT
held_so r = r >>= λ x. Ok (held x.0, x.1)

-- ---- one member

held_names : (n : Text) (ms : List MemberT) → is_some (member_named n (map held_member ms)) ≡ is_some (member_named n ms)
held_names n [] = refl
held_names n (m ∷ ms) = elim (bytes_eq n m.name) as (λ b. is_some (cond b (Some (held_member m)) (member_named n (map held_member ms))) ≡ is_some (cond b (Some m) (member_named n ms))) [
  | true ↦ refl
  | false ↦ held_names n ms
]

held_with : (l : LayoutT) (n : Text) (ty : Ty) (w : ℕ) → capped (with_member (held l) n ty w) ≡ held (with_member l n ty w)
held_with l n ty w = by l.is_union l.members l.size
  where
    by : (u : Bool) (ms : List MemberT) (s : ℕ) → capped (with_member (held (record { is_union = u; members = ms; size = s })) n ty w) ≡ held (with_member (record { is_union = u; members = ms; size = s }) n ty w)
    by true ms s = ap₂ (λ (xs : List MemberT) (k : ℕ). record { is_union = true; members = xs; size = k }) (sym (map-append held_member ms (record { name = n; offset = 0; ty = ty } ∷ []))) (omega arith)
    by false ms s = ap₂ (λ (xs : List MemberT) (k : ℕ). record { is_union = false; members = xs; size = k }) (sym (map-append held_member ms (record { name = n; offset = s; ty = ty } ∷ []))) (omega arith)

held_step : (un : Un) (l : LayoutT) (v : VarT) → counted (member un (held l) v) ≡ held_so (member un l v)
unfolding member member_size
held_step un l v = by (type_at un v.span v.ty)
  where
    by : (r : Reads Ty) → counted (r >>= λ t. placed v.span (member_size t.1 (held l) v.name t.0) >>= λ n. Ok (with_member (held l) v.name t.0 n, t.1)) ≡ held_so (r >>= λ t. placed v.span (member_size t.1 l v.name t.0) >>= λ n. Ok (with_member l v.name t.0 n, t.1))
    by (Err e) = refl
    by (Ok t) = rw (held_names v.name l.members) (sized (placed v.span (ensured Twice (not (is_some (member_named v.name l.members))) (judged (size_rule t.1.layouts t.1.whole t.0)))))
      where
        sized : (q : Result ℕ Fault) → counted (q >>= λ n. Ok (with_member (held l) v.name t.0 n, t.1)) ≡ held_so (q >>= λ n. Ok (with_member l v.name t.0 n, t.1))
        sized (Err e) = refl
        sized (Ok n) = ap (λ (x : LayoutT). Ok (x, t.1)) (held_with l v.name t.0 n)

members_end : (r : Reads LayoutT) → (r >>= λ xs. Ok (xs.0, xs.1)) ≡ r
members_end (Ok x) = refl
members_end (Err e) = refl

pub members_held : (un : Un) (l : LayoutT) (vs : List VarT) → counted_members un (held l) vs ≡ held_so (members un l vs)
members_held un l [] = refl
members_held un l (v ∷ vs) = ap (λ (r : Reads LayoutT). r >>= λ x. counted_members x.1 x.0 vs) (held_step un l v) ∙ by (λ x. members_held x.1 x.0 vs) (member un l v)
  where
    by : ((x : LayoutT × Un) → counted_members x.1 (held x.0) vs ≡ held_so (members x.1 x.0 vs)) → (r : Reads LayoutT) → (held_so r >>= λ x. counted_members x.1 x.0 vs) ≡ held_so (r >>= λ x. members x.1 x.0 vs >>= λ xs. Ok (xs.0, xs.1))
    by rest (Err e) = refl
    by rest (Ok x) = rest x ∙ ap held_so (sym (members_end (members x.1 x.0 vs)))

-- ---- a member begins within its structure

abbrev pub AllIn : ℕ → List MemberT → Type 0
AllIn size [] = Unit {0}
AllIn size (m ∷ ms) = (m.offset ≤ size) × AllIn size ms

abbrev pub InSize : LayoutT → Type 0
InSize l = AllIn l.size l.members

abbrev pub ReadIn : Reads LayoutT → Type 0
ReadIn (Err e) = Unit {0}
ReadIn (Ok x) = InSize x.0

in_more : (size later : ℕ) (ms : List MemberT) (m : MemberT) → AllIn size ms → size ≤ later → m.offset ≤ later → AllIn later (ms ++ m ∷ [])
in_more size later [] m h p q = (q, tt)
in_more size later (x ∷ ms) m h p q = (omega (arith, h.0), in_more size later ms m h.1 p q)

in_with : (l : LayoutT) (n : Text) (ty : Ty) (w : ℕ) → InSize l → InSize (with_member l n ty w)
in_with l n ty w h = by l.is_union l.members l.size h
  where
    by : (u : Bool) (ms : List MemberT) (s : ℕ) → AllIn s ms → InSize (with_member (record { is_union = u; members = ms; size = s }) n ty w)
    by true ms s h = in_more s (max s w) ms (record { name = n; offset = 0; ty = ty }) h (omega arith) (omega arith)
    by false ms s h = in_more s (s + w) ms (record { name = n; offset = s; ty = ty }) h (omega arith) (omega arith)

member_in : (un : Un) (l : LayoutT) (v : VarT) → InSize l → ReadIn (member un l v)
unfolding member
member_in un l v h = by (type_at un v.span v.ty)
  where
    sized : (t : Ty × Un) (r : Result ℕ Fault) → ReadIn (r >>= λ n. Ok (with_member l v.name t.0 n, t.1))
    sized t (Err e) = tt
    sized t (Ok n) = in_with l v.name t.0 n h

    by : (r : Reads Ty) → ReadIn (r >>= λ t. placed v.span (member_size t.1 l v.name t.0) >>= λ n. Ok (with_member l v.name t.0 n, t.1))
    by (Err e) = tt
    by (Ok t) = sized t (placed v.span (member_size t.1 l v.name t.0))

pub members_in : (un : Un) (l : LayoutT) (vs : List VarT) → InSize l → ReadIn (members un l vs)
members_in un l [] h = h
members_in un l (v ∷ vs) h = by (λ x. members_in x.1 x.0 vs) (member un l v) (member_in un l v h)
  where
    by : ((x : LayoutT × Un) → InSize x.0 → ReadIn (members x.1 x.0 vs)) → (r : Reads LayoutT) → ReadIn r → ReadIn (r >>= λ x. members x.1 x.0 vs >>= λ xs. Ok (xs.0, xs.1))
    by rest (Err e) h = tt
    by rest (Ok x) h = subst ReadIn (sym (members_end (members x.1 x.0 vs))) (rest x h)

-- ---- one that is small enough stands in memory as it is

all_held : (size : ℕ) (ms : List MemberT) → AllIn size ms → size ≤ type_limit → map held_member ms ≡ ms
all_held size [] h s = refl
all_held size (m ∷ ms) h s = ap₂ (λ (x : MemberT) (xs : List MemberT). x ∷ xs) (ap (λ (o : ℕ). record m { offset = o }) (short m.offset h.0)) (all_held size ms h.1 s)
  where
    short : (o : ℕ) → o ≤ size → min o (2 ^ 32 - 1) ≡ o
    short o h = omega (arith, s)

held_small : (l : LayoutT) → InSize l → l.size ≤ type_limit → held l ≡ l
held_small l h s = ap₂ (λ (ms : List MemberT) (k : ℕ). record { is_union = l.is_union; members = ms; size = k }) (all_held l.size l.members h s) (omega (arith, s))

held_fits : (s : ℕ) → nat_le (min s (2 ^ 32 - 1)) type_limit ≡ nat_le s type_limit
held_fits s = grind arith

held_declared : (u : Bool) (n : Text) (un : Un) (l : LayoutT) → members_declared u n un (held l) ≡ members_declared u n un l
unfolding members_declared
held_declared u n un l = by (record_number u n un)
  where
    by : (r : Result ℕ Code) → whole_record un (held l) r ≡ whole_record un l r
    by (Err k) = refl
    by (Ok k) = rw (length-map l.members held_member, held_fits l.size) refl

declared_small : (u : Bool) (n : Text) (un : Un) (l : LayoutT) (k : ℕ) → members_declared u n un l ≡ Ok k → l.size ≤ type_limit
unfolding members_declared
declared_small u n un l k h = by (record_number u n un) h
  where
    rule : (a b c : Bool) (j : ℕ) → ensured Twice a (ensured WrongType b (ensured TooLarge c (Ok j))) ≡ Ok k → c ≡ true
    rule true true true j h = refl
    rule true true false j h = absurd cc
    rule true false c j h = absurd cc
    rule false b c j h = absurd cc

    by : (r : Result ℕ Code) → whole_record un l r ≡ Ok k → l.size ≤ type_limit
    by (Err e) h = absurd cc
    by (Ok j) h = leb-true l.size type_limit (rule (not (is_declared un.whole j)) (has_members l) (nat_le l.size type_limit) j h)

-- A structure that is read as it stands in memory is that of the rule.
abbrev pub with_record : Span → Bool → Text → LayoutT × Un → Reads (Unit {0})
with_record s u n l = placed s (members_declared u n l.1 l.0) >>= λ k. Ok (tt, with_layout k l.0 l.1)

record_from : (s : Span) (u : Bool) (n : Text) (r : Reads LayoutT) → ReadIn r → (held_so r >>= with_record s u n) ≡ (r >>= with_record s u n)
record_from s u n (Err e) h = refl
record_from s u n (Ok x) h = rw (held_declared u n x.1 x.0) (by (members_declared u n x.1 x.0) refl)
  where
    kept : LayoutT → ℕ → Reads (Unit {0})
    kept l k = Ok (tt, with_layout k l x.1)

    by : (q : Result ℕ Code) → members_declared u n x.1 x.0 ≡ q → (placed s q >>= λ k. kept (held x.0) k) ≡ (placed s q >>= λ k. kept x.0 k)
    by (Err e) g = refl
    by (Ok k) g = ap (λ (l : LayoutT). kept l k) (held_small x.0 h (declared_small u n x.1 x.0 k g))

pub record_so : (un : Un) (u : Bool) (n : Text) (vs : List VarT) (s : Span) → counted_record un u n vs s ≡ item un (RecordD u n (Some vs) s)
unfolding counted_record item
record_so un u n vs s =
    let entered = record_entered u n un in
    ap (λ (r : Reads LayoutT). r >>= with_record s u n) (members_held entered (no_layout u) vs)
    ∙ record_from s u n (members entered (no_layout u) vs) (members_in entered (no_layout u) vs tt)
