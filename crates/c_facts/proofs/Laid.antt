-- Structures and unions while a unit is read: one that is declared whole is laid out by the layouts of the time, one that is not has no members.
use Rattle.std.proofs.Common.{◌≡◌, ◌⊎◌, ℕ, ◌+◌, ◌<◌, ◌≤◌, Bool, true, false, max, List, [], ◌∷◌, ◌++◌, length, Option, Some, None, refl, sym, ap, ◌∙◌, subst, inl, inr, arith, length-append, length-set}
use Rattle.std.specs.Prelude.{slice_get, slice_set}
use Rattle.std.proofs.lemmas.Option.{slice_get_within}
use Rattle.std.proofs.lemmas.Bool.{cases_eq, cases_Bool}
use Rattle.c_types.specs.Types.{Ty, MemberT, LayoutT}
use Rattle.c_types.specs.Sizes.{words_of, no_layout, next_offset, with_member, Follow, Overlap, IsPlacedAs, IsPlaced}
use Rattle.c_rules.specs.Kinds.{holds}
use Rattle.c_rules.specs.Sizes.{is_declared, is_whole, type_limit}
use Rattle.c_exprs.specs.Env.{Text}
use Rattle.c_check.specs.Reading.{has_members}
use Rattle.c_facts.proofs.Within.{Grows, AllWhole}
use Rattle.c_facts.proofs.Fronts.{begins_more, begins_at, last_or_before, within_at, others_stay, replaced_there}
use Rattle.c_facts.specs.Sound.{kind_at}
use Rattle.c_facts.proofs.LayoutKinds.{kind_more, kind_replaced}
use Rattle.c_facts.proofs.Growth.{whole_later, words_later}

-- a structure or union that is declared whole
pub record AreLaid (layouts : List LayoutT) (whole : List Bool) (l : LayoutT) : Type 0 where
  pub places : IsPlaced layouts l
  pub members : AllWhole whole l.members
  pub some : has_members l ≡ true
  pub size : l.size ≤ type_limit

pub record AreDeclared (layouts : List LayoutT) (whole : List Bool) : Type 0 where
  pub equal : length whole ≡ length layouts
  pub empty : (k : ℕ) (l : LayoutT) → is_declared whole k ≡ false → slice_get layouts k ≡ Some l → l ≡ no_layout l.is_union
  pub laid : (k : ℕ) (l : LayoutT) → is_declared whole k ≡ true → slice_get layouts k ≡ Some l → AreLaid layouts whole l

pub none_declared : AreDeclared [] []
none_declared = record { equal = refl; empty = λ k l h e. absurd cc; laid = λ k l h e. absurd cc }

-- ---- what is laid out stays so

all_whole_stay : {layouts later : List LayoutT} {whole all : List Bool} → Grows layouts whole later all → (ms : List MemberT) → AllWhole whole ms → AllWhole all ms
all_whole_stay g [] h = tt
all_whole_stay g (m ∷ ms) h = (whole_later g m.ty h.0, all_whole_stay g ms h.1)

follow_stays : {layouts later : List LayoutT} {whole all : List Bool} → Grows layouts whole later all → (start end : ℕ) (ms : List MemberT) → AllWhole whole ms → Follow layouts start ms end → Follow later start ms end
follow_stays g start end [] h f = f
follow_stays {layouts = layouts} {later = later} g start end (m ∷ ms) h f = (f.0, follow_stays g (start + words_of later m.ty) end ms h.1 (subst (λ n. Follow layouts (start + n) ms end) (words_later g m.ty h.0) f.1))

overlap_stays : {layouts later : List LayoutT} {whole all : List Bool} → Grows layouts whole later all → (greatest size : ℕ) (ms : List MemberT) → AllWhole whole ms → Overlap layouts greatest ms size → Overlap later greatest ms size
overlap_stays g greatest size [] h f = f
overlap_stays {layouts = layouts} {later = later} g greatest size (m ∷ ms) h f = (f.0, overlap_stays g (max greatest (words_of later m.ty)) size ms h.1 (subst (λ n. Overlap layouts (max greatest n) ms size) (words_later g m.ty h.0) f.1))

places_stay : {layouts later : List LayoutT} {whole all : List Bool} → Grows layouts whole later all → (l : LayoutT) → AllWhole whole l.members → IsPlaced layouts l → IsPlaced later l
places_stay {layouts = layouts} {later = later} g l h p = by l.is_union p
  where
    by : (u : Bool) → IsPlacedAs layouts l u → IsPlacedAs later l u
    by true f = overlap_stays g 0 l.size l.members h f
    by false f = follow_stays g 0 l.size l.members h f

pub laid_stays : {layouts later : List LayoutT} {whole all : List Bool} → Grows layouts whole later all → (l : LayoutT) → AreLaid layouts whole l → AreLaid later all l
laid_stays g l h = record { places = places_stay g l h.members h.places; members = all_whole_stay g l.members h.members; some = h.some; size = h.size }

-- ---- tests of numbers

pub declared_there : (whole : List Bool) (k : ℕ) → is_declared whole k ≡ true → slice_get whole k ≡ Some true
declared_there whole k h = by (slice_get whole k) h
  where
    by : (o : Option Bool) → holds (λ declared. declared) o ≡ true → o ≡ Some true
    by None h = absurd cc
    by (Some b) h = ap Some h

declared_by : (whole : List Bool) (k : ℕ) → slice_get whole k ≡ Some true → is_declared whole k ≡ true
declared_by whole k h = rw h refl

-- ---- one more that has no members yet

pub record_grows : (u : Bool) (layouts : List LayoutT) (whole : List Bool) → AreDeclared layouts whole → Grows layouts whole (layouts ++ no_layout u ∷ []) (whole ++ false ∷ [])
record_grows u layouts whole a = record {
  kept = λ k l e. inr (begins_at layouts (layouts ++ no_layout u ∷ []) k l (begins_more layouts (no_layout u ∷ [])) e);
  fixed = λ k h. (more k h, there k (within_at layouts k (omega (arith, a.equal, slice_get_within whole k true (declared_there whole k h)))));
  few = omega (arith, length-append layouts (no_layout u ∷ []));
  kinds = λ k v e. kind_more layouts (no_layout u ∷ []) k v e;
}
  where
    more : (k : ℕ) → is_declared whole k ≡ true → is_declared (whole ++ false ∷ []) k ≡ true
    more k h = declared_by (whole ++ false ∷ []) k (begins_at whole (whole ++ false ∷ []) k true (begins_more whole (false ∷ [])) (declared_there whole k h))

    there : (k : ℕ) → (l : LayoutT) × (slice_get layouts k ≡ Some l) → slice_get layouts k ≡ slice_get (layouts ++ no_layout u ∷ []) k
    there k p = p.1 ∙ sym (begins_at layouts (layouts ++ no_layout u ∷ []) k p.0 (begins_more layouts (no_layout u ∷ [])) p.1)

pub declared_before : (whole : List Bool) (k : ℕ) → is_declared (whole ++ false ∷ []) k ≡ true → is_declared whole k ≡ true
declared_before whole k h = by (last_or_before whole false k true (declared_there (whole ++ false ∷ []) k h))
  where
    by : (slice_get whole k ≡ Some true) ⊎ ((k ≡ length whole) × (false ≡ true)) → is_declared whole k ≡ true
    by (inl e) = declared_by whole k e
    by (inr e) = absurd (cc e.1)

not_declared_before : (whole : List Bool) (k : ℕ) → is_declared (whole ++ false ∷ []) k ≡ false → is_declared whole k ≡ false
not_declared_before whole k h = by (cases_Bool (is_declared whole k))
  where
    by : (is_declared whole k ≡ true) ⊎ (is_declared whole k ≡ false) → is_declared whole k ≡ false
    by (inl e) = let f = declared_by (whole ++ false ∷ []) k (begins_at whole (whole ++ false ∷ []) k true (begins_more whole (false ∷ [])) (declared_there whole k e)) in absurd cc
    by (inr e) = e

pub record_declared : (u : Bool) (layouts : List LayoutT) (whole : List Bool) → AreDeclared layouts whole → AreDeclared (layouts ++ no_layout u ∷ []) (whole ++ false ∷ [])
record_declared u layouts whole a = record {
  equal = omega (arith, a.equal, length-append layouts (no_layout u ∷ []), length-append whole (false ∷ []));
  empty = λ k l h e. empty_by k l (not_declared_before whole k h) (last_or_before layouts (no_layout u) k l e);
  laid = λ k l h e. laid_by k l (declared_before whole k h) (last_or_before layouts (no_layout u) k l e);
}
  where
    empty_by : (k : ℕ) (l : LayoutT) → is_declared whole k ≡ false → (slice_get layouts k ≡ Some l) ⊎ ((k ≡ length layouts) × (no_layout u ≡ l)) → l ≡ no_layout l.is_union
    empty_by k l h (inl e) = a.empty k l h e
    empty_by k l h (inr e) = subst (λ (m : LayoutT). m ≡ no_layout m.is_union) e.1 refl

    laid_by : (k : ℕ) (l : LayoutT) → is_declared whole k ≡ true → (slice_get layouts k ≡ Some l) ⊎ ((k ≡ length layouts) × (no_layout u ≡ l)) → AreLaid (layouts ++ no_layout u ∷ []) (whole ++ false ∷ []) l
    laid_by k l h (inl e) = laid_stays (record_grows u layouts whole a) l (a.laid k l h e)
    laid_by k l h (inr e) = absurd (omega (arith, a.equal, e.0, slice_get_within whole k true (declared_there whole k h)))

-- ---- one that is declared whole

not_both : (whole : List Bool) (n k : ℕ) → is_declared whole n ≡ false → is_declared whole k ≡ true → k ≡ n → ⊥
not_both whole n k h g e = let f : is_declared whole n ≡ true = subst (λ j. is_declared whole j ≡ true) e g in absurd cc

pub layout_grows : (layouts : List LayoutT) (whole : List Bool) (n : ℕ) (l : LayoutT) → AreDeclared layouts whole → is_declared whole n ≡ false → kind_at layouts n ≡ Some l.is_union → Grows layouts whole (slice_set layouts n l) (slice_set whole n true)
layout_grows layouts whole n l a h kind = record {
  kept = λ k m e. kept_by k m e (cases_eq k n);
  fixed = λ k g. (ap (λ o. holds (λ (declared : Bool). declared) o) (others_stay whole n true k (not_both whole n k h g)) ∙ g, sym (others_stay layouts n l k (not_both whole n k h g)));
  few = omega (arith, length-set layouts n l);
  kinds = λ k u e. kind_replaced layouts n l kind k u e;
}
  where
    kept_by : (k : ℕ) (m : LayoutT) → slice_get layouts k ≡ Some m → (k ≡ n) ⊎ (k ≡ n → ⊥) → (m ≡ no_layout m.is_union) ⊎ (slice_get (slice_set layouts n l) k ≡ Some m)
    kept_by k m e (inl s) = inl (a.empty n m h (subst (λ j. slice_get layouts j ≡ Some m) s e))
    kept_by k m e (inr s) = inr (others_stay layouts n l k s ∙ e)

pub layout_declared : (layouts : List LayoutT) (whole : List Bool) (n : ℕ) (l : LayoutT) → AreDeclared layouts whole → is_declared whole n ≡ false → kind_at layouts n ≡ Some l.is_union → AreLaid layouts whole l → AreDeclared (slice_set layouts n l) (slice_set whole n true)
layout_declared layouts whole n l a h kind r = record {
  equal = length-set whole n true ∙ a.equal ∙ sym (length-set layouts n l);
  empty = λ k m d e. empty_by k m d e (cases_eq k n);
  laid = λ k m d e. laid_by k m d e (cases_eq k n);
}
  where
    grown : Grows layouts whole (slice_set layouts n l) (slice_set whole n true)
    grown = layout_grows layouts whole n l a h kind

    inside : (k : ℕ) (m : LayoutT) → slice_get (slice_set layouts n l) k ≡ Some m → k < length layouts
    inside k m e = omega (arith, length-set layouts n l, slice_get_within (slice_set layouts n l) k m e)

    empty_by : (k : ℕ) (m : LayoutT) → is_declared (slice_set whole n true) k ≡ false → slice_get (slice_set layouts n l) k ≡ Some m → (k ≡ n) ⊎ (k ≡ n → ⊥) → m ≡ no_layout m.is_union
    empty_by k m d e (inl s) =
        let f = declared_by (slice_set whole n true) n (replaced_there whole n true (omega (arith, a.equal, s, inside k m e))) in
        let g : is_declared (slice_set whole n true) n ≡ false = subst (λ j. is_declared (slice_set whole n true) j ≡ false) s d in
        absurd cc
    empty_by k m d e (inr s) = a.empty k m (sym (ap (λ o. holds (λ (declared : Bool). declared) o) (others_stay whole n true k s)) ∙ d) (sym (others_stay layouts n l k s) ∙ e)

    laid_by : (k : ℕ) (m : LayoutT) → is_declared (slice_set whole n true) k ≡ true → slice_get (slice_set layouts n l) k ≡ Some m → (k ≡ n) ⊎ (k ≡ n → ⊥) → AreLaid (slice_set layouts n l) (slice_set whole n true) m
    laid_by k m d e (inl s) =
        let f = replaced_there layouts n l (omega (arith, s, inside k m e)) in
        let g : slice_get (slice_set layouts n l) n ≡ Some m = subst (λ j. slice_get (slice_set layouts n l) j ≡ Some m) s e in
        let same : l ≡ m = cc in
        subst (λ x. AreLaid (slice_set layouts n l) (slice_set whole n true) x) same (laid_stays grown l r)
    laid_by k m d e (inr s) = laid_stays grown m (a.laid k m (sym (ap (λ o. holds (λ (declared : Bool). declared) o) (others_stay whole n true k s)) ∙ d) (sym (others_stay layouts n l k s) ∙ e))

-- ---- members

follow_more : (layouts : List LayoutT) (start end : ℕ) (ms : List MemberT) (m : MemberT) → Follow layouts start ms end → m.offset ≡ end → Follow layouts start (ms ++ m ∷ []) (end + words_of layouts m.ty)
follow_more layouts start end [] m f e = (e ∙ sym f, ap (λ n. n + words_of layouts m.ty) f)
follow_more layouts start end (x ∷ ms) m f e = (f.0, follow_more layouts (start + words_of layouts x.ty) end ms m f.1 e)

overlap_more : (layouts : List LayoutT) (greatest size : ℕ) (ms : List MemberT) (m : MemberT) → Overlap layouts greatest ms size → m.offset ≡ 0 → Overlap layouts greatest (ms ++ m ∷ []) (max size (words_of layouts m.ty))
overlap_more layouts greatest size [] m f e = (e, ap (λ n. max n (words_of layouts m.ty)) f)
overlap_more layouts greatest size (x ∷ ms) m f e = (f.0, overlap_more layouts (max greatest (words_of layouts x.ty)) size ms m f.1 e)

whole_more : (whole : List Bool) (ms : List MemberT) (m : MemberT) → AllWhole whole ms → is_whole whole m.ty ≡ true → AllWhole whole (ms ++ m ∷ [])
whole_more whole [] m h e = (e, tt)
whole_more whole (x ∷ ms) m h e = (h.0, whole_more whole ms m h.1 e)

-- the members so far
pub record AreMembers (layouts : List LayoutT) (whole : List Bool) (l : LayoutT) : Type 0 where
  pub places : IsPlaced layouts l
  pub members : AllWhole whole l.members

pub no_members_yet : (layouts : List LayoutT) (whole : List Bool) (is_union : Bool) → AreMembers layouts whole (no_layout is_union)
no_members_yet layouts whole true = record { places = refl; members = tt }
no_members_yet layouts whole false = record { places = refl; members = tt }

pub one_member_more : (layouts : List LayoutT) (whole : List Bool) (l : LayoutT) (name : Text) (ty : Ty) (n : ℕ) → AreMembers layouts whole l → is_whole whole ty ≡ true → words_of layouts ty ≡ n → AreMembers layouts whole (with_member l name ty n)
one_member_more layouts whole l name ty n a h e = record {
  places = by l.is_union l.members l.size a.places;
  members = whole_more whole l.members (record { name = name; offset = next_offset l; ty = ty }) a.members h;
}
  where
    by : (u : Bool) (ms : List MemberT) (s : ℕ) → IsPlaced layouts (record { is_union = u; members = ms; size = s }) → IsPlaced layouts (with_member (record { is_union = u; members = ms; size = s }) name ty n)
    by true ms s p = subst (λ k. Overlap layouts 0 (ms ++ record { name = name; offset = 0; ty = ty } ∷ []) (max s k)) e (overlap_more layouts 0 s ms (record { name = name; offset = 0; ty = ty }) p refl)
    by false ms s p = subst (λ k. Follow layouts 0 (ms ++ record { name = name; offset = s; ty = ty } ∷ []) (s + k)) e (follow_more layouts 0 s ms (record { name = name; offset = s; ty = ty }) p refl)

pub members_laid : (layouts : List LayoutT) (whole : List Bool) (l : LayoutT) → AreMembers layouts whole l → has_members l ≡ true → l.size ≤ type_limit → AreLaid layouts whole l
members_laid layouts whole l a some h = record { places = a.places; members = a.members; some = some; size = h }
