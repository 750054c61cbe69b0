-- Which layouts are those of unions.
use Rattle.std.proofs.Common.{◌≡◌, ◌⊎◌, inl, inr, ℕ, ◌<◌, Bool, List, [], ◌∷◌, ◌++◌, length, Option, Some, None, refl, sym, ap, ◌∙◌, subst}
use Rattle.std.specs.Prelude.{slice_get, slice_set, option_map}
use Rattle.std.proofs.lemmas.Option.{slice_get_within}
use Rattle.std.proofs.lemmas.Bool.{cases_eq}
use Rattle.c_types.specs.Types.{LayoutT}
use Rattle.c_facts.specs.Sound.{kind_at}
use Rattle.c_facts.proofs.Fronts.{begins_more, begins_at, last_at, others_stay, replaced_there}

-- the layout of a number that has a kind
pub kind_there : (layouts : List LayoutT) (k : ℕ) (u : Bool) → kind_at layouts k ≡ Some u → (l : LayoutT) × (slice_get layouts k ≡ Some l) × (l.is_union ≡ u)
kind_there layouts k u h = by (slice_get layouts k) refl h
  where
    by : (o : Option LayoutT) → slice_get layouts k ≡ o → option_map (λ (l : LayoutT). l.is_union) o ≡ Some u → (l : LayoutT) × (slice_get layouts k ≡ Some l) × (l.is_union ≡ u)
    by None e h = absurd cc
    by (Some l) e h = (l, e, cc)

pub kind_is : (layouts : List LayoutT) (k : ℕ) (l : LayoutT) → slice_get layouts k ≡ Some l → kind_at layouts k ≡ Some l.is_union
kind_is layouts k l e = ap (λ (o : Option LayoutT). option_map (λ (x : LayoutT). x.is_union) o) e

pub kind_within : (layouts : List LayoutT) (k : ℕ) (u : Bool) → kind_at layouts k ≡ Some u → k < length layouts
kind_within layouts k u h = let t = kind_there layouts k u h in slice_get_within layouts k t.0 t.1

-- one more layout leaves the kinds of those before it
pub kind_more : (layouts more : List LayoutT) (k : ℕ) (u : Bool) → kind_at layouts k ≡ Some u → kind_at (layouts ++ more) k ≡ Some u
kind_more layouts more k u h =
    let t = kind_there layouts k u h in
    kind_is (layouts ++ more) k t.0 (begins_at layouts (layouts ++ more) k t.0 (begins_more layouts more) t.1) ∙ ap Some t.2

pub kind_last : (layouts : List LayoutT) (l : LayoutT) → kind_at (layouts ++ l ∷ []) (length layouts) ≡ Some l.is_union
kind_last layouts l = kind_is (layouts ++ l ∷ []) (length layouts) l (last_at layouts l)

-- and so does one that takes the place of one of its kind
pub kind_replaced : (layouts : List LayoutT) (n : ℕ) (l : LayoutT) → kind_at layouts n ≡ Some l.is_union → (k : ℕ) (u : Bool) → kind_at layouts k ≡ Some u → kind_at (slice_set layouts n l) k ≡ Some u
kind_replaced layouts n l same k u h = by (cases_eq k n)
  where
    by : (k ≡ n) ⊎ (k ≡ n → ⊥) → kind_at (slice_set layouts n l) k ≡ Some u
    by (inl e) =
        let at : kind_at layouts n ≡ Some u = subst (λ j. kind_at layouts j ≡ Some u) e h in
        let now : kind_at (slice_set layouts n l) n ≡ Some l.is_union = kind_is (slice_set layouts n l) n l (replaced_there layouts n l (kind_within layouts n l.is_union same)) in
        subst (λ j. kind_at (slice_set layouts n l) j ≡ Some u) (sym e) (now ∙ sym same ∙ at)
    by (inr e) = ap (λ (o : Option LayoutT). option_map (λ (x : LayoutT). x.is_union) o) (others_stay layouts n l k e) ∙ h
