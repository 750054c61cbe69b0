-- What follows of types that are known.
use Rattle.std.proofs.Common.{◌≡◌, ◌⊎◌, inl, inr, ℕ, zero, suc, ◌<◌, ◌≤◌, Bool, true, false, ◌&&◌, ◌||◌, not, List, [], ◌∷◌, length, Option, Some, None, refl, sym, ap, ◌∙◌, subst, arith}
use Rattle.std.specs.Prelude.{slice_get}
use Rattle.std.specs.Option.{option_map_or}
use Rattle.std.proofs.lemmas.Bool.{and_parts}
use Rattle.std.proofs.lemmas.Option.{slice_get-map}
use Rattle.c_types.specs.Types.{Ty, VoidY, IntY, BoolY, EnumY, StructY, UnionY, PointerY, ArrayY, LayoutT}
use Rattle.c_types.specs.Sizes.{words_of, IsNumbered}
use Rattle.c_types.specs.Programs.{ProgramT}
use Rattle.c_rules.specs.Kinds.{is_number, is_array, holds, leads_alike, pointers_convert, same_type, converts, can_cast}
use Rattle.c_types.specs.Kinds.{is_structure, is_pointer, decayed, pointed}
use Rattle.c_rules.specs.Sizes.{is_declared, is_whole, type_limit}
use Rattle.c_rules.specs.Nodes.{assign_rule}
use Rattle.c_exprs.specs.Nodes.{type_of_typed, is_place}
use Rattle.c_check.specs.Reading.{has_members}
use Rattle.c_facts.specs.Sound.{IsKnown, IsLaidOut, IsDeclaredAs, AreDeclaredAs, wholes, IsSound}
use Rattle.c_facts.specs.Known.{SizedHaveSizes, KnownAreNumbered, KeepsItself, AssignedAreStored}
use Rattle.c_facts.proofs.Equal.{types_equal}
use Rattle.c_facts.proofs.Fronts.{within_at}
use Rattle.c_facts.proofs.LayoutKinds.{kind_within}
use Rattle.c_facts.proofs.Growth.{judged_holds, given_is, given_holds}
use Rattle.c_facts.proofs.Positive.{HaveWords, has_words}

numbered : (layouts : List LayoutT) (whole : List Bool) (ty : Ty) → IsKnown layouts whole ty → IsNumbered layouts ty
numbered layouts whole VoidY h = tt
numbered layouts whole IntY h = tt
numbered layouts whole BoolY h = tt
numbered layouts whole (EnumY number) h = tt
numbered layouts whole (StructY number) h = kind_within layouts number false h
numbered layouts whole (UnionY number) h = kind_within layouts number true h
numbered layouts whole (PointerY to) h = tt
numbered layouts whole (ArrayY of count) h = numbered layouts whole of h.0

pub known_numbered : KnownAreNumbered
known_numbered p sound ty h = numbered p.layouts (wholes p.layouts) ty h

-- ---- sizes

-- the layout of a number that is declared whole
laid_at : (layouts : List LayoutT) (whole : List Bool) (ls : List LayoutT) → AreDeclaredAs layouts whole ls → (k : ℕ) (l : LayoutT) → has_members l ≡ true → slice_get ls k ≡ Some l → IsLaidOut layouts whole l
laid_at layouts whole [] h k l some e = absurd cc
laid_at layouts whole (x ∷ xs) h zero l some e =
    let same : x ≡ l = cc in
    let here : IsDeclaredAs layouts whole l (has_members l) = subst (λ (y : LayoutT). IsDeclaredAs layouts whole y (has_members y)) same h.0 in
    subst (IsDeclaredAs layouts whole l) some here
laid_at layouts whole (x ∷ xs) h (suc k) l some e = laid_at layouts whole xs h.1 k l some e

has_some : (layouts : List LayoutT) (k : ℕ) (l : LayoutT) → is_declared (wholes layouts) k ≡ true → slice_get layouts k ≡ Some l → has_members l ≡ true
has_some layouts k l d e =
    let at : slice_get (wholes layouts) k ≡ Some (has_members l) = slice_get-map has_members layouts k ∙ ap (λ o. some_of o) e in
    sym (ap (holds (λ (declared : Bool). declared)) at) ∙ d
  where
    some_of : Option LayoutT → Option Bool
    some_of None = None
    some_of (Some x) = Some (has_members x)

module _ (p : ProgramT) (sound : IsSound p) where
  laid : (k : ℕ) (l : LayoutT) → is_declared (wholes p.layouts) k ≡ true → slice_get p.layouts k ≡ Some l → IsLaidOut p.layouts (wholes p.layouts) l
  laid k l d e = laid_at p.layouts (wholes p.layouts) p.layouts sound.layouts k l (has_some p.layouts k l d e) e

  words : HaveWords p.layouts (wholes p.layouts)
  words k l d e = (laid k l d e).words

  layout_few : (k : ℕ) → k < length p.layouts → is_declared (wholes p.layouts) k ≡ true → option_map_or (λ (l : LayoutT). l.size) (slice_get p.layouts k) 0 ≤ type_limit
  layout_few k l d = let there : (x : LayoutT) × (slice_get p.layouts k ≡ Some x) = within_at p.layouts k l in rw (there.1) ((laid k there.0 d there.1).size)

  few : (ty : Ty) → IsKnown p.layouts (wholes p.layouts) ty → is_whole (wholes p.layouts) ty ≡ true → words_of p.layouts ty ≤ type_limit
  few VoidY known w = omega arith
  few IntY known w = omega arith
  few BoolY known w = omega arith
  few (EnumY number) known w = omega arith
  few (StructY number) known w = layout_few number (kind_within p.layouts number false known) w
  few (UnionY number) known w = layout_few number (kind_within p.layouts number true known) w
  few (PointerY to) known w = omega arith
  few (ArrayY of count) known w = known.3

pub sizes_there : SizedHaveSizes
sizes_there p sound ty h = record {
  numbered = numbered p.layouts (wholes p.layouts) ty h.known;
  some = has_words p.layouts (wholes p.layouts) (words p sound) ty h.known h.sized;
  few = few p sound ty h.known h.sized;
}

-- ---- structures and unions

-- a structure or union is no number, and no pointer leads from it
no_number : (ty : Ty) → is_structure ty ≡ true → (is_number ty ≡ false) × (pointed (decayed ty) ≡ None) × (is_pointer (decayed ty) ≡ false) × (pointed ty ≡ None) × (is_pointer ty ≡ false)
no_number VoidY h = absurd cc
no_number IntY h = absurd cc
no_number BoolY h = absurd cc
no_number (EnumY number) h = absurd cc
no_number (StructY number) h = (refl, refl, refl, refl, refl)
no_number (UnionY number) h = (refl, refl, refl, refl, refl)
no_number (PointerY to) h = absurd cc
no_number (ArrayY of count) h = absurd cc

and_no : (a : Bool) → (a && false) ≡ false
and_no true = refl
and_no false = refl

none_alike : (from to : Option Ty) → (from ≡ None) ⊎ (to ≡ None) → holds (λ t. holds (λ f. leads_alike f t) from) to ≡ false
none_alike from None h = refl
none_alike None (Some t) h = refl
none_alike (Some f) (Some t) (inl e) = absurd cc
none_alike (Some f) (Some t) (inr e) = absurd cc

one_left : (a b c d : Bool) → a ≡ false → b ≡ false → (a || b || (c && d)) ≡ true → d ≡ true
one_left false false true d e f h = h
one_left false false false d e f h = absurd cc
one_left true b c d e f h = absurd cc
one_left false true c d e f h = absurd cc

no_numbers : (a b : Bool) → (a ≡ false) ⊎ (b ≡ false) → (a && b) ≡ false
no_numbers false b h = refl
no_numbers true b (inl e) = absurd cc
no_numbers true b (inr e) = e

converted : (from to : Ty) → converts from to ≡ true → (is_structure from ≡ true) ⊎ (is_structure to ≡ true) → from ≡ to
converted from to h (inl f) =
    let k = no_number from f in
    types_equal from to (one_left (is_number from && is_number to) (pointers_convert (decayed from) to) (is_structure from) (same_type from to) (no_numbers _ _ (inl k.0)) (none_alike (pointed (decayed from)) (pointed to) (inl k.1)) h)
converted from to h (inr t) =
    let k = no_number to t in
    types_equal from to (one_left (is_number from && is_number to) (pointers_convert (decayed from) to) (is_structure from) (same_type from to) (no_numbers _ _ (inr k.0)) (none_alike (pointed (decayed from)) (pointed to) (inr k.3)) h)

not_cast : (from to : Ty) → can_cast from to ≡ true → (is_structure from ≡ true) ⊎ (is_structure to ≡ true) → ⊥
not_cast from to h (inl f) =
    let k = no_number from f in
    no_cast (is_number from && is_number to) (is_pointer (decayed from) && is_pointer to) (no_numbers _ _ (inl k.0)) (no_numbers _ _ (inl k.2)) h
  where
    no_cast : (a b : Bool) → a ≡ false → b ≡ false → (a || b) ≡ true → ⊥
    no_cast false false e f h = cc
    no_cast true b e f h = cc
    no_cast false true e f h = cc
not_cast from to h (inr t) =
    let k = no_number to t in
    no_cast (is_number from && is_number to) (is_pointer (decayed from) && is_pointer to) (no_numbers _ _ (inr k.0)) (no_numbers _ _ (inr k.4)) h
  where
    no_cast : (a b : Bool) → a ≡ false → b ≡ false → (a || b) ≡ true → ⊥
    no_cast false false e f h = cc
    no_cast true b e f h = cc
    no_cast false true e f h = cc

either : (a b : Bool) → (a || b) ≡ true → (a ≡ true) ⊎ (b ≡ true)
either true b h = inl refl
either false b h = inr h

pub keeps_itself : KeepsItself
keeps_itself = record {
  converted = λ from to h k. converted from to h (either (is_structure from) (is_structure to) k);
  cast = λ from to h k. not_cast from to h (either (is_structure from) (is_structure to) k);
}

pub assigned_stored : AssignedAreStored
unfolding assign_rule
assigned_stored s x y ty h =
    let r = judged_holds (assign_rule s.layouts s.whole (type_of_typed x) (is_place x) (type_of_typed y)) ty h.3 in
    let same : type_of_typed x ≡ ty = given_is _ (type_of_typed x) ty r.0 in
    let test : (not (is_array (type_of_typed x)) ≡ true) × (converts (type_of_typed y) (type_of_typed x) ≡ true) = and_parts _ _ (given_holds _ (type_of_typed x) ty r.0) in
    record { same = same; converts = subst (λ (t : Ty). converts (type_of_typed y) t ≡ true) same test.1 }
