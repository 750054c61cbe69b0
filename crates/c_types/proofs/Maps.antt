-- Members by their names.
use Rattle.std.specs.Option.{option_copied}
use Rattle.std.specs.Str.{bytes_eq}
use Rattle.std.specs.Map.{lookup}
use Rattle.std.proofs.Common.{◌≡◌, ◌^◌, ◌-◌, min, ℕ, Bool, true, false, cond, List, [], ◌∷◌, ◌++◌, map, Option, Some, None, is_some, option_map, Bor, refl, ap, ◌∙◌}
use Rattle.std.proofs.lemmas.Slice.Eq.{bytes_eq-Decides}
use Rattle.indexmap.specs.IndexMap.{insert_entry}
use Rattle.c_types.specs.Types.{MemberT, LayoutT}
use Rattle.c_types.specs.declared.layout.Member.{Member}
use Rattle.c_types.specs.Sizes.{member_named, next_offset, size_with, with_member, capped}
use Rattle.c_types.specs.View.{named, ctype}

abbrev pub Key : Type 0
Key = List ℕ

abbrev pub entry : Key × Member → MemberT
entry e = named e.0 e.1

named_so : (n : List ℕ) (e : Key × Member) → bytes_eq n e.0 ≡ true → named n e.1 ≡ entry e
named_so n e h = ap (λ (m : List ℕ). named m e.1) ((bytes_eq-Decides n e.0).0 h)

-- a map's look-up by a name finds the member of that name
found_entry : (n : List ℕ) (es : List (Key × Member)) → option_map (named n) (lookup (bytes_eq n) es) ≡ member_named n (map entry es)
found_entry n [] = refl
found_entry n (e ∷ es) = at (bytes_eq n e.0) refl (found_entry n es)
  where
    at : (b : Bool) → bytes_eq n e.0 ≡ b → option_map (named n) (lookup (bytes_eq n) es) ≡ member_named n (map entry es)
        → option_map (named n) (cond b (Some e.1) (lookup (bytes_eq n) es)) ≡ cond b (Some (entry e)) (member_named n (map entry es))
    at true h rest = ap (λ (m : MemberT). Some m) (named_so n e h)
    at false h rest = rest

pub found : (n : List ℕ) (es : List (Key × Member)) (r : Option (Bor Member)) → option_copied r ≡ lookup (bytes_eq n) es → option_map (λ m. named n m.now) r ≡ member_named n (map entry es)
found n es r e = seen r ∙ ap (option_map (named n)) e ∙ found_entry n es
  where
    seen : (r : Option (Bor Member)) → option_map (λ m. named n m.now) r ≡ option_map (named n) (option_copied r)
    seen None = refl
    seen (Some x) = refl

-- a new name goes last
pub inserted : (key : Key) (x : Member) (es : List (Key × Member)) → is_some (member_named key (map entry es)) ≡ false → map entry (insert_entry bytes_eq es key x) ≡ map entry es ++ entry (key, x) ∷ []
inserted key x [] absent = refl
inserted key x (e ∷ es) absent = elim (bytes_eq key e.0) as (λ b. is_some (cond b (Some (entry e)) (member_named key (map entry es))) ≡ false → map entry (cond b ((e.0, x) ∷ es) (e ∷ insert_entry bytes_eq es key x)) ≡ entry e ∷ map entry es ++ entry (key, x) ∷ []) [
  | true ↦ λ h. absurd cc
  | false ↦ λ h. ap (λ (ms : List MemberT). entry e ∷ ms) (inserted key x es h)
] absent

-- the layout with a further member, by its parts
pub laid : (l : LayoutT) (key : Key) (x : Member) (words size : ℕ) (ms : List MemberT) → ms ≡ l.members ++ entry (key, x) ∷ [] → x.offset ≡ next_offset l → size ≡ min (size_with l words) (2 ^ 32 - 1)
    → record { is_union = l.is_union; members = ms; size = size } ≡ capped (with_member l key (ctype x.ty) words)
laid l key x words size ms p q r = rw p (rw r (ap (λ (o : ℕ). record { is_union = l.is_union; members = l.members ++ record { name = key; offset = o; ty = ctype x.ty } ∷ []; size = min (size_with l words) (2 ^ 32 - 1) }) q))
