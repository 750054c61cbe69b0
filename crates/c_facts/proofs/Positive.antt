-- What is complete has words.
use Rattle.std.proofs.Common.{◌≡◌, ℕ, ◌+◌, ◌*◌, ◌<◌, ◌≤◌, Bool, true, false, max, List, [], ◌∷◌, length, Option, Some, arith}
use Rattle.std.specs.Prelude.{slice_get}
use Rattle.std.specs.Option.{option_map_or}
use Rattle.std.proofs.Math.Nat.{le-mul_of_pos_right}
use Rattle.c_types.specs.Types.{Ty, VoidY, IntY, BoolY, EnumY, StructY, UnionY, PointerY, ArrayY, MemberT, LayoutT}
use Rattle.c_types.specs.Sizes.{words_of, Follow, Overlap, IsPlacedAs, IsPlaced}
use Rattle.c_rules.specs.Sizes.{is_declared, is_whole}
use Rattle.c_check.specs.Reading.{has_members}
use Rattle.c_facts.specs.Sound.{Scene, IsKnown}
use Rattle.c_facts.proofs.Within.{AllMembersKnown, AllWhole}
use Rattle.c_facts.proofs.Fronts.{within_at}
use Rattle.c_facts.proofs.LayoutKinds.{kind_within}

-- what is declared whole has words
abbrev pub HaveWords : List LayoutT → List Bool → Type 0
HaveWords layouts whole = (k : ℕ) (l : LayoutT) → is_declared whole k ≡ true → slice_get layouts k ≡ Some l → 0 < l.size

abbrev pub size_there : Option LayoutT → ℕ
size_there o = option_map_or (λ l. l.size) o 0

pub layout_has_words : (layouts : List LayoutT) (whole : List Bool) → HaveWords layouts whole → (k : ℕ) → k < length layouts → is_declared whole k ≡ true → 0 < size_there (slice_get layouts k)
layout_has_words layouts whole h k l d = let there : (x : LayoutT) × (slice_get layouts k ≡ Some x) = within_at layouts k l in rw (there.1) (h k there.0 d there.1)

product : (m n : ℕ) → 0 < m → 0 < n → 0 < m * n
product m n h k = let le : m ≤ m * n = le-mul_of_pos_right m k in omega arith

-- a type that is known, and of which the size is known, has a word at least
pub has_words : (layouts : List LayoutT) (whole : List Bool) → HaveWords layouts whole → (ty : Ty) → IsKnown layouts whole ty → is_whole whole ty ≡ true → 0 < words_of layouts ty
has_words layouts whole h VoidY known w = absurd cc
has_words layouts whole h IntY known w = omega arith
has_words layouts whole h BoolY known w = omega arith
has_words layouts whole h (EnumY number) known w = omega arith
has_words layouts whole h (StructY number) known w = layout_has_words layouts whole h number (kind_within layouts number false known) w
has_words layouts whole h (UnionY number) known w = layout_has_words layouts whole h number (kind_within layouts number true known) w
has_words layouts whole h (PointerY to) known w = omega arith
has_words layouts whole h (ArrayY of count) known w = product (words_of layouts of) count (has_words layouts whole h of known.0 w) known.2

-- ---- layouts

follow_up : (layouts : List LayoutT) (start end : ℕ) (ms : List MemberT) → Follow layouts start ms end → start ≤ end
follow_up layouts start end [] f = omega (arith, f)
follow_up layouts start end (m ∷ ms) f = omega (arith, follow_up layouts (start + words_of layouts m.ty) end ms f.1)

overlap_up : (layouts : List LayoutT) (greatest size : ℕ) (ms : List MemberT) → Overlap layouts greatest ms size → greatest ≤ size
overlap_up layouts greatest size [] f = omega (arith, f)
overlap_up layouts greatest size (m ∷ ms) f = omega (arith, overlap_up layouts (max greatest (words_of layouts m.ty)) size ms f.1)

-- a structure or union with a member has words where its members have
pub placed_has_words : (s : Scene) (l : LayoutT) → HaveWords s.layouts s.whole → IsPlaced s.layouts l → has_members l ≡ true → AllMembersKnown s l.members → AllWhole s.whole l.members → 0 < l.size
placed_has_words s l h p some known w = by l.is_union l.members some known w p
  where
    by : (u : Bool) (ms : List MemberT) → has_members (record { is_union = u; members = ms; size = l.size }) ≡ true → AllMembersKnown s ms → AllWhole s.whole ms → IsPlacedAs s.layouts (record { is_union = u; members = ms; size = l.size }) u → 0 < l.size
    by u [] some known w p = absurd cc
    by true (m ∷ ms) some known w p = omega (arith, overlap_up s.layouts (max 0 (words_of s.layouts m.ty)) l.size ms p.1, has_words s.layouts s.whole h m.ty known.0 w.0)
    by false (m ∷ ms) some known w p = omega (arith, follow_up s.layouts (0 + words_of s.layouts m.ty) l.size ms p.1, has_words s.layouts s.whole h m.ty known.0 w.0)
