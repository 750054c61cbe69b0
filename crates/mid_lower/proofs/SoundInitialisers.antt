-- Initialisers that fill what they are for are plain: what is set to 0 behind the last item has few words.
use Rattle.std.proofs.Common.{◌≡◌, ℕ, zero, suc, ◌+◌, ◌*◌, ◌-◌, ◌%◌, ◌^◌, ◌<◌, ◌≤◌, ◌==◌, Bool, true, false, List, [], ◌∷◌, length, slice_get, Option, Some, None, refl, sym, ap, ◌∙◌, subst, arith, if◌then◌else◌}
use Rattle.std.specs.Option.{option_map_or}
use Rattle.std.specs.Prelude.{option_and_then, not, ◌&&◌, ◌||◌}
use Rattle.std.proofs.Math.Nat.{mod-eq_of_lt}
use Rattle.std.proofs.lemmas.Bool.Decides.{nat_tests}
use Rattle.std.proofs.lemmas.List.Sums.{sum_by-cons}
use Rattle.c_types.specs.Types.{Ty, VoidY, IntY, BoolY, EnumY, StructY, UnionY, PointerY, ArrayY, MemberT, LayoutT}
use Rattle.c_types.specs.Sizes.{words_of}
use Rattle.c_types.specs.Typed.{TExprT, TInitT, OneI, TextI, ListI, TInitTs, NoI, MoreI, TVarT}
use Rattle.c_types.specs.Programs.{ProgramT}
use Rattle.c_rules.specs.Kinds.{is_array, converts}
use Rattle.c_types.specs.Kinds.{is_structure}
use Rattle.c_exprs.specs.Faults.{text_words}
use Rattle.c_exprs.specs.Nodes.{type_of_typed}
use Rattle.c_stmts.specs.Slots.{Slots, NoSlots, Elements, Members, member_types, members_of, first_of, slots_of, next_slot, later_slots, is_fixed}
use Rattle.c_check.specs.Reading.{has_members}
use Rattle.c_facts.specs.Sound.{Scene, IsKnown, IsSized, takes_value, FillsAs, FillEach, AreFilled, AreSized, IsLaidOut, IsDeclaredAs, AreDeclaredAs, in_call, wholes, scene}
use Rattle.c_types.specs.Parts.{part_type}
use Rattle.lower_trees.specs.Shape.{Shape, shape}
use Rattle.mid_lower.proofs.Trees.{RestFits, Fills, FillAll, FillVars}
use Rattle.mid_lower.proofs.Operands.{both_first, both_second}
use Rattle.mid_lower.proofs.SoundExpressions.{plain_as}

-- ---- the places of a type, from one on

abbrev rest_from : List Ty → ℕ → List Ty
rest_from tys zero = tys
rest_from [] (suc k) = []
rest_from (ty ∷ tys) (suc k) = rest_from tys k

abbrev pub places : List LayoutT → Ty → ℕ → Slots
places ls (ArrayY of len) k = Elements of (len - k)
places ls (StructY number) k = Members (rest_from (members_of (slice_get ls number)) k)
places ls (UnionY number) k = Members (rest_from (first_of (members_of (slice_get ls number))) k)
places ls _ k = NoSlots

rest_later : (tys : List Ty) (k : ℕ) → later_slots (Members (rest_from tys k)) ≡ Members (rest_from tys (suc k))
rest_later [] zero = refl
rest_later (ty ∷ tys) zero = refl
rest_later [] (suc k) = refl
rest_later (ty ∷ tys) (suc k) = rest_later tys k

after : (k : ℕ) → suc k ≡ k + 1
after k = omega arith

pub places_first : (ls : List LayoutT) (ty : Ty) → slots_of ls ty ≡ places ls ty 0
places_first ls VoidY = refl
places_first ls IntY = refl
places_first ls BoolY = refl
places_first ls (EnumY number) = refl
places_first ls (StructY number) = refl
places_first ls (UnionY number) = refl
places_first ls (PointerY to) = refl
places_first ls (ArrayY of len) = ap (Elements of) (omega arith)

pub places_later : (ls : List LayoutT) (ty : Ty) (k : ℕ) → later_slots (places ls ty k) ≡ places ls ty (k + 1)
places_later ls VoidY k = refl
places_later ls IntY k = refl
places_later ls BoolY k = refl
places_later ls (EnumY number) k = refl
places_later ls (StructY number) k = rest_later (members_of (slice_get ls number)) k ∙ ap (λ n. Members (rest_from (members_of (slice_get ls number)) n)) (after k)
places_later ls (UnionY number) k = rest_later (first_of (members_of (slice_get ls number))) k ∙ ap (λ n. Members (rest_from (first_of (members_of (slice_get ls number))) n)) (after k)
places_later ls (PointerY to) k = refl
places_later ls (ArrayY of len) k = ap (Elements of) (omega arith)

-- ---- parts are of sized types

abbrev IsPart : List LayoutT → List Bool → Ty → Ty → Type 0
IsPart ls ws ty part = (part ≡ ty) × IsSized ls ws ty

sized_at : (ls : List LayoutT) (ws : List Bool) (ms : List MemberT) → AreSized ls ws ms → (k : ℕ) (ty : Ty) → next_slot (Members (rest_from (member_types ms) k)) ≡ Some ty → IsPart ls ws ty (option_map_or (λ m. m.ty) (slice_get ms k) VoidY)
sized_at ls ws [] sized zero ty e = absurd cc
sized_at ls ws [] sized (suc k) ty e = absurd cc
sized_at ls ws (m ∷ ms) sized zero ty e = let same : m.ty ≡ ty = cc in (same, subst (IsSized ls ws) same sized.0)
sized_at ls ws (m ∷ ms) sized (suc k) ty e = sized_at ls ws ms sized.1 k ty e

-- the first alone
first_at : (ls : List LayoutT) (ws : List Bool) (ms : List MemberT) → AreSized ls ws ms → (k : ℕ) (ty : Ty) → next_slot (Members (rest_from (first_of (member_types ms)) k)) ≡ Some ty → IsPart ls ws ty (option_map_or (λ m. m.ty) (slice_get ms k) VoidY)
first_at ls ws [] sized zero ty e = absurd cc
first_at ls ws [] sized (suc k) ty e = absurd cc
first_at ls ws (m ∷ ms) sized zero ty e = let same : m.ty ≡ ty = cc in (same, subst (IsSized ls ws) same sized.0)
first_at ls ws (m ∷ ms) sized (suc zero) ty e = absurd cc
first_at ls ws (m ∷ ms) sized (suc (suc k)) ty e = absurd cc

not_zero : (n : ℕ) → not (suc n == 0) ≡ true
not_zero n = grind (arith, nat_tests)

declared_sized : (ls : List LayoutT) (ws : List Bool) (size : ℕ) (u : Bool) (ms : List MemberT) → IsDeclaredAs ls ws (record { is_union = u; members = ms; size = size }) (has_members (record { is_union = u; members = ms; size = size })) → AreSized ls ws ms
declared_sized ls ws size u [] is = tt
declared_sized ls ws size u (m ∷ ms) is = let laid : IsLaidOut ls ws (record { is_union = u; members = m ∷ ms; size = size }) = subst (IsDeclaredAs ls ws (record { is_union = u; members = m ∷ ms; size = size })) (not_zero (length ms)) is in laid.members

layout_at : (ls : List LayoutT) (ws : List Bool) (all : List LayoutT) → AreDeclaredAs ls ws all → (number : ℕ) (l : LayoutT) → slice_get all number ≡ Some l → AreSized ls ws l.members
layout_at ls ws [] is number l e = absurd cc
layout_at ls ws (x ∷ xs) is zero l e = let same : x ≡ l = cc in subst (λ q. AreSized ls ws q.members) same (declared_sized ls ws x.size x.is_union x.members is.0)
layout_at ls ws (x ∷ xs) is (suc number) l e = layout_at ls ws xs is.1 number l e

part_of : (ls : List LayoutT) (ws : List Bool) → AreDeclaredAs ls ws ls → (whole : Ty) → IsSized ls ws whole → (k : ℕ) (ty : Ty) → next_slot (places ls whole k) ≡ Some ty → IsPart ls ws ty (part_type ls whole k)
part_of ls ws is VoidY sized k ty e = absurd cc
part_of ls ws is IntY sized k ty e = absurd cc
part_of ls ws is BoolY sized k ty e = absurd cc
part_of ls ws is (EnumY number) sized k ty e = absurd cc
part_of ls ws is (PointerY to) sized k ty e = absurd cc
part_of ls ws is (ArrayY of len) sized k ty e = by (len - k == 0) e
  where
    by : (t : Bool) → (if t then None else Some of) ≡ Some ty → IsPart ls ws ty of
    by true e = absurd cc
    by false e = let same : of ≡ ty = cc in (same, subst (IsSized ls ws) same (record { known = (sized.known).0; sized = (sized.known).1 }))
part_of ls ws is (StructY number) sized k ty e = by (slice_get ls number) refl e
  where
    by : (o : Option LayoutT) → slice_get ls number ≡ o → next_slot (Members (rest_from (members_of o) k)) ≡ Some ty → IsPart ls ws ty (option_map_or (λ m. m.ty) (option_and_then (λ l. slice_get l.members k) o) VoidY)
    by None eo e = absurd (nothing k e)
      where
        nothing : (k : ℕ) → next_slot (Members (rest_from [] k)) ≡ Some ty → ⊥
        nothing zero e = absurd cc
        nothing (suc k) e = absurd cc
    by (Some l) eo e = sized_at ls ws l.members (layout_at ls ws ls is number l eo) k ty e
part_of ls ws is (UnionY number) sized k ty e = by (slice_get ls number) refl e
  where
    by : (o : Option LayoutT) → slice_get ls number ≡ o → next_slot (Members (rest_from (first_of (members_of o)) k)) ≡ Some ty → IsPart ls ws ty (option_map_or (λ m. m.ty) (option_and_then (λ l. slice_get l.members k) o) VoidY)
    by None eo e = absurd (nothing k e)
      where
        nothing : (k : ℕ) → next_slot (Members (rest_from [] k)) ≡ Some ty → ⊥
        nothing zero e = absurd cc
        nothing (suc k) e = absurd cc
    by (Some l) eo e = first_at ls ws l.members (layout_at ls ws ls is number l eo) k ty e

-- ---- what items fill

pub value_taken : (global : Bool) (ty : Ty) (x : TExprT) → takes_value global ty x ≡ true → converts (type_of_typed x) ty ≡ true
value_taken global ty x e =
    both_second (not (is_array ty)) (converts (type_of_typed x) ty) (both_first (not (is_array ty) && converts (type_of_typed x) ty) (not global || (not (is_structure ty) && is_fixed x)) e)

-- the part that an item fills
pub record Part (z : Scene) (global : Bool) (i : TInitT) (whole : Ty) (k : ℕ) : Type 0 where
  pub ty : Ty
  pub same : part_type z.layouts whole k ≡ ty
  pub sized : IsSized z.layouts z.whole ty
  pub filled : FillsAs z global i (Some ty)

pub part_filled : (z : Scene) → AreDeclaredAs z.layouts z.whole z.layouts → (global : Bool) (i : TInitT) (ty : Ty) (k : ℕ) → IsSized z.layouts z.whole ty → (o : Option Ty) → next_slot (places z.layouts ty k) ≡ o → FillsAs z global i o → Part z global i ty k
part_filled z declared global i ty k sized None e is = absurd is
part_filled z declared global i ty k sized (Some part) e is =
    let m = part_of z.layouts z.whole declared ty sized k part e in
    record { ty = part; same = m.0; sized = m.1; filled = is }

-- ---- few words

mod_least : (n m : ℕ) → n ≤ m → m < 2 ^ 32 → n % 2 ^ 32 ≡ n
mod_least n m le lt = mod-eq_of_lt (omega (arith, le, lt))

rest_few : (ls : List LayoutT) (h : Shape) → h.layouts ≡ ls → (ws : List Bool) (ty : Ty) → IsKnown ls ws ty → (k : ℕ) → RestFits h ty k
rest_few ls h same ws VoidY known k = tt
rest_few ls h same ws IntY known k = tt
rest_few ls h same ws BoolY known k = tt
rest_few ls h same ws (EnumY number) known k = tt
rest_few ls h same ws (StructY number) known k = tt
rest_few ls h same ws (UnionY number) known k = tt
rest_few ls h same ws (PointerY to) known k = tt
rest_few ls h same ws (ArrayY of len) known k = few (words_of h.layouts of) len known.2 (subst (λ q. words_of q of * len ≤ 4194304) (sym same) known.3)
  where
    few : (w len : ℕ) → 0 < len → w * len ≤ 4194304 → (w % 2 ^ 32) * (len - k) < 2 ^ 32
    few w len some all =
        let small : w ≤ 4194304 = grind (arith, some, all) in
        let e : w % 2 ^ 32 ≡ w = mod_least w 4194304 small (omega arith) in
        let less : w * (len - k) ≤ w * len = grind arith in
        subst (λ q. q * (len - k) < 2 ^ 32) (sym e) (omega (arith, less, all))

text_few : (ts : List (List ℕ)) (number : ℕ) → option_map_or (λ t. length t + 1) (slice_get ts number) 0 ≤ text_words ts
text_few [] number = omega arith
text_few (t ∷ ts) zero = let e = sum_by-cons (λ t. length t + 1) t ts in omega (arith, e)
text_few (t ∷ ts) (suc k) = let e = sum_by-cons (λ t. length t + 1) t ts in let l = text_few ts k in omega (arith, e, l)

-- ---- initialisers, of a program whose layouts and texts are sound

module _ (p : ProgramT) (declared : AreDeclaredAs p.layouts (wholes p.layouts) p.layouts) (texts : text_words p.literals ≤ 4000000) (locals : List ℕ) where
  abbrev z : Scene
  z = in_call (scene p) locals

  abbrev h : Shape
  h = shape p

  mutual
    pub fill_plain : (global : Bool) (i : TInitT) (ty : Ty) → IsSized p.layouts (wholes p.layouts) ty → FillsAs z global i (Some ty) → Fills h i ty
    fill_plain global (OneI x) ty sized is = plain_as z x ty (is.0).typed (value_taken global ty x is.1)
    fill_plain global (TextI number) ty sized is = let le = text_few p.literals number in omega (arith, le, texts)
    fill_plain global (ListI items) ty sized is = fills_plain global items ty 0 sized (subst (FillEach z global items) (places_first p.layouts ty) is.1)

    fills_plain : (global : Bool) (items : TInitTs) (ty : Ty) (k : ℕ) → IsSized p.layouts (wholes p.layouts) ty → FillEach z global items (places p.layouts ty k) → FillAll h items ty k
    fills_plain global NoI ty k sized is = rest_few p.layouts h refl (wholes p.layouts) ty sized.known k
    fills_plain global (MoreI i rest) ty k sized is =
        let m = part_filled z declared global i ty k sized (next_slot (places p.layouts ty k)) refl is.0 in
        (subst (Fills h i) (sym m.same) (fill_plain global i m.ty m.sized m.filled), fills_plain global rest ty (k + 1) sized (subst (FillEach z global rest) (places_later p.layouts ty k) is.1))

  pub vars_plain : (global : Bool) (vs : List TVarT) → AreFilled z global vs → FillVars h vs
  vars_plain global [] is = tt
  vars_plain global (v ∷ vs) is = (fill_plain global v.init v.ty (is.0).sized (is.0).filled, vars_plain global vs is.1)
