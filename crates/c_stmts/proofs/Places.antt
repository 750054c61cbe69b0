-- The places of a brace list, by index.
use Rattle.std.proofs.Common.{ℕ, zero, suc, ◌-◌, ◌+◌, ◌<◌, ◌≤◌, true, false, length, drop, Some, None, option_map, arith, ◌≡◌, List, [], ◌∷◌, refl, ap, add-one}
use Rattle.std.specs.Prelude.{slice_get, min, ◌==◌}
use Rattle.c_types.specs.Types.{Ty, MemberT}
use Rattle.c_stmts.specs.Slots.{Slots, NoSlots, Elements, Members, member_types, first_of, next_slot, later_slots}
use Rattle.c_stmts.specs.inner.Places.{slots_behind}

pub member_type_at : (ms : List MemberT) (i : ℕ) → slice_get (member_types ms) i ≡ option_map (λ (m : MemberT). m.ty) (slice_get ms i)
member_type_at [] i = refl
member_type_at (m ∷ ms) zero = refl
member_type_at (m ∷ ms) (suc i) = member_type_at ms i

pub length-member_types : (ms : List MemberT) → length (member_types ms) ≡ length ms
length-member_types [] = refl
length-member_types (m ∷ ms) = ap suc (length-member_types ms)

pub ruleset member_steps = (member_type_at, length-member_types)

pub next-elements : (of : Ty) (left i : ℕ) → i < left → next_slot (slots_behind i (Elements of left)) ≡ Some of
next-elements of left i h = rw (more left i h) refl
  where
    more : (left i : ℕ) → i < left → (left - i == 0) ≡ false
    more left i h = grind arith

pub no-elements : (of : Ty) (left i : ℕ) → left ≤ i → next_slot (slots_behind i (Elements of left)) ≡ None
no-elements of left i h = rw (none left i h) refl
  where
    none : (left i : ℕ) → left ≤ i → (left - i == 0) ≡ true
    none left i h = grind arith

pub next-member : (tys : List Ty) (i : ℕ) → next_slot (Members (drop i tys)) ≡ slice_get tys i
next-member [] zero = refl
next-member [] (suc i) = refl
next-member (ty ∷ tys) zero = refl
next-member (ty ∷ tys) (suc i) = next-member tys i

pub next-first : (tys : List Ty) (i : ℕ) → i ≡ 0 → next_slot (Members (drop i (first_of tys))) ≡ slice_get tys 0
next-first [] i e = rw e refl
next-first (ty ∷ tys) i e = rw e refl

pub no-second : (tys : List Ty) (i : ℕ) → 0 < i → next_slot (Members (drop i (first_of tys))) ≡ None
no-second [] zero h = refl
no-second [] (suc i) h = refl
no-second (ty ∷ tys) zero h = absurd (omega arith)
no-second (ty ∷ tys) (suc zero) h = refl
no-second (ty ∷ tys) (suc (suc i)) h = refl

pub ruleset slot_steps = (next-elements, no-elements, next-member, next-first, no-second)

pub length-first_of : (tys : List Ty) → length (first_of tys) ≡ min (length tys) 1
length-first_of [] = refl
length-first_of (ty ∷ tys) = omega arith

pub ruleset room_steps = (length-first_of)

-- ---- from one item to the next

pub behind-none : (s : Slots) → slots_behind 0 s ≡ s
behind-none NoSlots = refl
behind-none (Elements of left) = ap (Elements of) (same left)
  where
    same : (left : ℕ) → left - 0 ≡ left
    same left = omega arith
behind-none (Members tys) = refl

pub behind-more : (i : ℕ) (s : Slots) → later_slots (slots_behind i s) ≡ slots_behind (i + 1) s
behind-more i NoSlots = refl
behind-more i (Elements of left) = ap (Elements of) (less left i)
  where
    less : (left i : ℕ) → left - i - 1 ≡ left - (i + 1)
    less left i = omega arith
behind-more i (Members tys) = later tys i
  where
    later : (tys : List Ty) (i : ℕ) → later_slots (Members (drop i tys)) ≡ Members (drop (i + 1) tys)
    later [] zero = refl
    later [] (suc i) = rw (add-one (suc i)) refl
    later (ty ∷ tys) zero = refl
    later (ty ∷ tys) (suc i) = rw (add-one (suc i)) (rw (add-one i) at (later tys i))
