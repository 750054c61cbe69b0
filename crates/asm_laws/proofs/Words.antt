-- Words of pointers, and where they can be read and written.
use Rattle.std.proofs.Common.{◌≡◌, ℕ, ◌+◌, ◌<◌, ◌≤◌, ◌⊎◌, inl, inr, Bool, true, false, List, [], ◌∷◌, length, Option, Some, None, refl, ap, arith}
use Rattle.std.specs.Prelude.{cond, ltb}
use Rattle.std.proofs.lemmas.Bool.{ltb-true}
use Rattle.std.proofs.lemmas.Bool.Decides.{nat_tests}
use Rattle.kit_base.specs.Word.{add, sub}
use Rattle.obj_mem.specs.declared.cell.Cell.{Cell}
use Rattle.obj_mem.specs.declared.cell.ObjectKind.{ObjectKind}
use Rattle.obj_mem.specs.declared.cell.ObjectKind.TheVariants as kind
use Rattle.obj_mem.specs.declared.access.Access.{Access}
use Rattle.obj_mem.specs.declared.access.Access.TheVariants.{Outside, Dead, NoCard}
use Rattle.obj_mem.specs.Objects.{read_refused, is_literal}
use Rattle.asm_laws.specs.Addresses.{Console, readable, writable}
use Rattle.asm_laws.specs.Holds.{InRegion, CardAs}

-- ---- what is said of an access

abbrev pub refused_of : ObjectKind → Bool → List Cell → ℕ → Option Access
refused_of k l cs i = read_refused (record { kind = k; lives = l; cells = cs }) i

pub data Accessing (k : ObjectKind) (l : Bool) (cs : List Cell) (i : ℕ) : Type 0 where
  inside : l ≡ true → i < length cs → refused_of k l cs i ≡ None → Accessing k l cs i
  missing : l ≡ true → k ≡ kind.Card → cs ≡ [] → refused_of k l cs i ≡ Some NoCard → Accessing k l cs i
  outside : refused_of k l cs i ≡ Some Outside → Accessing k l cs i
  dead : refused_of k l cs i ≡ Some Dead → Accessing k l cs i

pub below_not : (i n : ℕ) → ((i < n) × (ltb i n ≡ true)) ⊎ (ltb i n ≡ false)
below_not i n = go (ltb i n) refl
  where
    go : (t : Bool) → ltb i n ≡ t → ((i < n) × (ltb i n ≡ true)) ⊎ (ltb i n ≡ false)
    go true e = inl (ltb-true i n e, e)
    go false e = inr e

pub accessing : (k : ObjectKind) (l : Bool) (cs : List Cell) (i : ℕ) → Accessing k l cs i
accessing k false cs i = dead refl
accessing kind.Card true [] i = missing refl refl refl refl
accessing kind.Card true (c ∷ cs) i = elim (below_not i (length (c ∷ cs))) [ inl b ↦ inside refl b.0 (ap (λ t. cond t None (Some Outside)) b.1) | inr b ↦ outside (ap (λ t. cond t None (Some Outside)) b) ]
accessing kind.Global true cs i = elim (below_not i (length cs)) [ inl b ↦ inside refl b.0 (ap (λ t. cond t None (Some Outside)) b.1) | inr b ↦ outside (ap (λ t. cond t None (Some Outside)) b) ]
accessing kind.Local true cs i = elim (below_not i (length cs)) [ inl b ↦ inside refl b.0 (ap (λ t. cond t None (Some Outside)) b.1) | inr b ↦ outside (ap (λ t. cond t None (Some Outside)) b) ]
accessing kind.Literal true cs i = elim (below_not i (length cs)) [ inl b ↦ inside refl b.0 (ap (λ t. cond t None (Some Outside)) b.1) | inr b ↦ outside (ap (λ t. cond t None (Some Outside)) b) ]

-- ---- where words stand

pub readable_in : (C : Console) (k : ObjectKind) (cs : List Cell) (q i : ℕ) → length C.words < 0x10000000 → CardAs C k cs → i < length cs → InRegion C k q → readable C q ≡ true
unfolding readable
readable_in C kind.Global cs q i short c lt r = grind (arith, nat_tests)
readable_in C kind.Local cs q i short c lt r = grind (arith, nat_tests)
readable_in C kind.Literal cs q i short c lt r = let lo = r.0 in let hi = r.1 in grind (arith, nat_tests)
readable_in C kind.Card [] q i short c lt r = absurd (omega (arith, lt))
readable_in C kind.Card (d ∷ cs) q i short c lt r = let lo = r.0 in let hi = r.1 in let has = c.0 in grind (arith, nat_tests)

pub writable_in : (C : Console) (k : ObjectKind) (cs : List Cell) (q i : ℕ) → CardAs C k cs → i < length cs → is_literal k ≡ false → InRegion C k q → writable C q ≡ true
unfolding writable
writable_in C kind.Global cs q i c lt w r = grind (arith, nat_tests)
writable_in C kind.Local cs q i c lt w r = grind (arith, nat_tests)
writable_in C kind.Literal cs q i c lt w r = cc
writable_in C kind.Card [] q i c lt w r = absurd (omega (arith, lt))
writable_in C kind.Card (d ∷ cs) q i c lt w r = let lo = r.0 in let hi = r.1 in let has = c.0 in grind (arith, nat_tests)

-- a literal is read only
pub literal_refused : (C : Console) (k : ObjectKind) (q : ℕ) → length C.words < 0x10000000 → is_literal k ≡ true → InRegion C k q → writable C q ≡ false
unfolding writable
literal_refused C kind.Global q short w r = cc
literal_refused C kind.Local q short w r = cc
literal_refused C kind.Card q short w r = cc
literal_refused C kind.Literal q short w r = let lo = r.0 in let hi = r.1 in grind (arith, nat_tests)

-- the words of a card that is not there
pub no_card_read : (C : Console) (q : ℕ) → length C.words < 0x10000000 → C.has_card ≡ false → 0x30000000 ≤ q → readable C q ≡ false
unfolding readable
no_card_read C q short none lo = grind (arith, nat_tests)

pub no_card_written : (C : Console) (q : ℕ) → C.has_card ≡ false → 0x30000000 ≤ q → writable C q ≡ false
unfolding writable
no_card_written C q none lo = grind (arith, nat_tests)

-- ---- pointers of one object

pub add_small : (p i : ℕ) → p + i < 0x100000000 → add p i ≡ p + i
add_small p i lt = omega (arith, lt)

pub add_more : (p i x : ℕ) → add (add p i) x ≡ add p (add i x)
add_more p i x = omega arith

pub add_bound : (i x : ℕ) → add i x < 0x100000000
add_bound i x = omega arith

pub add_zero : (p : ℕ) → p < 0x100000000 → p ≡ add p 0
add_zero p lt = omega (arith, lt)

pub add_same : (p i j : ℕ) → i < 0x100000000 → j < 0x100000000 → add p i ≡ add p j → i ≡ j
add_same p i j li lj e = omega (arith, li, lj, e)

pub sub_same : (p i j : ℕ) → p + i < 0x100000000 → p + j < 0x100000000 → sub (add p i) (add p j) ≡ sub i j
sub_same p i j li lj = omega (arith, li, lj)
