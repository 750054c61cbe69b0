-- What the tests show of the bytes, and bytes that pass them.
use Rattle.std.proofs.Common.{◌≡◌, ℕ, ◌*◌, ◌≤◌, Bool, true, false, cond, ltb, not, List, length, take, refl, arith}
use Rattle.std.specs.Prelude.{Option, Some, None, bytes_eq}
use Rattle.std.proofs.lemmas.Bool.{ltb-false, le-ltb, leb-true, and_parts, not-false}
use Rattle.std.proofs.lemmas.Slice.Eq.{bytes_eq-Decides}
use Rattle.std.proofs.Math.Nat.{mul-le-mul}
use Rattle.asset_pack.specs.declared.kind.Kind.{Kind}
use Rattle.asset_pack.specs.declared.kind.Kind.TheVariants as kinds
use Rattle.asset_pack.specs.Words.{word_at}
use Rattle.asset_pack.specs.Tests.{signature, head, in_range, count, size, front_fault, file_fault, or_trailing}

guard_none : {A : Type 0} (b : Bool) (e : A) (o : Option A) → cond b (Some e) o ≡ None → (b ≡ false) × (o ≡ None)
guard_none true e o h = absurd cc
guard_none false e o h = (refl, h)

pub record Accepted (kind : Kind) (bytes : List ℕ) : Type 0 where
  pub signed : take 8 bytes ≡ signature kind
  pub ranged : in_range kind bytes ≡ true
  pub long : size kind bytes ≤ length bytes

pub few : (kind : Kind) (bytes : List ℕ) → in_range kind bytes ≡ true → count kind bytes ≤ 33554432
unfolding in_range count
few kinds.Words bytes ranged = leb-true _ _ ranged
few kinds.Sound bytes ranged = leb-true _ _ (and_parts _ _ ranged).1
few kinds.Texture bytes ranged =
    let sides = and_parts _ _ ranged in
    let w : word_at 8 bytes ≤ 1024 = leb-true _ _ (and_parts _ _ sides.0).1 in
    let h : word_at 12 bytes ≤ 1024 = leb-true _ _ (and_parts _ _ sides.1).1 in
    let all : word_at 8 bytes * word_at 12 bytes ≤ 1024 * 1024 = mul-le-mul w h in
    omega arith

pub accepted : (kind : Kind) (bytes : List ℕ) → front_fault kind bytes ≡ None → Accepted kind bytes
unfolding front_fault
accepted kind bytes e =
    let a = guard_none (ltb (length bytes) 8) _ _ e in
    let b = guard_none (not (bytes_eq (take 8 bytes) (signature kind))) _ _ a.1 in
    let c = guard_none (ltb (length bytes) (head kind)) _ _ b.1 in
    let d = guard_none (not (in_range kind bytes)) _ _ c.1 in
    let f = guard_none (ltb (length bytes) (size kind bytes)) _ _ d.1 in
    record {
      signed = (bytes_eq-Decides (take 8 bytes) (signature kind)).0 (not-false _ b.0);
      ranged = not-false _ d.0;
      long = ltb-false _ _ f.0;
    }

at_least : (kind : Kind) (bytes : List ℕ) → (8 ≤ head kind) × (head kind ≤ size kind bytes)
at_least kinds.Words bytes = (omega arith, omega arith)
at_least kinds.Texture bytes = (omega arith, omega arith)
at_least kinds.Sound bytes = (omega arith, omega arith)

pub accepts : (kind : Kind) (bytes : List ℕ) → Accepted kind bytes → front_fault kind bytes ≡ None
unfolding front_fault
accepts kind bytes x =
    let long = x.long in
    let more = at_least kind bytes in
    let same : bytes_eq (take 8 bytes) (signature kind) ≡ true = (bytes_eq-Decides (take 8 bytes) (signature kind)).1 x.signed in
    rw (le-ltb (length bytes) 8 (omega arith), same, le-ltb (length bytes) (head kind) (omega arith), x.ranged, le-ltb (length bytes) (size kind bytes) long) refl

pub head_within : (kind : Kind) (bytes : List ℕ) → front_fault kind bytes ≡ None → (head kind ≤ length bytes) × (size kind bytes ≤ length bytes) × (count kind bytes ≤ 33554432)
head_within kind bytes e =
    let x = accepted kind bytes e in
    let long = x.long in
    let more = at_least kind bytes in
    (omega arith, long, few kind bytes x.ranged)

-- nothing follows
pub whole : (kind : Kind) (bytes : List ℕ) → file_fault kind bytes ≡ None → (front_fault kind bytes ≡ None) × (length bytes ≤ size kind bytes)
unfolding file_fault
whole kind bytes e = elim (front_fault kind bytes) as (λ o. or_trailing o (ltb (size kind bytes) (length bytes)) ≡ None → (o ≡ None) × (length bytes ≤ size kind bytes)) [
  | None ↦ λ h. (refl, ltb-false _ _ (guard_none (ltb (size kind bytes) (length bytes)) _ None h).0)
  | Some x ↦ λ h. absurd cc
] e

pub head_long : (kind : Kind) (bytes : List ℕ) → front_fault kind bytes ≡ None → head kind ≤ length bytes
head_long kind bytes e = (head_within kind bytes e).0

pub ruleset heads = (head_within, head_long)
