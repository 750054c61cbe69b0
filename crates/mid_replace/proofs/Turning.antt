-- What becomes of a call, whether or not it has a target.
use Rattle.std.proofs.Common.{◌≡◌, ℕ, true, ◌&&◌, List, Option, Some, None, refl}
use Rattle.std.specs.Option.{option_map}
use Rattle.mid_code.specs.declared.node.Op.TheVariants as op
use Rattle.mid_replace.specs.inner.Facts.{Fact, Plain, Plan, note}
use Rattle.mid_replace.specs.inner.Replaced.{is_access, is_plain, are_plain, turn_of}
use Rattle.mid_replace.proofs.Tables.{both_0}

module _ (X : Plan) (i : ℕ → Fact) (t : Option ℕ) (g : ℕ) (args : List ℕ) where
  pub call_fine : (turn_of X i (op.Call t g args)).fine ≡ are_plain i args
  call_fine = go t
    where
      go : (t : Option ℕ) → (turn_of X i (op.Call t g args)).fine ≡ are_plain i args
      go None = refl
      go (Some t) = refl

  pub call_made : (turn_of X i (op.Call t g args)).made ≡ option_map (λ t. note t Plain) t
  call_made = go t
    where
      go : (t : Option ℕ) → (turn_of X i (op.Call t g args)).made ≡ option_map (λ t. note t Plain) t
      go None = refl
      go (Some t) = refl

  pub call_stands : (turn_of X i (op.Call t g args)).stands ≡ Some (op.Call t g args)
  call_stands = go t
    where
      go : (t : Option ℕ) → (turn_of X i (op.Call t g args)).stands ≡ Some (op.Call t g args)
      go None = refl
      go (Some t) = refl

pub store_access : (X : Plan) (i : ℕ → Fact) (p a : ℕ) → (is_access X (i p) && is_plain (i a)) ≡ true → is_access X (i p) ≡ true
store_access X i p a e = both_0 (is_access X (i p)) (is_plain (i a)) e
