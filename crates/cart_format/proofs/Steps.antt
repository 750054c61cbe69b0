-- Steps that may fail, and fronts of bytes.
use Rattle.std.proofs.Common.{◌≡◌, ℕ, zero, suc, ◌+◌, Bool, true, false, cond, List, [], ◌∷◌, ◌++◌, length, drop, refl, sym, ap, subst, ◌∙◌, append_assoc}
use Rattle.std.specs.Prelude.{Result, Ok, Err}
use Rattle.std.specs.List.{flat_map, AllByRecursion}
use Rattle.std.proofs.lemmas.List.{drop_at}
use Rattle.std.proofs.lemmas.List.Concat.{flat_map-cons}
use Rattle.asset_pack.specs.declared.error.AssetFault.{AssetFault}
use Rattle.asset_pack.specs.Words.{IsBytes}
use Rattle.asset_pack.proofs.Bytes.{IsBytes-drop}
use Rattle.cart_format.specs.declared.error.CartFault.{CartFault}
use Rattle.cart_format.specs.Reading.{◌>>=◌, section, many}

abbrev pub fine : {A : Type 0} → A → Result A CartFault
fine x = Ok x

pub bind_ok : {A B : Type 0} (r : Result A CartFault) (f : A → Result B CartFault) (y : B) → (r >>= f) ≡ Ok y → (x : A) × (r ≡ Ok x) × (f x ≡ Ok y)
bind_ok (Ok x) f y e = (x, refl, e)
bind_ok (Err d) f y e = absurd cc

-- a test that must not hold, and one that must
pub guard_ok : {A : Type 0} (b : Bool) (d : CartFault) (x y : A) → cond b (Err d) (Ok x) ≡ Ok y → (b ≡ false) × (x ≡ y)
guard_ok true d x y e = absurd cc
guard_ok false d x y e = (refl, cc)

pub ended_ok : {A : Type 0} (b : Bool) (d : CartFault) (x y : A) → cond b (Ok x) (Err d) ≡ Ok y → (b ≡ true) × (x ≡ y)
ended_ok true d x y e = (refl, cc)
ended_ok false d x y e = absurd cc

pub ok_is : {A : Type 0} (x y : A) → fine x ≡ fine y → x ≡ y
ok_is x y e = cc

pub section_ok : {A : Type 0} (index : ℕ) (r : Result A AssetFault) (x : A) → section index r ≡ Ok x → r ≡ Ok x
section_ok index (Ok y) x e = let same : y ≡ x = cc in ap (λ z. Ok z) same
section_ok index (Err d) x e = absurd cc

pub rest_fits : (bytes text rest : List ℕ) → IsBytes bytes → bytes ≡ text ++ rest → IsBytes rest
rest_fits bytes text rest fits e =
    let r : drop (length text) bytes ≡ rest = ap (drop (length text)) e ∙ drop_at text rest (length text) refl in
    subst (λ (x : List ℕ). IsBytes x) r (IsBytes-drop (length text) bytes fits)

pub joined : (bytes a b rest : List ℕ) → bytes ≡ a ++ b → (c : List ℕ) → b ≡ c ++ rest → bytes ≡ (a ++ c) ++ rest
joined bytes a b rest e c f = e ∙ ap (λ (x : List ℕ). a ++ x) f ∙ sym (append_assoc a c rest)

-- items one after another are spelled so, and read again
module _ {X : Type 0} (item : ℕ → List ℕ → Result (X × List ℕ) CartFault) (text : X → List ℕ) (P : X → Type 0) where
  pub many_takes : ((index : ℕ) (bytes : List ℕ) (x : X × List ℕ) → IsBytes bytes → item index bytes ≡ Ok x → P x.0 × (bytes ≡ text x.0 ++ x.1))
      → (step index n : ℕ) (bytes : List ℕ) (x : List X × List ℕ) → IsBytes bytes → many item step index n bytes ≡ Ok x → AllByRecursion P x.0 × (length x.0 ≡ n) × (bytes ≡ flat_map text x.0 ++ x.1)
  unfolding many
  many_takes law step index zero bytes x fits e =
      subst (λ (y : List X × List ℕ). AllByRecursion P y.0 × (length y.0 ≡ 0) × (bytes ≡ flat_map text y.0 ++ y.1)) (ok_is ([], bytes) x e) (tt, refl, refl)
  many_takes law step index (suc n) bytes x fits e =
      let a = bind_ok (item index bytes) (λ first. many item step (index + step) n first.1 >>= λ others. Ok (first.0 ∷ others.0, others.1)) x e in
      let b = bind_ok (many item step (index + step) n a.0.1) (λ others. Ok (a.0.0 ∷ others.0, others.1)) x a.2 in
      let first = law index bytes a.0 fits a.1 in
      let second = many_takes law step (index + step) n a.0.1 b.0 (rest_fits bytes (text a.0.0) a.0.1 fits first.1) b.1 in
      let both : bytes ≡ flat_map text (a.0.0 ∷ b.0.0) ++ b.0.1 = joined bytes (text a.0.0) a.0.1 b.0.1 first.1 (flat_map text b.0.0) second.2 ∙ ap (λ (y : List ℕ). y ++ b.0.1) (sym (flat_map-cons text a.0.0 b.0.0)) in
      let made : List X × List ℕ = (a.0.0 ∷ b.0.0, b.0.1) in
      subst (λ (y : List X × List ℕ). AllByRecursion P y.0 × (length y.0 ≡ suc n) × (bytes ≡ flat_map text y.0 ++ y.1)) (ok_is made x b.2) ((first.0, second.0), ap suc second.1, both)

  pub many_again : ((index : ℕ) (x : X) (rest : List ℕ) → P x → item index (text x ++ rest) ≡ Ok (x, rest))
      → (step index : ℕ) (xs : List X) (rest : List ℕ) → AllByRecursion P xs → many item step index (length xs) (flat_map text xs ++ rest) ≡ Ok (xs, rest)
  unfolding many
  many_again law step index [] rest all = refl
  many_again law step index (x ∷ xs) rest all =
      let regrouped : flat_map text (x ∷ xs) ++ rest ≡ text x ++ (flat_map text xs ++ rest) = ap (λ (y : List ℕ). y ++ rest) (flat_map-cons text x xs) ∙ append_assoc (text x) (flat_map text xs) rest in
      ap (many item step index (suc (length xs))) regrouped ∙ rw (law index x (flat_map text xs ++ rest) all.0, many_again law step (index + step) xs rest all.1) refl
