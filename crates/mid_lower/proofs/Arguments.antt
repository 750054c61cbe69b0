-- Arguments: the temporaries that hold them, and the structures among them, which end behind the call.
use Rattle.std.proofs.Common.{◌≡◌, ℕ, suc, ◌<◌, Bool, true, false, eqb, List, [], ◌∷◌, ◌++◌, map, length, refl, ap, ◌∙◌, arith, if◌then◌else◌}
use Rattle.std.proofs.lemmas.List.{append_assoc}
use Rattle.c_types.specs.Types.{Ty}
use Rattle.c_types.specs.Typed.{TExprTs, NoX, MoreX}
use Rattle.obj_mem.specs.Objects.{ObjectT, end_object}
use Rattle.obj_mem.specs.declared.cell.Cell.{Cell}
use Rattle.obj_mem.specs.declared.cell.Cell.TheVariants.{Unwritten, Num, Ptr, Null}
use Rattle.obj_mem.specs.Stores.{Store, with_objects}
use Rattle.obj_mem.specs.Worlds.{World, on_store}
use Rattle.c_types.specs.Kinds.{is_structure}
use Rattle.c_meaning.specs.Outcomes.{Val, Vals, Values, Short, then_values, in_front}
use Rattle.c_meaning.specs.Cells.{end_temporary}
use Rattle.c_meaning.specs.Expressions.{all_released}
use Rattle.lower_trees.specs.Expressions.{second, spots}
use Rattle.mid_lower.proofs.Following.{Side, Goal, eqb_more}
use Rattle.mid_lower.proofs.Taken.{TakenAll, taken_ended}

-- ---- temporaries hold them

abbrev pub Holds : List ℕ → List Cell → (ℕ → Cell) → Type 0
Holds [] [] ρ = Unit {0}
Holds (a ∷ bs) [] ρ = ⊥
Holds [] (v ∷ vs) ρ = ⊥
Holds (a ∷ bs) (v ∷ vs) ρ = (ρ a ≡ v) × Holds bs vs ρ

pub holds_length : (bs : List ℕ) (vs : List Cell) (ρ : ℕ → Cell) → Holds bs vs ρ → length bs ≡ length vs
holds_length [] [] ρ h = refl
holds_length (a ∷ bs) [] ρ h = absurd h
holds_length [] (v ∷ vs) ρ h = absurd h
holds_length (a ∷ bs) (v ∷ vs) ρ h = ap suc (holds_length bs vs ρ h.1)

pub holds_map : (bs : List ℕ) (vs : List Cell) (ρ : ℕ → Cell) → Holds bs vs ρ → map ρ bs ≡ vs
holds_map [] [] ρ h = refl
holds_map (a ∷ bs) [] ρ h = absurd h
holds_map [] (v ∷ vs) ρ h = absurd h
holds_map (a ∷ bs) (v ∷ vs) ρ h = ap (λ u. u ∷ map ρ bs) h.0 ∙ ap (λ us. v ∷ us) (holds_map bs vs ρ h.1)

-- where another temporary is set
pub holds_still : (xs : TExprTs) (vs : List Cell) (t n : ℕ) (ρ σ : ℕ → Cell) → t < n → ((j : ℕ) → eqb j t ≡ false → σ j ≡ ρ j) → Holds (spots xs n) vs ρ → Holds (spots xs n) vs σ
holds_still NoX [] t n ρ σ lt same h = tt
holds_still NoX (v ∷ vs) t n ρ σ lt same h = absurd h
holds_still (MoreX x xs) [] t n ρ σ lt same h = absurd h
holds_still (MoreX x xs) (v ∷ vs) t n ρ σ lt same h = (same n (eqb_more n t lt) ∙ h.0, holds_still xs vs t (second x n) ρ σ (omega (arith, lt)) same h.1)

pub front_is : (v : Cell) (r : Vals) (go : List Cell → World → Val) → then_values (in_front v r) go ≡ then_values r (λ vs. go (v ∷ vs))
front_is v (Values vs w) go = refl
front_is v (Short f w) go = refl

-- ---- structures among them

abbrev pub with_object : (structure : Bool) → Cell → List ℕ → List ℕ
with_object false c os = os
with_object true (Ptr o i) os = o ∷ os
with_object true _ os = os

-- the objects of the structures that are passed for parameters of these types
abbrev pub passed : List Ty → List Cell → List ℕ
passed tys [] = []
passed [] (c ∷ cs) = []
passed (ty ∷ tys) (c ∷ cs) = with_object (is_structure ty) c (passed tys cs)

pub passed_front : (ts : List ℕ) (b : Bool) (c : Cell) (us : List ℕ) → (ts ++ with_object b c []) ++ us ≡ ts ++ with_object b c us
passed_front ts b c us = append_assoc ts (with_object b c []) us ∙ ap (λ r. ts ++ r) (one b c)
  where
    one : (b : Bool) (c : Cell) → with_object b c [] ++ us ≡ with_object b c us
    one false c = refl
    one true (Ptr o i) = refl
    one true Unwritten = refl
    one true (Num n) = refl
    one true Null = refl

-- they end
abbrev pub ended_all : List ℕ → List ObjectT → List ObjectT
ended_all [] os = os
ended_all (o ∷ more) os = ended_all more (end_object os o)

abbrev pub with_ended : List ℕ → Store → Store
with_ended ts u = with_objects (ended_all ts u.objects) u

pub released_is : (tys : List Ty) (cs : List Cell) (u : Store) → all_released tys cs u ≡ with_ended (passed tys cs) u
released_is [] [] u = refl
released_is [] (c ∷ cs) u = refl
released_is (ty ∷ tys) [] u = refl
released_is (ty ∷ tys) (c ∷ cs) u = by (is_structure ty) c (released_is tys cs)
  where
    by : (b : Bool) (c : Cell) → ((v : Store) → all_released tys cs v ≡ with_ended (passed tys cs) v) → all_released tys cs (if b then end_temporary c u else u) ≡ with_ended (with_object b c (passed tys cs)) u
    by false c rest = rest u
    by true (Ptr o i) rest = rest (with_objects (end_object u.objects o) u)
    by true Unwritten rest = rest u
    by true (Num n) rest = rest u
    by true Null rest = rest u

pub passed_ended : (γ : Goal) (s hi : ℕ) (ts us : List ℕ) (w : World) (x : Side) → TakenAll γ s hi (ts ++ us) w x → TakenAll γ s hi us (on_store (with_ended ts) w) x
passed_ended γ s hi [] us w x h = h
passed_ended γ s hi (o ∷ ts) us w x h = passed_ended γ s hi ts us (on_store (with_objects (end_object w.store.objects o)) w) x (taken_ended γ s hi [] o (ts ++ us) w x h)
