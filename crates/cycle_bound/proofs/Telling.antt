-- What is told of a function is so.
use Rattle.std.proofs.Common.{◌≡◌, ℕ, zero, suc, ◌+◌, ◌<◌, ◌≤◌, inl, inr, cond, List, [], ◌∷◌, ◌++◌, length, map, drop, take, refl, sym, ap, subst, ◌∙◌, arith, take-append-drop}
use Rattle.std.specs.Prelude.{Option, Some, None, slice_index_or}
use Rattle.std.specs.List.{AllZip}
use Rattle.std.proofs.lemmas.Bool.{cases_lt, lt-ltb, le-ltb}
use Rattle.asm_items.specs.declared.item.AsmItem.{AsmItem}
use Rattle.asm_laws.specs.Labelled.{label_of_function}
use Rattle.asm_laws.specs.Numbers.{behind, Number}
use Rattle.asm_laws.specs.Longest.{Forbids, IsLongest}
use Rattle.asm_laws.proofs.Deciding.{number_or_forbids, number_is_longest}
use Rattle.cycle_bound.specs.declared.bound.Bound.{Bound}
use Rattle.cycle_bound.specs.declared.bound.Bound.TheVariants as bounds
use Rattle.cycle_bound.specs.declared.node.Node.{Node}
use Rattle.cycle_bound.specs.Told.{IsBoundAt, IsBoundOf}
use Rattle.cycle_bound.specs.inner.Places.{place_of, place_in, node_of, nodes_of, gathered, told}
use Rattle.cycle_bound.specs.inner.Settled.{Table, capped, known, Settled, Closed}
use Rattle.cycle_bound.proofs.Placed.{placed}
use Rattle.cycle_bound.proofs.Gathering.{nodes_are, places_are}
use Rattle.cycle_bound.proofs.Sound.{Cut, sound, known_is}
use Rattle.cycle_bound.proofs.Closed.{not_known, kept}

module _ (all p : List AsmItem) where
  most : (n v : ℕ) → Number all p n → v ≡ capped n → v < 1000000000001 → IsBoundAt all p (bounds.Most v)
  most n v h e lt =
      let same : n ≡ v = omega (arith, e, lt) in
      (number_is_longest all p v (subst (λ m. Number all p m) same h), omega (arith, lt))

  over : (n v : ℕ) → Number all p n → v ≡ capped n → 1000000000001 ≤ v → IsBoundAt all p bounds.Over
  over n v h e le = (n, number_is_longest all p n h, omega (arith, e, le))

  told_some : (v : ℕ) → Cut all p v → IsBoundAt all p (told (Some v))
  told_some v x = elim (cases_lt v 1000000000001) [
    | inl lt ↦ subst (λ b. IsBoundAt all p (cond b (bounds.Most v) bounds.Over)) (sym (lt-ltb v 1000000000001 lt)) (most x.0 v x.1 x.2 lt)
    | inr le ↦ subst (λ b. IsBoundAt all p (cond b (bounds.Most v) bounds.Over)) (sym (le-ltb v 1000000000001 le)) (over x.0 v x.1 x.2 le)
  ]

  by_value : (o : Option ℕ) → (o ≡ None → Forbids all p) → ((v : ℕ) → o ≡ Some v → Cut all p v) → IsBoundAt all p (told o)
  by_value None f g = f refl
  by_value (Some v) f g = told_some v (g v refl)

module _ (all : List AsmItem) (vs : Table) (s : Settled (nodes_of all) vs) (c : Closed (nodes_of all) vs) where
  -- from an empty place a path comes where none may come
  forbidden : (i : ℕ) → slice_index_or vs i None ≡ None → Forbids all (drop i all)
  forbidden i e = elim (number_or_forbids all (drop i all) (take i all, sym (take-append-drop i all))) [
    | inl x ↦ absurd (kept all vs c (drop i all) x.0 x.1 i refl e)
    | inr f ↦ f
  ]

  pub told_is : (l : List ℕ) → IsBoundAt all (behind all l) (told (known vs (place_of all l)))
  unfolding known
  told_is l = subst (λ p. IsBoundAt all p (told (known vs (place_of all l)))) (placed all l) (by_value all (drop (place_of all l) all) (known vs (place_of all l))
      (λ e. forbidden (place_of all l) (not_known (slice_index_or vs (place_of all l) None) e))
      (λ v e. known_is all vs (sound all vs s) (place_of all l) v e))

pub bound_is : (items : List AsmItem) (vs : Table) → Settled (nodes_of items) vs → Closed (nodes_of items) vs → (name : List ℕ) → IsBoundOf items name (told (known vs (place_of items (label_of_function name))))
unfolding IsBoundOf
bound_is items vs s c name = told_is items vs s c (label_of_function name)

module _ (items : List AsmItem) (labels : List (List ℕ × ℕ)) (nodes seen_nodes : List Node) (vs values : Table) (name label : List ℕ) (b : Bound) where
  pub bound_of : labels ≡ gathered 0 [] items → nodes ≡ map (node_of (place_in labels (length items))) items → seen_nodes ≡ nodes → Settled seen_nodes vs → Closed seen_nodes vs → values ≡ vs → label ≡ label_of_function name → b ≡ told (known values (place_in labels (length items) label)) → IsBoundOf items name b
  bound_of e f o s c v g h =
      let n : seen_nodes ≡ nodes_of items = o ∙ nodes_are items labels nodes e f in
      let s' : Settled (nodes_of items) vs = subst (λ x. Settled x vs) n s in
      let c' : Closed (nodes_of items) vs = subst (λ x. Closed x vs) n c in
      let p : place_in labels (length items) label ≡ place_of items (label_of_function name) = ap (λ ls. place_in ls (length items) label) e ∙ places_are items label ∙ ap (place_of items) g in
      let t : b ≡ told (known vs (place_of items (label_of_function name))) = h ∙ (λ j. told (known (v j) (p j))) in
      subst (IsBoundOf items name) (sym t) (bound_is items vs s' c' name)

each_by : {A B : Type 0} (R : A → B → Type 0) (xs : List A) (i : ℕ) (ys : List B) (d : A) (y : B) → AllZip R (take i xs) ys → i < length xs → R (slice_index_or xs i d) y → AllZip R (take (suc i) xs) (ys ++ y ∷ [])
each_by R [] i ys d y h lt r = absurd (omega (arith, lt))
each_by R (x ∷ xs) zero [] d y h lt r = (r, tt)
each_by R (x ∷ xs) zero (z ∷ ys) d y h lt r = absurd h
each_by R (x ∷ xs) (suc i) [] d y h lt r = absurd h
each_by R (x ∷ xs) (suc i) (z ∷ ys) d y h lt r = (h.0, each_by R xs i ys d y h.1 (omega (arith, lt)) r)

pub each_on : {A B : Type 0} (R : A → B → Type 0) (xs : List A) (i : ℕ) (ys zs : List B) (d x : A) (y : B) → AllZip R (take i xs) ys → i < length xs → x ≡ slice_index_or xs i d → zs ≡ ys ++ y ∷ [] → R x y → AllZip R (take (i + 1) xs) zs
each_on R xs i ys zs d x y h lt is grown r =
    let e : suc i ≡ i + 1 = omega arith in
    subst (λ ws. AllZip R (take (i + 1) xs) ws) (sym grown) (subst (λ j. AllZip R (take j xs) (ys ++ y ∷ [])) e (each_by R xs i ys d y h lt (subst (λ x'. R x' y) is r)))

-- ---- a function has one bound

one_number : (items p : List AsmItem) (m n : ℕ) → IsLongest items p m → IsLongest items p n → m ≡ n
one_number items p m n a b = let x = a.most n b.taken in let y = b.most m a.taken in omega (arith, x, y)

one_at : (items p : List AsmItem) (a b : Bound) → IsBoundAt items p a → IsBoundAt items p b → a ≡ b
one_at items p (bounds.Most m) (bounds.Most n) h g = ap bounds.Most (one_number items p m n h.0 g.0)
one_at items p (bounds.Most m) bounds.Over h g = absurd (let e = one_number items p m g.0 h.0 g.1 in let x = h.1 in let y = g.2 in omega (arith, e, x, y))
one_at items p (bounds.Most m) bounds.Unbounded h g = absurd (h.0.allowed g)
one_at items p bounds.Over (bounds.Most n) h g = absurd (let e = one_number items p n h.0 g.0 h.1 in let x = g.1 in let y = h.2 in omega (arith, e, x, y))
one_at items p bounds.Over bounds.Over h g = refl
one_at items p bounds.Over bounds.Unbounded h g = absurd (h.1.allowed g)
one_at items p bounds.Unbounded (bounds.Most n) h g = absurd (g.0.allowed h)
one_at items p bounds.Unbounded bounds.Over h g = absurd (g.1.allowed h)
one_at items p bounds.Unbounded bounds.Unbounded h g = refl

pub one_bound : (items : List AsmItem) (name : List ℕ) (a b : Bound) → IsBoundOf items name a → IsBoundOf items name b → a ≡ b
unfolding IsBoundOf
one_bound items name a b h g = one_at items (behind items (label_of_function name)) a b h g
