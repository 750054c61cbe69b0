-- The objects in memory, by the objects that they stand for.
use Rattle.std.proofs.Common.{◌≡◌, ◌⊎◌, ℕ, zero, suc, ◌+◌, ◌-◌, ◌≤◌, ◌<◌, true, false, ◌&&◌, ltb, leb, inl, inr, Option, Some, None, List, [], ◌∷◌, ◌++◌, map, length, get_or, set, take, Result, Err, IfErr, refl, sym, ap, ◌∙◌, subst, arith}
use Rattle.std.proofs.lemmas.List.{length-map, nil_from_length, take_all, take_more, take-map, map-set, set-get_or}
use Rattle.std.proofs.lemmas.Bool.{cases_lt, cases_eq}
use Rattle.obj_mem.specs.declared.object.Object.{Object}
use Rattle.std.proofs.lemmas.Result.{IfErr-weaker}
use Rattle.std.specs.List.{remove}
use Rattle.obj_mem.specs.declared.cell.Cell.{Cell}
use Rattle.obj_mem.specs.declared.access.Access.{Access}
use Rattle.obj_mem.specs.declared.access.Access.TheVariants.{Dead}
use Rattle.obj_mem.specs.Objects.{ObjectT, extent, cell_at, read_refused, unless_refused, write_refused}
use Rattle.obj_mem.specs.Living.{LiveT, as_object, found, live_at, live_below, live_without, live_written, nothing, number_at, place_of, Rises, written_at}
use Rattle.obj_mem.specs.LiveView.{live_object}
use Rattle.obj_mem.proofs.Places.{rises_at, place_here, place_none, place_length, found_place, found_none, written_place, without_place, without_none, below_shorter, below_all}

map-remove : (k : ℕ) (xs : List Object) → map live_object (remove xs k) ≡ remove (map live_object xs) k
map-remove zero [] = refl
map-remove (suc k) [] = refl
map-remove zero (x ∷ xs) = refl
map-remove (suc k) (x ∷ xs) = ap (λ l. live_object x ∷ l) (map-remove k xs)

rises_front : (k : ℕ) (xs : List Object) (first next : ℕ) → Rises first next (map live_object xs) → Rises first next (map live_object (take k xs))
rises_front zero xs first next r = tt
rises_front (suc k) [] first next r = tt
rises_front (suc k) (x ∷ xs) first next r = (r.0, r.1, rises_front k xs (x.number + 1) next r.2)

at_map : (xs : List Object) (k : ℕ) (x : Object) → k < length xs → live_object (get_or xs k x) ≡ live_at (map live_object xs) k
at_map [] k x l = absurd (omega (arith, l))
at_map (y ∷ ys) zero x l = refl
at_map (y ∷ ys) (suc k) x l = at_map ys k x (omega (arith, l))

whole : (ys : List LiveT) → 0 < length ys → ys ≡ take (length ys - 1) ys ++ live_at ys (length ys - 1) ∷ []
whole ys l = sym (subst (λ k. take k ys ≡ ys) (omega (arith, l)) (take_all (length ys) ys (omega arith))) ∙ take_more ys (length ys - 1) nothing (omega (arith, l))

below_last : (ys : List LiveT) (n : ℕ) → 0 < length ys → n ≤ number_at ys (length ys - 1) → live_below n (take (length ys - 1) ys) ≡ live_below n ys
below_last ys n l e = sym (ap (live_below n) (whole ys l) ∙ below_shorter n (take (length ys - 1) ys) (live_at ys (length ys - 1)) e)

below_whole : (ys : List LiveT) (n : ℕ) → ((next : ℕ) × Rises 0 next ys) → number_at ys (length ys - 1) < n → live_below n ys ≡ ys
below_whole [] n r e = refl
below_whole (x ∷ xs) n r e =
    let ys : List LiveT = x ∷ xs in
    let w : ys ≡ take (length ys - 1) ys ++ live_at ys (length ys - 1) ∷ [] = whole ys (omega arith) in
    ap (live_below n) w ∙ below_all n (take (length ys - 1) ys) (live_at ys (length ys - 1)) 0 r.0 (subst (Rises 0 r.0) w r.1) e ∙ sym w

module _ (xs : List Object) where
  same_length : length (map live_object xs) ≡ length xs
  same_length = length-map xs live_object

  pub found_at : (o k : ℕ) → ((next : ℕ) × Rises 0 next (map live_object xs)) → k < length xs → number_at (map live_object xs) k ≡ o → Some k ≡ place_of (map live_object xs) o
  found_at o k r l e = sym (place_here (map live_object xs) 0 r.0 k o r.1 (omega (arith, same_length, l)) e)

  -- the numbers before a place are lower, those from there on are not, and none there is that number
  pub found_nowhere : (o at : ℕ) → ((next : ℕ) × Rises 0 next (map live_object xs)) → ((k : ℕ) → k < at → number_at (map live_object xs) k < o) → ((k : ℕ) → at ≤ k → k < length xs → o ≤ number_at (map live_object xs) k) → ((at < length xs) × (number_at (map live_object xs) at ≡ o) → ⊥) → None ≡ place_of (map live_object xs) o
  found_nowhere o at r below from missing = sym (place_none (map live_object xs) o (λ k l e. elim (cases_lt k at) [
    | inl h ↦ let g : number_at (map live_object xs) k < o = below k h in omega (arith, g, e)
    | inr h ↦ elim (cases_eq k at) [
      | inl q ↦ missing (omega (arith, same_length, l, q), subst (λ j. number_at (map live_object xs) j ≡ o) q e)
      | inr q ↦
          let g : o ≤ number_at (map live_object xs) at = from at (omega arith) (omega (arith, same_length, l, h)) in
          let m : number_at (map live_object xs) at < number_at (map live_object xs) k = rises_at (map live_object xs) 0 r.0 at k r.1 (omega (arith, h, q)) l in
          omega (arith, g, m, e)
    ]
  ]))

  -- where the number at a place is lower, so are those before it; else those behind it are not lower
  pub lower_before : (o at : ℕ) → ((next : ℕ) × Rises 0 next (map live_object xs)) → at < length xs → number_at (map live_object xs) at < o → (k : ℕ) → k < at + 1 → number_at (map live_object xs) k < o
  lower_before o at r l lt k h = elim (cases_eq k at) [
    | inl q ↦ subst (λ j. number_at (map live_object xs) j < o) (sym q) lt
    | inr q ↦ let m : number_at (map live_object xs) k < number_at (map live_object xs) at = rises_at (map live_object xs) 0 r.0 k at r.1 (omega (arith, h, q)) (omega (arith, same_length, l)) in omega (arith, m, lt)
  ]

  pub higher_behind : (o at : ℕ) → ((next : ℕ) × Rises 0 next (map live_object xs)) → o ≤ number_at (map live_object xs) at → (k : ℕ) → at ≤ k → k < length xs → o ≤ number_at (map live_object xs) k
  higher_behind o at r le k h l = elim (cases_eq k at) [
    | inl q ↦ subst (λ j. o ≤ number_at (map live_object xs) j) (sym q) le
    | inr q ↦ let m : number_at (map live_object xs) at < number_at (map live_object xs) k = rises_at (map live_object xs) 0 r.0 at k r.1 (omega (arith, h, q)) (omega (arith, same_length, l)) in omega (arith, m, le)
  ]

  pub here_within : (o k : ℕ) → Some k ≡ place_of (map live_object xs) o → k < length xs
  here_within o k e = omega (arith, place_length (map live_object xs) o k (sym e), same_length)

  pub read_here : (o i k : ℕ) → Some k ≡ place_of (map live_object xs) o → unless_refused (read_refused (as_object (live_at (map live_object xs) k)) i) (cell_at (as_object (live_at (map live_object xs) k)) i) ≡ unless_refused (read_refused (found (map live_object xs) o) i) (cell_at (found (map live_object xs) o) i)
  read_here o i k e = ap (λ x. unless_refused (read_refused x i) (cell_at x i)) (sym (found_place (map live_object xs) o k (sym e)))

  pub read_ended : (o i : ℕ) → None ≡ place_of (map live_object xs) o → Err Dead ≡ unless_refused (read_refused (found (map live_object xs) o) i) (cell_at (found (map live_object xs) o) i)
  read_ended o i e = ap (λ x. unless_refused (read_refused x i) (cell_at x i)) (sym (found_none (map live_object xs) o (sym e)))

  pub write_due : (o i k : ℕ) (p : Option Access) → Some k ≡ place_of (map live_object xs) o → write_refused (as_object (live_at (map live_object xs) k)) i ≡ p → write_refused (found (map live_object xs) o) i ≡ p
  write_due o i k p e h = ap (λ x. write_refused x i) (found_place (map live_object xs) o k (sym e)) ∙ h

  pub write_why : {T : Type 0} (o i k : ℕ) (r : Result T Access) → Some k ≡ place_of (map live_object xs) o → IfErr r (λ why. write_refused (as_object (live_at (map live_object xs) k)) i ≡ Some why) → IfErr r (λ why. write_refused (found (map live_object xs) o) i ≡ Some why)
  write_why o i k r e = IfErr-weaker r (λ why. write_refused (as_object (live_at (map live_object xs) k)) i ≡ Some why) (λ why. write_refused (found (map live_object xs) o) i ≡ Some why) (λ why h. write_due o i k (Some why) e h)

  pub write_ended : (o i : ℕ) → None ≡ place_of (map live_object xs) o → write_refused (found (map live_object xs) o) i ≡ Some Dead
  write_ended o i e = ap (λ x. write_refused x i) (found_none (map live_object xs) o (sym e))

  pub written_here : (o i k : ℕ) (c : Cell) → Some k ≡ place_of (map live_object xs) o → written_at k i c (map live_object xs) ≡ live_written o i c (map live_object xs)
  written_here o i k c e = sym (written_place o i c (map live_object xs) k (sym e))

  pub none_out : (o : ℕ) → None ≡ place_of (map live_object xs) o → map live_object xs ≡ live_without o (map live_object xs)
  none_out o e = sym (without_none o (map live_object xs) (sym e))

  pub taken_out : (o k : ℕ) → Some k ≡ place_of (map live_object xs) o → map live_object (remove xs k) ≡ live_without o (map live_object xs)
  taken_out o k e = map-remove k xs ∙ sym (without_place o (map live_object xs) k (sym e))

  pub all_below : (n : ℕ) → ((next : ℕ) × Rises 0 next (map live_object xs)) → (length xs ≡ 0) ⊎ (number_at (map live_object xs) (length xs - 1) < n) → live_below n (map live_object xs) ≡ map live_object xs
  all_below n r (inl e) = let h : map live_object xs ≡ [] = nil_from_length (map live_object xs) (omega (arith, same_length, e)) in subst (λ l. live_below n l ≡ l) (sym h) refl
  all_below n r (inr e) = below_whole (map live_object xs) n r (subst (λ k. number_at (map live_object xs) (k - 1) < n) (sym same_length) e)

  pub last_not_below : (n : ℕ) → 0 < length xs → n ≤ number_at (map live_object xs) (length xs - 1) → live_below n (map live_object (take (length xs - 1) xs)) ≡ live_below n (map live_object xs)
  last_not_below n l e = ap (live_below n) (sym (take-map live_object (length xs - 1) xs))
      ∙ subst (λ k. live_below n (take (k - 1) (map live_object xs)) ≡ live_below n (map live_object xs)) same_length
      (below_last (map live_object xs) n (omega (arith, same_length, l)) (subst (λ k. n ≤ number_at (map live_object xs) (k - 1)) (sym same_length) e))

  pub front_rises : (k : ℕ) → ((next : ℕ) × Rises 0 next (map live_object xs)) → (next : ℕ) × Rises 0 next (map live_object (take k xs))
  front_rises k r = (r.0, rises_front k xs 0 r.0 r.1)

  pub written_map : (k i : ℕ) (c : Cell) (x y : Object) → k < length xs → live_object y ≡ record (live_object (get_or xs k x)) { cells = set (live_object (get_or xs k x)).cells i c } → map live_object (set xs k y) ≡ written_at k i c (map live_object xs)
  written_map k i c x y l h = map-set live_object xs k y ∙ ap (set (map live_object xs) k) (h ∙ ap (λ (z : LiveT). record z { cells = set z.cells i c }) (at_map xs k x l))

  pub kept_map : (k : ℕ) (x y : Object) → k < length xs → live_object y ≡ live_object (get_or xs k x) → map live_object (set xs k y) ≡ map live_object xs
  kept_map k x y l h = map-set live_object xs k y ∙ ap (set (map live_object xs) k) (h ∙ at_map xs k x l) ∙ set-get_or (map live_object xs) k nothing

  pub lives_here : (o k : ℕ) → Some k ≡ place_of (map live_object xs) o → true ≡ (found (map live_object xs) o).lives
  lives_here o k e = ap (λ (x : ObjectT). x.lives) (sym (found_place (map live_object xs) o k (sym e)))

  pub lives_ended : (o : ℕ) → None ≡ place_of (map live_object xs) o → false ≡ (found (map live_object xs) o).lives
  lives_ended o e = ap (λ (x : ObjectT). x.lives) (sym (found_none (map live_object xs) o (sym e)))

  pub cells_here : (o k : ℕ) (x : Object) → k < length xs → Some k ≡ place_of (map live_object xs) o → (get_or xs k x).cells.items ≡ (found (map live_object xs) o).cells
  cells_here o k x l e = ap (λ (x : LiveT). x.cells) (at_map xs k x l) ∙ ap (λ (x : ObjectT). x.cells) (sym (found_place (map live_object xs) o k (sym e)))

  pub cells_ended : (o : ℕ) → None ≡ place_of (map live_object xs) o → [] ≡ (found (map live_object xs) o).cells
  cells_ended o e = ap (λ (x : ObjectT). x.cells) (sym (found_none (map live_object xs) o (sym e)))

  pub inside_here : (o i k : ℕ) → Some k ≡ place_of (map live_object xs) o → ltb i (extent (as_object (live_at (map live_object xs) k))) ≡ ((found (map live_object xs) o).lives && ltb i (extent (found (map live_object xs) o)))
  inside_here o i k e = ap (λ (x : ObjectT). x.lives && ltb i (extent x)) (sym (found_place (map live_object xs) o k (sym e)))

  pub inside_ended : (o i : ℕ) → None ≡ place_of (map live_object xs) o → false ≡ ((found (map live_object xs) o).lives && ltb i (extent (found (map live_object xs) o)))
  inside_ended o i e = ap (λ (x : ObjectT). x.lives && ltb i (extent x)) (sym (found_none (map live_object xs) o (sym e)))

  pub within_here : (o i k : ℕ) → Some k ≡ place_of (map live_object xs) o → leb i (extent (as_object (live_at (map live_object xs) k))) ≡ ((found (map live_object xs) o).lives && leb i (extent (found (map live_object xs) o)))
  within_here o i k e = ap (λ (x : ObjectT). x.lives && leb i (extent x)) (sym (found_place (map live_object xs) o k (sym e)))

  pub within_ended : (o i : ℕ) → None ≡ place_of (map live_object xs) o → false ≡ ((found (map live_object xs) o).lives && leb i (extent (found (map live_object xs) o)))
  within_ended o i e = ap (λ (x : ObjectT). x.lives && leb i (extent x)) (sym (found_none (map live_object xs) o (sym e)))
