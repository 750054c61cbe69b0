-- The place of an object among those that live.
use Rattle.std.proofs.Common.{◌≡◌, ◌≢◌, ◌⊎◌, ℕ, zero, suc, ◌+◌, ◌≤◌, ◌<◌, inl, inr, cond, ltb, Option, Some, None, List, [], ◌∷◌, ◌++◌, length, set, refl, sym, ap, ◌∙◌, subst, arith}
use Rattle.std.specs.List.{remove}
use Rattle.std.specs.Option.{option_map}
use Rattle.std.proofs.lemmas.Bool.{ne_eqb, eq-eqb, lt-ltb, le-ltb}
use Rattle.std.proofs.lemmas.Bool.Decides.{eqb_tells}
use Rattle.obj_mem.specs.declared.cell.Cell.{Cell}
use Rattle.obj_mem.specs.Objects.{object, ended}
use Rattle.obj_mem.specs.Living.{LiveT, found, live_at, number_at, place_of, Rises, live_written, live_without, live_below}

low_at : (live : List LiveT) (first next k : ℕ) → Rises first next live → k < length live → (first ≤ number_at live k) × (number_at live k < next)
low_at [] first next k r lt = absurd (omega (arith, lt))
low_at (x ∷ xs) first next zero r lt = (r.0, r.1)
low_at (x ∷ xs) first next (suc k) r lt = let h : (x.number + 1 ≤ number_at xs k) × (number_at xs k < next) = low_at xs (x.number + 1) next k r.2 (omega (arith, lt)) in (omega (arith, h, r.0), h.1)

pub number_below : (live : List LiveT) (first next k : ℕ) → Rises first next live → k < length live → number_at live k < next
number_below live first next k r lt = (low_at live first next k r lt).1

pub rises_at : (live : List LiveT) (first next i j : ℕ) → Rises first next live → i < j → j < length live → number_at live i < number_at live j
rises_at [] first next i j r lt l = absurd (omega (arith, l))
rises_at (x ∷ xs) first next i zero r lt l = absurd (omega (arith, lt))
rises_at (x ∷ xs) first next zero (suc j) r lt l = let h : (x.number + 1 ≤ number_at xs j) × (number_at xs j < next) = low_at xs (x.number + 1) next j r.2 (omega (arith, l)) in omega (arith, h)
rises_at (x ∷ xs) first next (suc i) (suc j) r lt l = rises_at xs (x.number + 1) next i j r.2 (omega (arith, lt)) (omega (arith, l))

pub place_here : (live : List LiveT) (first next k o : ℕ) → Rises first next live → k < length live → number_at live k ≡ o → place_of live o ≡ Some k
place_here [] first next k o r l e = absurd (omega (arith, l))
place_here (x ∷ xs) first next zero o r l e = ap (λ b. cond b (Some 0) (option_map suc (place_of xs o))) (eq-eqb x.number o e)
place_here (x ∷ xs) first next (suc k) o r l e =
    let h : (x.number + 1 ≤ number_at xs k) × (number_at xs k < next) = low_at xs (x.number + 1) next k r.2 (omega (arith, l)) in
    ap (λ b. cond b (Some 0) (option_map suc (place_of xs o))) (ne_eqb x.number o (λ g. omega (arith, g, h, e)))
    ∙ ap (option_map suc) (place_here xs (x.number + 1) next k o r.2 (omega (arith, l)) e)

pub place_none : (live : List LiveT) (o : ℕ) → ((k : ℕ) → k < length live → number_at live k ≢ o) → place_of live o ≡ None
place_none [] o h = refl
place_none (x ∷ xs) o h = ap (λ b. cond b (Some 0) (option_map suc (place_of xs o))) (ne_eqb x.number o (h zero (omega arith)))
    ∙ ap (option_map suc) (place_none xs o (λ k l. h (suc k) (omega (arith, l))))

-- ---- what the place tells

option_cases : (p : Option ℕ) → (p ≡ None) ⊎ ((k : ℕ) × (p ≡ Some k))
option_cases None = inl refl
option_cases (Some k) = inr (k, refl)

-- a place in a longer list
behind : (x : LiveT) (xs : List LiveT) (o k : ℕ) → x.number ≢ o → place_of (x ∷ xs) o ≡ Some k → (j : ℕ) × (place_of xs o ≡ Some j) × (k ≡ suc j)
behind x xs o k ne e =
    let f : option_map suc (place_of xs o) ≡ Some k = ap (λ b. cond b (Some 0) (option_map suc (place_of xs o))) (sym (ne_eqb x.number o ne)) ∙ e in
    elim (option_cases (place_of xs o)) [
      | inl g ↦ let n : option_map suc None ≡ Some k = ap (option_map suc) (sym g) ∙ f in absurd (cc n)
      | inr g ↦ let n : option_map suc (Some g.0) ≡ Some k = ap (option_map suc) (sym g.1) ∙ f in (g.0, g.1, cc n)
    ]

first_here : (x : LiveT) (xs : List LiveT) (o k : ℕ) → x.number ≡ o → place_of (x ∷ xs) o ≡ Some k → k ≡ zero
first_here x xs o k q e = let f : Some 0 ≡ Some k = ap (λ b. cond b (Some 0) (option_map suc (place_of xs o))) (sym (eq-eqb x.number o q)) ∙ e in cc f

pub place_length : (live : List LiveT) (o k : ℕ) → place_of live o ≡ Some k → k < length live
place_length [] o k e = absurd (cc e)
place_length (x ∷ xs) o k e = elim (eqb_tells x.number o) [
  | inl h ↦ omega (arith, first_here x xs o k h.1 e)
  | inr h ↦ let b : (j : ℕ) × (place_of xs o ≡ Some j) × (k ≡ suc j) = behind x xs o k h.1 e in omega (arith, place_length xs o b.0 b.1, b.2)
]

pub found_place : (live : List LiveT) (o k : ℕ) → place_of live o ≡ Some k → found live o ≡ object (live_at live k).kind (live_at live k).cells
found_place [] o k e = absurd (cc e)
found_place (x ∷ xs) o k e = elim (eqb_tells x.number o) [
  | inl h ↦ ap (λ b. cond b (object x.kind x.cells) (found xs o)) h.0 ∙ subst (λ j. object x.kind x.cells ≡ object (live_at (x ∷ xs) j).kind (live_at (x ∷ xs) j).cells) (sym (first_here x xs o k h.1 e)) refl
  | inr h ↦ let b : (j : ℕ) × (place_of xs o ≡ Some j) × (k ≡ suc j) = behind x xs o k h.1 e in
      ap (λ b. cond b (object x.kind x.cells) (found xs o)) h.0 ∙ found_place xs o b.0 b.1 ∙ subst (λ j. object (live_at xs b.0).kind (live_at xs b.0).cells ≡ object (live_at (x ∷ xs) j).kind (live_at (x ∷ xs) j).cells) (sym b.2) refl
]

pub found_none : (live : List LiveT) (o : ℕ) → place_of live o ≡ None → found live o ≡ ended
found_none [] o e = refl
found_none (x ∷ xs) o e = elim (eqb_tells x.number o) [
  | inl h ↦ let n : Some 0 ≡ None = ap (λ b. cond b (Some 0) (option_map suc (place_of xs o))) (sym h.0) ∙ e in absurd (cc n)
  | inr h ↦ elim (option_cases (place_of xs o)) [
    | inl g ↦ ap (λ b. cond b (object x.kind x.cells) (found xs o)) h.0 ∙ found_none xs o g
    | inr g ↦ let n : option_map suc (Some g.0) ≡ None = ap (option_map suc) (sym g.1) ∙ ap (λ b. cond b (Some 0) (option_map suc (place_of xs o))) (sym h.0) ∙ e in absurd (cc n)
  ]
]

pub written_place : (o i : ℕ) (c : Cell) (live : List LiveT) (k : ℕ) → place_of live o ≡ Some k → live_written o i c live ≡ set live k (record (live_at live k) { cells = set (live_at live k).cells i c })
written_place o i c [] k e = absurd (cc e)
written_place o i c (x ∷ xs) k e = elim (eqb_tells x.number o) [
  | inl h ↦ ap (λ b. cond b (record x { cells = set x.cells i c } ∷ xs) (x ∷ live_written o i c xs)) h.0 ∙ subst (λ j. record x { cells = set x.cells i c } ∷ xs ≡ set (x ∷ xs) j (record (live_at (x ∷ xs) j) { cells = set (live_at (x ∷ xs) j).cells i c })) (sym (first_here x xs o k h.1 e)) refl
  | inr h ↦ let b : (j : ℕ) × (place_of xs o ≡ Some j) × (k ≡ suc j) = behind x xs o k h.1 e in
      ap (λ b. cond b (record x { cells = set x.cells i c } ∷ xs) (x ∷ live_written o i c xs)) h.0 ∙ ap (λ l. x ∷ l) (written_place o i c xs b.0 b.1) ∙ subst (λ j. x ∷ set xs b.0 (record (live_at xs b.0) { cells = set (live_at xs b.0).cells i c }) ≡ set (x ∷ xs) j (record (live_at (x ∷ xs) j) { cells = set (live_at (x ∷ xs) j).cells i c })) (sym b.2) refl
]

pub without_place : (o : ℕ) (live : List LiveT) (k : ℕ) → place_of live o ≡ Some k → live_without o live ≡ remove live k
without_place o [] k e = absurd (cc e)
without_place o (x ∷ xs) k e = elim (eqb_tells x.number o) [
  | inl h ↦ ap (λ b. cond b xs (x ∷ live_without o xs)) h.0 ∙ subst (λ j. xs ≡ remove (x ∷ xs) j) (sym (first_here x xs o k h.1 e)) refl
  | inr h ↦ let b : (j : ℕ) × (place_of xs o ≡ Some j) × (k ≡ suc j) = behind x xs o k h.1 e in
      ap (λ b. cond b xs (x ∷ live_without o xs)) h.0 ∙ ap (λ l. x ∷ l) (without_place o xs b.0 b.1) ∙ subst (λ j. x ∷ remove xs b.0 ≡ remove (x ∷ xs) j) (sym b.2) refl
]

pub without_none : (o : ℕ) (live : List LiveT) → place_of live o ≡ None → live_without o live ≡ live
without_none o [] e = refl
without_none o (x ∷ xs) e = elim (eqb_tells x.number o) [
  | inl h ↦ let n : Some 0 ≡ None = ap (λ b. cond b (Some 0) (option_map suc (place_of xs o))) (sym h.0) ∙ e in absurd (cc n)
  | inr h ↦ elim (option_cases (place_of xs o)) [
    | inl g ↦ ap (λ b. cond b xs (x ∷ live_without o xs)) h.0 ∙ ap (λ l. x ∷ l) (without_none o xs g)
    | inr g ↦ let n : option_map suc (Some g.0) ≡ None = ap (option_map suc) (sym g.1) ∙ ap (λ b. cond b (Some 0) (option_map suc (place_of xs o))) (sym h.0) ∙ e in absurd (cc n)
  ]
]

-- ---- those below a number

-- the last is not below it
pub below_shorter : (n : ℕ) (xs : List LiveT) (x : LiveT) → n ≤ x.number → live_below n (xs ++ x ∷ []) ≡ live_below n xs
below_shorter n [] x le = ap (λ b. cond b (x ∷ []) []) (le-ltb x.number n le)
below_shorter n (y ∷ ys) x le = ap (λ l. cond (ltb y.number n) (y ∷ l) []) (below_shorter n ys x le)

last_above : (xs : List LiveT) (x : LiveT) (first next : ℕ) → Rises first next (xs ++ x ∷ []) → first ≤ x.number
last_above [] x first next r = r.0
last_above (y ∷ ys) x first next r = let h : y.number + 1 ≤ x.number = last_above ys x (y.number + 1) next r.2 in omega (arith, h, r.0)

-- the last is below it, and so are all
pub below_all : (n : ℕ) (xs : List LiveT) (x : LiveT) (first next : ℕ) → Rises first next (xs ++ x ∷ []) → x.number < n → live_below n (xs ++ x ∷ []) ≡ xs ++ x ∷ []
below_all n [] x first next r lt = ap (λ b. cond b (x ∷ []) []) (lt-ltb x.number n lt)
below_all n (y ∷ ys) x first next r lt =
    let h : y.number + 1 ≤ x.number = last_above ys x (y.number + 1) next r.2 in
    ap (λ b. cond b (y ∷ live_below n (ys ++ x ∷ [])) []) (lt-ltb y.number n (omega (arith, h, lt))) ∙ ap (λ l. y ∷ l) (below_all n ys x (y.number + 1) next r.2 lt)
