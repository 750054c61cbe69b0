-- Runs of a program with larger bounds.
use Rattle.std.proofs.Common.{ℕ, zero, suc, ◌≡◌, ◌≤◌, ◌+◌, ◌-◌, ◌⊎◌, inl, inr, List, [], ◌++◌, length, Option, refl, sym, ap, subst, ◌∙◌, arith}
use Rattle.std.proofs.lemmas.List.{length-append}
use Rattle.kit_base.specs.declared.event.Event.{Event}
use Rattle.c_types.specs.Programs.{ProgramT}
use Rattle.c_meaning.specs.declared.end.End.{End}
use Rattle.c_meaning.specs.declared.end.End.TheVariants.{Halted, Fault, Starved, Stray, Deep, OutOfBound}
use Rattle.c_meaning.specs.Runs.{Final, final_of, ExtendsFrom, Extends}
use Rattle.c_meaning.proofs.LargerBounds.{larger}

-- the run is over, and not only cut off by its bound
abbrev pub IsOver : End → Type 0
IsOver Halted = Unit {0}
IsOver (Fault number) = Unit {0}
IsOver Starved = Unit {0}
IsOver (Stray span) = Unit {0}
IsOver (Deep span) = Unit {0}
IsOver OutOfBound = ⊥

pub over_or_out : (e : End) → IsOver e ⊎ (e ≡ OutOfBound)
over_or_out Halted = inl tt
over_or_out (Fault number) = inl tt
over_or_out Starved = inl tt
over_or_out (Stray span) = inl tt
over_or_out (Deep span) = inl tt
over_or_out OutOfBound = inr refl

over_stays : (e : End) (short long : Final) → IsOver e → ExtendsFrom e short long → long ≡ short
over_stays Halted short long o h = h
over_stays (Fault number) short long o h = h
over_stays Starved short long o h = h
over_stays (Stray span) short long o h = h
over_stays (Deep span) short long o h = h
over_stays OutOfBound short long o h = absurd o

abbrev count : Final → ℕ
count x = length x.world.events

same_count : (short long : Final) → long ≡ short → count short ≤ count long
same_count short long e = let same : count long ≡ count short = ap count e in omega (arith, same)

more_count : (short long more : List Event) → long ≡ short ++ more → length short ≤ length long
more_count short long more e = let same : length long ≡ length (short ++ more) = ap length e in let sum = length-append short more in omega (arith, same, sum)

counts : (e : End) (short long : Final) → ExtendsFrom e short long → count short ≤ count long
counts Halted short long h = same_count short long h
counts (Fault number) short long h = same_count short long h
counts Starved short long h = same_count short long h
counts (Stray span) short long h = same_count short long h
counts (Deep span) short long h = same_count short long h
counts OutOfBound short long h = more_count short.world.events long.world.events h.0 h.1

module _ (p : ProgramT) (frames answers : List ℕ) (card : Option (List ℕ)) where
  abbrev run : ℕ → Final
  run n = final_of p frames n answers card

  none_more : (n : ℕ) → n + 0 ≡ n
  none_more n = omega arith

  one_more : (n j : ℕ) → n + suc j ≡ (n + j) + 1
  one_more n j = omega arith

  up_to : (n m : ℕ) → n ≤ m → n + (m - n) ≡ m
  up_to n m le = omega (arith, le)

  stays_by : (n j : ℕ) → IsOver (run n).end → run (n + j) ≡ run n
  stays_by n zero o = ap run (none_more n)
  stays_by n (suc j) o =
      let before : run (n + j) ≡ run n = stays_by n j o in
      let over : IsOver (run (n + j)).end = subst (λ (x : Final). IsOver x.end) (sym before) o in
      ap run (one_more n j) ∙ over_stays (run (n + j)).end (run (n + j)) (run (n + j + 1)) over (larger p frames answers card (n + j)) ∙ before

  -- a run that is over is the same with every larger bound
  pub stays : (n m : ℕ) → n ≤ m → IsOver (run n).end → run m ≡ run n
  stays n m le o = ap run (sym (up_to n m le)) ∙ stays_by n (m - n) o

  counts_by : (n j : ℕ) → count (run n) ≤ count (run (n + j))
  counts_by n zero = same_count (run n) (run (n + 0)) (ap run (none_more n))
  counts_by n (suc j) =
      let before : count (run n) ≤ count (run (n + j)) = counts_by n j in
      let more : count (run (n + j)) ≤ count (run (n + j + 1)) = counts (run (n + j)).end (run (n + j)) (run (n + j + 1)) (larger p frames answers card (n + j)) in
      let same : count (run (n + suc j)) ≡ count (run (n + j + 1)) = ap (λ i. count (run i)) (one_more n j) in
      omega (arith, before, more, same)

  -- with a larger bound a run makes no fewer port operations
  pub makes_more : (n m : ℕ) → n ≤ m → count (run n) ≤ count (run m)
  makes_more n m le =
      let more : count (run n) ≤ count (run (n + (m - n))) = counts_by n (m - n) in
      let same : count (run (n + (m - n))) ≡ count (run m) = ap (λ i. count (run i)) (up_to n m le) in
      omega (arith, more, same)
