-- The sums after a run of samples.
use Rattle.std.proofs.Common.{◌≡◌, inl, inr, ℕ, ◌<◌, ◌≤◌, ◌+◌, ◌-◌, arith, refl, Option, Some, List, length, get_or}
use Rattle.std.specs.List.{between}
use Rattle.std.proofs.lemmas.List.Edits.{get_or-between, length-between}
use Rattle.std.proofs.lemmas.Bool.{cases_lt}

-- what a run adds to one side: `at` gives the channel's place, and `heard` what it adds there
pub sums_more : (heard : Option ℕ → ℕ) (raised : ℕ → ℕ) (at : ℕ → Option ℕ) (samples old before now : List ℕ) (done run q : ℕ) →
    ((p : ℕ) → heard (Some p) ≡ raised (get_or samples p 0)) → q + run ≤ length samples →
    ((k : ℕ) → k < done → get_or before k 0 ≡ get_or old k 0 + heard (at k)) →
    ((k : ℕ) → done ≤ k → get_or before k 0 ≡ get_or old k 0) →
    ((k : ℕ) → done ≤ k → k < done + length (between q (q + run) samples) → get_or now k 0 ≡ get_or before k 0 + raised (get_or (between q (q + run) samples) (k - done) 0)) →
    ((k : ℕ) → k < done → get_or now k 0 ≡ get_or before k 0) →
    ((i : ℕ) → i < run → at (done + i) ≡ Some (q + i)) →
    (k : ℕ) → k < done + run → get_or now k 0 ≡ get_or old k 0 + heard (at k)
sums_more heard raised at samples old before now done run q says fits below rest adds kept places k h = elim (cases_lt k done) [
  | inl l ↦ rw (kept k l) (below k l)
  | inr l ↦
      let n : length (between q (q + run) samples) ≡ run = omega (arith, length-between samples q (q + run) fits) in
      let i : done + (k - done) ≡ k = omega arith in
      let place : at k ≡ Some (q + (k - done)) = rw i at (places (k - done) (omega arith)) in
      let within : q + (k - done) < q + run = omega arith in
      rw (adds k l (omega arith), rest k l, place, says (q + (k - done)), get_or-between samples q (q + run) (k - done) 0 within) refl
]
