-- What tapes take of operations one behind another.
use Rattle.std.proofs.Common.{ℕ, zero, suc, ◌+◌, ◌-◌, ◌≤◌, ◌<◌, ◌≡◌, List, [], ◌∷◌, ◌++◌, length, refl, sym, ap, ◌∙◌, arith, append_assoc, append-nil}
use Rattle.std.specs.Prelude.{◌^◌, take}
use Rattle.std.proofs.Math.Seq.{take-nil}
use Rattle.std.proofs.lemmas.List.{length-append, take_all}
use Rattle.kit_base.specs.declared.event.Event.{Event}
use Rattle.kit_base.specs.declared.event.Event.TheVariants as event
use Rattle.kit_base.specs.Word.{add}
use Rattle.v32_console.specs.Machine.{Operations, none, one, joined}
use Rattle.v32_console.specs.Taking.{Taped, counted, taken, told_by, with_operations}

taped : List ℕ → ℕ → ℕ → Taped
taped answers spare events = record { answers = answers; spare = spare; events = events }

-- nothing is taken of none
module _ (events : List Event) (t : Taped) where
  no_answers : taken (one events []) t ≡ record { answers = t.answers; spare = t.spare; events = counted t.events events }
  unfolding taken taped
  no_answers =
      let kept : t.answers ++ take t.spare [] ≡ t.answers = ap (λ (xs : List ℕ). t.answers ++ xs) (take-nil t.spare) ∙ append-nil t.answers in
      let room : t.spare - 0 ≡ t.spare = omega arith in
      ap (λ (xs : List ℕ). taped xs (t.spare - 0) (counted t.events events)) kept ∙ ap (λ n. taped t.answers n (counted t.events events)) room

pub taken_none : (t : Taped) → t ≡ taken none t
unfolding taken
taken_none t = sym (no_answers [] t)

pub taken_nothing : (t : Taped) → taken (one [] []) t ≡ t
taken_nothing t = no_answers [] t

pub taken_wait : (t : Taped) → told_by t ≡ taken (one (event.Wait ∷ []) []) t
taken_wait t = sym (no_answers (event.Wait ∷ []) t)

pub taken_out : (port word : ℕ) (t : Taped) → told_by t ≡ taken (one (event.Out port word ∷ []) []) t
taken_out port word t = sym (no_answers (event.Out port word ∷ []) t)

counted-append : (n : ℕ) (a b : List Event) → counted n (a ++ b) ≡ counted (counted n a) b
counted-append n [] b = refl
counted-append n (e ∷ a) b = counted-append (add n 1) a b

less_none : (n : ℕ) → n ≡ n - 0
less_none n = omega arith

less_more : (n k : ℕ) → n - k ≡ suc n - suc k
less_more n k = omega arith

take_joined : (n : ℕ) (a b : List ℕ) → take n (a ++ b) ≡ take n a ++ take (n - length a) b
take_joined zero [] b = ap (λ k. take k b) (less_none zero)
take_joined (suc n) [] b = ap (λ k. take k b) (less_none (suc n))
take_joined zero (x ∷ a) b = let e : zero - suc (length a) ≡ zero = omega arith in ap (λ k. take k b) (sym e)
take_joined (suc n) (x ∷ a) b = ap (λ (xs : List ℕ). x ∷ xs) (take_joined n a b ∙ ap (λ k. take n a ++ take k b) (less_more n (length a)))

pub taken_joined : (a b : Operations) (t : Taped) → taken (joined a b) t ≡ taken b (taken a t)
unfolding taken taped
taken_joined a b t =
    let answers : t.answers ++ take t.spare (a.answers ++ b.answers) ≡ (t.answers ++ take t.spare a.answers) ++ take (t.spare - length a.answers) b.answers =
    ap (λ (xs : List ℕ). t.answers ++ xs) (take_joined t.spare a.answers b.answers) ∙ sym (append_assoc t.answers (take t.spare a.answers) (take (t.spare - length a.answers) b.answers)) in
    let long = length-append a.answers b.answers in
    let spare : t.spare - length (a.answers ++ b.answers) ≡ t.spare - length a.answers - length b.answers = omega (arith, long) in
    λ i. record { answers = answers i; spare = spare i; events = counted-append t.events a.events b.events i }

-- ---- sums

pub joined_none : (a : Operations) → joined none a ≡ a
joined_none a = let e : 0 + a.instructions ≡ a.instructions = omega arith in λ i. record { instructions = e i; events = a.events; answers = a.answers }

pub joined_end : (a : Operations) → joined a none ≡ a
joined_end a = let e : a.instructions + 0 ≡ a.instructions = omega arith in λ i. record { instructions = e i; events = append-nil a.events i; answers = append-nil a.answers i }

pub joined_assoc : (a b c : Operations) → joined a (joined b c) ≡ joined (joined a b) c
joined_assoc a b c =
    let e : a.instructions + (b.instructions + c.instructions) ≡ a.instructions + b.instructions + c.instructions = omega arith in
    λ i. record { instructions = e i; events = sym (append_assoc a.events b.events c.events) i; answers = sym (append_assoc a.answers b.answers c.answers) i }

-- ---- notes

-- an instruction has one event and one answer at most
pub record IsFew (o : Operations) : Type 0 where
  pub events : length o.events ≤ o.instructions
  pub answers : length o.answers ≤ o.instructions

pub few_none : IsFew none
few_none = record { events = omega arith; answers = omega arith }

pub few_joined : (a b : Operations) → IsFew a → IsFew b → IsFew (joined a b)
few_joined a b f g =
    let x = length-append a.events b.events in
    let y = length-append a.answers b.answers in
    let fe = f.events in let fa = f.answers in let ge = g.events in let ga = g.answers in
    record { events = omega (arith, x, fe, ge); answers = omega (arith, y, fa, ga) }

add_is : (n : ℕ) → n + 1 < 2 ^ 32 → add n 1 ≡ n + 1
add_is n h = grind arith

counted_is : (n : ℕ) (events : List Event) → n + length events < 2 ^ 32 → counted n events ≡ n + length events
counted_is n [] h = omega arith
counted_is n (e ∷ events) h =
    let one : add n 1 ≡ n + 1 = add_is n (omega (arith, h)) in
    ap (λ k. counted k events) one ∙ counted_is (n + 1) events (omega (arith, h)) ∙ (omega arith)

-- the notes of a frame of few operations, with room for its answers
pub noted : (o : Operations) (answers : List ℕ) (spare events instructions : ℕ) (t : Taped) (done : ℕ) → IsFew o → done ≡ o.instructions → done ≤ 250000 → 250000 ≤ spare
    → t ≡ taken o (record { answers = answers; spare = spare; events = 0 })
    → record { answers = t.answers; events = events + t.events; instructions = instructions + done; spare = t.spare }
    ≡ with_operations o (record { answers = answers; events = events; instructions = instructions; spare = spare })
unfolding taken
noted o answers spare events instructions t done few same within room is =
    let fe = few.events in let fa = few.answers in
    let words : t.answers ≡ answers ++ o.answers = ap (λ (x : Taped). x.answers) is ∙ ap (λ (xs : List ℕ). answers ++ xs) (take_all spare o.answers (omega (arith, fa, same, within, room))) in
    let count : t.events ≡ length o.events = ap (λ (x : Taped). x.events) is ∙ counted_is 0 o.events (omega (arith, fe, same, within)) ∙ (omega arith) in
    let left : t.spare ≡ spare - length o.answers = ap (λ (x : Taped). x.spare) is in
    λ i. record { answers = words i; events = events + count i; instructions = instructions + same i; spare = left i }
