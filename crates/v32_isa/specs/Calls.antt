-- Calls and returns in a run of the machine.
use Rattle.std.specs.Prelude.{ℕ, zero, suc, ◌+◌, ◌<◌, ◌≤◌, ◌≡◌, List, [], ◌∷◌, Option, Some, None}
use Rattle.kit_base.specs.Word.{sub}
use Rattle.v32_isa.specs.declared.instruction.Plain.TheVariants.{HLT, WAIT, RET, MOVS, SETS}
use Rattle.v32_isa.specs.declared.instruction.Go.TheVariants.{JMP, CALL}
use Rattle.v32_isa.specs.declared.instruction.Instr.{Instr}
use Rattle.v32_isa.specs.declared.instruction.Instr.TheVariants as instr
use Rattle.v32_isa.specs.declared.stepped.Stepped.{Stepped}
use Rattle.v32_isa.specs.declared.stepped.Stepped.TheVariants as stepped
use Rattle.v32_isa.specs.Decoding.{decoded}
use Rattle.v32_isa.specs.State.{State, sp, register_of, with_register, going_to, word_at}
use Rattle.v32_isa.specs.Machine.{Effect, value_of, next_of, fetched, effect_of}
use Rattle.v32_isa.specs.Machine.Effect.{Ends, Asks, Tells}
use Rattle.v32_isa.specs.Runs.{opening}

-- an instruction enters a function, at an address and with the address to come back to; or returns; or does neither
pub data Turn : Type 0 where
  Enters : ℕ → ℕ → Turn
  Returns : Turn
  Other : Turn

abbrev pub turn_of : Instr ℕ → ℕ → State → Turn
turn_of (instr.Plain HLT) next s = Other
turn_of (instr.Plain WAIT) next s = Other
turn_of (instr.Plain RET) next s = Returns
turn_of (instr.Plain MOVS) next s = Other
turn_of (instr.Plain SETS) next s = Other
turn_of (instr.Go JMP x) next s = Other
turn_of (instr.Go CALL x) next s = Enters (value_of s x) next
turn_of (instr.Branch b a x) next s = Other
turn_of (instr.Two t a x) next s = Other
turn_of (instr.One o a) next s = Other
turn_of (instr.Mov m) next s = Other
turn_of (instr.Lea a b i) next s = Other
turn_of (instr.In a p) next s = Other
turn_of (instr.Out p x) next s = Other

abbrev pub turn_decoded : State → Option ℕ → Option (Instr ℕ) → Turn
turn_decoded s second None = Other
turn_decoded s second (Some i) = turn_of i (next_of s second) s

abbrev pub turn_fetched : State → Option (ℕ × Option ℕ) → Turn
turn_fetched s None = Other
turn_fetched s (Some words) = turn_decoded s words.1 (decoded words.0 words.1)

-- what the instruction at the counter is
unfoldable pub turn : State → Turn
turn s = turn_fetched s (fetched s)

abbrev pub goes_on : Stepped → State → List ℕ → Option (State × List ℕ)
goes_on stepped.Went s answers = Some (s, answers)
goes_on stepped.Waited s answers = Some (s, answers)
goes_on stepped.Halted s answers = None
goes_on stepped.Starved s answers = None
goes_on (stepped.Fault number) s answers = None
goes_on (stepped.Undecodable address) s answers = None

abbrev pub next_effect : Effect → List ℕ → Option (State × List ℕ)
next_effect (Ends how s) answers = goes_on how s answers
next_effect (Asks a p next s) [] = None
next_effect (Asks a p next s) (word ∷ answers) = Some (going_to next (with_register a word s), answers)
next_effect (Tells p word next s) answers = Some (going_to next s, answers)

-- the state and the answers left after a step, none where the run has ended
unfoldable pub stepped_on : State → List ℕ → Option (State × List ℕ)
stepped_on s answers = next_effect (effect_of s) answers

abbrev pub on_after : (State → List ℕ → Option (State × List ℕ)) → Option (State × List ℕ) → Option (State × List ℕ)
on_after go None = None
on_after go (Some m) = go m.0 m.1

-- the same after so many steps
unfoldable pub after_steps : ℕ → State → List ℕ → Option (State × List ℕ)
after_steps zero s answers = Some (s, answers)
after_steps (suc n) s answers = on_after (after_steps n) (stepped_on s answers)

-- ---- the statement

abbrev pub InCallOn : Turn → ℕ → Option (State × List ℕ) → (ℕ → State → List ℕ → Type 0) → Type 0
InCallOn turn d None go = ⊥
InCallOn (Enters to back) d (Some m) go = go (suc d) m.0 m.1
InCallOn Returns zero (Some m) go = ⊥
InCallOn Returns (suc d) (Some m) go = go d m.0 m.1
InCallOn Other d (Some m) go = go d m.0 m.1

-- none of so many steps ends the run or is the RET of the call in progress, in which d calls have begun and not come back
unfoldable pub InCall : (steps d : ℕ) → State → List ℕ → Type 0
InCall zero d s answers = Unit {0}
InCall (suc n) d s answers = InCallOn (turn s) d (stepped_on s answers) (InCall n)

-- Within so many steps of a run each call of the function at an address has done fewer than N instructions where it is still in progress.
abbrev pub CallsTakeAtMost : (words answers : List ℕ) (card : Option (List ℕ)) (within address N : ℕ) → Type 0
CallsTakeAtMost words answers card within address N =
    (k j back : ℕ) (s t : State) (xs ys : List ℕ) → k + (1 + j) ≤ within → after_steps k (opening words card) answers ≡ Some (s, xs)
    → turn s ≡ Enters address back → stepped_on s xs ≡ Some (t, ys) → InCall j 0 t ys → j < N

-- ---- nested runs

-- where a CALL put its return address, and that address
pub record Link : Type 0 where
  pub top : ℕ
  pub back : ℕ

abbrev pub NestedOn : Turn → State → List Link → Option (State × List ℕ) → (List Link → State → List ℕ → Type 0) → Type 0
NestedOn turn s ls None go = Unit {0}
NestedOn (Enters to back) s ls (Some m) go = go (record { top = sub (register_of s sp) 1; back = back } ∷ ls) m.0 m.1
NestedOn Returns s [] (Some m) go = ⊥
NestedOn Returns s (l ∷ ls) (Some m) go = (register_of s sp ≡ l.top) × (word_at s l.top ≡ Some l.back) × go ls m.0 m.1
NestedOn Other s ls (Some m) go = go ls m.0 m.1

-- in so many steps each RET finds the word that the last CALL still in progress put there
unfoldable pub Nested : (steps : ℕ) → List Link → State → List ℕ → Type 0
Nested zero ls s answers = Unit {0}
Nested (suc n) ls s answers = NestedOn (turn s) s ls (stepped_on s answers) (Nested n)

-- so many steps of a program are nested
unfoldable pub IsNested : (words answers : List ℕ) (card : Option (List ℕ)) (steps : ℕ) → Type 0
IsNested words answers card steps = Nested steps [] (opening words card) answers
