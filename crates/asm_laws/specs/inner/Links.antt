-- What a call does to the words: its arguments, its link, the new frame, and the way back.
use Rattle.std.specs.Prelude.{ℕ, ◌+◌, ◌-◌, ◌==◌, cond, List, [], ◌∷◌, get_or}
use Rattle.v32_isa.specs.State.{written}
use Rattle.mid_code.specs.declared.placed.Where.{Where}
use Rattle.mid_code.specs.declared.placed.Where.TheVariants.{Reg, Slot}
use Rattle.asm_laws.specs.Operations.{Frame}
use Rattle.asm_laws.specs.Moves.{Move}
use Rattle.asm_laws.specs.Addresses.{Addr, word_of, store}

-- a slot of the frame that the call will have stands below the address that it leaves
abbrev pub new_slot : Frame → ℕ → Addr → ℕ
new_slot G k a = a.top - 1 - (G.size - get_or G.slots k k)

abbrev pub passed : Frame → Frame → Where → Where → Addr → Addr
passed F G (Reg q) x a = a
passed F G (Slot k) x a = store (new_slot G k a) (word_of F x a) a

abbrev pub all_passed : Frame → Frame → List Where → List Where → Addr → Addr
all_passed F G [] args a = a
all_passed F G (p ∷ ps) [] a = a
all_passed F G (p ∷ ps) (x ∷ args) a = all_passed F G ps args (passed F G p x a)

abbrev pub push : ℕ → Addr → Addr
push v a = record a { memory = written a.memory (a.top - 1) v; top = a.top - 1 }

-- the words of registers once the arguments that go into registers are there, all at once
abbrev pub arrived : Frame → List Where → List Where → Addr → ℕ → ℕ
arrived F [] args a q = a.regs q
arrived F (p ∷ ps) [] a q = a.regs q
arrived F (Slot k ∷ ps) (x ∷ args) a q = arrived F ps args a q
arrived F (Reg r ∷ ps) (x ∷ args) a q = cond (q == r) (word_of F x a) (arrived F ps args a q)

abbrev pub all_arrived : Frame → List Where → List Where → Addr → Addr
all_arrived F ps args a = record a { regs = arrived F ps args a }

-- moves one after another, and what they do all at once
abbrev pub moved : Frame → List Move → Addr → Addr
moved F [] a = a
moved F ((t, s) ∷ ms) a = moved F ms (record a { regs = written a.regs t (word_of F s a) })

abbrev pub at_once : Frame → List Move → Addr → ℕ → ℕ
at_once F [] a q = a.regs q
at_once F ((t, s) ∷ ms) a q = cond (q == t) (word_of F s a) (at_once F ms a q)

-- the address after the call is pushed, and the frame is made below it
abbrev pub entered : Frame → ℕ → Addr → Addr
entered G next a = record a { memory = (push next a).memory; base = a.top - 1; top = a.top - 1 - G.size }

-- where the address after the call stands at a function's end, once the frame is taken away
abbrev pub way_back : ℕ → Addr → ℕ
way_back size a = a.top + size

-- the frame is taken away, that address is popped, and the frame ends where that of the caller does
abbrev pub gone_back : (size base : ℕ) → Addr → Addr
gone_back size base a = record a { base = base; top = a.top + size + 1 }

-- the instructions that each argument takes
abbrev pub slot_steps : List Where → ℕ
slot_steps [] = 0
slot_steps (Reg q ∷ ps) = slot_steps ps
slot_steps (Slot k ∷ ps) = 2 + slot_steps ps

-- the words when a call comes to the function's body
abbrev pub called : Frame → Frame → List Where → List Where → (next : ℕ) → Addr → Addr
called F G ps args next a = entered G next (all_arrived F ps args (all_passed F G ps args a))
