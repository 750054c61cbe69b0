-- Choices of places for the temporaries of a program.
use Rattle.std.specs.Prelude.{ℕ, cond, List, [], ◌∷◌, ◌++◌, length}
use Rattle.mid_code.specs.declared.placed.Where.{Where}
use Rattle.mid_code.specs.declared.placed.Where.TheVariants.{Reg, Slot}
use Rattle.mid_code.specs.Code.{FunctionT, CodeT}
use Rattle.mid_code.specs.Live.{is_among}
use Rattle.mid_code.specs.Safe.{IsSafe}

-- ---- slots

-- slots, and that of a place behind them, where it is none of them
abbrev pub with_slot : List ℕ → Where → List ℕ
with_slot ns (Reg number) = ns
with_slot ns (Slot number) = cond (is_among ns number) ns (ns ++ number ∷ [])

abbrev pub slots_from : List ℕ → List Where → List ℕ
slots_from ns [] = ns
slots_from ns (w ∷ ws) = slots_from (with_slot ns w) ws

-- the slots that a choice names, each once, in the order in which they are named first
abbrev pub slots_named : List Where → List ℕ
slots_named ws = slots_from [] ws

-- how many they are
abbrev pub slot_count : List Where → ℕ
slot_count ws = length (slots_named ws)

-- ---- programs

-- a safe choice for each function
abbrev pub EachSafe : List (FunctionT ℕ) → List (List Where) → Type 0
EachSafe [] [] = Unit {0}
EachSafe (f ∷ fs) (ws ∷ wss) = IsSafe f ws × EachSafe fs wss
EachSafe _ _ = ⊥

-- one for the start, and then one for each function
abbrev pub AreSafe : CodeT ℕ → List (List Where) → Type 0
AreSafe x wss = EachSafe (x.start ∷ x.functions) wss
