-- Choices for each function of a program.
use Rattle.std.specs.Prelude.{ℕ, List, [], ◌∷◌, map}
use Rattle.mid_code.specs.declared.placed.Where.{Where}
use Rattle.mid_code.specs.declared.placed.Choice.{Choice}
use Rattle.mid_code.specs.Code.{FunctionT, CodeT}
use Rattle.mid_code.specs.Invariants.{Names, AllOf, IsTemporary}
use Rattle.mid_code.specs.Safe.{SparesSlots}

abbrev pub EachSpares : List (FunctionT ℕ) → List (List Where) → Type 0
EachSpares [] [] = Unit {0}
EachSpares (f ∷ fs) (ws ∷ wss) = SparesSlots f ws × EachSpares fs wss
EachSpares _ _ = ⊥

-- one for the start, and then one for each function
abbrev pub AllSpare : CodeT ℕ → List (List Where) → Type 0
AllSpare x wss = EachSpares (x.start ∷ x.functions) wss

-- the places of choices
abbrev pub places_in : List Choice → List (List Where)
places_in cs = map (λ (c : Choice). c.at) cs

-- its temporaries have numbers below their count
abbrev pub IsNamed : FunctionT ℕ → Type 0
IsNamed f = Names (IsTemporary f) f.body × AllOf (IsTemporary f) f.params
