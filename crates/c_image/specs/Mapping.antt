-- The map of a program (the kit's page on map files).
use Rattle.std.specs.Prelude.{ℕ, List, [], ◌∷◌}
use Rattle.kit_base.specs.Word.{add}
use Rattle.c_types.specs.Programs.{TFunctionT, ProgramT}
use Rattle.project_text.specs.declared.map.Map.{Map}
use Rattle.asm_laws.specs.Labelled.{label_of_function}

-- a name, an address and a size in words
abbrev pub Row : Type 0
Row = List ℕ × ℕ × ℕ

-- Functions stand at the addresses of their labels, and have frames of these sizes.
abbrev pub frames_at : (address : List ℕ → ℕ) → List TFunctionT → (sizes : List ℕ) → List Row
frames_at address [] sizes = []
frames_at address (f ∷ fs) [] = []
frames_at address (f ∷ fs) (size ∷ sizes) = (f.name, address (label_of_function f.name), size) ∷ frames_at address fs sizes

-- Globals stand one behind the other.
abbrev pub globals_from : ℕ → List (List ℕ × ℕ) → List Row
globals_from address [] = []
globals_from address (g ∷ gs) = (g.0, address, g.1) ∷ globals_from (add address g.1) gs

abbrev pub map_of : ProgramT → (sizes : List ℕ) → (words : ℕ) → (address : List ℕ → ℕ) → Map
map_of p sizes words address = record { code = words; globals = globals_from 0 p.globals; frames = frames_at address p.functions sizes }
