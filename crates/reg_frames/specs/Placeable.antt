-- What the code of `place` asks of each function and its choice.
use Rattle.std.specs.Prelude.{ℕ, ◌<◌, ◌^◌, List, [], ◌∷◌, map, length}
use Rattle.mid_code.specs.declared.placed.Where.{Where}
use Rattle.mid_code.specs.declared.placed.Choice.{Choice}
use Rattle.mid_code.specs.Code.{FunctionT}
use Rattle.reg_frames.specs.inner.Placing.{frame_size}

-- the places of choices
abbrev pub places_of : List Choice → List (List Where)
places_of cs = map (λ c. c.at) cs

abbrev pub first_of : List (List Where) → List Where
first_of [] = []
first_of (ws ∷ wss) = ws

abbrev pub later : List (List Where) → List (List Where)
later [] = []
later (ws ∷ wss) = wss

pub record IsPlaceable (f : FunctionT ℕ) (ws : List Where) : Type 0 where
  pub few : length ws < 2 ^ 31
  pub params : length f.params < 2 ^ 31
  pub fits : frame_size ws f < 2 ^ 32

abbrev pub ArePlaceable : List (FunctionT ℕ) → List (List Where) → Type 0
ArePlaceable [] wss = Unit {0}
ArePlaceable (f ∷ fs) wss = IsPlaceable f (first_of wss) × ArePlaceable fs (later wss)
