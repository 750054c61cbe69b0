-- The commands that were done, each with its settings, and the pixels that are left of a frame's (the system specification,
-- section on the graphics chip's commands).
use Rattle.std.specs.Prelude.{ℕ, Bool, ◌==◌, ◌&&◌, ◌-◌, ◌*◌, nat_le, List, [], ◌∷◌, if◌then◌else◌, Option, Some, None, slice_get, length}
use Rattle.asset_pack.specs.Texts.{Image}
use Rattle.pix_lanes.specs.declared.blend.Blend.{Blend}
use Rattle.pix_lanes.specs.declared.blend.Blend.TheVariants.{Alpha, Add, Subtract}
use Rattle.port_history.specs.Past.{Happening, Began, Asked, Told, Mixed}
use Rattle.gpu_state.specs.Settings.{clear_color, multiply_color, active_blending, selected_texture, drawing_point_x, drawing_point_y}
use Rattle.gpu_state.specs.Regions.{region_now}
use Rattle.gpu_state.specs.Places.{is_reached, count_below}
use Rattle.gpu_state.specs.declared.region.Region.{Region}

-- a drawing, with its settings
pub record Drawing : Type 0 where
  pub image : Image
  pub region : Region
  pub x : ℕ
  pub y : ℕ
  pub multiply : ℕ
  pub mode : Blend

-- a command with its settings
pub data Command : Type 0 where
  Clear : ℕ → Command
  Draw : Drawing → Command

abbrev pub mode_of : ℕ → Blend
mode_of word = if word == 0x20 then Alpha else (if word == 0x21 then Add else Subtract)

-- the columns and the rows of the screen that a drawing reaches
abbrev pub is_column : Drawing → ℕ → Bool
is_column d x = is_reached d.x d.region.hotspot_x d.region.min_x d.region.max_x x

abbrev pub is_row : Drawing → ℕ → Bool
is_row d y = is_reached d.y d.region.hotspot_y d.region.min_y d.region.max_y y

unfoldable pub covers : Drawing → ℕ → ℕ → Bool
covers d x y = is_column d x && is_row d y

-- its points on the screen
unfoldable pub points_of : Drawing → ℕ
points_of d = count_below 640 (is_column d) * count_below 360 (is_row d)

-- what a command costs, in pixels
abbrev pub cost : Command → ℕ
cost (Clear color) = 230400
cost (Draw d) = points_of d

-- the drawing that the settings make; none without textures
unfoldable pub drawing_of : Option Image → ℕ → List Happening → Option Command
drawing_of None count past = None
drawing_of (Some image) count past = Some (Draw (record {
  image = image;
  region = region_now count past;
  x = drawing_point_x past;
  y = drawing_point_y past;
  multiply = multiply_color past;
  mode = mode_of (active_blending past);
}))

-- what a command's word asks for: 0x10 clears, 0x11 draws
unfoldable pub asked : List Image → ℕ → List Happening → Option Command
asked textures word past =
    if word == 0x10 then Some (Clear (clear_color past))
    else (if word == 0x11 then drawing_of (slice_get textures (selected_texture (length textures) past)) (length textures) past
    else None)

-- what is left of so many pixels: a command that costs more than is left is not done, and costs nothing
abbrev pub remaining_after : Option Command → ℕ → ℕ
remaining_after None left = left
remaining_after (Some command) left = if nat_le (cost command) left then left - cost command else left

-- the pixels that are left in this frame
abbrev pub remaining : List Image → List Happening → ℕ
remaining textures [] = 2073600
remaining textures (Began ∷ past) = 2073600
remaining textures (Asked asked ∷ past) = remaining textures past
remaining textures (Told told word ∷ past) =
    if told == 0x200 then remaining_after (asked textures word past) (remaining textures past) else remaining textures past
remaining textures (Mixed ∷ past) = remaining textures past

-- a command put before those done, if it is done
abbrev pub with_command : Option Command → ℕ → List Command → List Command
with_command None left done = done
with_command (Some command) left done = if nat_le (cost command) left then command ∷ done else done

-- the commands done so far, the latest first
abbrev pub done : List Image → List Happening → List Command
done textures [] = []
done textures (Began ∷ past) = done textures past
done textures (Asked asked ∷ past) = done textures past
done textures (Told told word ∷ past) =
    if told == 0x200 then with_command (asked textures word past) (remaining textures past) (done textures past) else done textures past
done textures (Mixed ∷ past) = done textures past
