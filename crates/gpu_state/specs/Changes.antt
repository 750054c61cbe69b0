-- What a command changes and what a port answers, by what graphics hold. These say what private functions do.
use Rattle.std.specs.Prelude.{ℕ, ◌≡◌, ◌≤◌, ◌<◌, ◌==◌, ◌+◌, ◌*◌, List, slice_get, slice_index, Option, Some, None, if◌then◌else◌, nat_le}
use Rattle.asset_pack.specs.Texts.{Image}
use Rattle.gpu_state.specs.Places.{place}
use Rattle.gpu_state.specs.Commands.{Command, Clear, Draw, Drawing, mode_of, cost, remaining_after}
use Rattle.gpu_state.specs.Colours.{after_command}
use Rattle.gpu_state.specs.Stand.{Graphics}
use Rattle.gpu_state.specs.declared.settings.Settings.{Settings}
use Rattle.gpu_state.specs.declared.region.Region.{Region}

-- a pixel's word with alpha 255
abbrev pub IsOpaque : ℕ → Type 0
IsOpaque word = (4278190080 ≤ word) × (word < 4294967296)

-- the drawing of a region of a texture
unfoldable pub drawing_with : Image → Region → Settings → Drawing
drawing_with image region s = record {
  image = image;
  region = region;
  x = s.point_x;
  y = s.point_y;
  multiply = s.multiply_color;
  mode = mode_of s.blending;
}

abbrev pub drawing_now : Option Image → Option Region → Settings → Option Command
drawing_now None region s = None
drawing_now (Some image) None s = None
drawing_now (Some image) (Some region) s = Some (Draw (drawing_with image region s))

-- the place of the selected region in the list of regions
abbrev pub place_of_selected : Settings → ℕ
place_of_selected s = s.texture * 4096 + s.region

-- what a command's word asks for
abbrev pub asked_now : Graphics → ℕ → Option Command
asked_now g word =
    if word == 0x10 then Some (Clear g.settings.clear_color)
    else (if word == 0x11 then drawing_now (slice_get g.textures g.settings.texture)
    (slice_get g.regions (place_of_selected g.settings)) g.settings
    else None)

-- what a command that was asked for makes of a pixel
abbrev pub after_asked : Option Command → ℕ → ℕ → ℕ → ℕ → ℕ
after_asked None left x y old = old
after_asked (Some command) left x y old = if nat_le (cost command) left then after_command command x y old else old

-- the pixels left and the screen, before and after a command
pub record Does (asked : Option Command) (left : ℕ) (screen : List ℕ) (left' : ℕ) (screen' : List ℕ) : Type 0 where
  pub left_is : left' ≡ remaining_after asked left
  pub screen_is : (x y : ℕ) → x < 640 → y < 360 →
      slice_index screen' (place x y) ≡ after_asked asked left x y (slice_index screen (place x y))

-- a region whose values are all 0
unfoldable pub zero_region : Region
zero_region = record { min_x = 0; min_y = 0; max_x = 0; max_y = 0; hotspot_x = 0; hotspot_y = 0 }

-- the answer of a port
unfoldable pub answer_with : ℕ → Settings → Region → ℕ → ℕ
answer_with left s region port =
    if port == 0x201 then left
    else (if port == 0x202 then s.clear_color
    else (if port == 0x203 then s.multiply_color
    else (if port == 0x204 then s.blending
    else (if port == 0x205 then s.texture
    else (if port == 0x206 then s.region
    else (if port == 0x207 then s.point_x
    else (if port == 0x208 then s.point_y
    else (if port == 0x20C then region.min_x
    else (if port == 0x20D then region.min_y
    else (if port == 0x20E then region.max_x
    else (if port == 0x20F then region.max_y
    else (if port == 0x210 then region.hotspot_x
    else (if port == 0x211 then region.hotspot_y
    else 0)))))))))))))
