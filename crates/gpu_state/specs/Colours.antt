-- The colour of a pixel of the screen after some commands.
use Rattle.std.specs.Prelude.{ℕ, ◌+◌, ◌*◌, ◌&&◌, nat_lt, List, [], ◌∷◌, if◌then◌else◌, slice_index}
use Rattle.asset_pack.specs.Texts.{Image}
use Rattle.pix_lanes.specs.Pixels.{drawn, opaque, red, green, blue}
use Rattle.gpu_state.specs.Places.{texture_place}
use Rattle.gpu_state.specs.Commands.{Drawing, Command, Clear, Draw, covers}

-- the colour of a point of a texture, 0 outside its sides
unfoldable pub texel : Image → ℕ → ℕ → ℕ
texel image u v = if nat_lt u image.width && nat_lt v image.height then slice_index image.pixels (v * image.width + u) else 0

-- what a drawing makes of a pixel that it covers
unfoldable pub painted : Drawing → ℕ → ℕ → ℕ → ℕ
painted d x y old = drawn d.mode d.multiply
    (texel d.image (texture_place d.x d.region.hotspot_x x) (texture_place d.y d.region.hotspot_y y)) old

-- a clear gives every pixel the clear colour with alpha 255
abbrev pub after_command : Command → ℕ → ℕ → ℕ → ℕ
after_command (Clear color) x y old = opaque (red color) (green color) (blue color)
after_command (Draw d) x y old = if covers d x y then painted d x y old else old

-- the colour of a pixel after commands, the latest first
abbrev pub colour : ℕ → ℕ → List Command → ℕ
colour x y [] = 0xFF000000
colour x y (command ∷ before) = after_command command x y (colour x y before)
