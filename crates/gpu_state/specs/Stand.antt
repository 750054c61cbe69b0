-- When graphics stand for a history: what links the calls to one another. Nothing of it need be believed, since what the
-- calls answer is said in full beside it.
use Rattle.std.specs.Prelude.{ℕ, ◌≡◌, ◌<◌, ◌+◌, ◌*◌, List, length, slice_get, slice_index, Some}
use Rattle.asset_pack.specs.Texts.{Image}
use Rattle.port_history.specs.Past.{Happening}
use Rattle.gpu_state.specs.Settings.{clear_color, multiply_color, active_blending, selected_texture, selected_region, drawing_point_x, drawing_point_y}
use Rattle.gpu_state.specs.Regions.{region_word, is_side, is_hotspot}
use Rattle.gpu_state.specs.Places.{place}
use Rattle.gpu_state.specs.Commands.{remaining, done}
use Rattle.gpu_state.specs.Colours.{colour}
use Rattle.gpu_state.specs.declared.settings.Settings.{Settings}
use Rattle.gpu_state.specs.declared.region.Region.{Region}

-- what graphics hold: 4,096 regions for each texture, one texture's after the other's
pub record Graphics : Type 0 where
  pub textures : List Image
  pub regions : List Region
  pub settings : Settings
  pub left : ℕ
  pub screen : List ℕ

-- settings, over so many textures
pub record SettingsStand (count : ℕ) (past : List Happening) (s : Settings) : Type 0 where
  pub clear_color_is : s.clear_color ≡ clear_color past
  pub multiply_color_is : s.multiply_color ≡ multiply_color past
  pub blending_is : s.blending ≡ active_blending past
  pub texture_is : s.texture ≡ selected_texture count past
  pub region_is : s.region ≡ selected_region past
  pub point_x_is : s.point_x ≡ drawing_point_x past
  pub point_y_is : s.point_y ≡ drawing_point_y past

-- region r of texture t, of so many textures
pub record RegionStands (count t r : ℕ) (past : List Happening) (a : Region) : Type 0 where
  pub min_x_is : a.min_x ≡ region_word count 0x20C is_side t r past
  pub min_y_is : a.min_y ≡ region_word count 0x20D is_side t r past
  pub max_x_is : a.max_x ≡ region_word count 0x20E is_side t r past
  pub max_y_is : a.max_y ≡ region_word count 0x20F is_side t r past
  pub hotspot_x_is : a.hotspot_x ≡ region_word count 0x210 is_hotspot t r past
  pub hotspot_y_is : a.hotspot_y ≡ region_word count 0x211 is_hotspot t r past

pub record GraphicsStand (textures : List Image) (past : List Happening) (g : Graphics) : Type 0 where
  pub textures_are : g.textures ≡ textures
  pub settings_are : SettingsStand (length textures) past g.settings
  pub regions_full : length g.regions ≡ length textures * 4096
  pub regions_are : (t r : ℕ) (a : Region) → r < 4096 → slice_get g.regions (t * 4096 + r) ≡ Some a →
      RegionStands (length textures) t r past a
  pub left_is : g.left ≡ remaining textures past
  pub screen_is : (x y : ℕ) → x < 640 → y < 360 → slice_index g.screen (place x y) ≡ colour x y (done textures past)
