-- What does not concern graphics leaves what they stand for: questions, mixes, and words told to other devices.
use Rattle.std.proofs.Common.{◌≡◌, ◌⊎◌, ℕ, ◌<◌, ◌≤◌, arith, false, List, ◌∷◌, length}
use Rattle.asset_pack.specs.Texts.{Image}
use Rattle.port_history.specs.Past.{Happening, Asked, Told, Mixed, is_graphics_port}
use Rattle.gpu_state.specs.Stand.{Graphics, SettingsStand, RegionStands, GraphicsStand}
use Rattle.gpu_state.specs.declared.settings.Settings.{Settings}
use Rattle.gpu_state.specs.declared.region.Region.{Region}
use Rattle.gpu_state.proofs.Standing.{settings_kept, region_kept}

settings_asked : (n port : ℕ) (past : List Happening) (s : Settings) → SettingsStand n past s → SettingsStand n (Asked port ∷ past) s
settings_asked n port past s h = record {
  clear_color_is = h.clear_color_is;
  multiply_color_is = h.multiply_color_is;
  blending_is = h.blending_is;
  texture_is = h.texture_is;
  region_is = h.region_is;
  point_x_is = h.point_x_is;
  point_y_is = h.point_y_is;
}

region_asked : (n t r port : ℕ) (past : List Happening) (a : Region) → RegionStands n t r past a → RegionStands n t r (Asked port ∷ past) a
region_asked n t r port past a h = record {
  min_x_is = h.min_x_is;
  min_y_is = h.min_y_is;
  max_x_is = h.max_x_is;
  max_y_is = h.max_y_is;
  hotspot_x_is = h.hotspot_x_is;
  hotspot_y_is = h.hotspot_y_is;
}

pub stands_asked : (textures : List Image) (past : List Happening) (g : Graphics) (port : ℕ) → GraphicsStand textures past g →
    GraphicsStand textures (Asked port ∷ past) g
stands_asked textures past g port h = record {
  textures_are = h.textures_are;
  settings_are = settings_asked (length textures) port past g.settings h.settings_are;
  regions_full = h.regions_full;
  regions_are = λ t r a k e. region_asked (length textures) t r port past a (h.regions_are t r a k e);
  left_is = h.left_is;
  screen_is = h.screen_is;
}

settings_mixed : (n : ℕ) (past : List Happening) (s : Settings) → SettingsStand n past s → SettingsStand n (Mixed ∷ past) s
settings_mixed n past s h = record {
  clear_color_is = h.clear_color_is;
  multiply_color_is = h.multiply_color_is;
  blending_is = h.blending_is;
  texture_is = h.texture_is;
  region_is = h.region_is;
  point_x_is = h.point_x_is;
  point_y_is = h.point_y_is;
}

region_mixed : (n t r : ℕ) (past : List Happening) (a : Region) → RegionStands n t r past a → RegionStands n t r (Mixed ∷ past) a
region_mixed n t r past a h = record {
  min_x_is = h.min_x_is;
  min_y_is = h.min_y_is;
  max_x_is = h.max_x_is;
  max_y_is = h.max_y_is;
  hotspot_x_is = h.hotspot_x_is;
  hotspot_y_is = h.hotspot_y_is;
}

pub stands_mixed : (textures : List Image) (past : List Happening) (g : Graphics) → GraphicsStand textures past g →
    GraphicsStand textures (Mixed ∷ past) g
stands_mixed textures past g h = record {
  textures_are = h.textures_are;
  settings_are = settings_mixed (length textures) past g.settings h.settings_are;
  regions_full = h.regions_full;
  regions_are = λ t r a k e. region_mixed (length textures) t r past a (h.regions_are t r a k e);
  left_is = h.left_is;
  screen_is = h.screen_is;
}

elsewhere : (port : ℕ) → is_graphics_port port ≡ false → (port < 512) ⊎ (767 < port)
elsewhere port h = grind arith

settings_elsewhere : (port : ℕ) → (port < 512) ⊎ (767 < port) → (port ≤ 512) ⊎ (524 ≤ port)
settings_elsewhere port h = grind arith

regions_elsewhere : (port : ℕ) → (port < 512) ⊎ (767 < port) → (port < 524) ⊎ (529 < port)
regions_elsewhere port h = grind arith

pub stands_told : (textures : List Image) (past : List Happening) (g : Graphics) (port word : ℕ) → is_graphics_port port ≡ false →
    GraphicsStand textures past g → GraphicsStand textures (Told port word ∷ past) g
stands_told textures past g port word other h =
    let away = elsewhere port other in
    record {
      textures_are = h.textures_are;
      settings_are = settings_kept (length textures) port word past g.settings (settings_elsewhere port away) h.settings_are;
      regions_full = h.regions_full;
      regions_are = λ t r a k e. region_kept (length textures) t r port word past a (regions_elsewhere port away) (h.regions_are t r a k e);
      left_is = grind (arith, h.left_is, away);
      screen_is = λ x y l m. grind (arith, h.screen_is x y l m, away);
    }
