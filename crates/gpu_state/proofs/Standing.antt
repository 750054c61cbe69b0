-- What an event leaves of what graphics stand for: a command, a setting, a region's word, and what does not concern them.
use Rattle.std.proofs.Common.{◌≡◌, ◌≢◌, ◌⊎◌, inl, inr, ℕ, ◌<◌, ◌≤◌, ◌+◌, ◌*◌, arith, refl, Bool, true, false, get_or, List, [], ◌∷◌, length, Option, Some, None, sym, ◌∙◌}
use Rattle.std.specs.Prelude.{if◌then◌else◌, nat_le, slice_get}
use Rattle.std.proofs.lemmas.Bool.{cases_eq}
use Rattle.std.proofs.lemmas.Option.{slice_get_within, slice_get-get_or}
use Rattle.asset_pack.specs.Texts.{Image}
use Rattle.port_history.specs.Past.{Happening, Began, Asked, Told, Mixed}
use Rattle.gpu_state.specs.Settings.{selected_texture, selected_region}
use Rattle.gpu_state.specs.Regions.{region_at, region_now, region_word}
use Rattle.gpu_state.specs.Commands.{Command, cost, drawing_of, asked, with_command}
use Rattle.gpu_state.specs.Colours.{colour, after_command}
use Rattle.gpu_state.specs.Stand.{Graphics, SettingsStand, RegionStands, GraphicsStand}
use Rattle.gpu_state.specs.Changes.{Does, drawing_with, drawing_now, asked_now, after_asked, place_of_selected, zero_region}
use Rattle.gpu_state.specs.declared.settings.Settings.{Settings}
use Rattle.gpu_state.specs.declared.region.Region.{Region}

made : ℕ → ℕ → ℕ → ℕ → ℕ → ℕ → Region
made a b c d e f = record { min_x = a; min_y = b; max_x = c; max_y = d; hotspot_x = e; hotspot_y = f }

pub region_same : (n t r : ℕ) (past : List Happening) (a : Region) → RegionStands n t r past a → a ≡ region_at n t r past
unfolding made region_at
region_same n t r past a h =
    let e : made a.min_x a.min_y a.max_x a.max_y a.hotspot_x a.hotspot_y ≡ region_at n t r past =
    rw (h.min_x_is, h.min_y_is, h.max_x_is, h.max_y_is, h.hotspot_x_is, h.hotspot_y_is) refl in
    e

pub drawing_same : (p : Option Image) (a : Option Region) (s : Settings) (n : ℕ) (past : List Happening) → SettingsStand n past s →
    ((q : Image) → p ≡ Some q → (b : Region) × (a ≡ Some b) × RegionStands n (selected_texture n past) (selected_region past) past b) →
    drawing_now p a s ≡ drawing_of p n past
unfolding drawing_of drawing_with region_now
drawing_same None a s n past st h = refl
drawing_same (Some p) None s n past st h = absurd (let e = h p refl in let f = e.1 in cc)
drawing_same (Some p) (Some a) s n past st h =
    let (b, e, stands) = h p refl in
    let f : a ≡ region_at n (selected_texture n past) (selected_region past) past =
    (let g : a ≡ b = cc in g) ∙ region_same n _ _ past b stands in
    rw (f, st.point_x_is, st.point_y_is, st.multiply_color_is, st.blending_is) refl

colour_with : (a : Option Command) (left x y : ℕ) (before : List Command) → colour x y (with_command a left before) ≡ after_asked a left x y (colour x y before)
colour_with None left x y before = refl
colour_with (Some r) left x y before =
    elim (nat_le (cost r) left) as (λ b. colour x y (if b then r ∷ before else before) ≡ (if b then after_command r x y (colour x y before) else colour x y before)) [
      | true ↦ refl
      | false ↦ refl
    ]

pub region_in_range : (past : List Happening) → selected_region past < 4096
region_in_range [] = omega arith
region_in_range (Began ∷ past) = region_in_range past
region_in_range (Asked asked ∷ past) = region_in_range past
region_in_range (Told told word ∷ past) = grind (arith, region_in_range past)
region_in_range (Mixed ∷ past) = region_in_range past

pub texture_in_range : (n : ℕ) (past : List Happening) → 0 < n → selected_texture n past < n
texture_in_range n [] h = h
texture_in_range n (Began ∷ past) h = texture_in_range n past h
texture_in_range n (Asked asked ∷ past) h = texture_in_range n past h
texture_in_range n (Told told word ∷ past) h = grind (arith, texture_in_range n past h)
texture_in_range n (Mixed ∷ past) h = texture_in_range n past h

-- before anything was written
pub zero_stands : (n t r : ℕ) (a : Region) → a ≡ zero_region → RegionStands n t r [] a
unfolding zero_region
zero_stands n t r a e = rw e (record { min_x_is = refl; min_y_is = refl; max_x_is = refl; max_y_is = refl; hotspot_x_is = refl; hotspot_y_is = refl })

-- without textures no region was written
pub no_region_word : (port : ℕ) (accepts : ℕ → Bool) (t r : ℕ) (past : List Happening) → region_word 0 port accepts t r past ≡ 0
no_region_word port accepts t r [] = refl
no_region_word port accepts t r (Began ∷ past) = no_region_word port accepts t r past
no_region_word port accepts t r (Asked asked ∷ past) = no_region_word port accepts t r past
no_region_word port accepts t r (Told told word ∷ past) = grind (arith, no_region_word port accepts t r past)
no_region_word port accepts t r (Mixed ∷ past) = no_region_word port accepts t r past

-- the region that is selected, in the list of regions
pub selected_stands : (textures : List Image) (past : List Happening) (g : Graphics) → GraphicsStand textures past g → 0 < length textures →
    (b : Region) × (slice_get g.regions (place_of_selected g.settings) ≡ Some b)
    × RegionStands (length textures) (selected_texture (length textures) past) (selected_region past) past b
selected_stands textures past g h some =
    let n : ℕ = length textures in
    let s = h.settings_are in
    let at : selected_texture n past < n = texture_in_range n past some in
    let r : selected_region past < 4096 = region_in_range past in
    let full : length g.regions ≡ n * 4096 = h.regions_full in
    let within : selected_texture n past * 4096 + selected_region past < length g.regions = omega arith in
    let f = slice_get-get_or g.regions (selected_texture n past * 4096 + selected_region past) zero_region within in (
      get_or g.regions (selected_texture n past * 4096 + selected_region past) zero_region,
      rw (s.texture_is, s.region_is) f,
      h.regions_are (selected_texture n past) (selected_region past) _ r f,
    )

asked_same : (textures : List Image) (past : List Happening) (g : Graphics) (word : ℕ) → GraphicsStand textures past g → asked_now g word ≡ asked textures word past
unfolding asked
asked_same textures past g word h =
    let n : ℕ = length textures in
    let s = h.settings_are in
    let p : slice_get g.textures g.settings.texture ≡ slice_get textures (selected_texture n past) = rw (h.textures_are, s.texture_is) refl in
    let d : drawing_now (slice_get g.textures g.settings.texture) (slice_get g.regions (place_of_selected g.settings)) g.settings
    ≡ drawing_of (slice_get g.textures g.settings.texture) n past =
    drawing_same _ _ g.settings n past s (λ q e.
    let at : selected_texture n past < n = slice_get_within textures (selected_texture n past) q (sym p ∙ e) in
    selected_stands textures past g h (omega arith)) in
    rw (d, p, s.clear_color_is) refl

-- a port that is no region's leaves a region as it is
pub region_kept : (n t r port word : ℕ) (past : List Happening) (a : Region) → (port < 524) ⊎ (529 < port) → RegionStands n t r past a →
    RegionStands n t r (Told port word ∷ past) a
region_kept n t r port word past a p h = record {
  min_x_is = grind (arith, h.min_x_is);
  min_y_is = grind (arith, h.min_y_is);
  max_x_is = grind (arith, h.max_x_is);
  max_y_is = grind (arith, h.max_y_is);
  hotspot_x_is = grind (arith, h.hotspot_x_is);
  hotspot_y_is = grind (arith, h.hotspot_y_is);
}

-- nor does a word change a region that is not selected
region_apart : (n t r port word : ℕ) (past : List Happening) (a : Region) → (selected_texture n past ≢ t) ⊎ (selected_region past ≢ r) → RegionStands n t r past a →
    RegionStands n t r (Told port word ∷ past) a
region_apart n t r port word past a p h = record {
  min_x_is = grind (arith, h.min_x_is);
  min_y_is = grind (arith, h.min_y_is);
  max_x_is = grind (arith, h.max_x_is);
  max_y_is = grind (arith, h.max_y_is);
  hotspot_x_is = grind (arith, h.hotspot_x_is);
  hotspot_y_is = grind (arith, h.hotspot_y_is);
}

pub settings_kept : (n port word : ℕ) (past : List Happening) (s : Settings) → (port ≤ 512) ⊎ (524 ≤ port) → SettingsStand n past s → SettingsStand n (Told port word ∷ past) s
settings_kept n port word past s p h = record {
  clear_color_is = grind (arith, h.clear_color_is);
  multiply_color_is = grind (arith, h.multiply_color_is);
  blending_is = grind (arith, h.blending_is);
  texture_is = grind (arith, h.texture_is);
  region_is = grind (arith, h.region_is);
  point_x_is = grind (arith, h.point_x_is);
  point_y_is = grind (arith, h.point_y_is);
}

pub stands_command : (textures : List Image) (past : List Happening) (g g' : Graphics) (word : ℕ) → GraphicsStand textures past g →
    Does (asked_now g word) g.left g.screen g'.left g'.screen → g' ≡ record g { left = g'.left; screen = g'.screen } →
    GraphicsStand textures (Told 512 word ∷ past) g'
stands_command textures past g g' word h does kept =
    let same = asked_same textures past g word h in
    record {
      textures_are = rw kept h.textures_are;
      settings_are = rw kept (settings_kept (length textures) 512 word past g.settings (inl (omega arith)) h.settings_are);
      regions_full = rw kept h.regions_full;
      regions_are = λ t r a k e. region_kept (length textures) t r 512 word past a (inl (omega arith)) (h.regions_are t r a k (rw kept at e));
      left_is = rw (does.left_is, same, h.left_is) refl;
      screen_is = λ x y k l. rw (does.screen_is x y k l, same, h.left_is, h.screen_is x y k l, colour_with) refl;
    }

pub stands_setting : (textures : List Image) (past : List Happening) (g : Graphics) (s : Settings) (port word : ℕ) → port ≢ 512 → (port < 524) ⊎ (529 < port) →
    GraphicsStand textures past g → SettingsStand (length textures) (Told port word ∷ past) s →
    GraphicsStand textures (Told port word ∷ past) (record g { settings = s })
stands_setting textures past g s port word other p h k = record {
  textures_are = h.textures_are;
  settings_are = k;
  regions_full = h.regions_full;
  regions_are = λ t r a l e. region_kept (length textures) t r port word past a p (h.regions_are t r a l e);
  left_is = grind (arith, h.left_is);
  screen_is = λ x y l m. grind (arith, h.screen_is x y l m);
}

pub stands_region : (textures : List Image) (past : List Happening) (g : Graphics) (rs : List Region) (port word : ℕ) → 524 ≤ port →
    GraphicsStand textures past g → length rs ≡ length g.regions →
    ((k : ℕ) → k ≢ place_of_selected g.settings → slice_get rs k ≡ slice_get g.regions k) →
    ((a : Region) → 0 < length textures → slice_get rs (place_of_selected g.settings) ≡ Some a →
    RegionStands (length textures) (selected_texture (length textures) past) (selected_region past) (Told port word ∷ past) a) →
    GraphicsStand textures (Told port word ∷ past) (record g { regions = rs })
stands_region textures past g rs port word p h full others this = record {
  textures_are = h.textures_are;
  settings_are = settings_kept (length textures) port word past g.settings (inr p) h.settings_are;
  regions_full = full ∙ h.regions_full;
  regions_are = λ t r a l e.
      let n : ℕ = length textures in
      let in_range : selected_region past < 4096 = region_in_range past in
      let tx : g.settings.texture ≡ selected_texture n past = h.settings_are.texture_is in
      let rg : g.settings.region ≡ selected_region past = h.settings_are.region_is in
      let size : length g.regions ≡ n * 4096 = h.regions_full in
      let within : t * 4096 + r < length rs = slice_get_within rs (t * 4096 + r) a e in
      elim (cases_eq (t * 4096 + r) (selected_texture n past * 4096 + selected_region past)) [
        | inl same ↦
            let t_is : selected_texture n past ≡ t = omega arith in
            let r_is : selected_region past ≡ r = omega arith in
            let at : t * 4096 + r ≡ g.settings.texture * 4096 + g.settings.region = omega arith in
            rw (← t_is, ← r_is) (this a (omega arith) (rw at at e))
        | inr differs ↦
            let at : t * 4096 + r ≢ g.settings.texture * 4096 + g.settings.region = λ q. differs (omega arith) in
            let apart : (selected_texture n past ≢ t) ⊎ (selected_region past ≢ r) = grind arith in
            region_apart n t r port word past a apart (h.regions_are t r a l (sym (others (t * 4096 + r) at) ∙ e))
      ];
  left_is = grind (arith, h.left_is);
  screen_is = λ x y l m. grind (arith, h.screen_is x y l m);
}
