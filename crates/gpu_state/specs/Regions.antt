-- The six values of each region of each texture (the system specification, section on texture regions). They are written and
-- read while that region of that texture is selected.
use Rattle.std.specs.Prelude.{ℕ, Bool, ◌==◌, ◌&&◌, ◌||◌, nat_lt, nat_le, List, [], ◌∷◌, if◌then◌else◌}
use Rattle.port_history.specs.Past.{Happening, Began, Asked, Told, Mixed}
use Rattle.gpu_state.specs.Settings.{selected_texture, selected_region}
use Rattle.gpu_state.specs.declared.region.Region.{Region}

-- a minimum or a maximum: 0 to 1,023
abbrev pub is_side : ℕ → Bool
is_side word = nat_le word 1023

-- a hotspot's: -1,024 to 2,047
abbrev pub is_hotspot : ℕ → Bool
is_hotspot word = nat_le word 2047 || nat_le 4294966272 word

-- whether this region of this texture is selected, of so many textures; without textures none is
abbrev pub is_selected : ℕ → ℕ → ℕ → List Happening → Bool
is_selected count t r past = nat_lt 0 count && (selected_texture count past == t) && (selected_region past == r)

-- the last word that the port accepted while region r of texture t was selected, 0 at first
abbrev pub region_word : ℕ → ℕ → (ℕ → Bool) → ℕ → ℕ → List Happening → ℕ
region_word count port accepts t r [] = 0
region_word count port accepts t r (Began ∷ past) = region_word count port accepts t r past
region_word count port accepts t r (Asked asked ∷ past) = region_word count port accepts t r past
region_word count port accepts t r (Told told word ∷ past) =
    if told == port && accepts word && is_selected count t r past then word else region_word count port accepts t r past
region_word count port accepts t r (Mixed ∷ past) = region_word count port accepts t r past

-- the region r of texture t
unfoldable pub region_at : ℕ → ℕ → ℕ → List Happening → Region
region_at count t r past = record {
  min_x = region_word count 0x20C is_side t r past;
  min_y = region_word count 0x20D is_side t r past;
  max_x = region_word count 0x20E is_side t r past;
  max_y = region_word count 0x20F is_side t r past;
  hotspot_x = region_word count 0x210 is_hotspot t r past;
  hotspot_y = region_word count 0x211 is_hotspot t r past;
}

-- the one that is selected
unfoldable pub region_now : ℕ → List Happening → Region
region_now count past = region_at count (selected_texture count past) (selected_region past) past
