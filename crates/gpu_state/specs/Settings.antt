-- The settings of graphics, by what was written so far (the system specification, section on the graphics chip).
use Rattle.std.specs.Prelude.{ℕ, Bool, ◌&&◌, nat_lt, nat_le, List}
use Rattle.port_history.specs.Past.{Happening, last_accepted, any_word}

-- alpha, add and subtract
abbrev pub is_blending : ℕ → Bool
is_blending word = nat_le 0x20 word && nat_le word 0x22

abbrev pub is_region : ℕ → Bool
is_region word = nat_lt word 4096

abbrev pub clear_color : List Happening → ℕ
clear_color = last_accepted 0x202 any_word 0xFF000000

abbrev pub multiply_color : List Happening → ℕ
multiply_color = last_accepted 0x203 any_word 0xFFFFFFFF

abbrev pub active_blending : List Happening → ℕ
active_blending = last_accepted 0x204 is_blending 0x20

-- of so many textures
abbrev pub selected_texture : ℕ → List Happening → ℕ
selected_texture count = last_accepted 0x205 (λ word. nat_lt word count) 0

abbrev pub selected_region : List Happening → ℕ
selected_region = last_accepted 0x206 is_region 0

abbrev pub drawing_point_x : List Happening → ℕ
drawing_point_x = last_accepted 0x207 any_word 0

abbrev pub drawing_point_y : List Happening → ℕ
drawing_point_y = last_accepted 0x208 any_word 0
